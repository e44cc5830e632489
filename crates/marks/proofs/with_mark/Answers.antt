use borrow.Author.Tests.{lt-ltb, le-ltb}
use Rattle.marks.specs.Marks.{with_mark}
use Rattle.marks.proofs.with_mark.Goals as goal

pub returns-then-place-lt64 : goal.returns-then-place-lt64
unfolding with_mark
returns-then-place-lt64 c = rw (← c.word_of.ensures, ← c.changed-word.ensures) (simp (lt-ltb _ _ c.if-place-lt64.true))

pub returns-then-place-lt128 : goal.returns-then-place-lt128
unfolding with_mark
returns-then-place-lt128 c = rw (← c.word_of.ensures, ← c.changed-word.ensures) (simp (le-ltb _ _ c.if-place-lt64.false, lt-ltb _ _ c.if-place-lt128.true))

pub returns : goal.returns
unfolding with_mark
returns c = rw (← c.word_of.ensures, ← c.changed-word.ensures) (simp (le-ltb _ _ c.if-place-lt64.false, le-ltb _ _ c.if-place-lt128.false))
