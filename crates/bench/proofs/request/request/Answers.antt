-- `request` keeps silent as rows 35 and 36 say, and leaves 37 to the reply.
-- Assumes nothing.
use Rattle.bench.proofs.Answering.{silenced, for_another, no_request_lem, requested, reply_ready}
use Rattle.bench.proofs.request.request.Goals as goal

pub returns-then-t-bench : goal.returns-then-t-bench
returns-then-t-bench c = silenced _ _ _ _ _ _ _ (for_another _ _ _ _ c.if-t-bench.true) c.silent.ensures

pub returns-then-is_answer : goal.returns-then-is_answer
returns-then-is_answer c =
    silenced _ _ _ _ _ _ _
    (no_request_lem _ _ _ _ _ c.if-t-bench.false c.is_answer.ensures c.if-is_answer.true)
    c.silent-then-is_answer.ensures

pub reply-requires : goal.reply-requires
reply-requires c = reply_ready _ _ _ _ c.requires.0 c.requires.1 c.if-t-bench.false c.deed.ensures

pub returns : goal.returns
returns c =
    requested _ _ _ c.args.room.now _ _ _ _ c.if-t-bench.false c.is_answer.ensures c.if-is_answer.false
    c.deed.ensures c.reply.ensures
