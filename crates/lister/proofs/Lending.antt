-- A step with the tally lent to it: where the tally is full it is cleared and lent again, and the step is the receiver's own in either case.
-- Assumes nothing.
use Rattle.std.specs.Prelude.{Ok, Err, Some, None}
use Rattle.std.proofs.Common.{◌≡◌, ℕ, Bool, true, false, List, sym, refl, ap, ◌∙◌, true≢false, le-ltb}
use mathlib.Core.Option.{none}
use Rattle.lines.specs.declared.Event.{Event}
use Rattle.lines.specs.declared.Event.TheVariants as event
use Rattle.receiver.proofs.Chunks.{step_fits}
use Rattle.receiver.specs.Chunks.{line_in}
use Rattle.receiver.specs.Parts.{Fits}
use Rattle.receiver.specs.Receiver.{largest, is_past, step_from, step_of}
use Rattle.receiver.specs.Answers.{Answer as Ended}
use Rattle.receiver.specs.declared.Receiver.{Receiver}
use Rattle.receiver.specs.declared.Stepped.{Stepped as Ran}
use Rattle.tally.proofs.Ahead.{never_refused}
use Rattle.tally.proofs.Returns.{refusal_is}
use Rattle.tally.specs.Tally.{clear_tally, is_full, full_at, told, stepped_by, step_refusal, tally_by, with_end, Counts}
use Rattle.tally.specs.declared.Counted.{Counted}
use Rattle.tally.specs.declared.Stepped.{Stepped}
use Rattle.tally.specs.declared.Tally.{Tally}
use Rattle.lister.specs.Parts.{is_refused, ran_answer, ran_on, Lends}
use Rattle.lister.specs.Text.{tally_on, counted_with, counted}
use Rattle.lister.specs.declared.Lent.{Lent}
use Rattle.lister.specs.declared.Listing.{Listing}

-- a cleared tally has room for any line
room_cleared : (e : Event) → is_full e clear_tally ≡ false
room_cleared (event.Read t) = refl
room_cleared (event.Refused f) = refl
room_cleared event.Dropped = refl
room_cleared event.Open = refl

not_full_cleared : (a : Ended) → full_at a clear_tally ≡ false
not_full_cleared (Ok (Some line)) = room_cleared line.event
not_full_cleared (Ok None) = refl
not_full_cleared (Err f) = refl

module _ (r : Receiver) (chunk : List ℕ) (fits : Fits r.place chunk) where
  within : is_past r.place chunk ≡ false
  within = le-ltb largest _ fits

  ends : Ended
  ends = (step_from r chunk).answer

  -- what was told of a step that was done is the receiver's own answer
  own : (a : Ended) → (step_from r chunk).answer ≡ a → ran_answer (told a) ≡ a
  own (Ok (Some line)) e = refl
  own (Ok None) e = refl
  own (Err f) e = absurd (never_refused r chunk f e)

  -- with a tally that has room for the step's line
  done : (t : Tally) (c : Counted) → Counts t r chunk c → full_at (step_from r chunk).answer t ≡ false
      → ((ran_on c).stepped ≡ step_of r chunk) × (c.tally ≡ with_end (step_from r chunk).answer t)
  unfolding stepped_by tally_by
  done t c counts room =
      let free : step_refusal t r chunk ≡ none = refusal_is t r chunk false false room within in
      let s : c.stepped ≡ stepped_by none r chunk = counts.0 ∙ ap (λ (o : _). stepped_by o r chunk) free in
      let taken : Ran = step_from r chunk in (
        ap (λ (s : Stepped). record { receiver = s.receiver; taken = s.taken; answer = ran_answer s.answer }) s
            ∙ ap (λ (a : Ended). record { receiver = taken.receiver; taken = taken.taken; answer = a }) (own (step_from r chunk).answer refl)
            ∙ sym (step_fits r chunk fits),
        counts.1 ∙ ap (λ (o : _). tally_by o t r chunk) free,
      )

  -- what is behind the line, by whether the tally was full
  behind_room : (a : Ended) (t : Tally) → full_at a t ≡ false → with_end a t ≡ tally_on t (line_in a)
  behind_room (Ok (Some line)) t e = rw e
  behind_room (Ok None) t e = refl
  behind_room (Err f) t e = refl

  behind_full : (a : Ended) (t : Tally) → full_at a t ≡ true → with_end a clear_tally ≡ tally_on t (line_in a)
  behind_full (Ok (Some line)) t e = rw e
  behind_full (Ok None) t e = absurd (true≢false (sym e))
  behind_full (Err f) t e = absurd (true≢false (sym e))

  line_of : line_in (step_from r chunk).answer ≡ line_in (step_of r chunk).answer
  line_of = ap (λ (s : Ran). line_in s.answer) (sym (step_fits r chunk fits))

  -- the first step was refused exactly where the tally is full
  refused_by_lem : (t : Tally) (c : Counted) → Counts t r chunk c → is_refused c.stepped.answer ≡ full_at (step_from r chunk).answer t
  unfolding stepped_by
  refused_by_lem t c counts = go (full_at (step_from r chunk).answer t) refl
    where
      never : (a : Ended) → (step_from r chunk).answer ≡ a → is_refused (told a) ≡ false
      never (Ok (Some line)) e = refl
      never (Ok None) e = refl
      never (Err f) e = absurd (never_refused r chunk f e)

      go : (full : Bool) → full_at (step_from r chunk).answer t ≡ full → is_refused c.stepped.answer ≡ full
      go true e =
          ap (λ (s : Stepped). is_refused s.answer) (counts.0 ∙ ap (λ (o : _). stepped_by o r chunk) (refusal_is t r chunk true false e within))
      go false e =
          ap (λ (s : Stepped). is_refused s.answer) (counts.0 ∙ ap (λ (o : _). stepped_by o r chunk) (refusal_is t r chunk false false e within))
          ∙ never (step_from r chunk).answer refl

  pub lends_first : (t : Tally) (c : Counted) (refused : Bool) → Counts t r chunk c → refused ≡ is_refused c.stepped.answer → refused ≡ false
      → Lends t r chunk (ran_on c)
  lends_first t c refused counts is free =
      let room : full_at (step_from r chunk).answer t ≡ false = sym (refused_by_lem t c counts) ∙ sym is ∙ free in
      let d = done t c counts room in
      (d.0, d.1 ∙ behind_room (step_from r chunk).answer t room ∙ ap (tally_on t) line_of)

  pub lends_again : (t : Tally) (c again : Counted) (refused : Bool) → Counts t r chunk c → refused ≡ is_refused c.stepped.answer → refused ≡ true
      → Counts clear_tally r chunk again → Lends t r chunk (ran_on again)
  lends_again t c again refused counts is over anew =
      let full : full_at (step_from r chunk).answer t ≡ true = sym (refused_by_lem t c counts) ∙ sym is ∙ over in
      let d = done clear_tally again anew (not_full_cleared (step_from r chunk).answer) in
      (d.0, d.1 ∙ behind_full (step_from r chunk).answer t full ∙ ap (tally_on t) line_of)

-- the listing behind such a step, its tally among it
pub counted_lent : (l : Listing) (lent : Lent) (chunk : List ℕ) → Lends l.tally l.receiver chunk lent
    → counted_with l (line_in lent.stepped.answer) lent.stepped.receiver lent.tally ≡ counted l (line_in lent.stepped.answer) lent.stepped.receiver
counted_lent l lent chunk lends =
    ap (counted_with l (line_in lent.stepped.answer) lent.stepped.receiver)
    (lends.1 ∙ ap (λ (s : Ran). tally_on l.tally (line_in s.answer)) (sym lends.0))
