-- What a request does, at the register's place.
-- Assumes nothing.
use Rattle.std.specs.Prelude.{Some, None}
use mathlib.Core.Path.{◌≡◌, refl}
use mathlib.Core.List.{List}
use mathlib.Core.Logic.{inl}
use Prim.Native.Nat.{ℕ}
use Rattle.deeds.specs.Deeds.{nack, held_deed, Small, Reply}
use Rattle.deeds.proofs.Laws.{either, nacked, held_small, held_reply}
use Rattle.deeds.specs.declared.Register.{Register}
use Rattle.deeds.specs.declared.Deed.{Deed}
use Rattle.telegram.specs.declared.Fields.{Fields}
use Rattle.bench.specs.Register.{register_at, named, is_held, found, with_value, Looks}
use Rattle.bench.specs.Take.{deed_of, done_to}
use Rattle.bench.proofs.Places.{found_held, found_not}
use Rattle.bench.specs.declared.Bench.{Bench}

-- every reply carries at most 8 bytes, and its type is 0, 3 or 8
pub deed_small : (bench : Bench) (t : Fields) (bytes : List ℕ) → Small (deed_of bench t bytes)
unfolding deed_of
deed_small bench t bytes = either Small (is_held bench t.register) _ _ (held_small (named bench t.register) t.sort bytes) (nacked 0)

pub deed_reply : (bench : Bench) (t : Fields) (bytes : List ℕ) → Reply (deed_of bench t bytes)
unfolding deed_of
deed_reply bench t bytes = either Reply (is_held bench t.register) _ _ (held_reply (named bench t.register) t.sort bytes) (inl refl)

-- ---- where the search found the register, and where it did not

module _ (bench : Bench) (number place : ℕ) (at : found bench number ≡ Some place) where
  pub seen_held : (register : Register) → register ≡ register_at bench place → Looks bench number (Some register)
  seen_held register e = let h = found_held bench number place at in rw (h.held, e, h.where_it_is)

  pub done_at : (deed : Deed) (after : Bench) → after ≡ with_value bench place deed.value → after ≡ done_to bench number deed
  unfolding done_to
  done_at deed after e = let h = found_held bench number place at in rw (h.held, e, h.where_it_is)

module _ (bench : Bench) (number : ℕ) (nowhere : found bench number ≡ None) where
  pub seen_not : Looks bench number None
  seen_not = rw (found_not bench number nowhere)

  pub done_not : (deed : Deed) → bench ≡ done_to bench number deed
  unfolding done_to
  done_not deed = rw (found_not bench number nowhere)

module _ (bench : Bench) (t : Fields) (bytes : List ℕ) (deed : Deed) where
  pub deed_held : (place : ℕ) (register : Register) → found bench t.register ≡ Some place → register ≡ register_at bench place
      → deed ≡ held_deed register t.sort bytes → deed ≡ deed_of bench t bytes
  unfolding deed_of
  deed_held place register at r e =
      let h = found_held bench t.register place at in
      rw h.held (rw (r, h.where_it_is) at e)

  pub deed_unknown : found bench t.register ≡ None → deed ≡ nack 0 → deed ≡ deed_of bench t bytes
  unfolding deed_of
  deed_unknown nowhere e = rw (found_not bench t.register nowhere) e
