-- What a telegram wrote stands in the register: bit by bit, and for the next reader.
-- Assumes nothing.
use Rattle.deeds.specs.Deeds.{HasRight, MayRead, MayWrite}
use Rattle.deeds.proofs.Deeds.{size_most}
use Rattle.rows.proofs.Laws.{told_true}
use mathlib.Core.Path.{◌≡◌, sym, ap, ◌∙◌}
use mathlib.Core.List.{List}
use Prim.Native.Nat.{ℕ, ◌-◌, ◌^◌, ◌<◌}
use native.Mathlib.Omega.{arith}
use native.Mathlib.Nat.{lt_of_lt_of_le}
use lib.ListN.{length}
use lib.Pow.{pow_mono}
use Rattle.frame.specs.Frame.{AllBytes}
use Rattle.values.proofs.Bytes.{natural_lt, bytes_of_natural}
use Rattle.values.proofs.Laws.{set-one, set_zero, clear_one, clear_zero, toggle_one, toggle_zero}
use Rattle.values.specs.Values.{size_of, natural, bytes_of, set_bits, clear_bits, toggle_bits, bit_at}
use Rattle.telegram.specs.declared.Fields.{Fields}
use Rattle.bench.specs.Register.{Held, register_at, place_of, named, with_value}
use Rattle.bench.specs.Sound.{Sound}
use Rattle.bench.proofs.Kept.{changed_here, number_stays, place-stays, held_place, data_bytes}
use Rattle.bench.proofs.Laws.{decides_held}
use Rattle.bench.proofs.Rules.{read_rule, write_rule, set_rule, clear_rule, toggle_rule}
use Rattle.bench.specs.Take.{Takes, Answerable, Gives}
use Rattle.deeds.specs.declared.Register.{Register}
use Rattle.bench.specs.declared.Bench.{Bench}
use Rattle.bench.specs.declared.AfterTake.{AfterTake}
use Rattle.telegram.specs.Read.{data_in}

-- the register after a value was put where it is found: all of it but the value as before
pub named_after : (address : ℕ) (bench : Bench) → Sound address bench → (number value : ℕ) → Held bench number
    → named (with_value bench (place_of bench number) value) number
    ≡ record { number = (named bench number).number; kind = (named bench number).kind; rights = (named bench number).rights; value = value }
named_after address bench s number value h =
    let found = held_place bench number (told_true (decides_held bench number) h) in
    ap (register_at (with_value bench (place_of bench number) value)) (place-stays bench (place_of bench number) value number)
    ∙ changed_here bench (place_of bench number) value (omega (arith, s.places, found.0))

-- a register that was held still is
pub still_held : (bench : Bench) (place value number : ℕ) → Held bench number → Held (with_value bench place value) number
still_held bench place value number h = (h.0, h.1, number_stays bench place value h.0 ∙ h.2)

module _ (address : ℕ) (bench : Bench) (s : Sound address bench) (frame : List ℕ) (t : Fields) (room : List ℕ)
    (may : Answerable bench frame t (length room)) {r : AfterTake} {room' : List ℕ} (takes : Takes bench frame room r room')
    (h : Held bench t.register) where
  -- the register's value before the telegram and after it, and the mask
  abbrev before : ℕ
  before = (named bench t.register).value

  abbrev now : ℕ
  now = (named r.bench t.register).value

  abbrev mask : ℕ
  mask = natural (data_in frame)

  value_now : (value : ℕ) → r.bench ≡ with_value bench (place_of bench t.register) value → now ≡ value
  value_now value e = ap (λ (b : Bench). (named b t.register).value) e ∙ ap (λ (x : Register). x.value) (named_after address bench s t.register value h)

  -- "A one in the mask sets, clears or inverts that bit, a zero keeps it."
  module _ (right : HasRight (named bench t.register) 4) (size : length (data_in frame) ≡ size_of (named bench t.register).kind) (k : ℕ) where
    pub sets_bit : t.sort ≡ 6 → (bit_at mask k ≡ 1 → bit_at now k ≡ 1) × (bit_at mask k ≡ 0 → bit_at now k ≡ bit_at before k)
    sets_bit e =
        let is = ap (λ (v : ℕ). bit_at v k) (value_now (set_bits before mask) (set_rule bench frame t room may takes h right size e).1) in
        ((λ one. is ∙ set-one before mask k one), (λ off. is ∙ set_zero before mask k off))

    pub toggles_bit : t.sort ≡ 9 → (bit_at mask k ≡ 1 → bit_at now k ≡ 1 - bit_at before k) × (bit_at mask k ≡ 0 → bit_at now k ≡ bit_at before k)
    toggles_bit e =
        let is = ap (λ (v : ℕ). bit_at v k) (value_now (toggle_bits before mask) (toggle_rule bench frame t room may takes h right size e).1) in
        ((λ one. is ∙ toggle_one before mask k one), (λ off. is ∙ toggle_zero before mask k off))

    -- a register has at most 64 bits
    pub clears_bit : AllBytes frame → k < 64 → t.sort ≡ 7 → (bit_at mask k ≡ 1 → bit_at now k ≡ 0) × (bit_at mask k ≡ 0 → bit_at now k ≡ bit_at before k)
    clears_bit bytes under e =
        let is = ap (λ (v : ℕ). bit_at v k) (value_now (clear_bits before mask) (clear_rule bench frame t room may takes h right size e).1) in
        let small : natural (data_in frame) < 2 ^ 64 = mask_fits bytes in
        ((λ one. is ∙ clear_one before mask k under small one), (λ off. is ∙ clear_zero before mask k under small off))
      where
        mask_fits : AllBytes frame → natural (data_in frame) < 2 ^ 64
        mask_fits bytes =
            lt_of_lt_of_le (natural_lt (data_in frame) (data_bytes frame bytes))
            (pow_mono {j = 64} (omega (arith, size, size_most (named bench t.register).kind)))

  -- a value written by telegram is the value read by telegram afterwards: whoever reads the register gets those bytes
  pub written_reads : AllBytes frame → MayWrite (named bench t.register) t.sort (data_in frame)
      → (frame₂ : List ℕ) (t₂ : Fields) (room₂ : List ℕ) {r₂ : AfterTake} {room₂' : List ℕ} → Answerable r.bench frame₂ t₂ (length room₂)
      → Takes r.bench frame₂ room₂ r₂ room₂' → t₂.register ≡ t.register → MayRead (named bench t.register) t₂.sort (data_in frame₂)
      → Gives r.bench t₂ room₂ 8 (data_in frame) r.bench r₂ room₂'
  written_reads bytes writes frame₂ t₂ room₂ may₂ takes₂ same reads =
      let wrote = (write_rule bench frame t room may takes h writes).1 in
      let register = ap (λ (b : Bench). named b t.register) wrote ∙ named_after address bench s t.register mask h in
      let there : named r.bench t₂.register
      ≡ record { number = (named bench t.register).number; kind = (named bench t.register).kind; rights = (named bench t.register).rights; value = mask } =
      ap (named r.bench) same ∙ register in
      let held : Held r.bench t₂.register = rw (same, wrote) (still_held bench (place_of bench t.register) mask t.register h) in
      let given = read_rule r.bench frame₂ t₂ room₂ may₂ takes₂ held (rw there reads) in
      let data_same : bytes_of (size_of (named bench t.register).kind) mask ≡ data_in frame =
      ap (λ (n : ℕ). bytes_of n mask) (sym writes.2) ∙ bytes_of_natural (data_in frame) (data_bytes frame bytes) in
      rw (there, data_same) at given
