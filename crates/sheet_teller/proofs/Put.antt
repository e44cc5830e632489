-- How the text of a setting is put together from its pieces in a lent room.
-- Assumes nothing.
use mathlib.Core.Path.{◌≡◌, refl, sym, ap, ap₂, ◌∙◌}
use mathlib.Core.Bool.{cond}
use mathlib.Core.List.{List, [], ◌∷◌, ◌++◌, append_assoc}
use Prim.Native.Nat.{ℕ, suc, ◌+◌, ◌-◌, ◌*◌, ◌/◌, ◌%◌, ◌≤◌, ◌<◌}
use native.Mathlib.Decide.{dec_le}
use native.Mathlib.Omega.{arith}
use borrow.Author.Tests.{lt-ltb, le-ltb, le-leb, lt-leb}
use lib.Dec.{leb}
use lib.ListN.{length, get_or, take, drop, replicate, length-replicate, drop_of_length-le}
use Rattle.lent.specs.Lent.{over, over_at}
use Rattle.lent.proofs.Laws.{drop-next, over_at_none, over_at_past, over_at_append, lay_part}
use Rattle.text.specs.Text.{ascii, newline, decimal, Spells, Puts}
use Rattle.text.proofs.Laws.{decimal_short, puts_then}
use Rattle.setting.specs.declared.Head.{Head}
use Rattle.setting.specs.Setting.{Setting, setting}
use Rattle.sheet_line.specs.Line.{line_of}
use Rattle.sheet_line.proofs.Spelled.{line_long}
use Rattle.sheet_teller.specs.declared.Order.{Order}
use Rattle.sheet_teller.specs.declared.Form.{Form}
use Rattle.sheet_teller.specs.declared.Form.TheVariants.{Lines, Calls}
use Rattle.sheet_teller.specs.Teller.{hex_digit, hex_of, zeros, call_of, piece_of}
use Rattle.sheet_teller.specs.Parts.{asked_text, timed_text}

-- a step of a loop: a piece is laid, and what is left gives the same as both did
pub lay_on : (x y : List ℕ) (to to' : ℕ) (room room' : List ℕ) {whole : List ℕ} → Puts x to room to' room' → over_at to (x ++ y) room ≡ whole → over_at to' y room' ≡ whole
lay_on x y to to' room room' p e = ap₂ (λ (k : ℕ) (l : List ℕ). over_at k y l) p.0 p.1 ∙ over_at_append to x y room ∙ e

-- its end: nothing is left
pub lay_end : (y : List ℕ) (to : ℕ) (room : List ℕ) {whole : List ℕ} → y ≡ [] → over_at to y room ≡ whole → room ≡ whole
lay_end y to room none e = sym (ap (λ (l : List ℕ). over_at to l room) none ∙ over_at_none to room) ∙ e

-- ---- a line, in the part of the room from a place on

pub least_first : (a b : ℕ) → a ≤ b → a ≡ cond (leb a b) a b
least_first a b h = rw (le-leb a b h)

pub least-second : (a b : ℕ) → b < a → b ≡ cond (leb a b) a b
least-second a b h = rw (lt-leb a b h)

pub least_within : (a b : ℕ) {r : ℕ} → r ≡ cond (leb a b) a b → r ≤ b
least_within a b e = elim (dec_le a b) [
  | yes h ↦ let is = e ∙ sym (least_first a b h) in omega (arith, is)
  | no h ↦ let is = e ∙ sym (least-second a b (omega arith)) in omega (arith, is)
]

-- past the room's end nothing is laid, nor is it from its end on
at_least : (at from : ℕ) (xs room : List ℕ) → from ≡ cond (leb at (length room)) at (length room) → over_at from xs room ≡ over_at at xs room
at_least at from xs room e = elim (dec_le at (length room)) [
  | yes h ↦ ap (λ (k : ℕ). over_at k xs room) (e ∙ sym (least_first at (length room) h))
  | no h ↦
      let past : length room < at = omega arith in
      let is : from ≡ length room = e ∙ sym (least-second at (length room) past) in
      over_at_past from xs room (omega (arith, is)) ∙ sym (over_at_past at xs room (omega arith))
]

pub line_put : (h : Head) (value : List ℕ) (at from r : ℕ) (room part : List ℕ) → h.count < 256 → from ≡ cond (leb at (length room)) at (length room)
    → (r ≡ length (line_of (setting h value))) × (part ≡ over (line_of (setting h value)) (take (length room - from) (drop from room)))
    → Puts (line_of (setting h value)) at room (at + r) (take from room ++ (part ++ drop (length room - from) (drop from room))) × (at + r ≤ at + 5700)
line_put h value at from r room part small e w = (
  (
    ap (λ (k : ℕ). at + k) w.0,
    lay_part from (line_of (setting h value)) room part (least_within at (length room) e) w.1 ∙ at_least at from (line_of (setting h value)) room e,
  ),
  let long : length (line_of (setting h value)) ≤ 66 + 22 * h.count = line_long (setting h value) in omega (arith, w.0),
)

-- ---- a word and a number

pub number_put : (text : List ℕ) (n at a r : ℕ) (room room₁ room₂ : List ℕ) → length text ≤ 10 → Puts text at room a room₁ → Spells n a room₁ r room₂
    → Puts (text ++ decimal n) at room (a + r) room₂ × (a + r ≤ at + 30)
number_put text n at a r room room₁ room₂ short p s = (
  puts_then text (decimal n) at a (a + r) room room₁ room₂ p (ap (λ (k : ℕ). a + k) s.0, s.1),
  let digits : length (decimal n) ≤ 20 = decimal_short n in omega (arith, p.0, s.0),
)

-- ---- bytes in hex

pub hex_low : (d : ℕ) → d < 10 → 48 + d ≡ hex_digit d
unfolding hex_digit
hex_low d h = rw (lt-ltb d 10 h)

pub hex_high : (d : ℕ) → 10 ≤ d → 87 + d ≡ hex_digit d
unfolding hex_digit
hex_high d h = rw (le-ltb d 10 h)

pub hex_long : (bytes : List ℕ) → length (hex_of bytes) ≡ 2 * length bytes
unfolding hex_of
hex_long [] = refl
hex_long (b ∷ rest) = let ih : length (hex_of rest) ≡ 2 * length rest = hex_long rest in omega (arith, ih)

hex_next : (bytes : List ℕ) (i : ℕ) → i < length bytes
    → hex_of (drop i bytes) ≡ (hex_digit (get_or bytes i 0 / 16) ∷ hex_digit (get_or bytes i 0 % 16) ∷ []) ++ hex_of (drop (i + 1) bytes)
unfolding hex_of
hex_next bytes i h = ap hex_of (drop-next bytes i h)

hex_none : (bytes : List ℕ) (i : ℕ) → length bytes ≤ i → hex_of (drop i bytes) ≡ []
unfolding hex_of
hex_none bytes i h = ap hex_of (drop_of_length-le bytes {i = i} h)

pub hex_on : (bytes : List ℕ) (to i a b : ℕ) (room room' : List ℕ) {whole : List ℕ} → i < length bytes
    → a ≡ hex_digit (get_or bytes i 0 / 16) → b ≡ hex_digit (get_or bytes i 0 % 16) → room' ≡ over_at to (a ∷ b ∷ []) room
    → over_at to (hex_of (drop i bytes)) room ≡ whole → over_at (to + 2) (hex_of (drop (i + 1) bytes)) room' ≡ whole
hex_on bytes to i a b room room' h high low laid e =
    let next : hex_of (drop i bytes) ≡ (a ∷ b ∷ []) ++ hex_of (drop (i + 1) bytes) = rw (high, low) (hex_next bytes i h) in
    lay_on (a ∷ b ∷ []) (hex_of (drop (i + 1) bytes)) to (to + 2) room room' (refl, laid) (ap (λ (l : List ℕ). over_at to l room) (sym next) ∙ e)

pub hex_put : (bytes : List ℕ) (at to i : ℕ) (room₀ room : List ℕ) → length bytes ≤ 240 → i ≤ length bytes → length bytes ≤ i → to ≡ at + 2 * i
    → over_at to (hex_of (drop i bytes)) room ≡ over_at at (hex_of bytes) room₀ → Puts (hex_of bytes) at room₀ to room × (to ≤ at + 480)
hex_put bytes at to i room₀ room short l m count e = (
  (let long = hex_long bytes in omega (arith, long), lay_end (hex_of (drop i bytes)) to room (hex_none bytes i m) e),
  omega arith,
)

-- ---- zeros

zeros_next : (n i : ℕ) → i < n → replicate {A = ℕ} (n - i) 48 ≡ (48 ∷ []) ++ replicate (n - (i + 1)) 48
zeros_next n i h =
    let m : n - i ≡ suc (n - (i + 1)) = omega arith in
    ap (λ (k : ℕ). replicate {A = ℕ} k 48) m

zeros_none : (n i : ℕ) → n ≤ i → replicate {A = ℕ} (n - i) 48 ≡ []
zeros_none n i h =
    let m : n - i ≡ 0 = omega arith in
    ap (λ (k : ℕ). replicate {A = ℕ} k 48) m

pub zeros_on : (n to i : ℕ) (room room' : List ℕ) {whole : List ℕ} → i < n → room' ≡ over_at to (48 ∷ []) room
    → over_at to (replicate (n - i) 48) room ≡ whole → over_at (to + 1) (replicate (n - (i + 1)) 48) room' ≡ whole
zeros_on n to i room room' h laid e =
    lay_on (48 ∷ []) (replicate (n - (i + 1)) 48) to (to + 1) room room' (refl, laid) (ap (λ (l : List ℕ). over_at to l room) (sym (zeros_next n i h)) ∙ e)

pub zeros_put : (n at to i : ℕ) (room₀ room : List ℕ) → i ≤ n → n ≤ i → to ≡ at + i
    → over_at to (replicate (n - i) 48) room ≡ over_at at (replicate n 48) room₀ → Puts (replicate n 48) at room₀ to room
zeros_put n at to i room₀ room l m count e =
    (let long : length {A = ℕ} (replicate n 48) ≡ n = length-replicate n 48 in omega (arith, long), lay_end (replicate (n - i) 48) to room (zeros_none n i m) e)

-- ---- a call

asked_joined : (job : ℕ) (h : Head) (z : List ℕ) → asked_text job h ++ z
    ≡ ascii "desk.open " ++ (decimal job ++ (ascii " " ++ (decimal h.unit ++ (ascii " 5 " ++ (decimal h.register ++ (ascii " " ++ z))))))
asked_joined job h z =
    let third : decimal h.register ++ ascii " " ++ z ≡ decimal h.register ++ (ascii " " ++ z) = append_assoc (decimal h.register) (ascii " ") z in
    let second = append_assoc (decimal h.unit) (ascii " 5 " ++ (decimal h.register ++ ascii " ")) z
    ∙ ap (λ (l : List ℕ). decimal h.unit ++ (ascii " 5 " ++ l)) third in
    ap (λ (l : List ℕ). ascii "desk.open " ++ l)
    (append_assoc (decimal job) (ascii " " ++ (decimal h.unit ++ (ascii " 5 " ++ (decimal h.register ++ ascii " ")))) z
    ∙ ap (λ (l : List ℕ). decimal job ++ (ascii " " ++ l)) second)

timed_joined : (order : Order) (z : List ℕ) → timed_text order ++ z
    ≡ ascii " " ++ (decimal order.wait ++ (ascii " 0 " ++ (decimal order.clock ++ (ascii " " ++ z))))
timed_joined order z =
    ap (λ (l : List ℕ). ascii " " ++ l)
    (append_assoc (decimal order.wait) (ascii " 0 " ++ (decimal order.clock ++ ascii " ")) z
    ∙ ap (λ (l : List ℕ). decimal order.wait ++ (ascii " 0 " ++ l)) (append_assoc (decimal order.clock) (ascii " ") z))

call_parts : (order : Order) (h : Head) (value : List ℕ)
    → asked_text order.job h ++ (hex_of value ++ (timed_text order ++ zeros (length value))) ≡ call_of order (setting h value)
unfolding call_of
call_parts order h value =
    ap (λ (l : List ℕ). asked_text order.job h ++ (hex_of value ++ l)) (timed_joined order (zeros (length value))) ∙ asked_joined order.job h _

pub call_put : (order : Order) (h : Head) (value : List ℕ) (at a b c d : ℕ) (room room₁ room₂ room₃ room₄ : List ℕ) → length value ≤ 240
    → Puts (asked_text order.job h) at room a room₁ × (a ≤ at + 91)
    → Puts (hex_of value) a room₁ b room₂ × (b ≤ a + 480)
    → Puts (timed_text order) b room₂ c room₃ × (c ≤ b + 61)
    → Puts (zeros (length value)) c room₃ d room₄
    → Puts (call_of order (setting h value)) at room d room₄ × (d ≤ at + 1700)
call_put order h value at a b c d room room₁ room₂ room₃ room₄ short asked hex timed end = (
  rw (← call_parts order h value)
      (puts_then (asked_text order.job h) (hex_of value ++ (timed_text order ++ zeros (length value))) at a d room room₁ room₄ asked.0
      (puts_then (hex_of value) (timed_text order ++ zeros (length value)) a b d room₁ room₂ room₄ hex.0
      (puts_then (timed_text order) (zeros (length value)) b c d room₂ room₃ room₄ timed.0 end))),
  let many : length (zeros (length value)) ≡ 28 + 4 * length value = length-replicate (28 + 4 * length value) 48 in
      omega (arith, asked.1, hex.1, timed.1, end.0),
)

-- ---- a piece

pub line_piece : (form : Form) (s : Setting) (at a r : ℕ) (room room₁ room₂ : List ℕ) → form ≡ Lines
    → Puts (line_of s) at room a room₁ × (a ≤ at + 5700) → Puts newline a room₁ r room₂ → Puts (piece_of form s) at room r room₂ × (r ≤ at + 6000)
unfolding piece_of
line_piece form s at a r room room₁ room₂ e p q = (rw e (puts_then (line_of s) newline at a r room room₁ room₂ p.0 q), omega (arith, p.1, q.0))

pub call_piece : (form : Form) (order : Order) (s : Setting) (at a r : ℕ) (room room₁ room₂ : List ℕ) → form ≡ Calls order
    → Puts (call_of order s) at room a room₁ × (a ≤ at + 1700) → Puts newline a room₁ r room₂ → Puts (piece_of form s) at room r room₂ × (r ≤ at + 6000)
unfolding piece_of
call_piece form order s at a r room room₁ room₂ e p q = (rw e (puts_then (call_of order s) newline at a r room room₁ room₂ p.0 q), omega (arith, p.1, q.0))
