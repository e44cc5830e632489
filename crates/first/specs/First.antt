-- One search for addresses, due tickets, registers and rows: the first of n places that fits.
-- Assumes nothing.
use Rattle.std.specs.Prelude.{Bool, cond, ℕ, zero, suc}

-- how many of the n places from k on are passed over before the first that fits; n where none does
unfoldable pub passed_from : (ℕ → Bool) → ℕ → ℕ → ℕ
passed_from fits k zero = 0
passed_from fits k (suc n) = cond (fits k) 0 (suc (passed_from fits (suc k) n))

-- the first of the places 0 to n - 1 that fits; n where none does
unfoldable pub first_place : (ℕ → Bool) → ℕ → ℕ
first_place fits n = passed_from fits 0 n
