-- A digest of all values of a format, and one of all answers of an operation, by the definitions.
use Rattle.std.specs.Prelude.{true, false, ℕ, zero, suc, ◌+◌, ◌-◌, ◌*◌, ◌%◌, ◌/◌, ◌^◌, ℤ, pos, negsuc, eqb}
use Rattle.posit.specs.Format.{nar, m}
use Rattle.posit.specs.Value.{units}
use Rattle.posit.specs.Arithmetic.{answer}

abbrev multiplier : ℕ
multiplier = 1000003

abbrev modulus : ℕ
modulus = 2 ^ 61 - 1

-- a number more
abbrev mixed : ℕ → ℕ → ℕ
mixed h c = (h * multiplier + c) % modulus

-- a multiple of minPos, moved up by 2^(2m) so that it is a natural number
abbrev moved : ℕ → ℤ → ℕ
moved up (pos a) = up + a
moved up (negsuc a) = up - suc a

-- what the digest takes of pattern p: its value, or a number past all of them for NaR
abbrev pub code : ℕ → ℕ → ℕ → ℕ
code n es p = elim (eqb p (nar n)) [ true ↦ 2 ^ (2 * m n es + 1) | false ↦ moved (2 ^ (2 * m n es)) (units n es p) ]

-- the next k patterns from p up, taken into h
unfoldable pub values_from : ℕ → ℕ → ℕ → ℕ → ℕ → ℕ
values_from n es zero p h = h
values_from n es (suc k) p h = values_from n es k (p + 1) (mixed h (code n es p))

-- how many pairs of patterns there are
abbrev pub pairs : ℕ → ℕ
pairs n = 2 ^ n * 2 ^ n

-- the next k pairs from number i up, the left pattern counting slower
unfoldable pub answers_from : ℕ → ℕ → ℕ → ℕ → ℕ → ℕ → ℕ
answers_from n es op zero i h = h
answers_from n es op (suc k) i h = answers_from n es op k (i + 1) (mixed h (answer n es op (i / 2 ^ n) (i % 2 ^ n)))
