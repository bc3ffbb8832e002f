-- Readings: a pair of floats comes in as the smallest range that holds all fractions from low to high, and a range goes out as its two ends.
use Rattle.std.specs.Prelude.{◌≡◌, Bool, true, false, ◌||◌, [], ◌∷◌, ◌≢◌, ℕ, Float, Result}
use Rattle.std.specs.Bool.{beq}
use Rattle.std.specs.Float.{nan, inf, fin}
use Rattle.std.specs.Float.Ieee.{lt, is_nan}
use Rattle.exact.specs.Fraction.{Fraction, ◌≤ᶠ◌}
use Rattle.bound.specs.Bound.{Bound, none, closed_at, open_at}
use Rattle.posit.specs.Decoding.{finite_value}
use Rattle.posit.specs.Floats.{plus_zero, ExactFloat}
use Rattle.call.specs.Number.{wrong_reading}
use Rattle.call.specs.Verdict.{Verdict, Test, Answers, first_hit}
use Rattle.posit.specs.Refusal.{format_test}
use Rattle.call.specs.declared.refusal.Refusal.{Refusal}
use Rattle.reading.specs.declared.reading.Reading.{Reading}
use Rattle.reading.specs.declared.reading.Outgoing.{Outgoing}
use Rattle.word.specs.Word.{kind, empty, start_of, end_of}
use Rattle.word.specs.Smallest.{IsAnswer}
use Rattle.word.specs.Refusal.{verdict_of_range}
use Rattle.word.specs.Computed.{cell_of}

-- ---- coming in
-- z is not below low, and not above high; a float `fin t m e` is m · 2^e, negative where t is true, and -infinity as low and +infinity as
-- high mean unbounded
abbrev pub FromLow : Float → Fraction → Type 0
FromLow nan z = ⊥
FromLow (inf true) z = Unit {0}
FromLow (inf false) z = ⊥
FromLow (fin t m e) z = finite_value t e m ≤ᶠ z

abbrev pub ToHigh : Float → Fraction → Type 0
ToHigh nan z = ⊥
ToHigh (inf true) z = ⊥
ToHigh (inf false) z = Unit {0}
ToHigh (fin t m e) z = z ≤ᶠ finite_value t e m

-- z is one of all fractions from low to high, both included
pub record Between (low high : Float) (z : Fraction) : Type 0 where
  pub from_low : FromLow low z
  pub to_high : ToHigh high z

-- x is the infinity with this sign
abbrev pub is_infinity : Bool → Float → Bool
is_infinity negative nan = false
is_infinity negative (inf s) = beq s negative
is_infinity negative (fin t m e) = false

-- a NaN, low +infinity, high -infinity, or low above high
abbrev pub bad_reading : Float → Float → Bool
bad_reading low high = is_nan low || (is_nan high || (is_infinity false low || (is_infinity true high || lt high low)))

-- 6: a bad reading
abbrev pub reading_test : Float → Float → Test
reading_test low high = record { hit = bad_reading low high; gives = record { number = wrong_reading; place = 0 } }

unfoldable pub verdict_of_reading : ℕ → ℕ → Float → Float → Verdict
verdict_of_reading n es low high = first_hit (format_test n es ∷ reading_test low high ∷ [])

-- what `take_in` answers
abbrev pub TakenIn : ℕ → ℕ → Reading → Result ℕ Refusal → Type 0
TakenIn n es x r = Answers (verdict_of_reading n es x.low x.high) (IsAnswer n es (Between x.low x.high)) r

-- the cell of a float; what is no number is unbounded
abbrev pub FloatCell : ℕ → ℕ → ℕ → Float → ℕ → Type 0
FloatCell n es unbounded nan c = c ≡ unbounded
FloatCell n es unbounded (inf s) c = c ≡ unbounded
FloatCell n es unbounded (fin t m e) c = c ≡ cell_of n es (finite_value t e m)

-- ---- going out
-- an end: its float is exactly the posit's value, +0.0 for zero, with its open mark; an unbounded end is the infinity of its side, open
abbrev pub EndOut : ℕ → ℕ → Bool → Bound ℕ → Float → Bool → Type 0
EndOut n es negative none x mark = (x ≡ inf negative) × (mark ≡ true)
EndOut n es negative (closed_at p) x mark = ExactFloat n es p x × (mark ≡ false)
EndOut n es negative (open_at p) x mark = ExactFloat n es p x × (mark ≡ true)

-- both ends of a range with members
pub record EndsOut (n es a : ℕ) (r : Outgoing) : Type 0 where
  pub low_end : EndOut n es true (start_of n a) r.low r.low_open
  pub high_end : EndOut n es false (end_of n a) r.high r.high_open
  pub not_empty : r.empty ≡ false

-- empty: 0.0 twice, both open, and the empty mark
pub record EmptyOut (r : Outgoing) : Type 0 where
  pub low_zero : r.low ≡ plus_zero
  pub high_zero : r.high ≡ plus_zero
  pub low_open : r.low_open ≡ true
  pub high_open : r.high_open ≡ true
  pub is_empty : r.empty ≡ true

pub record GoesOut (n es a : ℕ) (r : Outgoing) : Type 0 where
  pub when_empty : kind n a ≡ empty → EmptyOut r
  pub when_not : kind n a ≢ empty → EndsOut n es a r

-- what `give_out` answers
abbrev pub GivenOut : ℕ → ℕ → ℕ → Result Outgoing Refusal → Type 0
GivenOut n es a r = Answers (verdict_of_range n es a) (GoesOut n es a) r
