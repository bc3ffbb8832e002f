-- The smallest real range that holds a set of fractions, and where its ends stand.
use Rattle.std.specs.Prelude.{◌≡◌, ◌≢◌, ℕ, pos}
use Rattle.exact.specs.Fraction.{Fraction, ◌≈◌, whole}
use Rattle.bound.specs.Order.{dual}
use Rattle.bound.specs.Bound.{Bound, map_bound}
use Rattle.bound.specs.End.{Stands}
use Rattle.bound.specs.Fractions.{fractions}
use Rattle.call.specs.Operation.{over}
use Rattle.posit.specs.Arithmetic.{exact_result}
use Rattle.word.specs.Word.{kind, empty, empty_word, start_of, end_of}
use Rattle.word.specs.Member.{Real, Member, Inside}
use Rattle.word.specs.Numbered.{count, number_of, value_at}

-- w holds every fraction of the set S and lies inside every other real range that does
pub record Smallest (n es : ℕ) (S : Fraction → Type 0) (w : ℕ) : Type 0 where
  pub real : Real n w
  pub holds : (x : Fraction) → S x → Member n es w x
  pub inside : (v : ℕ) → Real n v → ((x : Fraction) → S x → Member n es v x) → Inside n es w v

-- where an end must stand: on the exact bound if that is a posit, otherwise on the first posit beyond it; unbounded if there is no
-- such posit or no bound; closed exactly where a result lies on it
abbrev pub StartStands : ℕ → ℕ → (Fraction → Type 0) → Bound ℕ → Type 0
StartStands n es S b = Stands fractions (count n) (value_at n es) S (map_bound (number_of n) b)

abbrev pub EndStands : ℕ → ℕ → (Fraction → Type 0) → Bound ℕ → Type 0
EndStands n es S b = Stands (dual fractions) (count n) (value_at n es) S (map_bound (number_of n) b)

-- w is a real range that is not empty, and both its ends stand where they must
pub record DemandedEnds (n es : ℕ) (S : Fraction → Type 0) (w : ℕ) : Type 0 where
  pub real : Real n w
  pub not_empty : kind n w ≢ empty
  pub start_stands : StartStands n es S (start_of n w)
  pub end_stands : EndStands n es S (end_of n w)

-- w is the answer for the exact results S
pub record IsAnswer (n es : ℕ) (S : Fraction → Type 0) (w : ℕ) : Type 0 where
  pub smallest : Smallest n es S w
  pub empty_word_says : ((x : Fraction) → ¬ S x) → w ≡ empty_word n
  pub start_stands : (x : Fraction) → S x → StartStands n es S (start_of n w)
  pub end_stands : (x : Fraction) → S x → EndStands n es S (end_of n w)

-- z is an exact result of operation op on one member from each operand; no divisor is 0
pub record Result (n es op a b : ℕ) (z : Fraction) : Type 0 where
  pub left : Fraction
  pub right : Fraction
  pub left_member : Member n es a left
  pub right_member : Member n es b right
  pub divisor : op ≡ over → ¬ (right ≈ whole (pos 0))
  pub is_result : z ≈ exact_result op left right
