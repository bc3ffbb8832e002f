-- An answer is empty exactly where there is no result, and there is none exactly where an operand has no member, or a divisor none other than 0:
-- every set of results has its exact bounds or is empty, and the canonical empty word, from 0 open to 0 open, has no member.
use mathlib.Core.Path.{◌≡◌, refl, subst}
use mathlib.Core.Logic.Iff
use mathlib.Core.Logic.{◌⊎◌, ⊎_map, ◌↔◌}
use Prim.Native.Nat.{ℕ, zero, suc, ◌≤◌, ◌<◌}
use native.Mathlib.Omega.{arith}
use native.Mathlib.Decide.{dec_lt}
use lib.IntN.{pos}
use Rattle.exact.specs.Fraction.{Fraction, ◌≈◌, whole}
use Rattle.bound.specs.Extent.{empty, Within}
use Rattle.bound.specs.Fractions.{fractions, same_of_≈, ≈_of_same}
use Rattle.bound.specs.FractionArithmetic.{fraction_arithmetic}
use Rattle.bound.proofs.CellEnd.{cell_has_number}
use Rattle.bound.proofs.Extent.{NoMember, empty_iff_no_member}
use Rattle.bound.proofs.Arithmetic.{InNonZero}
use Rattle.bound.proofs.Empty.{sum_empty_iff, difference_empty_iff, product_empty_iff, quotient_empty_iff}
use Rattle.call.specs.Operation.{over}
use Rattle.posit.proofs.Patterns.{some_bit}
use Rattle.word.specs.Word.{empty as nothing, kind, empty_word}
use Rattle.word.specs.Member.{Real, Member}
use Rattle.word.specs.Smallest.{IsAnswer, Result}
use Rattle.word.specs.Spans.{cells_of}
use Rattle.word.specs.Computed.{extent_of, exact_extent, answer_of}
use Rattle.word.proofs.Grid.{grid}
use Rattle.word.proofs.RealWords.{kind_empty, high_there}
use Rattle.word.proofs.Members.{member_cells}
use Rattle.word.proofs.Answers.{empty_word_has_none}
use Rattle.word.proofs.Computed.{member_within, results_span, answer_computed}

-- ---- a real word is empty exactly where it has no member: every cell has a number in it
pub empty_kind_iff : (n es : ℕ) (wide : 3 ≤ n) {w : ℕ} → Real n w → (kind n w ≡ nothing) ↔ NoMember (Member n es w)
empty_kind_iff n es wide {w} r = (forth, λ k. (kind_empty n wide w r.fits).1 (r, back k (dec_lt (cells_of n w).hi (cells_of n w).lo)))
  where
    forth : kind n w ≡ nothing → NoMember (Member n es w)
    forth k x m = absurd (omega (arith, ((kind_empty n wide w r.fits).0 k).1, (member_cells n es wide r x).0 m))

    back : NoMember (Member n es w) → Dec ((cells_of n w).hi < (cells_of n w).lo) → (cells_of n w).hi < (cells_of n w).lo
    back k (yes l) = l
    back k (no l) =
        let (x, e) = cell_has_number (grid n es (some_bit n wide)) (cells_of n w).lo (omega (arith, high_there n wide r)) in
        absurd (k x ((member_cells n es wide r x).1 (omega arith)))

-- ---- any answer
module _ {n es w : ℕ} {S : Fraction → Type 0} (wide : 3 ≤ n) (h : IsAnswer n es S w) where
  pub empty_answer_iff : NoMember (Member n es w) ↔ NoMember S
  empty_answer_iff = (
    λ k x s. k x (h.smallest.holds x s),
    λ k x m. empty_word_has_none n es wide x (subst (λ (v : ℕ). Member n es v x) (h.empty_word_says k) m),
  )

  pub empty_word_iff : (w ≡ empty_word n) ↔ NoMember S
  empty_word_iff = (λ e. empty_answer_iff.0 (λ x m. empty_word_has_none n es wide x (subst (λ (v : ℕ). Member n es v x) e m)), h.empty_word_says)

-- ---- no result
-- a right operand that operation op may use: a member of b, and no 0 where it divides
pub record Usable (n es op b : ℕ) (y : Fraction) : Type 0 where
  pub member : Member n es b y
  pub divisor : op ≡ over → ¬ (y ≈ whole (pos 0))

-- sets with the same members are empty together
same_none : {S T : Fraction → Type 0} → ((x : Fraction) → S x ↔ T x) → NoMember S ↔ NoMember T
same_none h = (λ k x t. k x ((h x).1 t), λ k x s. k x ((h x).0 s))

either_none : {S T S' T' : Fraction → Type 0} → ((x : Fraction) → S x ↔ S' x) → ((x : Fraction) → T x ↔ T' x)
    → (NoMember S ⊎ NoMember T) ↔ (NoMember S' ⊎ NoMember T')
either_none h k = (⊎_map (same_none h).0 (same_none k).0, ⊎_map (same_none h).1 (same_none k).1)

module _ (n es a b : ℕ) where
  within_member : (x : Fraction) → Within fractions (extent_of n es a) x ↔ Member n es a x
  within_member x = ((member_within n es a x).1, (member_within n es a x).0)

  within_usable : (op : ℕ) → op < over → (y : Fraction) → Within fractions (extent_of n es b) y ↔ Usable n es op b y
  within_usable op small y = (λ i. record { member = (member_within n es b y).1 i; divisor = λ e. absurd (omega arith) }, λ u. (member_within n es b y).0 u.member)

  nonzero_usable : (y : Fraction) → InNonZero fraction_arithmetic (extent_of n es b) y ↔ Usable n es over b y
  nonzero_usable y = (
    λ i. record { member = (member_within n es b y).1 i.0; divisor = λ e z. i.1 (same_of_≈ z) },
    λ u. ((member_within n es b y).0 u.member, λ z. u.divisor refl (≈_of_same z)),
  )

  no_extent_iff : (op : ℕ) → op ≤ over
      → (exact_extent op (extent_of n es a) (extent_of n es b) ≡ empty) ↔ (NoMember (Member n es a) ⊎ NoMember (Usable n es op b))
  unfolding exact_extent
  no_extent_iff zero h =
      Iff.trans (sum_empty_iff fraction_arithmetic (extent_of n es a) (extent_of n es b)) (either_none within_member (within_usable 0 (omega arith)))
  no_extent_iff (suc zero) h =
      Iff.trans (difference_empty_iff fraction_arithmetic (extent_of n es a) (extent_of n es b)) (either_none within_member (within_usable 1 (omega arith)))
  no_extent_iff (suc (suc zero)) h =
      Iff.trans (product_empty_iff fraction_arithmetic (extent_of n es a) (extent_of n es b)) (either_none within_member (within_usable 2 (omega arith)))
  no_extent_iff (suc (suc (suc zero))) h =
      Iff.trans (quotient_empty_iff fraction_arithmetic (extent_of n es a) (extent_of n es b)) (either_none within_member nonzero_usable)
  no_extent_iff (suc (suc (suc (suc op)))) h = absurd (omega arith)

  pub no_result_iff : (op : ℕ) → op ≤ over → NoMember (Result n es op a b) ↔ (NoMember (Member n es a) ⊎ NoMember (Usable n es op b))
  no_result_iff op h =
      let (f, g) = empty_iff_no_member fractions (results_span n es a b op h) in
      let (i, j) = no_extent_iff op h in
      (λ k. i (g k), λ k. f (j k))

-- ---- the computed answer
module _ (n es op a b : ℕ) (wide : 3 ≤ n) (known : op ≤ over) where
  -- it is the canonical empty word exactly where there is no result
  pub computed_empty_word_iff : (answer_of n es op a b ≡ empty_word n) ↔ NoMember (Result n es op a b)
  computed_empty_word_iff = empty_word_iff wide (answer_computed n es op a b wide known)

  -- it has no member exactly where an operand has none, or the divisor none other than 0
  pub computed_empty_iff : NoMember (Member n es (answer_of n es op a b)) ↔ (NoMember (Member n es a) ⊎ NoMember (Usable n es op b))
  computed_empty_iff = Iff.trans (empty_answer_iff wide (answer_computed n es op a b wide known)) (no_result_iff n es a b op known)

  -- where it may use every member of b: exactly where an operand has none
  pub computed_empty_iff_operand : ((y : Fraction) → Member n es b y → op ≡ over → ¬ (y ≈ whole (pos 0)))
      → NoMember (Member n es (answer_of n es op a b)) ↔ (NoMember (Member n es a) ⊎ NoMember (Member n es b))
  computed_empty_iff_operand d =
      Iff.trans computed_empty_iff (either_none (λ x. Iff.rfl) (λ y. (λ u. u.member, λ m. record { member = m; divisor = d y m })))
