-- What the rows of a sheet need: the result of members is a member of the answer, and a divisor that is not refused has no member that is 0.
use mathlib.Core.Path.{◌≡◌, sym, ◌∙◌}
use mathlib.Core.Bool.{false, true≢false}
use mathlib.Core.Logic.{◌⊎◌, ◌↔◌, ⊎_map}
use Prim.Native.Nat.{ℕ, ◌≤◌}
use lib.IntN.{pos}
use Rattle.exact.specs.Fraction.{Fraction, ◌≈◌, whole}
use Rattle.exact.proofs.Order.{≈_refl}
use Rattle.bound.proofs.Extent.{NoMember}
use Rattle.call.specs.Operation.{over}
use Rattle.posit.specs.Arithmetic.{exact_result}
use Rattle.word.specs.Word.{empty, kind}
use Rattle.word.specs.Member.{Real, Member, is_member}
use Rattle.word.specs.Smallest.{Result}
use Rattle.word.specs.Computed.{answer_of}
use Rattle.word.proofs.Members.{is_member_iff, member_same}
use Rattle.word.proofs.Computed.{answer_computed, answer_real}
use Rattle.word.proofs.Empty.{empty_kind_iff, computed_empty_iff_operand}

-- no member is 0 where the test says that 0 is none
pub no_zero_member : (n es b : ℕ) → is_member n es b (whole (pos 0)) ≡ false → (y : Fraction) → Member n es b y → ¬ (y ≈ whole (pos 0))
no_zero_member n es b f y m e = true≢false (sym ((is_member_iff n es b (whole (pos 0))).1 (member_same e m)) ∙ f)

-- the same where the operation divides
pub no_zero_divisor : (n es op b : ℕ) → (op ≡ over → is_member n es b (whole (pos 0)) ≡ false)
    → (y : Fraction) → Member n es b y → op ≡ over → ¬ (y ≈ whole (pos 0))
no_zero_divisor n es op b f y m e = no_zero_member n es b (f e) y m

module _ (n es op a b : ℕ) (wide : 3 ≤ n) (known : op ≤ over) where
  pub answer_holds : (z : Fraction) → Result n es op a b z → Member n es (answer_of n es op a b) z
  answer_holds = (answer_computed n es op a b wide known).smallest.holds

  pub result_in_answer : {x y : Fraction} → Member n es a x → Member n es b y → (op ≡ over → ¬ (y ≈ whole (pos 0)))
      → Member n es (answer_of n es op a b) (exact_result op x y)
  result_in_answer {x} {y} h k d =
      answer_holds (exact_result op x y)
      record { left = x; right = y; left_member = h; right_member = k; divisor = d; is_result = ≈_refl (exact_result op x y) }

  -- with a divisor that is not refused: the result of any two members, and emptiness
  module _ (allowed : op ≡ over → is_member n es b (whole (pos 0)) ≡ false) where
    pub members_in_answer : {x y : Fraction} → Member n es a x → Member n es b y → Member n es (answer_of n es op a b) (exact_result op x y)
    members_in_answer {x} {y} h k = result_in_answer h k (no_zero_divisor n es op b allowed y k)

    pub answer_empty_iff : NoMember (Member n es (answer_of n es op a b)) ↔ (NoMember (Member n es a) ⊎ NoMember (Member n es b))
    answer_empty_iff = computed_empty_iff_operand n es op a b wide known (no_zero_divisor n es op b allowed)

    -- in words: the answer is an empty word, and then the canonical one, exactly where an operand is an empty word
    pub empty_row_iff : Real n a → Real n b → (kind n (answer_of n es op a b) ≡ empty) ↔ ((kind n a ≡ empty) ⊎ (kind n b ≡ empty))
    empty_row_iff r q =
        let (f, g) = empty_kind_iff n es wide (answer_real n es op a b wide known) in
        let (i, j) = empty_kind_iff n es wide r in
        let (k, l) = empty_kind_iff n es wide q in
        (λ e. ⊎_map j l (answer_empty_iff.0 (f e)), λ d. g (answer_empty_iff.1 (⊎_map i k d)))
