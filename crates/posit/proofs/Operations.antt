-- The four operations have one answer each, and it is the definition's: where there is no number it is NaR, and else an exact value has one rounding.
use Rattle.std.proofs.Common.{◌≡◌, ℕ, Bool, true, false, sym, refl, ◌∙◌}
use Rattle.std.specs.Prelude.{Result}
use Rattle.call.specs.declared.refusal.Refusal.{Refusal}
use Rattle.call.proofs.Answered.{accepts, one_answer}
use Rattle.posit.specs.Format.{Format, nar}
use Rattle.posit.specs.Value.{value}
use Rattle.posit.specs.Nearest.{nearest}
use Rattle.posit.specs.Arithmetic.{exact_result, has_no_number, answer}
use Rattle.posit.specs.Refusal.{verdict_of_operation}
use Rattle.posit.specs.Operation.{Operates, OperationOf}
use Rattle.posit.proofs.Rounded.{rounded}
use Rattle.posit.proofs.OneAnswer as OneAnswer
use Rattle.posit.proofs.Verdicts.{operation_format}
use Rattle.posit.proofs.Operated.{no_number, a_number}

module _ (n es op p q : ℕ) where
  answer_nar : has_no_number n op p q ≡ true → answer n es op p q ≡ nar n
  unfolding answer
  answer_nar e = rw (e, answer)

  answer_number : has_no_number n op p q ≡ false → answer n es op p q ≡ nearest n es (exact_result op (value n es p) (value n es q))
  unfolding answer
  answer_number e = rw (e, answer)

-- what an operation answers is what the definition computes, for all operands of a format
module _ {n es : ℕ} (f : Format n es) (op p q : ℕ) where
  pub operates_answer : Operates n es op p q (answer n es op p q)
  operates_answer = by (has_no_number n op p q) refl
    where
      by : (b : Bool) → has_no_number n op p q ≡ b → Operates n es op p q (answer n es op p q)
      by true e = no_number e (answer_nar n es op p q e)
      by false e = a_number e (rw (answer_number n es op p q e) (rounded n es f.wide_enough (exact_result op (value n es p) (value n es q))))

  pub operates_once : {r : ℕ} → Operates n es op p q r → r ≡ answer n es op p q
  operates_once {r} o = by (has_no_number n op p q) refl
    where
      by : (b : Bool) → has_no_number n op p q ≡ b → r ≡ answer n es op p q
      by true e = o.no_number e ∙ sym (answer_nar n es op p q e)
      by false e = OneAnswer.one_answer n es f.wide_enough (o.number e) ∙ sym (answer_number n es op p q e)

-- ---- so a call has one answer too, refused or not
module _ (n es op p q : ℕ) where
  pub operation_once : (a b : Result ℕ Refusal) → OperationOf n es op p q a → OperationOf n es op p q b → a ≡ b
  operation_once =
      one_answer (verdict_of_operation n es op p q) (Operates n es op p q)
      (λ passed x y h k. let f = operation_format n es op p q (accepts passed) in operates_once f op p q h ∙ sym (operates_once f op p q k))
