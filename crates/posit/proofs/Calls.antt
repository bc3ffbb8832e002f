-- A call of an operation comes back with its verdict: where that refuses, with the refusal, and else with what the operation answers.
use Rattle.std.proofs.Common.{◌≡◌, ℕ, ◌<◌, ◌≤◌, false, ◌∙◌, arith}
use Rattle.std.specs.Prelude.{Result, Ok, Err}
use Rattle.call.specs.declared.reason.Reason.{Reason}
use Rattle.call.specs.declared.reason.Reason.TheVariants.{OutsideLimits, NoOperation}
use Rattle.call.specs.declared.refusal.Refusal.{Refusal}
use Rattle.call.specs.declared.operation.Operation.{Operation}
use Rattle.call.specs.declared.operation.Operation.TheVariants.{Add, Subtract, Multiply, Divide}
use Rattle.call.specs.Operation.{number_of}
use Rattle.call.specs.Verdict.{Answers, refused}
use Rattle.posit.specs.declared.inner.format.Format.{Format}
use Rattle.posit.specs.Format.{is_format}
use Rattle.posit.specs.Refusal.{verdict_of_posits, verdict_of_operation}
use Rattle.posit.specs.Operation.{Operates, OperationOf}
use Rattle.posit.proofs.Formats.{within}
use Rattle.posit.proofs.Verdicts.{operation_outside, operation_by_posits, operation_by_number}

pub known : (o : Operation) → number_of o ≤ 3
known Add = omega arith
known Subtract = omega arith
known Multiply = omega arith
known Divide = omega arith

module _ (n es op p q : ℕ) where
  pub outside_limits : {e : Reason} → (e ≡ OutsideLimits) × (is_format n es ≡ false) → verdict_of_operation n es op p q ≡ refused (record { reason = e; place = 0 })
  outside_limits h = rw h.0 (operation_outside n es _ _ _ h.1)

  pub no_operation : (f : Format) {e : Reason} → (n ≡ f.n) × (es ≡ f.es) → (e ≡ NoOperation) × (3 < op) → verdict_of_operation n es op p q ≡ refused (record { reason = e; place = 0 })
  no_operation f is h = rw (h.0, is.0, is.1) (operation_by_number (within f) op p q h.1)

module _ (f : Format) (o : Operation) (p q : ℕ) where
  in_format : (r : Result ℕ Refusal) → Answers (verdict_of_posits f.n p q) (Operates f.n f.es (number_of o) p q) r → OperationOf f.n f.es (number_of o) p q r
  in_format (Ok x) a = (operation_by_posits (within f) (number_of o) p q (known o) ∙ a.0, a.1)
  in_format (Err e) a = operation_by_posits (within f) (number_of o) p q (known o) ∙ a

  pub by_posits : {n es : ℕ} (r : Result ℕ Refusal) → (n ≡ f.n) × (es ≡ f.es) → Answers (verdict_of_posits f.n p q) (Operates f.n f.es (number_of o) p q) r → OperationOf n es (number_of o) p q r
  by_posits r is a = rw (is.0, is.1) (in_format r a)
