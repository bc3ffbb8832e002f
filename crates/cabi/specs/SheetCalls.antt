-- What the exported calls on columns and sheets say: there is an answer that meets the call's own contract, the later content of the lent
-- column included, and the result is its plain shape.
use Rattle.std.specs.Prelude.{◌≡◌, List, ℕ, Result}
use Rattle.call.specs.Verdict.{Verdict}
use Rattle.call.specs.declared.refusal.Refusal.{Refusal}
use Rattle.call.specs.Written.{Writes}
use Rattle.cabi.specs.declared.sheet_shape.SheetAnswer.{SheetAnswer}
use Rattle.cabi.specs.SheetShapes.{of_count}

pub record WritesAs (v : Verdict) (row : ℕ) (words before after : List ℕ) (r : SheetAnswer) : Type 0 where
  pub answer : Result ℕ Refusal
  pub meets : Writes v row words before after answer
  pub shape : r ≡ of_count answer
