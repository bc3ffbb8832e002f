-- What the exported calls on posits say: there is an answer that meets the posit call's own contract, and the result is its plain shape.
use Rattle.std.specs.Prelude.{◌≡◌, Bool, ℕ, ℤ, Float, Result}
use Rattle.std.specs.declared.cmp.Ordering.{Ordering}
use Rattle.call.specs.declared.refusal.Refusal.{Refusal}
use Rattle.posit.specs.declared.decoded.Decoded.{Decoded}
use Rattle.posit.specs.declared.float.Floated.{Floated}
use Rattle.posit.specs.Decoding.{DecodingOf, EncodingOf}
use Rattle.posit.specs.Comparing.{ComparisonOf}
use Rattle.posit.specs.Negating.{NegationOf}
use Rattle.posit.specs.Operation.{OperationOf}
use Rattle.posit.specs.Floats.{FromFloatOf, FloatingOf}
use Rattle.cabi.specs.declared.shape.PositAnswer.{PositAnswer}
use Rattle.cabi.specs.declared.shape.PositComparison.{PositComparison}
use Rattle.cabi.specs.declared.shape.PositDecoding.{PositDecoding}
use Rattle.cabi.specs.declared.shape.PositFloating.{PositFloating}
use Rattle.cabi.specs.Shapes.{of_answer, of_decoding, of_comparison, of_floating, decoded_of}

-- what `jorumrain_posit_decode` gives
pub record DecodesAs (n es p : ℕ) (r : PositDecoding) : Type 0 where
  pub answer : Result Decoded Refusal
  pub meets : DecodingOf n es p answer
  pub shape : r ≡ of_decoding answer

-- what `jorumrain_posit_encode` gives
pub record EncodesAs (n es kind : ℕ) (negative : Bool) (s : ℤ) (g : ℕ) (r : PositAnswer) : Type 0 where
  pub answer : Result ℕ Refusal
  pub meets : EncodingOf n es (decoded_of kind negative s g) answer
  pub shape : r ≡ of_answer answer

-- what `jorumrain_posit_compare` gives
pub record ComparesAs (n es p q : ℕ) (r : PositComparison) : Type 0 where
  pub answer : Result Ordering Refusal
  pub meets : ComparisonOf n es p q answer
  pub shape : r ≡ of_comparison answer

-- what `jorumrain_posit_negate` gives
pub record NegatesAs (n es p : ℕ) (r : PositAnswer) : Type 0 where
  pub answer : Result ℕ Refusal
  pub meets : NegationOf n es p answer
  pub shape : r ≡ of_answer answer

-- what `jorumrain_posit_operate` gives
pub record OperatesAs (n es op p q : ℕ) (r : PositAnswer) : Type 0 where
  pub answer : Result ℕ Refusal
  pub meets : OperationOf n es op p q answer
  pub shape : r ≡ of_answer answer

-- what `jorumrain_posit_from_float` gives
pub record FloatsInAs (n es : ℕ) (x : Float) (r : PositAnswer) : Type 0 where
  pub answer : Result ℕ Refusal
  pub meets : FromFloatOf n es x answer
  pub shape : r ≡ of_answer answer

-- what `jorumrain_posit_to_float` gives
pub record FloatsOutAs (n es p : ℕ) (r : PositFloating) : Type 0 where
  pub answer : Result Floated Refusal
  pub meets : FloatingOf n es p answer
  pub shape : r ≡ of_floating answer
