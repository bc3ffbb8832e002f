-- What the exported calls on ranges say: there is an answer that meets the range call's own contract, and the result is its plain shape.
use Rattle.std.specs.Prelude.{◌≡◌, Bool, ℕ, Float, Result}
use Rattle.call.specs.declared.refusal.Refusal.{Refusal}
use Rattle.reading.specs.declared.reading.Outgoing.{Outgoing}
use Rattle.word.specs.Calls.{NegationOf, ComparisonOf, OperationOf}
use Rattle.reading.specs.Reading.{TakenIn, GivenOut}
use Rattle.cabi.specs.declared.range_shape.RangeAnswer.{RangeAnswer}
use Rattle.cabi.specs.declared.range_shape.RangeOutgoing.{RangeOutgoing}
use Rattle.cabi.specs.declared.range_shape.RangeReply.{RangeReply}
use Rattle.cabi.specs.RangeShapes.{of_word, of_reply, of_outgoing}

-- what `jorumrain_range_negate` gives
pub record NegatesAs (n es a : ℕ) (r : RangeAnswer) : Type 0 where
  pub answer : Result ℕ Refusal
  pub meets : NegationOf n es a answer
  pub shape : r ≡ of_word answer

-- what `jorumrain_range_inside`, `jorumrain_range_meets` and `jorumrain_range_below` give, each for its own P
pub record ComparesAs (P : ℕ → ℕ → ℕ → ℕ → Type 0) (n es a b : ℕ) (r : RangeReply) : Type 0 where
  pub answer : Result Bool Refusal
  pub meets : ComparisonOf P n es a b answer
  pub shape : r ≡ of_reply answer

-- what `jorumrain_range_operate` gives
pub record OperatesAs (n es op a b : ℕ) (r : RangeAnswer) : Type 0 where
  pub answer : Result ℕ Refusal
  pub meets : OperationOf n es op a b answer
  pub shape : r ≡ of_word answer

-- what `jorumrain_range_take_in` gives
pub record TakesInAs (n es : ℕ) (low high : Float) (r : RangeAnswer) : Type 0 where
  pub answer : Result ℕ Refusal
  pub meets : TakenIn n es (record { low = low; high = high }) answer
  pub shape : r ≡ of_word answer

-- what `jorumrain_range_give_out` gives
pub record GivesOutAs (n es a : ℕ) (r : RangeOutgoing) : Type 0 where
  pub answer : Result Outgoing Refusal
  pub meets : GivenOut n es a answer
  pub shape : r ≡ of_outgoing answer
