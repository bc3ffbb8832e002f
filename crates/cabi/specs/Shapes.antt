-- The plain shapes of the posit calls' answers: each case of an enum has its number, and the parts that a case lacks are 0, false and +0.0.
use Rattle.std.specs.Prelude.{Bool, true, false, ℕ, ℤ, pos, eqb, Float, Result, Ok, Err}
use Rattle.std.specs.declared.cmp.Ordering.{Ordering}
use Rattle.std.specs.declared.cmp.Ordering.TheVariants.{Less, Equal, Greater}
use Rattle.call.specs.declared.refusal.Refusal.{Refusal}
use Rattle.call.specs.Number.{number_of}
use Rattle.posit.specs.declared.decoded.Decoded.{Decoded}
use Rattle.posit.specs.declared.decoded.Decoded.TheVariants.{Zero, Nar, Finite}
use Rattle.posit.specs.declared.float.Floated.{Floated}
use Rattle.posit.specs.declared.float.Floated.TheVariants as floated
use Rattle.posit.specs.Floats.{plus_zero}
use Rattle.cabi.specs.declared.shape.PositAnswer.{PositAnswer}
use Rattle.cabi.specs.declared.shape.PositComparison.{PositComparison}
use Rattle.cabi.specs.declared.shape.PositDecoding.{PositDecoding}
use Rattle.cabi.specs.declared.shape.PositFloating.{PositFloating}

-- a refusal by its number and place, with 0 for what is refused; else number 0 at place 0
abbrev pub of_answer : Result ℕ Refusal → PositAnswer
of_answer (Ok p) = record { number = 0; place = 0; posit = p }
of_answer (Err e) = record { number = number_of e.reason; place = e.place; posit = 0 }

-- a decoded posit's number: 0 zero, 1 NaR, 2 finite
abbrev pub kind_number : Decoded → ℕ
kind_number Zero = 0
kind_number Nar = 1
kind_number (Finite negative s g) = 2

abbrev pub is_negative : Decoded → Bool
is_negative Zero = false
is_negative Nar = false
is_negative (Finite negative s g) = negative

abbrev pub scale_of : Decoded → ℤ
scale_of Zero = pos 0
scale_of Nar = pos 0
scale_of (Finite negative s g) = s

abbrev pub fraction_of : Decoded → ℕ
fraction_of Zero = 0
fraction_of Nar = 0
fraction_of (Finite negative s g) = g

abbrev pub decoding_with : ℕ → ℕ → Decoded → PositDecoding
decoding_with number place d =
    record { number = number; place = place; kind = kind_number d; negative = is_negative d; scale = scale_of d; fraction = fraction_of d }

abbrev pub of_decoding : Result Decoded Refusal → PositDecoding
of_decoding (Ok d) = decoding_with 0 0 d
of_decoding (Err e) = decoding_with (number_of e.reason) e.place Zero

-- an order's number: 0 less, 1 equal, 2 greater
abbrev pub order_number : Ordering → ℕ
order_number Less = 0
order_number Equal = 1
order_number Greater = 2

abbrev pub of_comparison : Result Ordering Refusal → PositComparison
of_comparison (Ok o) = record { number = 0; place = 0; order = order_number o }
of_comparison (Err e) = record { number = number_of e.reason; place = e.place; order = order_number Equal }

abbrev pick : Bool → Decoded → Decoded → Decoded
pick true a b = a
pick false a b = b

-- the decoded posit of a kind's number: zero for 0, finite for 2, and NaR for 1 and for every number that is no kind
abbrev pub decoded_of : ℕ → Bool → ℤ → ℕ → Decoded
decoded_of kind negative s g = pick (eqb kind 0) Zero (pick (eqb kind 2) (Finite negative s g) Nar)

-- a posit's float by its number: 0 a float, 1 NaR
abbrev pub float_kind : Floated → ℕ
float_kind (floated.Value x) = 0
float_kind floated.Nar = 1

abbrev pub float_of : Floated → Float
float_of (floated.Value x) = x
float_of floated.Nar = plus_zero

abbrev pub of_floating : Result Floated Refusal → PositFloating
of_floating (Ok x) = record { number = 0; place = 0; kind = float_kind x; float = float_of x }
of_floating (Err e) = record { number = number_of e.reason; place = e.place; kind = 0; float = plus_zero }
