-- Operation numbers: 0 add, 1 subtract, 2 multiply, 3 divide; a number above the last is refused by 2.
use Rattle.std.specs.Prelude.{◌≡◌, ℕ, ◌<◌, ltb, Result, MatchResult}
use Rattle.call.specs.declared.reason.Reason.{Reason}
use Rattle.call.specs.declared.reason.Reason.TheVariants.{NoOperation}
use Rattle.call.specs.declared.operation.Operation.{Operation}
use Rattle.call.specs.declared.operation.Operation.TheVariants.{Add, Subtract, Multiply, Divide}
use Rattle.call.specs.Number.{no_operation}
use Rattle.call.specs.Place.{left}
use Rattle.call.specs.Verdict.{Test}

abbrev pub plus : ℕ
plus = 0

abbrev pub minus : ℕ
minus = 1

abbrev pub times : ℕ
times = 2

abbrev pub over : ℕ
over = 3

abbrev pub last_operation : ℕ
last_operation = over

-- the number of an operation
abbrev pub number_of : Operation → ℕ
number_of Add = plus
number_of Subtract = minus
number_of Multiply = times
number_of Divide = over

-- a number names its operation, or none where it is above the last
abbrev pub Names : ℕ → Result Operation Reason → Type 0
Names op r = MatchResult r (λ o. number_of o ≡ op) (λ e. (e ≡ NoOperation) × (last_operation < op))

-- 2: operation number above the last
abbrev pub operation_test_at : ℕ → ℕ → Test
operation_test_at place op = record { hit = ltb last_operation op; gives = record { number = no_operation; place = place } }

abbrev pub operation_test : ℕ → Test
operation_test op = operation_test_at left op
