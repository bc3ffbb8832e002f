-- The numbers of refusals, by what each is given for; 0 is done.
use Rattle.std.specs.Prelude.{ℕ}
use Rattle.call.specs.declared.reason.Reason.{Reason}
use Rattle.call.specs.declared.reason.Reason.TheVariants.{OutsideLimits, NoOperation, TooLarge, HoldsInfinity, ZeroDivisor, BadReading, WrongLength, NotEarlier, NoRoom, BadFile}

-- n or es outside the format limits
abbrev pub outside_limits : ℕ
outside_limits = 1

-- an operation number above the last
abbrev pub no_operation : ℕ
no_operation = 2

-- a posit of 2^n or more, or a range word of 2^(2n+2) or more
abbrev pub too_large : ℕ
too_large = 3

-- the range holds infinity
abbrev pub holds_infinity : ℕ
holds_infinity = 4

-- the divisor range has 0 as a member
abbrev pub zero_divisor : ℕ
zero_divisor = 5

-- a reading with a NaN, low +infinity, high -infinity, or low above high
abbrev pub wrong_reading : ℕ
wrong_reading = 6

-- columns or sheets of a length that is not taken
abbrev pub wrong_length : ℕ
wrong_length = 7

-- a step names a row that isn't earlier
abbrev pub not_earlier : ℕ
not_earlier = 8

-- the words to be written exceed the lent column
abbrev pub no_room : ℕ
no_room = 9

-- no sheet file: too short, mark or version wrong, or wrong length
abbrev pub bad_file : ℕ
bad_file = 10

-- the number of a reason
abbrev pub number_of : Reason → ℕ
number_of OutsideLimits = outside_limits
number_of NoOperation = no_operation
number_of TooLarge = too_large
number_of HoldsInfinity = holds_infinity
number_of ZeroDivisor = zero_divisor
number_of BadReading = wrong_reading
number_of WrongLength = wrong_length
number_of NotEarlier = not_earlier
number_of NoRoom = no_room
number_of BadFile = bad_file
