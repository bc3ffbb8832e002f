-- The places of refusals: the left or only operand's is 0, which stands also where no other place is named, and the right one's is 1.
use Rattle.std.specs.Prelude.{ℕ}

abbrev pub left : ℕ
left = 0

abbrev pub right : ℕ
right = 1
