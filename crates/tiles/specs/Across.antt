-- Ranges from a posit below 0 to one above 0: with a plain range their sums, products and quotients take one way.
use Rattle.std.specs.Prelude.{ℕ, ◌+◌, ◌^◌, Bool, ◌&&◌, nat_le, nat_lt}
use Rattle.word.specs.Word.{tiles, start_tile, end_tile}

-- a start tile behind both of NaR's, and an end tile behind both of 0's and before NaR's
abbrev pub is_across : ℕ → ℕ → Bool
is_across n w =
    nat_le (2 ^ n + 2) (start_tile n w) && (nat_lt (start_tile n w) (tiles n) && (nat_le 2 (end_tile n w) && nat_lt (end_tile n w) (2 ^ n)))
