-- Ranges above 0 with a member and an upper limit: most ranges are such, and their sums, products and quotients take one way.
use Rattle.std.specs.Prelude.{ℕ, ◌+◌, ◌*◌, ◌%◌, ◌^◌, ◌<◌, ◌≤◌, Bool, ◌&&◌, nat_le, nat_lt}
use Rattle.word.specs.Word.{start_tile, end_tile}

-- the tile of an open 0, at which a plain range may start
abbrev pub open_zero : ℕ
open_zero = 1

-- a start tile from the open 0 on, at or below the end tile (below it by one posit at least where the end is open), which is below NaR's
abbrev pub is_plain : ℕ → ℕ → Bool
is_plain n w = nat_le open_zero (start_tile n w) && (nat_le (start_tile n w + 2 * (end_tile n w % 2)) (end_tile n w) && nat_lt (end_tile n w) (2 ^ n))

-- the tiles at which a plain range starts, and those at which it ends
pub record PlainStart (n s : ℕ) : Type 0 where
  pub above : open_zero ≤ s
  pub below : s < 2 ^ n

pub record PlainEnd (n t : ℕ) : Type 0 where
  pub above : 2 ≤ t
  pub below : t < 2 ^ n
