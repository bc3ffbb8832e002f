-- Ranges that lie above 0 or across it, with limits: the left operands of the ways by tiles.
use Rattle.std.specs.Prelude.{ℕ, Bool, ◌||◌}
use Rattle.tiles.specs.Plain.{is_plain}
use Rattle.tiles.specs.Across.{is_across}

abbrev pub is_spread : ℕ → ℕ → Bool
is_spread n w = is_plain n w || is_across n w
