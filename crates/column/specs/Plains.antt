-- Pairs of a range above 0 or across it and a range above 0, all with limits: those of an operation other than the difference take one way, with no test
-- of a single pair.
use Rattle.std.specs.Prelude.{Bool, true, not, ◌&&◌, List, [], ◌∷◌, ℕ, eqb}
use Rattle.call.specs.Operation.{minus}
use Rattle.tiles.specs.Plain.{is_plain}
use Rattle.tiles.specs.Spread.{is_spread}

-- every word of every pair
unfoldable pub all_plain : ℕ → List ℕ → List ℕ → Bool
all_plain n [] right = true
all_plain n (a ∷ left) [] = true
all_plain n (a ∷ left) (b ∷ right) = is_spread n a && (is_plain n b && all_plain n left right)

abbrev pub takes_plain_way : ℕ → ℕ → List ℕ → List ℕ → Bool
takes_plain_way n op left right = not (eqb op minus) && all_plain n left right
