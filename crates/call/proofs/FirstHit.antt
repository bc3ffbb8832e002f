-- The first test of a list: where it hits it is the verdict, and where it doesn't the rest of the list is.
use mathlib.Core.Path.{◌≡◌, refl}
use mathlib.Core.Bool.{true, false}
use mathlib.Core.List.{List, [], ◌∷◌}
use Rattle.call.specs.Verdict.{Test, done, first_hit}

pub hits : (t : Test) (ts : List Test) → t.hit ≡ true → first_hit (t ∷ ts) ≡ t.gives
unfolding first_hit
hits t ts e = rw e

pub passes : (t : Test) (ts : List Test) → t.hit ≡ false → first_hit (t ∷ ts) ≡ first_hit ts
unfolding first_hit
passes t ts e = rw e

pub none_hits : first_hit [] ≡ done
unfolding first_hit
none_hits = refl
