-- What the library says of a file's first bytes is what the mark's test says.
use Rattle.std.proofs.Common.{◌≡◌, ℕ, Bool, true, false, ◌&&◌, List, [], ◌∷◌, refl, sym, nat_eq}
use Rattle.std.specs.List.{starts_with}
use lib.Dec.{eqb}
use borrow.Author.Tests.{eqb-true, eq-eqb}
use Rattle.file.specs.File.{mark, has_mark}

and_true : (b : Bool) → (b && true) ≡ b
and_true true = refl
and_true false = refl

both_ways : (b d : Bool) → (b ≡ true → d ≡ true) → (d ≡ true → b ≡ true) → b ≡ d
both_ways true d f g = sym (f refl)
both_ways false true f g = g refl
both_ways false false f g = refl

eqb_turned : (a b : ℕ) → eqb a b ≡ eqb b a
eqb_turned a b = both_ways (eqb a b) (eqb b a) (λ e. eq-eqb b a (sym (eqb-true a b e))) (λ e. eq-eqb a b (sym (eqb-true b a e)))

pub mark_read : (file : List ℕ) → starts_with nat_eq file mark ≡ has_mark file
unfolding has_mark
mark_read [] = refl
mark_read (a ∷ []) = rw (eqb_turned 82 a)
mark_read (a ∷ b ∷ []) = rw (eqb_turned 82 a, eqb_turned 83 b)
mark_read (a ∷ b ∷ c ∷ file) = rw (eqb_turned 82 a, eqb_turned 83 b, eqb_turned 72 c, and_true (eqb c 72))
