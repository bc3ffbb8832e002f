-- (1,2) is below [2,3], and [1,2] is not: by the cells of their members, which the definitions compute.
use mathlib.Core.Path.{refl}
use mathlib.Core.Logic.{inl, inr}
use native.Mathlib.Omega.{arith}
use Rattle.word.specs.Word.{kind_of_tiles}
use Rattle.word.specs.Member.{Real, Below}
use Rattle.word.proofs.Comparisons.{below_by_cells}
use Rattle.figures.specs.Figures.{width, exponent_size, open_one_two, one_two, two_three}

open_real : Real width open_one_two
unfolding kind_of_tiles
open_real = record { fits = omega arith; no_infinity = refl }

closed_real : Real width one_two
unfolding kind_of_tiles
closed_real = record { fits = omega arith; no_infinity = refl }

above_real : Real width two_three
unfolding kind_of_tiles
above_real = record { fits = omega arith; no_infinity = refl }

pub open_is_below : Below width exponent_size open_one_two two_three
open_is_below = (below_by_cells width exponent_size (omega arith) open_real above_real).1 (inr (inr (omega arith)))

pub closed_is_not_below : ¬ Below width exponent_size one_two two_three
closed_is_not_below h =
    elim ((below_by_cells width exponent_size (omega arith) closed_real above_real).0 h) [
      | inl e ↦ absurd (omega (arith, e))
      | inr d ↦ elim d [ inl e ↦ absurd (omega (arith, e)) | inr e ↦ absurd (omega (arith, e)) ]
    ]
