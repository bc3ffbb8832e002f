-- The definitions compute to every digest of the table.
use mathlib.Core.Path.{◌≡◌, refl}
use mathlib.Core.Bool.{true}
use Rattle.posit.specs.Reading.{run}
use Rattle.posit.specs.Value.{multiple, units}
use Rattle.posit.specs.Nearest.{floor_up_to, chosen, nearest_above, nearest}
use Rattle.posit.specs.Arithmetic.{answer}
use Rattle.agreement.specs.Digest.{values_from, answers_from}
use Rattle.agreement.specs.Table.{holds, all, small, operations, piece0, piece1, piece2, piece3, piece4, piece5, piece6, piece7, piece8, piece9, piece10, piece11}

pub small_hold : all small ≡ true
unfolding run multiple units values_from
small_hold = refl

pub operations_hold : all operations ≡ true
unfolding run multiple units floor_up_to chosen nearest_above nearest answer answers_from
operations_hold = refl

pub piece0_holds : holds piece0 ≡ true
unfolding run multiple units values_from
piece0_holds = refl

pub piece1_holds : holds piece1 ≡ true
unfolding run multiple units values_from
piece1_holds = refl

pub piece2_holds : holds piece2 ≡ true
unfolding run multiple units values_from
piece2_holds = refl

pub piece3_holds : holds piece3 ≡ true
unfolding run multiple units values_from
piece3_holds = refl

pub piece4_holds : holds piece4 ≡ true
unfolding run multiple units values_from
piece4_holds = refl

pub piece5_holds : holds piece5 ≡ true
unfolding run multiple units values_from
piece5_holds = refl

pub piece6_holds : holds piece6 ≡ true
unfolding run multiple units values_from
piece6_holds = refl

pub piece7_holds : holds piece7 ≡ true
unfolding run multiple units values_from
piece7_holds = refl

pub piece8_holds : holds piece8 ≡ true
unfolding run multiple units values_from
piece8_holds = refl

pub piece9_holds : holds piece9 ≡ true
unfolding run multiple units values_from
piece9_holds = refl

pub piece10_holds : holds piece10 ≡ true
unfolding run multiple units values_from
piece10_holds = refl

pub piece11_holds : holds piece11 ≡ true
unfolding run multiple units values_from
piece11_holds = refl
