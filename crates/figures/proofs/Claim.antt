-- Every bench figure holds, because the definitions compute to its answer.
use mathlib.Core.Path.{◌≡◌, refl}
use mathlib.Core.Bool.{true}
use Rattle.posit.specs.Reading.{run}
use Rattle.posit.specs.Value.{multiple, units}
use Rattle.posit.specs.Nearest.{floor_up_to, chosen, nearest_above, nearest}
use Rattle.posit.specs.Arithmetic.{answer}
use Rattle.word.specs.Word.{kind_of_tiles}
use Rattle.word.specs.Computed.{answer_of}
use Rattle.figures.specs.Figures.{figures, all}
use Rattle.figures.specs.Words.{listed, given, wanted}

pub figures_hold : all figures ≡ true
unfolding run multiple units floor_up_to chosen nearest_above nearest answer answer_of
figures_hold = refl

-- every word of document 01's list is what the list says
pub words_are_so : given listed ≡ wanted listed
unfolding kind_of_tiles
words_are_so = refl
