-- Document 01's example file has document 01's text, because the definitions compute to it.
use mathlib.Core.Path.{◌≡◌, refl}
use Rattle.call.specs.Verdict.{first_hit}
use Rattle.posit.specs.Reading.{run}
use Rattle.posit.specs.Value.{multiple, units}
use Rattle.posit.specs.Nearest.{floor_up_to, chosen, nearest_above, nearest}
use Rattle.word.specs.Computed.{answer_of}
use Rattle.word.specs.Word.{kind_of_tiles}
use Rattle.file.specs.File.{number_of, words_of, file_of, has_mark, verdict_of_file, rows_of_file}
use Rattle.word.specs.Refusal.{word_tests}
use Rattle.column.specs.Refusal.{holds_zero}
use Rattle.sheet.specs.Sheet.{steps_of, rows_of, inputs_tests, steps_tests}
use Rattle.text.specs.Example.{example_file, example_text}
use Rattle.text.specs.FileText.{text_of_file}
use Rattle.text.specs.Text.{digit, decimal_within, decimal, mark_byte, row_line, refusal_line, row_lines, text_of}

pub example_text_says : text_of_file example_file ≡ example_text
unfolding run multiple units floor_up_to chosen nearest_above nearest answer_of kind_of_tiles number_of words_of file_of has_mark verdict_of_file rows_of_file word_tests holds_zero steps_of rows_of inputs_tests steps_tests digit decimal_within decimal mark_byte row_line refusal_line row_lines text_of text_of_file first_hit
example_text_says = refl
