-- The plain shape of the answers of calls that write into a lent column: a refusal by its number and place, with no word written; else the count of words.
use Rattle.std.specs.Prelude.{ℕ, Result, Ok, Err}
use Rattle.call.specs.declared.refusal.Refusal.{Refusal}
use Rattle.call.specs.Number.{number_of}
use Rattle.cabi.specs.declared.sheet_shape.SheetAnswer.{SheetAnswer}

abbrev pub of_count : Result ℕ Refusal → SheetAnswer
of_count (Ok count) = record { number = 0; place = 0; count = count }
of_count (Err e) = record { number = number_of e.reason; place = e.place; count = 0 }
