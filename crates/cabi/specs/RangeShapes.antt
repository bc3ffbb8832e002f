-- The plain shapes of the range calls' answers: a refusal by its number and place, with 0, false and +0.0 for what is refused; else number 0 at place 0.
use Rattle.std.specs.Prelude.{Bool, false, ℕ, Result, Ok, Err}
use Rattle.call.specs.declared.refusal.Refusal.{Refusal}
use Rattle.call.specs.Number.{number_of}
use Rattle.posit.specs.Floats.{plus_zero}
use Rattle.reading.specs.declared.reading.Outgoing.{Outgoing}
use Rattle.cabi.specs.declared.range_shape.RangeAnswer.{RangeAnswer}
use Rattle.cabi.specs.declared.range_shape.RangeOutgoing.{RangeOutgoing}
use Rattle.cabi.specs.declared.range_shape.RangeReply.{RangeReply}

abbrev pub of_word : Result ℕ Refusal → RangeAnswer
of_word (Ok w) = record { number = 0; place = 0; word = w }
of_word (Err e) = record { number = number_of e.reason; place = e.place; word = 0 }

abbrev pub of_reply : Result Bool Refusal → RangeReply
of_reply (Ok answer) = record { number = 0; place = 0; yes = answer }
of_reply (Err e) = record { number = number_of e.reason; place = e.place; yes = false }

abbrev pub of_outgoing : Result Outgoing Refusal → RangeOutgoing
of_outgoing (Ok x) =
    record { number = 0; place = 0; low = x.low; high = x.high; low_open = x.low_open; high_open = x.high_open; empty = x.empty }
of_outgoing (Err e) =
    record { number = number_of e.reason; place = e.place; low = plus_zero; high = plus_zero; low_open = false; high_open = false; empty = false }
