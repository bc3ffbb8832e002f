-- The refusals that sheets have beside those of single calls.
use Rattle.std.specs.Prelude.{not, ◌||◌, ℕ, ◌/◌, ◌%◌, eqb, leb, ltb}
use Rattle.call.specs.Verdict.{Test}
use Rattle.call.specs.Number.{wrong_length, not_earlier}

-- the greatest number of inputs and of steps, and the bytes of a step
abbrev pub most_inputs : ℕ
most_inputs = 32

abbrev pub most_steps : ℕ
most_steps = 64

abbrev pub step_bytes : ℕ
step_bytes = 3

-- 7: over 32 inputs or 64 steps; a step list that is no whole number of steps
abbrev pub size_test : ℕ → ℕ → Test
size_test inputs bytes =
    record {
      hit = ltb most_inputs inputs || (ltb most_steps (bytes / step_bytes) || not (eqb (bytes % step_bytes) 0));
      gives = record { number = wrong_length; place = 0 };
    }

-- 8: a step names a row that isn't earlier
abbrev pub earlier_test : ℕ → ℕ → ℕ → Test
earlier_test row left right = record { hit = leb row left || leb row right; gives = record { number = not_earlier; place = row } }
