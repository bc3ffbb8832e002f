-- The refusals that columns have beside those of single calls.
use Rattle.std.specs.Prelude.{Bool, not, ◌&&◌, ◌||◌, ℕ, pos, eqb, ltb}
use Rattle.exact.specs.Fraction.{whole}
use Rattle.call.specs.Operation.{over}
use Rattle.call.specs.Verdict.{Test}
use Rattle.call.specs.Number.{zero_divisor, wrong_length}
use Rattle.word.specs.Member.{is_member}

-- the greatest number of words in a column
abbrev pub longest_column : ℕ
longest_column = 4096

-- 5: the divisor range has 0 as a member
unfoldable pub holds_zero : ℕ → ℕ → ℕ → Bool
holds_zero n es w = is_member n es w (whole (pos 0))

abbrev pub divisor_test_at : ℕ → ℕ → ℕ → ℕ → ℕ → Test
divisor_test_at n es place op w = record { hit = eqb op over && holds_zero n es w; gives = record { number = zero_divisor; place = place } }

-- 7: columns of unequal length or over 4,096
abbrev pub length_test : ℕ → ℕ → Test
length_test left right = record { hit = not (eqb left right) || ltb longest_column left; gives = record { number = wrong_length; place = 0 } }
