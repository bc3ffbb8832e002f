-- The refusals of calls on ranges, in the order in which they are tested.
use Rattle.std.specs.Prelude.{◌&&◌, List, [], ◌∷◌, ℕ, pos, leb, eqb}
use Rattle.exact.specs.Fraction.{whole}
use Rattle.call.specs.Operation.{over, operation_test}
use Rattle.call.specs.Verdict.{Verdict, Test, first_hit}
use Rattle.call.specs.Place.{left, right}
use Rattle.posit.specs.Refusal.{format_test}
use Rattle.call.specs.Number.{too_large, holds_infinity, zero_divisor}
use Rattle.word.specs.Word.{words, kind, is_infinite}
use Rattle.word.specs.Member.{is_member}

-- 3: range word of 2^(2n+2) or more
abbrev pub word_test : ℕ → ℕ → ℕ → Test
word_test n place w = record { hit = leb (words n) w; gives = record { number = too_large; place = place } }

-- 4: the range holds infinity
abbrev pub infinity_test : ℕ → ℕ → ℕ → Test
infinity_test n place w = record { hit = is_infinite (kind n w); gives = record { number = holds_infinity; place = place } }

-- 3 and 4 for a word
unfoldable pub word_tests : ℕ → ℕ → ℕ → List Test
word_tests n place w = word_test n place w ∷ infinity_test n place w ∷ []

-- 5: the divisor range has 0 as a member
abbrev pub divisor_test : ℕ → ℕ → ℕ → ℕ → Test
divisor_test n es op w = record { hit = eqb op over && is_member n es w (whole (pos 0)); gives = record { number = zero_divisor; place = right } }

-- 3 and 4 for both operands
abbrev pub operand_tests : ℕ → ℕ → ℕ → List Test → List Test
operand_tests n a b rest = word_test n left a ∷ infinity_test n left a ∷ word_test n right b ∷ infinity_test n right b ∷ rest

-- two words of a format
unfoldable pub verdict_of_words : ℕ → ℕ → ℕ → Verdict
verdict_of_words n a b = first_hit (operand_tests n a b [])

-- the operands of an operation
unfoldable pub verdict_of_operands : ℕ → ℕ → ℕ → ℕ → ℕ → Verdict
verdict_of_operands n es op a b = first_hit (operand_tests n a b (divisor_test n es op b ∷ []))

-- negation, and a range going out
unfoldable pub verdict_of_range : ℕ → ℕ → ℕ → Verdict
verdict_of_range n es a = first_hit (format_test n es ∷ word_test n left a ∷ infinity_test n left a ∷ [])

-- the three comparisons
unfoldable pub verdict_of_ranges : ℕ → ℕ → ℕ → ℕ → Verdict
verdict_of_ranges n es a b = first_hit (format_test n es ∷ operand_tests n a b [])

-- an operation
unfoldable pub verdict_of_range_operation : ℕ → ℕ → ℕ → ℕ → ℕ → Verdict
verdict_of_range_operation n es op a b = first_hit (format_test n es ∷ operation_test op ∷ operand_tests n a b (divisor_test n es op b ∷ []))
