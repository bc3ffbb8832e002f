-- Two columns combined pair by pair: the verdict, and the words that are written.
use Rattle.std.specs.Prelude.{List, [], ◌∷◌, ◌++◌, ℕ, suc, length}
use Rattle.call.specs.Verdict.{Verdict, Test, first_hit}
use Rattle.posit.specs.Refusal.{format_test}
use Rattle.call.specs.Operation.{operation_test}
use Rattle.word.specs.Computed.{answer_of}
use Rattle.word.specs.Refusal.{word_tests}
use Rattle.column.specs.Refusal.{divisor_test_at, length_test}
use Rattle.call.specs.Written.{room_test}

-- 1, 2, 7 and 9, of the columns' lengths
abbrev pub column_limits : ℕ → ℕ → ℕ → ℕ → ℕ → ℕ → ℕ → List Test
column_limits n es op left right row lent = format_test n es ∷ operation_test op ∷ length_test left right ∷ room_test row left lent ∷ []

-- 3 and 4 for the left word, 3 and 4 for the right one, then 5
abbrev pub pair_tests : ℕ → ℕ → ℕ → ℕ → ℕ → ℕ → List Test
pair_tests n es op place a b = word_tests n place a ++ (word_tests n place b ++ (divisor_test_at n es place op b ∷ []))

-- the same pair by pair, the first pair's place given
unfoldable pub pairs_tests : ℕ → ℕ → ℕ → ℕ → List ℕ → List ℕ → List Test
pairs_tests n es op place [] right = []
pairs_tests n es op place (a ∷ left) [] = []
pairs_tests n es op place (a ∷ left) (b ∷ right) = pair_tests n es op place a b ++ pairs_tests n es op (suc place) left right

abbrev pub column_tests : ℕ → ℕ → ℕ → List ℕ → List ℕ → ℕ → ℕ → List Test
column_tests n es op left right row lent = column_limits n es op (length left) (length right) row lent ++ pairs_tests n es op 0 left right

-- the last argument is the length of the lent column
unfoldable pub verdict_of_columns : ℕ → ℕ → ℕ → List ℕ → List ℕ → ℕ → ℕ → Verdict
verdict_of_columns n es op left right row lent = first_hit (column_tests n es op left right row lent)

-- the answers pair by pair
unfoldable pub answers_of : ℕ → ℕ → ℕ → List ℕ → List ℕ → List ℕ
answers_of n es op [] right = []
answers_of n es op (a ∷ left) [] = []
answers_of n es op (a ∷ left) (b ∷ right) = answer_of n es op a b ∷ answers_of n es op left right
