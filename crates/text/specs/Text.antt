-- The text that `sheetrows` prints, as a list of bytes: a line for each row, or one line for a refusal.
use Rattle.std.specs.Prelude.{Bool, true, false, List, [], ◌∷◌, ◌++◌, ℕ, zero, suc, ◌+◌, ◌-◌, ◌/◌, ◌%◌, ltb}
use Rattle.word.specs.Word.{start_tile, end_tile, posit_of, mark_of}

-- `ROW` and `NO`, a space and a line feed
abbrev pub row_word : List ℕ
row_word = 82 ∷ 79 ∷ 87 ∷ []

abbrev pub no_word : List ℕ
no_word = 78 ∷ 79 ∷ []

abbrev pub space : ℕ
space = 32

abbrev pub line_feed : ℕ
line_feed = 10

-- one space stands before each field but the first
abbrev pub field : List ℕ → List ℕ
field bytes = space ∷ bytes

-- ---- numbers
abbrev pick : {A : Type 0} → Bool → A → A → A
pick true a b = a
pick false a b = b

-- a digit below 16: `0` to `9`, then lowercase `a` to `f`
unfoldable pub digit : ℕ → ℕ
digit d = pick (ltb d 10) (48 + d) (97 + (d - 10))

-- four hexadecimal digits, the high one first
abbrev pub hex4 : ℕ → List ℕ
hex4 p = digit (p / 4096 % 16) ∷ digit (p / 256 % 16) ∷ digit (p / 16 % 16) ∷ digit (p % 16) ∷ []

-- decimal digits, the high one first: those of x / 10 and then x % 10; x itself bounds their count
unfoldable pub decimal_within : ℕ → ℕ → List ℕ
decimal_within zero x = digit x ∷ []
decimal_within (suc bound) x = pick (ltb x 10) (digit x ∷ []) (decimal_within bound (x / 10) ++ digit (x % 10) ∷ [])

unfoldable pub decimal : ℕ → List ℕ
decimal x = decimal_within x x

-- ---- the ends of a range: a posit and its mark, `c` for closed and `o` for open
unfoldable pub mark_byte : ℕ → ℕ
mark_byte zero = 99
mark_byte (suc u) = 111

abbrev pub end_fields : ℕ → List ℕ
end_fields tile = field (hex4 (posit_of tile)) ++ field (mark_byte (mark_of tile) ∷ [])

abbrev pub range_fields : ℕ → ℕ → List ℕ
range_fields n w = end_fields (start_tile n w) ++ end_fields (end_tile n w)

-- ---- lines
unfoldable pub row_line : ℕ → ℕ → ℕ → List ℕ
row_line n row w = row_word ++ field (decimal row) ++ range_fields n w ++ line_feed ∷ []

unfoldable pub refusal_line : ℕ → ℕ → List ℕ
refusal_line number place = no_word ++ field (decimal number) ++ field (decimal place) ++ line_feed ∷ []

-- the lines of all rows in order, the first one's number given
unfoldable pub row_lines : ℕ → ℕ → List ℕ → List ℕ
row_lines n row [] = []
row_lines n row (w ∷ rows) = row_line n row w ++ row_lines n (suc row) rows

-- by the number that working a sheet came to: its rows, or only the refusal
unfoldable pub text_of : ℕ → ℕ → ℕ → List ℕ → List ℕ
text_of n zero place rows = row_lines n 0 rows
text_of n (suc k) place rows = refusal_line (suc k) place
