-- The bench figures of document 01, n = 8 and es = 2: one list, and one claim that each case has its answer by the definitions.
use Rattle.std.specs.Prelude.{Bool, true, ◌&&◌, List, [], ◌∷◌, ℕ, ◌+◌, ◌*◌, eqb}
use Rattle.call.specs.Operation.{plus, times, over}
use Rattle.posit.specs.Arithmetic.{answer}
use Rattle.word.specs.Word.{word_of}
use Rattle.word.specs.Computed.{answer_of}

-- the bench's format
abbrev pub width : ℕ
width = 8

abbrev pub exponent_size : ℕ
exponent_size = 2

-- a range by its end tiles
abbrev pub closed : ℕ → ℕ
closed p = 2 * p

abbrev pub open_end : ℕ → ℕ
open_end p = 2 * p + 1

abbrev pub word : ℕ → ℕ → ℕ
word start end = word_of width start end

-- an operation number, two posits or two ranges, and the posit or range that is the answer
pub data Case : Type 0 where
  posits : ℕ → ℕ → ℕ → ℕ → Case
  ranges : ℕ → ℕ → ℕ → ℕ → Case

abbrev pub figures : List Case
figures =
    posits plus 0x40 0x40 0x48  -- A
    ∷ posits over 0x40 0x4c 0x33  -- B
    ∷ posits plus 0x40 0x20 0x40  -- C, a tie
    ∷ posits plus 0x41 0x20 0x42  -- D, a tie
    ∷ posits times 0x7e 0x50 0x7e  -- E, 2^22, a tie
    ∷ posits times 0x7e 0x58 0x7f  -- F, 2^23
    ∷ posits times 0x01 0x01 0x01  -- G
    ∷ posits over 0x40 0x00 0x80  -- H
    ∷ ranges times (word (closed 0x00) (open_end 0x40)) (word (open_end 0x40) (open_end 0x48)) (word (closed 0x00) (open_end 0x48))  -- I
    ∷ ranges times (word (closed 0xc0) (open_end 0x40)) (word (closed 0xc0) (open_end 0x40)) (word (open_end 0xc0) (closed 0x40))  -- J
    ∷ ranges plus (word (closed 0x7f) (closed 0x7f)) (word (closed 0x40) (closed 0x40)) (word (open_end 0x7f) (open_end 0x80))  -- K
    ∷ ranges over (word (closed 0x40) (closed 0x40)) (word (open_end 0x00) (closed 0x40)) (word (closed 0x40) (open_end 0x80))  -- L
    ∷ []

abbrev pub holds : Case → Bool
holds (posits op p q r) = eqb (answer width exponent_size op p q) r
holds (ranges op a b c) = eqb (answer_of width exponent_size op a b) c

abbrev pub all : List Case → Bool
all [] = true
all (c ∷ cs) = holds c && all cs

-- ---- the ranges of document 01's comparison: (1,2), [1,2] and [2,3]
abbrev pub open_one_two : ℕ
open_one_two = word (open_end 0x40) (open_end 0x48)

abbrev pub one_two : ℕ
one_two = word (closed 0x40) (closed 0x48)

abbrev pub two_three : ℕ
two_three = word (closed 0x48) (closed 0x4c)
