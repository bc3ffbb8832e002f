-- The words of document 01's list, n = 8, each with what it is.
use Rattle.std.specs.Prelude.{List, [], ◌∷◌, ℕ}
use Rattle.word.specs.Word.{Kind, holds_infinity, unbounded, interval, point, empty, kind}
use Rattle.figures.specs.Figures.{width, closed, open_end, word}

pub record Listed : Type 0 where
  pub range : ℕ
  pub is : Kind

abbrev pub listed : List Listed
listed =
    record { range = word (closed 0x80) (closed 0x40); is = holds_infinity }
    ∷ record { range = word (open_end 0x40) (closed 0x80); is = holds_infinity }
    ∷ record { range = word (closed 0x80) (open_end 0x80); is = holds_infinity }
    ∷ record { range = word (open_end 0x80) (closed 0x40); is = unbounded }
    ∷ record { range = word (closed 0x52) (open_end 0x80); is = unbounded }  -- the reals from 5 up
    ∷ record { range = word (open_end 0x80) (open_end 0x80); is = unbounded }  -- all reals
    ∷ record { range = word (closed 0x40) (open_end 0x48); is = interval }
    ∷ record { range = word (open_end 0xc0) (closed 0x00); is = interval }
    ∷ record { range = word (closed 0x40) (closed 0x40); is = point }
    ∷ record { range = word (open_end 0x40) (open_end 0x40); is = empty }
    ∷ record { range = word (open_end 0x00) (open_end 0x00); is = empty }
    ∷ record { range = word (closed 0x40) (open_end 0x40); is = holds_infinity }  -- the full circle
    ∷ record { range = word (open_end 0x40) (closed 0x40); is = holds_infinity }
    ∷ record { range = word (closed 0x48) (closed 0x40); is = holds_infinity }  -- start above end
    ∷ []

-- the kinds that the definitions give, and those of the list
abbrev pub given : List Listed → List Kind
given [] = []
given (x ∷ xs) = kind width x.range ∷ given xs

abbrev pub wanted : List Listed → List Kind
wanted [] = []
wanted (x ∷ xs) = x.is ∷ wanted xs
