-- The inner language of ranges: an interval of cells, numbered from 0 up; cell 2k + 1 is posit number k alone, and the even cells are
-- the gaps below, between and above the posits. An interval with lo above hi is empty.
use Rattle.std.specs.Prelude.{◌≡◌, Bool, true, false, ℕ, ◌+◌, ◌-◌, ◌*◌, ◌/◌, ◌%◌, ◌^◌, ◌≤◌, ◌<◌, eqb, ltb}
use Rattle.posit.specs.Format.{negated}
use Rattle.word.specs.declared.inner.span.Span.{Span}
use Rattle.word.specs.Word.{tiles, start_tile, end_tile, open_nar, empty_word, word_of}

-- the topmost cell, the gap above the largest posit
abbrev pub top_cell : ℕ → ℕ
top_cell n = tiles n - 2

-- the first cell after a start tile, and the last cell before an end tile; a closed NaR has none
abbrev pub start_cell : ℕ → ℕ → ℕ
start_cell n t = (t + 2 ^ n) % tiles n - 1

abbrev pick_cell : Bool → ℕ → ℕ → ℕ
pick_cell true a b = a
pick_cell false a b = b

abbrev pub end_cell : ℕ → ℕ → ℕ
end_cell n t = pick_cell (eqb t (open_nar n)) (top_cell n) ((t + 2 ^ n) % tiles n - 1 - 2 * (t % 2))

-- and back
abbrev pub start_tile_at : ℕ → ℕ → ℕ
start_tile_at n c = (c + 1 + 2 ^ n) % tiles n

abbrev pub end_tile_at : ℕ → ℕ → ℕ
end_tile_at n c = pick_cell (eqb c (top_cell n)) (open_nar n) ((c + 3 - 2 * (c % 2) + 2 ^ n) % tiles n)

-- no cell at all
abbrev pub no_cells : ℕ → Span
no_cells n = record { lo = top_cell n + 1; hi = 0 }

abbrev pick_span : Bool → Span → Span → Span
pick_span true a b = a
pick_span false a b = b

-- the cells between two tiles
abbrev pub between : ℕ → ℕ → ℕ → Span
between n s e = pick_span (ltb (end_cell n e) (start_cell n s)) (no_cells n) (record { lo = start_cell n s; hi = end_cell n e })

-- the cells of a real range's members
abbrev pub cells_of : ℕ → ℕ → Span
cells_of n w = between n (start_tile n w) (end_tile n w)

-- the cells of the negatives
abbrev pub mirrored : ℕ → Span → Span
mirrored n s = pick_span (ltb s.hi s.lo) (no_cells n) (record { lo = top_cell n - s.hi; hi = top_cell n - s.lo })

-- an interval of cells of the format, or none
pub record Cells (n : ℕ) (s : Span) : Type 0 where
  pub low_there : s.lo ≤ top_cell n + 1
  pub high_there : s.hi ≤ top_cell n

-- the cells of a real range: a first and a last one, or none
pub record RealCells (n : ℕ) (s : Span) : Type 0 where
  pub there : Cells n s
  pub ordered : s.lo ≤ top_cell n → s.lo ≤ s.hi
  pub none : s.hi < s.lo → s ≡ no_cells n

-- the word of an interval of cells; the canonical empty word for none
abbrev pick_word : Bool → ℕ → ℕ → ℕ
pick_word true a b = a
pick_word false a b = b

abbrev pub word_at : ℕ → Span → ℕ
word_at n s = pick_word (ltb s.hi s.lo) (empty_word n) (word_of n (start_tile_at n s.lo) (end_tile_at n s.hi))

-- a tile with its posit negated
abbrev pub turned_tile : ℕ → ℕ → ℕ
turned_tile n t = 2 * negated n (t / 2) + t % 2
