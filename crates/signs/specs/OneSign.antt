-- Ranges whose members all have one sign: the results are those of the magnitudes, turned round where the signs differ.
use Rattle.std.specs.Prelude.{Bool, true, ◌||◌, ◌≡◌, ℕ, ◌^◌, ◌≤◌, ltb, leb}
use Rattle.std.specs.Bool.{beq}
use Rattle.word.specs.declared.inner.span.Span.{Span}
use Rattle.word.specs.Spans.{top_cell, mirrored}
use Rattle.signs.specs.Signs.{pick_span, turned_cells}
use Rattle.cell.specs.Cells.{zero_cell}

-- whether all cells lie above that of 0, and whether they all lie above it or all below
abbrev pub is_above : ℕ → Span → Bool
is_above n s = leb (2 ^ n) s.lo

abbrev pub has_one_sign : ℕ → Span → Bool
has_one_sign n s = is_above n s || ltb s.hi (zero_cell n)

-- members, all of one sign
pub record OneSign (n : ℕ) (s : Span) : Type 0 where
  pub there : s.hi ≤ top_cell n
  pub some : s.lo ≤ s.hi
  pub one_sign : has_one_sign n s ≡ true

-- the cells of the magnitudes
abbrev pub magnitudes : ℕ → Span → Span
magnitudes n s = pick_span (is_above n s) s (mirrored n s)

-- the results of x and y from those of their magnitudes
abbrev pub with_signs : ℕ → Span → Span → Span → Span
with_signs n x y s = pick_span (beq (is_above n x) (is_above n y)) s (turned_cells n s)
