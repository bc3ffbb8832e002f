-- Ranges with members on both sides of 0: with an operand of one sign their results lie on both sides too, and reach as far as the results of
-- the outermost members.
use Rattle.std.specs.Prelude.{Bool, ◌&&◌, ℕ, ◌-◌, ◌^◌, ◌≤◌, ◌<◌, ltb, leb}
use Rattle.word.specs.declared.inner.span.Span.{Span}
use Rattle.word.specs.Spans.{top_cell}
use Rattle.signs.specs.Signs.{pick_span}
use Rattle.cell.specs.Cells.{zero_cell}
use Rattle.signs.specs.OneSign.{is_above, has_one_sign}

-- whether there are cells above that of 0 and below it
abbrev pub is_mixed : ℕ → Span → Bool
is_mixed n s = leb (2 ^ n) s.hi && ltb s.lo (zero_cell n)

-- the same of x, where y has one sign
abbrev pub is_mixed_by : ℕ → Span → Span → Bool
is_mixed_by n x y = is_mixed n x && has_one_sign n y

-- members on both sides
pub record Mixed (n : ℕ) (s : Span) : Type 0 where
  pub there : s.hi ≤ top_cell n
  pub below : s.lo < zero_cell n
  pub above : 2 ^ n ≤ s.hi

-- the results that reach to the cell `above`, and below 0 to the negatives of the cell `below`, turned round where y is below 0
abbrev pub around : ℕ → Span → ℕ → ℕ → Span
around n y below above =
    pick_span (is_above n y) (record { lo = top_cell n - below; hi = above }) (record { lo = top_cell n - above; hi = below })
