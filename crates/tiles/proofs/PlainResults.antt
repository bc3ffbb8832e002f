-- The answer for two plain ranges reaches from the exact result of two of their ends to that of the other two: there is no sign and no empty answer, the
-- only limit that may be missing is a start at the open 0, and the tile of a cell above that of 0 is its distance from the cells up to 0.
use Rattle.std.proofs.Common.{◌≡◌, ℕ, ◌+◌, ◌-◌, ◌*◌, ◌/◌, ◌%◌, ◌^◌, ◌<◌, ◌≤◌, Bool, true, false, ◌⊎◌, pos, sym, refl, ap, ◌∙◌, ap₂, inl, inr, mod-lt, mod-eq_of_lt, arith, pow_pos}
use mathlib.Core.Bool.{beq}
use native.Mathlib.Decide.{dec_lt}
use lib.Bits.{bit_or}
use Rattle.exact.specs.Fraction.{Fraction, ◌<ᶠ◌, whole, ◌+ᶠ◌}
use Rattle.exact.proofs.Order.{≈_<ᶠ, ≈_sym, ≤ᶠ_of_<ᶠ}
use Rattle.exact.proofs.Powers.{parity}
use Rattle.exact.proofs.Product.{product_above_above}
use Rattle.exact.proofs.Quotient.{quotient_above_above}
use Rattle.exact.proofs.Sum.{+ᶠ_mono_<, +ᶠ_idl}
use Rattle.bound.specs.Fractions.{same_of_≈}
use Rattle.bound.specs.Cell.{cell}
use Rattle.bound.proofs.CellEnd.{cell_has_number}
use Rattle.bound.proofs.Extent.{NoMember}
use Rattle.call.specs.Operation.{over}
use Rattle.posit.specs.Format.{Format, nar}
use Rattle.posit.specs.Parts.{chosen_by}
use Rattle.posit.specs.Value.{value}
use Rattle.posit.proofs.Ends.{value_positive}
use Rattle.posit.proofs.Mirror.{power_wider}
use Rattle.posit.proofs.Patterns.{some_bit}
use Rattle.word.specs.declared.inner.span.Span.{Span}
use Rattle.word.specs.Word.{tiles, start_tile, end_tile, word_of}
use Rattle.word.specs.Member.{Real, Member}
use Rattle.word.specs.Smallest.{Result}
use Rattle.word.specs.Spans.{top_cell, start_cell, end_cell, start_tile_at, end_tile_at, cells_of, word_at}
use Rattle.word.specs.Computed.{cell_of, answer_of}
use Rattle.cell.specs.Cells.{sum_start, sum_end, sum_cells, result_of, result_cell}
use Rattle.signs.specs.Signs.{start_edge, end_edge, first_cell, last_cell, turned_cells, pick_span, positive_some, result_cells}
use Rattle.signs.specs.OneSign.{with_signs}
use Rattle.tiles.specs.Plain.{is_plain, PlainEnd}
use Rattle.tiles.specs.Scaled.{operation_of, first_tile, last_tile, edge_at}
use Rattle.word.proofs.Grid.{posits, once_over, half}
use Rattle.word.proofs.Places.{top_cell_says}
use Rattle.word.proofs.Tiles.{half_large, end_tile_is}
use Rattle.word.proofs.WordAt.{word_at_some, word_at_none}
use Rattle.word.proofs.Members.{member_cells}
use Rattle.word.proofs.Empty.{Usable, computed_empty_word_iff, no_result_iff}
use Rattle.cell.proofs.CellFrom.{cell_bounded}
use Rattle.cell.proofs.ZeroCell.{above_cell, zero_below}
use Rattle.cell.proofs.SumCells.{end_found}
use Rattle.cell.proofs.SumRange.{sum_word, sum_answer}
use Rattle.signs.proofs.SignedCells.{product_answer, quotient_answer}
use Rattle.signs.proofs.OneSigned.{above_magnitudes, results_of_magnitudes}
use Rattle.cell.proofs.Marks.{open_mark, with_mark}
use Rattle.tiles.proofs.PlainCells.{first_of, last_of, plain_tiles, plain_start, plain_end, plain_last, plain_between, plain_cells, real_of_plain, plain_one_sign, plain_above, cells_ordered, ends_ordered, last_there, end_posit_is, end_mark_is}
use Rattle.tiles.proofs.Edges.{start_edge_at, end_edge_at, first_edge_at, last_edge_at}

-- ---- two closed ends, as a mark
abbrev pub both_closed : ℕ → ℕ → ℕ
both_closed s t = (1 - s % 2) * (1 - t % 2)

pub closed_by : (s t : ℕ) → (both_closed s t ≡ 0) ⊎ (both_closed s t ≡ 1)
closed_by s t = by (parity s) (parity t)
  where
    by : (s % 2 ≡ 0) ⊎ (s % 2 ≡ 1) → (t % 2 ≡ 0) ⊎ (t % 2 ≡ 1) → (both_closed s t ≡ 0) ⊎ (both_closed s t ≡ 1)
    by (inl e) (inl f) = inr (rw (e, f) refl)
    by (inl e) (inr f) = inl (rw (e, f) refl)
    by (inr e) (inl f) = inl (rw (e, f) refl)
    by (inr e) (inr f) = inl (rw (e, f) refl)

pub open_either : (s t : ℕ) → (s % 2 ≡ 1) ⊎ (t % 2 ≡ 1) → both_closed s t ≡ 0
open_either s t (inl e) = rw e (omega arith)
open_either s t (inr e) = rw e (omega arith)

-- the first and the last cell of the results at two ends, by the cell of their exact result
abbrev pub first_from : ℕ → ℕ → ℕ → ℕ
first_from s t c = chosen_by (both_closed s t) (2 * ((c + 1) / 2)) c

abbrev pub last_from : ℕ → ℕ → ℕ → ℕ
last_from s t c = chosen_by (both_closed s t) (2 * (c / 2)) c

-- ---- the tiles of a cell are tiles of the format
pub start_tile_fits : (n c : ℕ) → start_tile_at n c < tiles n
start_tile_fits n c = mod-lt (c + 1 + 2 ^ n) (pow_pos (n + 1))

pub end_tile_fits : (n c : ℕ) → 3 ≤ n → end_tile_at n c < tiles n
end_tile_fits n c wide = rw (← end_tile_is n refl wide c, power_wider n) (mod-lt (c + 3 - 2 * (c % 2) + 2 ^ n) (omega (arith, half_large wide)))

-- ---- the start tile of a cell: half a turn away
module _ (n : ℕ) (wide : 3 ≤ n) {c : ℕ} (there : c ≤ top_cell n) where
  start_tile_low : c + 1 < 2 ^ n → start_tile_at n c ≡ c + 1 + 2 ^ n
  start_tile_low l = mod-eq_of_lt (omega (arith, power_wider n))

  start_tile_high : 2 ^ n ≤ c + 1 → start_tile_at n c ≡ c + 1 - 2 ^ n
  start_tile_high l =
      once_over {x = c + 1 + 2 ^ n} {m = tiles n} (omega (arith, power_wider n)) (omega (arith, there, power_wider n, half_large wide))
      ∙ omega (arith, power_wider n)

-- the gap above a posit has the posit's tile with the mark of an open end, and a gap's tile has it already
marked_tile : (n : ℕ) → 3 ≤ n → {c : ℕ} → c ≤ top_cell n → start_tile_at n (2 * ((c + 1) / 2)) ≡ start_tile_at n c + (1 - start_tile_at n c % 2)
marked_tile n wide {c} there = by (dec_lt (c + 1) (2 ^ n))
  where
    even : 2 ^ n ≡ 2 * nar n
    even = half n (some_bit n wide)

    fits : 2 * ((c + 1) / 2) ≤ top_cell n
    fits = omega (arith, top_cell_says n wide)

    by : Dec (c + 1 < 2 ^ n) → start_tile_at n (2 * ((c + 1) / 2)) ≡ start_tile_at n c + (1 - start_tile_at n c % 2)
    by (yes l) = omega (arith, start_tile_low n wide fits (omega (arith, even)), start_tile_low n wide there l, even)
    by (no l) = omega (arith, start_tile_high n wide fits (omega arith), start_tile_high n wide there (omega arith), even)

-- a mark joined to a tile
open_joined : (s t x : ℕ) → bit_or x (bit_or s t % 2) ≡ x + (1 - x % 2) * (1 - both_closed s t)
open_joined s t x = with_mark x (bit_or s t % 2) (omega arith) ∙ ap (λ (u : ℕ). x + (1 - x % 2) * u) (open_mark s t)

pub opened_tile : (n : ℕ) → 3 ≤ n → (s t : ℕ) {c : ℕ} → c ≤ top_cell n → bit_or (start_tile_at n c) (bit_or s t % 2) ≡ start_tile_at n (first_from s t c)
opened_tile n wide s t {c} there = open_joined s t (start_tile_at n c) ∙ by (closed_by s t)
  where
    by : (both_closed s t ≡ 0) ⊎ (both_closed s t ≡ 1) → start_tile_at n c + (1 - start_tile_at n c % 2) * (1 - both_closed s t) ≡ start_tile_at n (first_from s t c)
    by (inl e) = rw e (omega (arith, marked_tile n wide there))
    by (inr e) = rw e (omega arith)

-- ---- the tiles of a cell above that of 0
module _ (n : ℕ) (wide : 3 ≤ n) {c : ℕ} (above : 2 ^ n ≤ c) (there : c ≤ top_cell n) where
  pub end_tile_above : end_tile_at n c ≡ c + 3 - 2 * (c % 2) - 2 ^ n
  end_tile_above =
      sym (end_tile_is n refl wide c)
      ∙ once_over {x = c + 3 - 2 * (c % 2) + 2 ^ n} {m = 2 * 2 ^ n} (omega (arith, above)) (omega (arith, there, power_wider n, half_large wide))
      ∙ omega (arith, above)

module _ (n : ℕ) (wide : 3 ≤ n) (s t : ℕ) {c : ℕ} (above : 2 ^ n ≤ c) (there : c ≤ top_cell n) where
  abbrev step : ℕ
  step = c + 1 - 2 ^ n

  even : 2 ^ n ≡ 2 * nar n
  even = half n (some_bit n wide)

  step_mark : step % 2 ≡ 1 - c % 2
  step_mark = omega (arith, even, above)

  pub start_tile_found : bit_or step (bit_or s t % 2) ≡ start_tile_at n (first_from s t c)
  start_tile_found = ap (λ (x : ℕ). bit_or x (bit_or s t % 2)) (sym (start_tile_high n wide there (omega (arith, above)))) ∙ opened_tile n wide s t there

  pub end_tile_found : bit_or (step + 2 * (step % 2)) (bit_or s t % 2) ≡ end_tile_at n (last_from s t c)
  end_tile_found =
      open_joined s t (step + 2 * (step % 2))
      ∙ ap (λ (k : ℕ). step + 2 * (step % 2) + (1 - k) * (1 - both_closed s t)) (two_more step)
      ∙ by (closed_by s t)
    where
      two_more : (x : ℕ) → (x + 2 * (x % 2)) % 2 ≡ x % 2
      two_more x = omega arith

      by : (both_closed s t ≡ 0) ⊎ (both_closed s t ≡ 1) → step + 2 * (step % 2) + (1 - step % 2) * (1 - both_closed s t) ≡ end_tile_at n (last_from s t c)
      by (inl e) =
          let d : 2 * (c / 2) % 2 ≡ 0 = omega arith in
          rw e (omega (arith, step_mark, above, d) ∙ sym (end_tile_above n wide {c = 2 * (c / 2)} (omega (arith, above, even)) (omega (arith, there))))
      by (inr e) = rw e (omega (arith, end_tile_above n wide above there, even, above))

-- ---- the cell of a result above 0
module _ (n es : ℕ) (wide : 3 ≤ n) where
  module _ {p q : ℕ} (f : (0 < p) × (p < nar n)) (g : (0 < q) × (q < nar n)) where
    left_above : whole (pos 0) <ᶠ value n es p
    left_above = value_positive n es f.0 f.1

    right_above : whole (pos 0) <ᶠ value n es q
    right_above = value_positive n es g.0 g.1

    result_above : (divide : Bool) → whole (pos 0) <ᶠ result_of divide (value n es p) (value n es q)
    result_above true = quotient_above_above right_above left_above
    result_above false = product_above_above left_above right_above

    sum_above : whole (pos 0) <ᶠ (value n es p +ᶠ value n es q)
    sum_above = ≈_<ᶠ (≈_sym (+ᶠ_idl (whole (pos 0)))) (+ᶠ_mono_< (≤ᶠ_of_<ᶠ left_above) right_above)

    pub result_cell_above : (divide : Bool) {c : ℕ} → c ≡ result_cell n es divide p q → (2 ^ n ≤ c) × (c ≤ top_cell n)
    result_cell_above divide e = rw e (above_cell n es wide (result_above divide), cell_bounded n es wide (result_of divide (value n es p) (value n es q)))

    pub sum_cell_above : {c : ℕ} → c ≡ cell_of n es (value n es p +ᶠ value n es q) → (2 ^ n ≤ c) × (c ≤ top_cell n)
    sum_cell_above e = rw e (above_cell n es wide sum_above, cell_bounded n es wide (value n es p +ᶠ value n es q))

  -- ---- the results of plain ranges are some
  some_member : (w : ℕ) → is_plain n w ≡ true → (x : Fraction) × (2 ^ n ≤ cell (posits n es wide) x) × Member n es w x
  some_member w h =
      let r = real_of_plain n w wide h in
      let p = plain_tiles n w h in
      let e = plain_cells n w wide h in
      let (x, i) = cell_has_number (posits n es wide) (first_of n (start_tile n w)) (omega (arith, cells_ordered p, last_there n wide (plain_end p), top_cell_says n wide)) in
      (x, omega (arith, i, p), (member_cells n es wide r x).1 (rw e (omega (arith, i, cells_ordered p))))

  module _ (op a b : ℕ) (known : op ≤ over) (h : is_plain n a ≡ true) (k : is_plain n b ≡ true) where
    usable : (y : Fraction) → 2 ^ n ≤ cell (posits n es wide) y → Member n es b y → Usable n es op b y
    usable y l m = record { member = m; divisor = λ e z. zero_below n es wide l (same_of_≈ z).0 }

    some_result : ¬ NoMember (Result n es op a b)
    some_result none = by ((no_result_iff n es a b op known).0 none)
      where
        by : NoMember (Member n es a) ⊎ NoMember (Usable n es op b) → ⊥
        by (inl f) = let (x, l, m) = some_member a h in f x m
        by (inr f) = let (y, l, m) = some_member b k in f y (usable y l m)

  -- ---- two tiles make an answer that is not empty
  pub tiles_answer : (op a b : ℕ) → op ≤ over → ¬ NoMember (Result n es op a b) → (lo hi : ℕ) → answer_of n es op a b ≡ word_at n (record { lo = lo; hi = hi })
      → {x y w : ℕ} → x ≡ start_tile_at n lo → y ≡ end_tile_at n hi → w ≡ word_of n x y → w ≡ answer_of n es op a b
  tiles_answer op a b known some lo hi e i j g = g ∙ ap₂ (word_of n) i j ∙ by (dec_lt hi lo)
    where
      by : Dec (hi < lo) → word_of n (start_tile_at n lo) (end_tile_at n hi) ≡ answer_of n es op a b
      by (yes l) = absurd (some ((computed_empty_word_iff n es op a b wide known).0 (e ∙ word_at_none n (record { lo = lo; hi = hi }) l)))
      by (no l) = sym (e ∙ word_at_some n (record { lo = lo; hi = hi }) (omega arith))

-- ---- sums move to the gap beside them
last_moved : (s t c : ℕ) → c - c % 2 * (1 - both_closed s t) ≡ last_from s t c
last_moved s t c = by (closed_by s t)
  where
    by : (both_closed s t ≡ 0) ⊎ (both_closed s t ≡ 1) → c - c % 2 * (1 - both_closed s t) ≡ last_from s t c
    by (inl e) = rw e (omega arith)
    by (inr e) = rw e (omega arith)

-- ---- the end of the sums
module _ (n es : ℕ) (wide : 3 ≤ n) {u v : ℕ} (p : PlainEnd n u) (q : PlainEnd n v) where
  sum_last : {c : ℕ} → c ≡ cell_of n es (value n es (u / 2) +ᶠ value n es (v / 2)) → last_from u v c ≡ sum_end n es (end_cell n u) (end_cell n v)
  sum_last {c} e =
      rw (plain_last n wide p, plain_last n wide q)
      (sym (last_moved u v c)
      ∙ ap₂ (λ (x y : ℕ). c - c % 2 * (1 - x * y)) (sym (end_mark_is n wide p)) (sym (end_mark_is n wide q))
      ∙ end_found n es wide (last_of n u) (last_of n v) (last_there n wide p) (last_there n wide q) (end_posit_is n wide p) (end_posit_is n wide q) e)

  pub sums_end : {c w : ℕ} → c ≡ cell_of n es (value n es (u / 2) +ᶠ value n es (v / 2)) → w ≡ end_tile_at n (last_from u v c)
      → w ≡ end_tile_at n (sum_end n es (end_cell n u) (end_cell n v))
  sums_end e h = h ∙ ap (end_tile_at n) (sum_last e)

-- ---- the answers for two plain ranges
-- whatever their signs
pub result_answer : (n es : ℕ) → 3 ≤ n → (divide : Bool) {a b : ℕ} → Real n a → Real n b
    → answer_of n es (operation_of divide) a b ≡ word_at n (result_cells n es divide (cells_of n a) (cells_of n b))
result_answer n es wide true = quotient_answer n es wide
result_answer n es wide false = product_answer n es wide

known : (divide : Bool) → operation_of divide ≤ over
known true = omega arith
known false = omega arith

module _ {n es : ℕ} (f : Format n es) (a b : ℕ) (h : is_plain n a ≡ true) (k : is_plain n b ≡ true) where
  wide : 3 ≤ n
  wide = f.wide_enough

  left_real : Real n a
  left_real = real_of_plain n a wide h

  right_real : Real n b
  right_real = real_of_plain n b wide k

  no_signs : (r : Span) → with_signs n (cells_of n a) (cells_of n b) r ≡ r
  no_signs r = ap₂ (λ (p q : Bool). pick_span (beq p q) r (turned_cells n r)) (plain_above n a wide h) (plain_above n b wide k)

  results_above : (divide : Bool) → answer_of n es (operation_of divide) a b ≡ word_at n (positive_some n es divide (cells_of n a) (cells_of n b))
  results_above divide =
      result_answer n es wide divide left_real right_real
      ∙ ap (word_at n)
      (sym (results_of_magnitudes n wide es (plain_one_sign n a wide h) (plain_one_sign n b wide k) divide) ∙ no_signs _
      ∙ ap₂ (positive_some n es divide) (above_magnitudes n (cells_of n a) (plain_above n a wide h)) (above_magnitudes n (cells_of n b) (plain_above n b wide k)))

  -- by their tiles
  first_is : (divide : Bool)
      → (positive_some n es divide (cells_of n a) (cells_of n b)).lo ≡ first_cell n es divide (edge_at (start_tile n a)) (edge_at (first_tile n divide b))
  first_is divide =
      ap₂ (first_cell n es divide)
      (ap (λ (s : Span). start_edge n s.lo) (plain_cells n a wide h) ∙ start_edge_at n wide (plain_start (plain_tiles n a h)))
      (first_edge_at n wide b k divide)

  last_is : (divide : Bool)
      → (positive_some n es divide (cells_of n a) (cells_of n b)).hi ≡ last_cell n es divide (edge_at (end_tile n a)) (edge_at (last_tile n divide b))
  last_is divide =
      ap₂ (last_cell n es divide)
      (ap (λ (s : Span). end_edge n s.hi) (plain_cells n a wide h) ∙ end_edge_at n wide (plain_end (plain_tiles n a h)))
      (last_edge_at n wide b k divide)

  pub result_found : (divide : Bool) {x y w : ℕ}
      → x ≡ start_tile_at n (first_cell n es divide (edge_at (start_tile n a)) (edge_at (first_tile n divide b)))
      → y ≡ end_tile_at n (last_cell n es divide (edge_at (end_tile n a)) (edge_at (last_tile n divide b)))
      → w ≡ word_of n x y → w ≡ answer_of n es (operation_of divide) a b
  result_found divide =
      tiles_answer n es wide (operation_of divide) a b (known divide) (some_result n es wide (operation_of divide) a b (known divide) h k) _ _
      (results_above divide ∙ ap (word_at n) (λ i. record { lo = first_is divide i; hi = last_is divide i }))

  pub sum_found : {x y w : ℕ} → x ≡ start_tile_at n (sum_start n es (start_cell n (start_tile n a)) (start_cell n (start_tile n b)))
      → y ≡ end_tile_at n (sum_end n es (end_cell n (end_tile n a)) (end_cell n (end_tile n b))) → w ≡ word_of n x y → w ≡ answer_of n es 0 a b
  sum_found =
      let p = plain_tiles n a h in
      let q = plain_tiles n b k in
      let left : Span = record { lo = start_cell n (start_tile n a); hi = end_cell n (end_tile n a) } in
      let right : Span = record { lo = start_cell n (start_tile n b); hi = end_cell n (end_tile n b) } in
      tiles_answer n es wide 0 a b (omega arith) (some_result n es wide 0 a b (omega arith) h k) _ _
      (sum_answer n es wide left_real right_real
      ∙ ap₂ (λ (x y : Span). word_at n (sum_cells n es x y)) (plain_between n a wide h) (plain_between n b wide k)
      ∙ sym (sum_word n es wide left right refl refl (ends_ordered n wide p) (ends_ordered n wide q) refl))
