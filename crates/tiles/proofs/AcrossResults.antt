-- The answer for a range across 0 and a plain one: products and quotients reach from the negative of the result of the two sizes to the result on the
-- upper side, 0 between them, and sums from that of both starts to that of both ends.
use Rattle.std.proofs.Common.{◌≡◌, ℕ, ◌-◌, ◌<◌, ◌≤◌, Bool, true, ◌⊎◌, sym, refl, ap, ◌∙◌, ap₂, inl, inr, arith}
use Rattle.bound.proofs.Extent.{NoMember}
use Rattle.posit.specs.Format.{Format}
use Rattle.posit.proofs.Patterns.{some_bit}
use Rattle.word.specs.declared.inner.span.Span.{Span}
use Rattle.word.specs.Word.{tiles, start_tile, end_tile, word_of}
use Rattle.word.specs.Member.{Real, Member}
use Rattle.word.specs.Smallest.{Result}
use Rattle.word.specs.Spans.{top_cell, start_cell, end_cell, start_tile_at, end_tile_at, cells_of, turned_tile, word_at}
use Rattle.word.specs.Computed.{answer_of}
use Rattle.cell.specs.Cells.{sum_start, sum_end, sum_cells}
use Rattle.signs.specs.Signs.{CellAbove, end_edge, last_edge, last_cell}
use Rattle.signs.specs.OneSign.{magnitudes}
use Rattle.signs.specs.Mixed.{around}
use Rattle.tiles.specs.Plain.{is_plain, PlainEnd}
use Rattle.tiles.specs.Across.{is_across}
use Rattle.tiles.specs.Scaled.{operation_of, last_tile, edge_at}
use Rattle.word.proofs.Grid.{half}
use Rattle.word.proofs.Places.{top_cell_says}
use Rattle.word.proofs.RealWords.{kind_empty}
use Rattle.word.proofs.WordAt.{word_at_some}
use Rattle.word.proofs.Empty.{Usable, empty_kind_iff, no_result_iff}
use Rattle.cell.proofs.SumRange.{sum_word, sum_answer}
use Rattle.signs.proofs.OneSigned.{above_magnitudes}
use Rattle.signs.proofs.Mixed.{below_there, above_there, mixed_results}
use Rattle.tiles.proofs.PlainCells.{last_of, plain_tiles, plain_between, plain_cells, real_of_plain, plain_one_sign, plain_above, cells_ordered, ends_ordered}
use Rattle.tiles.proofs.Edges.{end_edge_at, last_edge_at}
use Rattle.tiles.proofs.PlainResults.{end_tile_above, end_tile_fits, result_answer, tiles_answer}
use Rattle.tiles.proofs.AcrossCells.{AcrossTiles, across_tiles, across_between, across_cells, in_order, across_mixed, across_ordered, real_of_across, negated_end, upper, lower, lower_last}

-- ---- the word from the negatives of a cell to a cell
module _ (n : ℕ) (wide : 3 ≤ n) where
  reaching_word : {c d : ℕ} → CellAbove n c → CellAbove n d → {l x y w : ℕ} → l ≡ end_tile_at n c → x ≡ turned_tile n l → y ≡ end_tile_at n d → w ≡ word_of n x y
      → w ≡ word_at n (record { lo = top_cell n - c; hi = d })
  reaching_word {c} {d} h k e f g i =
      i ∙ ap₂ (word_of n) (f ∙ ap (turned_tile n) e ∙ sym (negated_end n wide h.there)) g
      ∙ sym (word_at_some n (record { lo = top_cell n - c; hi = d }) (omega (arith, h, k, top_cell_says n wide)))

-- ---- the answers for a range a across 0 and a plain range b
module _ {n es : ℕ} (f : Format n es) (a b : ℕ) (h : is_across n a ≡ true) (k : is_plain n b ≡ true) where
  wide : 3 ≤ n
  wide = f.wide_enough

  left_tiles : AcrossTiles n (start_tile n a) (end_tile n a)
  left_tiles = across_tiles n a h

  left_real : Real n a
  left_real = real_of_across n a wide h

  right_real : Real n b
  right_real = real_of_plain n b wide k

  -- ---- products and quotients
  -- the last cell with the size of the start, and that with the end
  abbrev cell_with : ℕ → Bool → ℕ
  cell_with t divide = last_cell n es divide (edge_at t) (edge_at (last_tile n divide b))

  abbrev below : Bool → ℕ
  below = cell_with (turned_tile n (start_tile n a))

  abbrev above : Bool → ℕ
  above = cell_with (end_tile n a)

  pub size_end : PlainEnd n (turned_tile n (start_tile n a))
  size_end = lower n wide left_tiles

  pub last_end : PlainEnd n (end_tile n a)
  last_end = upper n wide left_tiles

  -- the same by cells
  cell_is : {c t : ℕ} (divide : Bool) → c ≡ last_of n t → PlainEnd n t
      → last_cell n es divide (end_edge n c) (last_edge n divide (magnitudes n (cells_of n b))) ≡ cell_with t divide
  cell_is divide e p =
      ap₂ (last_cell n es divide) (ap (end_edge n) e ∙ end_edge_at n wide p)
      (ap (last_edge n divide) (above_magnitudes n (cells_of n b) (plain_above n b wide k)) ∙ last_edge_at n wide b k divide)

  below_is : (divide : Bool)
      → last_cell n es divide (end_edge n (top_cell n - (cells_of n a).lo)) (last_edge n divide (magnitudes n (cells_of n b))) ≡ below divide
  below_is divide = cell_is divide (ap (λ (s : Span). top_cell n - s.lo) (across_cells n a wide h) ∙ lower_last n wide left_tiles) size_end

  above_is : (divide : Bool) → last_cell n es divide (end_edge n (cells_of n a).hi) (last_edge n divide (magnitudes n (cells_of n b))) ≡ above divide
  above_is divide = cell_is divide (ap (λ (s : Span). s.hi) (across_cells n a wide h)) last_end

  below_above_zero : (divide : Bool) → CellAbove n (below divide)
  below_above_zero divide = rw (below_is divide) at (below_there n wide es (plain_one_sign n b wide k) (across_mixed n a wide h) divide)

  above_above_zero : (divide : Bool) → CellAbove n (above divide)
  above_above_zero divide = rw (above_is divide) at (above_there n wide es (plain_one_sign n b wide k) (across_mixed n a wide h) divide)

  -- beyond the tiles of 0
  pub end_tile_beyond : (divide : Bool) {l : ℕ} → l ≡ end_tile_at n (below divide) → (2 ≤ l) × (l < tiles n)
  end_tile_beyond divide e =
      let c = below_above_zero divide in
      (omega (arith, e, end_tile_above n wide c.above c.there, c, half n (some_bit n wide)), rw e (end_tile_fits n (below divide) wide))

  results_are : (divide : Bool) → word_at n (record { lo = top_cell n - below divide; hi = above divide }) ≡ answer_of n es (operation_of divide) a b
  results_are divide =
      sym (result_answer n es wide divide left_real right_real
      ∙ ap (word_at n) (sym (mixed_results n wide es (plain_one_sign n b wide k) (across_mixed n a wide h) divide)
      ∙ ap₂ (around n (cells_of n b)) (below_is divide) (above_is divide) ∙ rw (plain_above n b wide k) refl))

  pub result_found : (divide : Bool) {l x y w : ℕ} → l ≡ end_tile_at n (below divide) → x ≡ turned_tile n l → y ≡ end_tile_at n (above divide) → w ≡ word_of n x y
      → w ≡ answer_of n es (operation_of divide) a b
  result_found divide e i j g = reaching_word n wide (below_above_zero divide) (above_above_zero divide) e i j g ∙ results_are divide

  -- ---- sums
  some_member : {w : ℕ} → Real n w → (cells_of n w).lo ≤ (cells_of n w).hi → ¬ NoMember (Member n es w)
  some_member {w} r l k = let h = ((kind_empty n wide w r.fits).0 ((empty_kind_iff n es wide r).1 k)).1 in omega arith

  some_sum : ¬ NoMember (Result n es 0 a b)
  some_sum none = by ((no_result_iff n es a b 0 (omega arith)).0 none)
    where
      by : NoMember (Member n es a) ⊎ NoMember (Usable n es 0 b) → ⊥
      by (inl g) = some_member left_real (rw (across_cells n a wide h) (across_ordered n wide left_tiles)) g
      by (inr g) =
          some_member right_real (rw (plain_cells n b wide k) (cells_ordered (plain_tiles n b k)))
          (λ y m. g y (record { member = m; divisor = λ e. absurd (omega (arith, e)) }))

  pub sum_found : {x y w : ℕ} → x ≡ start_tile_at n (sum_start n es (start_cell n (start_tile n a)) (start_cell n (start_tile n b)))
      → y ≡ end_tile_at n (sum_end n es (end_cell n (end_tile n a)) (end_cell n (end_tile n b))) → w ≡ word_of n x y → w ≡ answer_of n es 0 a b
  sum_found =
      let left : Span = record { lo = start_cell n (start_tile n a); hi = end_cell n (end_tile n a) } in
      let right : Span = record { lo = start_cell n (start_tile n b); hi = end_cell n (end_tile n b) } in
      tiles_answer n es wide 0 a b (omega arith) some_sum _ _
      (sum_answer n es wide left_real right_real
      ∙ ap₂ (λ (x y : Span). word_at n (sum_cells n es x y)) (across_between n a wide h) (plain_between n b wide k)
      ∙ sym (sum_word n es wide left right refl refl (in_order n a wide h) (ends_ordered n wide (plain_tiles n b k)) refl))
