-- A word from a posit below 0 to one above 0 has cells on both sides of 0: its end tile reaches as far as a plain one, and so does its start tile with
-- the posit negated, on the other side.
use Rattle.std.proofs.Common.{◌≡◌, ℕ, ◌+◌, ◌-◌, ◌*◌, ◌/◌, ◌%◌, ◌^◌, ◌<◌, ◌≤◌, true, ◌&&◌, ltb, leb, sym, ap, ◌∙◌, subst, arith, ltb-true, leb-true}
use Rattle.posit.specs.Format.{nar}
use Rattle.posit.proofs.Mirror.{power_wider, negated_positive}
use Rattle.posit.proofs.Patterns.{some_bit}
use Rattle.word.specs.Word.{tiles, start_tile, end_tile}
use Rattle.word.specs.Member.{Real}
use Rattle.word.specs.Spans.{top_cell, start_cell, end_cell, start_tile_at, end_tile_at, cells_of, turned_tile}
use Rattle.tiles.specs.Plain.{PlainEnd}
use Rattle.tiles.specs.Across.{is_across}
use Rattle.signs.specs.Mixed.{Mixed}
use Rattle.word.proofs.Grid.{half, once_over}
use Rattle.word.proofs.Places.{placed, tiled}
use Rattle.word.proofs.Tiles.{closed_half}
use Rattle.word.proofs.Turned.{turned}
use Rattle.word.proofs.Words.{word_of_tiles}
use Rattle.word.proofs.WordAt.{real_word}
use Rattle.word.proofs.RealWords.{between_some}
use Rattle.signs.proofs.OneSigned.{first_of_two, second_of}
use Rattle.tiles.proofs.PlainCells.{last_of, plain_last, last_there}

-- ---- what the test says of the tiles
pub record AcrossTiles (n s u : ℕ) : Type 0 where
  pub behind_nar : 2 ^ n + 2 ≤ s
  pub there : s < tiles n
  pub behind_zero : 2 ≤ u
  pub before_nar : u < 2 ^ n

pub across_tiles : (n w : ℕ) → is_across n w ≡ true → AcrossTiles n (start_tile n w) (end_tile n w)
across_tiles n w h =
    let s : ℕ = start_tile n w in
    let u : ℕ = end_tile n w in
    let k = second_of (leb (2 ^ n + 2) s) (ltb s (tiles n) && (leb 2 u && ltb u (2 ^ n))) h in
    let l = second_of (ltb s (tiles n)) (leb 2 u && ltb u (2 ^ n)) k in
    record {
      behind_nar = leb-true (2 ^ n + 2) s (first_of_two (leb (2 ^ n + 2) s) (ltb s (tiles n) && (leb 2 u && ltb u (2 ^ n))) h);
      there = ltb-true s (tiles n) (first_of_two (ltb s (tiles n)) (leb 2 u && ltb u (2 ^ n)) k);
      behind_zero = leb-true 2 u (first_of_two (leb 2 u) (ltb u (2 ^ n)) l);
      before_nar = ltb-true u (2 ^ n) (second_of (leb 2 u) (ltb u (2 ^ n)) l);
    }

-- ---- the negatives of an end start at its tile with the posit negated
pub negated_end : (n : ℕ) → 3 ≤ n → {c : ℕ} → c ≤ top_cell n → start_tile_at n (top_cell n - c) ≡ turned_tile n (end_tile_at n c)
negated_end n wide {c} h =
    let k = tiled n wide c h in
    let t = turned n wide k.end_tile_fits k.end_tile_not_nar in
    ap (λ (d : ℕ). start_tile_at n (top_cell n - d)) (sym k.end_cell_back)
    ∙ ap (start_tile_at n) (sym t.start_cell_says) ∙ (placed n wide t.fits t.not_nar).start_tile_back

-- a start below 0
pub below_posit : (n : ℕ) → 3 ≤ n → {s : ℕ} → 2 ^ n + 2 ≤ s → s < tiles n → (nar n < s / 2) × (s / 2 < 2 ^ n)
below_posit n wide h l = (omega (arith, half n (some_bit n wide)), omega (arith, power_wider n))

-- its first cell
abbrev pub below_of : ℕ → ℕ → ℕ
below_of n s = s - 2 ^ n - 1

-- its place from the other side, with half the tiles and the size at hand
other_side : (h k s : ℕ) → h + 2 ≤ s → s < 2 * h → k + s / 2 ≡ h → 2 * h - 2 - (s - h - 1) ≡ h + (2 * k + s % 2) - 1 - 2 * (s % 2)
other_side h k s a b e = omega arith

module _ (n : ℕ) (wide : 3 ≤ n) {s u : ℕ} (p : AcrossTiles n s u) where
  even : 2 ^ n ≡ 2 * nar n
  even = half n (some_bit n wide)

  -- ---- both ends as those of plain ranges
  pub upper : PlainEnd n u
  upper = record { above = omega (arith, p); below = p.before_nar }

  size_there : (2 ^ n - s / 2) + s / 2 ≡ 2 ^ n
  size_there = omega (arith, p, power_wider n)

  lower_is : turned_tile n s ≡ 2 * (2 ^ n - s / 2) + s % 2
  lower_is = ap (λ (q : ℕ). 2 * q + s % 2) (negated_positive n {p = s / 2} (omega (arith, p)) (omega (arith, p, power_wider n)))

  lower_mark : (2 * (2 ^ n - s / 2) + s % 2) % 2 ≡ s % 2
  lower_mark = omega arith

  pub lower : PlainEnd n (turned_tile n s)
  lower = rw lower_is (record { above = omega (arith, p, size_there, power_wider n); below = omega (arith, p, size_there, even) })

  pub lower_last : top_cell n - below_of n s ≡ last_of n (turned_tile n s)
  lower_last = rw (lower_is, power_wider n, lower_mark) (other_side (2 ^ n) (2 ^ n - s / 2) s p.behind_nar (rw (power_wider n) at p.there) size_there)

  -- ---- cells
  first_cell : start_cell n s ≡ below_of n s
  first_cell = ap (λ (k : ℕ). k - 1) (once_over {x = s + 2 ^ n} {m = tiles n} (omega (arith, p, power_wider n)) (omega (arith, p, power_wider n))) ∙ omega (arith, p, power_wider n)

  last_cell : end_cell n u ≡ last_of n u
  last_cell = plain_last n wide upper

  pub across_ordered : below_of n s ≤ last_of n u
  across_ordered = omega (arith, p, power_wider n)

-- ---- a word across 0
module _ (n w : ℕ) (wide : 3 ≤ n) (h : is_across n w ≡ true) where
  abbrev here : AcrossTiles n (start_tile n w) (end_tile n w)
  here = across_tiles n w h

  pub in_order : start_cell n (start_tile n w) ≤ end_cell n (end_tile n w)
  in_order = omega (arith, first_cell n wide here, last_cell n wide here, across_ordered n wide here)

  pub across_between : cells_of n w ≡ record { lo = start_cell n (start_tile n w); hi = end_cell n (end_tile n w) }
  across_between = between_some n (start_tile n w) (end_tile n w) in_order

  pub across_cells : cells_of n w ≡ record { lo = below_of n (start_tile n w); hi = last_of n (end_tile n w) }
  across_cells = across_between ∙ (λ i. record { lo = first_cell n wide here i; hi = last_cell n wide here i })

  pub real_of_across : Real n w
  real_of_across =
      subst (λ (v : ℕ). Real n v) (word_of_tiles n w)
      (real_word n wide {s = start_tile n w} {e = end_tile n w} here.there (omega (arith, here, power_wider n))
      (omega (arith, here, closed_half wide)) (omega (arith, here, closed_half wide))
      (λ i l. absurd (omega (arith, l, in_order))))

  pub across_mixed : Mixed n (cells_of n w)
  across_mixed =
      rw across_cells
      (record {
        there = omega (arith, last_there n wide (upper n wide here));
        below = omega (arith, here, power_wider n);
        above = omega (arith, here);
      })
