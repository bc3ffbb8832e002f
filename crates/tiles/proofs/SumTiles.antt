-- The start tile of all sums from two tiles on: that of the exact sum of their posits, open where either tile is. The tile of a number other than 0 is the step of
-- its size among the posits, from the tile of 0 up or down.
use Rattle.std.specs.Prelude.{Option, Some, None}
use Rattle.std.proofs.Common.{◌≡◌, ℕ, ◌+◌, ◌-◌, ◌*◌, ◌/◌, ◌%◌, ◌^◌, ◌<◌, ◌≤◌, Bool, true, false, ◌⊎◌, sym, refl, ap, ◌∙◌, ap₂, inl, inr, mod-eq_of_lt, arith, pow_pos}
use lib.Bits.{bit_or}
use Rattle.exact.specs.Fraction.{Fraction, ◌+ᶠ◌}
use Rattle.exact.proofs.Powers.{parity}
use Rattle.posit.specs.Format.{Format, Finite}
use Rattle.posit.specs.Value.{value}
use Rattle.posit.proofs.Mirror.{power_wider}
use Rattle.posit.proofs.Patterns.{some_bit}
use Rattle.posit.specs.declared.inner.signed.Signed.{Signed}
use Rattle.code.specs.Coded.{IsSignedSum}
use Rattle.code.specs.Step.{StepOf}
use Rattle.word.specs.Word.{tiles}
use Rattle.word.specs.Numbered.{pattern_at, number_of}
use Rattle.word.specs.Spans.{top_cell, start_cell, start_tile_at}
use Rattle.word.specs.Computed.{cell_of}
use Rattle.cell.specs.Cells.{cell_with_sign, tile_with_sign, sum_start}
use Rattle.tiles.specs.Plain.{open_zero}
use Rattle.word.proofs.Grid.{once_over, pattern_of_number}
use Rattle.word.proofs.Places.{start_closed, start_open, placed}
use Rattle.cell.proofs.CellFrom.{cell_bounded}
use Rattle.cell.proofs.ResultCell.{known_fits, known_some}
use Rattle.cell.proofs.SumCells.{zero_left, zero_right, start_found, nothing_cell, something_known, something_cell}
use Rattle.cell.proofs.Marks.{open_mark, with_mark}
use Rattle.tiles.proofs.PlainResults.{both_closed, closed_by, open_either, first_from, opened_tile}

-- ---- the first cell of a tile at a finite posit
module _ (n : ℕ) (wide : 3 ≤ n) (s : ℕ) (f : Finite n (s / 2)) where
  start_cell_says : start_cell n s ≡ 2 * number_of n (s / 2) + 1 + s % 2
  start_cell_says = by (parity s)
    where
      by : (s % 2 ≡ 0) ⊎ (s % 2 ≡ 1) → start_cell n s ≡ 2 * number_of n (s / 2) + 1 + s % 2
      by (inl e) = ap (start_cell n) {x = s} {y = 2 * (s / 2)} (omega arith) ∙ omega (arith, start_closed n wide f)
      by (inr e) = ap (start_cell n) {x = s} {y = 2 * (s / 2) + 1} (omega arith) ∙ omega (arith, start_open n wide f)

  start_posit : s / 2 ≡ pattern_at n ((start_cell n s - 1) / 2)
  start_posit = sym (ap (pattern_at n) (omega (arith, start_cell_says)) ∙ pattern_of_number n (some_bit n wide) f)

  start_mark : start_cell n s % 2 ≡ 1 - s % 2
  start_mark = omega (arith, start_cell_says)

  -- a posit's cell has its closed tile
  posit_tile : 2 * (s / 2) ≡ start_tile_at n (2 * number_of n (s / 2) + 1)
  posit_tile =
      sym (ap (start_tile_at n) (sym (start_closed n wide f))
      ∙ (placed n wide {t = 2 * (s / 2)} (omega (arith, f.fits, power_wider n)) (λ e. f.not_nar (omega arith))).start_tile_back)

-- ---- sums move to the gap above them
first_moved : (s t c : ℕ) → c + c % 2 * (1 - both_closed s t) ≡ first_from s t c
first_moved s t c = by (closed_by s t)
  where
    by : (both_closed s t ≡ 0) ⊎ (both_closed s t ≡ 1) → c + c % 2 * (1 - both_closed s t) ≡ first_from s t c
    by (inl e) = rw e (omega arith)
    by (inr e) = rw e (omega arith)

-- ---- the start of the sums
module _ (n es : ℕ) (wide : 3 ≤ n) (s t : ℕ) (f : Finite n (s / 2)) (g : Finite n (t / 2)) where
  abbrev exact : Fraction
  exact = value n es (s / 2) +ᶠ value n es (t / 2)

  sum_first : {c : ℕ} → c ≡ cell_of n es exact → first_from s t c ≡ sum_start n es (start_cell n s) (start_cell n t)
  sum_first {c} e =
      sym (first_moved s t c)
      ∙ ap₂ (λ (x y : ℕ). c + c % 2 * (1 - x * y)) (sym (start_mark n wide s f)) (sym (start_mark n wide t g))
      ∙ start_found n es wide (start_cell n s) (start_cell n t) (start_posit n wide s f) (start_posit n wide t g) e (omega (arith, start_cell_says n wide s f)) (omega (arith, start_cell_says n wide t g))

  pub sums_start : {c w : ℕ} → c ≡ cell_of n es exact → w ≡ start_tile_at n (first_from s t c) → w ≡ start_tile_at n (sum_start n es (start_cell n s) (start_cell n t))
  sums_start e h = h ∙ ap (start_tile_at n) (sum_first e)

  -- from the tile of the exact sum
  pub sums_marked : {x : ℕ} → x ≡ start_tile_at n (cell_of n es exact) → bit_or x (bit_or s t % 2) ≡ start_tile_at n (sum_start n es (start_cell n s) (start_cell n t))
  sums_marked e = sums_start refl (ap (λ (x : ℕ). bit_or x (bit_or s t % 2)) e ∙ opened_tile n wide s t (cell_bounded n es wide exact))

  -- beside an open 0 the sum is the other posit, and the sums start above it
  opened : (x : ℕ) → (s % 2 ≡ 1) ⊎ (t % 2 ≡ 1) → bit_or x 1 ≡ bit_or (2 * (x / 2)) (bit_or s t % 2)
  opened x o =
      let m : bit_or s t % 2 ≡ 1 = open_mark s t ∙ ap (λ (k : ℕ). 1 - k) (open_either s t o) in
      rw (m, with_mark x 1 (omega arith), with_mark (2 * (x / 2)) 1 (omega arith)) (omega arith)

  pub sums_from_right : s ≡ open_zero → bit_or t 1 ≡ start_tile_at n (sum_start n es (start_cell n s) (start_cell n t))
  sums_from_right e = opened t (inl (rw e refl)) ∙ sums_marked (posit_tile n wide t g ∙ ap (start_tile_at n) (zero_left n es wide g (rw e refl) refl))

  pub sums_from_left : t ≡ open_zero → bit_or s 1 ≡ start_tile_at n (sum_start n es (start_cell n s) (start_cell n t))
  sums_from_left e = opened s (inr (rw e refl)) ∙ sums_marked (posit_tile n wide s f ∙ ap (start_tile_at n) (zero_right n es wide f (rw e refl) refl))

-- ---- the tile of an exact number
signed_tile : (n : ℕ) (negative : Bool) {step : ℕ} → 0 < step → step < 2 ^ n → tile_with_sign n negative step ≡ start_tile_at n (cell_with_sign n negative (2 ^ n - 1 + step))
signed_tile n true {step} h l =
    let e : top_cell n - (2 ^ n - 1 + step) + 1 + 2 ^ n ≡ tiles n - step = omega (arith, power_wider n, pow_pos n) in
    rw e (sym (mod-eq_of_lt (omega (arith, power_wider n))))
signed_tile n false {step} h l =
    sym (once_over {x = 2 ^ n - 1 + step + 1 + 2 ^ n} {m = tiles n} (omega (arith, power_wider n)) (omega (arith, power_wider n)) ∙ omega (arith, power_wider n, pow_pos n))

pub nothing_tile : (n es : ℕ) → 3 ≤ n → (z : Fraction) {r : Option (Signed ℕ)} → IsSignedSum es z r → r ≡ None → 0 ≡ start_tile_at n (cell_of n es z)
nothing_tile n es wide z k e =
    let c = nothing_cell n es wide z k {all = 2 ^ n} e refl in
    sym (ap (start_tile_at n) (sym c) ∙ once_over {x = 2 ^ n - 1 + 1 + 2 ^ n} {m = tiles n} (omega (arith, power_wider n)) (omega (arith, power_wider n, pow_pos n)) ∙ omega (arith, power_wider n, pow_pos n))

module _ {n es : ℕ} (f : Format n es) (z : Fraction) {r : Option (Signed ℕ)} (k : IsSignedSum es z r) {b : Bool} {x : ℕ} (e : r ≡ Some (record { negative = b; size = x })) where
  pub something_tile : {step w : ℕ} → StepOf n es x step → w ≡ tile_with_sign n b step → w ≡ start_tile_at n (cell_of n es z)
  something_tile s h =
      let t = something_known f z k e in
      h ∙ signed_tile n b (known_some f t s) (known_fits f t s) ∙ ap (start_tile_at n) (something_cell f z k e s refl refl)
