-- With an empty operand there are no results, as none of its parts has a member and 0 is not one.
use mathlib.Core.Path.{◌≡◌, sym, ap, ap₂, ◌∙◌}
use mathlib.Core.Bool.{Bool, true, false}
use Prim.Native.Nat.{ℕ, ◌+◌, ◌^◌, ◌≤◌, ◌<◌}
use native.Mathlib.Omega.{arith}
use lib.Dec.{leb}
use lib.Pow.{pow_pos}
use borrow.Author.Tests.{lt-ltb, le-ltb, lt-leb}
use Rattle.word.specs.declared.inner.span.Span.{Span}
use Rattle.word.specs.Word.{word_of}
use Rattle.word.specs.Spans.{top_cell, no_cells, mirrored, RealCells, word_at}
use Rattle.signs.specs.Signs.{part_above, hull_of, turned_cells, either_sign, signed_results, has_zero, has_other, product_cells, quotient_cells}
use Rattle.cell.specs.Cells.{zero_cell}
use Rattle.word.proofs.Places.{top_cell_says}
use Rattle.word.proofs.Mirrored.{mirrored_none}
use Rattle.signs.proofs.ReachedCells.{none_cells}
use Rattle.signs.proofs.OneSigned.{hull_none, none_turned, neither, only_above, none_right, left_above, with_right, zero_left, zero_right}

module _ (n : ℕ) (wide : 3 ≤ n) where
  no_part : part_above n (no_cells n) ≡ no_cells n
  no_part = rw (lt-ltb 0 (2 ^ n) (pow_pos n))

  no_negatives : part_above n (mirrored n (no_cells n)) ≡ no_cells n
  no_negatives = ap (part_above n) (mirrored_none n (no_cells n) (omega arith)) ∙ no_part

  no_zero : has_zero n (no_cells n) ≡ false
  no_zero = rw (lt-leb (top_cell n + 1) (zero_cell n) (omega (arith, top_cell_says n wide)))

  no_other : has_other n (no_cells n) ≡ false
  no_other = rw (lt-leb (2 ^ n) 0 (pow_pos n), le-ltb (top_cell n + 1) (zero_cell n) (omega (arith, top_cell_says n wide)))

  no_member : leb (top_cell n + 1) 0 ≡ false
  no_member = lt-leb (top_cell n + 1) 0 (omega arith)

  none_with_none : hull_of (no_cells n) (no_cells n) ≡ no_cells n
  none_with_none = hull_none n wide (none_cells n wide)

  module _ (es : ℕ) (divide : Bool) where
    none_from_left : (y : Span) → signed_results n es divide (no_cells n) y ≡ no_cells n
    none_from_left y = left_above n wide es divide (no_cells n) y no_part no_negatives ∙ neither n wide es divide (part_above n y) (part_above n (mirrored n y))

    none_beside : (p : Span) → with_right n wide es divide p (no_cells n) ≡ no_cells n
    none_beside p = ap₂ (either_sign n es divide p) no_part no_negatives ∙ only_above n wide es divide p (no_cells n) ∙ none_right n wide es divide p

    none_from_right : (x : Span) → signed_results n es divide x (no_cells n) ≡ no_cells n
    none_from_right x =
        ap₂ hull_of (none_beside (part_above n x)) (ap (turned_cells n) (none_beside (part_above n (mirrored n x))) ∙ none_turned n wide)
        ∙ none_with_none

  module _ (es : ℕ) where
    no_quotients_of_none : (y : Span) → quotient_cells n es (no_cells n) y ≡ no_cells n
    no_quotients_of_none y = ap₂ hull_of (none_from_left es true y) (zero_left n wide (has_other n y) no_zero) ∙ none_with_none

    no_quotients_by_none : (x : Span) → quotient_cells n es x (no_cells n) ≡ no_cells n
    no_quotients_by_none x = ap₂ hull_of (none_from_right es true x) (zero_right n wide (has_zero n x) no_other) ∙ none_with_none

    no_products_of_none : (y : Span) → product_cells n es (no_cells n) y ≡ no_cells n
    no_products_of_none y =
        ap₂ hull_of (ap₂ hull_of (none_from_left es false y) (zero_left n wide (has_other n y) no_zero) ∙ none_with_none) (zero_left n wide (has_zero n y) no_member)
        ∙ none_with_none

    no_products_by_none : (x : Span) → product_cells n es x (no_cells n) ≡ no_cells n
    no_products_by_none x =
        ap₂ hull_of (ap₂ hull_of (none_from_right es false x) (zero_right n wide (has_zero n x) no_other) ∙ none_with_none)
        (zero_right n wide (leb x.lo x.hi) no_zero)
        ∙ none_with_none

    -- ---- the empty word
    empty_at : {s : Span} → s ≡ no_cells n → {w : ℕ} → w ≡ word_of n 1 1 → w ≡ word_at n s
    empty_at e h = h ∙ sym (ap (word_at n) e ∙ rw (lt-ltb 0 (top_cell n + 1) (omega arith)))

    module _ (x y : Span) {w : ℕ} (h : w ≡ word_of n 1 1) where
      pub left_empty_product : RealCells n x → x.hi < x.lo → w ≡ word_at n (product_cells n es x y)
      left_empty_product r l = empty_at (ap (λ s. product_cells n es s y) (r.none l) ∙ no_products_of_none y) h

      pub right_empty_product : RealCells n y → y.hi < y.lo → w ≡ word_at n (product_cells n es x y)
      right_empty_product r l = empty_at (ap (product_cells n es x) (r.none l) ∙ no_products_by_none x) h

      pub left_empty_quotient : RealCells n x → x.hi < x.lo → w ≡ word_at n (quotient_cells n es x y)
      left_empty_quotient r l = empty_at (ap (λ s. quotient_cells n es s y) (r.none l) ∙ no_quotients_of_none y) h

      pub right_empty_quotient : RealCells n y → y.hi < y.lo → w ≡ word_at n (quotient_cells n es x y)
      right_empty_quotient r l = empty_at (ap (quotient_cells n es x) (r.none l) ∙ no_quotients_by_none x) h
