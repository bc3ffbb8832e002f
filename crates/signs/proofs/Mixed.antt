-- The results of an operand with members on both sides of 0 and one of one sign start next to 0 on both sides, and 0 lies between: so they reach
-- from the last one on one side to the last one on the other.
use mathlib.Core.Path.{◌≡◌, refl, sym, ap, ap₂, ◌∙◌}
use mathlib.Core.Bool.{Bool, true, false, ◌&&◌, ◌||◌, and_comm, or_comm}
use Prim.Native.Nat.{ℕ, ◌+◌, ◌-◌, ◌*◌, ◌/◌, ◌^◌, ◌≤◌, ◌<◌}
use native.Mathlib.Omega.{arith}
use lib.Dec.{ltb, leb}
use borrow.Author.Tests.{lt-ltb, le-ltb, le-leb, lt-leb, ltb-true, leb-true}
use Rattle.exact.specs.Fraction.{◌*ᶠ◌, ◌/ᶠ◌}
use Rattle.exact.proofs.Product.{*ᶠ_comm, product_above_above}
use Rattle.exact.proofs.Quotient.{quotient_above_above}
use Rattle.bound.specs.Fractions.{less_of_<ᶠ}
use Rattle.posit.specs.Format.{nar}
use Rattle.posit.specs.Value.{value}
use Rattle.posit.proofs.Ends.{value_positive}
use Rattle.word.specs.declared.inner.span.Span.{Span}
use Rattle.word.specs.Spans.{top_cell, mirrored, RealCells}
use Rattle.signs.specs.declared.inner.edge.Edge.{Edge}
use Rattle.signs.specs.Signs.{pick_cell, pick_span, start_edge, end_edge, first_edge, last_edge, CellAbove, EdgeAbove, last_cell, part_above, positive_some, positive_results, hull_of, turned_cells, either_sign, signed_results, has_zero, has_other, zero_if, product_cells, quotient_cells, result_cells}
use Rattle.cell.specs.Cells.{zero_cell, result_cell}
use Rattle.signs.specs.OneSign.{is_above, has_one_sign, OneSign, magnitudes}
use Rattle.signs.specs.Mixed.{is_mixed, is_mixed_by, Mixed, around}
use Rattle.word.proofs.Places.{top_cell_says}
use Rattle.word.proofs.Tiles.{half_large}
use Rattle.word.proofs.Computed.{cell_computed}
use Rattle.cell.proofs.CellFrom.{cell_same}
use Rattle.cell.proofs.ZeroCell.{even, above_zero}
use Rattle.word.proofs.Mirrored.{mirrored_some}
use Rattle.signs.proofs.ReachedCells.{end_positive, last_positive, first_above, last_above_says, hull_cells, zero_cells, some_cells, signed_cells, both_parts, start_unlimited, first_no_left, some_turned}
use Rattle.signs.proofs.OneSigned.{Side, above, below, side, same_span, above_magnitudes, below_magnitudes, some_magnitudes, magnitudes_above, above_part, above_none, below_none, below_part, no_zero, hull_none, with_right, left_above, left_below, right_above, right_below, zero_left, zero_right, first_of_two, second_of}

module _ (n : ℕ) (wide : 3 ≤ n) where
  first_there : 2 ^ n ≤ top_cell n
  first_there = omega (arith, top_cell_says n wide, half_large wide)

  -- ---- a part from 0 up to a cell, and its negatives
  abbrev up_to : ℕ → Span
  up_to c = record { lo = 2 ^ n; hi = c }

  turned_up : (c : ℕ) → turned_cells n (up_to c) ≡ record { lo = top_cell n - c; hi = top_cell n - 2 ^ n }
  turned_up c = sym (some_turned n (up_to c) refl first_there)

  -- from the negatives of v up to u, or turned round
  abbrev reaching : Bool → ℕ → ℕ → Span
  reaching t v u = pick_span t (record { lo = top_cell n - v; hi = u }) (record { lo = top_cell n - u; hi = v })

  module _ {u v : ℕ} (h : CellAbove n u) (k : CellAbove n v) where
    both_sides : hull_of (up_to u) (turned_cells n (up_to v)) ≡ reaching true v u
    both_sides = ap (hull_of (up_to u)) (turned_up v) ∙ same_span (omega (arith, k.above, top_cell_says n wide)) (omega (arith, h.above, top_cell_says n wide))

    both_turned : hull_of (turned_cells n (up_to u)) (turned_cells n (turned_cells n (up_to v))) ≡ reaching false v u
    both_turned =
        ap₂ hull_of (turned_up u) (ap (turned_cells n) (turned_up v) ∙ sym (some_turned n (record { lo = top_cell n - v; hi = top_cell n - 2 ^ n }) refl (omega arith)))
        ∙ same_span (omega (arith, h.above, top_cell_says n wide)) (omega (arith, k.above, k.there, top_cell_says n wide))

    turned_both_sides : turned_cells n (hull_of (up_to u) (turned_cells n (up_to v))) ≡ reaching false v u
    turned_both_sides = ap (turned_cells n) both_sides ∙ sym (some_turned n (reaching true v u) refl (omega arith)) ∙ same_span refl (omega (arith, k.there))

    zero_between : (t : Bool) → hull_of (reaching t v u) (zero_if n true true) ≡ reaching t v u
    zero_between true = same_span (omega (arith, k.above, top_cell_says n wide)) (omega (arith, h.above))
    zero_between false = same_span (omega (arith, h.above, top_cell_says n wide)) (omega (arith, k.above))

  -- ---- the parts of an operand with members on both sides
  module _ {s : Span} (m : Mixed n s) where
    pub upper_above : CellAbove n s.hi
    upper_above = record { above = m.above; there = m.there }

    pub lower_above : CellAbove n (top_cell n - s.lo)
    lower_above = record { above = omega (arith, m.below, top_cell_says n wide); there = omega arith }

    mixed_some : s.lo ≤ s.hi
    mixed_some = omega (arith, m.below, m.above)

    upper_part : part_above n s ≡ up_to s.hi
    upper_part = rw (le-ltb s.hi (2 ^ n) m.above) (same_span (omega (arith, m.below)) refl)

    lower_part : part_above n (mirrored n s) ≡ up_to (top_cell n - s.lo)
    lower_part =
        rw (mirrored_some n s mixed_some, le-ltb (top_cell n - s.lo) (2 ^ n) lower_above.above)
        (same_span (omega (arith, m.above, top_cell_says n wide)) refl)

    mixed_zero : has_zero n s ≡ true
    mixed_zero = rw (le-leb s.lo (zero_cell n) (omega (arith, m.below)), le-leb (zero_cell n) s.hi (omega (arith, m.above)))

  other_of_one_sign : {s : Span} → OneSign n s → has_other n s ≡ true
  other_of_one_sign {s} o = go (side n s o.one_sign)
    where
      go : Side n s → has_other n s ≡ true
      go (above e l) = rw (le-leb (2 ^ n) s.hi (omega (arith, l, o.some)))
      go (below e l) = rw (lt-leb (2 ^ n) s.hi (omega (arith, l)), lt-ltb s.lo (zero_cell n) (omega (arith, l, o.some)))

  -- ---- the last of some results lies above 0
  module _ (es : ℕ) where
    result_above : (divide : Bool) (p q : ℕ) → (0 < p) × (p < nar n) → (0 < q) × (q < nar n) → 2 ^ n ≤ result_cell n es divide p q
    result_above true p q (a, b) (c, d) =
        rw (cell_computed n es wide (value n es p /ᶠ value n es q))
        (above_zero n es wide (less_of_<ᶠ (quotient_above_above (value_positive n es c d) (value_positive n es a b))))
    result_above false p q (a, b) (c, d) =
        rw (cell_computed n es wide (value n es p *ᶠ value n es q))
        (above_zero n es wide (less_of_<ᶠ (product_above_above (value_positive n es a b) (value_positive n es c d))))

    last_picked : (u v k : Bool) (c : ℕ) → (u ≡ false → v ≡ false → 2 ^ n ≤ c) → 2 ^ n ≤ pick_cell (u || v) (top_cell n) (pick_cell k c (2 * (c / 2)))
    last_picked true v k c h = first_there
    last_picked false true k c h = first_there
    last_picked false false true c h = h refl refl
    last_picked false false false c h = let l = h refl refl in omega (arith, l, even n es wide)

    last_above_zero : (divide : Bool) (x y : Edge) → EdgeAbove n x → EdgeAbove n y → 2 ^ n ≤ last_cell n es divide x y
    last_above_zero divide x y f g =
        last_picked x.unlimited y.unlimited (x.closed && y.closed) (result_cell n es divide x.posit y.posit)
        (λ h k. result_above divide x.posit y.posit (f h) (g k))

    -- ---- the results of a part from 0 on start next to 0
    abbrev last_of : Bool → ℕ → Span → ℕ
    last_of divide c q = (positive_some n es divide (up_to c) q).hi

    next_to_zero : (divide : Bool) (c : ℕ) (q : Span) → up_to (last_of divide c q) ≡ positive_some n es divide (up_to c) q
    next_to_zero divide c q = same_span (first_no_left n es divide (start_edge n (2 ^ n)) (first_edge n divide q) refl (start_unlimited n (2 ^ n) refl refl)) refl

    -- ---- products in the other order
    result_swapped : (p q : ℕ) → result_cell n es false p q ≡ result_cell n es false q p
    result_swapped p q = cell_same n es wide (*ᶠ_comm (value n es p) (value n es q))

    picked_swapped : (f : Bool → Bool → ℕ → ℕ) (x y : Edge)
        → f (x.unlimited || y.unlimited) (x.closed && y.closed) (result_cell n es false x.posit y.posit)
        ≡ f (y.unlimited || x.unlimited) (y.closed && x.closed) (result_cell n es false y.posit x.posit)
    picked_swapped f x y = rw (or_comm x.unlimited y.unlimited, and_comm x.closed y.closed, result_swapped x.posit y.posit)

    products_swapped : (p q : Span) → positive_some n es false p q ≡ positive_some n es false q p
    products_swapped p q =
        same_span (picked_swapped (λ u k c. pick_cell u (2 ^ n) (pick_cell k c (2 * ((c + 1) / 2)))) (start_edge n p.lo) (start_edge n q.lo))
        (picked_swapped (λ u k c. pick_cell u (top_cell n) (pick_cell k c (2 * (c / 2)))) (end_edge n p.hi) (end_edge n q.hi))

    module _ {y : Span} (b : OneSign n y) where
      abbrev sizes : Span
      sizes = magnitudes n y

      pub near_above : CellAbove n (magnitudes n y).lo
      near_above = first_above n wide (magnitudes_above n wide b) (some_magnitudes n wide b)

      pub far_above : CellAbove n (magnitudes n y).hi
      far_above = last_above_says n wide (magnitudes_above n wide b) (some_magnitudes n wide b)

      last_above_of : (divide : Bool) {c : ℕ} → CellAbove n c → 2 ^ n ≤ last_of divide c sizes
      last_above_of divide {c} a =
          last_above_zero divide (end_edge n c) (last_edge n divide sizes) (end_positive n wide a) (last_positive n wide divide near_above far_above)

      last_there : (divide : Bool) {c : ℕ} → CellAbove n c → CellAbove n (last_of divide c sizes)
      last_there divide {c} a = record { above = last_above_of divide a; there = (some_cells n wide es divide (up_to c) sizes).high_there }

      from_zero : (divide : Bool) (c : ℕ) → positive_results n es divide (up_to c) sizes ≡ up_to (last_of divide c sizes)
      from_zero divide c = sym (both_parts n es divide (up_to c) sizes (next_to_zero divide c sizes) first_there (some_magnitudes n wide b))

      -- ---- with the right operand of one sign
      module _ (divide : Bool) (c : ℕ) where
        beside_above : is_above n y ≡ true → 2 ^ n ≤ y.lo → with_right n wide es divide (up_to c) y ≡ up_to (last_of divide c sizes)
        beside_above e l =
            right_above n wide es divide (up_to c) b l ∙ ap (positive_results n es divide (up_to c)) (sym (above_magnitudes n y e)) ∙ from_zero divide c

        beside_below : is_above n y ≡ false → y.hi < zero_cell n → with_right n wide es divide (up_to c) y ≡ turned_cells n (up_to (last_of divide c sizes))
        beside_below e l =
            right_below n wide es divide (up_to c) b l
            ∙ ap (turned_cells n) (ap (positive_results n es divide (up_to c)) (sym (below_magnitudes n y e)) ∙ from_zero divide c)

      -- ---- products with the left operand of one sign
      to_zero : (c : ℕ) → positive_results n es false sizes (up_to c) ≡ up_to (last_of false c sizes)
      to_zero c =
          sym (both_parts n es false sizes (up_to c) (next_to_zero false c sizes ∙ products_swapped (up_to c) sizes) (some_magnitudes n wide b) first_there)

      module _ {x : Span} (a : Mixed n x) where
        -- the last results of the outermost members
        abbrev last_below : Bool → ℕ
        last_below divide = last_of divide (top_cell n - x.lo) sizes

        abbrev last_above : Bool → ℕ
        last_above divide = last_of divide x.hi sizes

        pub below_there : (divide : Bool) → CellAbove n (last_below divide)
        below_there divide = last_there divide (lower_above a)

        pub above_there : (divide : Bool) → CellAbove n (last_above divide)
        above_there divide = last_there divide (upper_above a)

        abbrev both : Bool → Span
        both divide = around n y (last_below divide) (last_above divide)

        facing : (divide : Bool) {t : Bool} → is_above n y ≡ t → both divide ≡ reaching t (last_below divide) (last_above divide)
        facing divide e = ap (λ t. reaching t (last_below divide) (last_above divide)) e

        signed_around : (divide : Bool) → signed_results n es divide x y ≡ both divide
        signed_around divide = go (side n y b.one_sign)
          where
            beside : Span → Span
            beside p = with_right n wide es divide p y

            go : Side n y → signed_results n es divide x y ≡ both divide
            go (above e l) =
                ap₂ hull_of (ap beside (upper_part a) ∙ beside_above divide x.hi e l)
                (ap (turned_cells n) (ap beside (lower_part a) ∙ beside_above divide (top_cell n - x.lo) e l))
                ∙ both_sides (above_there divide) (below_there divide) ∙ sym (facing divide e)
            go (below e l) =
                ap₂ hull_of (ap beside (upper_part a) ∙ beside_below divide x.hi e l)
                (ap (turned_cells n) (ap beside (lower_part a) ∙ beside_below divide (top_cell n - x.lo) e l))
                ∙ both_turned (above_there divide) (below_there divide) ∙ sym (facing divide e)

        beside_mixed : with_right n wide es false sizes x ≡ hull_of (up_to (last_above false)) (turned_cells n (up_to (last_below false)))
        beside_mixed =
            ap₂ (either_sign n es false sizes) (upper_part a) (lower_part a)
            ∙ ap₂ (λ s t. hull_of s (turned_cells n t)) (to_zero x.hi) (to_zero (top_cell n - x.lo))

        swapped_around : signed_results n es false y x ≡ both false
        swapped_around = go (side n y b.one_sign)
          where
            go : Side n y → signed_results n es false y x ≡ both false
            go (above e l) =
                left_above n wide es false y x (above_part n wide b l ∙ sym (above_magnitudes n y e)) (above_none n wide b l)
                ∙ beside_mixed ∙ both_sides (above_there false) (below_there false) ∙ sym (facing false e)
            go (below e l) =
                left_below n wide es false y x (below_none n wide b l) (below_part n wide b l ∙ sym (below_magnitudes n y e))
                ∙ ap (turned_cells n) beside_mixed ∙ turned_both_sides (above_there false) (below_there false) ∙ sym (facing false e)

        -- ---- with 0
        around_zero : (divide : Bool) → hull_of (both divide) (zero_if n true true) ≡ both divide
        around_zero divide = zero_between (above_there divide) (below_there divide) (is_above n y)

        by_signs_around : (divide : Bool) → hull_of (signed_results n es divide x y) (zero_if n (has_zero n x) (has_other n y)) ≡ both divide
        by_signs_around divide = ap₂ hull_of (signed_around divide) (ap₂ (zero_if n) (mixed_zero a) (other_of_one_sign b)) ∙ around_zero divide

        pub mixed_quotients : both true ≡ quotient_cells n es x y
        mixed_quotients = sym (by_signs_around true)

        pub mixed_products : both false ≡ product_cells n es x y
        mixed_products =
            sym (ap (hull_of (hull_of (signed_results n es false x y) (zero_if n (has_zero n x) (has_other n y)))) (zero_right n wide (leb x.lo x.hi) (no_zero n wide b))
            ∙ hull_none n wide (hull_cells n wide (signed_cells n wide es false x y) (zero_cells n wide (has_zero n x) (has_other n y))) ∙ by_signs_around false)

        pub mixed_results : (divide : Bool) → both divide ≡ result_cells n es divide x y
        mixed_results true = mixed_quotients
        mixed_results false = mixed_products

        pub products_either_way : product_cells n es x y ≡ product_cells n es y x
        products_either_way =
            sym mixed_products
            ∙ sym (ap₂ hull_of
            (ap (hull_of (signed_results n es false y x)) (zero_left n wide (has_other n x) (no_zero n wide b)) ∙ hull_none n wide (signed_cells n wide es false y x)
            ∙ swapped_around)
            (ap₂ (zero_if n) (le-leb y.lo y.hi b.some) (mixed_zero a)) ∙ around_zero false)

module _ (n : ℕ) (x y : Span) {r : Bool} (h : r ≡ is_mixed_by n x y) (t : r ≡ true) where
  pub mixed_left : RealCells n x → Mixed n x
  mixed_left c =
      let k = first_of_two (is_mixed n x) (has_one_sign n y) (sym h ∙ t) in
      record {
        there = c.there.high_there;
        below = ltb-true x.lo (zero_cell n) (second_of (leb (2 ^ n) x.hi) (ltb x.lo (zero_cell n)) k);
        above = leb-true (2 ^ n) x.hi (first_of_two (leb (2 ^ n) x.hi) (ltb x.lo (zero_cell n)) k);
      }

  pub one_sign_right : RealCells n y → y.lo ≤ y.hi → OneSign n y
  one_sign_right c l = record { there = c.there.high_there; some = l; one_sign = second_of (is_mixed n x) (has_one_sign n y) (sym h ∙ t) }
