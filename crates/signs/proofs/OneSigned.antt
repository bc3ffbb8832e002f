-- Two operands with members of one sign each have one pair of parts with results: the other parts are empty, and an empty part adds no cells.
use mathlib.Core.Path.{◌≡◌, refl, sym, ap, ap₂, ◌∙◌}
use mathlib.Core.Bool.{Bool, true, false, ◌&&◌, ◌||◌, beq, true≢false}
use Prim.Native.Nat.{ℕ, ◌+◌, ◌-◌, ◌^◌, ◌≤◌, ◌<◌}
use native.Mathlib.Omega.{arith}
use lib.Dec.{ltb, leb}
use lib.Pow.{pow_pos}
use borrow.Author.Tests.{lt-ltb, le-ltb, le-leb, lt-leb, leb-true, ltb-true}
use Rattle.word.specs.declared.inner.span.Span.{Span}
use Rattle.word.specs.Spans.{top_cell, no_cells, mirrored, Cells}
use Rattle.signs.specs.Signs.{pick_span, is_none, part_above, PartAbove, positive_some, positive_results, hull_of, turned_cells, either_sign, signed_results, has_zero, has_other, zero_if, product_cells, quotient_cells, result_cells}
use Rattle.cell.specs.Cells.{zero_cell}
use Rattle.signs.specs.OneSign.{is_above, has_one_sign, OneSign, magnitudes, with_signs}
use Rattle.word.proofs.Places.{top_cell_says}
use Rattle.word.proofs.Mirrored.{mirrored_some}
use Rattle.signs.proofs.ReachedCells.{none_cells, turned_cells_says, some_cells, some_first, positive_cells, either_cells, signed_cells}

-- which sign the members have
pub data Side (n : ℕ) (s : Span) : Type 0 where
  above : is_above n s ≡ true → 2 ^ n ≤ s.lo → Side n s
  below : is_above n s ≡ false → s.hi < zero_cell n → Side n s

pub side : (n : ℕ) (s : Span) → has_one_sign n s ≡ true → Side n s
side n s h = go (is_above n s) refl h
  where
    go : (b : Bool) → is_above n s ≡ b → (b || ltb s.hi (zero_cell n)) ≡ true → Side n s
    go true e k = above e (leb-true (2 ^ n) s.lo e)
    go false e k = below e (ltb-true s.hi (zero_cell n) k)

pub same_span : {s t : Span} → s.lo ≡ t.lo → s.hi ≡ t.hi → s ≡ t
same_span e f i = record { lo = e i; hi = f i }

pub above_magnitudes : (n : ℕ) (s : Span) → is_above n s ≡ true → magnitudes n s ≡ s
above_magnitudes n s e = rw e

pub below_magnitudes : (n : ℕ) (s : Span) → is_above n s ≡ false → magnitudes n s ≡ mirrored n s
below_magnitudes n s e = rw e

module _ (n : ℕ) (wide : 3 ≤ n) where
  -- ---- no cells
  pub none_is : is_none n (no_cells n) ≡ true
  none_is = lt-ltb (top_cell n) (top_cell n + 1) (omega arith)

  pub hull_none : {s : Span} → Cells n s → hull_of s (no_cells n) ≡ s
  hull_none c = same_span (omega (arith, c.low_there)) (omega arith)

  none_hull : {s : Span} → Cells n s → hull_of (no_cells n) s ≡ s
  none_hull c = same_span (omega (arith, c.low_there)) (omega arith)

  pub none_turned : turned_cells n (no_cells n) ≡ no_cells n
  none_turned = rw none_is

  -- ---- the parts of members of one sign, and their magnitudes
  module _ {s : Span} (o : OneSign n s) where
    pub above_part : 2 ^ n ≤ s.lo → part_above n s ≡ s
    above_part l = rw (le-ltb s.hi (2 ^ n) (omega (arith, l, o.some))) (same_span (omega (arith, l)) refl)

    pub below_none : s.hi < zero_cell n → part_above n s ≡ no_cells n
    below_none l = rw (lt-ltb s.hi (2 ^ n) (omega (arith, l)))

    pub above_none : 2 ^ n ≤ s.lo → part_above n (mirrored n s) ≡ no_cells n
    above_none l = rw (mirrored_some n s o.some, lt-ltb (top_cell n - s.lo) (2 ^ n) (omega (arith, l, o.some, o.there, top_cell_says n wide, pow_pos n)))

    pub below_part : s.hi < zero_cell n → part_above n (mirrored n s) ≡ mirrored n s
    below_part l =
        rw (mirrored_some n s o.some, le-ltb (top_cell n - s.lo) (2 ^ n) (omega (arith, l, o.some, o.there, top_cell_says n wide)))
        (same_span (omega (arith, l, o.there, top_cell_says n wide)) refl)

    pub some_magnitudes : (magnitudes n s).lo ≤ top_cell n
    some_magnitudes = go (side n s o.one_sign)
      where
        go : Side n s → (magnitudes n s).lo ≤ top_cell n
        go (above e l) = rw e (omega (arith, o.some, o.there))
        go (below e l) = rw (e, mirrored_some n s o.some) (omega arith)

    pub magnitudes_above : PartAbove n (magnitudes n s)
    magnitudes_above = go (side n s o.one_sign)
      where
        go : Side n s → PartAbove n (magnitudes n s)
        go (above e l) = rw e (record { low_above = l; low_there = omega (arith, o.some, o.there); high_there = o.there; ordered = λ h. o.some })
        go (below e l) =
            rw (e, mirrored_some n s o.some)
            (record {
              low_above = omega (arith, l, o.there, top_cell_says n wide);
              low_there = omega arith;
              high_there = omega arith;
              ordered = λ h. omega (arith, o.some);
            })

    pub no_zero : has_zero n s ≡ false
    no_zero = go (side n s o.one_sign)
      where
        go : Side n s → has_zero n s ≡ false
        go (above e l) = rw (lt-leb s.lo (zero_cell n) (omega (arith, l, pow_pos n)))
        go (below e l) = rw (le-leb s.lo (zero_cell n) (omega (arith, l, o.some)), lt-leb (zero_cell n) s.hi l)

  module _ (es : ℕ) (divide : Bool) where
    -- ---- results with an empty part
    none_left : (q : Span) → positive_results n es divide (no_cells n) q ≡ no_cells n
    none_left q = rw none_is

    pub none_right : (p : Span) → positive_results n es divide p (no_cells n) ≡ no_cells n
    none_right p = go (is_none n p)
      where
        go : (b : Bool) → pick_span (b || is_none n (no_cells n)) (no_cells n) (positive_some n es divide p (no_cells n)) ≡ no_cells n
        go true = refl
        go false = rw none_is

    pub only_above : (p q : Span) → either_sign n es divide p q (no_cells n) ≡ positive_results n es divide p q
    only_above p q = rw (none_right p, none_turned) (hull_none (positive_cells n wide es divide p q))

    only_below : (p q : Span) → either_sign n es divide p (no_cells n) q ≡ turned_cells n (positive_results n es divide p q)
    only_below p q = rw (none_right p) (none_hull (turned_cells_says n wide (positive_results n es divide p q)))

    pub neither : (p q : Span) → either_sign n es divide (no_cells n) p q ≡ no_cells n
    neither p q = rw (none_left p, none_left q, none_turned) (hull_none (none_cells n wide))

    -- ---- results of two parts that have members
    some_results : (p q : Span) → p.lo ≤ top_cell n → q.lo ≤ top_cell n → positive_results n es divide p q ≡ positive_some n es divide p q
    some_results p q h k = rw (le-ltb (top_cell n) p.lo h, le-ltb (top_cell n) q.lo k)

    turned_twice : (s : Span) → s.lo ≤ top_cell n → s.hi ≤ top_cell n → turned_cells n (turned_cells n s) ≡ s
    turned_twice s h k = rw (le-ltb (top_cell n) s.lo h, le-ltb (top_cell n) (top_cell n - s.hi) (omega arith)) (same_span (omega (arith, h)) (omega (arith, k)))

    -- ---- the results of a left operand of one sign
    abbrev pub with_right : Span → Span → Span
    with_right p y = either_sign n es divide p (part_above n y) (part_above n (mirrored n y))

    pub left_above : (x y : Span) {p : Span} → part_above n x ≡ p → part_above n (mirrored n x) ≡ no_cells n → signed_results n es divide x y ≡ with_right p y
    left_above x y {p} e f =
        ap₂ hull_of (ap (λ s. with_right s y) e) (ap (λ s. turned_cells n (with_right s y)) f ∙ ap (turned_cells n) (neither (part_above n y) (part_above n (mirrored n y))) ∙ none_turned)
        ∙ hull_none (either_cells n wide es divide p (part_above n y) (part_above n (mirrored n y)))

    pub left_below : (x y : Span) {p : Span} → part_above n x ≡ no_cells n → part_above n (mirrored n x) ≡ p → signed_results n es divide x y ≡ turned_cells n (with_right p y)
    left_below x y {p} e f =
        ap₂ hull_of (ap (λ s. with_right s y) e ∙ neither (part_above n y) (part_above n (mirrored n y))) (ap (λ s. turned_cells n (with_right s y)) f)
        ∙ none_hull (turned_cells_says n wide (with_right p y))

    -- ---- and of a right one
    pub right_above : (p : Span) {y : Span} → OneSign n y → 2 ^ n ≤ y.lo → with_right p y ≡ positive_results n es divide p y
    right_above p {y} o l = ap₂ (either_sign n es divide p) (above_part o l) (above_none o l) ∙ only_above p y

    pub right_below : (p : Span) {y : Span} → OneSign n y → y.hi < zero_cell n → with_right p y ≡ turned_cells n (positive_results n es divide p (mirrored n y))
    right_below p {y} o l = ap₂ (either_sign n es divide p) (below_none o l) (below_part o l) ∙ only_below p (mirrored n y)

    module _ {x y : Span} (a : OneSign n x) (b : OneSign n y) where
      abbrev results : Span
      results = positive_some n es divide (magnitudes n x) (magnitudes n y)

      pub results_there : Cells n results
      results_there = some_cells n wide es divide (magnitudes n x) (magnitudes n y)

      found : {p q : Span} → magnitudes n x ≡ p → magnitudes n y ≡ q → results ≡ positive_results n es divide p q
      found e f = sym (some_results (magnitudes n x) (magnitudes n y) (some_magnitudes a) (some_magnitudes b)) ∙ ap₂ (positive_results n es divide) e f

      signs_are : {p q : Bool} → is_above n x ≡ p → is_above n y ≡ q → with_signs n x y results ≡ pick_span (beq p q) results (turned_cells n results)
      signs_are e f = ap₂ (λ (p q : Bool). pick_span (beq p q) results (turned_cells n results)) e f

      pub signed_of_magnitudes : with_signs n x y results ≡ signed_results n es divide x y
      signed_of_magnitudes = go (side n x a.one_sign) (side n y b.one_sign)
        where
          go : Side n x → Side n y → with_signs n x y results ≡ signed_results n es divide x y
          go (above e l) (above f k) =
              signs_are e f ∙ found (above_magnitudes n x e) (above_magnitudes n y f)
              ∙ sym (left_above x y (above_part a l) (above_none a l) ∙ right_above x b k)
          go (above e l) (below f k) =
              signs_are e f ∙ ap (turned_cells n) (found (above_magnitudes n x e) (below_magnitudes n y f))
              ∙ sym (left_above x y (above_part a l) (above_none a l) ∙ right_below x b k)
          go (below e l) (above f k) =
              signs_are e f ∙ ap (turned_cells n) (found (below_magnitudes n x e) (above_magnitudes n y f))
              ∙ sym (left_below x y (below_none a l) (below_part a l) ∙ ap (turned_cells n) (right_above (mirrored n x) b k))
          go (below e l) (below f k) =
              signs_are e f ∙ sym (turned_twice results (some_first n wide es divide (magnitudes n x) (magnitudes n y)) results_there.high_there)
              ∙ ap (λ s. turned_cells n (turned_cells n s)) (found (below_magnitudes n x e) (below_magnitudes n y f))
              ∙ sym (left_below x y (below_none a l) (below_part a l) ∙ ap (turned_cells n) (right_below (mirrored n x) b k))

  -- ---- no operand has 0
  pub zero_left : {p : Bool} (q : Bool) → p ≡ false → zero_if n p q ≡ no_cells n
  zero_left q e = ap (λ (p : Bool). zero_if n p q) e

  pub zero_right : (p : Bool) {q : Bool} → q ≡ false → zero_if n p q ≡ no_cells n
  zero_right true e = ap (zero_if n true) e
  zero_right false e = refl

  module _ (es : ℕ) {x y : Span} (a : OneSign n x) (b : OneSign n y) where
    pub quotients_of_magnitudes : with_signs n x y (positive_some n es true (magnitudes n x) (magnitudes n y)) ≡ quotient_cells n es x y
    quotients_of_magnitudes =
        signed_of_magnitudes es true a b
        ∙ sym (ap (hull_of (signed_results n es true x y)) (zero_left (has_other n y) (no_zero a)) ∙ hull_none (signed_cells n wide es true x y))

    pub products_of_magnitudes : with_signs n x y (positive_some n es false (magnitudes n x) (magnitudes n y)) ≡ product_cells n es x y
    products_of_magnitudes =
        signed_of_magnitudes es false a b
        ∙ sym (ap₂ hull_of
        (ap (hull_of (signed_results n es false x y)) (zero_left (has_other n y) (no_zero a)) ∙ hull_none (signed_cells n wide es false x y))
        (zero_right (leb x.lo x.hi) (no_zero b))
        ∙ hull_none (signed_cells n wide es false x y))

    pub results_of_magnitudes : (divide : Bool) → with_signs n x y (positive_some n es divide (magnitudes n x) (magnitudes n y)) ≡ result_cells n es divide x y
    results_of_magnitudes true = quotients_of_magnitudes
    results_of_magnitudes false = products_of_magnitudes

-- ---- both halves of a test that holds
pub first_of_two : (p q : Bool) → (p && q) ≡ true → p ≡ true
first_of_two true q e = refl
first_of_two false q e = e

pub second_of : (p q : Bool) → (p && q) ≡ true → q ≡ true
second_of true q e = e
second_of false q e = absurd (true≢false (sym e))
