-- The cell of a tile is the place of the end that the tile says: a tile and its cell differ by half of all tiles, so that the numbers, and with
-- them the cells, begin behind NaR.
use mathlib.Core.Path.{◌≡◌, refl, ap, ◌∙◌}
use mathlib.Core.Logic.{◌≢◌}
use Prim.Native.Nat.{ℕ, zero, suc, ◌+◌, ◌-◌, ◌*◌, ◌/◌, ◌%◌, ◌^◌, ◌≤◌, ◌<◌}
use native.Mathlib.Nat.{mod-eq_of_lt, mod-lt}
use native.Mathlib.Omega.{arith}
use native.Mathlib.Decide.{dec_lt, ℕ_discrete}
use lib.Pow.{pow_pos, shr_lt}
use borrow.Author.Tests.{eq-eqb, ne_eqb}
use Rattle.bound.specs.Bound.{Bound, none, closed_at, open_at, map_bound}
use Rattle.bound.specs.End.{OnGrid, start_place, end_place}
use Rattle.posit.specs.Format.{nar, Finite}
use Rattle.posit.proofs.Mirror.{Side, below, above, side, power_wider}
use Rattle.posit.proofs.Patterns.{some_bit}
use Rattle.word.specs.Word.{tiles, words, start_tile, end_tile, closed_nar, open_nar, end_of_tile}
use Rattle.word.specs.Numbered.{count, pattern_at, number_of}
use Rattle.word.specs.Spans.{top_cell, start_cell, end_cell, start_tile_at, end_tile_at}
use Rattle.word.proofs.Grid.{once_over, half, nar_positive, number_below, number_above, number_fits, number_of_pattern, pattern_low, pattern_high, pattern_finite, pattern_of_number}

-- ---- what a tile is: an open NaR, or a finite posit, closed or open
pub data Tile (n t : ℕ) : Type 0 where
  unbounded_tile : t ≡ open_nar n → Tile n t
  closed_tile : (p : ℕ) → Finite n p → t ≡ 2 * p → Tile n t
  open_tile : (p : ℕ) → Finite n p → t ≡ 2 * p + 1 → Tile n t

module _ (n : ℕ) (wide : 3 ≤ n) where
  one : 1 ≤ n
  one = some_bit n wide

  twice : tiles n ≡ 2 * 2 ^ n
  twice = power_wider n

  pub tile : {t : ℕ} → t < tiles n → t ≢ closed_nar n → Tile n t
  tile {t} h c = go (t % 2) refl (ℕ_discrete t (open_nar n))
    where
      go : (r : ℕ) → t % 2 ≡ r → Dec (t ≡ open_nar n) → Tile n t
      go r e (yes o) = unbounded_tile o
      go zero e (no o) =
          let d : t ≡ 2 * (t / 2) = omega arith in
          closed_tile (t / 2) (record { fits = omega (arith, twice); not_nar = λ i. c (d ∙ ap (λ (j : ℕ). 2 * j) i) }) d
      go (suc r) e (no o) =
          let d : t ≡ 2 * (t / 2) + 1 = omega arith in
          open_tile (t / 2) (record { fits = omega (arith, twice); not_nar = λ i. o (d ∙ ap (λ (j : ℕ). 2 * j + 1) i) }) d

  -- ---- the tiles of a word
  pub start_tile_of_word : {w : ℕ} → w < words n → start_tile n w < tiles n
  start_tile_of_word {w} h = shr_lt (n + 1) (n + 1) (rw (← same) h)
    where
      same : 2 * n + 2 ≡ n + 1 + (n + 1)
      same = omega arith

  pub end_tile_of_word : (w : ℕ) → end_tile n w < tiles n
  end_tile_of_word w = mod-lt w (pow_pos (n + 1))

  -- ---- the end that a tile says
  says_unbounded : end_of_tile n (open_nar n) ≡ none
  says_unbounded = rw (eq-eqb (open_nar n) (open_nar n) refl)

  says_closed : (p : ℕ) → end_of_tile n (2 * p) ≡ closed_at p
  says_closed p =
      let d : 2 * p / 2 ≡ p = omega arith in
      let r : 2 * p % 2 ≡ 0 = omega arith in
      rw (ne_eqb (2 * p) (open_nar n) (omega arith), d, r)

  says_open : {p : ℕ} → p ≢ nar n → end_of_tile n (2 * p + 1) ≡ open_at p
  says_open {p} o =
      let d : (2 * p + 1) / 2 ≡ p = omega arith in
      let r : (2 * p + 1) % 2 ≡ 1 = omega arith in
      rw (ne_eqb (2 * p + 1) (open_nar n) (λ i. o (omega arith)), d, r)

  -- ---- half of all tiles further on, from a pattern to its number and back
  further : {p : ℕ} → Finite n p → (u : ℕ) → u < 2 → (2 * p + u + 2 ^ n) % tiles n ≡ 2 * number_of n p + 2 + u
  further {p} f u h = go (side f)
    where
      go : Side n p → (2 * p + u + 2 ^ n) % tiles n ≡ 2 * number_of n p + 2 + u
      go (below l) = mod-eq_of_lt (omega (arith, twice, half n one)) ∙ omega (arith, number_below n one l, half n one)
      go (above l k) =
          once_over {x = 2 * p + u + 2 ^ n} (omega (arith, twice, half n one)) (omega (arith, twice))
          ∙ omega (arith, twice, number_above n one l k, half n one)

  back : (k : ℕ) → k < count n → (u : ℕ) → u < 2 → (2 * k + 2 + u + 2 ^ n) % tiles n ≡ 2 * pattern_at n k + u
  back k h u i = go (dec_lt (k + 1) (nar n))
    where
      go : Dec (k + 1 < nar n) → (2 * k + 2 + u + 2 ^ n) % tiles n ≡ 2 * pattern_at n k + u
      go (yes l) = mod-eq_of_lt (omega (arith, twice, half n one)) ∙ omega (arith, pattern_low n one k l, half n one)
      go (no l) =
          once_over {x = 2 * k + 2 + u + 2 ^ n} (omega (arith, twice, half n one)) (omega (arith, twice))
          ∙ omega (arith, twice, pattern_high n one k (omega arith) h, half n one)

  -- ---- the cells of the three tiles
  pub top_cell_says : top_cell n ≡ 2 * count n
  top_cell_says = omega (arith, twice)

  pub start_unbounded : start_cell n (open_nar n) ≡ 0
  start_unbounded =
      ap (λ (x : ℕ). x - 1) (once_over {x = open_nar n + 2 ^ n} {m = tiles n} (omega (arith, twice, half n one)) (omega (arith, twice, half n one, nar_positive n one)))
      ∙ omega (arith, twice, half n one)

  pub start_closed : {p : ℕ} → Finite n p → start_cell n (2 * p) ≡ 2 * number_of n p + 1
  start_closed {p} f =
      let s : 2 * p ≡ 2 * p + 0 = omega arith in
      ap (λ (x : ℕ). (x + 2 ^ n) % tiles n - 1) s ∙ omega (arith, further f 0 (omega arith))

  pub start_open : {p : ℕ} → Finite n p → start_cell n (2 * p + 1) ≡ 2 * number_of n p + 2
  start_open f = omega (arith, further f 1 (omega arith))

  pub end_unbounded : end_cell n (open_nar n) ≡ top_cell n
  end_unbounded = rw (eq-eqb (open_nar n) (open_nar n) refl)

  pub end_closed : {p : ℕ} → Finite n p → end_cell n (2 * p) ≡ 2 * number_of n p + 1
  end_closed {p} f = rw (ne_eqb (2 * p) (open_nar n) (omega arith)) (omega (arith, start_closed f))

  pub end_open : {p : ℕ} → Finite n p → end_cell n (2 * p + 1) ≡ 2 * number_of n p
  end_open {p} f = rw (ne_eqb (2 * p + 1) (open_nar n) (λ i. f.not_nar (omega arith))) (omega (arith, start_open f))

  -- ---- the tiles of a cell
  tile_at_zero : start_tile_at n 0 ≡ open_nar n
  tile_at_zero = mod-eq_of_lt (omega (arith, twice, half n one, nar_positive n one)) ∙ omega (arith, half n one)

  start_tile_closed : (k : ℕ) → k < count n → start_tile_at n (2 * k + 1) ≡ 2 * pattern_at n k
  start_tile_closed k h = ap (λ (x : ℕ). x % tiles n) {y = 2 * k + 2 + 0 + 2 ^ n} (omega arith) ∙ back k h 0 (omega arith) ∙ omega arith

  start_tile_open : (k : ℕ) → k < count n → start_tile_at n (2 * k + 2) ≡ 2 * pattern_at n k + 1
  start_tile_open k h = ap (λ (x : ℕ). x % tiles n) {y = 2 * k + 2 + 1 + 2 ^ n} (omega arith) ∙ back k h 1 (omega arith)

  tile_at_top : end_tile_at n (top_cell n) ≡ open_nar n
  tile_at_top = rw (eq-eqb (top_cell n) (top_cell n) refl)

  end_tile_closed : (k : ℕ) → k < count n → end_tile_at n (2 * k + 1) ≡ 2 * pattern_at n k
  end_tile_closed k h =
      rw (ne_eqb (2 * k + 1) (top_cell n) (omega (arith, top_cell_says)))
      (ap (λ (x : ℕ). x % tiles n) {y = 2 * k + 2 + 0 + 2 ^ n} (omega arith) ∙ back k h 0 (omega arith) ∙ omega arith)

  end_tile_open : (k : ℕ) → k < count n → end_tile_at n (2 * k) ≡ 2 * pattern_at n k + 1
  end_tile_open k h =
      rw (ne_eqb (2 * k) (top_cell n) (omega (arith, top_cell_says)))
      (ap (λ (x : ℕ). x % tiles n) {y = 2 * k + 2 + 1 + 2 ^ n} (omega arith) ∙ back k h 1 (omega arith))

-- ---- the posit that an end names is finite
abbrev pub FiniteEnd : ℕ → Bound ℕ → Type 0
FiniteEnd n none = Unit {0}
FiniteEnd n (closed_at p) = Finite n p
FiniteEnd n (open_at p) = Finite n p

-- ---- all of a tile other than a closed NaR: the places of its end, its cells, and the way back
pub record Placed (n t : ℕ) : Type 0 where
  pub finite_end : FiniteEnd n (end_of_tile n t)
  pub on_grid : OnGrid (count n) (map_bound (number_of n) (end_of_tile n t))
  pub start_cell_is : start_cell n t ≡ start_place (map_bound (number_of n) (end_of_tile n t))
  pub end_cell_is : end_cell n t ≡ end_place (count n) (map_bound (number_of n) (end_of_tile n t))
  pub start_cell_fits : start_cell n t ≤ top_cell n
  pub end_cell_fits : end_cell n t ≤ top_cell n
  pub start_tile_back : start_tile_at n (start_cell n t) ≡ t
  pub end_tile_back : end_tile_at n (end_cell n t) ≡ t

-- ---- all of a cell: the two tiles that stand there, and the way back
pub record Tiled (n c : ℕ) : Type 0 where
  pub start_tile_fits : start_tile_at n c < tiles n
  pub start_tile_not_nar : start_tile_at n c ≢ closed_nar n
  pub start_cell_back : start_cell n (start_tile_at n c) ≡ c
  pub end_tile_fits : end_tile_at n c < tiles n
  pub end_tile_not_nar : end_tile_at n c ≢ closed_nar n
  pub end_cell_back : end_cell n (end_tile_at n c) ≡ c

module _ (n : ℕ) (wide : 3 ≤ n) where
  placed_unbounded : Placed n (open_nar n)
  placed_unbounded =
      record {
        finite_end = rw (says_unbounded n wide) tt;
        on_grid = rw (says_unbounded n wide) tt;
        start_cell_is = rw (says_unbounded n wide) (start_unbounded n wide);
        end_cell_is = rw (says_unbounded n wide) (end_unbounded n wide ∙ top_cell_says n wide);
        start_cell_fits = omega (arith, start_unbounded n wide);
        end_cell_fits = omega (arith, end_unbounded n wide);
        start_tile_back = rw (start_unbounded n wide) (tile_at_zero n wide);
        end_tile_back = rw (end_unbounded n wide) (tile_at_top n wide);
      }

  placed_closed : {p : ℕ} → Finite n p → Placed n (2 * p)
  placed_closed {p} f =
      let i : number_of n p < count n = number_fits n (some_bit n wide) f in
      record {
        finite_end = rw (says_closed n wide p) f;
        on_grid = rw (says_closed n wide p) i;
        start_cell_is = rw (says_closed n wide p) (start_closed n wide f);
        end_cell_is = rw (says_closed n wide p) (end_closed n wide f);
        start_cell_fits = omega (arith, start_closed n wide f, top_cell_says n wide);
        end_cell_fits = omega (arith, end_closed n wide f, top_cell_says n wide);
        start_tile_back =
            rw (start_closed n wide f) (start_tile_closed n wide (number_of n p) i ∙ ap (λ (q : ℕ). 2 * q) (pattern_of_number n (some_bit n wide) f));
        end_tile_back =
            rw (end_closed n wide f) (end_tile_closed n wide (number_of n p) i ∙ ap (λ (q : ℕ). 2 * q) (pattern_of_number n (some_bit n wide) f));
      }

  placed_open : {p : ℕ} → Finite n p → Placed n (2 * p + 1)
  placed_open {p} f =
      let i : number_of n p < count n = number_fits n (some_bit n wide) f in
      record {
        finite_end = rw (says_open n wide f.not_nar) f;
        on_grid = rw (says_open n wide f.not_nar) i;
        start_cell_is = rw (says_open n wide f.not_nar) (start_open n wide f);
        end_cell_is = rw (says_open n wide f.not_nar) (end_open n wide f);
        start_cell_fits = omega (arith, start_open n wide f, top_cell_says n wide);
        end_cell_fits = omega (arith, end_open n wide f, top_cell_says n wide);
        start_tile_back =
            rw (start_open n wide f) (start_tile_open n wide (number_of n p) i ∙ ap (λ (q : ℕ). 2 * q + 1) (pattern_of_number n (some_bit n wide) f));
        end_tile_back =
            rw (end_open n wide f) (end_tile_open n wide (number_of n p) i ∙ ap (λ (q : ℕ). 2 * q + 1) (pattern_of_number n (some_bit n wide) f));
      }

  pub placed : {t : ℕ} → t < tiles n → t ≢ closed_nar n → Placed n t
  placed {t} h c = go (tile n wide h c)
    where
      go : Tile n t → Placed n t
      go (unbounded_tile e) = rw e placed_unbounded
      go (closed_tile p f e) = rw e (placed_closed f)
      go (open_tile p f e) = rw e (placed_open f)

  -- ---- a cell is the first after one start and the last before one end
  abbrev Good : ℕ → Type 0
  Good t = (t < tiles n) × (t ≢ closed_nar n)

  good_unbounded : Good (open_nar n)
  good_unbounded = omega (arith, twice n wide, half n (some_bit n wide), nar_positive n (some_bit n wide))

  good_closed : {p : ℕ} → Finite n p → Good (2 * p)
  good_closed f = (omega (arith, f.fits, twice n wide), λ e. f.not_nar (omega arith))

  good_open : {p : ℕ} → Finite n p → Good (2 * p + 1)
  good_open f = omega (arith, f.fits, twice n wide)

  module _ {k : ℕ} (h : k < count n) where
    finite : Finite n (pattern_at n k)
    finite = pattern_finite n (some_bit n wide) h

    same_number : number_of n (pattern_at n k) ≡ k
    same_number = number_of_pattern n (some_bit n wide) h

  start_there : (c : ℕ) → c ≤ top_cell n → Good (start_tile_at n c) × (start_cell n (start_tile_at n c) ≡ c)
  start_there zero h = rw (tile_at_zero n wide) (good_unbounded, start_unbounded n wide)
  start_there (suc b) h = go (b / 2) (b % 2) (omega arith) (omega (arith, top_cell_says n wide)) (omega arith)
    where
      go : (k r : ℕ) → b ≡ 2 * k + r → k < count n → r < 2 → Good (start_tile_at n (suc b)) × (start_cell n (start_tile_at n (suc b)) ≡ suc b)
      go k zero e i l =
          let s : suc b ≡ 2 * k + 1 = omega arith in
          rw (s, start_tile_closed n wide k i) (good_closed (finite i), start_closed n wide (finite i) ∙ ap (λ (j : ℕ). 2 * j + 1) (same_number i))
      go k (suc r) e i l =
          let s : suc b ≡ 2 * k + 2 = omega arith in
          rw (s, start_tile_open n wide k i) (good_open (finite i), start_open n wide (finite i) ∙ ap (λ (j : ℕ). 2 * j + 2) (same_number i))

  end_there : (c : ℕ) → c ≤ top_cell n → Good (end_tile_at n c) × (end_cell n (end_tile_at n c) ≡ c)
  end_there c h = go (c / 2) (c % 2) (omega arith) (omega arith) (ℕ_discrete c (top_cell n))
    where
      go : (k r : ℕ) → c ≡ 2 * k + r → r < 2 → Dec (c ≡ top_cell n) → Good (end_tile_at n c) × (end_cell n (end_tile_at n c) ≡ c)
      go k r e l (yes t) = rw (t, tile_at_top n wide) (good_unbounded, end_unbounded n wide)
      go k zero e l (no t) =
          let s : c ≡ 2 * k = omega arith in
          let i : k < count n = omega (arith, top_cell_says n wide) in
          rw (s, end_tile_open n wide k i) (good_open (finite i), end_open n wide (finite i) ∙ ap (λ (j : ℕ). 2 * j) (same_number i))
      go k (suc r) e l (no t) =
          let s : c ≡ 2 * k + 1 = omega arith in
          let i : k < count n = omega (arith, top_cell_says n wide) in
          rw (s, end_tile_closed n wide k i) (good_closed (finite i), end_closed n wide (finite i) ∙ ap (λ (j : ℕ). 2 * j + 1) (same_number i))

  pub tiled : (c : ℕ) → c ≤ top_cell n → Tiled n c
  tiled c h =
      let (s, i) = start_there c h in
      let (e, j) = end_there c h in
      record {
        start_tile_fits = s.0;
        start_tile_not_nar = s.1;
        start_cell_back = i;
        end_tile_fits = e.0;
        end_tile_not_nar = e.1;
        end_cell_back = j;
      }
