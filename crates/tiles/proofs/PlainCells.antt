-- A plain word has the cells that its tiles name as they stand: no tile is turned past NaR, so the first cell is not after the last, and all cells lie
-- above that of 0.
use Rattle.std.proofs.Common.{◌≡◌, ℕ, ◌+◌, ◌-◌, ◌*◌, ◌/◌, ◌%◌, ◌^◌, ◌<◌, ◌≤◌, Bool, true, false, ◌&&◌, ltb, leb, ◌≢◌, pos, sym, refl, ap, ◌∙◌, subst, mod-eq_of_lt, arith, ltb-true, ne_eqb, le-leb, leb-true}
use borrow.Author.Tests.{lt-leb}
use Rattle.exact.specs.Fraction.{whole}
use Rattle.posit.specs.Format.{Format, nar, Finite}
use Rattle.posit.proofs.Mirror.{power_wider}
use Rattle.posit.proofs.Patterns.{some_bit}
use Rattle.word.specs.Word.{tiles, start_tile, end_tile, open_nar}
use Rattle.word.specs.Member.{Real, is_member}
use Rattle.word.specs.Spans.{top_cell, start_cell, end_cell, cells_of}
use Rattle.tiles.specs.Plain.{is_plain, open_zero, PlainStart, PlainEnd}
use Rattle.signs.specs.Signs.{start_edge, end_edge, has_zero}
use Rattle.cell.specs.Cells.{zero_cell}
use Rattle.signs.specs.OneSign.{is_above, OneSign}
use Rattle.word.proofs.Grid.{half}
use Rattle.word.proofs.Tiles.{closed_half, open_half}
use Rattle.word.proofs.Words.{word_of_tiles}
use Rattle.word.proofs.WordAt.{real_word}
use Rattle.word.proofs.RealWords.{between_some}
use Rattle.signs.proofs.ReachedCells.{start_by_count, end_by_count}
use Rattle.signs.proofs.OneSigned.{first_of_two, second_of}
use Rattle.signs.proofs.HasZero.{zero_member}

-- ---- what the test says of the tiles
pub record PlainTiles (n s t : ℕ) : Type 0 where
  pub above : 1 ≤ s
  pub ordered : s + 2 * (t % 2) ≤ t
  pub below : t < 2 ^ n

pub plain_tiles : (n w : ℕ) → is_plain n w ≡ true → PlainTiles n (start_tile n w) (end_tile n w)
plain_tiles n w h =
    let s : ℕ = start_tile n w in
    let t : ℕ = end_tile n w in
    let k : _ = second_of (leb 1 s) (leb (s + 2 * (t % 2)) t && ltb t (2 ^ n)) h in
    record {
      above = leb-true 1 s (first_of_two (leb 1 s) (leb (s + 2 * (t % 2)) t && ltb t (2 ^ n)) h);
      ordered = leb-true (s + 2 * (t % 2)) t (first_of_two (leb (s + 2 * (t % 2)) t) (ltb t (2 ^ n)) k);
      below = ltb-true t (2 ^ n) (second_of (leb (s + 2 * (t % 2)) t) (ltb t (2 ^ n)) k);
    }

-- the cells of such tiles
abbrev pub first_of : ℕ → ℕ → ℕ
first_of n s = 2 ^ n + s - 1

abbrev pub last_of : ℕ → ℕ → ℕ
last_of n t = 2 ^ n + t - 1 - 2 * (t % 2)

pub plain_start : {n s t : ℕ} → PlainTiles n s t → PlainStart n s
plain_start p = record { above = p.above; below = omega (arith, p) }

pub plain_end : {n s t : ℕ} → PlainTiles n s t → PlainEnd n t
plain_end p = record { above = omega (arith, p); below = p.below }

module _ (n : ℕ) (wide : 3 ≤ n) where
  even : 2 ^ n ≡ 2 * nar n
  even = half n (some_bit n wide)

  finite : {p : ℕ} → p < nar n → Finite n p
  finite l = record { fits = omega (arith, even); not_nar = omega arith }

  -- ---- a start: its cell, its posit and its mark
  module _ {s : ℕ} (p : PlainStart n s) where
    first_turn : (s + 2 ^ n) % tiles n ≡ s + 2 ^ n
    first_turn = mod-eq_of_lt (omega (arith, p, power_wider n))

    pub plain_first : start_cell n s ≡ first_of n s
    plain_first = omega (arith, first_turn)

    pub start_posit_fits : s ≢ open_zero → (0 < s / 2) × (s / 2 < nar n)
    start_posit_fits d = omega (arith, p, even)

    start_below : s / 2 < nar n
    start_below = omega (arith, p, even)

    pub start_finite : Finite n (s / 2)
    start_finite = finite start_below

    pub start_posit_is : s / 2 ≡ (start_edge n (first_of n s)).posit
    start_posit_is = omega (arith, p) ∙ start_by_count n wide {c = first_of n s} (omega (arith, p)) (omega (arith, p, power_wider n))

    pub start_mark_is : first_of n s % 2 ≡ 1 - s % 2
    start_mark_is = omega (arith, p, even)

  -- ---- an end
  module _ {t : ℕ} (p : PlainEnd n t) where
    last_turn : (t + 2 ^ n) % tiles n ≡ t + 2 ^ n
    last_turn = mod-eq_of_lt (omega (arith, p, power_wider n))

    pub plain_last : end_cell n t ≡ last_of n t
    plain_last =
        rw (ne_eqb t (open_nar n) (omega (arith, p, open_half wide)))
        (omega (arith, last_turn))

    pub end_posit_fits : (0 < t / 2) × (t / 2 < nar n)
    end_posit_fits = omega (arith, p, even)

    pub last_there : last_of n t < top_cell n
    last_there = omega (arith, p, power_wider n, even, end_posit_fits)

    pub end_posit_is : t / 2 ≡ (end_edge n (last_of n t)).posit
    end_posit_is = omega (arith, p) ∙ end_by_count n wide {c = last_of n t} (omega (arith, p)) last_there

    pub end_mark_is : last_of n t % 2 ≡ 1 - t % 2
    end_mark_is = let d : last_of n t ≡ 2 * (nar n + t / 2 - 1) + (1 - t % 2) = omega (arith, p, even) in omega (arith, d)

-- ---- both
pub cells_ordered : {n s t : ℕ} → PlainTiles n s t → first_of n s ≤ last_of n t
cells_ordered p = omega (arith, p)

pub ends_ordered : (n : ℕ) → 3 ≤ n → {s t : ℕ} → PlainTiles n s t → start_cell n s ≤ end_cell n t
ends_ordered n wide p = omega (arith, plain_first n wide (plain_start p), plain_last n wide (plain_end p), cells_ordered p)

-- ---- a plain word
module _ (n w : ℕ) (wide : 3 ≤ n) (h : is_plain n w ≡ true) where
  abbrev here : PlainTiles n (start_tile n w) (end_tile n w)
  here = plain_tiles n w h

  start_here : start_cell n (start_tile n w) ≡ first_of n (start_tile n w)
  start_here = plain_first n wide (plain_start here)

  end_here : end_cell n (end_tile n w) ≡ last_of n (end_tile n w)
  end_here = plain_last n wide (plain_end here)

  pub plain_between : cells_of n w ≡ record { lo = start_cell n (start_tile n w); hi = end_cell n (end_tile n w) }
  plain_between = between_some n (start_tile n w) (end_tile n w) (ends_ordered n wide here)

  pub plain_cells : cells_of n w ≡ record { lo = first_of n (start_tile n w); hi = last_of n (end_tile n w) }
  plain_cells = plain_between ∙ (λ i. record { lo = start_here i; hi = end_here i })

  pub real_of_plain : Real n w
  real_of_plain =
      subst (λ (v : ℕ). Real n v) (word_of_tiles n w)
      (real_word n wide {s = start_tile n w} {e = end_tile n w} (omega (arith, here, power_wider n)) (omega (arith, here, power_wider n))
      (omega (arith, here, closed_half wide)) (omega (arith, here, closed_half wide))
      (λ i l. absurd (omega (arith, l, ends_ordered n wide here))))

  pub plain_one_sign : OneSign n (cells_of n w)
  plain_one_sign =
      rw plain_cells
      (record {
        there = omega (arith, last_there n wide (plain_end here));
        some = cells_ordered here;
        one_sign = rw (le-leb (2 ^ n) (first_of n (start_tile n w)) (omega (arith, here)));
      })

  pub plain_above : is_above n (cells_of n w) ≡ true
  plain_above = rw plain_cells (le-leb (2 ^ n) (first_of n (start_tile n w)) (omega (arith, here)))

-- 0 is no member
pub plain_no_zero : {n es : ℕ} (w : ℕ) → Format n es → is_plain n w ≡ true → is_member n es w (whole (pos 0)) ≡ false
plain_no_zero {n} {es} w f h =
    let wide = f.wide_enough in
    sym (zero_member f (real_of_plain n w wide h) refl)
    ∙ ap (has_zero n) (plain_cells n w wide h)
    ∙ ap (λ (b : Bool). b && leb (zero_cell n) (last_of n (end_tile n w)))
    (lt-leb (first_of n (start_tile n w)) (zero_cell n) (omega (arith, plain_tiles n w h)))
