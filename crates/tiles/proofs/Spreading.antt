-- A range of the ways by tiles lies above 0 or across it, and the first bit of its start tile tells which.
use Rattle.std.proofs.Common.{◌≡◌, ℕ, ◌+◌, ◌/◌, ◌%◌, ◌^◌, ◌<◌, ◌≤◌, Bool, true, false, ◌&&◌, ◌||◌, eqb, ltb, leb, ◌⊎◌, sym, refl, ◌∙◌, inl, inr, div-lt_iff_lt-mul, le-div_iff_mul-le, arith, pow_pos, ltb-true, eqb-true, leb-true}
use borrow.Author.Tests.{eqb-false}
use Rattle.posit.proofs.Mirror.{power_wider}
use Rattle.word.specs.Word.{tiles, start_tile, end_tile}
use Rattle.word.specs.Member.{Real}
use Rattle.tiles.specs.Plain.{is_plain}
use Rattle.tiles.specs.Across.{is_across}
use Rattle.tiles.specs.Spread.{is_spread}
use Rattle.signs.proofs.OneSigned.{first_of_two, second_of}
use Rattle.tiles.proofs.PlainCells.{plain_tiles, real_of_plain}
use Rattle.tiles.proofs.AcrossCells.{real_of_across}

-- ---- one of the two
either : (p q : Bool) → (p || q) ≡ true → (p ≡ true) ⊎ (q ≡ true)
either true q e = inl refl
either false q e = inr e

module _ (n w : ℕ) where
  pub spread_by : is_spread n w ≡ true → (is_plain n w ≡ true) ⊎ (is_across n w ≡ true)
  spread_by = either (is_plain n w) (is_across n w)

  -- ---- by the first bit of the start tile
  plain_bit : is_plain n w ≡ true → start_tile n w / 2 ^ n % 2 ≡ 0
  plain_bit h =
      let less : start_tile n w / 2 ^ n < 1 = (div-lt_iff_lt-mul (pow_pos n)).1 (omega (arith, plain_tiles n w h)) in
      omega (arith, less)

  across_bit : is_across n w ≡ true → start_tile n w / 2 ^ n % 2 ≡ 1
  across_bit h =
      let s = start_tile n w in
      let rest = ltb s (tiles n) && (leb 2 (end_tile n w) && ltb (end_tile n w) (2 ^ n)) in
      let low : 2 ^ n + 2 ≤ s = leb-true (2 ^ n + 2) s (first_of_two (leb (2 ^ n + 2) s) rest h) in
      let high : s < tiles n = ltb-true s (tiles n) (first_of_two (ltb s (tiles n)) (leb 2 (end_tile n w) && ltb (end_tile n w) (2 ^ n)) (second_of (leb (2 ^ n + 2) s) rest h)) in
      let least : 1 ≤ s / 2 ^ n = (le-div_iff_mul-le {k = 2 ^ n} {x = 1} {y = s} (pow_pos n)).1 (omega arith) in
      let most : s / 2 ^ n < 2 = (div-lt_iff_lt-mul (pow_pos n)).1 (omega (arith, power_wider n)) in
      omega (arith, least, most)

  -- ---- as the machine tells
  module _ (h : is_spread n w ≡ true) {b : Bool} (e : b ≡ eqb (start_tile n w / 2 ^ n % 2) 1) where
    pub across_here : b ≡ true → is_across n w ≡ true
    across_here t = by (spread_by h)
      where
        by : (is_plain n w ≡ true) ⊎ (is_across n w ≡ true) → is_across n w ≡ true
        by (inl p) = let no : ⊥ = omega (arith, plain_bit p, eqb-true (start_tile n w / 2 ^ n % 2) 1 (sym e ∙ t)) in absurd no
        by (inr q) = q

    pub plain_here : b ≡ false → is_plain n w ≡ true
    plain_here t = by (spread_by h)
      where
        by : (is_plain n w ≡ true) ⊎ (is_across n w ≡ true) → is_plain n w ≡ true
        by (inl p) = p
        by (inr q) = absurd (eqb-false (start_tile n w / 2 ^ n % 2) 1 (sym e ∙ t) (across_bit q))

pub real_of_spread : (n w : ℕ) → 3 ≤ n → is_spread n w ≡ true → Real n w
real_of_spread n w wide h = by (spread_by n w h)
  where
    by : (is_plain n w ≡ true) ⊎ (is_across n w ≡ true) → Real n w
    by (inl p) = real_of_plain n w wide p
    by (inr q) = real_of_across n w wide q
