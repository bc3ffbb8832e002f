-- A word is judged without a jump: a difference passes 2^63 exactly where it is below 0, and numbers joined bit by bit are below 2^63 exactly where each
-- of them is.
use Rattle.std.proofs.Common.{◌≡◌, ℕ, zero, suc, ◌+◌, ◌-◌, ◌*◌, ◌/◌, ◌%◌, ◌^◌, ◌<◌, ◌≤◌, Bool, true, false, ◌&&◌, ◌||◌, ltb, ◌⊎◌, ◌↔◌, sym, refl, ap, ◌∙◌, inl, inr, true≢false, lt_of_lt_of_le, mul-le-mul_right, mod-lt, lt_of_mul-lt-mul_right, mul-lt-mul_of_pos_right, arith, pow_pos, pow_mono, pow-add, shr_lt, ltb-true, le-ltb, lt-ltb, le-leb}
use native.Mathlib.Nat.{mul-mod_left}
use native.Mathlib.Decide.{dec_lt}
use lib.Bits.{bit_or, bit_xor, or_lt, or_add_and, and_le_l, and_le_r, xor_step, xor_add_and, xor_zero_r}
use lib.Pow.{split, shl-shr, mod-pow-add, mod-mod-pow}
use Rattle.posit.proofs.Mirror.{power_wider}
use Rattle.code.proofs.Flip.{bit_turned}
use Rattle.word.specs.Word.{tiles, start_tile, end_tile}
use Rattle.tiles.specs.Plain.{is_plain}
use Rattle.tiles.specs.Across.{is_across}
use Rattle.tiles.specs.Spread.{is_spread}
use Rattle.word.proofs.Tiles.{half_small, half_large}
use Rattle.signs.proofs.OneSigned.{first_of_two, second_of}
use Rattle.tiles.proofs.PlainCells.{PlainTiles, plain_tiles}
use Rattle.tiles.proofs.AcrossCells.{AcrossTiles, across_tiles}
use Rattle.tiles.proofs.Spreading.{spread_by}

-- ---- numbers joined
or_small : (a b : ℕ) → (bit_or a b < 2 ^ 63) ↔ ((a < 2 ^ 63) × (b < 2 ^ 63))
or_small a b =
    (λ l. (omega (arith, or_add_and a b, and_le_r a b), omega (arith, or_add_and a b, and_le_l a b)), λ h. or_lt 63 a b h.0 h.1)

abbrev FourSmall : ℕ → ℕ → ℕ → ℕ → Type 0
FourSmall a b c d = (a < 2 ^ 63) × (b < 2 ^ 63) × (c < 2 ^ 63) × (d < 2 ^ 63)

four_small : (a b c d : ℕ) → (bit_or (bit_or (bit_or a b) c) d < 2 ^ 63) ↔ FourSmall a b c d
four_small a b c d = (forth, λ h. (or_small (bit_or (bit_or a b) c) d).1 ((or_small (bit_or a b) c).1 ((or_small a b).1 (h.0, h.1), h.2), h.3))
  where
    forth : bit_or (bit_or (bit_or a b) c) d < 2 ^ 63 → FourSmall a b c d
    forth l =
        let (abc, hd) = (or_small (bit_or (bit_or a b) c) d).0 l in
        let (ab, hc) = (or_small (bit_or a b) c).0 abc in
        let (ha, hb) = (or_small a b).0 ab in
        (ha, hb, hc, hd)

-- a test told by what it says
told : (b : Bool) {x k : ℕ} → (x < k → b ≡ true) → (b ≡ true → x < k) → ltb x k ≡ b
told true {x} {k} f g = lt-ltb x k (g refl)
told false {x} {k} f g = elim (dec_lt x k) [ yes h ↦ absurd (true≢false (sym (f h))) | no h ↦ le-ltb x k (omega arith) ]

pub or_below : (a b : ℕ) → ltb (bit_or a b) (2 ^ 63) ≡ (ltb a (2 ^ 63) && ltb b (2 ^ 63))
or_below a b =
    let p = ltb a (2 ^ 63) in
    let q = ltb b (2 ^ 63) in
    told (p && q)
    (λ l. let (ha, hb) = (or_small a b).0 l in rw (lt-ltb a (2 ^ 63) ha, lt-ltb b (2 ^ 63) hb))
    (λ h. (or_small a b).1 (ltb-true a (2 ^ 63) (first_of_two p q h), ltb-true b (2 ^ 63) (second_of p q h)))

-- ---- differences that wrap
abbrev less : ℕ → ℕ → ℕ
less x y = (x + (2 ^ 64 - y)) % 2 ^ 64

start_judged : {s : ℕ} → s < 2 ^ 60 → (less s 1 < 2 ^ 63) ↔ (1 ≤ s)
start_judged room = omega arith

-- an end tile less two where it is open
abbrev end_less : ℕ → ℕ
end_less t = less (t - t % 2) (t % 2)

order_judged : (s : ℕ) {t : ℕ} → s < 2 ^ 60 → t < 2 ^ 18 → (less (end_less t) s < 2 ^ 63) ↔ (s + 2 * (t % 2) ≤ t)
order_judged s {t} room small = omega arith

end_judged : {t : ℕ} → t < 2 ^ 18 → (less (end_less t) 1 < 2 ^ 63) ↔ (2 ≤ t)
end_judged small = let (forth, back) = order_judged 1 (omega arith) small in (λ l. omega (arith, forth l), λ h. back (omega arith))

end_small : {t : ℕ} → t < 2 ^ 18 → 2 ≤ t → end_less t < 2 ^ 18
end_small small h = omega arith

-- ---- a start counted from 0 with a sign: its first bit is turned, and as much taken off; what is no tile comes behind all ends
data Counted (h s x : ℕ) : Type 0 where
  above : s < h → x ≡ s → Counted h s x
  below : h ≤ s → s < 2 * h → x + 2 * h ≡ s + 2 ^ 64 → Counted h s x
  beyond : 2 * h ≤ s → h ≤ x → x < 2 ^ 62 → Counted h s x

start_counted : (n s : ℕ) → 2 ^ n ≤ 65536 → s < 2 ^ 60 → Counted (2 ^ n) s (less (bit_xor s (2 ^ n)) (2 ^ n))
start_counted n s small room = by (s / 2 ^ n) refl
  where
    rest : s % 2 ^ n < 2 ^ n
    rest = mod-lt s (pow_pos n)

    parts : bit_xor s (2 ^ n) ≡ bit_xor (s / 2 ^ n) 1 * 2 ^ n + s % 2 ^ n
    parts = ap (λ (i : ℕ). bit_xor i (2 ^ n)) (sym (split s n)) ∙ bit_turned n (s / 2 ^ n) rest

    by : (q : ℕ) → s / 2 ^ n ≡ q → Counted (2 ^ n) s (less (bit_xor s (2 ^ n)) (2 ^ n))
    by zero e = above (omega (arith, rw e at (split s n), rest)) (omega (arith, rw e at (split s n), rw e at parts))
    by (suc zero) e = below (omega (arith, rw e at (split s n))) (omega (arith, rw e at (split s n), rest)) (omega (arith, rw e at (split s n), rw e at parts, rest))
    by (suc (suc q)) e =
        let k = suc (suc q) in
        let least : 2 ≤ bit_xor k 1 = omega (arith, xor_step k 1, xor_zero_r (k / 2)) in
        let most : bit_xor k 1 ≤ k + 1 = omega (arith, xor_add_and k 1) in
        let low : 2 * 2 ^ n ≤ bit_xor s (2 ^ n) = omega (arith, mul-le-mul_right (2 ^ n) least, rw e at parts) in
        let high : bit_xor s (2 ^ n) ≤ s + 2 ^ n = omega (arith, mul-le-mul_right (2 ^ n) most, rw e at (split s n), rw e at parts) in
        beyond (omega (arith, rw e at (split s n))) (omega arith) (omega arith)

-- the end less such a start x, and the start with all but two of the tiles above 0 added
module _ (h s x : ℕ) (large : 8 ≤ h) (small : h ≤ 65536) where
  order_below : {e : ℕ} → h ≤ s → s < 2 * h → x + 2 * h ≡ s + 2 ^ 64 → e < 2 ^ 18 → less e x < 2 ^ 63
  order_below k l m i = omega arith

  order_beyond : {t : ℕ} → t < 2 ^ 18 → h ≤ x → x < 2 ^ 62 → t < h → 2 ^ 63 ≤ less (end_less t) x
  order_beyond i j k l = omega arith

  limit_above : s < h → x ≡ s → (x + (h - 2)) % 2 ^ 64 < 2 ^ 63
  limit_above l e = omega arith

  limit_below : h ≤ s → s < 2 * h → x + 2 * h ≡ s + 2 ^ 64 → ((x + (h - 2)) % 2 ^ 64 < 2 ^ 63) ↔ (h + 2 ≤ s)
  limit_below k l e = omega arith

-- ---- the tests of a range above 0 or across it, and the numbers that pass 2^63 where they fail
abbrev Passed : ℕ → ℕ → ℕ → ℕ → Type 0
Passed n s t x = FourSmall (less (end_less t) 1) (less (end_less t) x) ((x + (2 ^ n - 2)) % 2 ^ 64) (less s 1) × (t < 2 ^ n)

module _ {n s t x : ℕ} (large : 8 ≤ 2 ^ n) (small : 2 ^ n ≤ 65536) (room : s < 2 ^ 60) (end : t < 2 ^ 18) where
  passed : Counted (2 ^ n) s x → Passed n s t x → PlainTiles n s t ⊎ AcrossTiles n s t
  passed (above l i) ((ha, hb, hc, hd), h) =
      inl (record { above = (start_judged room).0 hd; ordered = (order_judged s room end).0 (rw i at hb); below = h })
  passed (below k l i) ((ha, hb, hc, hd), h) =
      inr (record {
        behind_nar = (limit_below (2 ^ n) s x large small k l i).0 hc;
        there = omega (arith, power_wider n);
        behind_zero = (end_judged end).0 ha;
        before_nar = h;
      })
  passed (beyond k l i) ((ha, hb, hc, hd), h) = absurd (omega (arith, order_beyond (2 ^ n) s x large small end l i h))

  passes : Counted (2 ^ n) s x → PlainTiles n s t ⊎ AcrossTiles n s t → Passed n s t x
  passes (above l i) (inl p) = (
    (
      (end_judged end).1 (omega (arith, p)),
      rw i ((order_judged s room end).1 p.ordered),
      limit_above (2 ^ n) s x large small l i,
      (start_judged room).1 p.above,
    ),
    p.below,
  )
  passes (above l i) (inr p) = absurd (omega (arith, l, p))
  passes (below k l i) (inl p) = absurd (omega (arith, k, p))
  passes (below k l i) (inr p) = (
    (
      (end_judged end).1 p.behind_zero,
      order_below (2 ^ n) s x large small k l i (end_small end p.behind_zero),
      (limit_below (2 ^ n) s x large small k l i).1 p.behind_nar,
      (start_judged room).1 (omega (arith, p)),
    ),
    p.before_nar,
  )
  passes (beyond k l i) (inl p) = absurd (omega (arith, k, p))
  passes (beyond k l i) (inr p) = absurd (omega (arith, k, p, power_wider n))

  tests : Counted (2 ^ n) s x → Passed n s t x ↔ (PlainTiles n s t ⊎ AcrossTiles n s t)
  tests k = (passed k, passes k)

-- ---- the tiles tell the kind of a word
second_true : (p : Bool) {q : Bool} → q ≡ true → (p || q) ≡ true
second_true true e = refl
second_true false e = e

module _ (n w : ℕ) where
  tiles_plain : PlainTiles n (start_tile n w) (end_tile n w) → is_plain n w ≡ true
  tiles_plain p =
      let s = start_tile n w in
      let t = end_tile n w in
      rw (le-leb 1 s p.above, le-leb (s + 2 * (t % 2)) t p.ordered, lt-ltb t (2 ^ n) p.below)

  tiles_across : AcrossTiles n (start_tile n w) (end_tile n w) → is_across n w ≡ true
  tiles_across p =
      let s = start_tile n w in
      let t = end_tile n w in
      rw (le-leb (2 ^ n + 2) s p.behind_nar, lt-ltb s (tiles n) p.there, le-leb 2 t p.behind_zero, lt-ltb t (2 ^ n) p.before_nar)

  tiles_spread : PlainTiles n (start_tile n w) (end_tile n w) ⊎ AcrossTiles n (start_tile n w) (end_tile n w) → is_spread n w ≡ true
  tiles_spread (inl p) = rw (tiles_plain p)
  tiles_spread (inr p) = second_true (is_plain n w) (tiles_across p)

  spread_tiles : is_spread n w ≡ true → PlainTiles n (start_tile n w) (end_tile n w) ⊎ AcrossTiles n (start_tile n w) (end_tile n w)
  spread_tiles h = elim (spread_by n w h) [ inl p ↦ inl (plain_tiles n w p) | inr p ↦ inr (across_tiles n w p) ]

-- ---- a word
module _ (n w : ℕ) (wide : 3 ≤ n) (narrow : n ≤ 16) (fits : w < 2 ^ 64) where
  start_room : start_tile n w < 2 ^ 60
  start_room = shr_lt 60 (n + 1) (lt_of_lt_of_le fits (pow_mono {i = 64} {j = 60 + (n + 1)} (omega arith)))

  end_room : end_tile n w < 2 ^ 18
  end_room = omega (arith, mod-lt w (pow_pos (n + 1)), power_wider n, half_small narrow)

  -- the last bit of the end tile is that of the word
  mark : end_tile n w % 2 ≡ w % 2
  mark = mod-mod-pow w n 1

  -- the end tile's first bit, moved to the first place of a word, tells in which half of the tiles it is
  moved : w * 2 ^ (63 - n) % 2 ^ 64 ≡ end_tile n w * 2 ^ (63 - n)
  moved =
      ap (λ (k : ℕ). w * 2 ^ (63 - n) % 2 ^ k) {x = 64} {y = (n + 1) + (63 - n)} (omega arith)
      ∙ mod-pow-add (w * 2 ^ (63 - n)) (n + 1) (63 - n)
      ∙ rw (shl-shr w (63 - n), mul-mod_left w (2 ^ (63 - n))) (omega arith)

  first_place : 2 ^ 63 ≡ 2 ^ n * 2 ^ (63 - n)
  first_place = ap (λ (k : ℕ). 2 ^ k) {x = 63} {y = n + (63 - n)} (omega arith) ∙ pow-add 2 n (63 - n)

  upper_half : (w * 2 ^ (63 - n) % 2 ^ 64 < 2 ^ 63) ↔ (end_tile n w < 2 ^ n)
  upper_half = (
    λ l. lt_of_mul-lt-mul_right (2 ^ (63 - n)) (omega (arith, moved, first_place)),
    λ l. omega (arith, moved, first_place, mul-lt-mul_of_pos_right l (pow_pos (63 - n))),
  )

  module _ {all : ℕ} (is_all : all ≡ tiles n) where
    pub mark_fits : w % 2 ≤ w % all
    mark_fits = rw is_all (omega (arith, mark))

    pub plain_judged : ltb (bit_or (bit_or (less (w / all) 1) (less (less (w % all - w % 2) (w % 2)) (w / all))) (w * 2 ^ (63 - n) % 2 ^ 64)) (2 ^ 63) ≡ is_plain n w
    plain_judged =
        let s = start_tile n w in
        let t = end_tile n w in
        let joined = or_small (bit_or (less s 1) (less (end_less t) s)) (w * 2 ^ (63 - n) % 2 ^ 64) in
        let two = or_small (less s 1) (less (end_less t) s) in
        rw (is_all, ← mark)
        (told (is_plain n w)
        (λ l.
        let (q, z) = joined.0 l in
        let (hx, hy) = two.0 q in
        tiles_plain n w (record { above = (start_judged start_room).0 hx; ordered = (order_judged s start_room end_room).0 hy; below = upper_half.0 z }))
        (λ h.
        let p = plain_tiles n w h in
        joined.1 (two.1 ((start_judged start_room).1 p.above, (order_judged s start_room end_room).1 p.ordered), upper_half.1 p.below)))

    module _ {half : ℕ} (is_half : half ≡ 2 ^ n) where
      abbrev counted_from : ℕ
      counted_from = less (bit_xor (w / all) half) half

      abbrev end_here : ℕ
      end_here = less (w % all - w % 2) (w % 2)

      pub spread_judged :
          ltb (bit_or (bit_or (bit_or (bit_or (less end_here 1) (less end_here counted_from)) ((counted_from + (half - 2)) % 2 ^ 64)) (less (w / all) 1)) (w * 2 ^ (63 - n) % 2 ^ 64)) (2 ^ 63)
          ≡ is_spread n w
      spread_judged =
          let s = start_tile n w in
          let t = end_tile n w in
          let small = half_small narrow in
          let x = less (bit_xor s (2 ^ n)) (2 ^ n) in
          let tested = tests (half_large wide) small start_room end_room (start_counted n s small start_room) in
          let four = four_small (less (end_less t) 1) (less (end_less t) x) ((x + (2 ^ n - 2)) % 2 ^ 64) (less s 1) in
          let joined = or_small (bit_or (bit_or (bit_or (less (end_less t) 1) (less (end_less t) x)) ((x + (2 ^ n - 2)) % 2 ^ 64)) (less s 1)) (w * 2 ^ (63 - n) % 2 ^ 64) in
          rw (is_all, is_half, ← mark)
          (told (is_spread n w)
          (λ l. let (q, z) = joined.0 l in tiles_spread n w (tested.0 (four.0 q, upper_half.0 z)))
          (λ h. let (q, z) = tested.1 (spread_tiles n w h) in joined.1 (four.1 q, upper_half.1 z)))
