-- What a word is, by the cells of its tiles: with no closed NaR it is real where its first cell is not after its last, or where it is empty, that
-- is where both tiles are the same; every other word with its cells the wrong way round holds infinity.
use mathlib.Core.Path.{◌≡◌, refl, sym, ap, ◌∙◌, subst}
use mathlib.Core.Bool.{Bool, true, false, true≢false}
use mathlib.Core.Logic.{◌≢◌, ◌↔◌}
use Prim.Native.Nat.{ℕ, ◌+◌, ◌*◌, ◌/◌, ◌%◌, ◌≤◌, ◌<◌}
use native.Mathlib.Omega.{arith}
use native.Mathlib.Decide.{dec_lt, ℕ_discrete}
use lib.Dec.{T, eqb}
use lib.Signed.{lt_z, <ℤ_irrefl, lt_z_yes, clash_ℤ}
use borrow.Author.Tests.{eq-eqb, ne_eqb}
use Rattle.exact.proofs.WholeOrder.{≤ℤ_of_<ℤ}
use Rattle.posit.specs.Format.{Finite}
use Rattle.posit.specs.Value.{signed}
use Rattle.posit.proofs.Patterns.{some_bit}
use Rattle.word.specs.Word.{tiles, words, Kind, holds_infinity, unbounded, interval, point, empty, kind_of_tiles, kind, is_infinite, start_tile, end_tile, closed_nar, open_nar}
use Rattle.word.specs.Numbered.{number_of, pattern_at}
use Rattle.word.specs.Spans.{start_cell, end_cell}
use Rattle.word.proofs.Grid.{signed_increases, pattern_of_number}
use Rattle.word.proofs.Places.{Tile, unbounded_tile, closed_tile, open_tile, tile, placed, start_tile_of_word, end_tile_of_word, start_unbounded, end_unbounded, start_closed, start_open, end_closed, end_open}

-- ---- tests
pub is_true : (b : Bool) → T b → b ≡ true
is_true true t = refl
is_true false t = absurd t

pub is_false : (b : Bool) → ¬ T b → b ≡ false
is_false true t = absurd (t tt)
is_false false t = refl

-- ---- the kinds
kind_closed_start : (n e : ℕ) → kind_of_tiles n (closed_nar n) e ≡ holds_infinity
unfolding kind_of_tiles
kind_closed_start n e = rw (eq-eqb (closed_nar n) (closed_nar n) refl, kind_of_tiles)

kind_closed_end : (n s : ℕ) → s ≢ closed_nar n → kind_of_tiles n s (closed_nar n) ≡ holds_infinity
unfolding kind_of_tiles
kind_closed_end n s c = rw (ne_eqb s (closed_nar n) c, eq-eqb (closed_nar n) (closed_nar n) refl, kind_of_tiles)

kind_unbounded_start : (n e : ℕ) → e ≢ closed_nar n → kind_of_tiles n (open_nar n) e ≡ unbounded
unfolding kind_of_tiles
kind_unbounded_start n e c =
    rw (ne_eqb (open_nar n) (closed_nar n) (omega arith), ne_eqb e (closed_nar n) c, eq-eqb (open_nar n) (open_nar n) refl, kind_of_tiles)

kind_unbounded_end : (n s : ℕ) → s ≢ closed_nar n → s ≢ open_nar n → kind_of_tiles n s (open_nar n) ≡ unbounded
unfolding kind_of_tiles
kind_unbounded_end n s c o =
    rw (ne_eqb s (closed_nar n) c, ne_eqb (open_nar n) (closed_nar n) (omega arith), ne_eqb s (open_nar n) o, eq-eqb (open_nar n) (open_nar n) refl, kind_of_tiles)

module _ (n s e : ℕ) (c : s ≢ closed_nar n) (d : e ≢ closed_nar n) (o : s ≢ open_nar n) (q : e ≢ open_nar n) where
  kind_ordered : lt_z (signed n (s / 2)) (signed n (e / 2)) ≡ true → kind_of_tiles n s e ≡ interval
  unfolding kind_of_tiles
  kind_ordered l = rw (ne_eqb s (closed_nar n) c, ne_eqb e (closed_nar n) d, ne_eqb s (open_nar n) o, ne_eqb e (open_nar n) q, l, kind_of_tiles)

  kind_turned : lt_z (signed n (s / 2)) (signed n (e / 2)) ≡ false → lt_z (signed n (e / 2)) (signed n (s / 2)) ≡ true → kind_of_tiles n s e ≡ holds_infinity
  unfolding kind_of_tiles
  kind_turned l k = rw (ne_eqb s (closed_nar n) c, ne_eqb e (closed_nar n) d, ne_eqb s (open_nar n) o, ne_eqb e (open_nar n) q, l, k, kind_of_tiles)

  module _ (l : lt_z (signed n (s / 2)) (signed n (e / 2)) ≡ false) (k : lt_z (signed n (e / 2)) (signed n (s / 2)) ≡ false) where
    kind_circle : eqb s e ≡ false → kind_of_tiles n s e ≡ holds_infinity
    unfolding kind_of_tiles
    kind_circle i = rw (ne_eqb s (closed_nar n) c, ne_eqb e (closed_nar n) d, ne_eqb s (open_nar n) o, ne_eqb e (open_nar n) q, l, k, i, kind_of_tiles)

    kind_point : eqb s e ≡ true → eqb (s % 2) 0 ≡ true → kind_of_tiles n s e ≡ point
    unfolding kind_of_tiles
    kind_point i j = rw (ne_eqb s (closed_nar n) c, ne_eqb e (closed_nar n) d, ne_eqb s (open_nar n) o, ne_eqb e (open_nar n) q, l, k, i, j, kind_of_tiles)

    kind_nothing : eqb s e ≡ true → eqb (s % 2) 0 ≡ false → kind_of_tiles n s e ≡ empty
    unfolding kind_of_tiles
    kind_nothing i j = rw (ne_eqb s (closed_nar n) c, ne_eqb e (closed_nar n) d, ne_eqb s (open_nar n) o, ne_eqb e (open_nar n) q, l, k, i, j, kind_of_tiles)

-- ---- each kind with its cells
pub data Case (n s e : ℕ) : Type 0 where
  extended : is_infinite (kind_of_tiles n s e) ≡ false → kind_of_tiles n s e ≢ empty → start_cell n s ≤ end_cell n e → Case n s e
  nothing : kind_of_tiles n s e ≡ empty → s ≡ e → s % 2 ≡ 1 → s ≢ open_nar n → end_cell n e < start_cell n s → Case n s e
  infinite : is_infinite (kind_of_tiles n s e) ≡ true → s ≢ e → end_cell n e < start_cell n s → Case n s e

-- kinds told apart
abbrev IsEmpty : Kind → Type 0
IsEmpty holds_infinity = ⊥
IsEmpty unbounded = ⊥
IsEmpty interval = ⊥
IsEmpty point = ⊥
IsEmpty empty = Unit {0}

other : {k : Kind} → ¬ IsEmpty k → k ≢ empty
other h e = h (subst IsEmpty (sym e) tt)

-- a finite tile's cells, from its posit's number and its mark
pub record OnPosit (n t : ℕ) : Type 0 where
  pub finite : Finite n (t / 2)
  pub start_cell_says : start_cell n t ≡ 2 * number_of n (t / 2) + 1 + t % 2
  pub end_cell_says : end_cell n t + t % 2 ≡ 2 * number_of n (t / 2) + 1

-- on one posit the last cell is before the first where a mark is set
module _ {s e k l a b : ℕ} (first : a ≡ 2 * k + 1 + s % 2) (last : b + e % 2 ≡ 2 * l + 1) (same : k ≡ l) where
  circle_cells : s / 2 ≡ e / 2 → s ≢ e → b < a
  circle_cells i j = omega arith

  point_cells : s ≡ e → s % 2 ≡ 0 → a ≤ b
  point_cells j m = omega arith

  empty_cells : s ≡ e → s % 2 ≢ 0 → b < a
  empty_cells j m = omega arith

module _ (n : ℕ) (wide : 3 ≤ n) where
  pub on_posit : {t : ℕ} → t ≢ open_nar n → Tile n t → OnPosit n t
  on_posit o (unbounded_tile e) = absurd (o e)
  on_posit o (closed_tile p f e) =
      let d : 2 * p / 2 ≡ p = omega arith in
      rw e (record {
        finite = rw d f;
        start_cell_says = rw d (omega (arith, start_closed n wide f));
        end_cell_says = rw d (omega (arith, end_closed n wide f));
      })
  on_posit o (open_tile p f e) =
      let d : (2 * p + 1) / 2 ≡ p = omega arith in
      rw e (record {
        finite = rw d f;
        start_cell_says = rw d (omega (arith, start_open n wide f));
        end_cell_says = rw d (omega (arith, end_open n wide f));
      })

  -- ---- the order of two finite tiles is that of their numbers
  signed_less : {p q : ℕ} → Finite n p → Finite n q → number_of n p < number_of n q → lt_z (signed n p) (signed n q) ≡ true
  signed_less {p} {q} f g l = is_true (lt_z (signed n p) (signed n q)) (signed_increases n (some_bit n wide) f g l).lt

  signed_not_less : {p q : ℕ} → Finite n p → Finite n q → number_of n p < number_of n q → lt_z (signed n q) (signed n p) ≡ false
  signed_not_less {p} {q} f g l =
      is_false (lt_z (signed n q) (signed n p)) (λ t. clash_ℤ (lt_z_yes t) (≤ℤ_of_<ℤ (signed_increases n (some_bit n wide) f g l)))

  signed_same : (p : ℕ) {q : ℕ} → p ≡ q → lt_z (signed n p) (signed n q) ≡ false
  signed_same p e = rw (← e) (is_false (lt_z (signed n p) (signed n p)) (λ t. <ℤ_irrefl {a = signed n p} (lt_z_yes t)))

  one_posit : {p q : ℕ} → Finite n p → Finite n q → number_of n p ≡ number_of n q → p ≡ q
  one_posit f g e = sym (pattern_of_number n (some_bit n wide) f) ∙ ap (pattern_at n) e ∙ pattern_of_number n (some_bit n wide) g

  module _ {s e : ℕ} (h : s < tiles n) (k : e < tiles n) (c : s ≢ closed_nar n) (d : e ≢ closed_nar n) where
    finite_case : s ≢ open_nar n → e ≢ open_nar n → OnPosit n s → OnPosit n e → Case n s e
    finite_case o q a b = by_order (dec_lt (number_of n (s / 2)) (number_of n (e / 2))) (dec_lt (number_of n (e / 2)) (number_of n (s / 2)))
      where
        same : s / 2 ≡ e / 2 → Case n s e
        same i = by_tiles (ℕ_discrete s e) (ℕ_discrete (s % 2) 0)
          where
            by_tiles : Dec (s ≡ e) → Dec (s % 2 ≡ 0) → Case n s e
            by_tiles (no j) m =
                let t : kind_of_tiles n s e ≡ holds_infinity = kind_circle n s e c d o q (signed_same (s / 2) i) (signed_same (e / 2) (sym i)) (ne_eqb s e j) in
                infinite (ap is_infinite t) j (circle_cells a.start_cell_says b.end_cell_says (ap (number_of n) i) i j)
            by_tiles (yes j) (yes m) =
                let t : kind_of_tiles n s e ≡ point = kind_point n s e c d o q (signed_same (s / 2) i) (signed_same (e / 2) (sym i)) (eq-eqb s e j) (eq-eqb (s % 2) 0 m) in
                extended (ap is_infinite t) (rw t (other (λ x. x))) (point_cells a.start_cell_says b.end_cell_says (ap (number_of n) i) j m)
            by_tiles (yes j) (no m) =
                let t : kind_of_tiles n s e ≡ empty = kind_nothing n s e c d o q (signed_same (s / 2) i) (signed_same (e / 2) (sym i)) (eq-eqb s e j) (ne_eqb (s % 2) 0 m) in
                nothing t j (omega arith) o (empty_cells a.start_cell_says b.end_cell_says (ap (number_of n) i) j m)

        by_order : Dec (number_of n (s / 2) < number_of n (e / 2)) → Dec (number_of n (e / 2) < number_of n (s / 2)) → Case n s e
        by_order (yes l) m =
            let t : kind_of_tiles n s e ≡ interval = kind_ordered n s e c d o q (signed_less a.finite b.finite l) in
            extended (ap is_infinite t) (rw t (other (λ x. x))) (omega (arith, a, b))
        by_order (no l) (yes m) =
            let t : kind_of_tiles n s e ≡ holds_infinity = kind_turned n s e c d o q (signed_not_less b.finite a.finite m) (signed_less b.finite a.finite m) in
            infinite (ap is_infinite t) (λ i. l (absurd (omega (arith, ap (λ (x : ℕ). number_of n (x / 2)) i)))) (omega (arith, a, b))
        by_order (no l) (no m) = same (one_posit a.finite b.finite (omega arith))

    pub kind_case : Case n s e
    kind_case = go (ℕ_discrete s (open_nar n)) (ℕ_discrete e (open_nar n))
      where
        go : Dec (s ≡ open_nar n) → Dec (e ≡ open_nar n) → Case n s e
        go (yes o) q =
            let t : kind_of_tiles n s e ≡ unbounded = rw o (kind_unbounded_start n e d) in
            extended (ap is_infinite t) (rw t (other (λ x. x))) (omega (arith, ap (start_cell n) o, start_unbounded n wide))
        go (no o) (yes q) =
            let t : kind_of_tiles n s e ≡ unbounded = rw q (kind_unbounded_end n s c o) in
            extended (ap is_infinite t) (rw t (other (λ x. x))) (omega (arith, ap (end_cell n) q, end_unbounded n wide, (placed n wide h c).start_cell_fits))
        go (no o) (no q) = finite_case o q (on_posit o (tile n wide h c)) (on_posit q (tile n wide k d))

-- ---- words
pub closed_start_infinite : (n w : ℕ) → start_tile n w ≡ closed_nar n → is_infinite (kind n w) ≡ true
closed_start_infinite n w e = rw e (ap is_infinite (kind_closed_start n (end_tile n w)))

pub closed_end_infinite : (n w : ℕ) → end_tile n w ≡ closed_nar n → is_infinite (kind n w) ≡ true
closed_end_infinite n w e = go (ℕ_discrete (start_tile n w) (closed_nar n))
  where
    go : Dec (start_tile n w ≡ closed_nar n) → is_infinite (kind n w) ≡ true
    go (yes d) = closed_start_infinite n w d
    go (no d) = rw e (ap is_infinite (kind_closed_end n (start_tile n w) d))

module _ (n : ℕ) (wide : 3 ≤ n) {w : ℕ} (h : w < words n) (c : start_tile n w ≢ closed_nar n) (d : end_tile n w ≢ closed_nar n) where
  word_case : Case n (start_tile n w) (end_tile n w)
  word_case = kind_case n wide (start_tile_of_word n wide h) (end_tile_of_word n wide w) c d

  pub infinite_by_cells : (is_infinite (kind n w) ≡ true) ↔ ((start_tile n w ≢ end_tile n w) × (end_cell n (end_tile n w) < start_cell n (start_tile n w)))
  infinite_by_cells = go word_case
    where
      go : Case n (start_tile n w) (end_tile n w) → (is_infinite (kind n w) ≡ true) ↔ ((start_tile n w ≢ end_tile n w) × (end_cell n (end_tile n w) < start_cell n (start_tile n w)))
      go (extended f e l) = (λ t. absurd (true≢false (sym t ∙ f)), λ t. absurd (omega (arith, t)))
      go (nothing t e m o l) = (λ i. absurd (true≢false (sym i ∙ ap is_infinite t)), λ i. absurd (i.0 e))
      go (infinite t e l) = (λ i. (e, l), λ i. t)
