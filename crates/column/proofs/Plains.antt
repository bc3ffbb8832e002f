-- Columns of ranges above 0, or across it on the left, pair by pair: they are real ranges, and those on the right are without 0, so that every test of every
-- pair passes.
use mathlib.Core.Path.{◌≡◌, refl}
use mathlib.Core.Bool.{Bool, true, false, not, ◌&&◌}
use mathlib.Core.Logic.{◌≢◌}
use mathlib.Core.List.{List, [], ◌∷◌}
use Prim.Native.Nat.{ℕ, zero, suc, ◌+◌, ◌^◌, ◌≤◌, ◌<◌}
use native.Mathlib.Nat.{not-suc-le-zero, le_of_suc-le-suc}
use native.Mathlib.Numerals.{add-one}
use lib.Bits.{bit_or}
use lib.Dec.{eqb, ltb}
use lib.ListN.{length, get_or, drop, drop_of_length-le}
use lib.Seq.{drop-cons}
use borrow.Author.Tests.{eqb-false, not-true}
use Rattle.posit.specs.Format.{Format}
use Rattle.tiles.specs.Plain.{is_plain}
use Rattle.tiles.specs.Spread.{is_spread}
use Rattle.tiles.proofs.PlainCells.{real_of_plain, plain_no_zero}
use Rattle.tiles.proofs.Spreading.{real_of_spread}
use Rattle.tiles.proofs.Faults.{or_below}
use Rattle.column.specs.Refusal.{holds_zero}
use Rattle.column.specs.Accepted.{PairFits}
use Rattle.column.specs.Column.{pairs_tests}
use Rattle.call.specs.Operation.{minus}
use Rattle.column.specs.Plains.{all_plain, takes_plain_way}
use Rattle.call.proofs.Tests.{Passing, all_pass, passing_both}
use Rattle.call.proofs.Facts.{both_parts}
use Rattle.column.proofs.Pairs.{fits_pair}

regrouped : (a b c d : Bool) → (a && (b && (c && d))) ≡ ((a && (b && c)) && d)
regrouped true true c d = refl
regrouped true false c d = refl
regrouped false b c d = refl

and_true : (b : Bool) → (b && true) ≡ b
and_true true = refl
and_true false = refl

-- ---- what is left after i pairs
module _ (n : ℕ) where
  plain_next : (i : ℕ) (left right : List ℕ) → i < length left → i < length right
      → all_plain n (drop i left) (drop i right) ≡ (is_spread n (get_or left i 0) && (is_plain n (get_or right i 0) && all_plain n (drop (i + 1) left) (drop (i + 1) right)))
  unfolding all_plain
  plain_next i left right hl hr = rw (add-one i, drop-cons left i 0 hl, drop-cons right i 0 hr, all_plain)

  plain_end : (i : ℕ) (left right : List ℕ) → length left ≤ i → all_plain n (drop i left) right ≡ true
  unfolding all_plain
  plain_end i left right h = rw (drop_of_length-le left h)

  -- ---- the faults of i pairs, joined
  pub faults_next : (i f a b : ℕ) (left right : List ℕ) → i < length left → i < length right → ltb a (2 ^ 63) ≡ is_spread n (get_or left i 0) → ltb b (2 ^ 63) ≡ is_plain n (get_or right i 0)
      → (ltb f (2 ^ 63) && all_plain n (drop i left) (drop i right)) ≡ (ltb (bit_or f (bit_or a b)) (2 ^ 63) && all_plain n (drop (i + 1) left) (drop (i + 1) right))
  faults_next i f a b left right hl hr p q =
      rw (plain_next i left right hl hr, ← p, ← q, or_below f (bit_or a b), or_below a b) (regrouped (ltb f (2 ^ 63)) (ltb a (2 ^ 63)) (ltb b (2 ^ 63)) _)

  pub faults_end : (i f : ℕ) (left right : List ℕ) → length left ≤ i → (ltb f (2 ^ 63) && all_plain n (drop i left) right) ≡ ltb f (2 ^ 63)
  faults_end i f left right h = rw (plain_end i left right h) (and_true (ltb f (2 ^ 63)))

  -- ---- each pair
  pub plain_at : (left right : List ℕ) → all_plain n left right ≡ true → (i : ℕ) → i < length left → i < length right
      → (is_spread n (get_or left i 0) ≡ true) × (is_plain n (get_or right i 0) ≡ true)
  unfolding all_plain
  plain_at [] right p i hl hr = absurd (not-suc-le-zero hl)
  plain_at (a ∷ left) [] p i hl hr = absurd (not-suc-le-zero hr)
  plain_at (a ∷ left) (b ∷ right) p zero hl hr =
      let (pa, rest) = both_parts (is_spread n a) (is_plain n b && all_plain n left right) p in
      (pa, (both_parts (is_plain n b) (all_plain n left right) rest).0)
  plain_at (a ∷ left) (b ∷ right) p (suc i) hl hr =
      let (pa, rest) = both_parts (is_spread n a) (is_plain n b && all_plain n left right) p in
      plain_at left right (both_parts (is_plain n b) (all_plain n left right) rest).1 i (le_of_suc-le-suc hl) (le_of_suc-le-suc hr)

-- ---- the tests
module _ {n es : ℕ} (f : Format n es) (op : ℕ) where
  plain_pair : (a b : ℕ) → is_spread n a ≡ true → is_plain n b ≡ true → PairFits n es op a b
  unfolding holds_zero
  plain_pair a b p q =
      record { left_real = real_of_spread n a f.wide_enough p; right_real = real_of_plain n b f.wide_enough q; divisor = λ d. plain_no_zero b f q }

  pub plain_passes : (place : ℕ) (left right : List ℕ) → all_plain n left right ≡ true → Passing (pairs_tests n es op place left right)
  unfolding all_plain pairs_tests
  plain_passes place [] right p = all_pass
  plain_passes place (a ∷ left) [] p = all_pass
  plain_passes place (a ∷ left) (b ∷ right) p =
      let (pa, rest) = both_parts (is_spread n a) (is_plain n b && all_plain n left right) p in
      let (pb, more) = both_parts (is_plain n b) (all_plain n left right) rest in
      passing_both (fits_pair n es op place a b (plain_pair a b pa pb)) (plain_passes (suc place) left right more)

-- ---- the plain way
module _ (n op : ℕ) (left right : List ℕ) (p : takes_plain_way n op left right ≡ true) where
  pub way_plain : all_plain n left right ≡ true
  way_plain = (both_parts (not (eqb op minus)) (all_plain n left right) p).1

  pub way_other : op ≢ minus
  way_other = eqb-false op minus (not-true (eqb op minus) (both_parts (not (eqb op minus)) (all_plain n left right) p).0)
