-- Two columns pair by pair: the tests and the answers of what is left, and of each pair.
use mathlib.Core.Path.{◌≡◌, refl, sym, ap, ◌∙◌, subst}
use mathlib.Core.Bool.{Bool, true, false, ◌&&◌}
use mathlib.Core.List.{List, [], ◌∷◌, ◌++◌}
use Prim.Native.Nat.{ℕ, zero, suc, ◌+◌, ◌≤◌, ◌<◌}
use native.Mathlib.Nat.{add-zero, add-suc, suc-add, suc_inj, not-suc-le-zero, le_of_suc-le-suc, suc-ne-zero}
use native.Mathlib.Numerals.{add-one}
use lib.IntN.{pos}
use lib.Dec.{eqb}
use lib.ListN.{length, get_or, drop, drop_of_length-le}
use lib.Seq.{drop-cons}
use borrow.Author.Tests.{eq-eqb, eqb-true}
use Rattle.exact.specs.Fraction.{whole}
use Rattle.call.specs.Operation.{over}
use Rattle.call.specs.Verdict.{Test}
use Rattle.word.specs.Member.{is_member}
use Rattle.word.specs.Computed.{answer_of}
use Rattle.word.specs.Refusal.{word_tests}
use Rattle.column.specs.Refusal.{holds_zero, divisor_test_at}
use Rattle.column.specs.Accepted.{PairFits}
use Rattle.column.specs.Column.{pair_tests, pairs_tests, answers_of}
use Rattle.call.proofs.Tests.{Passing, all_pass, one_passes, head_passes, passing_parts, passing_both, Refusing, gives_none, one_refuses, gives_both}
use Rattle.call.proofs.Blocks.{joined, joined_same, each_passes}
use Rattle.word.proofs.WordTests.{word_refusing, passing_real, real_passing}
use Rattle.call.proofs.Facts.{both_true}

-- ---- 5
module _ (n es place op w : ℕ) {b : Bool} (e : b ≡ is_member n es w (whole (pos 0))) where
  pub divisor_hits : op ≡ over → b ≡ true → (divisor_test_at n es place op w).hit ≡ true
  unfolding holds_zero
  divisor_hits d h = both_true (eqb op over) _ (eq-eqb op over d) (sym e ∙ h)

  pub divisor_passes : b ≡ false → (divisor_test_at n es place op w).hit ≡ false
  unfolding holds_zero
  divisor_passes h = both_false (eqb op over) _ (sym e ∙ h)
    where
      both_false : (a b : Bool) → b ≡ false → (a && b) ≡ false
      both_false true b f = f
      both_false false b f = refl

pub divisor_clear : (n es place op w : ℕ) → op ≡ over → (divisor_test_at n es place op w).hit ≡ false → holds_zero n es w ≡ false
divisor_clear n es place op w d h = sym (ap (λ (b : Bool). b && holds_zero n es w) (eq-eqb op over d)) ∙ h

pub divisor_clears : (n es place op w : ℕ) → (op ≡ over → holds_zero n es w ≡ false) → (divisor_test_at n es place op w).hit ≡ false
divisor_clears n es place op w h = go (eqb op over) refl
  where
    go : (b : Bool) → eqb op over ≡ b → (eqb op over && holds_zero n es w) ≡ false
    go true e = rw (e, h (eqb-true op over e))
    go false e = rw e

-- ---- one pair
module _ (n es op place a b : ℕ) where
  pub pair_refusing : Refusing (pair_tests n es op place a b)
  pair_refusing = gives_both (word_refusing n place a) (gives_both (word_refusing n place b) (one_refuses refl gives_none))

  pub pair_fits : Passing (pair_tests n es op place a b) → PairFits n es op a b
  pair_fits p =
      let q = passing_parts (word_tests n place a) p in
      let r = passing_parts (word_tests n place b) q.1 in
      record {
        left_real = passing_real n place a q.0;
        right_real = passing_real n place b r.0;
        divisor = λ d. divisor_clear n es place op b d (head_passes r.1);
      }

  pub fits_pair : PairFits n es op a b → Passing (pair_tests n es op place a b)
  fits_pair f =
      passing_both (real_passing n place a f.left_real)
      (passing_both (real_passing n place b f.right_real) (one_passes (divisor_clears n es place op b f.divisor) all_pass))

module _ (n es op : ℕ) where
  pub pairs_refusing : (place : ℕ) (left right : List ℕ) → Refusing (pairs_tests n es op place left right)
  unfolding pairs_tests
  pairs_refusing place [] right = gives_none
  pairs_refusing place (a ∷ left) [] = gives_none
  pairs_refusing place (a ∷ left) (b ∷ right) = gives_both (pair_refusing n es op place a b) (pairs_refusing (suc place) left right)

  -- ---- what is left after i pairs
  pub pairs_next : (i : ℕ) (left right : List ℕ) → i < length left → i < length right
      → pairs_tests n es op i (drop i left) (drop i right) ≡ pair_tests n es op i (get_or left i 0) (get_or right i 0) ++ pairs_tests n es op (i + 1) (drop (i + 1) left) (drop (i + 1) right)
  unfolding pairs_tests
  pairs_next i left right hl hr = rw (add-one i, drop-cons left i 0 hl, drop-cons right i 0 hr, pairs_tests)

  pub pairs_end : (i : ℕ) (left right : List ℕ) → length left ≤ i → pairs_tests n es op i (drop i left) right ≡ []
  unfolding pairs_tests
  pairs_end i left right h = rw (drop_of_length-le left h)

  -- ---- the tests of all pairs, pair by pair
  pub pairs_joined : (place : ℕ) (left right : List ℕ) → length left ≡ length right
      → pairs_tests n es op place left right ≡ joined (λ k. pair_tests n es op (place + k) (get_or left k 0) (get_or right k 0)) (length left)
  unfolding pairs_tests joined
  pairs_joined place [] right e = refl
  pairs_joined place (a ∷ left) [] e = absurd (suc-ne-zero (length left) e)
  pairs_joined place (a ∷ left) (b ∷ right) e =
      ap (λ (k : ℕ). pair_tests n es op k a b ++ pairs_tests n es op (suc place) left right) (sym (add-zero place))
      ∙ ap (λ (ts : List Test). pair_tests n es op (place + 0) a b ++ ts)
      (pairs_joined (suc place) left right (suc_inj e)
      ∙ joined_same (length left) (λ k h. ap (λ (m : ℕ). pair_tests n es op m (get_or left k 0) (get_or right k 0)) (suc-add place k ∙ sym (add-suc place k))))

  -- each pair of columns that pass
  pub pair_passes : (left right : List ℕ) → length left ≡ length right → Passing (pairs_tests n es op 0 left right) → (k : ℕ) → k < length left
      → PairFits n es op (get_or left k 0) (get_or right k 0)
  pair_passes left right e p k h = pair_fits n es op (0 + k) _ _ (each_passes _ (length left) (subst Passing (pairs_joined 0 left right e) p) k h)

  -- ---- the answers
  pub length_answers : (left right : List ℕ) → length left ≡ length right → length (answers_of n es op left right) ≡ length left
  unfolding answers_of
  length_answers [] right e = refl
  length_answers (a ∷ left) [] e = absurd (suc-ne-zero (length left) e)
  length_answers (a ∷ left) (b ∷ right) e = ap suc (length_answers left right (suc_inj e))

  pub answer_at : (left right : List ℕ) (i : ℕ) → i < length left → i < length right
      → get_or (answers_of n es op left right) i 0 ≡ answer_of n es op (get_or left i 0) (get_or right i 0)
  unfolding answers_of
  answer_at [] right i hl hr = absurd (not-suc-le-zero hl)
  answer_at (a ∷ left) [] i hl hr = absurd (not-suc-le-zero hr)
  answer_at (a ∷ left) (b ∷ right) zero hl hr = refl
  answer_at (a ∷ left) (b ∷ right) (suc i) hl hr = answer_at left right i (le_of_suc-le-suc hl) (le_of_suc-le-suc hr)
