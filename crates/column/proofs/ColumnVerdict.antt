-- A column call's number and place, exactly when: done, and refused by the lengths or at the first pair that does not pass.
use mathlib.Core.Path.{◌≡◌, refl, sym, ap, ◌∙◌, subst}
use mathlib.Core.Logic.{◌↔◌, ◌⊎◌, inl, inr, ⊎_elim}
use mathlib.Core.List.{List, ◌++◌}
use Prim.Native.Nat.{ℕ}
use native.Mathlib.Nat.{zero-add}
use lib.ListN.{length, get_or}
use Rattle.call.specs.Verdict.{Verdict, Test, first_hit}
use Rattle.column.specs.Accepted.{ColumnFits, ColumnsAccepted}
use Rattle.column.specs.Column.{column_limits, pair_tests, pairs_tests, verdict_of_columns}
use Rattle.call.proofs.Tests.{Passing, Refusal, gives_none, gives_one, gives_both, refusal_given, done_exactly, passing_parts, passing_both, refused_by_parts}
use Rattle.call.proofs.Blocks.{joined, joined_same, all_passing, RefusedAt, refused_exactly_at}
use Rattle.word.proofs.WordTests.{word_place}
use Rattle.column.proofs.Limits.{column_refusing, column_fits, column_passing}
use Rattle.column.proofs.Pairs.{pair_refusing, pairs_refusing, fits_pair, pairs_joined, pair_passes}

-- the tests of pair k
abbrev pub pair_block : ℕ → ℕ → ℕ → List ℕ → List ℕ → ℕ → List Test
pair_block n es op left right k = pair_tests n es op k (get_or left k 0) (get_or right k 0)

-- a pair's refusal has its place
pub pair_place : (n es op place a b : ℕ) {v : Verdict} → first_hit (pair_tests n es op place a b) ≡ v → Refusal v → v.place ≡ place
pair_place n es op place a b {v} e d =
    subst (λ (u : Verdict). u.place ≡ place) e
    (refusal_given {P = λ u. u.place ≡ place} (gives_both (word_place n place a) (gives_both (word_place n place b) (gives_one refl gives_none))) (subst Refusal (sym e) d))

module _ (n es op : ℕ) (left right : List ℕ) (row lent : ℕ) where
  pairs_by_block : length left ≡ length right → pairs_tests n es op 0 left right ≡ joined (pair_block n es op left right) (length left)
  pairs_by_block e =
      pairs_joined n es op 0 left right e
      ∙ joined_same (length left) (λ k h. ap (λ (m : ℕ). pair_tests n es op m (get_or left k 0) (get_or right k 0)) (zero-add k))

  -- number 0
  pub columns_done_exactly : ((verdict_of_columns n es op left right row lent).number ≡ 0) ↔ ColumnsAccepted n es op left right row lent
  unfolding verdict_of_columns
  columns_done_exactly = (accepted, passed)
    where
      limits : List Test
      limits = column_limits n es op (length left) (length right) row lent

      exactly : ((first_hit (limits ++ pairs_tests n es op 0 left right)).number ≡ 0) ↔ Passing (limits ++ pairs_tests n es op 0 left right)
      exactly = done_exactly (gives_both (column_refusing n es op (length left) (length right) row lent) (pairs_refusing n es op 0 left right))

      accepted : (first_hit (limits ++ pairs_tests n es op 0 left right)).number ≡ 0 → ColumnsAccepted n es op left right row lent
      accepted z =
          let p = passing_parts limits (exactly.0 z) in
          let f = column_fits {n = n} {es = es} {op = op} {left = length left} {right = length right} {row = row} {lent = lent} p.0 in
          record { fits = f; pair_fits = pair_passes n es op left right f.as_long p.1 }

      passed : ColumnsAccepted n es op left right row lent → (first_hit (limits ++ pairs_tests n es op 0 left right)).number ≡ 0
      passed a =
          exactly.1
          (passing_both (column_passing a.fits)
          (subst Passing (sym (pairs_by_block a.fits.as_long))
          (all_passing (pair_block n es op left right) (length left) (λ k h. fits_pair n es op k _ _ (a.pair_fits k h)))))

  -- any other number, with its place
  pub columns_refused_exactly : {v : Verdict} → Refusal v
      → (verdict_of_columns n es op left right row lent ≡ v)
      ↔ ((first_hit (column_limits n es op (length left) (length right) row lent) ≡ v)
      ⊎ (ColumnFits n es op (length left) (length right) row lent × RefusedAt (pair_block n es op left right) (length left) v))
  unfolding verdict_of_columns
  columns_refused_exactly {v} d =
      (λ e. ⊎_elim inl (λ w. inr (at_pair w)) (parts.0 e), λ w. parts.1 (⊎_elim inl (λ w. inr (from_pair w)) w))
    where
      limits : List Test
      limits = column_limits n es op (length left) (length right) row lent

      parts : (first_hit (limits ++ pairs_tests n es op 0 left right) ≡ v) ↔ ((first_hit limits ≡ v) ⊎ (Passing limits × (first_hit (pairs_tests n es op 0 left right) ≡ v)))
      parts = refused_by_parts (column_refusing n es op (length left) (length right) row lent) (pairs_tests n es op 0 left right) d

      blocks : (first_hit (joined (pair_block n es op left right) (length left)) ≡ v) ↔ RefusedAt (pair_block n es op left right) (length left) v
      blocks = refused_exactly_at d (pair_block n es op left right) (length left) (λ k. pair_refusing n es op k _ _)

      at_pair : Passing limits × (first_hit (pairs_tests n es op 0 left right) ≡ v) → ColumnFits n es op (length left) (length right) row lent × RefusedAt (pair_block n es op left right) (length left) v
      at_pair w =
          let f = column_fits {n = n} {es = es} {op = op} {left = length left} {right = length right} {row = row} {lent = lent} w.0 in
          (f, blocks.0 (sym (ap first_hit (pairs_by_block f.as_long)) ∙ w.1))

      from_pair : ColumnFits n es op (length left) (length right) row lent × RefusedAt (pair_block n es op left right) (length left) v → Passing limits × (first_hit (pairs_tests n es op 0 left right) ≡ v)
      from_pair w = (column_passing w.0, ap first_hit (pairs_by_block w.0.as_long) ∙ blocks.1 w.1)
