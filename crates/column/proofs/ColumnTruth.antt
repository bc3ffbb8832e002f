-- Each word that a column call writes is the answer for its pair: the smallest range of the exact results, with its ends where they belong.
use mathlib.Core.Path.{sym, subst}
use mathlib.Core.List.{List}
use Prim.Native.Nat.{ℕ, ◌+◌, ◌<◌}
use native.Mathlib.Omega.{arith}
use lib.ListN.{length, get_or}
use Rattle.word.specs.Smallest.{IsAnswer, Result}
use Rattle.word.proofs.Computed.{answer_computed}
use Rattle.std.specs.Prelude.{Ok}
use Rattle.call.proofs.Answered.{accepts}
use Rattle.column.specs.Accepted.{ColumnsAccepted}
use Rattle.column.specs.Column.{verdict_of_columns, answers_of}
use Rattle.call.specs.Written.{Writes}
use Rattle.column.proofs.Pairs.{length_answers, answer_at}
use Rattle.call.proofs.WrittenAt.{written_at}
use Rattle.column.proofs.ColumnVerdict.{columns_done_exactly}

module _ (n es op : ℕ) (left right : List ℕ) (row lent : ℕ) where
  pub pair_answered : ColumnsAccepted n es op left right row lent → (k : ℕ) → k < length left
      → IsAnswer n es (Result n es op (get_or left k 0) (get_or right k 0)) (get_or (answers_of n es op left right) k 0)
  pair_answered a k h =
      subst (λ (w : ℕ). IsAnswer n es (Result n es op (get_or left k 0) (get_or right k 0)) w)
      (sym (answer_at n es op left right k h (subst (λ (m : ℕ). k < m) a.fits.as_long h)))
      (answer_computed n es op (get_or left k 0) (get_or right k 0) a.fits.format.wide_enough a.fits.operation)

-- the word that a call which is done leaves at its row + k
module _ (n es op : ℕ) (left right : List ℕ) (row : ℕ) (before after : List ℕ) (count : ℕ)
    (w : Writes (verdict_of_columns n es op left right row (length before)) row (answers_of n es op left right) before after (Ok count)) where
  pub written_answer : (k : ℕ) → k < length left → IsAnswer n es (Result n es op (get_or left k 0) (get_or right k 0)) (get_or after (row + k) 0)
  written_answer k h =
      let z = accepts w.count.0 in
      let a = (columns_done_exactly n es op left right row (length before)).0 z in
      let as_many = length_answers n es op left right a.fits.as_long in
      subst (λ (x : ℕ). IsAnswer n es (Result n es op (get_or left k 0) (get_or right k 0)) x)
      (sym (written_at w z (omega (arith, a.fits.room)) k (omega arith)))
      (pair_answered n es op left right row (length before) a k h)
