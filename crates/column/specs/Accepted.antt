-- What a column call has, in full, exactly where it is done.
use Rattle.std.specs.Prelude.{◌≡◌, false, List, ℕ, ◌+◌, ◌≤◌, ◌<◌, length, get_or}
use Rattle.call.specs.Operation.{over}
use Rattle.posit.specs.Format.{Format}
use Rattle.word.specs.Member.{Real}
use Rattle.column.specs.Refusal.{longest_column, holds_zero}

pub record ColumnFits (n es op left right row lent : ℕ) : Type 0 where
  pub format : Format n es
  pub operation : op ≤ 3
  pub as_long : left ≡ right
  pub short : left ≤ longest_column
  pub room : row + left ≤ lent

pub record PairFits (n es op a b : ℕ) : Type 0 where
  pub left_real : Real n a
  pub right_real : Real n b
  pub divisor : op ≡ over → holds_zero n es b ≡ false

-- the last argument is the length of the lent column
pub record ColumnsAccepted (n es op : ℕ) (left right : List ℕ) (row lent : ℕ) : Type 0 where
  pub fits : ColumnFits n es op (length left) (length right) row lent
  pub pair_fits : (k : ℕ) → k < length left → PairFits n es op (get_or left k 0) (get_or right k 0)
