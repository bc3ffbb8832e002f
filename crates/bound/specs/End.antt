-- An end of a real range stands on a value of the grid, closed or open, or is unbounded: it is a bound that names a value by its number.
use Rattle.std.specs.Prelude.{ℕ, zero, suc, ◌+◌, ◌*◌, ◌-◌, ◌/◌, ◌%◌, ◌<◌}
use Rattle.bound.specs.Order.{Order, Less, Same}
use Rattle.bound.specs.Bound.{Bound, none, closed_at, open_at, GreatestBelow}

-- the value that the end names is there
abbrev pub OnGrid : ℕ → Bound ℕ → Type 0
OnGrid n none = Unit
OnGrid n (closed_at k) = k < n
OnGrid n (open_at k) = k < n

-- the first cell after a start and the last cell before an end, with n values
abbrev pub start_place : Bound ℕ → ℕ
start_place none = 0
start_place (closed_at k) = 2 * k + 1
start_place (open_at k) = 2 * k + 2

abbrev pub end_place : ℕ → Bound ℕ → ℕ
end_place n none = 2 * n
end_place n (closed_at k) = 2 * k + 1
end_place n (open_at k) = 2 * k

-- and back: each cell is the place of one start and of one end
abbrev pub read_start : ℕ → Bound ℕ
read_start zero = none
read_start (suc c) = elim (c % 2) [ zero ↦ closed_at (c / 2) | suc r ↦ open_at (c / 2) ]

abbrev pub read_end : ℕ → ℕ → Bound ℕ
read_end n c = elim (2 * n - c) [ zero ↦ none | suc m ↦ elim (c % 2) [ zero ↦ open_at (c / 2) | suc r ↦ closed_at (c / 2) ] ]

-- Where a start of the results S must stand: on the exact bound if that is a value, otherwise on the first value beyond it;
-- unbounded if there is no such value or no bound; closed exactly where a result lies on it. An end is the same over the dual order.
pub data Stands (O : Order) (n : ℕ) (v : ℕ → O.Number) (S : O.Number → Type 0) : Bound ℕ → Type 0 where
  closed_on_bound : {k : ℕ} → GreatestBelow O S (v k) → (x : O.Number) → S x → Same O x (v k) → Stands O n v S (closed_at k)
  open_on_bound : {k : ℕ} → GreatestBelow O S (v k) → ((x : O.Number) → S x → ¬ Same O x (v k)) → Stands O n v S (open_at k)
  open_beyond_bound : {k : ℕ} (a : O.Number) → GreatestBelow O S a → ((j : ℕ) → j < n → ¬ Same O (v j) a)
      → Less O (v k) a → ((j : ℕ) → j < n → Less O (v j) a → O.◌≼◌ (v j) (v k)) → ((x : O.Number) → S x → ¬ Same O x (v k)) → Stands O n v S (open_at k)
  unbounded_beyond : (a : O.Number) → GreatestBelow O S a → ((j : ℕ) → j < n → Less O a (v j)) → Stands O n v S none
  unbounded : ((c : O.Number) → ¬ ((x : O.Number) → S x → O.◌≼◌ c x)) → Stands O n v S none
