-- The bridge: an interval of cells that holds a set and whose two ends the set touches is the smallest that holds it, and the only one.
use mathlib.Core.Path.{◌≡◌}
use mathlib.Core.Logic.{◌↔◌}
use Prim.Native.Nat.{ℕ, ◌*◌, ◌≤◌, ◌<◌, min, max}
use native.Mathlib.Decide.{dec_le}
use native.Mathlib.Omega.{arith}
use Rattle.bound.specs.Order.{Order, Less}
use Rattle.bound.specs.Extent.{Extent, Spans, nothing, exactly, Either, in_first, in_second}
use Rattle.bound.specs.Cell.{Grid, cell, InCells, Smallest, low_cell_in, high_cell_in}
use Rattle.bound.proofs.Cell.{monotone, cell_is_cell}
use Rattle.bound.proofs.CellBound.{not_before_start, first_cell}
use Rattle.bound.proofs.CellEnd.{not_after_end, last_cell, cell_has_number}

module _ {O : Order} (G : Grid O) where
  -- a set that touches the cell c is held only by intervals with c in them
  touched : {S : O.Number → Type 0} {c lo hi : ℕ} → ((x : O.Number) × S x × cell G x ≡ c) → ((x : O.Number) → S x → InCells G lo hi x) → (lo ≤ c) × (c ≤ hi)
  touched (x, m, e) h = omega (arith, e, h x m)

  pub smallest_of_touched : {S : O.Number → Type 0} {lo hi : ℕ} → ((x : O.Number) → S x → InCells G lo hi x)
      → ((x : O.Number) × S x × cell G x ≡ lo) → ((x : O.Number) × S x × cell G x ≡ hi) → Smallest G S lo hi
  smallest_of_touched h f l =
      record {
        holds = h;
        inside = λ lo' hi' k x i. let (a, b) = touched f k in let (c, d) = touched l k in omega (arith, i);
      }

  -- the smallest interval of an empty set is an empty one
  pub smallest_of_nothing : {S : O.Number → Type 0} {lo hi : ℕ} → ((x : O.Number) → ¬ S x) → hi < lo → Smallest G S lo hi
  smallest_of_nothing n l = record { holds = λ x m. absurd (n x m); inside = λ lo' hi' k x i. absurd (omega (arith, i)) }

  -- from the exact extent to the smallest interval of cells
  pub smallest_of_extent : {S : O.Number → Type 0} {u : Extent O.Number} → Spans O S u → Smallest G S (low_cell_in G u) (high_cell_in G u)
  smallest_of_extent (nothing h) = smallest_of_nothing h (omega arith)
  smallest_of_extent (exactly {s} {e} p q) =
      smallest_of_touched
      (λ x m. record { from_low = not_before_start G s x (p.allowed m); to_high = not_after_end G e x (q.allowed m) })
      (first_cell G p) (last_cell G q)

  -- ---- the three comparisons of intervals of cells
  pub at_low : (lo hi : ℕ) → lo ≤ hi → hi ≤ 2 * G.count → (x : O.Number) × InCells G lo hi x × cell G x ≡ lo
  at_low lo hi l b = let (x, e) = cell_has_number G lo (omega arith) in (x, omega (arith, e), e)

  at_high : (lo hi : ℕ) → lo ≤ hi → hi ≤ 2 * G.count → (x : O.Number) × InCells G lo hi x × cell G x ≡ hi
  at_high lo hi l b = let (x, e) = cell_has_number G hi b in (x, omega (arith, e), e)

  pub inside_iff : (lo hi lo' hi' : ℕ) → hi ≤ 2 * G.count → ((x : O.Number) → InCells G lo hi x → InCells G lo' hi' x) ↔ (lo ≤ hi → (lo' ≤ lo) × (hi ≤ hi'))
  inside_iff lo hi lo' hi' b = (
    λ h l.
        let (x, i, e) = at_low lo hi l b in
        let (y, j, f) = at_high lo hi l b in
        omega (arith, e, f, h x i, h y j),
    λ h x i. omega (arith, h (omega (arith, i)), i),
  )

  pub meets_iff : (lo hi lo' hi' : ℕ) → hi ≤ 2 * G.count → hi' ≤ 2 * G.count
      → ((x : O.Number) × InCells G lo hi x × InCells G lo' hi' x) ↔ ((lo ≤ hi) × (lo' ≤ hi') × (lo ≤ hi') × (lo' ≤ hi))
  meets_iff lo hi lo' hi' b b' = (λ m. omega (arith, m.1, m.2), there)
    where
      there : (lo ≤ hi) × (lo' ≤ hi') × (lo ≤ hi') × (lo' ≤ hi) → (x : O.Number) × InCells G lo hi x × InCells G lo' hi' x
      there h =
          elim (dec_le lo lo') [
            | yes l ↦ let (x, i, e) = at_low lo' hi' h.1 b' in (x, omega (arith, e), i)
            | no l ↦ let (x, i, e) = at_low lo hi h.0 b in (x, i, omega (arith, e))
          ]

  pub below_iff : (lo hi lo' hi' : ℕ) → hi ≤ 2 * G.count → hi' ≤ 2 * G.count
      → ((x y : O.Number) → InCells G lo hi x → InCells G lo' hi' y → Less O x y) ↔ (lo ≤ hi → lo' ≤ hi' → hi < lo')
  below_iff lo hi lo' hi' b b' = (there, back)
    where
      there : ((x y : O.Number) → InCells G lo hi x → InCells G lo' hi' y → Less O x y) → lo ≤ hi → lo' ≤ hi' → hi < lo'
      there h l l' =
          let (x, i, e) = at_high lo hi l b in
          let (y, j, f) = at_low lo' hi' l' b' in
          let m : cell G x ≤ cell G y = monotone (cell_is_cell G x) (cell_is_cell G y) (O.total (h x y i j)) in
          elim (dec_le lo' hi) [ yes k ↦ absurd (h x x i (omega (arith, e, f, j)) (O.reflexive x)) | no k ↦ omega arith ]

      back : (lo ≤ hi → lo' ≤ hi' → hi < lo') → (x y : O.Number) → InCells G lo hi x → InCells G lo' hi' y → Less O x y
      back h x y i j k =
          omega (arith, i, j, h (omega (arith, i)) (omega (arith, j)), monotone (cell_is_cell G y) (cell_is_cell G x) k)

  -- ---- uniqueness
  pub smallest_is_unique : {S : O.Number → Type 0} {lo hi lo' hi' : ℕ} → Smallest G S lo hi → Smallest G S lo' hi' → lo ≤ hi → hi ≤ 2 * G.count → hi' ≤ 2 * G.count → (lo ≡ lo') × (hi ≡ hi')
  smallest_is_unique {lo} {hi} {lo'} {hi'} p q l b b' =
      let (c, d) = (inside_iff lo hi lo' hi' b).0 (p.inside lo' hi' q.holds) l in
      let (e, f) = (inside_iff lo' hi' lo hi b').0 (q.inside lo hi p.holds) (omega arith) in
      omega arith

  -- ---- the smallest interval of either of two sets, from the least cell to the greatest
  pub smallest_of_either : {S T : O.Number → Type 0} {lo hi lo' hi' : ℕ} → Smallest G S lo hi → lo ≤ hi → hi ≤ 2 * G.count → Smallest G T lo' hi' → lo' ≤ hi' → hi' ≤ 2 * G.count
      → Smallest G (Either S T) (min lo lo') (max hi hi')
  smallest_of_either {lo} {hi} {lo'} {hi'} p l b q l' b' =
      record {
        holds = λ x m. elim m [ in_first s ↦ omega (arith, p.holds x s) | in_second t ↦ omega (arith, q.holds x t) ];
        inside = λ low high h x i.
            let (c, d) = (inside_iff lo hi low high b).0 (p.inside low high (λ y s. h y (in_first s))) l in
            let (e, f) = (inside_iff lo' hi' low high b').0 (q.inside low high (λ y t. h y (in_second t))) l' in
            omega (arith, i);
      }

  -- ---- a smaller set has a smaller smallest interval
  pub smallest_grows : {S T : O.Number → Type 0} {lo hi lo' hi' : ℕ} → ((x : O.Number) → S x → T x) → Smallest G S lo hi → Smallest G T lo' hi' → (x : O.Number) → InCells G lo hi x → InCells G lo' hi' x
  smallest_grows {lo'} {hi'} sub p q = p.inside lo' hi' (λ x m. q.holds x (sub x m))
