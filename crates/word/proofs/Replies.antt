-- The three comparisons come to tests of the two ranges' cells, and a reply is right where it settles those.
use mathlib.Core.Path.{◌≡◌}
use mathlib.Core.Bool.{Bool}
use mathlib.Core.Logic.{◌↔◌, ◌⊎◌}
use Prim.Native.Nat.{ℕ, ◌≤◌, ◌<◌}
use Rattle.word.specs.declared.inner.span.Span.{Span}
use Rattle.word.specs.Member.{Real, Inside, Meets, Below}
use Rattle.word.specs.Calls.{Tells}
use Rattle.word.specs.Spans.{cells_of}
use Rattle.word.proofs.Comparisons.{inside_by_cells, meets_by_cells, below_by_cells}

-- ---- a reply to what is the same statement
pub tells : {P Q : Type 0} {reply : Bool} → P ↔ Q → Tells Q reply → Tells P reply
tells i q = (λ e. i.1 (q.0 e), λ p. q.1 (i.0 p))

-- ---- the comparisons on the cells at hand
module _ (n es : ℕ) (wide : 3 ≤ n) {a b : ℕ} (p : Real n a × Real n b) {x y : Span} (e : x ≡ cells_of n a) (f : y ≡ cells_of n b) where
  pub inside_spans : Inside n es a b ↔ ((x.hi < x.lo) ⊎ ((y.lo ≤ x.lo) × (x.hi ≤ y.hi)))
  inside_spans = rw (e, f) (inside_by_cells n es wide p.0 p.1)

  pub meets_spans : Meets n es a b ↔ ((x.lo ≤ x.hi) × (y.lo ≤ y.hi) × (x.lo ≤ y.hi) × (y.lo ≤ x.hi))
  meets_spans = rw (e, f) (meets_by_cells n es wide p.0 p.1)

  pub below_spans : Below n es a b ↔ ((x.hi < x.lo) ⊎ ((y.hi < y.lo) ⊎ (x.hi < y.lo)))
  below_spans = rw (e, f) (below_by_cells n es wide p.0 p.1)
