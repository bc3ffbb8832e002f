-- An operation on positive numbers that increases in both arguments, as a product, or falls in the second, as a quotient.
use mathlib.Core.Path.{◌≡◌, refl, ◌∙◌, ap, ap₂}
use Rattle.bound.specs.Order.{dual}
use Rattle.bound.specs.Bound.{Bound, none, closed_at, open_at, map_bound}
use Rattle.bound.specs.Extent.{Extent, empty, span, turn, map_extent}
use Rattle.bound.specs.Operation.{Increasing, Results, both, combine}
use Rattle.bound.specs.Sign.{Numbers, Num, positive, SignedOperation, on_positive}
use Rattle.bound.proofs.Extent.{turned}
use Rattle.bound.proofs.Operation.{combine_spans}
use Rattle.bound.proofs.Above.{SpansAbove}

module _ (N : Numbers) {g : Num N → Num N → Num N} (G : SignedOperation N g) where
  -- the proofs that numbers are positive play no part in the bounds of the results
  both_erased : (b c : Bound (positive N).Number) → map_bound (λ p. p.0) (both (on_positive N G) b c) ≡ both g (map_bound (λ p. p.0) b) (map_bound (λ p. p.0) c)
  unfolding both
  both_erased none c = refl
  both_erased (closed_at a) none = refl
  both_erased (closed_at a) (closed_at b) = refl
  both_erased (closed_at a) (open_at b) = refl
  both_erased (open_at a) none = refl
  both_erased (open_at a) (closed_at b) = refl
  both_erased (open_at a) (open_at b) = refl

  combine_erased : (u v : Extent (positive N).Number) → map_extent (λ p. p.0) (combine (on_positive N G) u v) ≡ combine g (map_extent (λ p. p.0) u) (map_extent (λ p. p.0) v)
  unfolding combine
  combine_erased empty v = refl
  combine_erased (span s e) empty = refl
  combine_erased (span s e) (span t d) = ap₂ span (both_erased s t) (both_erased e d)

  turn_erased : (u : Extent (positive N).Number) → map_extent (λ p. p.0) (turn u) ≡ turn (map_extent (λ p. p.0) u)
  turn_erased empty = refl
  turn_erased (span s e) = refl

  module _ {X Y : (positive N).Number → Type 0} {u v : Extent (Num N)} (p : SpansAbove N.order N.zero X u) (q : SpansAbove N.order N.zero Y v) where
    pub rising_spans : Increasing (positive N) (positive N) (positive N) (on_positive N G) → SpansAbove N.order N.zero (Results (positive N) (on_positive N G) X Y) (combine g u v)
    rising_spans I =
        record {
          extent = combine (on_positive N G) p.extent q.extent;
          erased = combine_erased p.extent q.extent ∙ ap₂ (combine g) p.erased q.erased;
          spans = combine_spans I p.spans q.spans;
        }

    pub falling_spans : Increasing (positive N) (dual (positive N)) (positive N) (on_positive N G) → SpansAbove N.order N.zero (Results (positive N) (on_positive N G) X Y) (combine g u (turn v))
    falling_spans I =
        record {
          extent = combine (on_positive N G) p.extent (turn q.extent);
          erased = combine_erased p.extent (turn q.extent) ∙ ap₂ (combine g) p.erased (turn_erased q.extent ∙ ap turn q.erased);
          spans = combine_spans I p.spans (turned (positive N) q.spans);
        }
