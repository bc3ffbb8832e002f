-- Negation turns the ends of an extent round.
use Rattle.bound.specs.Order.{Order, dual}
use Rattle.bound.specs.Bound.{Bound, none, closed_at, open_at, map_bound, Allows, Exact}
use Rattle.bound.specs.Extent.{Extent, empty, span, Within, from_to, Spans, nothing, exactly}
use Rattle.bound.specs.Above.{Image}
use Rattle.bound.specs.Sign.{Numbers, Num, negate}
use Rattle.bound.proofs.Bound.{upward, exact_of_same_set}
use Rattle.bound.proofs.Above.{image_at}

abbrev pub dual_numbers : Numbers → Numbers
dual_numbers N =
    record {
      order = dual N.order;
      zero = N.zero;
      neg = N.neg;
      neg_turns = N.neg_turns;
      neg_neg = λ x. ((N.neg_neg x).1, (N.neg_neg x).0);
      neg_zero = (N.neg_zero.1, N.neg_zero.0);
    }

module _ (N : Numbers) where
  -- a start after negation allows what the end before it allows
  neg_allows : (b : Bound (Num N)) (x : Num N) → Allows (dual N.order) b x → Allows N.order (map_bound N.neg b) (N.neg x)
  neg_allows none x h = tt
  neg_allows (closed_at a) x h = N.neg_turns h
  neg_allows (open_at a) x h = λ l. h (N.order.transitive (N.neg_neg a).1 (N.order.transitive (N.neg_turns l) (N.neg_neg x).0))

  allows_neg : (b : Bound (Num N)) (x : Num N) → Allows N.order (map_bound N.neg b) x → Allows (dual N.order) b (N.neg x)
  allows_neg none x h = tt
  allows_neg (closed_at a) x h = N.order.transitive (N.neg_turns h) (N.neg_neg a).0
  allows_neg (open_at a) x h = λ l. h (N.order.transitive (N.neg_neg x).1 (N.neg_turns l))

  module _ {S : Num N → Type 0} where
    negated_exact : {b : Bound (Num N)} → Exact (dual N.order) S b → Exact N.order (Image N.order N.neg S) (map_bound N.neg b)
    negated_exact {b} e =
        record {
          allowed = λ m. upward N.order (map_bound N.neg b) (neg_allows b m.source (e.allowed m.member)) m.value.1;
          reached = λ z h.
              let (x, m, l) = e.reached (N.neg z) (allows_neg b z h) in
              (N.neg x, image_at N.order N.neg S x m, N.order.transitive (N.neg_turns l) (N.neg_neg z).0);
        }

dual_image : {A : Type 0} (R : Order) {f : A → R.Number} {S : A → Type 0} {z : R.Number} → Image (dual R) f S z → Image R f S z
dual_image R m = record { source = m.source; member = m.member; value = (m.value.1, m.value.0) }

module _ (N : Numbers) where
  pub negate_spans : {S : Num N → Type 0} {u : Extent (Num N)} → Spans N.order S u → Spans N.order (Image N.order N.neg S) (negate N u)
  unfolding negate
  negate_spans (nothing h) = nothing (λ z m. h m.source m.member)
  negate_spans (exactly f g) =
      exactly (negated_exact N g)
      (exact_of_same_set (dual N.order) (λ z. (dual_image N.order, dual_image (dual N.order))) (negated_exact (dual_numbers N) f))

  -- the members of the negated interval are the negated members
  pub neg_within : {u : Extent (Num N)} {x : Num N} → Within N.order u x → Within N.order (negate N u) (N.neg x)
  unfolding negate
  neg_within {x} (from_to {s} {e} h k) = from_to (neg_allows N e x k) (neg_allows (dual_numbers N) s x h)

  pub within_neg : (u : Extent (Num N)) {x : Num N} → Within N.order (negate N u) x → Within N.order u (N.neg x)
  unfolding negate
  within_neg empty w = elim w [ ]
  within_neg (span s e) {x} (from_to h k) = from_to (allows_neg (dual_numbers N) s x k) (allows_neg N e x h)
