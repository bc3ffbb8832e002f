-- The exact bound of either of two sets is the wider of their bounds, and their extent is the hull.
use mathlib.Core.Logic.{◌↔◌, ◌⊎◌, inl, inr}
use Rattle.bound.specs.Order.{Order, dual}
use Rattle.bound.specs.Bound.{Bound, Allows, Exact}
use Rattle.bound.specs.Hull.{Covers, compare_bounds, wider, narrower}
use Rattle.bound.specs.Extent.{Extent, Spans, nothing, exactly, Either, in_first, in_second, hull}
use Rattle.bound.proofs.Bound.{exact_of_same_set}
use Rattle.bound.proofs.Extent.{spans_of_same_set}

exchange : {A : Type 0} {S T : A → Type 0} {x : A} → Either S T x → Either T S x
exchange (in_first s) = in_second s
exchange (in_second t) = in_first t

first_covers : (O : Order) {S T : O.Number → Type 0} {b c : Bound O.Number} → Exact O S b → Exact O T c → Covers O b c → Exact O (Either S T) b
first_covers O e f k =
    record {
      allowed = λ {x} m. elim m [ in_first s ↦ e.allowed s | in_second t ↦ k.covers x (f.allowed t) ];
      reached = λ z h. let (x, s, l) = e.reached z h in (x, in_first s, l);
    }

nothing_first : (O : Order) {S T : O.Number → Type 0} {v : Extent O.Number} → ((x : O.Number) → ¬ S x) → Spans O T v → Spans O (Either S T) v
nothing_first O h = spans_of_same_set O (λ x. (in_second, λ m. elim m [ in_first s ↦ absurd (h x s) | in_second t ↦ t ]))

module _ (O : Order) {S T : O.Number → Type 0} where
  pub wider_is_exact : {b c : Bound O.Number} → Exact O S b → Exact O T c → Exact O (Either S T) (wider O b c)
  unfolding wider
  wider_is_exact {b} {c} e f = go (compare_bounds O b c)
    where
      go : (d : Covers O b c ⊎ Covers O c b) → Exact O (Either S T) (elim d [ inl h ↦ b | inr h ↦ c ])
      go (inl h) = first_covers O e f h
      go (inr h) = exact_of_same_set O (λ x. (exchange, exchange)) (first_covers O f e h)

module _ (O : Order) {S T : O.Number → Type 0} where
  pub hull_spans : {u v : Extent O.Number} → Spans O S u → Spans O T v → Spans O (Either S T) (hull O u v)
  unfolding hull
  hull_spans (nothing h) t = nothing_first O h t
  hull_spans (exactly p q) (nothing h) = spans_of_same_set O (λ x. (exchange, exchange)) (nothing_first O h (exactly p q))
  hull_spans (exactly p q) (exactly p' q') = exactly (wider_is_exact O p p') (wider_is_exact (dual O) q q')

-- ---- the narrower bound allows what both allow
module _ (O : Order) where
  pub narrower_allows : (b c : Bound O.Number) (x : O.Number) → Allows O (narrower O b c) x ↔ (Allows O b x × Allows O c x)
  unfolding narrower
  narrower_allows b c x = go (compare_bounds O b c)
    where
      go : (d : Covers O b c ⊎ Covers O c b) → Allows O (elim d [ inl h ↦ c | inr h ↦ b ]) x ↔ (Allows O b x × Allows O c x)
      go (inl h) = (λ k. (h.covers x k, k), λ k. k.1)
      go (inr h) = (λ k. (k, h.covers x k), λ k. k.0)
