-- An operation gives no result exactly where an operand has no member; a quotient, where the divisor has none other than 0.
use mathlib.Core.Path.{◌≡◌}
use mathlib.Core.Logic.Iff
use mathlib.Core.Logic.{◌↔◌, ◌⊎◌}
use Rattle.bound.specs.Extent.{Extent, empty, Spans}
use Rattle.bound.specs.Operation.{Results}
use Rattle.bound.specs.Sign.{nonzero_part}
use Rattle.bound.specs.Arithmetic.{Arithmetic, Number, order_of, sum, difference, product, quotient}
use Rattle.bound.proofs.Order.{same_refl, same_sym, same_trans}
use Rattle.bound.proofs.Extent.{NoMember, within_same, spans_of_same_set, normal_spans, empty_iff_no_member}
use Rattle.bound.proofs.Operation.{no_result_iff}
use Rattle.bound.proofs.Pieces.{nonzero_part_spans}
use Rattle.bound.proofs.Arithmetic.{In, InNonZero, sum_spans, difference_spans, product_spans, quotient_spans}

module _ (A : Arithmetic) where
  nonzero_spans : (v : Extent (Number A)) → Spans (order_of A) (InNonZero A v) (nonzero_part A.numbers v)
  nonzero_spans v =
      spans_of_same_set (order_of A)
      (λ y. (
        λ m. (
          within_same (order_of A) m.member (same_sym (order_of A) m.gives),
          λ s. m.kind (same_trans (order_of A) (same_sym (order_of A) m.gives) s),
        ),
        λ m. record { source = y; member = m.0; kind = m.1; gives = same_refl (order_of A) y },
      ))
      (nonzero_part_spans A.numbers v)

  -- from the extents of two sets and of the results
  empty_iff : (f : Number A → Number A → Number A) {X Y : Number A → Type 0} {u v w : Extent (Number A)}
      → Spans (order_of A) X u → Spans (order_of A) Y v → Spans (order_of A) (Results (order_of A) f X Y) w
      → (w ≡ empty) ↔ (NoMember X ⊎ NoMember Y)
  empty_iff f s t r = let O = order_of A in Iff.trans (empty_iff_no_member O r) (no_result_iff O O O f s t)

  module _ (u v : Extent (Number A)) where
    pub sum_empty_iff : (sum A u v ≡ empty) ↔ (NoMember (In A u) ⊎ NoMember (In A v))
    sum_empty_iff = empty_iff A.add (normal_spans (order_of A) u) (normal_spans (order_of A) v) (sum_spans A u v)

    pub difference_empty_iff : (difference A u v ≡ empty) ↔ (NoMember (In A u) ⊎ NoMember (In A v))
    difference_empty_iff = empty_iff A.subtract (normal_spans (order_of A) u) (normal_spans (order_of A) v) (difference_spans A u v)

    pub product_empty_iff : (product A u v ≡ empty) ↔ (NoMember (In A u) ⊎ NoMember (In A v))
    product_empty_iff = empty_iff A.multiply (normal_spans (order_of A) u) (normal_spans (order_of A) v) (product_spans A u v)

    pub quotient_empty_iff : (quotient A u v ≡ empty) ↔ (NoMember (In A u) ⊎ NoMember (InNonZero A v))
    quotient_empty_iff = empty_iff A.divide (normal_spans (order_of A) u) (nonzero_spans v) (quotient_spans A u v)
