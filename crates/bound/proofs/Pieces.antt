-- The pieces beside the four pairs of signs: the members other than 0, the member 0, and 0 as the only result.
use mathlib.Core.Logic.{ite}
use Rattle.bound.specs.Order.{Same}
use Rattle.bound.specs.Extent.{Extent, Within, Spans, nothing, exactly, within?, empty, point}
use Rattle.bound.specs.Sign.{Numbers, Num, Zero, NonZero, positive_part, among_all, nonzero_part, zero_part, zero_extent_if}
use Rattle.bound.proofs.Order.{same_sym, same_trans}
use Rattle.bound.proofs.Bound.{has_member}
use Rattle.bound.proofs.Extent.{within_same, spans_of_same_set, point_spans}
use Rattle.bound.proofs.Above.{part_above_spans, extent_back_spans}
use Rattle.bound.proofs.Sign.{From, both_signs_spans}

module _ (N : Numbers) where
  -- ---- the members other than 0
  pub nonzero_part_spans : (v : Extent (Num N)) → Spans N.order (From N (NonZero N) v (λ y z. Same N.order z y)) (nonzero_part N v)
  unfolding nonzero_part among_all positive_part
  nonzero_part_spans =
      both_signs_spans N (λ y z. Same N.order z y) (λ x z h s. (N.neg_turns s.1, N.neg_turns s.0)) (λ x z w s t. same_trans N.order t s)
      (λ u. among_all N (positive_part N u))
      (λ u.
      spans_of_same_set N.order
      (λ z. (
        λ i. record { source = i.source.0; member = i.member; kind = i.source.1; gives = i.value },
        λ m. record { source = (m.source, m.kind); member = m.member; value = m.gives },
      ))
      (extent_back_spans N.order N.zero (part_above_spans N.order N.zero u)))

  -- ---- the member 0
  pub record ZeroIn (u : Extent (Num N)) (x : Num N) : Type 0 where
    pub member : Within N.order u x
    pub zero : Zero N x

  pub zero_part_spans : (u : Extent (Num N)) → Spans N.order (ZeroIn u) (zero_part N u)
  unfolding zero_part
  zero_part_spans u = go (within? N.order u N.zero)
    where
      go : (d : Dec (Within N.order u N.zero)) → Spans N.order (ZeroIn u) (ite d (point N.zero) empty)
      go (yes h) =
          spans_of_same_set N.order
          (λ x. (λ s. record { member = within_same N.order h (same_sym N.order s); zero = s }, λ z. z.zero))
          (point_spans N.order N.zero)
      go (no h) = nothing (λ x z. h (within_same N.order z.member z.zero))

  -- ---- 0, if each of two sets has a member
  pub record ZeroIf (S T : Num N → Type 0) (z : Num N) : Type 0 where
    pub left : Num N
    pub right : Num N
    pub left_member : S left
    pub right_member : T right
    pub zero : Zero N z

  pub zero_if_spans : {S T : Num N → Type 0} {u v : Extent (Num N)} → Spans N.order S u → Spans N.order T v → Spans N.order (ZeroIf S T) (zero_extent_if N u v)
  unfolding zero_extent_if
  zero_if_spans (nothing h) t = nothing (λ z r. h r.left r.left_member)
  zero_if_spans (exactly f g) (nothing h) = nothing (λ z r. h r.right r.right_member)
  zero_if_spans (exactly f g) (exactly f' g') =
      let (x, m) = has_member N.order f in
      let (y, n) = has_member N.order f' in
      spans_of_same_set N.order (λ z. (λ s. record { left = x; right = y; left_member = m; right_member = n; zero = s }, λ w. w.zero))
      (point_spans N.order N.zero)
