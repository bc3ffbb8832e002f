-- A signed operation: its results on all numbers consist of those on positive numbers, with their signs, and of 0.
use Rattle.bound.specs.Order.{Same}
use Rattle.bound.specs.Extent.{Extent, Within, Spans, Either, in_first, in_second}
use Rattle.bound.specs.Operation.{Results}
use Rattle.bound.specs.Sign.{Numbers, Num, Positive, NonZero, positive, SignedOperation, on_positive, both_signs, positive_part, among_all, by_signs}
use Rattle.bound.proofs.Order.{same_refl, same_sym, same_trans}
use Rattle.bound.proofs.Extent.{spans_of_same_set}
use Rattle.bound.proofs.Hull.{hull_spans}
use Rattle.bound.proofs.Operation.{result}
use Rattle.bound.proofs.Above.{SpansAbove, extent_back_spans}
use Rattle.bound.proofs.Sign.{From, both_signs_spans, zero?}
use Rattle.bound.proofs.Pieces.{nonzero_part_spans, ZeroIn, zero_part_spans, ZeroIf, zero_if_spans}

swap_from : (N : Numbers) {D E : Num N → Type 0} {u v : Extent (Num N)} {R : Num N → Num N → Num N → Type 0} {z : Num N}
    → From N D v (λ y w. From N E u (λ x t. R x y t) w) z → From N E u (λ x w. From N D v (λ y t. R x y t) w) z
swap_from N m =
    let n = m.gives in
    record {
      source = n.source;
      member = n.member;
      kind = n.kind;
      gives = record { source = m.source; member = m.member; kind = m.kind; gives = n.gives };
    }

module _ (N : Numbers) {g : Num N → Num N → Num N} (G : SignedOperation N g) where
  -- z comes from x and a member of v, or from a member of u and y
  abbrev ByLeft : (D : Num N → Type 0) → Extent (Num N) → Num N → Num N → Type 0
  ByLeft D v x = From N D v (λ y t. Same N.order t (g x y))

  abbrev ByRight : (D : Num N → Type 0) → Extent (Num N) → Num N → Num N → Type 0
  ByRight D u y = From N D u (λ x t. Same N.order t (g x y))

  neg_same : {x y : Num N} → Same N.order x y → Same N.order (N.neg x) (N.neg y)
  neg_same s = (N.neg_turns s.1, N.neg_turns s.0)

  odd_by_right : (u : Extent (Num N)) (y z : Num N) → NonZero N y → ByRight (Positive N) u y z → ByRight (Positive N) u (N.neg y) (N.neg z)
  odd_by_right u y z h m =
      record {
        source = m.source;
        member = m.member;
        kind = m.kind;
        gives = same_trans N.order (neg_same m.gives) (same_sym N.order (G.odd_right m.source y h));
      }

  odd_by_left : (v : Extent (Num N)) (x z : Num N) → ByLeft (NonZero N) v x z → ByLeft (NonZero N) v (N.neg x) (N.neg z)
  odd_by_left v x z m =
      record {
        source = m.source;
        member = m.member;
        kind = m.kind;
        gives = same_trans N.order (neg_same m.gives) (same_sym N.order (G.odd_left x m.source m.kind));
      }

  respects : {D : Num N → Type 0} {u : Extent (Num N)} {R : Num N → Num N} {z w : Num N}
      → From N D u (λ x t. Same N.order t (R x)) z → Same N.order w z → From N D u (λ x t. Same N.order t (R x)) w
  respects m s = record { source = m.source; member = m.member; kind = m.kind; gives = same_trans N.order s m.gives }

  module _ (f : Extent (Num N) → Extent (Num N) → Extent (Num N))
      (f_spans : (u v : Extent (Num N))
      → SpansAbove N.order N.zero (Results (positive N) (on_positive N G) (λ p. Within N.order u p.0) (λ q. Within N.order v q.0))
      (f (positive_part N u) (positive_part N v))) where
    pub quarter_spans : (u v : Extent (Num N)) → Spans N.order (From N (Positive N) v (ByRight (Positive N) u)) (among_all N (f (positive_part N u) (positive_part N v)))
    unfolding among_all
    quarter_spans u v =
        spans_of_same_set N.order
        (λ z. (
          λ i.
              let r = i.member in
              record {
                source = r.right.0;
                member = r.right_member;
                kind = r.right.1;
                gives =
                    record {
                      source = r.left.0;
                      member = r.left_member;
                      kind = r.left.1;
                      gives = same_trans N.order i.value (r.value.0.fact, r.value.1.fact);
                    };
              },
          λ m.
              let n = m.gives in
              record {
                source = on_positive N G (n.source, n.kind) (m.source, m.kind);
                member = result (positive N) (on_positive N G) {x = (n.source, n.kind)} {y = (m.source, m.kind)} n.member m.member;
                value = n.gives;
              },
        ))
        (extent_back_spans N.order N.zero (f_spans u v))

    half_spans : (u v : Extent (Num N)) → Spans N.order (From N (NonZero N) v (ByRight (Positive N) u)) (both_signs N (λ y. among_all N (f (positive_part N u) (positive_part N y))) v)
    half_spans u =
        both_signs_spans N (ByRight (Positive N) u) (odd_by_right u) (λ y z w. respects) (λ y. among_all N (f (positive_part N u) (positive_part N y)))
        (quarter_spans u)

    nonzero_spans : (u v : Extent (Num N)) → Spans N.order (From N (NonZero N) u (ByLeft (NonZero N) v)) (both_signs N (λ x. both_signs N (λ y. among_all N (f (positive_part N x) (positive_part N y))) v) u)
    nonzero_spans u v =
        both_signs_spans N (ByLeft (NonZero N) v) (λ x z h. odd_by_left v x z) (λ x z w. respects)
        (λ x. both_signs N (λ y. among_all N (f (positive_part N x) (positive_part N y))) v)
        (λ x. spans_of_same_set N.order (λ z. (swap_from N, swap_from N)) (half_spans x v))
        u

    -- all results with a right argument other than 0
    pub by_signs_spans : (u v : Extent (Num N)) → Spans N.order (Results N.order g (Within N.order u) (λ y. Within N.order v y × NonZero N y)) (by_signs N f u v)
    unfolding by_signs
    by_signs_spans u v =
        spans_of_same_set N.order (λ z. (join z, split z))
        (hull_spans N.order (nonzero_spans u v) (zero_if_spans N (zero_part_spans N u) (nonzero_part_spans N v)))
      where
        join : (z : Num N) → Either (From N (NonZero N) u (ByLeft (NonZero N) v)) (ZeroIf N (ZeroIn N u) (From N (NonZero N) v (λ y t. Same N.order t y))) z
            → Results N.order g (Within N.order u) (λ y. Within N.order v y × NonZero N y) z
        join z (in_first m) =
            let n = m.gives in
            record { left = m.source; right = n.source; left_member = m.member; right_member = (n.member, n.kind); value = n.gives }
        join z (in_second m) =
            let n = m.right_member in
            record {
              left = m.left;
              right = n.source;
              left_member = m.left_member.member;
              right_member = (n.member, n.kind);
              value = same_trans N.order m.zero (same_sym N.order (G.zero_left m.left n.source m.left_member.zero n.kind));
            }

        split : (z : Num N) → Results N.order g (Within N.order u) (λ y. Within N.order v y × NonZero N y) z
            → Either (From N (NonZero N) u (ByLeft (NonZero N) v)) (ZeroIf N (ZeroIn N u) (From N (NonZero N) v (λ y t. Same N.order t y))) z
        split z r =
            elim (zero? N r.left) [
              | yes h ↦
                  in_second
                  record {
                    left = r.left;
                    right = r.right;
                    left_member = record { member = r.left_member; zero = h };
                    right_member =
                        record {
                          source = r.right;
                          member = r.right_member.0;
                          kind = r.right_member.1;
                          gives = same_refl N.order r.right;
                        };
                    zero = same_trans N.order r.value (G.zero_left r.left r.right h r.right_member.1);
                  }
              | no h ↦
                  in_first
                  record {
                    source = r.left;
                    member = r.left_member;
                    kind = h;
                    gives = record { source = r.right; member = r.right_member.0; kind = r.right_member.1; gives = r.value };
                  }
            ]
