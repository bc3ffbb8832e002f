-- The signs of the operands: results for positive arguments give the results for all arguments other than 0, once for each argument.
use mathlib.Core.Logic.{◌↔◌}
use Rattle.bound.specs.Order.{Same}
use Rattle.bound.specs.Extent.{Extent, Within, Spans, Either, in_first, in_second}
use Rattle.bound.specs.Above.{Image}
use Rattle.bound.specs.Sign.{Numbers, Num, Zero, Positive, NonZero, negate, both_signs}
use Rattle.bound.proofs.Extent.{spans_of_same_set}
use Rattle.bound.proofs.Hull.{hull_spans}
use Rattle.bound.proofs.Negate.{dual_numbers, negate_spans, neg_within, within_neg}

-- z comes by T from a member of the interval u of the kind D
pub record From (N : Numbers) (D : Num N → Type 0) (u : Extent (Num N)) (T : Num N → Num N → Type 0) (z : Num N) : Type 0 where
  pub source : Num N
  pub member : Within N.order u source
  pub kind : D source
  pub gives : T source z

module _ (N : Numbers) where
  below_zero_turns : {x : Num N} → N.order.◌≼◌ (N.neg x) N.zero → N.order.◌≼◌ N.zero x
  below_zero_turns {x} h = N.order.transitive N.neg_zero.1 (N.order.transitive (N.neg_turns h) (N.neg_neg x).0)

module _ (N : Numbers) where
  neg_nonzero : {x : Num N} → NonZero N x → NonZero N (N.neg x)
  neg_nonzero h s = h (below_zero_turns (dual_numbers N) s.1, below_zero_turns N s.0)

  neg_positive : {x : Num N} → NonZero N x → N.order.◌≼◌ x N.zero → Positive N (N.neg x)
  neg_positive h l = λ k. h (l, below_zero_turns N k)

  pub positive_nonzero : {x : Num N} → Positive N x → NonZero N x
  positive_nonzero h s = h s.0

  pub zero? : (x : Num N) → Dec (Zero N x)
  zero? x =
      elim (N.order.decide x N.zero)
      [ yes h ↦ elim (N.order.decide N.zero x) [ yes k ↦ yes (h, k) | no k ↦ no (λ s. k s.1) ] | no h ↦ no (λ s. h s.0) ]

  -- ---- one doubling
  module _ (T : Num N → Num N → Type 0)
      (odd : (x z : Num N) → NonZero N x → T x z → T (N.neg x) (N.neg z))
      (respects : (x z w : Num N) → T x z → Same N.order w z → T x w)
      (f : Extent (Num N) → Extent (Num N))
      (f_spans : (u : Extent (Num N)) → Spans N.order (From N (Positive N) u T) (f u)) where
    signs : (u : Extent (Num N)) (z : Num N)
        → Either (From N (Positive N) u T) (Image N.order N.neg (From N (Positive N) (negate N u) T)) z ↔ From N (NonZero N) u T z
    signs u z = (join, split)
      where
        join : Either (From N (Positive N) u T) (Image N.order N.neg (From N (Positive N) (negate N u) T)) z → From N (NonZero N) u T z
        join (in_first m) = record { source = m.source; member = m.member; kind = positive_nonzero m.kind; gives = m.gives }
        join (in_second i) =
            let m = i.member in
            record {
              source = N.neg m.source;
              member = within_neg N u m.member;
              kind = neg_nonzero (positive_nonzero m.kind);
              gives = respects (N.neg m.source) (N.neg i.source) z (odd m.source i.source (positive_nonzero m.kind) m.gives) i.value;
            }

        split : From N (NonZero N) u T z → Either (From N (Positive N) u T) (Image N.order N.neg (From N (Positive N) (negate N u) T)) z
        split m =
            elim (N.order.decide m.source N.zero) [
              | yes h ↦
                  in_second
                  record {
                    source = N.neg z;
                    member =
                        record {
                          source = N.neg m.source;
                          member = neg_within N m.member;
                          kind = neg_positive m.kind h;
                          gives = odd m.source z m.kind m.gives;
                        };
                    value = ((N.neg_neg z).1, (N.neg_neg z).0);
                  }
              | no h ↦ in_first record { source = m.source; member = m.member; kind = h; gives = m.gives }
            ]

    pub both_signs_spans : (u : Extent (Num N)) → Spans N.order (From N (NonZero N) u T) (both_signs N f u)
    unfolding both_signs
    both_signs_spans u = spans_of_same_set N.order (signs u) (hull_spans N.order (f_spans u) (negate_spans N (f_spans (negate N u))))
