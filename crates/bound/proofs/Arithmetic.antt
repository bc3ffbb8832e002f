-- The four operations and a·b + c on extents give the exact bounds of all results.
use Rattle.bound.specs.Extent.{Extent, turn, Within, Spans, Either, in_first, in_second}
use Rattle.bound.specs.Operation.{Results, combine}
use Rattle.bound.specs.Sign.{NonZero, positive_part}
use Rattle.bound.specs.Arithmetic.{Arithmetic, Number, order_of, sum, difference, product, quotient, product_plus}
use Rattle.bound.proofs.Order.{same_sym, same_trans}
use Rattle.bound.proofs.Extent.{turned, spans_of_same_set, normal_spans}
use Rattle.bound.proofs.Hull.{hull_spans}
use Rattle.bound.proofs.Operation.{combine_spans, result}
use Rattle.bound.proofs.Above.{SpansAbove, part_above_spans}
use Rattle.bound.proofs.Positive.{rising_spans, falling_spans}
use Rattle.bound.proofs.Sign.{zero?}
use Rattle.bound.proofs.Pieces.{ZeroIn, zero_part_spans, ZeroIf, zero_if_spans}
use Rattle.bound.proofs.Signed.{by_signs_spans}

-- the members of an operand
abbrev pub In : (A : Arithmetic) → Extent (Number A) → Number A → Type 0
In A u = Within (order_of A) u

-- the members other than 0
abbrev pub InNonZero : (A : Arithmetic) → Extent (Number A) → Number A → Type 0
InNonZero A u y = Within (order_of A) u y × NonZero A.numbers y

module _ (A : Arithmetic) where
  part : (x : Extent (Number A)) → SpansAbove (order_of A) A.numbers.zero (λ p. In A x p.0) (positive_part A.numbers x)
  unfolding positive_part
  part = part_above_spans (order_of A) A.numbers.zero

module _ (A : Arithmetic) (u v : Extent (Number A)) where
  pub sum_spans : Spans (order_of A) (Results (order_of A) A.add (In A u) (In A v)) (sum A u v)
  unfolding sum
  sum_spans = combine_spans A.add_increasing (normal_spans (order_of A) u) (normal_spans (order_of A) v)

  pub difference_spans : Spans (order_of A) (Results (order_of A) A.subtract (In A u) (In A v)) (difference A u v)
  unfolding difference
  difference_spans =
      combine_spans A.subtract_increasing (normal_spans (order_of A) u) (turned (order_of A) (normal_spans (order_of A) v))

  pub quotient_spans : Spans (order_of A) (Results (order_of A) A.divide (In A u) (InNonZero A v)) (quotient A u v)
  unfolding quotient
  quotient_spans =
      by_signs_spans A.numbers A.divide_signed (λ x y. combine A.divide x (turn y))
      (λ x y. falling_spans A.numbers A.divide_signed (part A x) (part A y) A.divide_increasing) u v

  pub product_spans : Spans (order_of A) (Results (order_of A) A.multiply (In A u) (In A v)) (product A u v)
  unfolding product
  product_spans =
      spans_of_same_set (order_of A) (λ z. (join z, split z))
      (hull_spans (order_of A)
      (by_signs_spans A.numbers A.multiply_signed (combine A.multiply)
      (λ x y. rising_spans A.numbers A.multiply_signed (part A x) (part A y) A.multiply_increasing) u v)
      (zero_if_spans A.numbers (normal_spans (order_of A) u) (zero_part_spans A.numbers v)))
    where
      join : (z : Number A) → Either (Results (order_of A) A.multiply (In A u) (InNonZero A v)) (ZeroIf A.numbers (In A u) (ZeroIn A.numbers v)) z
          → Results (order_of A) A.multiply (In A u) (In A v) z
      join z (in_first r) =
          record { left = r.left; right = r.right; left_member = r.left_member; right_member = r.right_member.0; value = r.value }
      join z (in_second r) =
          record {
            left = r.left;
            right = r.right;
            left_member = r.left_member;
            right_member = r.right_member.member;
            value = same_trans (order_of A) r.zero (same_sym (order_of A) (A.multiply_zero r.left r.right r.right_member.zero));
          }

      split : (z : Number A) → Results (order_of A) A.multiply (In A u) (In A v) z
          → Either (Results (order_of A) A.multiply (In A u) (InNonZero A v)) (ZeroIf A.numbers (In A u) (ZeroIn A.numbers v)) z
      split z r =
          elim (zero? A.numbers r.right) [
            | yes h ↦
                in_second
                record {
                  left = r.left;
                  right = r.right;
                  left_member = r.left_member;
                  right_member = record { member = r.right_member; zero = h };
                  zero = same_trans (order_of A) r.value (A.multiply_zero r.left r.right h);
                }
            | no h ↦ in_first record { left = r.left; right = r.right; left_member = r.left_member; right_member = (r.right_member, h); value = r.value }
          ]

-- x·y + z of three independent operands
abbrev pub multiply_add : (A : Arithmetic) → Number A × Number A → Number A → Number A
multiply_add A p z = A.add (A.multiply p.0 p.1) z

abbrev pub InBoth : (A : Arithmetic) → Extent (Number A) → Extent (Number A) → Number A × Number A → Type 0
InBoth A u v p = In A u p.0 × In A v p.1

module _ (A : Arithmetic) (u v w : Extent (Number A)) where
  pub product_plus_spans : Spans (order_of A) (Results (order_of A) (multiply_add A) (InBoth A u v) (In A w)) (product_plus A u v w)
  unfolding product_plus
  product_plus_spans =
      spans_of_same_set (order_of A)
      (λ t. (
        λ r.
            let p = r.left_member in
            record {
              left = (p.left, p.right);
              right = r.right;
              left_member = (p.left_member, p.right_member);
              right_member = r.right_member;
              value = same_trans (order_of A) r.value (again p.value.0 r.right, again p.value.1 r.right);
            },
        λ r.
            record {
              left = A.multiply r.left.0 r.left.1;
              right = r.right;
              left_member = result (order_of A) A.multiply r.left_member.0 r.left_member.1;
              right_member = r.right_member;
              value = r.value;
            },
      ))
      (combine_spans A.add_increasing (product_spans A u v) (normal_spans (order_of A) w))
    where
      again : {x y : Number A} → (order_of A).◌≼◌ x y → (z : Number A) → (order_of A).◌≼◌ (A.add x z) (A.add y z)
      again h z = A.add_increasing.increases h ((order_of A).reflexive z)
