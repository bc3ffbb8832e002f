-- The operations on ranges give the smallest range of all exact results, with each end where demand 3 puts it.
use Rattle.bound.specs.Operation.{Results}
use Rattle.bound.specs.Sign.{NonZero}
use Rattle.bound.specs.Arithmetic.{Arithmetic, order_of}
use Rattle.bound.specs.Cell.{Grid}
use Rattle.bound.specs.Range.{Range, OnValues, Member, range_extent, Answers}
use Rattle.bound.specs.RangeArithmetic.{add_ranges, subtract_ranges, multiply_ranges, divide_ranges, multiply_add_ranges}
use Rattle.bound.proofs.Extent.{NoMember}
use Rattle.bound.proofs.Arithmetic.{multiply_add, InBoth, sum_spans, difference_spans, product_spans, quotient_spans, product_plus_spans}
use Rattle.bound.proofs.Range.{answer_is_right}

module _ (A : Arithmetic) (G : Grid (order_of A)) (z : Range) (there : OnValues G.count z) (none : NoMember (Member G z)) (a b : Range) where
  pub add_ranges_right : Answers G (Results (order_of A) A.add (Member G a) (Member G b)) (add_ranges A G z a b)
  add_ranges_right = answer_is_right G z there none (sum_spans A (range_extent G a) (range_extent G b))

  pub subtract_ranges_right : Answers G (Results (order_of A) A.subtract (Member G a) (Member G b)) (subtract_ranges A G z a b)
  subtract_ranges_right = answer_is_right G z there none (difference_spans A (range_extent G a) (range_extent G b))

  pub multiply_ranges_right : Answers G (Results (order_of A) A.multiply (Member G a) (Member G b)) (multiply_ranges A G z a b)
  multiply_ranges_right = answer_is_right G z there none (product_spans A (range_extent G a) (range_extent G b))

  pub divide_ranges_right : Answers G (Results (order_of A) A.divide (Member G a) (λ y. Member G b y × NonZero A.numbers y)) (divide_ranges A G z a b)
  divide_ranges_right = answer_is_right G z there none (quotient_spans A (range_extent G a) (range_extent G b))

  pub multiply_add_ranges_right : (c : Range)
      → Answers G (Results (order_of A) (multiply_add A) (InBoth A (range_extent G a) (range_extent G b)) (Member G c)) (multiply_add_ranges A G z a b c)
  multiply_add_ranges_right c = answer_is_right G z there none (product_plus_spans A (range_extent G a) (range_extent G b) (range_extent G c))
