-- An answer depends on the members of its operands alone: words with the same members have the same results, these have one extent, and a set has
-- one answer.
use mathlib.Core.Path.{◌≡◌}
use mathlib.Core.Logic.{◌↔◌}
use Prim.Native.Nat.{ℕ, ◌≤◌}
use Rattle.exact.specs.Fraction.{Fraction}
use Rattle.bound.specs.Fractions.{fractions}
use Rattle.bound.proofs.Extent.{spans_of_same_set}
use Rattle.call.specs.Operation.{over}
use Rattle.word.specs.Member.{Member, Inside}
use Rattle.word.specs.Smallest.{Result}
use Rattle.word.specs.Computed.{answer_of}
use Rattle.word.proofs.Computed.{results_span, extent_answer, answer_is}

-- more members give more results
pub results_grow : {n es op a a' b b' : ℕ} → Inside n es a a' → Inside n es b b' → {z : Fraction} → Result n es op a b z → Result n es op a' b' z
results_grow h k r =
    record {
      left = r.left;
      right = r.right;
      left_member = h r.left r.left_member;
      right_member = k r.right r.right_member;
      divisor = r.divisor;
      is_result = r.is_result;
    }

abbrev pub SameMembers : ℕ → ℕ → ℕ → ℕ → Type 0
SameMembers n es a b = (x : Fraction) → Member n es a x ↔ Member n es b x

module _ (n es op : ℕ) (wide : 3 ≤ n) (known : op ≤ over) {a a' b b' : ℕ} (h : SameMembers n es a a') (k : SameMembers n es b b') where
  pub same_results : (z : Fraction) → Result n es op a b z ↔ Result n es op a' b' z
  same_results z = (results_grow (λ x. (h x).0) (λ x. (k x).0), results_grow (λ x. (h x).1) (λ x. (k x).1))

  pub same_members_same_answer : answer_of n es op a b ≡ answer_of n es op a' b'
  unfolding answer_of
  same_members_same_answer = answer_is n es op a' b' wide known (extent_answer n es wide (spans_of_same_set fractions same_results (results_span n es a b op known)))
