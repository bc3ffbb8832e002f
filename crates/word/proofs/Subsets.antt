-- What a range stands for is the set of its members: chosen members give a member of the answer, fewer members give a smaller answer, and operands
-- with the same members have the same answers.
use mathlib.Core.Path.{◌≡◌}
use mathlib.Core.Logic.{◌↔◌}
use Prim.Native.Nat.{ℕ}
use lib.IntN.{pos}
use Rattle.exact.specs.Fraction.{Fraction, ◌≈◌, negᶠ, whole}
use Rattle.exact.proofs.Order.{≈_refl}
use Rattle.bound.specs.Order.{Order, dual}
use Rattle.bound.specs.Bound.{Bound, GreatestBelow}
use Rattle.bound.specs.End.{Stands, closed_on_bound, open_on_bound, open_beyond_bound, unbounded_beyond, unbounded}
use Rattle.bound.specs.Fractions.{fractions}
use Rattle.call.specs.Operation.{over}
use Rattle.posit.specs.Arithmetic.{exact_result}
use Rattle.word.specs.Member.{Member, Inside}
use Rattle.word.specs.Smallest.{IsAnswer, Result}
use Rattle.word.specs.Calls.{Negative}

-- ---- members of the operands give a member of the answer
module _ (n es : ℕ) {a : ℕ} where
  pub negative_is_member : {w : ℕ} → IsAnswer n es (Negative n es a) w → (x : Fraction) → Member n es a x → Member n es w (negᶠ x)
  negative_is_member h x m = h.smallest.holds (negᶠ x) (record { of = x; member = m; is_negative = ≈_refl (negᶠ x) })

module _ (n es op : ℕ) {a b w : ℕ} (h : IsAnswer n es (Result n es op a b) w) where
  pub result_is_member : (x y : Fraction) → Member n es a x → Member n es b y → (op ≡ over → ¬ (y ≈ whole (pos 0))) → Member n es w (exact_result op x y)
  result_is_member x y i j d =
      h.smallest.holds (exact_result op x y)
      (record { left = x; right = y; left_member = i; right_member = j; divisor = d; is_result = ≈_refl (exact_result op x y) })

-- ---- two sets with the same members
module _ (O : Order) {S T : O.Number → Type 0} (same : (x : O.Number) → S x ↔ T x) where
  greatest_moves : {c : O.Number} → GreatestBelow O S c → GreatestBelow O T c
  greatest_moves g = record { none_below = λ m. g.none_below ((same _).1 m); greatest = λ c h. g.greatest c (λ x m. h x ((same x).0 m)) }

  stands_moves : {n : ℕ} {v : ℕ → O.Number} {b : Bound ℕ} → Stands O n v S b → Stands O n v T b
  stands_moves (closed_on_bound g x m e) = closed_on_bound (greatest_moves g) x ((same x).0 m) e
  stands_moves (open_on_bound g h) = open_on_bound (greatest_moves g) (λ x m. h x ((same x).1 m))
  stands_moves (open_beyond_bound c g h l f k) = open_beyond_bound c (greatest_moves g) h l f (λ x m. k x ((same x).1 m))
  stands_moves (unbounded_beyond c g h) = unbounded_beyond c (greatest_moves g) h
  stands_moves (unbounded h) = unbounded (λ c k. h c (λ x m. k x ((same x).0 m)))

module _ (n es : ℕ) {S T : Fraction → Type 0} (same : (x : Fraction) → S x ↔ T x) where
  pub answer_of_same_set : {w : ℕ} → IsAnswer n es S w → IsAnswer n es T w
  answer_of_same_set h =
      record {
        smallest =
            record {
              real = h.smallest.real;
              holds = λ x m. h.smallest.holds x ((same x).1 m);
              inside = λ v r k. h.smallest.inside v r (λ x m. k x ((same x).0 m));
            };
        empty_word_says = λ k. h.empty_word_says (λ x m. k x ((same x).0 m));
        start_stands = λ x m. stands_moves fractions same (h.start_stands x ((same x).1 m));
        end_stands = λ x m. stands_moves (dual fractions) same (h.end_stands x ((same x).1 m));
      }

-- ---- fewer results, a smaller answer
pub answer_grows : (n es : ℕ) {S T : Fraction → Type 0} {w v : ℕ} → ((x : Fraction) → S x → T x) → IsAnswer n es S w → IsAnswer n es T v → Inside n es w v
answer_grows n es {v = v} sub h k = h.smallest.inside v k.smallest.real (λ x m. k.smallest.holds x (sub x m))

-- ---- results depend on the members alone
pub result_grows : (n es op : ℕ) {a b a' b' : ℕ} → Inside n es a a' → Inside n es b b' → (z : Fraction) → Result n es op a b z → Result n es op a' b' z
result_grows n es op f g z m =
    record {
      left = m.left;
      right = m.right;
      left_member = f m.left m.left_member;
      right_member = g m.right m.right_member;
      divisor = m.divisor;
      is_result = m.is_result;
    }

module _ (n es op : ℕ) {a b a' b' : ℕ} where
  pub operation_grows : {w v : ℕ} → Inside n es a a' → Inside n es b b' → IsAnswer n es (Result n es op a b) w → IsAnswer n es (Result n es op a' b') v → Inside n es w v
  operation_grows f g h k = answer_grows n es (result_grows n es op f g) h k

  pub answer_by_members : {w : ℕ} → ((x : Fraction) → Member n es a x ↔ Member n es a' x) → ((x : Fraction) → Member n es b x ↔ Member n es b' x)
      → IsAnswer n es (Result n es op a b) w → IsAnswer n es (Result n es op a' b') w
  answer_by_members f g h =
      answer_of_same_set n es
      (λ z. (
        result_grows n es op (λ x m. (f x).0 m) (λ x m. (g x).0 m) z,
        result_grows n es op (λ x m. (f x).1 m) (λ x m. (g x).1 m) z,
      ))
      h
