-- The choice between the neighbours, in words and as computed: it is right because each of the five cases fixes the tests that the computation makes.
use Rattle.std.proofs.Common.{◌≡◌, ℕ, zero, suc, ◌+◌, ◌%◌, ◌<◌, ◌≤◌, Bool, true, false, not, T, eqb, ◌≢◌, sym, refl, ◌∙◌, arith, eqb→eq, T_not}
use lib.Dec.{eqb_refl, not_T}
use Rattle.exact.specs.Fraction.{Fraction, ◌<ᶠ◌, ◌≤ᶠ◌, ◌≈◌, ltᶠ}
use Rattle.posit.specs.Format.{max_pos, min_pos}
use Rattle.posit.specs.Rounding.{middle}
use Rattle.posit.specs.Nearest.{chosen}
use Rattle.exact.proofs.Order.{≤ᶠ_of_<ᶠ, ≤ᶠ_of_≈, ≈_sym, ≤ᶠ_antisymm, ≈_trans, ≈_<ᶠ, <ᶠ_≈, ltᶠ_yes, ltᶠ_no, ltᶠ_of_<ᶠ, not_ltᶠ}
use Rattle.posit.proofs.Patterns.{nar_large}

-- p is what x is rounded to, where u is the largest pattern whose value is at most x
pub data Choice (n es : ℕ) (x : Fraction) (u p : ℕ) : Type 0 where
  smallest : u ≡ 0 → p ≡ min_pos → Choice n es x u p
  largest : u ≡ max_pos n → p ≡ u → Choice n es x u p
  lower : 0 < u → u < max_pos n → x <ᶠ middle n es u → p ≡ u → Choice n es x u p
  upper : 0 < u → u < max_pos n → middle n es u <ᶠ x → p ≡ u + 1 → Choice n es x u p
  even : 0 < u → u < max_pos n → x ≈ middle n es u → p ≡ u + u % 2 → Choice n es x u p

-- ---- the answer by the three tests: u is the last pattern, x is below the middle, x is above the middle
abbrev is_last : ℕ → ℕ → Bool
is_last n u = eqb u (max_pos n)

abbrev is_below : ℕ → ℕ → Fraction → ℕ → Bool
is_below n es x u = ltᶠ x (middle n es u)

abbrev is_over : ℕ → ℕ → Fraction → ℕ → Bool
is_over n es x u = ltᶠ (middle n es u) x

abbrev by_tests : Bool → Bool → Bool → ℕ → ℕ
by_tests last below over u = elim last [ true ↦ u | false ↦ elim below [ true ↦ u | false ↦ elim over [ true ↦ u + 1 | false ↦ u + u % 2 ] ] ]

at_last : (b c d : Bool) (u : ℕ) → T b → by_tests b c d u ≡ u
at_last true c d u t = refl
at_last false c d u t = absurd t

at_lower : (b c d : Bool) (u : ℕ) → T c → by_tests b c d u ≡ u
at_lower true true d u t = refl
at_lower false true d u t = refl
at_lower true false d u t = absurd t
at_lower false false d u t = absurd t

at_upper : (b c d : Bool) (u : ℕ) → T (not b) → T (not c) → T d → by_tests b c d u ≡ u + 1
at_upper true c d u r s t = absurd r
at_upper false true d u r s t = absurd s
at_upper false false true u r s t = refl
at_upper false false false u r s t = absurd t

at_even : (b c d : Bool) (u : ℕ) → T (not b) → T (not c) → T (not d) → by_tests b c d u ≡ u + u % 2
at_even true c d u r s t = absurd r
at_even false true d u r s t = absurd s
at_even false false true u r s t = absurd t
at_even false false false u r s t = refl

-- ---- facts as tests
test_of_other : {u k : ℕ} → u < k → T (not (eqb u k))
test_of_other {u} {k} h = not_T (eqb u k) (λ t. omega (arith, eqb→eq u k t))

test_of_same : {u k : ℕ} → u ≡ k → T (eqb u k)
test_of_same {u} {k} e = rw e (eqb_refl k)

other_of_test : (u k : ℕ) → T (not (eqb u k)) → u ≢ k
other_of_test u k t e = T_not (eqb u k) t (test_of_same e)

module _ (n es : ℕ) (wide : 3 ≤ n) (x : Fraction) where
  -- the computation makes a choice
  pub choice_made : (u : ℕ) → u ≤ max_pos n → Choice n es x u (chosen n es x u)
  unfolding chosen
  choice_made zero h = smallest refl refl
  choice_made (suc u) h =
      by (is_last n (suc u)) (is_below n es x (suc u)) (is_over n es x (suc u))
      (λ t. eqb→eq (suc u) (max_pos n) t) (λ t. omega (arith, other_of_test (suc u) (max_pos n) t))
      (λ t. ltᶠ_yes t) (λ t. ltᶠ_no t)
      (λ t. ltᶠ_yes t) (λ t. ltᶠ_no t)
    where
      by : (b c d : Bool) → (T b → suc u ≡ max_pos n) → (T (not b) → suc u < max_pos n)
          → (T c → x <ᶠ middle n es (suc u)) → (T (not c) → middle n es (suc u) ≤ᶠ x)
          → (T d → middle n es (suc u) <ᶠ x) → (T (not d) → x ≤ᶠ middle n es (suc u))
          → Choice n es x (suc u) (by_tests b c d (suc u))
      by true c d e f g i j k = largest (e tt) refl
      by false true d e f g i j k = lower (omega arith) (f tt) (g tt) refl
      by false false true e f g i j k = upper (omega arith) (f tt) (j tt) refl
      by false false false e f g i j k = even (omega arith) (f tt) (≤ᶠ_antisymm (k tt) (i tt)) refl

  -- and no other choice can be made
  pub choice_computed : (u : ℕ) {p : ℕ} → Choice n es x u p → p ≡ chosen n es x u
  unfolding chosen
  choice_computed zero (smallest e r) = r
  choice_computed zero (largest e r) = absurd (omega (arith, nar_large n wide))
  choice_computed zero (lower h k c r) = absurd (omega arith)
  choice_computed zero (upper h k c r) = absurd (omega arith)
  choice_computed zero (even h k c r) = absurd (omega arith)
  choice_computed (suc u) (smallest e r) = absurd (omega arith)
  choice_computed (suc u) (largest e r) = r ∙ sym (at_last (is_last n (suc u)) (is_below n es x (suc u)) (is_over n es x (suc u)) (suc u) (test_of_same e))
  choice_computed (suc u) (lower h k c r) = r ∙ sym (at_lower (is_last n (suc u)) (is_below n es x (suc u)) (is_over n es x (suc u)) (suc u) (ltᶠ_of_<ᶠ c))
  choice_computed (suc u) (upper h k c r) =
      r
      ∙ sym
      (at_upper (is_last n (suc u)) (is_below n es x (suc u)) (is_over n es x (suc u)) (suc u) (test_of_other k)
      (not_ltᶠ (≤ᶠ_of_<ᶠ c)) (ltᶠ_of_<ᶠ c))
  choice_computed (suc u) (even h k c r) =
      r
      ∙ sym
      (at_even (is_last n (suc u)) (is_below n es x (suc u)) (is_over n es x (suc u)) (suc u) (test_of_other k)
      (not_ltᶠ (≤ᶠ_of_≈ (≈_sym c))) (not_ltᶠ (≤ᶠ_of_≈ c)))

  -- what is chosen lies from minPos to maxPos, at the floor or one above
  pub choice_range : {u p : ℕ} → u ≤ max_pos n → Choice n es x u p → (0 < p) × (p ≤ max_pos n)
  choice_range l (smallest e r) = omega (arith, nar_large n wide)
  choice_range l (largest e r) = omega (arith, nar_large n wide)
  choice_range l (lower h k c r) = omega arith
  choice_range l (upper h k c r) = omega arith
  choice_range l (even h k c r) = omega arith

  pub choice_near : {u p : ℕ} → Choice n es x u p → (u ≤ p) × (p ≤ u + 1)
  choice_near (smallest e r) = omega arith
  choice_near (largest e r) = omega arith
  choice_near (lower h k c r) = omega arith
  choice_near (upper h k c r) = omega arith
  choice_near (even h k c r) = omega arith

  pub one_choice : {u p q : ℕ} → Choice n es x u p → Choice n es x u q → p ≡ q
  one_choice {u} c d = choice_computed u c ∙ sym (choice_computed u d)

-- equal numbers have the same choices
pub choice_respects : {n es : ℕ} {x y : Fraction} {u p : ℕ} → x ≈ y → Choice n es x u p → Choice n es y u p
choice_respects q (smallest e r) = smallest e r
choice_respects q (largest e r) = largest e r
choice_respects q (lower h k c r) = lower h k (≈_<ᶠ (≈_sym q) c) r
choice_respects q (upper h k c r) = upper h k (<ᶠ_≈ c q) r
choice_respects q (even h k c r) = even h k (≈_trans (≈_sym q) c) r
