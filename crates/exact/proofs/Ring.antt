-- Ring identities over the whole numbers, proved by computing: two expressions are equal where the polynomial (`Polynomial`) of their
-- difference is 0, `solved _ _ _ tt`. `simp quote` writes the expressions, so a use names only the goal's variables, see the examples at the end.
use mathlib.Core.Path.{◌≡◌, refl, sym, ap, ap₂, ◌∙◌}
use mathlib.Core.List.{List, [], ◌∷◌}
use Prim.Native.Nat.{ℕ, suc, ◌+◌, ◌*◌, ◌^◌}
use lib.Dec.{T}
use lib.IntN.{ℤ, pos, negsuc, neg_ℤ, ◌+ℤ◌, ◌-ℤ◌, ◌*ℤ◌}
use Rattle.exact.proofs.Whole.{same_of_difference}
use Rattle.exact.proofs.Polynomial.{at, Poly, number, sum, minus, product, variable, value, vanishes, vanishing, sum_value, minus_value, product_value, variable_value}

-- ---- expressions and what they mean
infixl 60 ◌:+◌
infixl 70 ◌:*◌
pub data Expr : Type 0 where
  var con : ℕ → Expr
  ◌:+◌ ◌:*◌ : Expr → Expr → Expr
  opposite : Expr → Expr

unfoldable pub means : List ℤ → Expr → ℤ
means ρ (var i) = at ρ i
means ρ (con n) = pos n
means ρ (a :+ b) = means ρ a +ℤ means ρ b
means ρ (a :* b) = means ρ a *ℤ means ρ b
means ρ (opposite a) = neg_ℤ (means ρ a)

-- ---- the solver
abbrev normal : Expr → Poly
normal (var i) = variable i
normal (con n) = number (pos n)
normal (a :+ b) = sum (normal a) (normal b)
normal (a :* b) = product (normal a) (normal b)
normal (opposite a) = minus (normal a)

normal_value : (e : Expr) (ρ : List ℤ) → value (normal e) ρ ≡ means ρ e
unfolding means
normal_value (var i) ρ = variable_value i ρ
normal_value (con n) ρ = refl
normal_value (a :+ b) ρ = sum_value (normal a) (normal b) ρ ∙ ap₂ (λ (u v : ℤ). u +ℤ v) (normal_value a ρ) (normal_value b ρ)
normal_value (a :* b) ρ = product_value (normal a) (normal b) ρ ∙ ap₂ (λ (u v : ℤ). u *ℤ v) (normal_value a ρ) (normal_value b ρ)
normal_value (opposite a) ρ = minus_value (normal a) ρ ∙ ap neg_ℤ (normal_value a ρ)

pub solved : (ρ : List ℤ) (a b : Expr) → T (vanishes (normal (a :+ opposite b))) → means ρ a ≡ means ρ b
unfolding means
solved ρ a b t = same_of_difference (means ρ a) (means ρ b) (sym (normal_value (a :+ opposite b) ρ) ∙ vanishing (normal (a :+ opposite b)) ρ t)

-- ---- quoting: `simp` turns a number into what an expression means
pub quote_sum : (ρ : List ℤ) (a b : Expr) → means ρ a +ℤ means ρ b ≡ means ρ (a :+ b)
unfolding means
quote_sum ρ a b = refl

pub quote_product : (ρ : List ℤ) (a b : Expr) → means ρ a *ℤ means ρ b ≡ means ρ (a :* b)
unfolding means
quote_product ρ a b = refl

pub quote_minus : (ρ : List ℤ) (a : Expr) → neg_ℤ (means ρ a) ≡ means ρ (opposite a)
unfolding means
quote_minus ρ a = refl

-- An operation with `pos` or `negsuc` on its left has begun to compute; it is put back as one that does not, and then quoted.
pub plus : ℤ → ℤ → ℤ
plus a b = a +ℤ b

pub times : ℤ → ℤ → ℤ
times a b = a *ℤ b

pub negated : ℤ → ℤ
negated a = neg_ℤ a

pub pos_plus : (ρ : List ℤ) (n : ℕ) (a : Expr) → pos n +ℤ means ρ a ≡ plus (pos n) (means ρ a)
unfolding plus
pos_plus ρ n a = refl

pub negsuc_plus : (ρ : List ℤ) (n : ℕ) (a : Expr) → negsuc n +ℤ means ρ a ≡ plus (negsuc n) (means ρ a)
unfolding plus
negsuc_plus ρ n a = refl

pub pos_times : (ρ : List ℤ) (n : ℕ) (a : Expr) → pos n *ℤ means ρ a ≡ times (pos n) (means ρ a)
unfolding times
pos_times ρ n a = refl

pub negsuc_times : (ρ : List ℤ) (n : ℕ) (a : Expr) → negsuc n *ℤ means ρ a ≡ times (negsuc n) (means ρ a)
unfolding times
negsuc_times ρ n a = refl

pub negated_pos : (n : ℕ) → neg_ℤ (pos n) ≡ negated (pos n)
unfolding negated
negated_pos n = refl

pub quote_negated : (ρ : List ℤ) (a : Expr) → negated (means ρ a) ≡ means ρ (opposite a)
unfolding means negated
quote_negated ρ a = refl

pub quote_plus : (ρ : List ℤ) (a b : Expr) → plus (means ρ a) (means ρ b) ≡ means ρ (a :+ b)
unfolding means plus
quote_plus ρ a b = refl

pub quote_times : (ρ : List ℤ) (a b : Expr) → times (means ρ a) (means ρ b) ≡ means ρ (a :* b)
unfolding means times
quote_times ρ a b = refl

pub ruleset quote = (quote_sum, quote_product, quote_minus, pos_plus, negsuc_plus, pos_times, negsuc_times, negated_pos, quote_plus, quote_times, quote_negated)

-- sums and products of natural numbers under `pos`
pub pos_sum : (m n : ℕ) → pos (m + n) ≡ plus (pos m) (pos n)
unfolding plus
pos_sum m n = refl

pub pos_product : (m n : ℕ) → pos (m * n) ≡ times (pos m) (pos n)
unfolding times
pos_product m n = refl

pub ruleset naturals = (pos_sum, pos_product)

pub numeral : (σ : List ℤ) (n : ℕ) → pos n ≡ means σ (con n)
unfolding means
numeral σ n = refl

pub negative : (σ : List ℤ) (n : ℕ) → negsuc n ≡ means σ (opposite (con (suc n)))
unfolding means
negative σ n = refl

-- the numbers of ρ as the variables of an expression, whose values σ the goal then does not show
pub atoms : (ρ : List ℤ) {G : Type 0} → ((σ : List ℤ) → ((i : ℕ) → at ρ i ≡ means σ (var i)) → G) → G
unfolding means
atoms ρ f = f ρ (λ i. refl)

-- A use: the variables in a list, then `p` with the place of each. What is listed first is taken first. `numeral σ` (`negative σ`) goes
-- last where numerals stand in the goal, `naturals` before it where sums and products of natural numbers stand under `pos`.
example : (x y : ℤ) → (x +ℤ y) *ℤ (x -ℤ pos 2 *ℤ y) ≡ x *ℤ x -ℤ y *ℤ x -ℤ pos 2 *ℤ (y *ℤ y)
example x y = atoms (x ∷ y ∷ []) λ σ p. simp (quote, p 0, p 1, numeral σ) (solved _ _ _ tt)

example_pos : (x : ℤ) (i j : ℕ) → pos (2 ^ i * (2 ^ j + 3)) *ℤ x ≡ pos (2 ^ i) *ℤ (pos (2 ^ j) *ℤ x +ℤ pos 3 *ℤ x)
example_pos x i j = atoms (x ∷ pos (2 ^ i) ∷ pos (2 ^ j) ∷ []) λ σ p. simp (quote, p 0, p 1, p 2, naturals, numeral σ) (solved _ _ _ tt)
