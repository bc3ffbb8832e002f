-- The ring solver on numerators and denominators: a use names the fractions of the goal, and their two numbers are the variables, as in the
-- example at the end. Where `negᶠ` stands in the goal, name the numbers instead: `atoms (x.num ∷ x.den ∷ [])` of `Ring`.
use mathlib.Core.Path.{◌≡◌, refl, sym}
use mathlib.Core.List.{List, [], ◌∷◌}
use Prim.Native.Nat.{ℕ, zero, suc}
use lib.IntN.{ℤ, pos, ◌+ℤ◌, ◌*ℤ◌}
use Rattle.exact.specs.Fraction.{Fraction, whole}
use Rattle.exact.proofs.Polynomial.{at}
use Rattle.exact.proofs.Ring.{var, means, quote, solved}

abbrev pub listed : List Fraction → ℕ → Fraction
listed [] i = whole (pos 1)
listed (x ∷ φ) zero = x
listed (x ∷ φ) (suc i) = listed φ i

pub item : List Fraction → ℕ → Fraction
item φ i = listed φ i

-- the variables: numerators have even places, denominators odd ones
pub terms : List Fraction → List ℤ
terms [] = []
terms (x ∷ φ) = x.num ∷ x.den ∷ terms φ

abbrev pub double : ℕ → ℕ
double zero = zero
double (suc i) = suc (suc (double i))

beyond : (i : ℕ) → at [] i ≡ pos 1
beyond zero = refl
beyond (suc i) = beyond i

pub quote_num : (φ : List Fraction) (i : ℕ) → (item φ i).num ≡ means (terms φ) (var (double i))
unfolding item terms means
quote_num [] i = sym (beyond (double i))
quote_num (x ∷ φ) zero = refl
quote_num (x ∷ φ) (suc i) = quote_num φ i

pub quote_den : (φ : List Fraction) (i : ℕ) → (item φ i).den ≡ means (terms φ) (var (suc (double i)))
unfolding item terms means
quote_den [] i = sym (beyond (double i))
quote_den (x ∷ φ) zero = refl
quote_den (x ∷ φ) (suc i) = quote_den φ i

pub ruleset quoteᶠ = (quote_num, quote_den, quote)

-- the fractions of a list as the solver's
pub fractions : (ξ : List Fraction) {G : Type 0} → ((φ : List Fraction) → ((i : ℕ) → listed ξ i ≡ item φ i) → G) → G
unfolding item
fractions ξ f = f ξ (λ i. refl)

example : (x y : Fraction) → x.num *ℤ (y.den +ℤ x.den) ≡ x.den *ℤ x.num +ℤ y.den *ℤ x.num
example x y = fractions (x ∷ y ∷ []) λ φ p. simp (quoteᶠ, p 0, p 1) (solved _ _ _ tt)
