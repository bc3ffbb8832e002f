-- Polynomials with whole coefficients in nested form: a number, or a + x·q, where x is the first variable and a has only the later
-- ones. A zero q is dropped where a is a number, so a polynomial that is 0 is the number 0. Each operation keeps the value.
use mathlib.Core.Path.{◌≡◌, refl, sym, ap, ap₂, ◌∙◌}
use mathlib.Core.Bool.{Bool, true, false}
use mathlib.Core.List.{List, [], ◌∷◌}
use Prim.Native.Nat.{ℕ, zero, suc}
use lib.Dec.{T}
use lib.IntN.{ℤ, pos, negsuc, neg_ℤ, ◌+ℤ◌, ◌*ℤ◌, +ℤ_idl, +ℤ_idr, *ℤ-zero, +ℤ_assoc, +ℤ_comm, *ℤ_comm, neg_ℤ-+ℤ}
use Rattle.exact.proofs.Whole.{*ℤ_assoc, *ℤ_+ℤ, +ℤ_*ℤ, *ℤ_neg_ℤ, *ℤ_idr, +ℤ_left_comm, *ℤ_left_comm}

-- ---- the values of the variables
-- a variable beyond the list is 1
abbrev pub first : List ℤ → ℤ
first [] = pos 1
first (x ∷ ρ) = x

abbrev pub later : List ℤ → List ℤ
later [] = []
later (x ∷ ρ) = ρ

abbrev pub at : List ℤ → ℕ → ℤ
at ρ zero = first ρ
at ρ (suc i) = at (later ρ) i

-- ---- polynomials
pub data Poly : Type 0 where
  number : ℤ → Poly
  nest : Poly → Poly → Poly

abbrev pub value : Poly → List ℤ → ℤ
value (number c) ρ = c
value (nest a q) ρ = value a (later ρ) +ℤ first ρ *ℤ value q ρ

-- a + x·q, without a zero q where a is a number
abbrev pub join : Poly → Poly → Poly
join (number c) (number (pos zero)) = number c
join (number c) (number (pos (suc n))) = nest (number c) (number (pos (suc n)))
join (number c) (number (negsuc n)) = nest (number c) (number (negsuc n))
join (number c) (nest b r) = nest (number c) (nest b r)
join (nest a q) r = nest (nest a q) r

abbrev pub sum : Poly → Poly → Poly
sum (number c) (number d) = number (c +ℤ d)
sum (number c) (nest b r) = nest (sum (number c) b) r
sum (nest a q) (number d) = nest (sum a (number d)) q
sum (nest a q) (nest b r) = join (sum a b) (sum q r)

abbrev pub minus : Poly → Poly
minus (number c) = number (neg_ℤ c)
minus (nest a q) = nest (minus a) (minus q)

abbrev pub scale : ℤ → Poly → Poly
scale c (number d) = number (c *ℤ d)
scale c (nest a q) = join (scale c a) (scale c q)

-- times a polynomial of the later variables, which `f` multiplies by
abbrev pub spread : (Poly → Poly) → Poly → Poly
spread f (number d) = join (f (number d)) (number (pos 0))
spread f (nest b r) = join (f b) (spread f r)

abbrev pub product : Poly → Poly → Poly
product (number c) p = scale c p
product (nest a q) p = sum (spread (λ r. product a r) p) (join (number (pos 0)) (product q p))

abbrev pub variable : ℕ → Poly
variable zero = nest (number (pos 0)) (number (pos 1))
variable (suc i) = nest (variable i) (number (pos 0))

abbrev pub vanishes : Poly → Bool
vanishes (number (pos zero)) = true
vanishes (number (pos (suc n))) = false
vanishes (number (negsuc n)) = false
vanishes (nest a q) = false

-- ---- each step keeps the value
no_tail : (a x : ℤ) → a +ℤ x *ℤ pos 0 ≡ a
no_tail a x = simp (*ℤ-zero, +ℤ_idr)

ruleset sorted = (*ℤ_+ℤ, +ℤ_*ℤ, +ℤ_assoc, +ℤ_comm, +ℤ_left_comm, *ℤ_assoc, *ℤ_comm, *ℤ_left_comm)

join_value : (a q : Poly) (ρ : List ℤ) → value (join a q) ρ ≡ value (nest a q) ρ
join_value (number c) (number (pos zero)) ρ = sym (no_tail c (first ρ))
join_value (number c) (number (pos (suc n))) ρ = refl
join_value (number c) (number (negsuc n)) ρ = refl
join_value (number c) (nest b r) ρ = refl
join_value (nest a q) r ρ = refl

nested : (ρ : List ℤ) {a b q r : ℤ} → a ≡ b → q ≡ r → a +ℤ first ρ *ℤ q ≡ b +ℤ first ρ *ℤ r
nested ρ h k = ap₂ (λ (u v : ℤ). u +ℤ first ρ *ℤ v) h k

sum_step : (a b x q r : ℤ) → (a +ℤ b) +ℤ x *ℤ (q +ℤ r) ≡ (a +ℤ x *ℤ q) +ℤ (b +ℤ x *ℤ r)
sum_step a b x q r = simp sorted

sum_swap : (a d t : ℤ) → (a +ℤ d) +ℤ t ≡ (a +ℤ t) +ℤ d
sum_swap a d t = simp sorted

pub sum_value : (p q : Poly) (ρ : List ℤ) → value (sum p q) ρ ≡ value p ρ +ℤ value q ρ
sum_value (number c) (number d) ρ = refl
sum_value (number c) (nest b r) ρ = rw (sum_value (number c) b (later ρ)) (simp +ℤ_assoc)
sum_value (nest a q) (number d) ρ =
    ap (λ (u : ℤ). u +ℤ first ρ *ℤ value q ρ) (sum_value a (number d) (later ρ))
    ∙ sum_swap (value a (later ρ)) d (first ρ *ℤ value q ρ)
sum_value (nest a q) (nest b r) ρ =
    join_value (sum a b) (sum q r) ρ
    ∙ nested ρ (sum_value a b (later ρ)) (sum_value q r ρ)
    ∙ sum_step (value a (later ρ)) (value b (later ρ)) (first ρ) (value q ρ) (value r ρ)

pub minus_value : (p : Poly) (ρ : List ℤ) → value (minus p) ρ ≡ neg_ℤ (value p ρ)
minus_value (number c) ρ = refl
minus_value (nest a q) ρ = nested ρ (minus_value a (later ρ)) (minus_value q ρ) ∙ simp (*ℤ_neg_ℤ, neg_ℤ-+ℤ)

scale_value : (c : ℤ) (p : Poly) (ρ : List ℤ) → value (scale c p) ρ ≡ c *ℤ value p ρ
scale_value c (number d) ρ = refl
scale_value c (nest a q) ρ = join_value (scale c a) (scale c q) ρ ∙ nested ρ (scale_value c a (later ρ)) (scale_value c q ρ) ∙ simp sorted

spread_value : (f : Poly → Poly) (p : Poly) (ρ : List ℤ) (a : ℤ) → ((q : Poly) → value (f q) (later ρ) ≡ a *ℤ value q (later ρ)) → value (spread f p) ρ ≡ a *ℤ value p ρ
spread_value f (number d) ρ a h = join_value (f (number d)) (number (pos 0)) ρ ∙ no_tail (value (f (number d)) (later ρ)) (first ρ) ∙ h (number d)
spread_value f (nest b r) ρ a h = join_value (f b) (spread f r) ρ ∙ nested ρ (h b) (spread_value f r ρ a h) ∙ simp sorted

product_step : (a x q p : ℤ) → a *ℤ p +ℤ (pos 0 +ℤ x *ℤ (q *ℤ p)) ≡ (a +ℤ x *ℤ q) *ℤ p
product_step a x q p = simp (+ℤ_idl, sorted)

pub product_value : (p q : Poly) (ρ : List ℤ) → value (product p q) ρ ≡ value p ρ *ℤ value q ρ
product_value (number c) p ρ = scale_value c p ρ
product_value (nest a q) p ρ =
    sum_value (spread (λ r. product a r) p) (join (number (pos 0)) (product q p)) ρ
    ∙ ap₂ (λ (u v : ℤ). u +ℤ v)
    (spread_value (λ r. product a r) p ρ (value a (later ρ)) (λ r. product_value a r (later ρ)))
    (join_value (number (pos 0)) (product q p) ρ ∙ nested ρ {a = pos 0} refl (product_value q p ρ))
    ∙ product_step (value a (later ρ)) (first ρ) (value q ρ) (value p ρ)

pub variable_value : (i : ℕ) (ρ : List ℤ) → value (variable i) ρ ≡ at ρ i
variable_value zero ρ = +ℤ_idl (first ρ *ℤ pos 1) ∙ *ℤ_idr (first ρ)
variable_value (suc i) ρ = no_tail (value (variable i) (later ρ)) (first ρ) ∙ variable_value i (later ρ)

pub vanishing : (p : Poly) (ρ : List ℤ) → T (vanishes p) → value p ρ ≡ pos 0
vanishing (number (pos zero)) ρ t = refl
vanishing (number (pos (suc n))) ρ t = absurd t
vanishing (number (negsuc n)) ρ t = absurd t
vanishing (nest a q) ρ t = absurd t
