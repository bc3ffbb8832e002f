-- The rounding from a floor, test by test: which of its five answers is given is settled by the half, the last bit and whether it is exact.
use Rattle.std.proofs.Common.{◌≡◌, ℕ, zero, suc, ◌+◌, ◌/◌, ◌%◌, ◌<◌, Bool, true, false, ◌≢◌, sym, refl, ◌∙◌, lt_irrefl, eq-eqb, ne_eqb}
use Rattle.posit.specs.Format.{max_pos}
use Rattle.posit.specs.Parts.{rounded_of}

before : {u : ℕ} → 0 < u → (v : ℕ) × (u ≡ suc v)
before {u = zero} h = absurd (lt_irrefl 0 h)
before {u = suc v} h = (v, refl)

module _ (n L : ℕ) (exact : Bool) where
  pub to_min_pos : L / 2 ≡ 0 → rounded_of n L exact ≡ 1
  to_min_pos e = rw e

  pub to_half : 0 < L / 2 → L % 2 ≡ 0 → rounded_of n L exact ≡ L / 2
  to_half h e = let (u, i) = before h in rw (i, e)

  module _ (h : 0 < L / 2) (e : L % 2 ≡ 1) where
    pub to_max_pos : L / 2 ≡ max_pos n → rounded_of n L exact ≡ L / 2
    to_max_pos t = let (u, i) = before h in rw (i, e, eq-eqb (suc u) (max_pos n) (sym i ∙ t))

    module _ (t : L / 2 ≢ max_pos n) where
      pub to_even : exact ≡ true → rounded_of n L exact ≡ L / 2 + L / 2 % 2
      to_even x = let (u, i) = before h in rw (i, e, ne_eqb (suc u) (max_pos n) (λ j. t (i ∙ j)), x)

      pub to_next : exact ≡ false → rounded_of n L exact ≡ L / 2 + 1
      to_next x = let (u, i) = before h in rw (i, e, ne_eqb (suc u) (max_pos n) (λ j. t (i ∙ j)), x)
