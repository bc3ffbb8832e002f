-- What the machine's shifts and wrapping differences are in plain arithmetic: a power of two that fits a word stays what it is,
-- and a difference that wraps at the word, cut to n bits, wraps at n bits.
use Rattle.std.proofs.Common.{◌≡◌, ℕ, zero, suc, ◌+◌, ◌-◌, ◌*◌, ◌/◌, ◌%◌, ◌^◌, ◌<◌, ◌≤◌, ◌⊎◌, sym, refl, ap, ◌∙◌, inl, inr, mod-eq_of_lt, eq-zero-or-pos, div-add-mod', sub-add_cancel, arith, pow_pos, pow-add}
use native.Mathlib.Nat.{add-mul-mod_self_right, sub-zero, mod_self}
use lib.Pow.{pow-lt}
use Rattle.posit.specs.Format.{negated}

-- r + p is a whole number of turns of P, at least one
turned : (c P r p : ℕ) → p < P → r + p ≡ suc c * P → r ≡ P - p + c * P
turned c P r p h e = omega arith

one_turn : (r p w : ℕ) → r < w → p < w → 0 < p → (r + p) % w ≡ 0 → r + p ≡ w
one_turn r p w hr hp pos e = go ((r + p) / w) (div-add-mod' (r + p) w)
  where
    go : (q : ℕ) → q * w + (r + p) % w ≡ r + p → r + p ≡ w
    go zero f = omega arith
    go (suc zero) f = omega arith
    go (suc (suc q)) f =
        let big : suc (suc q) * w ≡ q * w + w + w = omega arith in
        omega arith

split_power : (n w : ℕ) → n ≤ w → 2 ^ w ≡ 2 ^ (w - n) * 2 ^ n
split_power n w h = ap (λ (x : ℕ). 2 ^ x) (sym (sub-add_cancel h)) ∙ pow-add 2 (w - n) n

pub wraps_at : (n w r p : ℕ) → n ≤ w → r < 2 ^ w → p < 2 ^ n → (r + p) % 2 ^ w ≡ 0 → r % 2 ^ n ≡ negated n p
wraps_at n w r p hn hr hp e = go (eq-zero-or-pos p)
  where
    again : (k c : ℕ) → 2 ^ k ≡ suc c → r + p ≡ 2 ^ k * 2 ^ n → r % 2 ^ n ≡ negated n p
    again k c f g =
        ap (λ (x : ℕ). x % 2 ^ n) (turned c (2 ^ n) r p hp (g ∙ ap (λ (x : ℕ). x * 2 ^ n) f))
        ∙ add-mul-mod_self_right (2 ^ n - p) c (2 ^ n)

    pred_of : (x : ℕ) → 0 < x → (c : ℕ) × (x ≡ suc c)
    pred_of zero h = absurd (omega arith)
    pred_of (suc c) h = (c, refl)

    less : p < 2 ^ w
    less = native.Mathlib.Nat.lt_of_lt_of_le hp (lib.Pow.pow_mono hn)

    go : (p ≡ 0) ⊎ (0 < p) → r % 2 ^ n ≡ negated n p
    go (inl z) =
        let none : (r + p) % 2 ^ w ≡ r = ap (λ (x : ℕ). (r + x) % 2 ^ w) z ∙ ap (λ (x : ℕ). x % 2 ^ w) (native.Mathlib.Nat.add-zero r) ∙ mod-eq_of_lt hr in
        let r0 : r ≡ 0 = sym none ∙ e in
        ap (λ (x : ℕ). x % 2 ^ n) r0 ∙ mod-eq_of_lt (pow_pos n) ∙ sym (mod_self (2 ^ n)) ∙ ap (λ (x : ℕ). x % 2 ^ n) (sym (sub-zero (2 ^ n))) ∙ ap (λ (x : ℕ). (2 ^ n - x) % 2 ^ n) (sym z)
    go (inr h) =
        let d = pred_of (2 ^ (w - n)) (pow_pos (w - n)) in
        again (w - n) d.0 d.1 (one_turn r p (2 ^ w) hr less h e ∙ split_power n w hn)
