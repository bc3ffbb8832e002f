-- One more at x adds 2^(x / 2^w) to G, whether or not the remainder carries; all else follows from that and from G at q·2^w + r.
use Rattle.std.proofs.Common.{◌≡◌, ℕ, zero, suc, ◌+◌, ◌*◌, ◌/◌, ◌%◌, ◌^◌, ◌<◌, ◌⊎◌, ap, ◌∙◌, inl, inr, mod-lt, eq-or-lt_of_le, mul-pos, arith, pow_pos, pow-add}
use native.Mathlib.Nat.{pow-succ', le_dest}
use lib.Pow.{split, high, low}

-- a tail x of w bits behind a run, padded: the quotient by 2^w is the exponent, the remainder over 2^w the fraction
unfoldable pub G : ℕ → ℕ → ℕ
G w x = 2 ^ (x / 2 ^ w) * (2 ^ w + x % 2 ^ w)

pub g_at : (w q : ℕ) {r : ℕ} → r < 2 ^ w → G w (q * 2 ^ w + r) ≡ 2 ^ q * (2 ^ w + r)
unfolding G
g_at w q h = rw (high q w h, low q w h)

pub g_at_multiple : (w q : ℕ) → G w (q * 2 ^ w) ≡ 2 ^ q * 2 ^ w
g_at_multiple w q = ap (G w) (omega arith) ∙ g_at w q (pow_pos w) ∙ omega arith

pub g_at_zero : (w : ℕ) → G w 0 ≡ 2 ^ w
g_at_zero w = ap (G w) (omega arith) ∙ g_at_multiple w 0 ∙ omega arith

-- a fact for every q and r < 2^w is one for every x
by_parts : (w : ℕ) (P : ℕ → Type 0) → ((q r : ℕ) → r < 2 ^ w → P (q * 2 ^ w + r)) → (x : ℕ) → P x
by_parts w P h x = rw (split x w) at (h (x / 2 ^ w) (x % 2 ^ w) (mod-lt x (pow_pos w)))

-- the successor law: what one more adds
carried : (w q r : ℕ) → suc r ≡ 2 ^ w → G w (suc (q * 2 ^ w + r)) ≡ 2 ^ q * (2 ^ w + r) + 2 ^ q
carried w q r e =
    ap (G w) (omega arith) ∙ g_at_multiple w (suc q) ∙ rw (pow-succ' 2 q) (omega (arith, ap (λ (n : ℕ). 2 ^ q * n) e))

one_more : (w q r : ℕ) → (suc r ≡ 2 ^ w) ⊎ (suc r < 2 ^ w) → G w (suc (q * 2 ^ w + r)) ≡ 2 ^ q * (2 ^ w + r) + 2 ^ q
one_more w q r (inl e) = carried w q r e
one_more w q r (inr h) = ap (G w) (omega arith) ∙ g_at w q h ∙ omega arith

pub g_suc : (w x : ℕ) → G w (suc x) ≡ G w x + 2 ^ (x / 2 ^ w)
g_suc w = by_parts w (λ (x : ℕ). G w (suc x) ≡ G w x + 2 ^ (x / 2 ^ w)) (λ q r h. rw (g_at w q h, high q w h) (one_more w q r (eq-or-lt_of_le h)))

-- strictly increasing
from : (w x d : ℕ) → G w x < G w (suc (x + d))
from w x zero = omega (arith, g_suc w x, pow_pos (x / 2 ^ w), ap (λ (n : ℕ). G w (suc n)) {x = x + 0} {y = x} (omega arith))
from w x (suc d) =
    omega (arith, from w x d, g_suc w (suc (x + d)), ap (λ (n : ℕ). G w (suc n)) {x = x + suc d} {y = suc (x + d)} (omega arith))

pub g_increases : (w : ℕ) {x y : ℕ} → x < y → G w x < G w y
g_increases w {x} {y} h = let e : suc (x + (le_dest h).0) ≡ y = omega (arith, (le_dest h).1) in rw e at (from w x (le_dest h).0)

pub g_positive : (w x : ℕ) → 0 < G w x
unfolding G
g_positive w x = mul-pos (pow_pos (x / 2 ^ w)) (omega (arith, pow_pos w))

-- k more at the quotient are k doublings
pub g_doubles : (w x k : ℕ) → G w (x + k * 2 ^ w) ≡ 2 ^ k * G w x
g_doubles w x k =
    by_parts w (λ (x : ℕ). G w (x + k * 2 ^ w) ≡ 2 ^ k * G w x)
    (λ q r h. ap (G w) (omega arith) ∙ g_at w (k + q) h ∙ rw (pow-add 2 k q, g_at w q h) (omega arith)) x

-- a zero bit behind the tail doubles
pub g_wider : (w x : ℕ) → G (suc w) (2 * x) ≡ 2 * G w x
g_wider w =
    by_parts w (λ (x : ℕ). G (suc w) (2 * x) ≡ 2 * G w x)
    (λ q r h. ap (G (suc w)) (rw (pow-succ' 2 w) (omega arith)) ∙ g_at (suc w) q {r = 2 * r} (omega arith) ∙ rw (pow-succ' 2 w, g_at w q h) (omega arith))
