-- 0 less the mark is no bit or every bit of a word: `xor` with none leaves a number, and with every bit it is what the number lacks to all ones.
use Rattle.std.proofs.Common.{◌≡◌, ℕ, zero, suc, ◌+◌, ◌-◌, ◌*◌, ◌%◌, ◌^◌, ◌<◌, ◌≤◌, ap, ◌∙◌, mod-eq_of_lt, arith, pow_pos}
use lib.Bits.{bit_xor, xor_zero_r, xor_add_and, xor_block, and_mask}
use Rattle.posit.specs.Parts.{chosen_by}

xor_ones : (k : ℕ) {x : ℕ} → x < 2 ^ k → bit_xor x (2 ^ k - 1) ≡ 2 ^ k - 1 - x
xor_ones k {x} u = omega (arith, xor_add_and x (2 ^ k - 1), and_mask x k, mod-eq_of_lt u)

pub flipped_by : (mark : ℕ) {x d : ℕ} → mark ≤ 1 → x < 2 ^ 64 → d < 2 ^ 64 → (d + mark) % 2 ^ 64 ≡ 0 → bit_xor x d ≡ chosen_by mark x (2 ^ 64 - 1 - x)
flipped_by zero {x} small u v e = ap (bit_xor x) {y = 0} (omega arith) ∙ xor_zero_r x
flipped_by (suc k) {x} small u v e = ap (bit_xor x) {y = 2 ^ 64 - 1} (omega arith) ∙ xor_ones 64 u

-- ---- the bit k turned, where a stands from it on
pub bit_turned : (k a : ℕ) {r : ℕ} → r < 2 ^ k → bit_xor (a * 2 ^ k + r) (2 ^ k) ≡ bit_xor a 1 * 2 ^ k + r
bit_turned k a {r} h =
    ap (bit_xor (a * 2 ^ k + r)) {x = 2 ^ k} {y = 1 * 2 ^ k + 0} (omega arith)
    ∙ xor_block k a 1 r 0 h (pow_pos k) ∙ ap (λ (x : ℕ). bit_xor a 1 * 2 ^ k + x) (xor_zero_r r)
