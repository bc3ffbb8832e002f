-- The choice that `behind_run` makes by a mark: the mark is 0 below the middle and 1 from it on, and either way few bits stand behind the run.
use Rattle.std.proofs.Common.{◌≡◌, ℕ, zero, suc, ◌+◌, ◌-◌, ◌*◌, ◌/◌, ◌<◌, ◌≤◌, ◌⊎◌, refl, inl, inr, arith}
use Rattle.posit.specs.Parts.{chosen_by}

-- 1 where the run of a regime is of ones
abbrev pub ones_mark : ℕ → ℕ → ℕ
ones_mark n regime = (regime + 33 - n) / 32

-- a regime is below the middle or from it on
by_middle : (m n regime : ℕ) → m ≡ ones_mark n regime → n ≤ 16 → regime < 2 * (n - 1) → (regime < n - 1) ⊎ (n - 1 ≤ regime)
by_middle zero n regime e h k = inl (omega (arith, e, h, k))
by_middle (suc m) n regime e h k = inr (omega (arith, e, h, k))

pub either_run : (n regime : ℕ) → n ≤ 16 → regime < 2 * (n - 1) → (regime < n - 1) ⊎ (n - 1 ≤ regime)
either_run n regime = by_middle (ones_mark n regime) n regime refl

few_behind : (m n regime : ℕ) → m ≡ ones_mark n regime → n ≤ 16 → regime < 2 * (n - 1) → chosen_by m regime (2 * n - 3 - regime) + 2 ≤ n
few_behind zero n regime e h k = omega (arith, e, h, k)
few_behind (suc zero) n regime e h k = omega (arith, e, h, k)
few_behind (suc (suc m)) n regime e h k = omega (arith, e, h, k)

-- the bits behind the run
pub behind_is_few : (n regime : ℕ) {w : ℕ} → w ≡ chosen_by (ones_mark n regime) regime (2 * n - 3 - regime) → n ≤ 16 → regime < 2 * (n - 1) → w + 2 ≤ n
behind_is_few n regime e h k = rw e (few_behind (ones_mark n regime) n regime refl h k)

-- the head is no longer than either
head_fits : (m a b c : ℕ) → a ≤ c → b ≤ c → chosen_by m a b ≤ c
head_fits zero a b c h k = h
head_fits (suc m) a b c h k = k

pub either_at_most : (m a b c : ℕ) {r : ℕ} → r ≡ chosen_by m a b → a ≤ c → b ≤ c → r ≤ c
either_at_most m a b c e h k = rw e (head_fits m a b c h k)

pub first_of_two : (m : ℕ) {a : ℕ} (b : ℕ) {r : ℕ} → r ≡ chosen_by m a b → m ≡ 0 → r ≡ a
first_of_two m b e z = rw z at e

pub second_of : (m a : ℕ) {b r : ℕ} → r ≡ chosen_by m a b → m ≡ 1 → r ≡ b
second_of m a e o = rw o at e
