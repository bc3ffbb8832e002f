-- The members of a range are fractions; a real range is a word that does not hold infinity, and empty words count.
use Rattle.std.specs.Prelude.{◌≡◌, Bool, true, false, ◌&&◌, ℕ, ◌<◌}
use Rattle.exact.specs.Fraction.{Fraction, ◌≤ᶠ◌, ◌<ᶠ◌, leᶠ, ltᶠ}
use Rattle.bound.specs.Bound.{Bound, none, closed_at, open_at}
use Rattle.posit.specs.Value.{value}
use Rattle.word.specs.Word.{words, kind, is_infinite, start_of, end_of}

pub record Real (n w : ℕ) : Type 0 where
  pub fits : w < words n
  pub no_infinity : is_infinite (kind n w) ≡ false

-- x is not before the start, and not behind the end
abbrev pub AfterStart : ℕ → ℕ → Bound ℕ → Fraction → Type 0
AfterStart n es none x = Unit {0}
AfterStart n es (closed_at p) x = value n es p ≤ᶠ x
AfterStart n es (open_at p) x = value n es p <ᶠ x

abbrev pub BeforeEnd : ℕ → ℕ → Bound ℕ → Fraction → Type 0
BeforeEnd n es none x = Unit {0}
BeforeEnd n es (closed_at p) x = x ≤ᶠ value n es p
BeforeEnd n es (open_at p) x = x <ᶠ value n es p

-- x is a member of the real range w
pub record Member (n es w : ℕ) (x : Fraction) : Type 0 where
  pub after_start : AfterStart n es (start_of n w) x
  pub before_end : BeforeEnd n es (end_of n w) x

-- the same as a test
abbrev pub lies_after_start : ℕ → ℕ → Bound ℕ → Fraction → Bool
lies_after_start n es none x = true
lies_after_start n es (closed_at p) x = leᶠ (value n es p) x
lies_after_start n es (open_at p) x = ltᶠ (value n es p) x

abbrev pub lies_before_end : ℕ → ℕ → Bound ℕ → Fraction → Bool
lies_before_end n es none x = true
lies_before_end n es (closed_at p) x = leᶠ x (value n es p)
lies_before_end n es (open_at p) x = ltᶠ x (value n es p)

abbrev pub is_member : ℕ → ℕ → ℕ → Fraction → Bool
is_member n es w x = lies_after_start n es (start_of n w) x && lies_before_end n es (end_of n w) x

-- ---- the three comparisons
abbrev pub Inside : ℕ → ℕ → ℕ → ℕ → Type 0
Inside n es a b = (x : Fraction) → Member n es a x → Member n es b x

abbrev pub Meets : ℕ → ℕ → ℕ → ℕ → Type 0
Meets n es a b = (x : Fraction) × Member n es a x × Member n es b x

abbrev pub Below : ℕ → ℕ → ℕ → ℕ → Type 0
Below n es a b = (x y : Fraction) → Member n es a x → Member n es b y → x <ᶠ y
