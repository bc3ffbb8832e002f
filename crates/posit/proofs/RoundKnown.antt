-- A magnitude that is known to a word is rounded from the floor of the word's lower end: it is the floor of everything that the word knows, and on it
-- exactly where nothing was lost and the lower end itself is the posit.
use Rattle.std.proofs.Common.{◌≡◌, ℕ, ◌+◌, ◌^◌, ◌<◌, Bool, true, false, not, ◌&&◌, pos, refl, sym, ap, ◌∙◌, subst, mul-pos, arith, pow_pos}
use Rattle.exact.specs.Whole.{above_zero}
use Rattle.exact.specs.Fraction.{Fraction, ◌≤ᶠ◌, ◌<ᶠ◌, ◌≈◌, whole}
use Rattle.exact.proofs.Order.{≤ᶠ_refl, ≈_refl, ≈_trans, ≈_sym, <ᶠ_≈, <ᶠ_≤ᶠ_trans, ≤ᶠ_<ᶠ_trans, <ᶠ_trans, ≤ᶠ_of_<ᶠ, middle, middle_above, middle_below}
use Rattle.exact.proofs.Sign.{>0}
use Rattle.posit.specs.declared.inner.magnitude.Magnitude.{Magnitude}
use Rattle.posit.specs.Format.{Format}
use Rattle.posit.specs.Value.{value}
use Rattle.posit.specs.Rounding.{Rounds}
use Rattle.posit.specs.Locating.{given, Locates}
use Rattle.posit.specs.Parts.{rounded_of, with_sign}
use Rattle.posit.specs.Magnitudes.{RoundsEach, with_signᶠ}
use Rattle.posit.proofs.Mirror.{nar_wider}
use Rattle.posit.proofs.RoundMirror.{rounds_negated}
use Rattle.posit.proofs.OneAnswer.{rounded_finite}
use Rattle.posit.proofs.FromFloor.{rounds_from_floor}
use Rattle.posit.proofs.Exactly.{next_given, never}

-- a number of which something is lost is not met
pub by_mark : (exact lost : Bool) (R : Bool → Type 0) → (lost ≡ true → R false) → (lost ≡ false → R exact) → R (exact && not lost)
by_mark true true R t k = t refl
by_mark false true R t k = t refl
by_mark true false R t k = k refl
by_mark false false R t k = k refl

pub rounds_with_sign : {n es : ℕ} → Format n es → (negative : Bool) {z : Fraction} {p : ℕ} → Rounds n es z p → Rounds n es (with_signᶠ negative z) (with_sign n negative p)
rounds_with_sign {n} {es} f true h = rounds_negated n es f.wide_enough h
rounds_with_sign f false h = h

module _ {n es : ℕ} (f : Format n es) (x : Magnitude) {L : ℕ} {exact : Bool} (l : Locates n es x.g x.s x.a L exact) where
  abbrev low : Fraction
  low = given x.g x.s x.a

  abbrev high : Fraction
  high = given (x.g + 1) x.s x.a

  next : low <ᶠ high
  next = next_given x.g x.s x.a

  low_positive : whole (pos 0) <ᶠ low
  low_positive = >0.1 (above_zero (mul-pos {m = x.g} {n = 2 ^ x.s} (omega (arith, x.g_from)) (pow_pos x.s)))

  low_reached : value (n + 1) es L ≤ᶠ low
  low_reached = (l.floor low (≤ᶠ_refl low) next).at_most

  pub pattern_fits : L < 2 ^ n
  pattern_fits = rw (nar_wider n) at (l.floor low (≤ᶠ_refl low) next).fits

  -- ---- where something was lost, the magnitude is above the lower end
  module _ {z : Fraction} (more : low <ᶠ z) (less : z <ᶠ high) where
    lost_rounds : Rounds n es z (rounded_of n L false)
    lost_rounds =
        rounds_from_floor n es f.wide_enough (l.floor z (≤ᶠ_of_<ᶠ more) less) (<ᶠ_trans low_positive more) (λ e. never e) (λ e. ≤ᶠ_<ᶠ_trans low_reached more)

  lost_fits : {p : ℕ} → p ≡ rounded_of n L false → p < 2 ^ n
  lost_fits e = rw e (rounded_finite n es f.wide_enough (lost_rounds {z = middle low high} (middle_above next) (middle_below next))).fits

  lost_each : (negative : Bool) {p r : ℕ} → x.lost ≡ true → p ≡ rounded_of n L false → r ≡ with_sign n negative p → RoundsEach n es negative x r
  lost_each negative h i j z k =
      subst (λ r. Rounds n es (with_signᶠ negative z) r) (sym (j ∙ ap (with_sign n negative) i)) (rounds_with_sign f negative (lost_rounds (k.more_than_it h) k.less))

  -- ---- where nothing was lost, it is the lower end
  module _ {z : Fraction} (same : z ≈ low) (at_least : low ≤ᶠ z) (less : z <ᶠ high) where
    kept_rounds : Rounds n es z (rounded_of n L exact)
    kept_rounds =
        rounds_from_floor n es f.wide_enough (l.floor z at_least less) (<ᶠ_≤ᶠ_trans low_positive at_least) (λ e. ≈_trans same (l.hit e)) (λ e. <ᶠ_≈ (l.miss e) (≈_sym same))

  kept_fits : {p : ℕ} → p ≡ rounded_of n L exact → p < 2 ^ n
  kept_fits e = rw e (rounded_finite n es f.wide_enough (kept_rounds {z = low} (≈_refl low) (≤ᶠ_refl low) next)).fits

  kept_each : (negative : Bool) {p r : ℕ} → x.lost ≡ false → p ≡ rounded_of n L exact → r ≡ with_sign n negative p → RoundsEach n es negative x r
  kept_each negative h i j z k =
      subst (λ r. Rounds n es (with_signᶠ negative z) r) (sym (j ∙ ap (with_sign n negative) i)) (rounds_with_sign f negative (kept_rounds (k.whole_of_it h) k.at_least k.less))

  -- ---- both
  pub rounded_fits : {p : ℕ} → p ≡ rounded_of n L (exact && not x.lost) → p < 2 ^ n
  rounded_fits {p} = by_mark exact x.lost (λ (b : Bool). p ≡ rounded_of n L b → p < 2 ^ n) (λ _. lost_fits) (λ _. kept_fits)

  pub rounded_each : (negative : Bool) {p r : ℕ} → p ≡ rounded_of n L (exact && not x.lost) → r ≡ with_sign n negative p → RoundsEach n es negative x r
  rounded_each negative {p} {r} =
      by_mark exact x.lost (λ (b : Bool). p ≡ rounded_of n L b → r ≡ with_sign n negative p → RoundsEach n es negative x r) (lost_each negative) (kept_each negative)
