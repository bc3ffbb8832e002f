-- From the place of |x| to the encoded posit: the floor gives the rounding of the magnitude (`FromFloor`), rounding commutes with negation
-- (`RoundMirror`), and a fraction of 0 means 0.
use Rattle.std.proofs.Common.{◌≡◌, ℕ, ◌^◌, ◌<◌, Bool, true, false, ℤ, pos, sym, ap, ◌∙◌, subst}
use Rattle.exact.specs.Whole.{above_zero}
use Rattle.exact.specs.Fraction.{◌<ᶠ◌, whole}
use Rattle.exact.proofs.Scaled.{scaled_>0, scaled_negᶠ}
use Rattle.posit.specs.declared.decoded.Decoded.{Decoded}
use Rattle.posit.specs.declared.decoded.Decoded.TheVariants.{Finite}
use Rattle.posit.specs.declared.inner.locate.Located.{Located}
use Rattle.posit.specs.Format.{Format}
use Rattle.posit.specs.Rounding.{Rounds}
use Rattle.posit.specs.Decoding.{Encodes, finite_value}
use Rattle.posit.specs.Parts.{LocatesScaled, rounded_of, with_sign}
use Rattle.posit.proofs.RoundMirror.{rounds_negated}
use Rattle.posit.proofs.OneAnswer.{rounds_respects}
use Rattle.posit.proofs.FromFloor.{rounds_from_floor, rounded_fits}

-- ---- a magnitude that was located
module _ {n es : ℕ} (f : Format n es) {z : ℤ} {g : ℕ} {r : Located} (l : LocatesScaled n es z g r) where
  module _ (above : 0 < g) where
    positive : whole (pos 0) <ᶠ finite_value false z g
    positive = (scaled_>0 z).1 (above_zero above)

    pub posit_fits : {p : ℕ} → p ≡ rounded_of n r.pattern r.exact → p < 2 ^ n
    posit_fits e = rw e (rounded_fits n es f.wide_enough l.floor positive l.hit l.miss)

    magnitude_rounds : Rounds n es (finite_value false z g) (rounded_of n r.pattern r.exact)
    magnitude_rounds = rounds_from_floor n es f.wide_enough l.floor positive l.hit l.miss

    signed_rounds : (negative : Bool) → Rounds n es (finite_value negative z g) (with_sign n negative (rounded_of n r.pattern r.exact))
    signed_rounds false = magnitude_rounds
    signed_rounds true = rounds_respects n es f.wide_enough (scaled_negᶠ z (pos g)) (rounds_negated n es f.wide_enough magnitude_rounds)

    pub number_encodes :
        {d : Decoded} {negative : Bool} {y : ℤ} {p q : ℕ} → d ≡ Finite negative y g → z ≡ y → p ≡ rounded_of n r.pattern r.exact
        → q ≡ with_sign n negative p → Encodes n es d q
    number_encodes {negative = negative} {q = q} e k i j =
        subst (λ d. Encodes n es d q) (ap (λ x. Finite negative x g) k ∙ sym e)
        (subst (λ p. Rounds n es (finite_value negative z g) p) (sym (j ∙ ap (with_sign n negative) i)) (signed_rounds negative))
