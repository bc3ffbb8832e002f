-- The fractions are ordered numbers with a sign.
use Rattle.std.specs.Prelude.{Bool, true, false, not, T, pos}
use Rattle.exact.specs.Fraction.{Fraction, ◌≤ᶠ◌, ◌<ᶠ◌, ◌≈◌, leᶠ, whole, negᶠ, ◌+ᶠ◌, ◌-ᶠ◌}
use Rattle.exact.proofs.Order.{≤ᶠ_refl, ≤ᶠ_trans, ≤ᶠ_of_<ᶠ, ≤ᶠ_of_≈, ≈_sym, ≤ᶠ_antisymm, <ᶠ_of_not_≤ᶠ, clashᶠ, leᶠ_yes, leᶠ_no, middle, middle_above, middle_below, one_more, one_less}
use Rattle.exact.proofs.Sum.{negᶠ_≤ᶠ, negᶠ_negᶠ}
use Rattle.bound.specs.Order.{Order, Less, Same}
use Rattle.bound.specs.Sign.{Numbers}

abbrev pub by_test : {P : Type 0} (b : Bool) → (T b → P) → (T (not b) → ¬ P) → Dec P
by_test true f g = yes (f tt)
by_test false f g = no (g tt)

abbrev pub fractions : Order
fractions =
    record {
      Number = Fraction;
      ◌≼◌ = ◌≤ᶠ◌;
      reflexive = ≤ᶠ_refl;
      transitive = ≤ᶠ_trans;
      decide = λ x y. by_test (leᶠ x y) leᶠ_yes (λ t. clashᶠ (leᶠ_no t));
      total = λ h. ≤ᶠ_of_<ᶠ (<ᶠ_of_not_≤ᶠ h);
      some_number = whole (pos 0);
      lower = λ x. (x -ᶠ whole (pos 1), clashᶠ (one_less x));
      higher = λ x. (x +ᶠ whole (pos 1), clashᶠ (one_more x));
      between = λ {x} {y} h. (middle x y, clashᶠ (middle_above (<ᶠ_of_not_≤ᶠ h)), clashᶠ (middle_below (<ᶠ_of_not_≤ᶠ h)));
    }

-- there the same is ≈ and less is <ᶠ
pub same_of_≈ : {x y : Fraction} → x ≈ y → Same fractions x y
same_of_≈ h = (≤ᶠ_of_≈ h, ≤ᶠ_of_≈ (≈_sym h))

pub ≈_of_same : {x y : Fraction} → Same fractions x y → x ≈ y
≈_of_same s = ≤ᶠ_antisymm s.0 s.1

pub less_of_<ᶠ : {x y : Fraction} → x <ᶠ y → Less fractions x y
less_of_<ᶠ h = clashᶠ h

abbrev pub signed_fractions : Numbers
signed_fractions =
    record {
      order = fractions;
      zero = whole (pos 0);
      neg = negᶠ;
      neg_turns = negᶠ_≤ᶠ;
      neg_neg = λ x. same_of_≈ (negᶠ_negᶠ x);
      neg_zero = (≤ᶠ_refl (whole (pos 0)), ≤ᶠ_refl (whole (pos 0)));
    }
