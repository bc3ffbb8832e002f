-- From a posit to its float and back is the posit, in every format: the float is exactly the posit's value, which is rounded to the posit itself. And a
-- posit has one float, since both are written with an odd number and mean one value.
use Rattle.std.proofs.Common.{◌≡◌, ℕ, zero, suc, ◌*◌, ◌%◌, ◌^◌, Bool, true, false, ◌&&◌, T, eqb, ltb, leb, ◌≢◌, ℤ, pos, sym, refl, ap, ◌∙◌, eqb→eq}
use native.Mathlib.Decide.{ℕ_discrete}
use lib.Ieee.{Float, nan, inf, fin, binary64, fits, up, down}
use Rattle.exact.specs.Fraction.{◌≈◌, whole}
use Rattle.exact.proofs.Order.{≈_refl, ≈_sym, ≈_trans}
use Rattle.exact.proofs.Scaled.{scaled_zero}
use Rattle.posit.specs.declared.decoded.Decoded.TheVariants.{Finite}
use Rattle.posit.specs.declared.float.Floated.{Floated}
use Rattle.posit.specs.declared.float.Floated.TheVariants.{Value, Nar}
use Rattle.std.specs.Prelude.{Result, Ok, Err}
use Rattle.call.specs.declared.refusal.Refusal.{Refusal}
use Rattle.call.proofs.Answered.{accepts, refuses}
use Rattle.posit.specs.Format.{Format}
use Rattle.call.specs.Verdict.{Verdict}
use Rattle.posit.specs.Rounding.{zero_gives_zero, posit_gives_itself}
use Rattle.posit.specs.Decoding.{OddForm, finite_value}
use Rattle.posit.specs.Floats.{FromFloat, FromFloatOf, ExactFloat, ToFloat, FloatingOf}
use Rattle.posit.proofs.OneAnswer.{one_answer, same_answer, rounds_respects, nearest_value}
use Rattle.posit.proofs.Verdicts.{format_accepted, format_of_one, format_done}
use Rattle.posit.proofs.OneForm.{one_form}

-- the format of 64 bits holds the float, where there is one
abbrev pub Held : Floated → Type 0
Held (Value x) = T (fits binary64 x)
Held Nar = Unit {0}

first_of_two : (a b c d : Bool) → T (a && b && c && d) → T a
first_of_two true b c d h = tt
first_of_two false b c d h = h

-- ---- there and back
module _ {n es : ℕ} (f : Format n es) where
  pub float_and_back : {p q : ℕ} (x : Float) → ToFloat n es p (Value x) → FromFloat n es x q → q ≡ p
  float_and_back nan t r = absurd t.exactly
  float_and_back (inf s) t r = absurd t.exactly
  float_and_back {p} {q} (fin s m e) t r =
      one_answer n es f.wide_enough (rounds_respects n es f.wide_enough t.exactly r)
      ∙ nearest_value n es f.wide_enough t.finite

  -- ---- the float of a posit that is not 0 is its decoded form
  none_of_value : {p : ℕ} (s : Bool) (e : ℤ) → ExactFloat n es p (fin s 0 e) → p ≡ 0
  none_of_value {p} s e t =
      same_answer n es f.wide_enough (posit_gives_itself t.finite (≈_trans (≈_sym (nothing s)) t.exactly)) (zero_gives_zero (≈_refl (whole (pos 0))) refl)
    where
      nothing : (s : Bool) → finite_value s e 0 ≈ whole (pos 0)
      nothing true = scaled_zero e
      nothing false = scaled_zero e

  form_of : {p : ℕ} → p ≢ 0 → (s : Bool) (m : ℕ) (e : ℤ) → T (fits binary64 (fin s m e)) → ExactFloat n es p (fin s m e) → OddForm n es p s e m
  unfolding fits
  form_of some s zero e h t = absurd (some (none_of_value s e t))
  form_of some s (suc m) e h t =
      let h₁ = first_of_two (eqb (suc m % 2) 1) (ltb (suc m) (2 ^ 53)) (leb (down e) (2 ^ 1074)) (ltb (suc m * up e) (2 ^ 1024 * down e)) h in
      record { finite = t.finite; not_zero = some; odd = eqb→eq (suc m % 2) 1 h₁; means = t.exactly }

  one_float : {p : ℕ} → p ≢ 0 → (x y : Float) → T (fits binary64 x) → T (fits binary64 y) → ExactFloat n es p x → ExactFloat n es p y → x ≡ y
  one_float some nan y h k t u = absurd t.exactly
  one_float some (inf s) y h k t u = absurd t.exactly
  one_float some (fin s m e) nan h k t u = absurd u.exactly
  one_float some (fin s m e) (inf s') h k t u = absurd u.exactly
  one_float {p} some (fin s m e) (fin s' m' e') h k t u =
      let same : Finite s e m ≡ Finite s' e' m' = one_form n es p (Finite s e m) (Finite s' e' m') (form_of some s m e h t) (form_of some s' m' e' k u) in
      cc

  -- ---- a posit has one answer, among the floats that the format of 64 bits holds
  pub same_float : (p : ℕ) (r q : Floated) → Held r → Held q → ToFloat n es p r → ToFloat n es p q → r ≡ q
  same_float p (Value x) (Value y) h k t u = ap Value (by (ℕ_discrete p 0))
    where
      by : Dec (p ≡ 0) → x ≡ y
      by (yes z) = t.zero_is_plus z ∙ sym (u.zero_is_plus z)
      by (no some) = one_float some x y h k t u
  same_float p (Value x) Nar h k t u = absurd (t.finite.not_nar u)
  same_float p Nar (Value y) h k t u = absurd (u.finite.not_nar t)
  same_float p Nar Nar h k t u = refl

-- ---- the two calls, one after the other: where the first gives a float, the second takes it and gives the posit
pub calls_and_back : (n es p : ℕ) {x : Float} (r : Result ℕ Refusal) → FloatingOf n es p (Ok (Value x)) → FromFloatOf n es x r → r ≡ Ok p
calls_and_back n es p {x} (Ok q) t b = ap Ok (float_and_back (format_accepted n es (accepts b.0)) x t.1 b.1)
calls_and_back n es p (Err e) t b =
    absurd (refuses e b (ap (λ (v : Verdict). v.number) (format_done n es (format_of_one n es p (accepts t.0)))))
