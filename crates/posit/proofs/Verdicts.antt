-- The verdict of a call by its tests: each test that fails leaves the rest of the list, and the first that hits is the verdict.
use Rattle.std.proofs.Common.{◌≡◌, ℕ, subst, ◌^◌, ◌<◌, ◌≤◌, Bool, true, false, not, ◌&&◌, leb, List, [], ◌∷◌, sym, refl, ap, ◌∙◌, suc-ne-zero, le-ltb, lt-ltb, le-leb, leb-false, leb-true}
use borrow.Author.Tests.{lt-leb}
use Rattle.posit.specs.Format.{Format, is_format}
use Rattle.call.specs.Verdict.{Verdict, Test, Says, done, refused, first_hit}
use Rattle.call.specs.Place.{left, right}
use Rattle.posit.specs.Refusal.{format_test, posit_test, verdict_of_posit, verdict_of_posits, verdict_of_format, verdict_of_one, verdict_of_two, verdict_of_operation}
use Rattle.call.specs.Operation.{operation_test}
use Rattle.call.proofs.Facts.{both_parts}
use Rattle.call.proofs.FirstHit.{hits, passes, none_hits}
use Rattle.std.specs.Prelude.{Result}
use Rattle.call.specs.declared.refusal.Refusal.{Refusal}
use Rattle.call.proofs.Said.{refused_first}

-- ---- the format test, and a format from it
pub format_of : {n es : ℕ} → is_format n es ≡ true → Format n es
format_of {n} {es} e =
    let s = both_parts (leb 3 n && leb n 16) (leb es 2) e in
    let t = both_parts (leb 3 n) (leb n 16) s.0 in
    record { wide_enough = leb-true 3 n t.0; not_too_wide = leb-true n 16 t.1; exponent_fits = leb-true es 2 s.1 }

pub format_clear : {n es : ℕ} → Format n es → not (is_format n es) ≡ false
format_clear {n} {es} f = rw (le-leb 3 n f.wide_enough, le-leb n 16 f.not_too_wide, le-leb es 2 f.exponent_fits)

format_hits : (n es : ℕ) (ts : List Test) → is_format n es ≡ false → first_hit (format_test n es ∷ ts) ≡ record { number = 1; place = 0 }
format_hits n es ts e = hits (format_test n es) ts (ap not e)

format_passes : (n es : ℕ) (ts : List Test) → is_format n es ≡ true → first_hit (format_test n es ∷ ts) ≡ first_hit ts
format_passes n es ts e = passes (format_test n es) ts (ap not e)

operation_hits : (op : ℕ) (ts : List Test) → 3 < op → first_hit (operation_test op ∷ ts) ≡ record { number = 2; place = 0 }
operation_hits op ts h = hits (operation_test op) ts (lt-ltb 3 op h)

operation_passes : (op : ℕ) (ts : List Test) → op ≤ 3 → first_hit (operation_test op ∷ ts) ≡ first_hit ts
operation_passes op ts h = passes (operation_test op) ts (le-ltb 3 op h)

posit_hits : (n place p : ℕ) (ts : List Test) → 2 ^ n ≤ p → first_hit (posit_test n place p ∷ ts) ≡ record { number = 3; place = place }
posit_hits n place p ts h = hits (posit_test n place p) ts (le-leb (2 ^ n) p h)

posit_passes : (n place p : ℕ) (ts : List Test) → p < 2 ^ n → first_hit (posit_test n place p ∷ ts) ≡ first_hit ts
posit_passes n place p ts h = passes (posit_test n place p) ts (lt-leb (2 ^ n) p h)

-- ---- calls that test the format alone
module _ (n es : ℕ) where
  pub format_outside : is_format n es ≡ false → verdict_of_format n es ≡ record { number = 1; place = 0 }
  unfolding verdict_of_format
  format_outside e = format_hits n es [] e

  pub format_done : is_format n es ≡ true → verdict_of_format n es ≡ done
  unfolding verdict_of_format
  format_done e = format_passes n es [] e ∙ none_hits

-- ---- calls on one posit
module _ (n es p : ℕ) where
  pub one_outside : is_format n es ≡ false → verdict_of_one n es p ≡ record { number = 1; place = 0 }
  unfolding verdict_of_one
  one_outside e = format_hits n es _ e

-- ---- two posits, after the tests before them
module _ (n p q : ℕ) where
  abbrev operands : List Test
  operands = posit_test n left p ∷ posit_test n right q ∷ []

  operands_left : 2 ^ n ≤ p → first_hit operands ≡ record { number = 3; place = 0 }
  operands_left h = posit_hits n left p _ h

  operands_right : p < 2 ^ n → 2 ^ n ≤ q → first_hit operands ≡ record { number = 3; place = 1 }
  operands_right h k = posit_passes n left p _ h ∙ posit_hits n right q [] k

  operands_done : p < 2 ^ n → q < 2 ^ n → first_hit operands ≡ done
  operands_done h k = posit_passes n left p _ h ∙ posit_passes n right q [] k ∙ none_hits

-- ---- compare
module _ (n es p q : ℕ) where
  pub two_outside : is_format n es ≡ false → verdict_of_two n es p q ≡ record { number = 1; place = 0 }
  unfolding verdict_of_two
  two_outside e = format_hits n es _ e

  two_inside : is_format n es ≡ true → verdict_of_two n es p q ≡ first_hit (operands n p q)
  unfolding verdict_of_two
  two_inside e = format_passes n es _ e

-- ---- an operation on two posits
module _ (n es op p q : ℕ) where
  pub operation_outside : is_format n es ≡ false → verdict_of_operation n es op p q ≡ record { number = 1; place = 0 }
  unfolding verdict_of_operation
  operation_outside e = format_hits n es _ e

  pub operation_unknown : is_format n es ≡ true → 3 < op → verdict_of_operation n es op p q ≡ record { number = 2; place = 0 }
  unfolding verdict_of_operation
  operation_unknown e h = format_passes n es _ e ∙ operation_hits op _ h

  operation_inside : is_format n es ≡ true → op ≤ 3 → verdict_of_operation n es op p q ≡ first_hit (operands n p q)
  unfolding verdict_of_operation
  operation_inside e h = format_passes n es _ e ∙ operation_passes op _ h

  pub operation_left : is_format n es ≡ true → op ≤ 3 → 2 ^ n ≤ p → verdict_of_operation n es op p q ≡ record { number = 3; place = 0 }
  operation_left e l h = operation_inside e l ∙ operands_left n p q h

  pub operation_right : is_format n es ≡ true → op ≤ 3 → p < 2 ^ n → 2 ^ n ≤ q → verdict_of_operation n es op p q ≡ record { number = 3; place = 1 }
  operation_right e l h k = operation_inside e l ∙ operands_right n p q h k

  pub operation_done : is_format n es ≡ true → op ≤ 3 → p < 2 ^ n → q < 2 ^ n → verdict_of_operation n es op p q ≡ done
  operation_done e l h k = operation_inside e l ∙ operands_done n p q h k

-- ---- an operation of a known number is judged by its two posits
-- ---- one posit, at a place
pub posit_large : (n place p : ℕ) → 2 ^ n ≤ p → verdict_of_posit n place p ≡ record { number = 3; place = place }
posit_large n place p h = posit_hits n place p [] h

pub posit_fits : (n place p : ℕ) → p < 2 ^ n → verdict_of_posit n place p ≡ done
posit_fits n place p h = posit_passes n place p [] h ∙ none_hits

pub fits_of_verdict : (n place p : ℕ) → verdict_of_posit n place p ≡ done → p < 2 ^ n
fits_of_verdict n place p passed = by (leb (2 ^ n) p) refl
  where
    by : (b : Bool) → leb (2 ^ n) p ≡ b → p < 2 ^ n
    by true h = absurd (suc-ne-zero 2 (sym (ap (λ (x : Verdict). x.number) (posit_large n place p (leb-true (2 ^ n) p h))) ∙ ap (λ (x : Verdict). x.number) passed))
    by false h = leb-false (2 ^ n) p h

-- ---- two posits: the left one, then the right one
pub posits_by_left : (n p q : ℕ) (e : Refusal) → verdict_of_posit n left p ≡ refused e → verdict_of_posits n p q ≡ refused e
posits_by_left n p q e s = refused_first (posit_test n left p ∷ []) (posit_test n right q ∷ []) e s

pub posits_by_right : (n p q : ℕ) → verdict_of_posit n left p ≡ done → (r : Result (Unit {0}) Refusal) → Says (verdict_of_posit n right q) r → Says (verdict_of_posits n p q) r
posits_by_right n p q h r s = subst (λ (v : Verdict). Says v r) (sym (posit_passes n left p _ (fits_of_verdict n left p h))) s

pub fits_of_verdicts : (n p q : ℕ) → verdict_of_posits n p q ≡ done → (p < 2 ^ n) × (q < 2 ^ n)
fits_of_verdicts n p q passed = by (leb (2 ^ n) p) refl
  where
    by : (b : Bool) → leb (2 ^ n) p ≡ b → (p < 2 ^ n) × (q < 2 ^ n)
    by true h = absurd (suc-ne-zero 2 (sym (ap (λ (x : Verdict). x.number) (posit_hits n left p _ (leb-true (2 ^ n) p h))) ∙ ap (λ (x : Verdict). x.number) passed))
    by false h = let l = leb-false (2 ^ n) p h in (l, fits_of_verdict n right q (sym (posit_passes n left p _ l) ∙ passed))

-- ---- a call of a format is judged by its posits
module _ {n es : ℕ} (f : Format n es) where
  format_is : is_format n es ≡ true
  format_is = rw (le-leb 3 n f.wide_enough, le-leb n 16 f.not_too_wide, le-leb es 2 f.exponent_fits)

  pub format_judged : verdict_of_format n es ≡ done
  format_judged = format_done n es format_is

  pub one_judged : (p : ℕ) → verdict_of_one n es p ≡ verdict_of_posit n left p
  unfolding verdict_of_one
  one_judged p = format_passes n es _ format_is

  pub two_judged : (p q : ℕ) → verdict_of_two n es p q ≡ verdict_of_posits n p q
  two_judged p q = two_inside n es p q format_is

  pub operation_by_posits : (op p q : ℕ) → op ≤ 3 → verdict_of_operation n es op p q ≡ verdict_of_posits n p q
  operation_by_posits op p q l = operation_inside n es op p q format_is l

  pub operation_by_number : (op p q : ℕ) → 3 < op → verdict_of_operation n es op p q ≡ record { number = 2; place = 0 }
  operation_by_number op p q h = operation_unknown n es op p q format_is h

-- ---- a call that no test hits is one of a format
not_done : {v : Verdict} {X : Type 0} → v.number ≡ 0 → v ≡ record { number = 1; place = 0 } → X
not_done z e = absurd (suc-ne-zero 0 (sym (ap (λ (x : Verdict). x.number) e) ∙ z))

pub format_accepted : (n es : ℕ) → (verdict_of_format n es).number ≡ 0 → Format n es
format_accepted n es passed = by (is_format n es) refl
  where
    by : (b : Bool) → is_format n es ≡ b → Format n es
    by true e = format_of e
    by false e = not_done passed (format_outside n es e)

pub format_of_one : (n es p : ℕ) → (verdict_of_one n es p).number ≡ 0 → is_format n es ≡ true
format_of_one n es p passed = by (is_format n es) refl
  where
    by : (b : Bool) → is_format n es ≡ b → is_format n es ≡ true
    by true e = e
    by false e = not_done passed (one_outside n es p e)

pub operation_format : (n es op p q : ℕ) → (verdict_of_operation n es op p q).number ≡ 0 → Format n es
operation_format n es op p q passed = by (is_format n es) refl
  where
    by : (b : Bool) → is_format n es ≡ b → Format n es
    by true e = format_of e
    by false e = absurd (suc-ne-zero 0 (sym (ap (λ (x : Verdict). x.number) (operation_outside n es op p q e)) ∙ passed))
