-- The tests of the lengths of a sheet: where they hit, where they pass, and what a call that passes them has.
use mathlib.Core.Path.{◌≡◌, refl, ap}
use mathlib.Core.Bool.{true, false, not}
use Prim.Native.Nat.{ℕ, ◌+◌, ◌/◌, ◌%◌, ◌≤◌, ◌<◌}
use lib.Dec.{eqb, ltb}
use borrow.Author.Tests.{lt-ltb, le-ltb, eq-eqb, ne_eqb, ltb-false, eqb-true, not-false}
use Rattle.posit.specs.Format.{is_format}
use mathlib.Core.List.{[], ◌∷◌}
use Rattle.posit.proofs.Verdicts.{format_of, format_clear}
use Rattle.posit.proofs.Formats.{within}
use Rattle.posit.specs.declared.inner.format.Format as Formats
use Rattle.posit.specs.Refusal.{format_test}
use Rattle.sheet.specs.Refusal.{most_inputs, most_steps, step_bytes, size_test}
use Rattle.sheet.specs.Accepted.{SheetFits}
use Rattle.sheet.specs.Sheet.{sheet_limits}
use Rattle.call.proofs.Tests.{Passing, all_pass, one_passes, passing_both, Refusing, gives_none, one_refuses, head_passes, tail_passes}
use Rattle.call.proofs.Facts.{either_true, either_false}

-- ---- 7 for sheets
module _ (inputs bytes : ℕ) where
  pub inputs_hit : most_inputs < inputs → (size_test inputs bytes).hit ≡ true
  inputs_hit h = rw (lt-ltb most_inputs inputs h)

  pub steps_hit : most_steps < bytes / step_bytes → (size_test inputs bytes).hit ≡ true
  steps_hit h = either_true (ltb most_inputs inputs) _ (rw (lt-ltb most_steps (bytes / step_bytes) h))

  pub bytes_hit : (bytes % step_bytes ≡ 0 → ⊥) → (size_test inputs bytes).hit ≡ true
  bytes_hit d = either_true (ltb most_inputs inputs) _ (either_true (ltb most_steps (bytes / step_bytes)) _ (ap not (ne_eqb (bytes % step_bytes) 0 d)))

  pub size_passes : inputs ≤ most_inputs → bytes / step_bytes ≤ most_steps → bytes % step_bytes ≡ 0 → (size_test inputs bytes).hit ≡ false
  size_passes a b d = rw (le-ltb most_inputs inputs a, le-ltb most_steps (bytes / step_bytes) b, eq-eqb (bytes % step_bytes) 0 d)

-- ---- a format that was found passes its test
module _ {n es : ℕ} (f : Formats.Format) (is : (n ≡ f.n) × (es ≡ f.es)) where
  pub format_passed : Passing (format_test n es ∷ [])
  format_passed = rw (is.0, is.1) (one_passes (format_clear (within f)) all_pass)

  pub size_passed : (inputs bytes : ℕ) → inputs ≤ most_inputs → bytes / step_bytes ≤ most_steps → bytes % step_bytes ≡ 0 → Passing (format_test n es ∷ size_test inputs bytes ∷ [])
  size_passed inputs bytes a b d = passing_both format_passed (one_passes (size_passes inputs bytes a b d) all_pass)

-- ---- what passes
pub sheet_refusing : (n es inputs bytes lent : ℕ) → Refusing (sheet_limits n es inputs bytes lent)
sheet_refusing n es inputs bytes lent = one_refuses refl (one_refuses refl (one_refuses refl gives_none))

pub sheet_fits : {n es inputs bytes lent : ℕ} → Passing (sheet_limits n es inputs bytes lent) → SheetFits n es inputs bytes lent
sheet_fits {n} {es} {inputs} {bytes} {lent} p =
    let sizes = either_false (ltb most_inputs inputs) _ (head_passes (tail_passes p)) in
    let steps = either_false (ltb most_steps (bytes / step_bytes)) _ sizes.1 in
    record {
      format = format_of (not-false (is_format n es) (head_passes p));
      few_inputs = ltb-false most_inputs inputs sizes.0;
      few_steps = ltb-false most_steps (bytes / step_bytes) steps.0;
      whole_steps = eqb-true (bytes % step_bytes) 0 (not-false (eqb (bytes % step_bytes) 0) steps.1);
      room = ltb-false lent (0 + (inputs + bytes / step_bytes)) (head_passes (tail_passes (tail_passes p)));
    }

-- ---- and back
pub sheet_passing : {n es inputs bytes lent : ℕ} → SheetFits n es inputs bytes lent → Passing (sheet_limits n es inputs bytes lent)
sheet_passing {n} {es} {inputs} {bytes} {lent} f =
    one_passes (format_clear f.format)
    (one_passes (size_passes inputs bytes f.few_inputs f.few_steps f.whole_steps)
    (one_passes (le-ltb lent (0 + (inputs + bytes / step_bytes)) f.room) all_pass))
