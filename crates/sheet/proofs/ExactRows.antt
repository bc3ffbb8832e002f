-- The exact values of a sheet's rows: as many as inputs and steps, each kept once it is worked, and that of a step the exact result of two earlier ones.
use mathlib.Core.Path.{◌≡◌, refl, sym, ap, ◌∙◌, subst}
use mathlib.Core.List.{List, [], ◌∷◌}
use Prim.Native.Nat.{ℕ, zero, suc, ◌+◌, ◌<◌}
use native.Mathlib.Nat.{add-zero, not-suc-le-zero, le_of_suc-le-suc}
use native.Mathlib.Omega.{arith}
use lib.ListN.{length, get_or, length-append, get_or-append}
use lib.Seq.{get_or-append_seam}
use Rattle.exact.specs.Fraction.{Fraction}
use Rattle.posit.specs.Arithmetic.{exact_result}
use Rattle.sheet.specs.Sheet.{Step, no_step}
use Rattle.sheet.specs.Exact.{nought, exact_of_step, with_exact, exact_rows}

one_more : (xs : List Fraction) (s : Step) → length (with_exact xs s) ≡ length xs + 1
one_more xs s = length-append xs (exact_of_step xs s ∷ [])

pub length_exact : (xs : List Fraction) (steps : List Step) → length (exact_rows xs steps) ≡ length xs + length steps
unfolding exact_rows
length_exact xs [] = sym (add-zero (length xs))
length_exact xs (s ∷ steps) = omega (arith, length_exact (with_exact xs s) steps, one_more xs s)

pub exact_kept : (xs : List Fraction) (steps : List Step) (k : ℕ) → k < length xs → get_or (exact_rows xs steps) k nought ≡ get_or xs k nought
unfolding exact_rows
exact_kept xs [] k h = refl
exact_kept xs (s ∷ steps) k h =
    exact_kept (with_exact xs s) steps k (omega (arith, one_more xs s)) ∙ get_or-append xs (exact_of_step xs s ∷ []) nought k h

-- ---- a step whose two rows are earlier
abbrev exact_at : List Fraction → Step → Fraction
exact_at all s = exact_result s.operation (get_or all s.left nought) (get_or all s.right nought)

pub exact_is : (xs : List Fraction) (steps : List Step) (k : ℕ) → k < length steps → (get_or steps k no_step).left < length xs + k → (get_or steps k no_step).right < length xs + k
    → get_or (exact_rows xs steps) (length xs + k) nought ≡ exact_at (exact_rows xs steps) (get_or steps k no_step)
unfolding exact_rows
exact_is xs [] k h l r = absurd (not-suc-le-zero h)
exact_is xs (s ∷ steps) zero h l r =
    let all = exact_rows (with_exact xs s) steps in
    let earlier = exact_kept xs (s ∷ steps) in
    ap (λ (m : ℕ). get_or all m nought) (add-zero (length xs))
    ∙ exact_kept (with_exact xs s) steps (length xs) (omega (arith, one_more xs s))
    ∙ get_or-append_seam xs (exact_of_step xs s) [] nought
    ∙ ap (λ (x : Fraction). exact_result s.operation x (get_or xs s.right nought)) (sym (earlier s.left (omega arith)))
    ∙ ap (exact_result s.operation (get_or all s.left nought)) (sym (earlier s.right (omega arith)))
exact_is xs (s ∷ steps) (suc k) h l r =
    let more = with_exact xs s in
    let next : length more + k ≡ length xs + suc k = omega (arith, one_more xs s) in
    subst (λ (m : ℕ). get_or (exact_rows more steps) m nought ≡ exact_at (exact_rows more steps) (get_or steps k no_step)) next
    (exact_is more steps k (le_of_suc-le-suc h) (omega (arith, one_more xs s)) (omega (arith, one_more xs s)))
