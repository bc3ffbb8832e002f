-- `posit::inner::locate::locate` meets its contract: each way out is a law of `LocatesBy`, and every number on the way fits its word (`Bounds`).
use Rattle.posit.proofs.Formats.{within}
use Rattle.std.proofs.Common.{◌≡◌, ℕ, ◌+◌, ◌-◌, ◌*◌, ◌/◌, ◌%◌, ◌^◌, ◌<◌, ◌≤◌, sym, refl, ◌∙◌, subst, ⊎_elim, arith, pow_mono, ne_eqb}
use Rattle.posit.proofs.Bounds.{high_at_least, high_below, exponent_fits, behind_fits}
use Rattle.posit.proofs.Place.{behind}
use Rattle.posit.proofs.Bracketed.{lowest}
use Rattle.posit.proofs.LocatesBy.{Scale, below_min_pos, zeros_first, ones_first, last_hit, last_passed, scale_with, twice_with, regime_with, bits_with}
use Rattle.posit.proofs.Chosen.{either_run}
use Rattle.posit.proofs.inner.locate.locate.Goals as goal
use Rattle.posit.proofs.inner.locate.locate.Goals.{After-highest_bit-h, After-power-5}

-- ---- the highest bit
below_62 : (c : After-highest_bit-h) → c.highest_bit-h.result < 62
below_62 c = high_below 62 c.args.x.g_below c.highest_bit-h.ensures

from_16 : (c : After-highest_bit-h) → 16 ≤ c.highest_bit-h.result
from_16 c = high_at_least 16 c.args.x.g_from c.highest_bit-h.ensures

-- ---- where all five powers are there: the scale, and the code's numbers as the laws have them
abbrev top : After-power-5 → ℕ
top c = c.highest_bit-h.result

abbrev lift : After-power-5 → ℕ
lift c = c.args.x.s + top c

abbrev scale : After-power-5 → ℕ
scale c = lift c + lowest c.args.f.n c.args.f.es - c.args.x.a

known : (c : After-power-5) → Scale c.args.f.n c.args.f.es c.args.x.g c.args.x.s c.args.x.a (top c) (scale c)
known c =
    let l = rw c.power.ensures at c.if-lift-x.false in
    record { format = within c.args.f; high = c.highest_bit-h.ensures; large = c.args.x.g_from; scale_is = omega arith }

scale_is : (c : After-power-5) → lift c + (c.args.f.n - 1) * c.power.result - c.args.x.a ≡ scale c
scale_is c = scale_with (lift c) c.args.f.n c.args.x.a c.args.f.es c.power.ensures

abbrev regime : After-power-5 → ℕ
regime c =
    (lift c + (c.args.f.n - 1) * c.power.result - c.args.x.a) / c.power-2.result

regime_is : (c : After-power-5) → regime c ≡ scale c / 2 ^ c.args.f.es
regime_is c =
    regime_with (lift c) c.args.f.n c.args.x.a c.args.f.es c.power.ensures
    c.power-2.ensures

abbrev bits : After-power-5 → ℕ
bits c =
    (lift c + (c.args.f.n - 1) * c.power.result - c.args.x.a) % c.power-3.result
    * c.power-4.result
    + (c.args.x.g - c.power-5.result)

bits_are : (c : After-power-5) → bits c ≡ behind (top c) (scale c % 2 ^ c.args.f.es) c.args.x.g
bits_are c =
    bits_with (lift c) c.args.f.n c.args.x.a c.args.f.es c.args.x.g (top c)
    c.power.ensures c.power-3.ensures c.power-4.ensures c.power-5.ensures

width_fits : (c : After-power-5) → top c + c.args.f.es < 64
width_fits c = omega (arith, high_below 62 c.args.x.g_below c.highest_bit-h.ensures, c.args.f.exponent_fits)

bits_fit : (c : After-power-5) → bits c < 2 ^ (top c + c.args.f.es)
bits_fit c =
    subst (λ (k : ℕ). k < 2 ^ (top c + c.args.f.es)) (sym (bits_are c))
    (behind_fits (scale c) c.args.f.es (top c) c.args.x.g (known c).high)

pub returns-then-lift-x : goal.returns-then-lift-x
returns-then-lift-x c =
    below_min_pos c.args.x.s c.args.x.a (within c.args.f) c.highest_bit-h.ensures
    (rw c.power.ensures at c.if-lift-x.true)

pub power-requires-4 : goal.power-requires-4
power-requires-4 c = omega (arith, below_62 (goal.at.power-requires-4 c).After-highest_bit-h)

pub overflow_mul-tail : goal.overflow_mul-tail
overflow_mul-tail c =
    record { fits = exponent_fits _ _ _ (omega (arith, below_62 (goal.at.overflow_mul-tail c).After-highest_bit-h, c.args.f.exponent_fits)) c.power-3.ensures c.power-4.ensures }

pub power-requires-5 : goal.power-requires-5
power-requires-5 c = omega (arith, below_62 (goal.at.power-requires-5 c).After-highest_bit-h)

pub overflow_add-tail : goal.overflow_add-tail
overflow_add-tail c = record { fits = omega (arith, bits_fit c, pow_mono {i = top c + c.args.f.es} {j = 64} (omega (arith, width_fits c))) }

pub overflow_add-h : goal.overflow_add-h
overflow_add-h c = record { fits = omega (arith, width_fits (goal.at.overflow_add-h c).After-power-5) }

pub behind_run-requires : goal.behind_run-requires
behind_run-requires c = (
  c.if-regime-f.true,
  omega (arith, from_16 (goal.at.behind_run-requires c).After-highest_bit-h),
  width_fits (goal.at.behind_run-requires c).After-power-5,
  bits_fit (goal.at.behind_run-requires c).After-power-5,
)

pub returns-then-regime-f : goal.returns-then-regime-f
returns-then-regime-f c =
    let at = (goal.at.returns-then-regime-f c).After-power-5 in
    ⊎_elim
    (λ l. zeros_first (known at) (c.behind_run.ensures.zeros l) (bits_are at) refl (regime_is at) l)
    (λ l.
    ones_first (known at) (c.behind_run.ensures.ones l) (bits_are at) refl (omega (arith, regime_is at, l))
    (omega (arith, regime_is at, l, c.if-regime-f.true)))
    (either_run c.args.f.n (regime at) c.args.f.not_too_wide c.if-regime-f.true)

pub power-requires-then-scale-f : goal.power-requires-then-scale-f
power-requires-then-scale-f c = omega (arith, below_62 (goal.at.power-requires-then-scale-f c).After-highest_bit-h)

pub returns-then-scale-f : goal.returns-then-scale-f
returns-then-scale-f c =
    last_hit (known (goal.at.returns-then-scale-f c).After-power-5) c.power32.ensures c.power-then-scale-f.ensures
    (sym (scale_is (goal.at.returns-then-scale-f c).After-power-5) ∙ c.if-scale-f.true ∙ twice_with c.args.f.n c.args.f.es c.power-6.ensures)

pub returns-else-scale-f : goal.returns-else-scale-f
returns-else-scale-f c =
    last_passed (known (goal.at.returns-else-scale-f c).After-power-5) c.power32.ensures (ne_eqb _ _ c.if-scale-f.false) (omega (arith, regime_is (goal.at.returns-else-scale-f c).After-power-5))
    (λ z. c.if-scale-f.false (scale_is (goal.at.returns-else-scale-f c).After-power-5 ∙ z ∙ sym (twice_with c.args.f.n c.args.f.es c.power-6.ensures)))
