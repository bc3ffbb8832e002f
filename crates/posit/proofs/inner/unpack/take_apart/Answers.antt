-- `posit::inner::unpack::take_apart` meets its contract: the first bit says which run it is, and the laws of `Apart` hold for either.
use Rattle.std.proofs.Common.{◌+◌, ◌-◌, ◌*◌, ◌/◌, ◌≤◌, mod-lt, arith, pow_pos}
use Rattle.posit.proofs.Apart.{FirstBit, first_bit, none_missing, closed_early, parts_by_run, all_ones_parts}
use Rattle.posit.specs.declared.inner.format.Format.{Format}
use Rattle.posit.proofs.Chosen.{either_at_most}
use Rattle.posit.proofs.inner.unpack.take_apart.Goals as goal
use Rattle.posit.proofs.inner.unpack.take_apart.Goals.{After-highest_bit-w, After-power32}

two_bits : (f : Format) → 2 ≤ f.n - 1
two_bits f = omega (arith, f.wide_enough)

-- ---- the first bit, and the bit that closes the run
bit : (c : After-power32) → FirstBit (c.args.f.n - 1) c.args.p (c.args.p / c.power32.result)
bit c = first_bit (c.args.f.n - 1) c.args.p (omega arith) c.requires.1 c.power32.ensures

early : (c : After-highest_bit-w) → c.highest_bit-w.result + 2 ≤ (c.args.f.n - 1)
early c =
    closed_early (two_bits c.args.f) c.requires.1 (first_bit (c.args.f.n - 1) c.args.p (omega arith) c.requires.1 c.power32.ensures) c.power32-2.ensures c.chosen-run.ensures c.highest_bit-w.ensures

pub returns-then-run-eq0 : goal.returns-then-run-eq0
returns-then-run-eq0 c =
    all_ones_parts _ _ _ _ (two_bits c.args.f)
    (none_missing (two_bits c.args.f) c.requires.1 (bit (goal.at.returns-then-run-eq0 c).After-power32) c.power32-2.ensures c.chosen-run.ensures c.requires.0 c.if-run-eq0.true)
    c.power32-then-run-eq0.ensures

pub overflow_sub-b-4 : goal.overflow_sub-b-4
overflow_sub-b-4 c = omega (arith, early c)

pub power32-requires-3 : goal.power32-requires-3
power32-requires-3 c = omega (arith, early (goal.at.power32-requires-3 c).After-highest_bit-w)

pub tail_apart-requires : goal.tail_apart-requires
tail_apart-requires c =
    let at = (goal.at.tail_apart-requires c).After-highest_bit-w in (
      omega (arith, early at, either_at_most (at.args.p / at.power32.result) at.highest_bit-w.result (2 * (at.args.f.n - 1) - 3 - at.highest_bit-w.result) 30 c.chosen-regime.ensures (omega (arith, early at)) (omega (arith, early at))),
      omega (arith, early at),
      rw c.power32-3.ensures (mod-lt at.args.p (pow_pos at.highest_bit-w.result)),
    )

pub returns : goal.returns
returns c =
    parts_by_run (two_bits c.args.f) c.requires.1 (bit (goal.at.returns c).After-power32) c.power32-2.ensures c.chosen-run.ensures c.highest_bit-w.ensures
    c.chosen-regime.ensures c.tail_apart.ensures c.power32-3.ensures
