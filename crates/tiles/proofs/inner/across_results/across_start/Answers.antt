-- `tiles::inner::across_results::across_start` meets its contract: beyond an open 0 the sums start at the posit below 0, open, else at the exact sum of the two, which is
-- nothing where one takes the other away (`SumTiles`).
use Rattle.posit.proofs.Formats.{within}
use Rattle.std.specs.Prelude.{Option, Some, None}
use Rattle.std.proofs.Common.{◌≡◌, ℕ, ◌+◌, ◌-◌, ◌*◌, ◌/◌, ◌^◌, ◌<◌, Bool, true, false, ltb, sym, refl, ap, ◌∙◌, arith}
use Rattle.exact.specs.Fraction.{Fraction, ◌+ᶠ◌}
use Rattle.exact.proofs.Sum.{+ᶠ_comm}
use Rattle.posit.specs.Format.{Finite, nar}
use Rattle.posit.specs.Magnitudes.{with_signᶠ}
use Rattle.posit.specs.Value.{value}
use Rattle.posit.proofs.Mirror.{power_wider}
use Rattle.code.specs.Code.{code_value}
use Rattle.posit.specs.declared.inner.signed.Signed.{Signed}
use Rattle.code.proofs.Ordered.{codes_differ, codes_ordered}
use Rattle.word.specs.Spans.{start_tile_at}
use Rattle.cell.specs.Cells.{tile_with_sign}
use Rattle.word.specs.Word.{tiles}
use Rattle.word.specs.Computed.{cell_of}
use Rattle.cell.proofs.CellFrom.{cell_same}
use Rattle.cell.proofs.SumCells.{above_finite, size_below, across_signed, above_signed, signed_sum, opposite}
use Rattle.tiles.proofs.PlainCells.{start_posit_fits, start_finite}
use Rattle.tiles.proofs.AcrossCells.{below_posit}
use Rattle.tiles.proofs.SumTiles.{sums_marked, sums_from_left, nothing_tile, something_tile}
use Rattle.tiles.proofs.inner.across_results.across_start.Goals as goal
use Rattle.tiles.proofs.inner.across_results.across_start.Goals.{After-code_of-2, After-difference-size, After-power32, Start}

-- ---- both posits are finite, and their codes have the cell of the exact sum
left_finite : (c : Start) → Finite c.args.f.n (c.args.s / 2)
left_finite c = let (h, l) = below_posit c.args.f.n c.args.f.wide_enough c.requires.0 c.requires.1 in above_finite (within c.args.f) h l

right_finite : (c : Start) → Finite c.args.f.n (c.args.t / 2)
right_finite c = start_finite c.args.f.n c.args.f.wide_enough c.requires.2

-- the size of the posit below 0 by its tile
size_is : (n : ℕ) {s all : ℕ} → s < tiles n → all ≡ 2 ^ n → (2 * all + 1 - s) / 2 ≡ 2 ^ n - s / 2
size_is n l e = omega (arith, power_wider n)

size_here : (c : After-power32) → (2 * c.power32.result + 1 - c.args.s) / 2 ≡ 2 ^ c.args.f.n - c.args.s / 2
size_here c = size_is c.args.f.n c.requires.1 c.power32.ensures

-- ---- the needs
pub returns-then-t-eq-OPEN_ZERO : goal.returns-then-t-eq-OPEN_ZERO
returns-then-t-eq-OPEN_ZERO c =
    let at = (goal.at.returns-then-t-eq-OPEN_ZERO c).Start in
    sums_from_left c.args.f.n c.args.f.es c.args.f.wide_enough c.args.s c.args.t (left_finite at) (right_finite at) c.if-t-eq-OPEN_ZERO.true

pub returns-then-p-q : goal.returns-then-p-q
returns-then-p-q c =
    let at = goal.at.returns-then-p-q c in
    let wide = c.args.f.wide_enough in
    let (h, l) = below_posit c.args.f.n wide c.requires.0 c.requires.1 in
    sums_marked c.args.f.n c.args.f.es wide c.args.s c.args.t (left_finite at.Start) (right_finite at.Start)
    (nothing_tile c.args.f.n c.args.f.es wide _ {r = None} (opposite (within c.args.f) h l (sym (size_here at.After-power32) ∙ c.if-p-q.true)) refl)

-- both are above 0 and below NaR
above_here : (c : After-code_of-2) → (0 < c.args.t / 2) × (c.args.t / 2 < nar c.args.f.n)
above_here c = start_posit_fits c.args.f.n c.args.f.wide_enough c.requires.2 c.if-t-eq-OPEN_ZERO.false

below_here : (c : After-code_of-2)
    → let p = (2 * c.power32.result + 1 - c.args.s) / 2 in
    (0 < p) × (p < nar c.args.f.n)
below_here c =
    let (h, l) = below_posit c.args.f.n c.args.f.wide_enough c.requires.0 c.requires.1 in
    rw (size_is c.args.f.n c.requires.1 c.power32.ensures) (size_below (within c.args.f) h l refl)

pub difference-size-requires : goal.difference-size-requires
difference-size-requires c = (
  c.code_of.ensures.code,
  c.code_of-2.ensures.code,
  codes_differ (within c.args.f) c.code_of.ensures c.code_of-2.ensures (above_here c).1 (below_here c).1 (λ e. c.if-p-q.false (sym e)),
)

-- ---- the exact sum by the codes: that of the posit above 0 less that of the other one's size
abbrev told : After-difference-size → Option (Signed ℕ)
told c = Some (record { negative = ltb c.code_of.result c.code_of-2.result; size = c.difference-size.result })

abbrev exact : After-code_of-2 → Fraction
exact c = with_signᶠ false (code_value 52 c.code_of.result) +ᶠ with_signᶠ true (code_value 52 c.code_of-2.result)

same_cell :
    (c : After-code_of-2)
    → cell_of c.args.f.n c.args.f.es (exact c)
    ≡ cell_of c.args.f.n c.args.f.es (value c.args.f.n c.args.f.es (c.args.s / 2) +ᶠ value c.args.f.n c.args.f.es (c.args.t / 2))
same_cell c =
    let n = c.args.f.n in
    let es = c.args.f.es in
    let wide = c.args.f.wide_enough in
    let (h, l) = below_posit n wide c.requires.0 c.requires.1 in
    signed_sum n es wide (above_signed c.code_of.ensures)
    (across_signed (within c.args.f) h l {all = 2 ^ n} refl (rw (size_is n c.requires.1 c.power32.ensures) at c.code_of-2.ensures))
    ∙ cell_same n es wide (+ᶠ_comm (value n es (c.args.t / 2)) (value n es (c.args.s / 2)))

-- the codes compare as the posits do
same_order :
    (c : After-code_of-2)
    → ltb c.code_of.result c.code_of-2.result ≡ ltb (c.args.t / 2) ((2 * c.power32.result + 1 - c.args.s) / 2)
same_order c = codes_ordered (within c.args.f) c.code_of-2.ensures c.code_of.ensures (below_here c).1 (above_here c).1 c.if-p-q.false

pub returns : goal.returns
returns c =
    let at = goal.at.returns c in
    let n = c.args.f.n in
    sums_marked n c.args.f.es c.args.f.wide_enough c.args.s c.args.t (left_finite at.Start) (right_finite at.Start)
    (something_tile (within c.args.f) (exact at.After-code_of-2) {r = told at.After-difference-size} c.difference-size.ensures refl c.step_of.ensures
    (c.signed_tile.ensures ∙ ap (λ (b : Bool). tile_with_sign n b c.step_of.result) (sym (same_order at.After-code_of-2)))
    ∙ ap (start_tile_at n) (same_cell at.After-code_of-2))
