-- `word::inner::word::take_word` meets its contract: each of its answers is a law of `Taking`.
use Rattle.std.proofs.Common.{◌<◌, ◌∙◌, sym}
use native.Mathlib.Omega.{arith}
use Rattle.word.specs.Word.{tiles}
use Rattle.word.proofs.Places.{start_tile_of_word, end_tile_of_word}
use Rattle.word.proofs.Taking.{Opened, takes_large, takes_closed_start, takes_closed_end, takes_cells, takes_none, takes_turned}
use Rattle.word.proofs.Tiles.{closed_from_zero, closed_to_zero}
use Rattle.word.proofs.inner.word.take_word.Goals as goal
use Rattle.word.proofs.inner.word.take_word.Goals.{After-end_cell-hi, then-half_turn-eq0-via-then-half_turn-eq0, then-half_turn-eq0-via-else-half_turn-eq0+then-half_turn-eq0-2}

pub half_turn-requires : goal.half_turn-requires
half_turn-requires c = omega (arith, start_tile_of_word c.args.n c.requires.0 {w = c.args.w} (omega arith))

pub returns-then-power-w : goal.returns-then-power-w
returns-then-power-w c = takes_large _ _ (omega arith)

pub returns-then-half_turn-eq0 : goal.returns-then-half_turn-eq0
returns-then-half_turn-eq0 c =
    let n = c.args.n in
    let wide = c.requires.0 in
    elim c.then-half_turn-eq0.branch [
      | then-half_turn-eq0-via-then-half_turn-eq0 w ↦
          takes_closed_start _ _ (omega arith)
          (sym c.start_tile-start.ensures
          ∙ closed_from_zero wide _ (omega (arith, start_tile_of_word n wide {w = c.args.w} (omega arith))) c.half_turn.ensures w.if-half_turn-eq0.true)
      | then-half_turn-eq0-via-else-half_turn-eq0+then-half_turn-eq0-2 w ↦
          takes_closed_end _ _ (omega arith)
          (sym c.end_tile-end.ensures
          ∙ closed_from_zero wide _ (omega (arith, end_tile_of_word n wide c.args.w)) w.half_turn-else-half_turn-eq0.ensures w.if-half_turn-eq0-2.true)
    ]

opened : (c : After-end_cell-hi) → Opened c.args.n c.args.w c.start_tile-start.result c.end_tile-end.result c.start_cell-lo.result c.end_cell-hi.result
opened c =
    let n = c.args.n in
    let wide = c.requires.0 in
    record {
      wide = wide;
      fits = omega arith;
      start = c.start_tile-start.ensures;
      end = c.end_tile-end.ensures;
      start_other = λ e. c.if-half_turn-eq0.false (closed_to_zero wide _ (omega (arith, start_tile_of_word n wide {w = c.args.w} (omega arith))) c.half_turn.ensures e);
      end_other = λ e. c.if-half_turn-eq0-2.false (closed_to_zero wide _ (omega (arith, end_tile_of_word n wide c.args.w)) c.half_turn-else-half_turn-eq0.ensures e);
      first = c.start_cell-lo.ensures;
      last = c.end_cell-hi.ensures;
    }

pub start_cell-lo-requires : goal.start_cell-lo-requires
start_cell-lo-requires c =
    let there : c.start_tile-start.result < tiles c.args.n = omega (arith, start_tile_of_word c.args.n c.requires.0 {w = c.args.w} (omega arith)) in
    (there, λ e. c.if-half_turn-eq0.false (closed_to_zero c.requires.0 _ there c.half_turn.ensures e))

pub returns-then-lo-hi : goal.returns-then-lo-hi
returns-then-lo-hi c = takes_cells (opened (goal.at.returns-then-lo-hi c).After-end_cell-hi) c.if-lo-hi.true

pub returns-then-start-end : goal.returns-then-start-end
returns-then-start-end c =
    rw c.no_cells.ensures (takes_none (opened (goal.at.returns-then-start-end c).After-end_cell-hi) c.if-lo-hi.false c.if-start-end.true)

pub returns : goal.returns
returns c = takes_turned (opened (goal.at.returns c).After-end_cell-hi) c.if-lo-hi.false c.if-start-end.false
