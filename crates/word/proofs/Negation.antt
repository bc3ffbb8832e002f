-- The word of the mirrored cells has the two tiles turned round, each with its posit negated; for an empty range it is the canonical empty word.
use mathlib.Core.Path.{◌≡◌, refl, sym, ap, ◌∙◌}
use mathlib.Core.Logic.{◌≢◌}
use Prim.Native.Nat.{ℕ, ◌-◌, ◌%◌, ◌≤◌, ◌<◌}
use native.Mathlib.Omega.{arith}
use Rattle.word.specs.declared.inner.span.Span.{Span}
use Rattle.word.specs.Word.{Kind, holds_infinity, unbounded, interval, point, empty, kind, start_tile, end_tile, open_nar, empty_word, word_of}
use Rattle.word.specs.Member.{Real}
use Rattle.word.specs.Smallest.{IsAnswer}
use Rattle.word.specs.Calls.{Negative}
use Rattle.word.specs.Spans.{top_cell, start_cell, end_cell, start_tile_at, end_tile_at, no_cells, cells_of, mirrored, turned_tile, word_at}
use Rattle.word.proofs.Places.{tile, placed, start_tile_of_word, end_tile_of_word}
use Rattle.word.proofs.WordKinds.{on_posit}
use Rattle.word.proofs.RealWords.{RealCase, has_cells, has_none, real_case, start_not_nar, end_not_nar, start_placed}
use Rattle.word.proofs.WordAt.{word_at_some, word_at_none, cells_at, empty_word_cells}
use Rattle.word.proofs.Turned.{turned}
use Rattle.word.proofs.Mirrored.{mirrored_some, mirrored_none, negation_answer}

-- the first for an empty range, else the second
abbrev by_kind : Kind → ℕ → ℕ → ℕ
by_kind holds_infinity x y = y
by_kind unbounded x y = y
by_kind interval x y = y
by_kind point x y = y
by_kind empty x y = x

abbrev pub turned_round : ℕ → ℕ → ℕ
turned_round n a = word_of n (turned_tile n (end_tile n a)) (turned_tile n (start_tile n a))

abbrev pub turned_word : ℕ → ℕ → ℕ
turned_word n a = by_kind (kind n a) (empty_word n) (turned_round n a)

by_other_kind : (k : Kind) (x y : ℕ) → k ≢ empty → by_kind k x y ≡ y
by_other_kind holds_infinity x y h = refl
by_other_kind unbounded x y h = refl
by_other_kind interval x y h = refl
by_other_kind point x y h = refl
by_other_kind empty x y h = absurd (h refl)

module _ (n : ℕ) (wide : 3 ≤ n) {a : ℕ} (r : Real n a) where
  -- ---- the word of the mirrored cells
  module _ (l : start_cell n (start_tile n a) ≤ end_cell n (end_tile n a)) (e : cells_of n a ≡ record { lo = start_cell n (start_tile n a); hi = end_cell n (end_tile n a) }) where
    abbrev there : Span
    there = record { lo = top_cell n - end_cell n (end_tile n a); hi = top_cell n - start_cell n (start_tile n a) }

    mirrored_there : mirrored n (cells_of n a) ≡ there
    mirrored_there = ap (mirrored n) e ∙ mirrored_some n (record { lo = start_cell n (start_tile n a); hi = end_cell n (end_tile n a) }) l

    start_turned : start_tile_at n there.lo ≡ turned_tile n (end_tile n a)
    start_turned =
        let t = turned n wide (end_tile_of_word n wide a) (end_not_nar n wide r) in
        ap (start_tile_at n) (sym t.start_cell_says) ∙ (placed n wide t.fits t.not_nar).start_tile_back

    end_turned : end_tile_at n there.hi ≡ turned_tile n (start_tile n a)
    end_turned =
        let t = turned n wide (start_tile_of_word n wide r.fits) (start_not_nar n wide r) in
        ap (end_tile_at n) (sym t.end_cell_says) ∙ (placed n wide t.fits t.not_nar).end_tile_back

    round_is_mirrored : turned_round n a ≡ word_at n (mirrored n (cells_of n a))
    round_is_mirrored =
        sym (ap (word_at n) mirrored_there ∙ word_at_some n there (omega arith)
        ∙ ap (λ (i : ℕ). word_of n i (end_tile_at n there.hi)) start_turned ∙ ap (word_of n (turned_tile n (end_tile n a))) end_turned)

    round_cells : cells_of n (word_at n (mirrored n (cells_of n a))) ≡ mirrored n (cells_of n a)
    round_cells = rw mirrored_there (cells_at n wide there (omega (arith, (start_placed n wide r).start_cell_fits)) (omega arith))

  module _ (e : cells_of n a ≡ no_cells n) where
    mirrored_nowhere : mirrored n (cells_of n a) ≡ no_cells n
    mirrored_nowhere = ap (mirrored n) e ∙ mirrored_none n (no_cells n) (omega arith)

    empty_is_mirrored : empty_word n ≡ word_at n (mirrored n (cells_of n a))
    empty_is_mirrored = sym (ap (word_at n) mirrored_nowhere ∙ word_at_none n (no_cells n) (omega arith))

  -- ---- which of the two it is, by the tiles
  odd_twice_has_none : start_tile n a ≡ end_tile n a → start_tile n a % 2 ≡ 1 → start_tile n a ≢ open_nar n → end_cell n (end_tile n a) < start_cell n (start_tile n a)
  odd_twice_has_none i m o =
      let p = on_posit n wide o (tile n wide (start_tile_of_word n wide r.fits) (start_not_nar n wide r)) in
      rw (← i) (omega (arith, p.start_cell_says, p.end_cell_says))

  pub turned_word_is_mirrored : turned_word n a ≡ word_at n (mirrored n (cells_of n a))
  turned_word_is_mirrored = go (real_case n wide r)
    where
      go : RealCase n a → turned_word n a ≡ word_at n (mirrored n (cells_of n a))
      go (has_cells k l e) = by_other_kind (kind n a) (empty_word n) (turned_round n a) k ∙ round_is_mirrored l e
      go (has_none k i m o l e) = ap (λ (x : Kind). by_kind x (empty_word n) (turned_round n a)) k ∙ empty_is_mirrored e

  pub turned_word_cells : cells_of n (turned_word n a) ≡ mirrored n (cells_of n a)
  turned_word_cells = ap (cells_of n) turned_word_is_mirrored ∙ go (real_case n wide r)
    where
      go : RealCase n a → cells_of n (word_at n (mirrored n (cells_of n a))) ≡ mirrored n (cells_of n a)
      go (has_cells k l e) = round_cells l e
      go (has_none k i m o l e) = ap (cells_of n) (sym (empty_is_mirrored e)) ∙ empty_word_cells n wide ∙ sym (mirrored_nowhere e)

module _ (n es : ℕ) (wide : 3 ≤ n) {a : ℕ} (r : Real n a) where
  pub turned_word_is_answer : IsAnswer n es (Negative n es a) (turned_word n a)
  turned_word_is_answer = rw (turned_word_is_mirrored n wide r) (negation_answer n es wide r)

  -- the two cases apart
  pub turned_empty : start_tile n a ≡ end_tile n a → start_tile n a % 2 ≡ 1 → start_tile n a ≢ open_nar n → IsAnswer n es (Negative n es a) (empty_word n)
  turned_empty i m o = go (real_case n wide r)
    where
      go : RealCase n a → IsAnswer n es (Negative n es a) (empty_word n)
      go (has_cells k l e) = absurd (omega (arith, odd_twice_has_none n wide r i m o))
      go (has_none k j p q l e) = rw (empty_is_mirrored n wide r e) (negation_answer n es wide r)

  pub turned_other : ¬ ((start_tile n a ≡ end_tile n a) × (start_tile n a % 2 ≡ 1) × (start_tile n a ≢ open_nar n)) → IsAnswer n es (Negative n es a) (turned_round n a)
  turned_other h = go (real_case n wide r)
    where
      go : RealCase n a → IsAnswer n es (Negative n es a) (turned_round n a)
      go (has_cells k l e) = rw (round_is_mirrored n wide r l e) (negation_answer n es wide r)
      go (has_none k j p q l e) = absurd (h (j, p, q))
