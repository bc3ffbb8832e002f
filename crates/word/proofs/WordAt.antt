-- The word of an interval of cells is real and has these cells; the canonical empty word is real and has none.
use mathlib.Core.Path.{◌≡◌, refl, ap, ◌∙◌}
use mathlib.Core.Bool.{Bool, true, false}
use mathlib.Core.Logic.{◌≢◌}
use Prim.Native.Nat.{ℕ, ◌≤◌, ◌<◌}
use native.Mathlib.Omega.{arith}
use native.Mathlib.Decide.{dec_lt}
use borrow.Author.Tests.{lt-ltb, le-ltb}
use Rattle.posit.specs.Format.{Finite}
use Rattle.posit.proofs.Mirror.{power_wider}
use Rattle.posit.proofs.Patterns.{some_bit, small_finite}
use Rattle.word.specs.declared.inner.span.Span.{Span}
use Rattle.word.specs.Word.{tiles, words, kind, is_infinite, start_tile, end_tile, word_of, empty_word, closed_nar}
use Rattle.word.specs.Member.{Real}
use Rattle.word.specs.Spans.{start_cell, end_cell, start_tile_at, end_tile_at, no_cells, between, cells_of, Cells, word_at}
use Rattle.word.proofs.Grid.{half, nar_positive}
use Rattle.word.proofs.Places.{Tiled, tiled, start_open, end_open}
use Rattle.word.proofs.WordKinds.{infinite_by_cells}
use Rattle.word.proofs.RealWords.{between_some, between_none}
use Rattle.word.proofs.Words.{start_of_word, end_of_word, word_fits}

not_true : (b : Bool) → b ≢ true → b ≡ false
not_true true h = absurd (h refl)
not_true false h = refl

pub word_at_some : (n : ℕ) (s : Span) → s.lo ≤ s.hi → word_at n s ≡ word_of n (start_tile_at n s.lo) (end_tile_at n s.hi)
word_at_some n s l = rw (le-ltb s.hi s.lo l)

pub word_at_none : (n : ℕ) (s : Span) → s.hi < s.lo → word_at n s ≡ empty_word n
word_at_none n s l = rw (lt-ltb s.hi s.lo l)

module _ (n : ℕ) (wide : 3 ≤ n) where
  -- ---- a word of two tiles that are no closed NaR is real unless its cells are the wrong way round
  pub real_word : {s e : ℕ} → s < tiles n → e < tiles n → s ≢ closed_nar n → e ≢ closed_nar n
      → ((s ≢ e) → ¬ (end_cell n e < start_cell n s)) → Real n (word_of n s e)
  real_word {s} {e} h k c d o =
      let i : start_tile n (word_of n s e) ≡ s = start_of_word n s k in
      let j : end_tile n (word_of n s e) ≡ e = end_of_word n s k in
      let f : word_of n s e < words n = word_fits n h k in
      let (there, back) = infinite_by_cells n wide f (rw i c) (rw j d) in
      record {
        fits = f;
        no_infinity = not_true (is_infinite (kind n (word_of n s e))) (λ t. let (m, l) = there t in o (rw (i, j) at m) (rw (i, j) at l));
      }

  -- ---- an interval of cells
  module _ (s : Span) (c : Cells n s) (l : s.lo ≤ s.hi) where
    low_tiled : Tiled n s.lo
    low_tiled = tiled n wide s.lo (omega (arith, c))

    high_tiled : Tiled n s.hi
    high_tiled = tiled n wide s.hi (omega (arith, c))

    pub start_at : start_tile n (word_at n s) ≡ start_tile_at n s.lo
    start_at = rw (word_at_some n s l) (start_of_word n (start_tile_at n s.lo) high_tiled.end_tile_fits)

    pub end_at : end_tile n (word_at n s) ≡ end_tile_at n s.hi
    end_at = rw (word_at_some n s l) (end_of_word n (start_tile_at n s.lo) high_tiled.end_tile_fits)

    pub first_cell_at : start_cell n (start_tile n (word_at n s)) ≡ s.lo
    first_cell_at = ap (start_cell n) start_at ∙ low_tiled.start_cell_back

    pub last_cell_at : end_cell n (end_tile n (word_at n s)) ≡ s.hi
    last_cell_at = ap (end_cell n) end_at ∙ high_tiled.end_cell_back

    pub cells_at : cells_of n (word_at n s) ≡ s
    cells_at =
        between_some n (start_tile n (word_at n s)) (end_tile n (word_at n s)) (omega (arith, first_cell_at, last_cell_at))
        ∙ (λ i. record { lo = first_cell_at i; hi = last_cell_at i })

    some_real : Real n (word_at n s)
    some_real =
        rw (word_at_some n s l)
        (real_word low_tiled.start_tile_fits high_tiled.end_tile_fits low_tiled.start_tile_not_nar high_tiled.end_tile_not_nar
        (λ i k. absurd (omega (arith, low_tiled.start_cell_back, high_tiled.end_cell_back))))

  -- ---- the canonical empty word
  one_fits : 1 < tiles n
  one_fits = omega (arith, power_wider n, half n (some_bit n wide), nar_positive n (some_bit n wide))

  pub empty_word_real : Real n (empty_word n)
  empty_word_real = real_word one_fits one_fits (omega arith) (omega arith) (λ i. absurd (i refl))

  pub empty_word_cells : cells_of n (empty_word n) ≡ no_cells n
  empty_word_cells =
      let f : Finite n 0 = small_finite n wide (omega arith) in
      ap (λ (s : ℕ). between n s (end_tile n (empty_word n))) (start_of_word n 1 one_fits) ∙ ap (between n 1) (end_of_word n 1 one_fits)
      ∙ between_none n 1 1 (omega (arith, start_open n wide f, end_open n wide f))

  pub word_at_real : (s : Span) → Cells n s → Real n (word_at n s)
  word_at_real s c = go (dec_lt s.hi s.lo)
    where
      go : Dec (s.hi < s.lo) → Real n (word_at n s)
      go (yes l) = rw (word_at_none n s l) empty_word_real
      go (no l) = some_real s c (omega arith)
