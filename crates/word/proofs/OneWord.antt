-- Real ranges with the same members have the same cells, and a word that has a cell is settled by them: so every real range that is not empty has
-- one word, and every set of results one answer.
use mathlib.Core.Path.{◌≡◌, sym, ap, ◌∙◌}
use mathlib.Core.Logic.{◌≢◌, ◌↔◌, ◌⊎◌, inl, inr}
use Prim.Native.Nat.{ℕ, ◌≤◌, ◌<◌}
use native.Mathlib.Nat.{le_antisymm}
use native.Mathlib.Omega.{arith}
use native.Mathlib.Decide.{dec_lt}
use Rattle.exact.specs.Fraction.{Fraction}
use Rattle.word.specs.Word.{empty, kind, start_tile, end_tile}
use Rattle.word.specs.Member.{Real, Member, Inside}
use Rattle.word.specs.Spans.{start_cell, end_cell, start_tile_at, end_tile_at, cells_of}
use Rattle.word.specs.Smallest.{IsAnswer}
use Rattle.word.proofs.RealWords.{RealCase, has_cells, has_none, real_case, start_placed, end_placed}
use Rattle.word.proofs.Members.{member_cells}
use Rattle.word.proofs.Comparisons.{inside_by_cells}
use Rattle.word.proofs.Words.{same_tiles}

module _ (n : ℕ) (wide : 3 ≤ n) {w v : ℕ} (r : Real n w) (q : Real n v) where
  -- ---- a word with a cell, from its first and its last cell
  same_cells : (cells_of n w).lo ≤ (cells_of n w).hi → (cells_of n w).lo ≡ (cells_of n v).lo → (cells_of n w).hi ≡ (cells_of n v).hi → w ≡ v
  same_cells l i j = go (real_case n wide r) (real_case n wide q)
    where
      go : RealCase n w → RealCase n v → w ≡ v
      go (has_none t a m o k e) d = absurd (omega (arith, rw e at l))
      go (has_cells o k e) (has_none t a m p h f) = absurd (omega (arith, ap (λ s. s.lo) f, ap (λ s. s.hi) f))
      go (has_cells o k e) (has_cells p h f) =
          let a : start_cell n (start_tile n w) ≡ start_cell n (start_tile n v) = rw (e, f) at i in
          let b : end_cell n (end_tile n w) ≡ end_cell n (end_tile n v) = rw (e, f) at j in
          same_tiles n w v
          (sym (start_placed n wide r).start_tile_back ∙ ap (start_tile_at n) a ∙ (start_placed n wide q).start_tile_back)
          (sym (end_placed n wide r).end_tile_back ∙ ap (end_tile_at n) b ∙ (end_placed n wide q).end_tile_back)

module _ (n es : ℕ) (wide : 3 ≤ n) {w v : ℕ} (r : Real n w) (q : Real n v) where
  one_word_of_cells : (cells_of n w).lo ≤ (cells_of n w).hi → Inside n es w v → Inside n es v w → w ≡ v
  one_word_of_cells l h k = go ((inside_by_cells n es wide r q).0 h) ((inside_by_cells n es wide q r).0 k)
    where
      go : ((cells_of n w).hi < (cells_of n w).lo) ⊎ (((cells_of n v).lo ≤ (cells_of n w).lo) × ((cells_of n w).hi ≤ (cells_of n v).hi))
          → ((cells_of n v).hi < (cells_of n v).lo) ⊎ (((cells_of n w).lo ≤ (cells_of n v).lo) × ((cells_of n v).hi ≤ (cells_of n w).hi)) → w ≡ v
      go (inl a) b = absurd (omega arith)
      go (inr a) (inl b) = absurd (omega arith)
      go (inr a) (inr b) = same_cells n wide r q l (le_antisymm b.0 a.0) (le_antisymm a.1 b.1)

  pub one_word : kind n w ≢ empty → ((x : Fraction) → Member n es w x ↔ Member n es v x) → w ≡ v
  one_word k same = one_word_of_cells (by (real_case n wide r)) (λ x m. (same x).0 m) (λ x m. (same x).1 m)
    where
      by : RealCase n w → (cells_of n w).lo ≤ (cells_of n w).hi
      by (has_cells o l e) = rw e l
      by (has_none t a m o l e) = absurd (k t)

-- ---- one answer
module _ (n es : ℕ) (wide : 3 ≤ n) {S : Fraction → Type 0} {w v : ℕ} (a : IsAnswer n es S w) (b : IsAnswer n es S v) where
  pub one_answer : w ≡ v
  one_answer = go (dec_lt (cells_of n w).hi (cells_of n w).lo)
    where
      p : Real n w
      p = a.smallest.real

      q : Real n v
      q = b.smallest.real

      go : Dec ((cells_of n w).hi < (cells_of n w).lo) → w ≡ v
      go (yes l) =
          let none : (x : Fraction) → ¬ S x = λ x m. (let i = (member_cells n es wide p x).0 (a.smallest.holds x m) in absurd (omega (arith, i))) in
          a.empty_word_says none ∙ sym (b.empty_word_says none)
      go (no l) =
          one_word_of_cells n es wide p q (omega arith) (a.smallest.inside v q b.smallest.holds) (b.smallest.inside w p a.smallest.holds)
