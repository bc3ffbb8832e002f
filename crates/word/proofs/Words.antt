-- A word is read back into its two tiles, their posits and their marks, and so two words with the same tiles are the same.
use mathlib.Core.Path.{◌≡◌, sym, ap, ◌∙◌}
use Prim.Native.Nat.{ℕ, ◌+◌, ◌*◌, ◌^◌, ◌<◌}
use native.Mathlib.Omega.{arith}
use lib.Pow.{high, low, split, pow-add}
use lib.Arith.{digits_lt}
use Rattle.posit.proofs.Mirror.{power_wider}
use Rattle.word.specs.Word.{tiles, words, word_of, start_tile, end_tile, posit_of, mark_of}

module _ (n : ℕ) where
  pub start_of_word : (s : ℕ) {e : ℕ} → e < tiles n → start_tile n (word_of n s e) ≡ s
  start_of_word s h = high s (n + 1) h

  pub end_of_word : (s : ℕ) {e : ℕ} → e < tiles n → end_tile n (word_of n s e) ≡ e
  end_of_word s h = low s (n + 1) h

  pub word_of_tiles : (w : ℕ) → word_of n (start_tile n w) (end_tile n w) ≡ w
  word_of_tiles w = split w (n + 1)

  pub same_tiles : (w v : ℕ) → start_tile n w ≡ start_tile n v → end_tile n w ≡ end_tile n v → w ≡ v
  same_tiles w v s e = sym (word_of_tiles w) ∙ ap (λ (i : ℕ). word_of n i (end_tile n w)) s ∙ ap (word_of n (start_tile n v)) e ∙ word_of_tiles v

  pub word_fits : {s e : ℕ} → s < tiles n → e < tiles n → word_of n s e < words n
  word_fits {s} {e} h k = rw square (digits_lt h k)
    where
      square : words n ≡ tiles n * tiles n
      square = ap (λ (i : ℕ). 2 ^ i) {x = 2 * n + 2} {y = n + 1 + (n + 1)} (omega arith) ∙ pow-add 2 (n + 1) (n + 1)

  -- ---- posits and marks
  tile_fits : {p u : ℕ} → p < 2 ^ n → u < 2 → 2 * p + u < tiles n
  tile_fits h k = omega (arith, power_wider n)

  posit_of_says : (p : ℕ) {u : ℕ} → u < 2 → posit_of (2 * p + u) ≡ p
  posit_of_says p h = omega arith

  mark_of_says : (p : ℕ) {u : ℕ} → u < 2 → mark_of (2 * p + u) ≡ u
  mark_of_says p h = omega arith

  module _ (p : ℕ) {u q v : ℕ} (i : u < 2) (h : q < 2 ^ n) (j : v < 2) where
    pub start_posit_back : posit_of (start_tile n (word_of n (2 * p + u) (2 * q + v))) ≡ p
    start_posit_back = ap posit_of (start_of_word (2 * p + u) (tile_fits h j)) ∙ posit_of_says p i

    pub start_mark_back : mark_of (start_tile n (word_of n (2 * p + u) (2 * q + v))) ≡ u
    start_mark_back = ap mark_of (start_of_word (2 * p + u) (tile_fits h j)) ∙ mark_of_says p i

    pub end_posit_back : posit_of (end_tile n (word_of n (2 * p + u) (2 * q + v))) ≡ q
    end_posit_back = ap posit_of (end_of_word (2 * p + u) (tile_fits h j)) ∙ posit_of_says q j

    pub end_mark_back : mark_of (end_tile n (word_of n (2 * p + u) (2 * q + v))) ≡ v
    end_mark_back = ap mark_of (end_of_word (2 * p + u) (tile_fits h j)) ∙ mark_of_says q j
