-- The cells of all results are cells of the format, and make the word of the answer.
use mathlib.Core.Path.{◌≡◌, sym, ap₂, ◌∙◌}
use mathlib.Core.Bool.{true, false}
use Prim.Native.Nat.{ℕ, ◌≤◌}
use lib.Dec.{leb}
use Rattle.word.specs.declared.inner.span.Span.{Span}
use Rattle.word.specs.Member.{Real}
use Rattle.word.specs.Spans.{cells_of, Cells, word_at}
use Rattle.word.specs.Computed.{answer_of}
use Rattle.signs.specs.Signs.{has_zero, has_other, product_cells, quotient_cells}
use Rattle.signs.proofs.SignedCells.{product_answer, quotient_answer}
use Rattle.signs.proofs.ReachedCells.{hull_cells, signed_cells, zero_cells}

module _ (n es : ℕ) (wide : 3 ≤ n) where
  pub quotient_there : (x y : Span) → Cells n (quotient_cells n es x y)
  quotient_there x y = hull_cells n wide (signed_cells n wide es true x y) (zero_cells n wide (has_zero n x) (has_other n y))

  pub product_there : (x y : Span) → Cells n (product_cells n es x y)
  product_there x y =
      hull_cells n wide (hull_cells n wide (signed_cells n wide es false x y) (zero_cells n wide (has_zero n x) (has_other n y)))
      (zero_cells n wide (leb x.lo x.hi) (has_zero n y))

  -- the words of two real ranges' results
  module _ {a b : ℕ} (c : Real n a) (d : Real n b) {x y : Span} (e : x ≡ cells_of n a) (f : y ≡ cells_of n b) {w : ℕ} where
    pub quotient_found : w ≡ word_at n (quotient_cells n es x y) → w ≡ answer_of n es 3 a b
    quotient_found h = h ∙ ap₂ (λ s t. word_at n (quotient_cells n es s t)) e f ∙ sym (quotient_answer n es wide c d)

    pub product_found : w ≡ word_at n (product_cells n es x y) → w ≡ answer_of n es 2 a b
    product_found h = h ∙ ap₂ (λ s t. word_at n (product_cells n es s t)) e f ∙ sym (product_answer n es wide c d)
