-- The verdict of a call on ranges by its tests; a call that is done has a format and real ranges.
use mathlib.Core.Path.{◌≡◌, refl, sym, ap, ◌∙◌}
use mathlib.Core.Bool.{Bool, true, false, not}
use mathlib.Core.Logic.{◌≢◌}
use mathlib.Core.List.{List, [], ◌∷◌}
use Prim.Native.Nat.{ℕ, ◌≤◌, ◌<◌}
use native.Mathlib.Decide.{ℕ_discrete}
use borrow.Author.Tests.{le-leb, lt-leb, le-ltb, lt-ltb, leb-false, not-false}
use Rattle.posit.specs.Format.{Format, is_format}
use Rattle.call.specs.Verdict.{Verdict, Test, done, refused, first_hit}
use Rattle.call.specs.Place.{left, right}
use Rattle.posit.specs.Refusal.{format_test}
use Rattle.call.proofs.FirstHit.{hits, passes, none_hits}
use Rattle.call.proofs.Answered.{accepts}
use Rattle.call.proofs.Said.{refused_first}
use Rattle.call.specs.Operation.{operation_test}
use Rattle.posit.proofs.Verdicts.{format_of}
use Rattle.call.proofs.Tests.{one_refuses, gives_none, head_passes, tail_passes, first_passes, passing_of, passing_done, refusal_stays}
use Rattle.call.specs.declared.refusal.Refusal.{Refusal}
use Rattle.posit.specs.declared.inner.format.Format as Format
use Rattle.posit.proofs.Formats.{within}
use Rattle.word.specs.Word.{words, kind, is_infinite}
use Rattle.word.specs.Member.{Real}
use Rattle.word.specs.Refusal.{verdict_of_range, verdict_of_ranges, verdict_of_words, verdict_of_operands, verdict_of_range_operation, operand_tests, divisor_test, word_test, infinity_test}
use Rattle.word.specs.Calls.{verdict_of_word, Tells}

-- ---- one word
module _ (n place a : ℕ) where
  pub word_too_large : words n ≤ a → verdict_of_word n place a ≡ record { number = 3; place = place }
  word_too_large h = hits (word_test n place a) _ (le-leb (words n) a h)

  word_fits : a < words n → verdict_of_word n place a ≡ first_hit (infinity_test n place a ∷ [])
  word_fits h = passes (word_test n place a) _ (lt-leb (words n) a h)

  pub word_infinite : a < words n → is_infinite (kind n a) ≡ true → verdict_of_word n place a ≡ record { number = 4; place = place }
  word_infinite h e = word_fits h ∙ hits (infinity_test n place a) _ e

  pub word_done : a < words n → is_infinite (kind n a) ≡ false → verdict_of_word n place a ≡ done
  word_done h e = word_fits h ∙ passes (infinity_test n place a) _ e ∙ none_hits

  pub word_real : (verdict_of_word n place a).number ≡ 0 → Real n a
  word_real z =
      let p = passing_of {ts = word_test n place a ∷ infinity_test n place a ∷ []} (one_refuses refl (one_refuses refl gives_none)) z in
      record { fits = leb-false (words n) a (head_passes p); no_infinity = head_passes (tail_passes p) }

  pub real_done : Real n a → verdict_of_word n place a ≡ done
  real_done r = word_done r.fits r.no_infinity

-- ---- two words: the left one, then the right one
module _ (n a b : ℕ) where
  abbrev right_tests : List Test
  right_tests = word_test n right b ∷ infinity_test n right b ∷ []

  pub words_by_left : (e : Refusal) → verdict_of_word n left a ≡ refused e → verdict_of_words n a b ≡ refused e
  unfolding verdict_of_words
  words_by_left e s = refused_first (word_test n left a ∷ infinity_test n left a ∷ []) right_tests e s

  pub words_by_right : Real n a → verdict_of_words n a b ≡ verdict_of_word n right b
  unfolding verdict_of_words
  words_by_right r = passes (word_test n left a) _ (lt-leb (words n) a r.fits) ∙ passes (infinity_test n left a) _ r.no_infinity

  pub words_done : Real n a → Real n b → verdict_of_words n a b ≡ done
  words_done r q = words_by_right r ∙ real_done n right b q

  pub words_real : verdict_of_words n a b ≡ done → Real n a × Real n b
  unfolding verdict_of_words
  words_real z =
      let p = passing_of {ts = word_test n left a ∷ infinity_test n left a ∷ right_tests} (one_refuses refl (one_refuses refl (one_refuses refl (one_refuses refl gives_none)))) (accepts z) in
      let q = tail_passes (tail_passes p) in (
        record { fits = leb-false (words n) a (head_passes p); no_infinity = head_passes (tail_passes p) },
        record { fits = leb-false (words n) b (head_passes q); no_infinity = head_passes (tail_passes q) },
      )

-- ---- a call of a format is judged by its words
module _ {n es : ℕ} (f : Format n es) where
  format_is : is_format n es ≡ true
  format_is = rw (le-leb 3 n f.wide_enough, le-leb n 16 f.not_too_wide, le-leb es 2 f.exponent_fits)

  pub range_judged : (a : ℕ) → verdict_of_range n es a ≡ verdict_of_word n left a
  unfolding verdict_of_range
  range_judged a = passes (format_test n es) _ (ap not format_is)

  pub ranges_judged : (a b : ℕ) → verdict_of_ranges n es a b ≡ verdict_of_words n a b
  unfolding verdict_of_ranges verdict_of_words
  ranges_judged a b = passes (format_test n es) _ (ap not format_is)

  pub operation_by_words : (op a b : ℕ) → op ≤ 3 → verdict_of_range_operation n es op a b ≡ verdict_of_operands n es op a b
  unfolding verdict_of_range_operation verdict_of_operands
  operation_by_words op a b l = passes (format_test n es) _ (ap not format_is) ∙ passes (operation_test op) _ (le-ltb 3 op l)

  pub operation_by_number : (op a b : ℕ) → 3 < op → verdict_of_range_operation n es op a b ≡ record { number = 2; place = 0 }
  unfolding verdict_of_range_operation
  operation_by_number op a b h = passes (format_test n es) _ (ap not format_is) ∙ hits (operation_test op) _ (lt-ltb 3 op h)

-- ---- the operands of an operation, after their own tests
module _ (n es op a b : ℕ) where
  abbrev divisors : List Test
  divisors = divisor_test n es op b ∷ []

  pub operands_by_words : Real n a → Real n b → verdict_of_operands n es op a b ≡ first_hit divisors
  unfolding verdict_of_operands
  operands_by_words r q =
      passes (word_test n left a) _ (lt-leb (words n) a r.fits) ∙ passes (infinity_test n left a) _ r.no_infinity
      ∙ passes (word_test n right b) _ (lt-leb (words n) b q.fits) ∙ passes (infinity_test n right b) _ q.no_infinity

  pub operands_refused : (e : Refusal) → verdict_of_words n a b ≡ refused e → verdict_of_operands n es op a b ≡ refused e
  unfolding verdict_of_words verdict_of_operands
  operands_refused e s = refused_first (operand_tests n a b []) divisors e s

  pub range_operation_outside : is_format n es ≡ false → verdict_of_range_operation n es op a b ≡ record { number = 1; place = 0 }
  unfolding verdict_of_range_operation
  range_operation_outside e = hits (format_test n es) _ (ap not e)

  pub operation_format : (verdict_of_range_operation n es op a b).number ≡ 0 → Format n es
  unfolding verdict_of_range_operation
  operation_format z = format_of (not-false (is_format n es) (head_passes (first_passes {ts = format_test n es ∷ []} (one_refuses refl gives_none) _ z)))

-- ---- one range
module _ (n es a : ℕ) where
  pub range_outside : is_format n es ≡ false → verdict_of_range n es a ≡ record { number = 1; place = 0 }
  unfolding verdict_of_range
  range_outside e = hits (format_test n es) _ (ap not e)

  pub range_inside : is_format n es ≡ true → verdict_of_range n es a ≡ verdict_of_word n left a
  unfolding verdict_of_range
  range_inside e = passes (format_test n es) _ (ap not e)

  range_passed : (verdict_of_range n es a).number ≡ 0 → (is_format n es ≡ true) × ((verdict_of_word n left a).number ≡ 0)
  unfolding verdict_of_range
  range_passed z =
      let p = passing_of {ts = format_test n es ∷ word_test n left a ∷ infinity_test n left a ∷ []} (one_refuses refl (one_refuses refl (one_refuses refl gives_none))) z in
      (not-false (is_format n es) (head_passes p), ap (λ (v : Verdict). v.number) (passing_done (tail_passes p)))

  pub range_format : (verdict_of_range n es a).number ≡ 0 → Format n es
  range_format z = format_of (range_passed z).0

  pub range_real : (verdict_of_range n es a).number ≡ 0 → Real n a
  range_real z = word_real n left a (range_passed z).1

-- ---- two ranges
module _ (n es a b : ℕ) where
  pub ranges_outside : is_format n es ≡ false → verdict_of_ranges n es a b ≡ record { number = 1; place = 0 }
  unfolding verdict_of_ranges
  ranges_outside e = hits (format_test n es) _ (ap not e)

  pub ranges_left : (verdict_of_range n es a).number ≢ 0 → verdict_of_ranges n es a b ≡ verdict_of_range n es a
  unfolding verdict_of_range verdict_of_ranges
  ranges_left d =
      refusal_stays (format_test n es ∷ word_test n left a ∷ infinity_test n left a ∷ []) (word_test n right b ∷ infinity_test n right b ∷ []) d

  pub ranges_right : (verdict_of_range n es a).number ≡ 0 → verdict_of_ranges n es a b ≡ verdict_of_word n right b
  unfolding verdict_of_ranges
  ranges_right z =
      let p = range_passed n es a z in
      let r = range_real n es a z in
      passes (format_test n es) _ (ap not p.0)
      ∙ passes (word_test n left a) _ (lt-leb (words n) a r.fits) ∙ passes (infinity_test n left a) _ r.no_infinity

  -- both are judged well only where the left one is
  left_done : (verdict_of_ranges n es a b).number ≡ 0 → (verdict_of_range n es a).number ≡ 0
  left_done z = go (ℕ_discrete (verdict_of_range n es a).number 0)
    where
      go : Dec ((verdict_of_range n es a).number ≡ 0) → (verdict_of_range n es a).number ≡ 0
      go (yes e) = e
      go (no d) = ap (λ (v : Verdict). v.number) (sym (ranges_left d)) ∙ z

  right_done : (verdict_of_ranges n es a b).number ≡ 0 → (verdict_of_word n right b).number ≡ 0
  right_done z = ap (λ (v : Verdict). v.number) (sym (ranges_right (left_done z))) ∙ z

-- ---- the comparisons: P is one of the three
module _ (P : ℕ → ℕ → ℕ → ℕ → Type 0) (a b : ℕ) {n es : ℕ} (f : Format.Format) (is : (n ≡ f.n) × (es ≡ f.es)) where
  pub comparison_refused : (e : Refusal) → verdict_of_words f.n a b ≡ refused e → verdict_of_ranges n es a b ≡ refused e
  comparison_refused e s = rw (is.0, is.1) (ranges_judged (within f) a b ∙ s)

  pub comparison_done : {yes : Bool} → verdict_of_words f.n a b ≡ done → Tells (P f.n f.es a b) yes → (verdict_of_ranges n es a b ≡ done) × Tells (P n es a b) yes
  comparison_done z y = rw (is.0, is.1) (ranges_judged (within f) a b ∙ z, y)
