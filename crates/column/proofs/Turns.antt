-- Where a turn of a loop over two columns stands: at which place, and at which pair of words.
use Rattle.std.proofs.Common.{◌≡◌, ℕ, ◌+◌, ◌<◌, List, Option, Some, None, length, get_or, sym, ap, ◌∙◌, arith, Bor, Iter}
use Rattle.std.proofs.iter.Yields.{fronts}
use Rattle.std.specs.Iterator.{Yields}
use Rattle.std.specs.Iterator.Adapters.{enumerate_source, enumerate_count, enumerate_steps, zip_first, zip_second}
use Rattle.std.specs.List.{zip, enumerate_from}
use Rattle.std.specs.Slice.Iter.{iter_rest}
use Rattle.std.specs.declared.iter.Enumerate.{Enumerate}
use Rattle.std.specs.declared.iter.Zip.{Zip}
use Rattle.std.proofs.lemmas.Iterator.{YieldsList, YieldsList-from_slice, YieldsList-from_zip, zips}
use Rattle.std.proofs.lemmas.Iterator.Consumers.{YieldsList-from_enumerate, YieldsList-turn, YieldsList-end}
use Rattle.std.proofs.lemmas.List.{get_or_default}
use Rattle.std.proofs.lemmas.List.FromFn.{length-enumerate_from, get_or-enumerate_from}
use Rattle.std.proofs.lemmas.Slice.Zip.{length-zip, get_or-zip}
use Rattle.word.specs.Computed.{answer_of}
use Rattle.column.specs.Column.{answers_of}
use Rattle.column.proofs.Pairs.{answer_at}

pub record Turn (left right : List ℕ) (k i a b : ℕ) : Type 0 where
  pub left_here : k < length left
  pub right_here : k < length right
  pub place : i ≡ k
  pub left_word : a ≡ get_or left k 0
  pub right_word : b ≡ get_or right k 0

-- the pairs numbered, of which one is at k
module _ (left right : List ℕ) (k i a b : ℕ) where
  place_of : (left_here : k < length left) (right_here : k < length right)
      → ◌≡◌ {A = ℕ × (ℕ × ℕ)} (i, (a, b)) (0 + k, (get_or left k a, get_or right k b)) → Turn left right k i a b
  place_of left_here right_here e =
      record {
        left_here = left_here;
        right_here = right_here;
        place = omega (arith, ap (λ (p : ℕ × (ℕ × ℕ)). p.0) e);
        left_word = ap (λ (p : ℕ × (ℕ × ℕ)). p.1.0) e ∙ get_or_default left k a 0 left_here;
        right_word = ap (λ (p : ℕ × (ℕ × ℕ)). p.1.1) e ∙ get_or_default right k b 0 right_here;
      }

  numbered_pair : (k < length (enumerate_from 0 (zip left right))) × ((i, (a, b)) ≡ get_or (enumerate_from 0 (zip left right)) k (i, (a, b))) → Turn left right k i a b
  numbered_pair t =
      let within : k < length (zip left right) = omega (arith, length-enumerate_from 0 (zip left right), t.0) in
      let left_here : k < length left = omega (arith, length-zip left right) in
      let right_here : k < length right = omega (arith, length-zip left right) in
      place_of left_here right_here
      (t.1 ∙ get_or-enumerate_from 0 (zip left right) k (i, (a, b)) within ∙ ap (λ (p : ℕ × ℕ). (0 + k, p)) (get_or-zip left right k (a, b) left_here right_here))

-- a loop over the numbered pairs of two slices, which has yielded xs
module _ (left right : List ℕ) (s : Enumerate (Zip (Iter ℕ) (Iter ℕ))) (first : iter_rest (zip_first (enumerate_source s)) ≡ left)
    (second : iter_rest (zip_second (enumerate_source s)) ≡ right) (from : enumerate_count s ≡ 0) (xs : List (ℕ × (Bor ℕ × Bor ℕ)))
    (t u : Enumerate (Zip (Iter ℕ) (Iter ℕ))) (y : Yields (enumerate_steps (zips fronts fronts)) s xs t) where
  numbered : YieldsList (enumerate_steps (zips fronts fronts)) (λ p. (p.0, (p.1.0.now, p.1.1.now))) s (enumerate_from 0 (zip left right))
  numbered = YieldsList-from_enumerate (YieldsList-from_zip (YieldsList-from_slice left first) (YieldsList-from_slice right second)) from

  pub numbered_turn : (r : Option (ℕ × (Bor ℕ × Bor ℕ))) (x : ℕ × (Bor ℕ × Bor ℕ)) → r ≡ Some x → enumerate_steps (zips fronts fronts) t r u
      → Turn left right (length xs) x.0 x.1.0.now x.1.1.now
  numbered_turn r x e h = numbered_pair left right (length xs) x.0 x.1.0.now x.1.1.now (YieldsList-turn numbered xs t y r u x e h)

  pub numbered_end : (r : Option (ℕ × (Bor ℕ × Bor ℕ))) → r ≡ None → enumerate_steps (zips fronts fronts) t r u → length left ≡ length right → length xs ≡ length left
  numbered_end r e h as_long =
      omega (arith, (YieldsList-end numbered xs t y r u e h).1, length-enumerate_from 0 (zip left right), length-zip left right)

-- the answer of this turn's pair stands at its place
pub answer_here : {left right : List ℕ} {k i a b : ℕ} (n es op : ℕ) → Turn left right k i a b → answer_of n es op a b ≡ get_or (answers_of n es op left right) k 0
answer_here {left} {right} {k} n es op t = rw (t.left_word, t.right_word) (sym (answer_at n es op left right k t.left_here t.right_here))
