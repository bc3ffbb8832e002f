-- A set of fractions has one smallest range, and "smallest" and the ends in demand 3's words say the same of it.
use mathlib.Core.Path.{◌≡◌, sym, subst}
use mathlib.Core.Bool.{false}
use mathlib.Core.Logic.{◌≢◌, ◌↔◌}
use Prim.Native.Nat.{ℕ, ◌≤◌}
use lib.Ieee.{Float}
use Rattle.exact.specs.Fraction.{Fraction}
use Rattle.bound.specs.Bound.{Bound, map_bound}
use Rattle.bound.specs.Extent.{Extent, span, Spans, exactly}
use Rattle.bound.specs.Fractions.{fractions}
use Rattle.bound.proofs.Bound.{has_member}
use Rattle.bound.proofs.Standing.{lets_in_all, narrowest_start, narrowest_end}
use Rattle.call.specs.Operation.{over}
use Rattle.word.specs.Word.{kind, empty, empty_word, start_of, end_of}
use Rattle.word.specs.Member.{Real, Member, AfterStart, BeforeEnd}
use Rattle.word.specs.Numbered.{number_of}
use Rattle.word.specs.Smallest.{Smallest, StartStands, EndStands, DemandedEnds, Result}
use Rattle.word.specs.Calls.{Negative}
use Rattle.reading.specs.Reading.{Between, bad_reading}
use Rattle.word.proofs.Grid.{posits}
use Rattle.word.proofs.RealWords.{start_placed, end_placed}
use Rattle.word.proofs.Members.{start_bound, end_bound, empty_iff_no_member}
use Rattle.word.proofs.WordAt.{empty_word_real}
use Rattle.word.proofs.Answers.{empty_word_has_none, answer_of_extent}
use Rattle.word.proofs.OneWord.{one_word}
use Rattle.word.proofs.Computed.{results_span}
use Rattle.reading.proofs.Readings.{good, reading_spans}
use Rattle.word.proofs.Mirrored.{negation_spans}

-- a range with a member is not empty
holds_some : (n es : ℕ) → 3 ≤ n → {w : ℕ} {x : Fraction} → Real n w → Member n es w x → kind n w ≢ empty
holds_some n es wide {x = x} r m e = (empty_iff_no_member n es wide r).0 e x m

module _ (n es : ℕ) (wide : 3 ≤ n) {S : Fraction → Type 0} where
  -- ---- one smallest range
  pub a_smallest_range_is_one_word : {w v : ℕ} {x : Fraction} → Smallest n es S w → Smallest n es S v → S x → w ≡ v
  a_smallest_range_is_one_word {w} {v} {x} s t k =
      one_word n es wide s.real t.real (holds_some n es wide s.real (s.holds x k))
      (λ y. (s.inside v t.real t.holds y, t.inside w s.real s.holds y))

  -- of a set with no member every empty word is a smallest range, and no other word is; document 01 chooses one of them as the answer
  pub smallest_of_nothing_iff_empty : {w : ℕ} → ((x : Fraction) → ¬ S x) → Real n w → Smallest n es S w ↔ (kind n w ≡ empty)
  smallest_of_nothing_iff_empty none r =
      let (f, g) = empty_iff_no_member n es wide r in (
        λ s. g (λ x m. empty_word_has_none n es wide x (s.inside (empty_word n) (empty_word_real n wide) (λ y k. absurd (none y k)) x m)),
        λ e. record { real = r; holds = λ x k. absurd (none x k); inside = λ v q h x m. absurd (f e x m) },
      )

  -- ---- ends that stand where demand 3 has them are those of the smallest range, whatever the set
  module _ {w : ℕ} (d : DemandedEnds n es S w) where
    ends_hold : (x : Fraction) → S x → Member n es w x
    ends_hold x k =
        record {
          after_start = (start_bound n es wide (start_of n w) (start_placed n wide d.real).finite_end x).1 (lets_in_all d.start_stands x k);
          before_end = (end_bound n es wide (end_of n w) (end_placed n wide d.real).finite_end x).1 (lets_in_all d.end_stands x k);
        }

    module _ {v : ℕ} (r : Real n v) (all : (x : Fraction) → S x → Member n es v x) where
      starts_inside : (x : Fraction) → AfterStart n es (start_of n w) x → AfterStart n es (start_of n v) x
      starts_inside x m =
          let s = start_placed n wide d.real in
          let t = start_placed n wide r in
          (start_bound n es wide (start_of n v) t.finite_end x).1
          (narrowest_start (posits n es wide) d.start_stands s.on_grid (map_bound (number_of n) (start_of n v)) t.on_grid
          (λ y k. (start_bound n es wide (start_of n v) t.finite_end y).0 (all y k).after_start) x ((start_bound n es wide (start_of n w) s.finite_end x).0 m))

      ends_inside : (x : Fraction) → BeforeEnd n es (end_of n w) x → BeforeEnd n es (end_of n v) x
      ends_inside x m =
          let s = end_placed n wide d.real in
          let t = end_placed n wide r in
          (end_bound n es wide (end_of n v) t.finite_end x).1
          (narrowest_end (posits n es wide) d.end_stands s.on_grid (map_bound (number_of n) (end_of n v)) t.on_grid
          (λ y k. (end_bound n es wide (end_of n v) t.finite_end y).0 (all y k).before_end) x ((end_bound n es wide (end_of n w) s.finite_end x).0 m))

    pub demanded_ends_are_smallest : Smallest n es S w
    demanded_ends_are_smallest =
        record {
          real = d.real;
          holds = ends_hold;
          inside = λ v r all x m. record { after_start = starts_inside r all x m.after_start; before_end = ends_inside r all x m.before_end };
        }

  -- ---- and the smallest range has such ends, where the set has a member and exact bounds: the bound of a set such as the fractions whose square
  -- is below 2 is no fraction, so no end can stand beyond it in these words
  module _ {u : Extent Fraction} {x : Fraction} (bounds : Spans fractions S u) (k : S x) where
    pub smallest_has_demanded_ends : {w : ℕ} → Smallest n es S w → DemandedEnds n es S w
    smallest_has_demanded_ends {w} s =
        let a = answer_of_extent n es wide bounds in
        let e = a_smallest_range_is_one_word s a.smallest k in
        record {
          real = s.real;
          not_empty = holds_some n es wide s.real (s.holds x k);
          start_stands = subst (λ (v : ℕ). StartStands n es S (start_of n v)) (sym e) (a.start_stands x k);
          end_stands = subst (λ (v : ℕ). EndStands n es S (end_of n v)) (sym e) (a.end_stands x k);
        }

    pub smallest_iff_demanded_ends : (w : ℕ) → Smallest n es S w ↔ DemandedEnds n es S w
    smallest_iff_demanded_ends w = (smallest_has_demanded_ends, demanded_ends_are_smallest)

spans_some : {S : Fraction → Type 0} {b d : Bound Fraction} → Spans fractions S (span b d) → (x : Fraction) × S x
spans_some (exactly p q) = has_member fractions p

-- ---- every set that document 01 asks a range of has exact bounds: the results of an operation, the negatives of a range's members, and a reading
module _ (n es : ℕ) (wide : 3 ≤ n) (w : ℕ) where
  pub results_smallest_iff_ends : (op a b : ℕ) → op ≤ over → {z : Fraction} → Result n es op a b z
      → Smallest n es (Result n es op a b) w ↔ DemandedEnds n es (Result n es op a b) w
  results_smallest_iff_ends op a b known r = smallest_iff_demanded_ends n es wide (results_span n es a b op known) r w

  pub negatives_smallest_iff_ends : {a : ℕ} → Real n a → {z : Fraction} → Negative n es a z → Smallest n es (Negative n es a) w ↔ DemandedEnds n es (Negative n es a) w
  negatives_smallest_iff_ends q m = smallest_iff_demanded_ends n es wide (negation_spans n es wide q) m w

  pub reading_smallest_iff_ends : (low high : Float) → bad_reading low high ≡ false → Smallest n es (Between low high) w ↔ DemandedEnds n es (Between low high) w
  reading_smallest_iff_ends low high b =
      let s = reading_spans (good low high b) in
      let (x, k) = spans_some s in
      smallest_iff_demanded_ends n es wide s k w
