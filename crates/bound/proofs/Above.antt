-- The part above a given number has the expected extent, and put back among all numbers it keeps it.
use mathlib.Core.Path.{◌≡◌, refl, ap₂, subst}
use mathlib.Core.Logic.{◌↔◌, ite, if_pos, if_neg}
use Rattle.bound.specs.Order.{Order, Less, Same, dual, above}
use Rattle.bound.specs.Bound.{Bound, none, closed_at, open_at, map_bound, Allows}
use Rattle.bound.specs.Extent.{Extent, empty, span, map_extent, Within, from_to, Spans, nothing, exactly, Some, some_between}
use Rattle.bound.specs.Hull.{narrower}
use Rattle.bound.specs.Above.{Image, bound_above, part_above, start_back, extent_back}
use Rattle.bound.proofs.Order.{same_refl}
use Rattle.bound.proofs.Bound.{upward, has_member}
use Rattle.bound.proofs.Extent.{spans_of_same_set, interval_spans}
use Rattle.bound.proofs.Hull.{narrower_allows}

-- the value of f at a member is in the image
pub image_at : {A : Type 0} (R : Order) (f : A → R.Number) (S : A → Type 0) (a : A) → S a → Image R f S (f a)
image_at R f S a m = record { source = a; member = m; value = same_refl R (f a) }

-- u, without the proofs that its numbers are above c, is the extent of S among the numbers above c
pub record SpansAbove (O : Order) (c : O.Number) (S : (above O c).Number → Type 0) (u : Extent O.Number) : Type 0 where
  pub extent : Extent (above O c).Number
  pub erased : map_extent (λ p. p.0) extent ≡ u
  pub spans : Spans (above O c) S extent

module _ (O : Order) (c : O.Number) where
  abbrev place : (a : O.Number) → Dec (O.◌≼◌ a c) → ((above O c).Number → Bound (above O c).Number) → Bound (above O c).Number
  place a (yes h) at = none
  place a (no h) at = at (a, h)

  raise : Bound O.Number → Bound (above O c).Number
  raise none = none
  raise (closed_at a) = place a (O.decide a c) closed_at
  raise (open_at a) = place a (O.decide a c) open_at

  erase_raise : (b : Bound O.Number) → map_bound (λ p. p.0) (raise b) ≡ bound_above O c b
  unfolding raise bound_above
  erase_raise none = refl
  erase_raise (closed_at a) = go (O.decide a c)
    where
      go : (d : Dec (O.◌≼◌ a c)) → map_bound (λ p. p.0) (place a d closed_at) ≡ ite d none (closed_at a)
      go (yes h) = refl
      go (no h) = refl
  erase_raise (open_at a) = go (O.decide a c)
    where
      go : (d : Dec (O.◌≼◌ a c)) → map_bound (λ p. p.0) (place a d open_at) ≡ ite d none (open_at a)
      go (yes h) = refl
      go (no h) = refl

  -- ---- what a start allows above c
  start_up : (b : Bound O.Number) (p : (above O c).Number) → Allows O b p.0 ↔ Allows (above O c) (raise b) p
  unfolding raise
  start_up none p = (λ h. tt, λ h. tt)
  start_up (closed_at a) p = go (O.decide a c)
    where
      go : (d : Dec (O.◌≼◌ a c)) → O.◌≼◌ a p.0 ↔ Allows (above O c) (place a d closed_at) p
      go (yes h) = (λ k. tt, λ k. O.transitive h (O.total p.1))
      go (no h) = (λ k. record { fact = k }, λ k. k.fact)
  start_up (open_at a) p = go (O.decide a c)
    where
      go : (d : Dec (O.◌≼◌ a c)) → Less O a p.0 ↔ Allows (above O c) (place a d open_at) p
      go (yes h) = (λ k. tt, λ k l. p.1 (O.transitive l h))
      go (no h) = (λ k l. k l.fact, λ k l. k record { fact = l })

  -- ---- what an end allows above c, if it allows anything there
  end_up : (b : Bound O.Number) (m : (above O c).Number) → Allows (dual O) b m.0 → (p : (above O c).Number)
      → Allows (dual O) b p.0 ↔ Allows (dual (above O c)) (raise b) p
  unfolding raise
  end_up none m i p = (λ h. tt, λ h. tt)
  end_up (closed_at a) m i p = go (O.decide a c)
    where
      go : (d : Dec (O.◌≼◌ a c)) → O.◌≼◌ p.0 a ↔ Allows (dual (above O c)) (place a d closed_at) p
      go (yes h) = absurd (m.1 (O.transitive i h))
      go (no h) = (λ k. record { fact = k }, λ k. k.fact)
  end_up (open_at a) m i p = go (O.decide a c)
    where
      go : (d : Dec (O.◌≼◌ a c)) → Less O p.0 a ↔ Allows (dual (above O c)) (place a d open_at) p
      go (yes h) = absurd (i (O.transitive h (O.total m.1)))
      go (no h) = (λ k l. k l.fact, λ k l. k record { fact = l })

  -- ---- so the part above c of an interval that has one is the interval with the bounds as they are there
  pub part_above_spans : (u : Extent O.Number) → SpansAbove O c (λ p. Within O u p.0) (part_above O c u)
  unfolding part_above
  part_above_spans empty = record { extent = empty; erased = refl; spans = nothing (λ p w. elim w [ ]) }
  part_above_spans (span s e) = go (some_between O (narrower O s (open_at c)) e)
    where
      go : (d : Dec (Some O (narrower O s (open_at c)) e)) → SpansAbove O c (λ p. Within O (span s e) p.0) (ite d (span (bound_above O c s) (bound_above O c e)) empty)
      go (yes (x, h, k)) =
          let (i, j) = (narrower_allows O s (open_at c) x).0 h in
          let m : (above O c).Number = (x, j) in
          record {
            extent = span (raise s) (raise e);
            erased = ap₂ span (erase_raise s) (erase_raise e);
            spans =
                spans_of_same_set (above O c)
                (λ p. (
                  λ w. elim w [ from_to a b ↦ from_to ((start_up s p).1 a) ((end_up e m k p).1 b) ],
                  λ w. elim w [ from_to a b ↦ from_to ((start_up s p).0 a) ((end_up e m k p).0 b) ],
                ))
                (interval_spans (above O c) {m = m} (from_to ((start_up s m).0 i) ((end_up e m k m).0 k)));
          }
      go (no h) =
          record {
            extent = empty;
            erased = refl;
            spans = nothing (λ p w. elim w [ from_to a b ↦ h (p.0, (narrower_allows O s (open_at c) p.0).1 (a, p.1), b) ]);
          }

  -- ---- the part above c, where it is known
  pub part_of_some : (s e : Bound O.Number) {x : O.Number} → Within O (span s e) x → Less O c x → part_above O c (span s e) ≡ span (bound_above O c s) (bound_above O c e)
  unfolding part_above
  part_of_some s e {x} (from_to h k) l =
      if_pos (some_between O (narrower O s (open_at c)) e) (x, (narrower_allows O s (open_at c) x).1 (h, l), k) (span (bound_above O c s) (bound_above O c e)) empty

  pub part_of_none : (s e : Bound O.Number) → ((x : O.Number) → Within O (span s e) x → ¬ Less O c x) → part_above O c (span s e) ≡ empty
  unfolding part_above
  part_of_none s e n =
      if_neg (some_between O (narrower O s (open_at c)) e)
      (λ w. let (h, l) = (narrower_allows O s (open_at c) w.0).0 w.1 in n w.0 (from_to h w.2) l)
      (span (bound_above O c s) (bound_above O c e)) empty

  -- ---- and back among all numbers
  start_down : (b : Bound (above O c).Number) (p : (above O c).Number) → Allows (above O c) b p → Allows O (start_back O c (map_bound (λ q. q.0) b)) p.0
  unfolding start_back
  start_down none p h = p.1
  start_down (closed_at a) p h = h.fact
  start_down (open_at a) p h = λ l. h record { fact = l }

  start_over : (b : Bound (above O c).Number) (z : O.Number) → Allows O (start_back O c (map_bound (λ q. q.0) b)) z → (p : (above O c).Number) × Allows (above O c) b p × Same O p.0 z
  unfolding start_back
  start_over none z h = ((z, h), tt, same_refl O z)
  start_over (closed_at a) z h = ((z, λ l. a.1 (O.transitive h l)), record { fact = h }, same_refl O z)
  start_over (open_at a) z h = ((z, λ l. a.1 (O.transitive (O.total h) l)), (λ l. h l.fact), same_refl O z)

  end_down : (b : Bound (above O c).Number) (p : (above O c).Number) → Allows (dual (above O c)) b p ↔ Allows (dual O) (map_bound (λ q. q.0) b) p.0
  end_down none p = (λ h. tt, λ h. tt)
  end_down (closed_at a) p = (λ h. h.fact, λ h. record { fact = h })
  end_down (open_at a) p = (λ h l. h record { fact = l }, λ h l. h l.fact)

  module _ {S : (above O c).Number → Type 0} where
    back_spans : {u : Extent (above O c).Number} → Spans (above O c) S u → Spans O (Image O (λ p. p.0) S) (extent_back O c (map_extent (λ p. p.0) u))
    unfolding extent_back
    back_spans (nothing h) = nothing (λ z m. h m.source m.member)
    back_spans (exactly {s} {e} f g) =
        exactly
        {s = start_back O c (map_bound (λ q. q.0) s)}
        {e = map_bound (λ q. q.0) e}
        record {
          allowed = λ m. upward O (start_back O c (map_bound (λ q. q.0) s)) (start_down s m.source (f.allowed m.member)) m.value.1;
          reached = λ z h.
              let (p, k, l) = start_over s z h in
              let (q, m, n) = f.reached p k in
              (q.0, image_at O (λ r. r.0) S q m, O.transitive n.fact l.0);
        }
        record {
          allowed = λ m. upward (dual O) (map_bound (λ q. q.0) e) ((end_down e m.source).0 (g.allowed m.member)) m.value.0;
          reached = λ z h.
              elim (O.decide z c) [
                | yes l ↦ let (q, m) = has_member (dual (above O c)) g in (q.0, image_at O (λ r. r.0) S q m, O.transitive l (O.total q.1))
                | no l ↦ let (q, m, n) = g.reached (z, l) ((end_down e (z, l)).1 h) in (q.0, image_at O (λ r. r.0) S q m, n.fact)
              ];
        }

    pub extent_back_spans : {u : Extent O.Number} → SpansAbove O c S u → Spans O (Image O (λ p. p.0) S) (extent_back O c u)
    extent_back_spans p = subst (λ u. Spans O (Image O (λ p. p.0) S) (extent_back O c u)) p.erased (back_spans p.spans)
