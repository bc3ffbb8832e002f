-- A fraction is a member of a real range exactly where its cell is one of the range's cells: each end of the word stands on a posit, whose cell is
-- that of its number.
use mathlib.Core.Path.{◌≡◌, refl, sym, ◌∙◌, subst}
use mathlib.Core.Bool.{Bool, true, false, true≢false, ◌&&◌}
use mathlib.Core.Logic.Iff
use mathlib.Core.Logic.{◌↔◌}
use Prim.Native.Nat.{ℕ, ◌≤◌}
use native.Mathlib.Omega.{arith}
use lib.Dec.{T}
use Rattle.exact.specs.Fraction.{Fraction, ◌≈◌, leᶠ, ltᶠ}
use Rattle.exact.proofs.Order.{clashᶠ, <ᶠ_of_not_≤ᶠ, ≤ᶠ_≈, ≈_≤ᶠ, <ᶠ_≈, ≈_<ᶠ, ≈_sym, leᶠ_yes, ltᶠ_yes, leᶠ_of_≤ᶠ, ltᶠ_of_<ᶠ}
use Rattle.bound.specs.Order.{dual}
use Rattle.bound.specs.Bound.{Bound, none, closed_at, open_at, map_bound, Allows}
use Rattle.bound.specs.Cell.{cell}
use Rattle.bound.specs.Fractions.{fractions}
use Rattle.bound.proofs.Cell.{cell_is_cell}
use Rattle.bound.proofs.Smallest.{at_low}
use Rattle.bound.proofs.End.{after_start_iff, before_end_iff}
use Rattle.posit.specs.Value.{value}
use Rattle.posit.proofs.Patterns.{some_bit}
use Rattle.word.specs.Word.{empty, kind, start_of, end_of, start_tile, end_tile}
use Rattle.word.specs.Member.{Real, AfterStart, BeforeEnd, Member, lies_after_start, lies_before_end, is_member}
use Rattle.word.specs.Numbered.{number_of, value_at}
use Rattle.word.specs.Spans.{start_cell, end_cell, top_cell, cells_of}
use Rattle.word.proofs.Grid.{posits, pattern_of_number}
use Rattle.word.proofs.Places.{FiniteEnd, top_cell_says}
use Rattle.word.proofs.WordKinds.{is_true}
use Rattle.word.proofs.RealWords.{RealCase, has_cells, has_none, real_case, start_placed, end_placed, high_there}

module _ (n es : ℕ) (wide : 3 ≤ n) where
  -- ---- an end as a bound among the numbered posits
  pub start_bound : (b : Bound ℕ) → FiniteEnd n b → (x : Fraction) → AfterStart n es b x ↔ Allows fractions (map_bound (value_at n es) (map_bound (number_of n) b)) x
  start_bound none f x = Iff.rfl
  start_bound (closed_at p) f x = rw (pattern_of_number n (some_bit n wide) f) Iff.rfl
  start_bound (open_at p) f x = rw (pattern_of_number n (some_bit n wide) f) (λ h. clashᶠ h, λ h. <ᶠ_of_not_≤ᶠ h)

  pub end_bound : (b : Bound ℕ) → FiniteEnd n b → (x : Fraction) → BeforeEnd n es b x ↔ Allows (dual fractions) (map_bound (value_at n es) (map_bound (number_of n) b)) x
  end_bound none f x = Iff.rfl
  end_bound (closed_at p) f x = rw (pattern_of_number n (some_bit n wide) f) Iff.rfl
  end_bound (open_at p) f x = rw (pattern_of_number n (some_bit n wide) f) (λ h. clashᶠ h, λ h. <ᶠ_of_not_≤ᶠ h)

  module _ {w : ℕ} (r : Real n w) (x : Fraction) where
    after_start_cell : AfterStart n es (start_of n w) x ↔ (start_cell n (start_tile n w) ≤ cell (posits n es wide) x)
    after_start_cell =
        let p = start_placed n wide r in
        rw p.start_cell_is
        (Iff.trans (start_bound (start_of n w) p.finite_end x) (after_start_iff (posits n es wide) (map_bound (number_of n) (start_of n w)) p.on_grid x))

    before_end_cell : BeforeEnd n es (end_of n w) x ↔ (cell (posits n es wide) x ≤ end_cell n (end_tile n w))
    before_end_cell =
        let p = end_placed n wide r in
        rw p.end_cell_is
        (Iff.trans (end_bound (end_of n w) p.finite_end x) (before_end_iff (posits n es wide) (map_bound (number_of n) (end_of n w)) p.on_grid x))

    -- the same with the word's cells as they stand, or with none
    in_cells : (c : ℕ) → c ≤ top_cell n → RealCase n w
        → ((start_cell n (start_tile n w) ≤ c) × (c ≤ end_cell n (end_tile n w))) ↔ (((cells_of n w).lo ≤ c) × (c ≤ (cells_of n w).hi))
    in_cells c h (has_cells k l e) = rw e Iff.rfl
    in_cells c h (has_none k i m o l e) = rw e (λ b. absurd (omega (arith, b)), λ b. absurd (omega (arith, b)))

    pub member_cells : Member n es w x ↔ (((cells_of n w).lo ≤ cell (posits n es wide) x) × (cell (posits n es wide) x ≤ (cells_of n w).hi))
    member_cells =
        let (f, g) = in_cells (cell (posits n es wide) x) (omega (arith, (cell_is_cell (posits n es wide) x).bounded, top_cell_says n wide)) (real_case n wide r) in (
          λ m. f (after_start_cell.0 m.after_start, before_end_cell.0 m.before_end),
          λ h. record { after_start = after_start_cell.1 (g h).0; before_end = before_end_cell.1 (g h).1 },
        )

  -- ---- the empty words are those with no member
  pub empty_iff_no_member : {w : ℕ} → Real n w → (kind n w ≡ empty) ↔ ((x : Fraction) → ¬ Member n es w x)
  empty_iff_no_member {w} r = go (real_case n wide r)
    where
      go : RealCase n w → (kind n w ≡ empty) ↔ ((x : Fraction) → ¬ Member n es w x)
      go (has_cells k l e) =
          let (x, i, j) = at_low (posits n es wide) (cells_of n w).lo (cells_of n w).hi (rw e l) (high_there n wide r) in
          (λ t. absurd (k t), λ h. absurd (h x ((member_cells r x).1 (i.from_low, i.to_high))))
      go (has_none t a m o l e) = (λ k x p. (let h = rw e at ((member_cells r x).0 p) in absurd (omega (arith, h))), λ h. t)

-- ---- equal fractions are members together
after_start_same : (n es : ℕ) (b : Bound ℕ) {x y : Fraction} → x ≈ y → AfterStart n es b x → AfterStart n es b y
after_start_same n es none e h = tt
after_start_same n es (closed_at p) e h = ≤ᶠ_≈ h e
after_start_same n es (open_at p) e h = <ᶠ_≈ h e

before_end_same : (n es : ℕ) (b : Bound ℕ) {x y : Fraction} → x ≈ y → BeforeEnd n es b x → BeforeEnd n es b y
before_end_same n es none e h = tt
before_end_same n es (closed_at p) e h = ≈_≤ᶠ (≈_sym e) h
before_end_same n es (open_at p) e h = ≈_<ᶠ (≈_sym e) h

pub member_same : {n es w : ℕ} {x y : Fraction} → x ≈ y → Member n es w x → Member n es w y
member_same {n} {es} {w} e m =
    record { after_start = after_start_same n es (start_of n w) e m.after_start; before_end = before_end_same n es (end_of n w) e m.before_end }

-- ---- the test of membership
holds : {b : Bool} → b ≡ true → T b
holds e = subst T (sym e) tt

is_after_start : (n es : ℕ) (b : Bound ℕ) (x : Fraction) → (lies_after_start n es b x ≡ true) ↔ AfterStart n es b x
is_after_start n es none x = (λ e. tt, λ h. refl)
is_after_start n es (closed_at p) x = (λ e. leᶠ_yes (holds e), λ h. is_true (leᶠ (value n es p) x) (leᶠ_of_≤ᶠ h))
is_after_start n es (open_at p) x = (λ e. ltᶠ_yes (holds e), λ h. is_true (ltᶠ (value n es p) x) (ltᶠ_of_<ᶠ h))

is_before_end : (n es : ℕ) (b : Bound ℕ) (x : Fraction) → (lies_before_end n es b x ≡ true) ↔ BeforeEnd n es b x
is_before_end n es none x = (λ e. tt, λ h. refl)
is_before_end n es (closed_at p) x = (λ e. leᶠ_yes (holds e), λ h. is_true (leᶠ x (value n es p)) (leᶠ_of_≤ᶠ h))
is_before_end n es (open_at p) x = (λ e. ltᶠ_yes (holds e), λ h. is_true (ltᶠ x (value n es p)) (ltᶠ_of_<ᶠ h))

both : (a b : Bool) → ((a && b) ≡ true) ↔ ((a ≡ true) × (b ≡ true))
both true b = (λ e. (refl, e), λ e. e.1)
both false b = (λ e. absurd (true≢false (sym e)), λ e. e.0)

pub is_member_iff : (n es w : ℕ) (x : Fraction) → (is_member n es w x ≡ true) ↔ Member n es w x
is_member_iff n es w x =
    let (f, g) = both (lies_after_start n es (start_of n w) x) (lies_before_end n es (end_of n w) x) in
    let (a, b) = is_after_start n es (start_of n w) x in
    let (c, d) = is_before_end n es (end_of n w) x in (
      λ e. record { after_start = a (f e).0; before_end = c (f e).1 },
      λ m. g (b m.after_start, d m.before_end),
    )

pub member? : (n es w : ℕ) (x : Fraction) → Dec (Member n es w x)
member? n es w x = go (is_member n es w x) refl
  where
    go : (b : Bool) → is_member n es w x ≡ b → Dec (Member n es w x)
    go true e = yes ((is_member_iff n es w x).0 e)
    go false e = no (λ m. true≢false (sym ((is_member_iff n es w x).1 m) ∙ e))
