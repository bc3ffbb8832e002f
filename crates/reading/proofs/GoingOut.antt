-- A range going out: a tile's posit is a float exactly, an open NaR is the infinity of its side, and the mark is the tile's lowest bit.
use mathlib.Core.Path.{◌≡◌, refl, sym, ◌∙◌, subst}
use mathlib.Core.Bool.{Bool, true, false}
use mathlib.Core.Logic.{◌≢◌, ◌↔◌}
use Prim.Native.Nat.{ℕ, zero, suc, ◌/◌, ◌%◌, ◌≤◌, ◌<◌}
use native.Mathlib.Omega.{arith}
use lib.Dec.{T, eqb}
use lib.Ieee.{Float, nan, inf, fin, binary64, fits, of_bits}
use borrow.Author.Tests.{eq-eqb, ne_eqb}
use Rattle.exact.specs.Fraction.{Fraction, ◌≤ᶠ◌, ◌<ᶠ◌}
use Rattle.exact.proofs.Order.{≈_sym, ≈_≤ᶠ, ≤ᶠ_≈, ≈_<ᶠ, <ᶠ_≈}
use Rattle.bound.specs.Bound.{Bound, none, closed_at, open_at}
use Rattle.posit.specs.Format.{Format, nar}
use Rattle.posit.specs.Value.{value}
use Rattle.posit.specs.Decoding.{finite_value}
use Rattle.posit.specs.Floats.{ExactFloat}
use Rattle.std.specs.Prelude.{Result, Ok, Err}
use Rattle.call.specs.declared.refusal.Refusal.{Refusal}
use Rattle.call.proofs.Answered.{accepts, refuses, one_refusal}
use Rattle.posit.specs.declared.float.Floated.TheVariants.{Value}
use Rattle.posit.proofs.FloatExact.{zero_bits}
use Rattle.posit.proofs.FloatTrip.{same_float}
use Rattle.reading.specs.declared.reading.Outgoing.{Outgoing}
use Rattle.word.specs.declared.inner.span.Span.{Span}
use Rattle.word.specs.Word.{tiles, closed_nar, open_nar, mark_of, end_of_tile, kind, empty, start_tile, end_tile, start_of, end_of}
use Rattle.word.specs.Member.{Real, Member, AfterStart, BeforeEnd}
use Rattle.word.specs.Spans.{cells_of}
use Rattle.reading.specs.Reading.{EndOut, EndsOut, EmptyOut, GoesOut, GivenOut}
use Rattle.word.proofs.Places.{start_tile_of_word, end_tile_of_word}
use Rattle.word.proofs.RealWords.{RealCase, has_cells, has_none, real_case, start_not_nar, end_not_nar, kind_empty}
use Rattle.word.proofs.Verdicts.{range_format, range_real}

-- ---- one end
module _ (n es : ℕ) (negative : Bool) (t : ℕ) {x : Float} where
  pub unbounded_out : t ≢ closed_nar n → t / 2 ≡ nar n → x ≡ inf negative → EndOut n es negative (end_of_tile n t) x (eqb (mark_of t) 1)
  unbounded_out c h e =
      let o : t ≡ open_nar n = odd (t % 2) refl (omega arith) in
      rw (eq-eqb t (open_nar n) o) (e, eq-eqb (t % 2) 1 (omega arith))
    where
      odd : (r : ℕ) → t % 2 ≡ r → r < 2 → t ≡ open_nar n
      odd zero m l = absurd (c (omega arith))
      odd (suc r) m l = omega arith

  pub posit_out : ExactFloat n es (t / 2) x → EndOut n es negative (end_of_tile n t) x (eqb (mark_of t) 1)
  posit_out f = by (t % 2) refl (omega arith)
    where
      bounded : eqb t (open_nar n) ≡ false
      bounded = ne_eqb t (open_nar n) (λ o. f.finite.not_nar (omega arith))

      by : (r : ℕ) → t % 2 ≡ r → r < 2 → EndOut n es negative (end_of_tile n t) x (eqb (mark_of t) 1)
      by zero m l = rw (bounded, m) (f, refl)
      by (suc r) m l = let e : t % 2 ≡ 1 = omega arith in rw (bounded, e) (f, refl)

-- ---- a real range
module _ {n es a : ℕ} (f : Format n es) (real : Real n a) where
  pub start_asks : {t : ℕ} → t ≡ start_tile n a → (t < tiles n) × (t ≢ closed_nar n)
  start_asks e = (rw e (start_tile_of_word n f.wide_enough real.fits), λ k. start_not_nar n f.wide_enough real (sym e ∙ k))

  pub end_asks : {t : ℕ} → t ≡ end_tile n a → (t < tiles n) × (t ≢ closed_nar n)
  end_asks e = (rw e (end_tile_of_word n f.wide_enough a), λ k. end_not_nar n f.wide_enough real (sym e ∙ k))

  -- where there are no cells
  pub empty_out : {s : Span} → s ≡ cells_of n a → s.hi < s.lo
      → GoesOut n es a (record { low = of_bits binary64 0; high = of_bits binary64 0; low_open = true; high_open = true; empty = true })
  empty_out e h =
      let k : kind n a ≡ empty = (kind_empty n f.wide_enough a real.fits).1 (real, rw e at h) in
      let o : EmptyOut (record { low = of_bits binary64 0; high = of_bits binary64 0; low_open = true; high_open = true; empty = true })
      = record { low_zero = zero_bits; high_zero = zero_bits; low_open = refl; high_open = refl; is_empty = refl } in
      record { when_empty = λ t. o; when_not = λ t. absurd (t k) }

  pub ends_out : {s : Span} → s ≡ cells_of n a → s.lo ≤ s.hi → {t u : ℕ} → t ≡ start_tile n a → u ≡ end_tile n a → {x y : Float} {p q : Bool}
      → EndOut n es true (end_of_tile n t) x p → EndOut n es false (end_of_tile n u) y q
      → GoesOut n es a (record { low = x; high = y; low_open = p; high_open = q; empty = false })
  ends_out {s} e h {t} {u} i j {x} {y} {p} {q} l r =
      record {
        when_empty = λ k. absurd (omega (arith, subst (λ (v : Span). v.hi < v.lo) (sym e) ((kind_empty n f.wide_enough a real.fits).0 k).1));
        when_not = λ k.
            record {
              low_end = subst (λ (v : ℕ). EndOut n es true (end_of_tile n v) x p) i l;
              high_end = subst (λ (v : ℕ). EndOut n es false (end_of_tile n v) y q) j r;
              not_empty = refl;
            };
      }

-- ---- the floats that go out are the ends exactly: a fraction is a member where it lies between them, as their marks say
abbrev pub AfterFloat : Float → Bool → Fraction → Type 0
AfterFloat nan mark z = ⊥
AfterFloat (inf s) mark z = Unit {0}
AfterFloat (fin t m e) true z = finite_value t e m <ᶠ z
AfterFloat (fin t m e) false z = finite_value t e m ≤ᶠ z

abbrev pub BeforeFloat : Float → Bool → Fraction → Type 0
BeforeFloat nan mark z = ⊥
BeforeFloat (inf s) mark z = Unit {0}
BeforeFloat (fin t m e) true z = z <ᶠ finite_value t e m
BeforeFloat (fin t m e) false z = z ≤ᶠ finite_value t e m

module _ (n es : ℕ) (negative : Bool) (z : Fraction) where
  after_closed : (x : Float) (p : ℕ) → ExactFloat n es p x → (value n es p ≤ᶠ z) ↔ AfterFloat x false z
  after_closed nan p f = absurd f.exactly
  after_closed (inf s) p f = absurd f.exactly
  after_closed (fin t m e) p f = (≈_≤ᶠ f.exactly, ≈_≤ᶠ (≈_sym f.exactly))

  after_open : (x : Float) (p : ℕ) → ExactFloat n es p x → (value n es p <ᶠ z) ↔ AfterFloat x true z
  after_open nan p f = absurd f.exactly
  after_open (inf s) p f = absurd f.exactly
  after_open (fin t m e) p f = (≈_<ᶠ f.exactly, ≈_<ᶠ (≈_sym f.exactly))

  before_closed : (x : Float) (p : ℕ) → ExactFloat n es p x → (z ≤ᶠ value n es p) ↔ BeforeFloat x false z
  before_closed nan p f = absurd f.exactly
  before_closed (inf s) p f = absurd f.exactly
  before_closed (fin t m e) p f = (λ h. ≤ᶠ_≈ h (≈_sym f.exactly), λ h. ≤ᶠ_≈ h f.exactly)

  before_open : (x : Float) (p : ℕ) → ExactFloat n es p x → (z <ᶠ value n es p) ↔ BeforeFloat x true z
  before_open nan p f = absurd f.exactly
  before_open (inf s) p f = absurd f.exactly
  before_open (fin t m e) p f = (λ h. <ᶠ_≈ h (≈_sym f.exactly), λ h. <ᶠ_≈ h f.exactly)

  after_float : (b : Bound ℕ) (x : Float) (mark : Bool) → EndOut n es negative b x mark → AfterStart n es b z ↔ AfterFloat x mark z
  after_float none x mark o = rw o.0 (λ h. tt, λ h. tt)
  after_float (closed_at p) x mark o = rw o.1 (after_closed x p o.0)
  after_float (open_at p) x mark o = rw o.1 (after_open x p o.0)

  before_float : (b : Bound ℕ) (x : Float) (mark : Bool) → EndOut n es negative b x mark → BeforeEnd n es b z ↔ BeforeFloat x mark z
  before_float none x mark o = rw o.0 (λ h. tt, λ h. tt)
  before_float (closed_at p) x mark o = rw o.1 (before_closed x p o.0)
  before_float (open_at p) x mark o = rw o.1 (before_open x p o.0)

pub members_between : (n es a : ℕ) (r : Outgoing) → EndsOut n es a r → (z : Fraction)
    → Member n es a z ↔ (AfterFloat r.low r.low_open z × BeforeFloat r.high r.high_open z)
members_between n es a r o z =
    let l = after_float n es true z (start_of n a) r.low r.low_open o.low_end in
    let h = before_float n es false z (end_of n a) r.high r.high_open o.high_end in
    (λ m. (l.0 m.after_start, h.0 m.before_end), λ b. record { after_start = l.1 b.0; before_end = h.1 b.1 })

-- ---- a range goes out in one way, among the floats that the format of 64 bits holds
module _ {n es : ℕ} (f : Format n es) where
  one_float : (p : ℕ) (x y : Float) → T (fits binary64 x) → T (fits binary64 y) → ExactFloat n es p x → ExactFloat n es p y → x ≡ y
  one_float p x y h k t u = let e : Value x ≡ Value y = same_float f p (Value x) (Value y) h k t u in cc

  pub one_end_out : (negative : Bool) (b : Bound ℕ) (x y : Float) (mark sign : Bool) → T (fits binary64 x) → T (fits binary64 y)
      → EndOut n es negative b x mark → EndOut n es negative b y sign → (x ≡ y) × (mark ≡ sign)
  one_end_out negative none x y mark sign h k t u = (t.0 ∙ sym u.0, t.1 ∙ sym u.1)
  one_end_out negative (closed_at p) x y mark sign h k t u = (one_float p x y h k t.0 u.0, t.1 ∙ sym u.1)
  one_end_out negative (open_at p) x y mark sign h k t u = (one_float p x y h k t.0 u.0, t.1 ∙ sym u.1)

-- the floats and the marks of two answers are the same
pub record SameOut (r q : Outgoing) : Type 0 where
  pub low : r.low ≡ q.low
  pub high : r.high ≡ q.high
  pub low_open : r.low_open ≡ q.low_open
  pub high_open : r.high_open ≡ q.high_open
  pub empty : r.empty ≡ q.empty

empty_same : {r q : Outgoing} → EmptyOut r → EmptyOut q → SameOut r q
empty_same t u =
    record {
      low = t.low_zero ∙ sym u.low_zero;
      high = t.high_zero ∙ sym u.high_zero;
      low_open = t.low_open ∙ sym u.low_open;
      high_open = t.high_open ∙ sym u.high_open;
      empty = t.is_empty ∙ sym u.is_empty;
    }

pub record HeldOut (r : Outgoing) : Type 0 where
  pub low_held : T (fits binary64 r.low)
  pub high_held : T (fits binary64 r.high)

module _ {n es a : ℕ} {r q : Outgoing} (h : HeldOut r) (k : HeldOut q) where
  ends_same : Format n es → EndsOut n es a r → EndsOut n es a q → SameOut r q
  ends_same f t u =
      let l = one_end_out f true (start_of n a) r.low q.low r.low_open q.low_open h.low_held k.low_held t.low_end u.low_end in
      let i = one_end_out f false (end_of n a) r.high q.high r.high_open q.high_open h.high_held k.high_held t.high_end u.high_end in
      record { low = l.0; high = i.0; low_open = l.1; high_open = i.1; empty = t.not_empty ∙ sym u.not_empty }

  out_same : Format n es → Real n a → GoesOut n es a r → GoesOut n es a q → SameOut r q
  out_same f real t u = by (real_case n f.wide_enough real)
    where
      by : RealCase n a → SameOut r q
      by (has_cells o l e) = ends_same f (t.when_not o) (u.when_not o)
      by (has_none o i m j l e) = empty_same (t.when_empty o) (u.when_empty o)

  given_same : GivenOut n es a (Ok r) → GivenOut n es a (Ok q) → SameOut r q
  given_same t u = out_same (range_format n es a (accepts t.0)) (range_real n es a (accepts t.0)) t.1 u.1

-- ---- two answers of one call are given alike, or refused alike
abbrev pub Held : Result Outgoing Refusal → Type 0
Held (Ok r) = HeldOut r
Held (Err e) = Unit {0}

abbrev pub Alike : Result Outgoing Refusal → Result Outgoing Refusal → Type 0
Alike (Ok r) (Ok q) = SameOut r q
Alike (Ok r) (Err e) = ⊥
Alike (Err e) (Ok q) = ⊥
Alike (Err d) (Err e) = d ≡ e

pub one_given_out : (n es a : ℕ) (x y : Result Outgoing Refusal) → Held x → Held y → GivenOut n es a x → GivenOut n es a y → Alike x y
one_given_out n es a (Ok r) (Ok q) h k t u = given_same h k t u
one_given_out n es a (Ok r) (Err e) h k t u = refuses e u (accepts t.0)
one_given_out n es a (Err e) (Ok q) h k t u = refuses e t (accepts u.0)
one_given_out n es a (Err d) (Err e) h k t u = one_refusal d e (sym t ∙ u)
