-- Lists of tests put one behind the other: a refusal of the first list stays, and a first list that passes leaves the second.
use mathlib.Core.Path.{◌≡◌, refl, sym, ap, ◌∙◌, subst}
use mathlib.Core.Bool.{Bool, true, false}
use mathlib.Core.Logic.{◌≢◌, ◌↔◌, ◌⊎◌, inl, inr, ⊎_elim}
use mathlib.Core.List.{List, [], ◌∷◌, ◌++◌}
use Prim.Native.Nat.{ℕ, zero, suc}
use native.Mathlib.Nat.{suc-ne-zero}
use Rattle.call.specs.Verdict.{Verdict, Test, done, first_hit}
use Rattle.call.proofs.FirstHit.{hits, passes, none_hits}

-- no test hits
pub data Passing : List Test → Type 0 where
  all_pass : Passing []
  one_passes : {t : Test} {ts : List Test} → t.hit ≡ false → Passing ts → Passing (t ∷ ts)

-- what every test of a list gives where it hits
pub data Giving (P : Verdict → Type 0) : List Test → Type 0 where
  gives_none : Giving P []
  gives_one : {t : Test} {ts : List Test} → P t.gives → Giving P ts → Giving P (t ∷ ts)

-- every test that hits refuses: none gives number 0
abbrev pub Refusal : Verdict → Type 0
Refusal v = v.number ≢ 0

abbrev pub Refusing : List Test → Type 0
Refusing ts = Giving Refusal ts

pub one_refuses : {t : Test} {ts : List Test} {k : ℕ} → t.gives.number ≡ suc k → Refusing ts → Refusing (t ∷ ts)
one_refuses {k = k} e r = gives_one (λ z. suc-ne-zero k (sym e ∙ z)) r

pub gives_both : {P : Verdict → Type 0} {ts us : List Test} → Giving P ts → Giving P us → Giving P (ts ++ us)
gives_both gives_none q = q
gives_both (gives_one e p) q = gives_one e (gives_both p q)

abbrev number_of : {u v : Verdict} → u ≡ v → u.number ≡ v.number
number_of e = ap (λ (v : Verdict). v.number) e

-- ---- lists that pass
pub passing_skips : {ts : List Test} → Passing ts → (us : List Test) → first_hit (ts ++ us) ≡ first_hit us
passing_skips all_pass us = refl
passing_skips (one_passes {t = t} {ts = ts} e p) us = passes t (ts ++ us) e ∙ passing_skips p us

pub passing_done : {ts : List Test} → Passing ts → first_hit ts ≡ done
passing_done all_pass = none_hits
passing_done (one_passes {t = t} {ts = ts} e p) = passes t ts e ∙ passing_done p

pub passing_both : {ts us : List Test} → Passing ts → Passing us → Passing (ts ++ us)
passing_both all_pass q = q
passing_both (one_passes e p) q = one_passes e (passing_both p q)

pub head_passes : {t : Test} {ts : List Test} → Passing (t ∷ ts) → t.hit ≡ false
head_passes (one_passes e p) = e

pub tail_passes : {t : Test} {ts : List Test} → Passing (t ∷ ts) → Passing ts
tail_passes (one_passes e p) = p

pub passing_parts : (ts : List Test) {us : List Test} → Passing (ts ++ us) → Passing ts × Passing us
passing_parts [] p = (all_pass, p)
passing_parts (t ∷ ts) p = let q = passing_parts ts (tail_passes p) in (one_passes (head_passes p) q.0, q.1)

-- ---- the verdict is done exactly where the list passes
module _ (t : Test) (ts : List Test) (g : Refusal t.gives) (rest : (first_hit ts).number ≡ 0 → Passing ts) where
  passing_more : (first_hit (t ∷ ts)).number ≡ 0 → Passing (t ∷ ts)
  passing_more z = go t.hit refl
    where
      go : (b : Bool) → t.hit ≡ b → Passing (t ∷ ts)
      go true e = absurd (g (number_of (sym (hits t ts e)) ∙ z))
      go false e = one_passes e (rest (number_of (sym (passes t ts e)) ∙ z))

pub passing_of : {ts : List Test} → Refusing ts → (first_hit ts).number ≡ 0 → Passing ts
passing_of gives_none z = all_pass
passing_of (gives_one {t = t} {ts = ts} g r) z = passing_more t ts g (passing_of r) z

pub done_exactly : {ts : List Test} → Refusing ts → ((first_hit ts).number ≡ 0) ↔ Passing ts
done_exactly r = (passing_of r, λ p. number_of (passing_done p))

-- ---- a refusal stays where more tests follow
module _ (t : Test) (ts us : List Test) (rest : Refusal (first_hit ts) → first_hit (ts ++ us) ≡ first_hit ts) where
  refusal_more : Refusal (first_hit (t ∷ ts)) → first_hit (t ∷ ts ++ us) ≡ first_hit (t ∷ ts)
  refusal_more d = go t.hit refl
    where
      go : (b : Bool) → t.hit ≡ b → first_hit (t ∷ ts ++ us) ≡ first_hit (t ∷ ts)
      go true e = hits t (ts ++ us) e ∙ sym (hits t ts e)
      go false e = passes t (ts ++ us) e ∙ rest (λ z. d (number_of (passes t ts e) ∙ z)) ∙ sym (passes t ts e)

pub refusal_stays : (ts us : List Test) → Refusal (first_hit ts) → first_hit (ts ++ us) ≡ first_hit ts
refusal_stays [] us d = absurd (d (number_of none_hits))
refusal_stays (t ∷ ts) us d = refusal_more t ts us (refusal_stays ts us) d

-- where two lists come to number 0, the first one passes
pub first_passes : {ts : List Test} → Refusing ts → (us : List Test) → (first_hit (ts ++ us)).number ≡ 0 → Passing ts
first_passes {ts} r us z = go (first_hit ts).number refl
  where
    go : (k : ℕ) → (first_hit ts).number ≡ k → Passing ts
    go zero e = passing_of r e
    go (suc k) e = let d : Refusal (first_hit ts) = (λ y. suc-ne-zero k (sym e ∙ y)) in absurd (d (number_of (sym (refusal_stays ts us d)) ∙ z))

-- ---- a refusal is what one of the tests gives
module _ (P : Verdict → Type 0) (t : Test) (ts : List Test) (g : P t.gives) (rest : Refusal (first_hit ts) → P (first_hit ts)) where
  given_more : Refusal (first_hit (t ∷ ts)) → P (first_hit (t ∷ ts))
  given_more d = go t.hit refl
    where
      go : (b : Bool) → t.hit ≡ b → P (first_hit (t ∷ ts))
      go true e = subst P (sym (hits t ts e)) g
      go false e = subst P (sym (passes t ts e)) (rest (λ z. d (number_of (passes t ts e) ∙ z)))

pub refusal_given : {P : Verdict → Type 0} {ts : List Test} → Giving P ts → Refusal (first_hit ts) → P (first_hit ts)
refusal_given gives_none d = absurd (d (number_of none_hits))
refusal_given {P} (gives_one {t = t} {ts = ts} g r) d = given_more P t ts g (refusal_given r) d

-- ---- two lists: the first refuses, or it passes and the second refuses
module _ {ts : List Test} (refusing : Refusing ts) (us : List Test) {v : Verdict} (refuses : Refusal v) where
  pub refused_by_parts : (first_hit (ts ++ us) ≡ v) ↔ ((first_hit ts ≡ v) ⊎ (Passing ts × (first_hit us ≡ v)))
  refused_by_parts = (λ e. parts e (first_hit ts).number refl, ⊎_elim first second)
    where
      parts : first_hit (ts ++ us) ≡ v → (k : ℕ) → (first_hit ts).number ≡ k → (first_hit ts ≡ v) ⊎ (Passing ts × (first_hit us ≡ v))
      parts e zero z = let p = passing_of refusing z in inr (p, sym (passing_skips p us) ∙ e)
      parts e (suc k) z = inl (sym (refusal_stays ts us (λ y. suc-ne-zero k (sym z ∙ y))) ∙ e)

      first : first_hit ts ≡ v → first_hit (ts ++ us) ≡ v
      first e = refusal_stays ts us (λ z. refuses (number_of (sym e) ∙ z)) ∙ e

      second : Passing ts × (first_hit us ≡ v) → first_hit (ts ++ us) ≡ v
      second w = passing_skips w.0 us ∙ w.1

-- ---- number and place, exactly when: the first test that hits gives them
pub record HitFirst (ts : List Test) (v : Verdict) : Type 0 where
  pub before : List Test
  pub test : Test
  pub behind : List Test
  pub splits : ts ≡ before ++ test ∷ behind
  pub passed : Passing before
  pub hit : test.hit ≡ true
  pub gives : test.gives ≡ v

hit_later : (t : Test) {ts : List Test} {v : Verdict} → t.hit ≡ false → HitFirst ts v → HitFirst (t ∷ ts) v
hit_later t e h =
    record {
      before = t ∷ h.before;
      test = h.test;
      behind = h.behind;
      splits = ap (λ (us : List Test). t ∷ us) h.splits;
      passed = one_passes e h.passed;
      hit = h.hit;
      gives = h.gives;
    }

module _ (v : Verdict) (refuses : Refusal v) where
  hit_more : (t : Test) (ts : List Test) → (first_hit ts ≡ v → HitFirst ts v) → first_hit (t ∷ ts) ≡ v → HitFirst (t ∷ ts) v
  hit_more t ts rest e = go t.hit refl
    where
      go : (b : Bool) → t.hit ≡ b → HitFirst (t ∷ ts) v
      go true h = record { before = []; test = t; behind = ts; splits = refl; passed = all_pass; hit = h; gives = sym (hits t ts h) ∙ e }
      go false h = hit_later t h (rest (sym (passes t ts h) ∙ e))

  pub hit_found : (ts : List Test) → first_hit ts ≡ v → HitFirst ts v
  hit_found [] e = absurd (refuses (number_of (sym e ∙ none_hits)))
  hit_found (t ∷ ts) e = hit_more t ts (hit_found ts) e

  pub refused_exactly : (ts : List Test) → (first_hit ts ≡ v) ↔ HitFirst ts v
  refused_exactly ts = (
    hit_found ts,
    λ h. ap first_hit h.splits ∙ passing_skips h.passed (h.test ∷ h.behind) ∙ hits h.test h.behind h.hit ∙ h.gives,
  )
