-- Lists of tests, one for each place in order: they pass where each passes, and a refusal is that of the first that does not.
use mathlib.Core.Path.{◌≡◌, refl, sym, ap, ◌∙◌}
use mathlib.Core.Logic.{◌↔◌, ⊎_elim}
use mathlib.Core.List.{List, [], ◌++◌}
use Prim.Native.Nat.{ℕ, zero, suc, ◌<◌, suc-le-suc}
use native.Mathlib.Nat.{zero-lt-suc, not-suc-le-zero, le_of_suc-le-suc}
use Rattle.call.specs.Verdict.{Verdict, Test, first_hit}
use Rattle.call.proofs.FirstHit.{none_hits}
use Rattle.call.proofs.Tests.{Passing, all_pass, passing_parts, passing_both, passing_skips, Refusal, Refusing, refusal_stays, refused_by_parts}

-- the lists of the places 0 to m - 1, one behind the other
unfoldable pub joined : (ℕ → List Test) → ℕ → List Test
joined block zero = []
joined block (suc m) = block zero ++ joined (λ k. block (suc k)) m

pub joined_same : {block other : ℕ → List Test} (m : ℕ) → ((k : ℕ) → k < m → block k ≡ other k) → joined block m ≡ joined other m
unfolding joined
joined_same zero h = refl
joined_same {block} {other} (suc m) h =
    ap (λ (ts : List Test). ts ++ joined (λ k. block (suc k)) m) (h zero (zero-lt-suc m))
    ∙ ap (λ (ts : List Test). other zero ++ ts) (joined_same m (λ k l. h (suc k) (suc-le-suc l)))

-- ---- where all pass
pub each_passes : (block : ℕ → List Test) (m : ℕ) → Passing (joined block m) → (k : ℕ) → k < m → Passing (block k)
unfolding joined
each_passes block zero p k h = absurd (not-suc-le-zero h)
each_passes block (suc m) p zero h = (passing_parts (block zero) p).0
each_passes block (suc m) p (suc k) h = each_passes (λ j. block (suc j)) m (passing_parts (block zero) p).1 k (le_of_suc-le-suc h)

pub all_passing : (block : ℕ → List Test) (m : ℕ) → ((k : ℕ) → k < m → Passing (block k)) → Passing (joined block m)
unfolding joined
all_passing block zero h = all_pass
all_passing block (suc m) h = passing_both (h zero (zero-lt-suc m)) (all_passing (λ k. block (suc k)) m (λ k l. h (suc k) (suc-le-suc l)))

-- ---- the first place that is refused
pub record RefusedAt (block : ℕ → List Test) (m : ℕ) (v : Verdict) : Type 0 where
  pub at : ℕ
  pub there : at < m
  pub earlier_pass : (k : ℕ) → k < at → Passing (block k)
  pub refused : first_hit (block at) ≡ v

module _ {v : Verdict} (refuses : Refusal v) where
  refused_here : {block : ℕ → List Test} {m : ℕ} → first_hit (block zero) ≡ v → RefusedAt block (suc m) v
  refused_here {m = m} e = record { at = zero; there = zero-lt-suc m; earlier_pass = λ k h. absurd (not-suc-le-zero h); refused = e }

  refused_later : {block : ℕ → List Test} {m : ℕ} → Passing (block zero) → RefusedAt (λ k. block (suc k)) m v → RefusedAt block (suc m) v
  refused_later {block} p r =
      record { at = suc r.at; there = suc-le-suc r.there; earlier_pass = before; refused = r.refused }
    where
      before : (k : ℕ) → k < suc r.at → Passing (block k)
      before zero h = p
      before (suc k) h = r.earlier_pass k (le_of_suc-le-suc h)

  pub refused_somewhere : (block : ℕ → List Test) (m : ℕ) → ((k : ℕ) → Refusing (block k)) → first_hit (joined block m) ≡ v → RefusedAt block m v
  unfolding joined
  refused_somewhere block zero rs e = absurd (refuses (ap (λ (u : Verdict). u.number) (sym e ∙ none_hits)))
  refused_somewhere block (suc m) rs e =
      ⊎_elim refused_here (λ w. refused_later w.0 (refused_somewhere (λ k. block (suc k)) m (λ k. rs (suc k)) w.1))
      ((refused_by_parts (rs zero) (joined (λ k. block (suc k)) m) refuses).0 e)

  pub refused_there : (block : ℕ → List Test) (m at : ℕ) → at < m → ((k : ℕ) → k < at → Passing (block k)) → first_hit (block at) ≡ v → first_hit (joined block m) ≡ v
  unfolding joined
  refused_there block zero at h p e = absurd (not-suc-le-zero h)
  refused_there block (suc m) zero h p e = refusal_stays (block zero) (joined (λ k. block (suc k)) m) (λ z. refuses (ap (λ (u : Verdict). u.number) (sym e) ∙ z)) ∙ e
  refused_there block (suc m) (suc at) h p e =
      passing_skips (p zero (zero-lt-suc at)) (joined (λ k. block (suc k)) m)
      ∙ refused_there (λ k. block (suc k)) m at (le_of_suc-le-suc h) (λ k l. p (suc k) (suc-le-suc l)) e

  pub refused_exactly_at : (block : ℕ → List Test) (m : ℕ) → ((k : ℕ) → Refusing (block k)) → (first_hit (joined block m) ≡ v) ↔ RefusedAt block m v
  refused_exactly_at block m rs = (refused_somewhere block m rs, λ r. refused_there block m r.at r.there r.earlier_pass r.refused)
