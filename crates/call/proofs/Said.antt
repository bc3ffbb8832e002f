-- A verdict of lists of tests put one behind the other, test by test.
use Rattle.std.proofs.Common.{◌≡◌, List, ◌∷◌, ◌++◌, true, ◌∙◌}
use Rattle.call.specs.declared.refusal.Refusal.{Refusal}
use Rattle.call.specs.Verdict.{Verdict, Test, first_hit, refused}
use Rattle.call.proofs.FirstHit.{hits}
use Rattle.call.proofs.Answered.{refuses}
use Rattle.call.proofs.Tests.{Passing, passing_skips, refusal_stays}

-- a list that refused has spoken
pub refused_first : (ts us : List Test) (e : Refusal) → first_hit ts ≡ refused e → first_hit (ts ++ us) ≡ refused e
refused_first ts us e s = refusal_stays ts us (refuses e s) ∙ s

-- a list that passed lets the next one speak
pub refused_next : {ts : List Test} → Passing ts → (us : List Test) {v : Verdict} → first_hit us ≡ v → first_hit (ts ++ us) ≡ v
refused_next p us s = passing_skips p us ∙ s

-- the first test of those left hits
pub refused_hit : {ts : List Test} → Passing ts → (t : Test) (us : List Test) {v : Verdict} → t.hit ≡ true → t.gives ≡ v → first_hit (ts ++ t ∷ us) ≡ v
refused_hit p t us h e = refused_next p (t ∷ us) (hits t us h ∙ e)
