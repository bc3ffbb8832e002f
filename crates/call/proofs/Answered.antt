-- An answer by its verdict: refused, or done.
use Rattle.std.proofs.Common.{◌≡◌, ◌≢◌, ℕ, ◌-◌, [], ◌∷◌, get_or, refl, sym, ap, ◌∙◌, suc-ne-zero}
use Rattle.std.specs.Prelude.{Result, Ok, Err, IsErr, IsErrAnd}
use Rattle.std.proofs.lemmas.Result.{err_from_is_err_and}
use Rattle.call.specs.declared.reason.Reason.{Reason}
use Rattle.call.specs.declared.reason.Reason.TheVariants.{OutsideLimits, NoOperation, TooLarge, HoldsInfinity, ZeroDivisor, BadReading, WrongLength, NotEarlier, NoRoom, BadFile}
use Rattle.call.specs.declared.refusal.Refusal.{Refusal}
use Rattle.call.specs.Number.{number_of}
use Rattle.call.specs.Verdict.{Verdict, Answers, done, refused}

-- no reason has the number of a call that is done
pub reason_is_some : (e : Reason) → number_of e ≢ 0
reason_is_some OutsideLimits = suc-ne-zero _
reason_is_some NoOperation = suc-ne-zero _
reason_is_some TooLarge = suc-ne-zero _
reason_is_some HoldsInfinity = suc-ne-zero _
reason_is_some ZeroDivisor = suc-ne-zero _
reason_is_some BadReading = suc-ne-zero _
reason_is_some WrongLength = suc-ne-zero _
reason_is_some NotEarlier = suc-ne-zero _
reason_is_some NoRoom = suc-ne-zero _
reason_is_some BadFile = suc-ne-zero _

pub refuses : {v : Verdict} (e : Refusal) → v ≡ refused e → v.number ≢ 0
refuses e s z = reason_is_some e.reason (sym (ap (λ (v : Verdict). v.number) s) ∙ z)

pub accepts : {v : Verdict} → v ≡ done → v.number ≡ 0
accepts s = ap (λ (v : Verdict). v.number) s

-- ---- a call has one answer
abbrev reason_of : ℕ → Reason
reason_of k =
    get_or (OutsideLimits ∷ NoOperation ∷ TooLarge ∷ HoldsInfinity ∷ ZeroDivisor ∷ BadReading ∷ WrongLength ∷ NotEarlier ∷ NoRoom ∷ BadFile ∷ [])
    (k - 1) OutsideLimits

reason_back : (e : Reason) → reason_of (number_of e) ≡ e
reason_back OutsideLimits = refl
reason_back NoOperation = refl
reason_back TooLarge = refl
reason_back HoldsInfinity = refl
reason_back ZeroDivisor = refl
reason_back BadReading = refl
reason_back WrongLength = refl
reason_back NotEarlier = refl
reason_back NoRoom = refl
reason_back BadFile = refl

pub one_reason : (d e : Reason) → number_of d ≡ number_of e → d ≡ e
one_reason d e s = sym (reason_back d) ∙ ap reason_of s ∙ reason_back e

pub one_refusal : (d e : Refusal) → refused d ≡ refused e → d ≡ e
one_refusal d e s =
    let reason = one_reason d.reason e.reason (ap (λ (v : Verdict). v.number) s) in
    λ i. record { reason = reason i; place = ap (λ (v : Verdict). v.place) s i }

-- where what is right of a call that is done is one value, the call has one answer
pub one_answer : {A : Type 0} (v : Verdict) (Right : A → Type 0) → (v ≡ done → (x y : A) → Right x → Right y → x ≡ y) → (r q : Result A Refusal) → Answers v Right r → Answers v Right q → r ≡ q
one_answer v Right once (Ok x) (Ok y) s t = ap Ok (once s.0 x y s.1 t.1)
one_answer v Right once (Ok x) (Err e) s t = absurd (refuses e t (accepts s.0))
one_answer v Right once (Err d) (Ok y) s t = absurd (refuses d s (accepts t.0))
one_answer v Right once (Err d) (Err e) s t = ap Err (one_refusal d e (sym s ∙ t))

-- ---- a call that passes on the refusal of a step
pub passes_on : {A : Type 0} {v : Verdict} (Right : A → Type 0) (r : Result A Refusal) (d : Refusal) → IsErr r × IsErrAnd r (λ e. e ≡ d) → v ≡ refused d → Answers v Right r
passes_on Right r d h k = let p = err_from_is_err_and r h.1 in rw (p.1, p.2) k
