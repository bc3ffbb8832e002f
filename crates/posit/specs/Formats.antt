-- A format as a value: the n and es of a call, or the reason why they are none.
use Rattle.std.specs.Prelude.{◌≡◌, ℕ, false, Result, MatchResult}
use Rattle.call.specs.declared.reason.Reason.{Reason}
use Rattle.call.specs.declared.reason.Reason.TheVariants.{OutsideLimits}
use Rattle.posit.specs.declared.inner.format.Format.{Format}
use Rattle.posit.specs.Format.{is_format}

-- the format of n and es
abbrev pub IsOf : ℕ → ℕ → Format → Type 0
IsOf n es f = (n ≡ f.n) × (es ≡ f.es)

-- n and es as a format; outside the limits, which the test says, they are none
abbrev pub IsFormatOf : ℕ → ℕ → Result Format Reason → Type 0
IsFormatOf n es r = MatchResult r (IsOf n es) (λ e. (e ≡ OutsideLimits) × (is_format n es ≡ false))
