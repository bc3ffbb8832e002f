-- Worked cases of exact bounds over the fractions, as one list: where an open end meets an equal closed one, where 0 meets an unbounded
-- end, and where the divisor has 0 as a member.
use mathlib.Core.Bool.{Bool, true, false}
use mathlib.Core.List.{List, [], ◌∷◌}
use lib.Dec.{T}
use lib.IntN.{pos, negsuc}
use Rattle.exact.specs.Fraction.{Fraction, leᶠ, whole, over_power}
use Rattle.bound.specs.Bound.{Bound, none, closed_at, open_at}
use Rattle.bound.specs.Extent.{Extent, empty, span, point}
use Rattle.bound.specs.Arithmetic.{sum, difference, product, quotient, product_plus}
use Rattle.bound.specs.FractionArithmetic.{fraction_arithmetic}

abbrev both : Bool → Bool → Bool
both true b = b
both false b = false

-- two bounds are the same, two extents are the same
abbrev agree : Bound Fraction → Bound Fraction → Bool
agree none none = true
agree none (closed_at b) = false
agree none (open_at b) = false
agree (closed_at a) none = false
agree (closed_at a) (closed_at b) = both (leᶠ a b) (leᶠ b a)
agree (closed_at a) (open_at b) = false
agree (open_at a) none = false
agree (open_at a) (closed_at b) = false
agree (open_at a) (open_at b) = both (leᶠ a b) (leᶠ b a)

pub record Case : Type 0 where
  pub computed : Extent Fraction
  pub expected : Extent Fraction

abbrev holds : Extent Fraction → Extent Fraction → Bool
holds empty empty = true
holds empty (span t f) = false
holds (span s e) empty = false
holds (span s e) (span t f) = both (agree s t) (agree e f)

abbrev every : List Case → Bool
every [] = true
every (c ∷ cs) = both (holds c.computed c.expected) (every cs)

abbrev -1ᶠ : Fraction
-1ᶠ = whole (negsuc 0)

abbrev 0ᶠ : Fraction
0ᶠ = whole (pos 0)

abbrev 1ᶠ : Fraction
1ᶠ = whole (pos 1)

abbrev 2ᶠ : Fraction
2ᶠ = whole (pos 2)

abbrev reals : Extent Fraction
reals = span none none

pub cases : List Case
cases =
    -- case I: [0,1) × (1,2) is [0,2)
    record { computed = product fraction_arithmetic (span (closed_at 0ᶠ) (open_at 1ᶠ)) (span (open_at 1ᶠ) (open_at 2ᶠ)); expected = span (closed_at 0ᶠ) (open_at 2ᶠ) }
    -- case J: [-1,1) × [-1,1) is (-1,1]
    ∷ record { computed = product fraction_arithmetic (span (closed_at -1ᶠ) (open_at 1ᶠ)) (span (closed_at -1ᶠ) (open_at 1ᶠ)); expected = span (open_at -1ᶠ) (closed_at 1ᶠ) }
    -- [0,0] times all reals is [0,0]
    ∷ record { computed = product fraction_arithmetic (point 0ᶠ) reals; expected = point 0ᶠ }
    -- (0,1) times (0, unbounded) is (0, unbounded)
    ∷ record { computed = product fraction_arithmetic (span (open_at 0ᶠ) (open_at 1ᶠ)) (span (open_at 0ᶠ) none); expected = span (open_at 0ᶠ) none }
    -- case L: [1,1] / (0,1] is 1 closed to unbounded
    ∷ record { computed = quotient fraction_arithmetic (point 1ᶠ) (span (open_at 0ᶠ) (closed_at 1ᶠ)); expected = span (closed_at 1ᶠ) none }
    -- with the divisor's 0 left out: [1,1] / [0,2] is from 1/2 closed, [1,1] / [-1,1] is all reals, [0,0] / [-1,1] is [0,0]
    ∷ record { computed = quotient fraction_arithmetic (point 1ᶠ) (span (closed_at 0ᶠ) (closed_at 2ᶠ)); expected = span (closed_at (over_power (pos 1) 1)) none }
    ∷ record { computed = quotient fraction_arithmetic (point 1ᶠ) (span (closed_at -1ᶠ) (closed_at 1ᶠ)); expected = span none none }
    ∷ record { computed = quotient fraction_arithmetic (point 0ᶠ) (span (closed_at -1ᶠ) (closed_at 1ᶠ)); expected = point 0ᶠ }
    -- anything over [0,0] is empty
    ∷ record { computed = quotient fraction_arithmetic reals (point 0ᶠ); expected = empty }
    -- [1,2] over all above 0 is 0 open to unbounded
    ∷ record { computed = quotient fraction_arithmetic (span (closed_at 1ᶠ) (closed_at 2ᶠ)) (span (open_at 0ᶠ) none); expected = span (open_at 0ᶠ) none }
    -- [1,2] - [1,2] is [-1,1], and [1,2) + [1,2] is [2,4)
    ∷ record { computed = difference fraction_arithmetic (span (closed_at 1ᶠ) (closed_at 2ᶠ)) (span (closed_at 1ᶠ) (closed_at 2ᶠ)); expected = span (closed_at -1ᶠ) (closed_at 1ᶠ) }
    ∷ record { computed = sum fraction_arithmetic (span (closed_at 1ᶠ) (open_at 2ᶠ)) (span (closed_at 1ᶠ) (closed_at 2ᶠ)); expected = span (closed_at 2ᶠ) (open_at (whole (pos 4))) }
    -- an empty operand gives nothing
    ∷ record { computed = sum fraction_arithmetic (span (open_at 1ᶠ) (open_at 1ᶠ)) reals; expected = empty }
    -- [0,1] · [0,1) + [1,1] is [1,2)
    ∷ record { computed = product_plus fraction_arithmetic (span (closed_at 0ᶠ) (closed_at 1ᶠ)) (span (closed_at 0ᶠ) (open_at 1ᶠ)) (point 1ᶠ); expected = span (closed_at 1ᶠ) (open_at 2ᶠ) }
    ∷ []

pub cases_hold : T (every cases)
unfolding cases sum difference product quotient product_plus
cases_hold = tt
