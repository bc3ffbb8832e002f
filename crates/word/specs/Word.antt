-- Range words: a tile is 2P + u, a posit P with u = 1 for an open end, and a word is start tile · 2^(n+1) + end tile.
use Rattle.std.specs.Prelude.{Bool, true, false, ◌||◌, ℕ, zero, suc, ◌+◌, ◌*◌, ◌/◌, ◌%◌, ◌^◌, eqb}
use Rattle.std.specs.Int.Signed.{lt_z}
use Rattle.bound.specs.Bound.{Bound, none, closed_at, open_at}
use Rattle.posit.specs.Format.{nar}
use Rattle.posit.specs.Value.{signed}

-- how many tiles and how many words there are
abbrev pub tiles : ℕ → ℕ
tiles n = 2 ^ (n + 1)

abbrev pub words : ℕ → ℕ
words n = 2 ^ (2 * n + 2)

abbrev pub start_tile : ℕ → ℕ → ℕ
start_tile n w = w / tiles n

abbrev pub end_tile : ℕ → ℕ → ℕ
end_tile n w = w % tiles n

abbrev pub word_of : ℕ → ℕ → ℕ → ℕ
word_of n start end = start * tiles n + end

-- the posit of a tile and its mark, 1 for open
abbrev pub posit_of : ℕ → ℕ
posit_of t = t / 2

abbrev pub mark_of : ℕ → ℕ
mark_of t = t % 2

abbrev pub closed_nar : ℕ → ℕ
closed_nar n = 2 * nar n

abbrev pub open_nar : ℕ → ℕ
open_nar n = 2 * nar n + 1

-- the empty answer: 0 open at both ends
abbrev pub empty_word : ℕ → ℕ
empty_word n = word_of n 1 1

-- ---- what a word is
pub data Kind : Type 0 where
  holds_infinity unbounded interval point empty : Kind

abbrev pick : Bool → Kind → Kind → Kind
pick true a b = a
pick false a b = b

-- the same finite posit twice: both closed, that point; both open, empty; one open, the full circle
abbrev same_posit : ℕ → ℕ → Kind
same_posit start end = pick (eqb start end) (pick (eqb (mark_of start) 0) point empty) holds_infinity

-- both ends finite: start below end is an interval, start above end holds infinity
abbrev finite_ends : ℕ → ℕ → ℕ → Kind
finite_ends n start end =
    pick (lt_z (signed n (posit_of start)) (signed n (posit_of end))) interval
    (pick (lt_z (signed n (posit_of end)) (signed n (posit_of start))) holds_infinity (same_posit start end))

-- a closed NaR at either end holds infinity; else an open NaR is unbounded on its side
unfoldable pub kind_of_tiles : ℕ → ℕ → ℕ → Kind
kind_of_tiles n start end =
    pick (eqb start (closed_nar n) || eqb end (closed_nar n)) holds_infinity
    (pick (eqb start (open_nar n) || eqb end (open_nar n)) unbounded (finite_ends n start end))

abbrev pub kind : ℕ → ℕ → Kind
kind n w = kind_of_tiles n (start_tile n w) (end_tile n w)

abbrev pub is_infinite : Kind → Bool
is_infinite holds_infinity = true
is_infinite unbounded = false
is_infinite interval = false
is_infinite point = false
is_infinite empty = false

-- ---- an end: unbounded for an open NaR, else closed or open at a posit
abbrev by_mark : ℕ → ℕ → Bound ℕ
by_mark p zero = closed_at p
by_mark p (suc u) = open_at p

abbrev pick_end : Bool → Bound ℕ → Bound ℕ
pick_end true b = none
pick_end false b = b

abbrev pub end_of_tile : ℕ → ℕ → Bound ℕ
end_of_tile n t = pick_end (eqb t (open_nar n)) (by_mark (posit_of t) (mark_of t))

abbrev pub start_of : ℕ → ℕ → Bound ℕ
start_of n w = end_of_tile n (start_tile n w)

abbrev pub end_of : ℕ → ℕ → Bound ℕ
end_of n w = end_of_tile n (end_tile n w)
