-- A format is a width n from 3 to 16 and an exponent size es from 0 to 2; a posit of the format is a pattern below 2^n.
use Rattle.std.specs.Prelude.{ℕ, ◌-◌, ◌*◌, ◌%◌, ◌^◌, ◌<◌, ◌≤◌, Bool, ◌&&◌, ◌≢◌, nat_le}

abbrev pub least_width : ℕ
least_width = 3

abbrev pub greatest_width : ℕ
greatest_width = 16

abbrev pub greatest_exponent_size : ℕ
greatest_exponent_size = 2

pub record Format (n es : ℕ) : Type 0 where
  pub wide_enough : least_width ≤ n
  pub not_too_wide : n ≤ greatest_width
  pub exponent_fits : es ≤ greatest_exponent_size

-- the same as a test
abbrev pub is_format : ℕ → ℕ → Bool
is_format n es = nat_le least_width n && nat_le n greatest_width && nat_le es greatest_exponent_size

-- the pattern that is NaR; the patterns below it have a clear top bit
abbrev pub nar : ℕ → ℕ
nar n = 2 ^ (n - 1)

-- the patterns of the largest posit and of the smallest positive one
abbrev pub max_pos : ℕ → ℕ
max_pos n = nar n - 1

abbrev pub min_pos : ℕ
min_pos = 1

-- maxPos is 2^m and minPos is 2^-m
abbrev pub m : ℕ → ℕ → ℕ
m n es = (n - 2) * 2 ^ es

-- a posit other than NaR
pub record Finite (n p : ℕ) : Type 0 where
  pub fits : p < 2 ^ n
  pub not_nar : p ≢ nar n

-- negation of a pattern, wrapping at n bits
abbrev pub negated : ℕ → ℕ → ℕ
negated n p = (2 ^ n - p) % 2 ^ n
