-- How small a decoded posit's fraction and scale are, in any format.
use Rattle.std.specs.Prelude.{ℕ, ◌*◌, ◌^◌, ◌<◌, ◌≤◌, ℤ, pos, ◌+ℤ◌, ◌≤ℤ◌, unsigned_abs}
use Rattle.posit.specs.declared.decoded.Decoded.{Decoded}
use Rattle.posit.specs.declared.decoded.Decoded.TheVariants.{Zero, Nar, Finite}
use Rattle.posit.specs.Decoding.{Decodes}

-- every finite posit of every format is a whole multiple of 2^-56, at most 2^112 of them
abbrev pub unit_bits : ℕ
unit_bits = 56

-- the fraction and scale of a decoded posit, in any format
pub record SmallForm (s : ℤ) (g : ℕ) : Type 0 where
  pub some : 0 < g
  pub few : g < 2 ^ 14
  pub above : pos 0 ≤ℤ (s +ℤ pos unit_bits)
  pub fits : g * 2 ^ unsigned_abs (s +ℤ pos unit_bits) ≤ 2 ^ 112

abbrev pub Small : Decoded → Type 0
Small Zero = Unit {0}
Small Nar = Unit {0}
Small (Finite negative s g) = SmallForm s g

-- a posit decoded, with a form as small as a posit's is
pub record Unpacks (n es p : ℕ) (d : Decoded) : Type 0 where
  pub decodes : Decodes n es p d
  pub small : Small d
