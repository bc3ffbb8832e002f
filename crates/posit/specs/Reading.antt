-- How the b bits after a clear sign are read: a run of equal bits, one closing bit if there is room, exponent bits, fraction bits.
-- The number b is one less than the width; p is a pattern of b bits that is not 0.
use Rattle.std.specs.Prelude.{ℕ, zero, suc, ◌+◌, ◌-◌, ◌*◌, ◌/◌, ◌%◌, ◌^◌, min, true, false, ℤ, pos, ◌+ℤ◌, ◌*ℤ◌, neg_ℤ, ◌==◌}
use Rattle.exact.specs.Fraction.{Fraction, over_power, scaled, ◌*ᶠ◌}

-- bit i of p; bit 0 is the lowest
abbrev pub bit : ℕ → ℕ → ℕ
bit p i = p / 2 ^ i % 2

-- how many bits equal to x stand at the top of the b low bits of p
unfoldable pub run : ℕ → ℕ → ℕ → ℕ
run x zero p = 0
run x (suc b) p = elim (bit p b == x) [ true ↦ suc (run x b p) | false ↦ 0 ]

-- the bit that the run repeats: the one after the sign
abbrev pub run_bit : ℕ → ℕ → ℕ
run_bit b p = bit p (b - 1)

-- r, the length of the run
abbrev pub run_length : ℕ → ℕ → ℕ
run_length b p = run (run_bit b p) b p

-- how many bits are left behind the run and its closing bit; none where the run leaves no room
abbrev pub rest : ℕ → ℕ → ℕ
rest b p = b - (run_length b p + 1)

-- how many exponent bits there are: es of them, or as many as fit
abbrev pub exponent_bits : ℕ → ℕ → ℕ → ℕ
exponent_bits b es p = min es (rest b p)

-- f, how many fraction bits there are
abbrev pub fraction_bits : ℕ → ℕ → ℕ → ℕ
fraction_bits b es p = rest b p - exponent_bits b es p

-- e, the exponent bits with the high one first; those that don't fit are zero
abbrev pub exponent : ℕ → ℕ → ℕ → ℕ
exponent b es p = p % 2 ^ rest b p / 2 ^ fraction_bits b es p * 2 ^ (es - exponent_bits b es p)

-- F, the fraction bits
abbrev pub fraction : ℕ → ℕ → ℕ → ℕ
fraction b es p = p % 2 ^ fraction_bits b es p

-- k, by the bit of the run and its length: r - 1 for ones and -r for zeros
abbrev regime_of : ℕ → ℕ → ℤ
regime_of zero r = neg_ℤ (pos r)
regime_of (suc x) r = pos (r - 1)

abbrev pub regime : ℕ → ℕ → ℤ
regime b p = regime_of (run_bit b p) (run_length b p)

-- the magnitude in document 01's words: 2^(k·2^es + e) · (1 + F/2^f)
abbrev pub magnitude : ℕ → ℕ → ℕ → Fraction
magnitude b es p =
    scaled (pos 1) (regime b p *ℤ pos (2 ^ es) +ℤ pos (exponent b es p))
    *ᶠ over_power (pos (2 ^ fraction_bits b es p + fraction b es p)) (fraction_bits b es p)
