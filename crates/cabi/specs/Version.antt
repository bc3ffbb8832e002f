-- The library's version, three numbers in one. CHANGELOG.md says when each of them grows.
use Rattle.std.specs.Prelude.{ℕ, ◌+◌, ◌*◌}

abbrev pub first : ℕ
first = 1

abbrev pub second : ℕ
second = 0

abbrev pub third : ℕ
third = 0

-- what `jorumrain_version` gives
abbrev pub version : ℕ
version = 10000 * first + 100 * second + third
