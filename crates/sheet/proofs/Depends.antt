-- Dependence goes on: what a row depends on depends on nothing that the row itself does not.
use mathlib.Core.List.{List}
use Prim.Native.Nat.{ℕ}
use Rattle.sheet.specs.Sheet.{Step}
use Rattle.sheet.specs.Depends.{DependsOn, itself, by_left, by_right}

module _ {inputs : ℕ} {steps : List Step} where
  pub depends_further : {row middle earlier : ℕ} → DependsOn inputs steps row middle → DependsOn inputs steps middle earlier → DependsOn inputs steps row earlier
  depends_further itself e = e
  depends_further (by_left i h d) e = by_left i h (depends_further d e)
  depends_further (by_right i h d) e = by_right i h (depends_further d e)
