-- Which rows a row's exact value depends on.
use Rattle.std.specs.Prelude.{◌≡◌, List, ℕ, ◌+◌, ◌<◌, length, get_or}
use Rattle.sheet.specs.Sheet.{Step, no_step}

-- A row depends on itself, and the row of step k, the k-th after the inputs, on whatever its left and its right row depend on.
pub data DependsOn (inputs : ℕ) (steps : List Step) : ℕ → ℕ → Type 0 where
  itself : {row : ℕ} → DependsOn inputs steps row row
  by_left : {row earlier k : ℕ} → row ≡ inputs + k → k < length steps → DependsOn inputs steps (get_or steps k no_step).left earlier → DependsOn inputs steps row earlier
  by_right : {row earlier k : ℕ} → row ≡ inputs + k → k < length steps → DependsOn inputs steps (get_or steps k no_step).right earlier → DependsOn inputs steps row earlier
