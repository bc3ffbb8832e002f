-- What a call's n, es and operation number are taken as.
use Rattle.std.specs.Prelude.{◌≡◌, ℕ}
use Rattle.call.specs.declared.operation.Operation.{Operation}
use Rattle.call.specs.Operation.{number_of}
use Rattle.posit.specs.declared.inner.format.Format.{Format}
use Rattle.posit.specs.Formats.{IsOf}

-- the format of n and es, and the operation of the number op
pub record IsCallOf (n es op : ℕ) (taken : Format × Operation) : Type 0 where
  pub format_is : IsOf n es taken.0
  pub operation_is : op ≡ number_of taken.1
