-- The order of two posits by that of their patterns with the top bit turned over.
use Rattle.std.proofs.Common.{◌≡◌, ℕ, ◌+◌, ◌%◌, ◌^◌, ◌<◌, ◌≤◌}
use Rattle.std.specs.Ordering.{MatchOrdering}
use Rattle.std.specs.declared.cmp.Ordering.{Ordering}
use Rattle.std.specs.declared.cmp.Ordering.TheVariants.{Less, Equal, Greater}
use Rattle.posit.specs.Format.{nar}
use Rattle.posit.specs.Comparing.{Compares}
use Rattle.posit.proofs.Turned.{less_turned, same_turned}

module _ (n : ℕ) {half a b : ℕ} (wide : 3 ≤ n) {p q : ℕ} (u : p < 2 ^ n) (v : q < 2 ^ n) (eh : half ≡ nar n) (ea : a ≡ 2 ^ n) (eb : b ≡ 2 ^ n) where
  pub by_turned : (o : Ordering) → MatchOrdering o ((p + half) % a < (q + half) % b) ((p + half) % a ≡ (q + half) % b) ((q + half) % b < (p + half) % a) → Compares n p q o
  by_turned Less h = less_turned n eh wide u v ea eb h
  by_turned Equal h = same_turned n eh wide u v ea eb h
  by_turned Greater h = less_turned n eh wide v u eb ea h
