-- A tile with its posit negated stands at the mirrored cell: the number of the negated posit is counted from the other side.
use mathlib.Core.Path.{◌≡◌, ap, ◌∙◌}
use mathlib.Core.Logic.{◌≢◌}
use Prim.Native.Nat.{ℕ, ◌+◌, ◌-◌, ◌*◌, ◌/◌, ◌%◌, ◌≤◌, ◌<◌}
use native.Mathlib.Omega.{arith}
use Rattle.posit.specs.Format.{nar, Finite, negated}
use Rattle.posit.proofs.Mirror.{negated_finite, negated_nar, power_wider}
use Rattle.posit.proofs.Patterns.{some_bit}
use Rattle.word.specs.Word.{tiles, closed_nar, open_nar}
use Rattle.word.specs.Numbered.{count, number_of}
use Rattle.word.specs.Spans.{top_cell, start_cell, end_cell, turned_tile}
use Rattle.word.proofs.Grid.{half, nar_positive, number_fits, number_negated}
use Rattle.word.proofs.Places.{Tile, unbounded_tile, closed_tile, open_tile, tile, top_cell_says, start_unbounded, end_unbounded, start_closed, start_open, end_closed, end_open}

pub record Turned (n t : ℕ) : Type 0 where
  pub fits : turned_tile n t < tiles n
  pub not_nar : turned_tile n t ≢ closed_nar n
  pub start_cell_says : start_cell n (turned_tile n t) ≡ top_cell n - end_cell n t
  pub end_cell_says : end_cell n (turned_tile n t) ≡ top_cell n - start_cell n t

module _ (n : ℕ) (wide : 3 ≤ n) where
  turned_open_nar : turned_tile n (open_nar n) ≡ open_nar n
  turned_open_nar =
      let d : open_nar n / 2 ≡ nar n = omega arith in
      ap (λ (q : ℕ). 2 * negated n q + open_nar n % 2) d ∙ omega (arith, negated_nar n (some_bit n wide))

  turned_closed : (p : ℕ) → turned_tile n (2 * p) ≡ 2 * negated n p
  turned_closed p =
      let d : 2 * p / 2 ≡ p = omega arith in
      ap (λ (q : ℕ). 2 * negated n q + 2 * p % 2) d ∙ omega arith

  turned_open : (p : ℕ) → turned_tile n (2 * p + 1) ≡ 2 * negated n p + 1
  turned_open p =
      let d : (2 * p + 1) / 2 ≡ p = omega arith in
      ap (λ (q : ℕ). 2 * negated n q + (2 * p + 1) % 2) d ∙ omega arith

  mirrored_number : {p : ℕ} → Finite n p → number_of n (negated n p) + number_of n p + 1 ≡ count n
  mirrored_number f = omega (arith, number_negated n (some_bit n wide) f, number_fits n (some_bit n wide) f)

  unbounded : Turned n (open_nar n)
  unbounded =
      record {
        fits = rw turned_open_nar (omega (arith, power_wider n, half n (some_bit n wide), nar_positive n (some_bit n wide)));
        not_nar = rw turned_open_nar (omega arith);
        start_cell_says = ap (start_cell n) turned_open_nar ∙ omega (arith, start_unbounded n wide, end_unbounded n wide);
        end_cell_says = ap (end_cell n) turned_open_nar ∙ omega (arith, start_unbounded n wide, end_unbounded n wide);
      }

  module _ {p : ℕ} (f : Finite n p) where
    g : Finite n (negated n p)
    g = negated_finite (some_bit n wide) f

    closed : Turned n (2 * p)
    closed =
        record {
          fits = rw (turned_closed p) (omega (arith, g.fits, power_wider n));
          not_nar = rw (turned_closed p) (λ e. g.not_nar (omega arith));
          start_cell_says = ap (start_cell n) (turned_closed p) ∙ omega (arith, start_closed n wide g, end_closed n wide f, mirrored_number f, top_cell_says n wide);
          end_cell_says = ap (end_cell n) (turned_closed p) ∙ omega (arith, end_closed n wide g, start_closed n wide f, mirrored_number f, top_cell_says n wide);
        }

    open_ended : Turned n (2 * p + 1)
    open_ended =
        record {
          fits = rw (turned_open p) (omega (arith, g.fits, power_wider n));
          not_nar = rw (turned_open p) (omega arith);
          start_cell_says = ap (start_cell n) (turned_open p) ∙ omega (arith, start_open n wide g, end_open n wide f, mirrored_number f, top_cell_says n wide);
          end_cell_says = ap (end_cell n) (turned_open p) ∙ omega (arith, end_open n wide g, start_open n wide f, mirrored_number f, top_cell_says n wide);
        }

  pub turned : {t : ℕ} → t < tiles n → t ≢ closed_nar n → Turned n t
  turned {t} h c = go (tile n wide h c)
    where
      go : Tile n t → Turned n t
      go (unbounded_tile e) = rw e unbounded
      go (closed_tile p f e) = rw e (closed f)
      go (open_tile p f e) = rw e (open_ended f)
