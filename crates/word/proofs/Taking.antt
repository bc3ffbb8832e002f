-- A word taken apart is what the definitions say: a closed NaR at either end holds infinity, and of two other tiles the cells decide; where
-- these are the wrong way round the word is empty if its tiles are the same, and holds infinity if not.
use mathlib.Core.Path.{◌≡◌, refl, sym, ap, ◌∙◌}
use mathlib.Core.Bool.{Bool, true, false}
use mathlib.Core.Logic.{◌≢◌, ◌↔◌}
use Prim.Native.Nat.{ℕ, ◌≤◌, ◌<◌}
use native.Mathlib.Omega.{arith}
use Rattle.std.specs.Prelude.{Ok, Err}
use Rattle.call.specs.declared.reason.Reason.TheVariants.{TooLarge, HoldsInfinity}
use Rattle.word.specs.Word.{words, kind, is_infinite, start_tile, end_tile, closed_nar}
use Rattle.word.specs.Member.{Real}
use Rattle.word.specs.Spans.{start_cell, end_cell, no_cells}
use Rattle.word.specs.Taking.{TakesWord}
use Rattle.word.proofs.WordKinds.{closed_start_infinite, closed_end_infinite, infinite_by_cells}
use Rattle.word.proofs.RealWords.{between_some, between_none}
use Rattle.word.proofs.Verdicts.{word_too_large, word_infinite}

-- ---- by what the word is
module _ (n w : ℕ) where
  pub takes_large : words n ≤ w → TakesWord n w (Err TooLarge)
  takes_large h place = word_too_large n place w h

  takes_infinite : w < words n → is_infinite (kind n w) ≡ true → TakesWord n w (Err HoldsInfinity)
  takes_infinite h i place = word_infinite n place w h i

  pub takes_closed_start : w < words n → start_tile n w ≡ closed_nar n → TakesWord n w (Err HoldsInfinity)
  takes_closed_start h e = takes_infinite h (closed_start_infinite n w e)

  pub takes_closed_end : w < words n → end_tile n w ≡ closed_nar n → TakesWord n w (Err HoldsInfinity)
  takes_closed_end h e = takes_infinite h (closed_end_infinite n w e)

-- ---- by the cells of its tiles, where neither is a closed NaR
pub record Opened (n w s e lo hi : ℕ) : Type 0 where
  pub wide : 3 ≤ n
  pub fits : w < words n
  pub start : s ≡ start_tile n w
  pub end : e ≡ end_tile n w
  pub start_other : s ≢ closed_nar n
  pub end_other : e ≢ closed_nar n
  pub first : lo ≡ start_cell n s
  pub last : hi ≡ end_cell n e

module _ {n w s e lo hi : ℕ} (o : Opened n w s e lo hi) where
  first_cell : lo ≡ start_cell n (start_tile n w)
  first_cell = o.first ∙ ap (start_cell n) o.start

  last_cell : hi ≡ end_cell n (end_tile n w)
  last_cell = o.last ∙ ap (end_cell n) o.end

  infinite_iff : (is_infinite (kind n w) ≡ true) ↔ ((start_tile n w ≢ end_tile n w) × (end_cell n (end_tile n w) < start_cell n (start_tile n w)))
  infinite_iff = infinite_by_cells n o.wide o.fits (λ i. o.start_other (o.start ∙ i)) (λ i. o.end_other (o.end ∙ i))

  real : ¬ ((start_tile n w ≢ end_tile n w) × (end_cell n (end_tile n w) < start_cell n (start_tile n w))) → Real n w
  real f = record { fits = o.fits; no_infinity = go (is_infinite (kind n w)) refl }
    where
      go : (b : Bool) → is_infinite (kind n w) ≡ b → is_infinite (kind n w) ≡ false
      go true i = absurd (f (infinite_iff.0 i))
      go false i = i

  pub takes_cells : lo ≤ hi → TakesWord n w (Ok (record { lo = lo; hi = hi }))
  takes_cells l =
      let k : start_cell n (start_tile n w) ≤ end_cell n (end_tile n w) = omega (arith, first_cell, last_cell) in
      (real (λ i. absurd (omega (arith, i.1))), rw (first_cell, last_cell) (sym (between_some n (start_tile n w) (end_tile n w) k)))

  module _ (l : hi < lo) where
    turned_round : end_cell n (end_tile n w) < start_cell n (start_tile n w)
    turned_round = omega (arith, first_cell, last_cell)

    pub takes_none : s ≡ e → TakesWord n w (Ok (no_cells n))
    takes_none i =
        (real (λ j. j.0 (sym o.start ∙ i ∙ o.end)), sym (between_none n (start_tile n w) (end_tile n w) turned_round))

    pub takes_turned : s ≢ e → TakesWord n w (Err HoldsInfinity)
    takes_turned i = takes_infinite n w o.fits (infinite_iff.1 (λ j. i (o.start ∙ j ∙ sym o.end), turned_round))
