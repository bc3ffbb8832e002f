-- The machine's two ways to turn a real word, with its tiles s and t at hand.
use mathlib.Core.Path.{◌≡◌}
use Prim.Native.Nat.{ℕ, ◌%◌, ◌≤◌, ◌<◌}
use Rattle.word.specs.Word.{tiles, start_tile, end_tile, open_nar, empty_word, word_of}
use Rattle.word.specs.Member.{Real}
use Rattle.word.specs.Smallest.{IsAnswer}
use Rattle.word.specs.Calls.{Negative}
use Rattle.word.specs.Spans.{turned_tile}
use Rattle.word.proofs.Places.{start_tile_of_word, end_tile_of_word}
use Rattle.word.proofs.RealWords.{start_not_nar, end_not_nar}
use Rattle.word.proofs.Turned.{turned}
use Rattle.word.proofs.Negation.{turned_empty, turned_other}

module _ (n : ℕ) (wide : 3 ≤ n) {a : ℕ} (r : Real n a) where
  module _ {s : ℕ} (e : s ≡ start_tile n a) where
    pub start_there : s < tiles n
    start_there = rw e (start_tile_of_word n wide r.fits)

    pub start_turned_there : {u : ℕ} → u ≡ turned_tile n s → u < tiles n
    start_turned_there k = rw (k, e) (turned n wide (start_tile_of_word n wide r.fits) (start_not_nar n wide r)).fits

  module _ {t : ℕ} (f : t ≡ end_tile n a) where
    pub end_turned_there : {u : ℕ} → u ≡ turned_tile n t → u < tiles n
    end_turned_there k = rw (k, f) (turned n wide (end_tile_of_word n wide a) (end_not_nar n wide r)).fits

  module _ (es : ℕ) {s t w : ℕ} (e : s ≡ start_tile n a) (f : t ≡ end_tile n a) where
    pub gives_empty : (s ≡ t) × (s % 2 ≡ 1) × (s ≡ open_nar n → ⊥) → w ≡ empty_word n → IsAnswer n es (Negative n es a) w
    gives_empty q k = let i = rw (e, f) at q in rw k (turned_empty n es wide r i.0 i.1 i.2)

    pub gives_round :
        ¬ ((s ≡ t) × (s % 2 ≡ 1) × (s ≡ open_nar n → ⊥)) → {u v : ℕ} → u ≡ turned_tile n t → v ≡ turned_tile n s → w ≡ word_of n u v
        → IsAnswer n es (Negative n es a) w
    gives_round h i j k = rw (k, i, j, e, f) (turned_other n es wide r (rw (e, f) at h))
