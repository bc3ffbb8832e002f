-- A list copied to the front of another, one element a turn.
use mathlib.Core.Path.{◌≡◌, sym, ap, ◌∙◌}
use mathlib.Core.List.{List, ◌++◌}
use Prim.Native.Nat.{ℕ, ◌+◌, ◌<◌}
use native.Mathlib.Nat.{zero-add}
use native.Mathlib.Numerals.{add-one}
use native.Mathlib.Omega.{arith}
use lib.ListN.{length, get_or, take, drop, set}
use lib.Seq.{take_all, paste, paste-suc}

-- the first i elements of s have been copied over those of d
pub record Copied (d s : List ℕ) (i : ℕ) (now : List ℕ) : Type 0 where
  pub is_copy : now ≡ paste d 0 s i

module _ (d s : List ℕ) where
  pub copy_one : {i v : ℕ} {now : List ℕ} → Copied d s i now → i < length d → i < length s → v ≡ get_or s i 0 → Copied d s (i + 1) (set now i v)
  copy_one {i} {v} {now} e hd hs ev =
      record {
        is_copy =
            ap (λ (l : List ℕ). set l i v) e.is_copy
            ∙ ap (λ (a : ℕ). set (paste d 0 s i) i a) ev
            ∙ ap (λ (k : ℕ). set (paste d 0 s i) k (get_or s i 0)) (sym (zero-add i))
            ∙ paste-suc d 0 s i 0 (rw zero-add hd) hs
            ∙ ap (λ (k : ℕ). paste d 0 s k) (sym (add-one i));
      }

  pub copy_all : {i : ℕ} {now : List ℕ} → Copied d s i now → now ≡ take i s ++ drop i d
  copy_all {i} e = e.is_copy ∙ ap (λ (k : ℕ). take i s ++ drop k d) (zero-add i)

  pub copy_whole : {i k : ℕ} {now : List ℕ} → Copied d s i now → i ≡ k → length s ≡ k → now ≡ s ++ drop k d
  copy_whole {i} {k} {now} c e l =
      copy_all c ∙ ap (λ (j : ℕ). take j s ++ drop j d) e ∙ ap (λ (l : List ℕ). l ++ drop k d) (take_all k s (omega arith))
