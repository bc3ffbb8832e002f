-- A list cut into chunks of one length: which elements chunk k has.
use Rattle.std.proofs.Common.{◌≡◌, ℕ, zero, suc, ◌+◌, ◌*◌, ◌<◌, List, [], get_or, take, drop, ap, ◌∙◌, arith}
use Rattle.std.proofs.Math.Seq.{drop-drop}
use Rattle.std.specs.Simd.{first_chunks}

pub chunk_at : (n k m : ℕ) (l : List ℕ) → k < m → get_or (first_chunks n m l) k [] ≡ take n (drop (n * k) l)
chunk_at n k zero l h = absurd (omega arith)
chunk_at n zero (suc m) l h = let front : 0 ≡ n * 0 = omega arith in ap (λ (j : ℕ). take n (drop j l)) front
chunk_at n (suc k) (suc m) l h =
    let further : n + n * k ≡ n * suc k = omega arith in
    chunk_at n k m (drop n l) (omega arith) ∙ ap (take n) (drop-drop (n * k) n l ∙ ap (λ (j : ℕ). drop j l) further)
