-- The answer from the exact bounds is the smallest range, it is the only one, and its ends stand where demand 3 says.
use mathlib.Core.Path.{◌≡◌, refl, sym, subst₂}
use mathlib.Core.Logic.{◌↔◌}
use Prim.Native.Nat.{ℕ, zero, suc, ◌*◌, ◌-◌, ◌/◌, ◌%◌, ◌≤◌, ◌<◌}
use native.Mathlib.Nat.{le_antisymm}
use native.Mathlib.Omega.{arith}
use Rattle.bound.specs.Order.{Order}
use Rattle.bound.specs.Bound.{Bound, none, closed_at, open_at}
use Rattle.bound.specs.Extent.{Extent, Spans, nothing, exactly}
use Rattle.bound.specs.Cell.{Grid, InCells, Smallest, start_cell_in, end_cell_in}
use Rattle.bound.specs.End.{OnGrid, start_place, end_place, read_start, read_end}
use Rattle.bound.specs.Range.{Range, OnValues, Member, low, high, Inside, Meets, Below, SmallestRange, Answers, range_between, answer}
use Rattle.bound.proofs.Extent.{NoMember}
use Rattle.bound.proofs.CellBound.{start_bounded}
use Rattle.bound.proofs.CellEnd.{end_bounded}
use Rattle.bound.proofs.Smallest.{smallest_of_extent, at_low, inside_iff, meets_iff, below_iff}
use Rattle.bound.proofs.End.{member_iff, one_start, one_end, end_place_bounded, start_stands, end_stands}

-- ---- reading a cell as an end
read_start_there : (n c : ℕ) → c ≤ 2 * n → OnGrid n (read_start c)
read_start_there n zero h = tt
read_start_there n (suc c) h = go (c % 2)
  where
    go : (r : ℕ) → OnGrid n (elim r [ zero ↦ closed_at (c / 2) | suc r ↦ open_at (c / 2) ])
    go zero = omega arith
    go (suc r) = omega arith

start_place_read : (c : ℕ) → start_place (read_start c) ≡ c
start_place_read zero = refl
start_place_read (suc c) = go (c % 2) refl
  where
    go : (r : ℕ) → c % 2 ≡ r → start_place (elim r [ zero ↦ closed_at (c / 2) | suc r ↦ open_at (c / 2) ]) ≡ suc c
    go zero e = omega arith
    go (suc r) e = omega arith

read_end_right : (n c : ℕ) → c ≤ 2 * n → OnGrid n (read_end n c) × (end_place n (read_end n c) ≡ c)
read_end_right n c h = go (2 * n - c) refl (c % 2) refl
  where
    go : (m : ℕ) → 2 * n - c ≡ m → (r : ℕ) → c % 2 ≡ r
        → OnGrid n (elim m [ zero ↦ none | suc m ↦ elim r [ zero ↦ open_at (c / 2) | suc r ↦ closed_at (c / 2) ] ])
        × (end_place n (elim m [ zero ↦ none | suc m ↦ elim r [ zero ↦ open_at (c / 2) | suc r ↦ closed_at (c / 2) ] ]) ≡ c)
    go zero d r e = (tt, omega arith)
    go (suc m) d zero e = (omega arith, omega arith)
    go (suc m) d (suc r) e = (omega arith, omega arith)

module _ {O : Order} (G : Grid O) where
  between_there : (s e : Bound O.Number) → OnValues G.count (range_between G s e)
  between_there s e =
      record {
        start_there = read_start_there G.count (start_cell_in G s) (start_bounded G s);
        end_there = (read_end_right G.count (end_cell_in G e) (end_bounded G e)).0;
      }

  -- the cells of a range are those between the places of its ends
  pub member_in_cells : (r : Range) → OnValues G.count r → (x : O.Number) → Member G r x ↔ InCells G (low r) (high G.count r) x
  member_in_cells r t x = member_iff G r.start r.end t.start_there t.end_there x

  -- the smallest interval of cells is the smallest range
  pub smallest_range : {S : O.Number → Type 0} (r : Range) → OnValues G.count r → Smallest G S (low r) (high G.count r) → SmallestRange G S r
  smallest_range r t p =
      record {
        there = t;
        holds = λ x m. (member_in_cells r t x).1 (p.holds x m);
        inside = λ q k h x m.
            (member_in_cells q k x).1
            (p.inside (low q) (high G.count q) (λ y n. (member_in_cells q k y).0 (h y n)) x ((member_in_cells r t x).0 m));
      }

  -- ---- the answer from the exact bounds
  module _ {S : O.Number → Type 0} (z : Range) (t : OnValues G.count z) (n : NoMember (Member G z)) where
    pub answer_is_right : {u : Extent O.Number} → Spans O S u → Answers G S (answer G z u)
    answer_is_right (nothing h) =
        record {
          smallest = record { there = t; holds = λ x m. absurd (h x m); inside = λ q k l x m. absurd (n x m) };
          start_stands = λ x m. absurd (h x m);
          end_stands = λ x m. absurd (h x m);
        }
    answer_is_right (exactly {s} {e} p q) =
        let (i, j) = read_end_right G.count (end_cell_in G e) (end_bounded G e) in
        record {
          smallest =
              smallest_range (range_between G s e) (between_there s e)
              (subst₂ (Smallest G S) (sym (start_place_read (start_cell_in G s))) (sym j) (smallest_of_extent G (exactly p q)));
          start_stands = λ x m. start_stands G p (read_start (start_cell_in G s)) (between_there s e).start_there (start_place_read (start_cell_in G s));
          end_stands = λ x m. end_stands G q (read_end G.count (end_cell_in G e)) i j;
        }

    -- it is empty exactly where there is no result
    pub answer_empty_iff : {r : Range} → SmallestRange G S r → NoMember (Member G r) ↔ NoMember S
    answer_empty_iff p = (λ h x m. h x (p.holds x m), λ h x m. n x (p.inside z t (λ y k. absurd (h y k)) x m))

  -- ---- the three comparisons, by cells
  pub inside_by_cells : (r q : Range) → OnValues G.count r → OnValues G.count q → Inside G r q ↔ (low r ≤ high G.count r → (low q ≤ low r) × (high G.count r ≤ high G.count q))
  inside_by_cells r q t k =
      let (f, g) = inside_iff G (low r) (high G.count r) (low q) (high G.count q) (end_place_bounded G r.end t.end_there) in
      (λ h. f (λ x i. (member_in_cells q k x).0 (h x ((member_in_cells r t x).1 i))), λ h x m. (member_in_cells q k x).1 (g h x ((member_in_cells r t x).0 m)))

  pub meets_by_cells : (r q : Range) → OnValues G.count r → OnValues G.count q
      → Meets G r q ↔ ((low r ≤ high G.count r) × (low q ≤ high G.count q) × (low r ≤ high G.count q) × (low q ≤ high G.count r))
  meets_by_cells r q t k =
      let (f, g) =
      meets_iff G (low r) (high G.count r) (low q) (high G.count q) (end_place_bounded G r.end t.end_there) (end_place_bounded G q.end k.end_there) in (
        λ m. f (m.0, (member_in_cells r t m.0).0 m.1, (member_in_cells q k m.0).0 m.2),
        λ h. let (x, i, j) = g h in (x, (member_in_cells r t x).1 i, (member_in_cells q k x).1 j),
      )

  pub below_by_cells : (r q : Range) → OnValues G.count r → OnValues G.count q → Below G r q ↔ (low r ≤ high G.count r → low q ≤ high G.count q → high G.count r < low q)
  below_by_cells r q t k =
      let (f, g) =
      below_iff G (low r) (high G.count r) (low q) (high G.count q) (end_place_bounded G r.end t.end_there) (end_place_bounded G q.end k.end_there) in (
        λ h. f (λ x y i j. h x y ((member_in_cells r t x).1 i) ((member_in_cells q k y).1 j)),
        λ h x y i j. g h x y ((member_in_cells r t x).0 i) ((member_in_cells q k y).0 j),
      )

  -- a range has a member exactly where its first cell is not after its last
  pub has_member_iff : (r : Range) → OnValues G.count r → ((x : O.Number) × Member G r x) ↔ (low r ≤ high G.count r)
  has_member_iff r t = (
    λ m. omega (arith, (member_in_cells r t m.0).0 m.1),
    λ l. let (x, i, e) = at_low G (low r) (high G.count r) l (end_place_bounded G r.end t.end_there) in (x, (member_in_cells r t x).1 i),
  )

  -- ---- there is one answer, where there is a result
  pub smallest_range_is_unique : {S : O.Number → Type 0} (r q : Range) (x : O.Number) → S x → SmallestRange G S r → SmallestRange G S q → r ≡ q
  smallest_range_is_unique r q x m p p' =
      let i = (member_in_cells r p.there x).0 (p.holds x m) in
      let j = (member_in_cells q p'.there x).0 (p'.holds x m) in
      let (a, b) = (inside_by_cells r q p.there p'.there).0 (p.inside q p'.there p'.holds) (omega (arith, i)) in
      let (c, d) = (inside_by_cells q r p'.there p.there).0 (p'.inside r p.there p.holds) (omega (arith, j)) in
      let e : r.start ≡ q.start = one_start G r.start q.start p.there.start_there p'.there.start_there (le_antisymm c a) in
      let f : r.end ≡ q.end = one_end G r.end q.end p.there.end_there p'.there.end_there (le_antisymm b d) in
      λ i. record { start = e i; end = f i }

  -- ---- fewer results, a smaller answer
  pub smallest_range_grows : {S T : O.Number → Type 0} {r q : Range} → ((x : O.Number) → S x → T x) → SmallestRange G S r → SmallestRange G T q → Inside G r q
  smallest_range_grows {q = q} sub p k = p.inside q k.there (λ x m. k.holds x (sub x m))
