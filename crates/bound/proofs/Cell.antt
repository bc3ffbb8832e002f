-- Every number has exactly one cell, and cells increase with their numbers.
use mathlib.Core.Path.{◌≡◌, subst}
use mathlib.Core.Logic.{◌↔◌}
use Prim.Native.Nat.{ℕ, zero, suc, ◌+◌, ◌*◌, ◌/◌, ◌≤◌, ◌<◌, zero-le}
use native.Mathlib.Nat.{le_antisymm}
use native.Mathlib.Decide.{dec_le}
use native.Mathlib.Omega.{arith}
use Rattle.bound.specs.Order.{Order, Less, Same}
use Rattle.bound.proofs.Order.{same_refl}
use Rattle.bound.specs.Cell.{Grid, Cell, cell_among, cell}

module _ {O : Order} {G : Grid O} where
  pub monotone : {x y : O.Number} {c d : ℕ} → Cell G x c → Cell G y d → O.◌≼◌ x y → c ≤ d
  monotone {c = zero} p q h = zero-le
  monotone {c = suc b} {d} p q h = go (b / 2) (omega (arith, p.bounded)) (omega arith) (omega arith)
    where
      go : (k : ℕ) → k < G.count → 2 * k + 1 ≤ suc b → suc b ≤ 2 * k + 2 → suc b ≤ d
      go k i l u =
          let t : 2 * k + 1 ≤ d = (q.from_value k i).0 (O.transitive ((p.from_value k i).1 l) h) in
          elim (dec_le d (2 * k + 1))
          [ yes e ↦ omega (arith, (p.to_value k i).0 (O.transitive h ((q.to_value k i).1 e))) | no e ↦ omega arith ]

  -- equal numbers have one cell
  pub one_cell : {x y : O.Number} {c d : ℕ} → Cell G x c → Cell G y d → Same O x y → c ≡ d
  one_cell p q s = le_antisymm (monotone p q s.0) (monotone q p s.1)

module _ {O : Order} (G : Grid O) where
  -- ---- the order of the values is the order of their numbers
  pub value_order : (j k : ℕ) → j < G.count → k < G.count → O.◌≼◌ (G.value j) (G.value k) ↔ j ≤ k
  value_order j k hj hk = (there, back)
    where
      there : O.◌≼◌ (G.value j) (G.value k) → j ≤ k
      there h = elim (dec_le j k) [ yes l ↦ l | no l ↦ absurd (G.increasing k j (omega arith) hj h) ]

      back : j ≤ k → O.◌≼◌ (G.value j) (G.value k)
      back h =
          elim (dec_le k j)
          [ yes l ↦ let e : j ≡ k = omega arith in rw e (O.reflexive (G.value k)) | no l ↦ O.total (G.increasing j k (omega arith) hk) ]

  -- ---- the cell of a value, and that of a number in the gap below the k-th value
  pub value_cell : (k : ℕ) → k < G.count → Cell G (G.value k) (2 * k + 1)
  value_cell k h =
      record {
        bounded = omega arith;
        from_value = λ j i. (λ l. omega (arith, (value_order j k i h).0 l), λ l. (value_order j k i h).1 (omega arith));
        to_value = λ j i. (λ l. omega (arith, (value_order k j h i).0 l), λ l. (value_order k j h i).1 (omega arith));
      }

  pub same_cell : {x y : O.Number} {c : ℕ} → Cell G x c → Same O x y → Cell G y c
  same_cell p s =
      record {
        bounded = p.bounded;
        from_value = λ k i. (λ h. (p.from_value k i).0 (O.transitive h s.1), λ h. O.transitive ((p.from_value k i).1 h) s.0);
        to_value = λ k i. (λ h. (p.to_value k i).0 (O.transitive s.0 h), λ h. O.transitive s.1 ((p.to_value k i).1 h));
      }

  pub gap_cell : (k : ℕ) {y : O.Number} → k ≤ G.count → ((j : ℕ) → j < k → Less O (G.value j) y) → ((j : ℕ) → k ≤ j → j < G.count → Less O y (G.value j)) → Cell G y (2 * k)
  gap_cell k {y} h low high =
      record {
        bounded = omega arith;
        from_value = λ j i. (λ l. elim (dec_le k j) [ yes m ↦ absurd (high j m i l) | no m ↦ omega arith ], λ l. O.total (low j (omega arith)));
        to_value = λ j i. (λ l. elim (dec_le k j) [ yes m ↦ omega arith | no m ↦ absurd (low j (omega arith) l) ], λ l. O.total (high j (omega arith) i));
      }

-- ---- the cell that is computed, by one value after the other
module _ (O : Order) (v : ℕ → O.Number) where
  abbrev Increases : ℕ → Type 0
  Increases n = (j k : ℕ) → j < k → k < n → Less O (v j) (v k)

  abbrev first : (n : ℕ) → Increases n → Grid O
  first n inc = record { count = n; value = v; increasing = inc }

  fewer : (n : ℕ) → Increases (suc n) → Increases n
  fewer n inc j k l i = inc j k l (omega arith)

  -- a number below the last value has the cell that it has without that value
  one_more : (n : ℕ) (inc : Increases (suc n)) {x : O.Number} {c : ℕ} → Less O x (v n) → Cell (first n (fewer n inc)) x c → Cell (first (suc n) inc) x c
  one_more n inc {x} {c} h p =
      record {
        bounded = omega (arith, p.bounded);
        from_value = λ k i.
            elim (dec_le n k) [
              | yes l ↦ (λ m. absurd (h (O.transitive ((value_order (first (suc n) inc) n k (omega arith) i).1 l) m)), λ m. absurd (omega (arith, p.bounded)))
              | no l ↦ p.from_value k (omega arith)
            ];
        to_value = λ k i.
            elim (dec_le n k) [
              | yes l ↦ (λ m. omega (arith, p.bounded), λ m. O.transitive (O.total h) ((value_order (first (suc n) inc) n k (omega arith) i).1 l))
              | no l ↦ p.to_value k (omega arith)
            ];
      }

  -- a number above the last value is in the last gap
  last_gap : (n : ℕ) (inc : Increases (suc n)) {x : O.Number} → Less O (v n) x → Cell (first (suc n) inc) x (2 * n + 2)
  last_gap n inc {x} h =
      let G = first (suc n) inc in
      let e : 2 * suc n ≡ 2 * n + 2 = omega arith in
      subst (Cell G x) e
      (gap_cell G (suc n) (omega arith) (λ j l m. h (O.transitive m ((value_order G j n l (omega arith)).1 (omega arith)))) (λ j l m. absurd (omega arith)))

  among_is_cell : (n : ℕ) (inc : Increases n) (x : O.Number) → Cell (first n inc) x (cell_among O v n x)
  unfolding cell_among
  among_is_cell zero inc x = gap_cell (first 0 inc) 0 (omega arith) (λ j l. absurd (omega arith)) (λ j l m. absurd (omega arith))
  among_is_cell (suc n) inc x = go (O.decide (v n) x) (O.decide x (v n)) (among_is_cell n (fewer n inc) x)
    where
      go : (d : Dec (O.◌≼◌ (v n) x)) (e : Dec (O.◌≼◌ x (v n))) → Cell (first n (fewer n inc)) x (cell_among O v n x)
          → Cell (first (suc n) inc) x (elim d [ yes h ↦ elim e [ yes k ↦ 2 * n + 1 | no k ↦ 2 * n + 2 ] | no h ↦ cell_among O v n x ])
      go (yes h) (yes k) r = same_cell (first (suc n) inc) (value_cell (first (suc n) inc) n (omega arith)) (h, k)
      go (yes h) (no k) r = last_gap n inc k
      go (no h) e r = one_more n inc h r

module _ {O : Order} (G : Grid O) where
  pub cell_is_cell : (x : O.Number) → Cell G x (cell G x)
  unfolding cell
  cell_is_cell x = among_is_cell O G.value G.count G.increasing x

  -- so the four facts settle the cell
  pub cell_is : {x : O.Number} {c : ℕ} → Cell G x c → cell G x ≡ c
  cell_is {x} p = one_cell (cell_is_cell x) p (same_refl O x)
