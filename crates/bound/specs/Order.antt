-- An order of numbers, as the fractions have it: decided, dense, and with no first and no last number.
-- Numbers that are at most one another count as equal (`Same`), and "less" is "not at least" (`Less`).
-- Every statement about an end is the statement about a start over the dual order.
pub record Order : Type 1 where
  pub Number : Type 0
  pub ◌≼◌ : Number → Number → Type 0
  pub reflexive : (x : Number) → ◌≼◌ x x
  pub transitive : {x y z : Number} → ◌≼◌ x y → ◌≼◌ y z → ◌≼◌ x z
  pub decide : (x y : Number) → Dec (◌≼◌ x y)
  pub total : {x y : Number} → ¬ ◌≼◌ x y → ◌≼◌ y x
  pub some_number : Number
  pub lower : (x : Number) → (y : Number) × ¬ ◌≼◌ x y
  pub higher : (x : Number) → (y : Number) × ¬ ◌≼◌ y x
  pub between : {x y : Number} → ¬ ◌≼◌ y x → (m : Number) × ¬ ◌≼◌ m x × ¬ ◌≼◌ y m

abbrev pub Less : (O : Order) → O.Number → O.Number → Type 0
Less O x y = ¬ O.◌≼◌ y x

abbrev pub Same : (O : Order) → O.Number → O.Number → Type 0
Same O x y = O.◌≼◌ x y × O.◌≼◌ y x

-- the same numbers in the opposite order; the dual of the dual is the order itself
abbrev pub dual : Order → Order
dual O =
    record {
      Number = O.Number;
      ◌≼◌ = λ x y. O.◌≼◌ y x;
      reflexive = O.reflexive;
      transitive = λ p q. O.transitive q p;
      decide = λ x y. O.decide y x;
      total = O.total;
      some_number = O.some_number;
      lower = O.higher;
      higher = O.lower;
      between = λ h. let (m, p, q) = O.between h in (m, q, p);
    }

-- the numbers above a given one are an order again: they have no first, since there is something between
pub record AboveOrder (O : Order) (c : O.Number) (p q : (x : O.Number) × Less O c x) : Type 0 where
  pub fact : O.◌≼◌ p.0 q.0

abbrev pub above : (O : Order) → O.Number → Order
above O c =
    record {
      Number = (x : O.Number) × Less O c x;
      ◌≼◌ = AboveOrder O c;
      reflexive = λ p. record { fact = O.reflexive p.0 };
      transitive = λ h k. record { fact = O.transitive h.fact k.fact };
      decide = λ p q. elim (O.decide p.0 q.0) [ yes h ↦ yes record { fact = h } | no h ↦ no (λ k. h k.fact) ];
      total = λ h. record { fact = O.total (λ k. h record { fact = k }) };
      some_number = O.higher c;
      lower = λ p. let (m, h, k) = O.between p.1 in ((m, h), λ l. k l.fact);
      higher = λ p. let (m, h) = O.higher p.0 in ((m, λ k. p.1 (O.transitive (O.total h) k)), λ l. h l.fact);
      between = λ {x = p} {y = q} h.
          let (m, k, l) = O.between (λ t. h record { fact = t }) in
          ((m, λ t. p.1 (O.transitive (O.total k) t)), (λ t. k t.fact), λ t. l t.fact);
    }
