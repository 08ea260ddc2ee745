-- Gates stand in rising order.
use Rattle.std.proofs.Common.{◌≡◌, ◌⊎◌, ℕ, ◌+◌, ◌-◌, ◌<◌, ◌≤◌, true, List, [], ◌∷◌, ◌++◌, refl, sym, ap, ◌∙◌, subst, inl, inr, arith}
use Rattle.std.specs.Prelude.{Contains}
use Rattle.std.proofs.lemmas.List.Elements.{Contains-append_left, Contains-push, Contains-push_cases}
use Rattle.std.proofs.Math.Nat.{eq-or-lt_of_le}
use Rattle.cnf_form.specs.Cnf.{LitOf}
use Rattle.gate_graph.specs.declared.gate.Gate.{Gate}
use Rattle.gate_graph.specs.Folding.{operands}
use Rattle.gate_graph.specs.Kept.{IsAbove, IsRising, OthersWithin, lit_of}
use Rattle.gate_graph.proofs.Tables.{contains_none}

pub IsRising-start : IsRising 1 [] []
IsRising-start = record {
  each = λ v h k. inl (omega arith);
  apart = λ v c. absurd (contains_none v c);
  above = λ k l c. absurd (contains_none (k, l) c);
  single = λ k j l c d. absurd (contains_none (k, l) c);
}

up_to : (n v : ℕ) → v ≤ n + 1 → (v ≤ n) ⊎ (n + 1 ≡ v)
up_to n v h = elim (eq-or-lt_of_le h) [ inl e ↦ inr (sym e) | inr k ↦ inl (omega arith) ]

abbrev IsOne : List ℕ → List (Gate × LitOf) → ℕ → Type 0
IsOne is es v = (v ≡ 1) ⊎ Contains is v ⊎ ((k : Gate) × Contains es (k, lit_of v true))

pub IsRising-gate : (n : ℕ) (is : List ℕ) (es : List (Gate × LitOf)) (k : Gate) → 1 ≤ n → ((v : ℕ) → Contains is v → v ≤ n) → ((j : Gate) (l : LitOf) → Contains es (j, l) → l.var ≤ n) → OthersWithin n (operands k) → IsRising n is es →
    IsRising (n + 1) is (es ++ (k, lit_of (n + 1) true) ∷ [])
IsRising-gate n is es k some within before w p = record {
  each = λ v h i. elim (up_to n v i) as (λ _. IsOne is (es ++ (k, lit_of (n + 1) true) ∷ []) v) [
    | inl j ↦ elim (p.each v h j) as (λ _. IsOne is (es ++ (k, lit_of (n + 1) true) ∷ []) v) [
      | inl a ↦ inl a
      | inr (inl a) ↦ inr (inl a)
      | inr (inr a) ↦ inr (inr (a.0, Contains-append_left es ((k, lit_of (n + 1) true) ∷ []) (a.0, lit_of v true) a.1))
    ]
    | inr e ↦ subst (IsOne is (es ++ (k, lit_of (n + 1) true) ∷ [])) e (inr (inr (k, Contains-push es (k, lit_of (n + 1) true))))
  ];
  apart = p.apart;
  above = λ j l h. elim (Contains-push_cases es (k, lit_of (n + 1) true) (j, l) h) as (λ _. IsAbove is j l) [
    | inl i ↦ p.above j l i
    | inr e ↦ subst (λ (d : Gate × LitOf). IsAbove is d.0 d.1) e last
  ];
  single = λ i j l h m. elim (Contains-push_cases es (k, lit_of (n + 1) true) (i, l) h) as (λ _. i ≡ j) [
    | inl a ↦ elim (Contains-push_cases es (k, lit_of (n + 1) true) (j, l) m) as (λ _. i ≡ j) [ inl b ↦ p.single i j l a b | inr e ↦ absurd (late i j l a e) ]
    | inr d ↦ elim (Contains-push_cases es (k, lit_of (n + 1) true) (j, l) m) as (λ _. i ≡ j) [
      | inl b ↦ absurd (late j i l b d)
      | inr e ↦ sym (ap (λ (x : Gate × LitOf). x.0) d) ∙ ap (λ (x : Gate × LitOf). x.0) e
    ]
  ];
}
  where
    late : (i j : Gate) (l : LitOf) → Contains es (i, l) → (let d : Gate × LitOf = (k, lit_of (n + 1) true) in d) ≡ (j, l) → ⊥
    late i j l a e = let b = before i l a in let v : n + 1 ≡ l.var = ap (λ (x : Gate × LitOf). x.1.var) e in omega arith

    last : IsAbove is k (lit_of (n + 1) true)
    last = record {
      plain = refl;
      later = omega arith;
      own = λ c. let l = within (n + 1) c in omega arith;
      operands = subst (λ (m : ℕ). OthersWithin m (operands k)) (let e : n ≡ (n + 1) - 1 = omega arith in e) w;
    }

pub IsRising-input : (n : ℕ) (is : List ℕ) (es : List (Gate × LitOf)) → 1 ≤ n → ((k : Gate) (l : LitOf) → Contains es (k, l) → l.var ≤ n) → IsRising n is es → IsRising (n + 1) (is ++ (n + 1) ∷ []) es
IsRising-input n is es some within p = record {
  each = λ v h i. elim (up_to n v i) as (λ _. IsOne (is ++ (n + 1) ∷ []) es v) [
    | inl j ↦ elim (p.each v h j) as (λ _. IsOne (is ++ (n + 1) ∷ []) es v) [
      | inl a ↦ inl a
      | inr (inl a) ↦ inr (inl (Contains-append_left is ((n + 1) ∷ []) v a))
      | inr (inr a) ↦ inr (inr a)
    ]
    | inr e ↦ inr (inl (subst (Contains (is ++ (n + 1) ∷ [])) e (Contains-push is (n + 1))))
  ];
  apart = λ v h. elim (Contains-push_cases is (n + 1) v h) as (λ _. 1 < v) [ inl c ↦ p.apart v c | inr e ↦ omega arith ];
  above = λ k l h. let a = p.above k l h in record {
    plain = a.plain;
    later = a.later;
    own = λ c. elim (Contains-push_cases is (n + 1) l.var c) as (λ _. ⊥) [ inl i ↦ a.own i | inr e ↦ let b = within k l h in omega arith ];
    operands = a.operands;
  };
  single = p.single;
}
