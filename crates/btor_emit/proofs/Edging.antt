-- Where stretches begin and end.
use Rattle.std.proofs.Common.{◌≡◌, ◌⊎◌, ◌≢◌, inl, inr, ℕ, zero, suc, ◌+◌, ◌-◌, ◌<◌, ◌≤◌, List, [], ◌∷◌, Some, length, take, drop, sym, ap, subst, ◌∙◌, arith, length-append}
use Rattle.std.specs.Prelude.{slice_get, All}
use Rattle.std.specs.List.{flat_map}
use Rattle.std.proofs.lemmas.Bool.{cases_lt}
use Rattle.btor_core.specs.declared.line.Word.{Word}
use Rattle.btor_emit.specs.States.{IsEdge, IsStretchOf, IsTurn, is_known}
use Rattle.model_core.specs.Shape.{IsRegister, ModelOf, RegisterOf, states}
use Rattle.model_core.proofs.Lists.{all_at, at_place, flat_more, flat_rest}

-- where a register begins
abbrev pub edge_at : ModelOf → ℕ → ℕ
edge_at m i = length (flat_map (λ (r : RegisterOf). r.q) (take i m.registers))

take_more : (i d : ℕ) (rs : List RegisterOf) → length (flat_map (λ (r : RegisterOf). r.q) (take i rs)) ≤ length (flat_map (λ (r : RegisterOf). r.q) (take (i + d) rs))
take_more zero d rs = omega arith
take_more (suc i) d [] = omega arith
take_more (suc i) d (r ∷ rs) =
    let a = length-append r.q (flat_map (λ (u : RegisterOf). u.q) (take i rs)) in
    let b = length-append r.q (flat_map (λ (u : RegisterOf). u.q) (take (i + d) rs)) in
    let c = take_more i d rs in
    let e : suc i + d ≡ suc (i + d) = omega arith in
    subst (λ (k : ℕ). length (flat_map (λ (u : RegisterOf). u.q) (take (suc i) (r ∷ rs))) ≤ length (flat_map (λ (u : RegisterOf). u.q) (take k (r ∷ rs)))) (sym e) (omega arith)

edges_rise : (m : ModelOf) (i j : ℕ) → i ≤ j → edge_at m i ≤ edge_at m j
edges_rise m i j l = let e : i + (j - i) ≡ j = omega arith in subst (λ (k : ℕ). edge_at m i ≤ edge_at m k) e (take_more i (j - i) m.registers)

register_end : (m : ModelOf) (i n : ℕ) (r : RegisterOf) → slice_get m.registers i ≡ Some r → n ≡ length r.q → edge_at m i + n ≡ edge_at m (i + 1)
register_end m i n r at e =
    let z : suc i ≡ i + 1 = omega arith in
    let a = flat_more (λ (u : RegisterOf). u.q) m.registers i r at in
    let b = length-append (flat_map (λ (u : RegisterOf). u.q) (take i m.registers)) r.q in
    sym (ap (edge_at m) (sym z) ∙ ap (λ (ps : List ℕ). length ps) a ∙ b ∙ ap (λ (k : ℕ). edge_at m i + k) (sym e))

pub edge_inside : (m : ModelOf) (i : ℕ) → edge_at m i ≤ length (states m)
edge_inside m i =
    let a = ap (λ (ps : List ℕ). length ps) (flat_rest (λ (u : RegisterOf). u.q) m.registers i) ∙ length-append (flat_map (λ (u : RegisterOf). u.q) (take i m.registers)) (flat_map (λ (u : RegisterOf). u.q) (drop i m.registers)) in
    omega arith

-- where a register's bits stand among all state bits
pub record IsSpan (m : ModelOf) (i wide : ℕ) : Type 0 where
  pub end : edge_at m i + wide ≡ edge_at m (i + 1)
  pub inside : edge_at m (i + 1) ≤ length (states m)
  pub narrow : wide ≤ 4096

pub span_of : (m : ModelOf) (i : ℕ) (q : List ℕ) → All (IsRegister m.size) m.registers → i < length m.registers → ((r : RegisterOf) → slice_get m.registers i ≡ Some r → q ≡ r.q) → IsSpan m i (length q)
span_of m i q each below is =
    let r = at_place m.registers i below in
    let wide : length q ≡ length r.0.q = ap (λ (ps : List ℕ). length ps) (is r.0 r.1) in
    let narrow = (all_at (IsRegister m.size) m.registers i r.0 each r.1).narrow in
    record { end = register_end m i (length q) r.0 r.1 wide; inside = edge_inside m (i + 1); narrow = omega arith }

-- a longest stretch within a register
pub stretch_of : (m : ModelOf) (i next stop : ℕ) (a : Word) → edge_at m i ≤ next → next < stop → stop ≤ edge_at m (i + 1) → ((k : ℕ) → next ≤ k → k < stop → is_known m.starts k ≡ is_known m.starts next) → IsEdge m next ⊎ IsTurn m next → a.width + next ≡ stop
    → IsStretchOf m (record { word = a; first = next; has_start = is_known m.starts next })
stretch_of m i next stop a low some high alike begin wide = record {
  some = omega arith;
  inside = (let e = edge_inside m (i + 1) in omega arith);
  digits = λ k l h. alike k l (omega arith);
  within = λ k edge l h.
      elim (cases_lt i edge.0) as (λ _. ⊥) [
        | inl after ↦ let e = edges_rise m (i + 1) edge.0 (omega arith) in let q = edge.1 in absurd (omega arith)
        | inr before ↦ let e = edges_rise m edge.0 i (omega arith) in let q = edge.1 in absurd (omega arith)
      ];
  longest = begin;
}

-- the next one begins at a register's end, or where digits change
pub next_begins : (m : ModelOf) (i next stop : ℕ) → next < stop → stop ≤ edge_at m (i + 1) → ((k : ℕ) → next ≤ k → k < stop → is_known m.starts k ≡ is_known m.starts next) → (stop < edge_at m (i + 1) → is_known m.starts stop ≢ is_known m.starts next) → IsEdge m stop ⊎ IsTurn m stop
next_begins m i next stop some high alike longest =
    elim (cases_lt stop (edge_at m (i + 1))) as (λ _. IsEdge m stop ⊎ IsTurn m stop) [
      | inl below ↦ let j : ℕ = stop - 1 in inr (j, omega arith, λ e. longest below (sym e ∙ alike j (omega arith) (omega arith)))
      | inr there ↦ inl (i + 1, omega arith)
    ]
