-- What keeps gates gates: an input, and a variable with a table.
use Rattle.std.proofs.Common.{◌≡◌, ◌⊎◌, ℕ, ◌+◌, ◌<◌, ◌≤◌, Bool, true, false, List, [], ◌∷◌, ◌++◌, map, refl, sym, ◌∙◌, subst, inl, inr, arith}
use Rattle.std.specs.Prelude.{Contains}
use Rattle.std.proofs.lemmas.List.Elements.{All-append, All-weaker, Contains-append_left, Contains-append_right, Contains-append_cases, Contains-push, Contains-push_cases}
use Rattle.std.proofs.Math.Nat.{eq-or-lt_of_le}
use Rattle.cnf_form.specs.Cnf.{LitOf, FormulaOf, Assignment, Satisfies, LitWithin, ClauseWithin, Within}
use Rattle.cnf_form.specs.declared.literal.TheConstants.{MAX_VARS}
use Rattle.gate_graph.specs.Circuit.{AgreeOn, AgreeTo, IsPartOf, IsFixed, IsGates}
use Rattle.gate_graph.specs.Laws.{Satisfies-front, put, put-same, put-other}
use Rattle.gate_graph.specs.declared.gate.Gate.{Gate}
use Rattle.gate_graph.specs.Folding.{operands}
use Rattle.gate_graph.specs.Kept.{IsCircuit, IsKept, IsOf, OthersWithin, lit_of, circuit_of, clauses_from}
use Rattle.gate_graph.proofs.Rising.{IsRising-input, IsRising-start}
use Rattle.gate_graph.proofs.Rows.{Row, IsTable, clause_of}
use Rattle.gate_graph.proofs.Tables.{contains_none, Satisfies-agrees, bit_agrees, table_holds, table_says, table_fixes, table_within}

Satisfies-append : (x : Assignment) (F G : List (List LitOf)) → Satisfies x F → Satisfies x G → Satisfies x (F ++ G)
Satisfies-append x F G s t c h = elim (Contains-append_cases F G c h) [ inl a ↦ s c a | inr b ↦ t c b ]

pub Satisfies-back : (x : Assignment) (F G : List (List LitOf)) → Satisfies x (F ++ G) → Satisfies x G
Satisfies-back x F G s c h = s c (Contains-append_right F G c h)

part_front : (F G H : List (List LitOf)) → IsPartOf (F ++ G) H → IsPartOf F H
part_front F G H p c h = p c (Contains-append_left F G c h)

part_back : (F G H : List (List LitOf)) → IsPartOf (F ++ G) H → IsPartOf G H
part_back F G H p c h = p c (Contains-append_right F G c h)

Within-more : (n : ℕ) (F : List (List LitOf)) → Within n F → Within (n + 1) F
Within-more n F w = All-weaker (ClauseWithin n) (ClauseWithin (n + 1)) (λ c. All-weaker (LitWithin n) (LitWithin (n + 1)) (λ l (a, b). (a, omega arith)) c) F w

pub others_more : (n : ℕ) (ls : List LitOf) → OthersWithin n ls → OthersWithin (n + 1) ls
others_more n [] w = tt
others_more n (l ∷ ls) w = let (a, b) = w.0 in ((a, omega arith), others_more n ls w.1)

-- a kept gate stays one as variables are added
pub IsOf-more : (n : ℕ) (F : List (List LitOf)) (k : Gate) (l : LitOf) → IsOf n F k l → IsOf (n + 1) F k l
IsOf-more n F k l o = record {
  operands = others_more n (operands k) o.operands;
  within = let (a, b) = o.within in (a, omega arith);
  means = o.means;
}

put_agrees : (n : ℕ) (x : Assignment) (b : Bool) → AgreeTo n x (put x (n + 1) b)
put_agrees n x b v h k = put-other x (n + 1) b v (omega arith)

up_to : (n v : ℕ) → v ≤ n + 1 → (v ≤ n) ⊎ (n + 1 ≡ v)
up_to n v h = elim (eq-or-lt_of_le h) [ inl e ↦ inr (sym e) | inr k ↦ inl (omega arith) ]

module _ (n : ℕ) (F : List (List LitOf)) (is : List ℕ) (g : IsGates (circuit_of n F is)) (room : n < MAX_VARS) where
  -- a variable with a table
  module _ (bit : Assignment → Bool) (rs : List Row) (t : IsTable n bit rs) where
    abbrev G : List (List LitOf)
    G = map (clause_of (n + 1)) rs

    gate_extends : (x : Assignment) → (y : Assignment) × Satisfies y (F ++ G) × AgreeOn is x y
    gate_extends x =
        let (y, s, a) = g.extends x in
        let z : Assignment = put y (n + 1) (bit y) in
        let same : AgreeTo n y z = put_agrees n y (bit y) in
        let here : z (n + 1) ≡ bit z = put-same y (n + 1) (bit y) ∙ bit_agrees n bit y z rs same t.sound (t.covers y) in (
          z,
          Satisfies-append z F G (Satisfies-agrees n y z F same g.within s) (table_holds n (n + 1) bit z rs t.sound here),
          λ v h. let w = g.inputs_within v h in a v h ∙ same v w.0 w.1,
        )

    gate_unique : (x y : Assignment) → Satisfies x (F ++ G) → Satisfies y (F ++ G) → AgreeOn is x y → AgreeTo (n + 1) x y
    gate_unique x y s r a v h k =
        let before : AgreeTo n x y = g.unique x y (Satisfies-front x F G s) (Satisfies-front y F G r) a in
        elim (up_to n v k) [
          | inl i ↦ before v h i
          | inr e ↦ subst (λ w. x w ≡ y w) e
              (table_says n (n + 1) bit x rs t.sound (t.covers x) (Satisfies-back x F G s) ∙ bit_agrees n bit x y rs before t.sound (t.covers x)
              ∙ sym (table_says n (n + 1) bit y rs t.sound (t.covers y) (Satisfies-back y F G r)))
        ]

    gate_fixed : (H : List (List LitOf)) → IsPartOf (F ++ G) H → ((v : ℕ) → Contains is v → IsFixed H v) → (v : ℕ) → 0 < v → v ≤ n + 1 → IsFixed H v
    gate_fixed H p i v h k =
        let before = g.fixed H (part_front F G H p) i in
        elim (up_to n v k) [
          | inl j ↦ before v h j
          | inr e ↦ subst (IsFixed H) e (table_fixes n (n + 1) bit rs H t (part_back F G H p) before)
        ]

    pub IsGates-gate : IsGates (circuit_of (n + 1) (F ++ map (clause_of (n + 1)) rs) is)
    IsGates-gate = record {
      limit = omega arith;
      within = All-append (ClauseWithin (n + 1)) F G (Within-more n F g.within) (table_within n bit rs t.sound);
      inputs_within = λ v h. let w = g.inputs_within v h in (w.0, omega arith);
      extends = gate_extends;
      unique = gate_unique;
      fixed = gate_fixed;
    }

  -- an input
  input_extends : (x : Assignment) → (y : Assignment) × Satisfies y F × AgreeOn (is ++ (n + 1) ∷ []) x y
  input_extends x =
      let (y, s, a) = g.extends x in
      let z : Assignment = put y (n + 1) (x (n + 1)) in
      let same : AgreeTo n y z = put_agrees n y (x (n + 1)) in (
        z,
        Satisfies-agrees n y z F same g.within s,
        λ v h. elim (Contains-push_cases is (n + 1) v h) [
          | inl i ↦ let w = g.inputs_within v i in a v i ∙ same v w.0 w.1
          | inr e ↦ subst (λ w. x w ≡ z w) e (sym (put-same y (n + 1) (x (n + 1))))
        ],
      )

  input_unique : (x y : Assignment) → Satisfies x F → Satisfies y F → AgreeOn (is ++ (n + 1) ∷ []) x y → AgreeTo (n + 1) x y
  input_unique x y s r a v h k = elim (up_to n v k) [
    | inl i ↦ g.unique x y s r (λ w c. a w (Contains-append_left is ((n + 1) ∷ []) w c)) v h i
    | inr e ↦ a v (subst (Contains (is ++ (n + 1) ∷ [])) e (Contains-push is (n + 1)))
  ]

  input_fixed : (H : List (List LitOf)) → IsPartOf F H → ((v : ℕ) → Contains (is ++ (n + 1) ∷ []) v → IsFixed H v) → (v : ℕ) → 0 < v → v ≤ n + 1 → IsFixed H v
  input_fixed H p i v h k = elim (up_to n v k) [
    | inl j ↦ g.fixed H p (λ w c. i w (Contains-append_left is ((n + 1) ∷ []) w c)) v h j
    | inr e ↦ i v (subst (Contains (is ++ (n + 1) ∷ [])) e (Contains-push is (n + 1)))
  ]

  input_within : (v : ℕ) → Contains (is ++ (n + 1) ∷ []) v → (0 < v) × (v ≤ n + 1)
  input_within v h = elim (Contains-push_cases is (n + 1) v h) [
    | inl i ↦ let w = g.inputs_within v i in (w.0, omega arith)
    | inr e ↦ (omega arith, omega arith)
  ]

  pub IsGates-input : IsGates (circuit_of (n + 1) F (is ++ (n + 1) ∷ []))
  IsGates-input = record {
    limit = omega arith;
    within = Within-more n F g.within;
    inputs_within = input_within;
    extends = input_extends;
    unique = input_unique;
    fixed = input_fixed;
  }

pub IsCircuit-input : (n : ℕ) (f : FormulaOf) (is : List ℕ) → IsCircuit n f is → n < MAX_VARS → IsCircuit (n + 1) f (is ++ (n + 1) ∷ [])
IsCircuit-input n f is p room = record {
  gates = IsGates-input n f.clauses is p.gates room;
  truth = p.truth;
  some = omega arith;
  room = p.room;
}

pub IsKept-input : (n most : ℕ) (is : List ℕ) (es : List (Gate × LitOf)) → IsKept n most is es → n < most → IsKept (n + 1) most (is ++ (n + 1) ∷ []) es
IsKept-input n most is es p room = record {
  gates = let m = p.limit in IsGates-input n (clauses_from es) is p.gates (omega arith);
  truth = p.truth;
  some = omega arith;
  below = omega arith;
  limit = p.limit;
  all = λ k l h. IsOf-more n (clauses_from es) k l (p.all k l h);
  one = p.one;
  rising = IsRising-input n is es p.some (λ k l h. (p.all k l h).within.1) p.rising;
}

-- a literal seen through its parts
pub lit_from : (l : LitOf) (v : ℕ) → l.var ≡ v → l.negated ≡ false → l ≡ lit_of v true
lit_from l v e f = same l.var v l.negated false e f
  where
    same : (v w : ℕ) (a b : Bool) → v ≡ w → a ≡ b → (let l : LitOf = record { var = v; negated = a } in l) ≡ record { var = w; negated = b }
    same v w a b e f = cc

-- the gates at first: no variable but the one that is true
module _ where
  none : IsGates (circuit_of 0 [] [])
  none = record {
    limit = omega arith;
    within = λ k d h. absurd (omega arith);
    inputs_within = λ v (k, h, e). absurd (omega arith);
    extends = λ x. (x, λ c (k, h, e). absurd (omega arith), λ v h. refl);
    unique = λ x y s r a v h k. absurd (omega arith);
    fixed = λ F p i v h k. absurd (omega arith);
  }

  truth_rows : List Row
  truth_rows = record { value = true; others = [] } ∷ []

  truth_table : IsTable 0 (λ _. true) truth_rows
  unfolding truth_rows
  truth_table = record { sound = (tt, λ x f. refl, tt); covers = λ x. inl tt }

  pub IsCircuit-start : IsCircuit 1 (record { vars = MAX_VARS; clauses = (lit_of 1 true ∷ []) ∷ [] }) []
  unfolding truth_rows
  IsCircuit-start = record {
    gates = IsGates-gate 0 [] [] none (omega arith) (λ _. true) truth_rows truth_table;
    truth = λ x s. table_says 0 1 (λ _. true) x truth_rows truth_table.sound (truth_table.covers x) s;
    some = omega arith;
    room = refl;
  }

  pub IsKept-start : (most : ℕ) → 1 ≤ most → most ≤ MAX_VARS → IsKept 1 most [] []
  IsKept-start most low high = record {
    gates = IsCircuit-start.gates;
    truth = IsCircuit-start.truth;
    some = omega arith;
    below = low;
    limit = high;
    all = λ k l h. absurd (contains_none (k, l) h);
    one = λ k l m h i. absurd (contains_none (k, l) h);
    rising = IsRising-start;
  }
