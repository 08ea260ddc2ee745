-- One more gate.
use Rattle.std.proofs.Common.{◌≡◌, ◌⊎◌, ℕ, ◌+◌, ◌<◌, Bool, true, false, List, [], ◌∷◌, ◌++◌, refl, sym, ◌∙◌, subst, ap, inl, inr, arith}
use Rattle.std.specs.Prelude.{Contains}
use Rattle.std.proofs.lemmas.List.Elements.{Contains-append_left, Contains-push, Contains-push_cases}
use Rattle.std.proofs.lemmas.List.{append-nil}
use Rattle.std.specs.List.{flat_map}
use Rattle.std.proofs.lemmas.Grind.{flat_map-append}
use Rattle.std.proofs.lemmas.List.Concat.{flat_map-cons}
use Rattle.cnf_form.specs.Cnf.{LitOf, FormulaOf, Assignment, Satisfies, LitWithin, lit_in}
use Rattle.cnf_form.specs.declared.literal.TheConstants.{MAX_VARS}
use Rattle.gate_graph.specs.declared.gate.Gate.{Gate}
use Rattle.gate_graph.specs.declared.gate.Asked.{Asked}
use Rattle.gate_graph.specs.declared.gate.Asked.TheVariants.{Is, Make}
use Rattle.gate_graph.specs.Circuit.{GatesOf, IsGates, Continues, MakesGate}
use Rattle.gate_graph.specs.Folding.{bit, operands, clauses_of, asked, asked_bit, xor}
use Rattle.gate_graph.specs.Laws.{Satisfies-front, Continues-refl}
use Rattle.gate_graph.specs.Kept.{AreKept, HasRoom, IsCircuit, IsKept, IsOf, IsNew, OthersWithin, Settles, circuit_of, circuit_with, clauses_from, gates_of, lit_of, signed, with_gate}
use Rattle.gate_graph.proofs.Tables.{table_says}
use Rattle.gate_graph.proofs.OneTable.{lit_negated, gate_clauses, gate_table, lines, rows_of}
use Rattle.gate_graph.proofs.Keeping.{IsGates-gate, Satisfies-back, others_more}
use Rattle.gate_graph.proofs.Rising.{IsRising-gate}

module _ (n : ℕ) (F : List (List LitOf)) (k : Gate) (w : OthersWithin n (operands k)) where
  -- the new variable has the gate's value
  means : (x : Assignment) → Satisfies x (F ++ clauses_of (lit_of (n + 1) true) k) → x (n + 1) ≡ bit k x
  means x s =
      let t = gate_table n k w in
      table_says n (n + 1) (bit k) x (rows_of (operands k) (lines k)) t.sound (t.covers x)
      (subst (Satisfies x) (gate_clauses (n + 1) k) (Satisfies-back x F (clauses_of (lit_of (n + 1) true) k) s))

  pub IsGates-next : (is : List ℕ) → IsGates (circuit_of n F is) → n < MAX_VARS → IsGates (circuit_of (n + 1) (F ++ clauses_of (lit_of (n + 1) true) k) is)
  IsGates-next is g room = rw (gate_clauses (n + 1) k) (IsGates-gate n F is g room (bit k) (rows_of (operands k) (lines k)) (gate_table n k w))

  pub MakesGate-circuit : (is : List ℕ) → let g = circuit_of n F is in MakesGate g (circuit_with g k) (bit k) (lit_of (n + 1) true)
  MakesGate-circuit is = record {
    continues = record {
      vars = omega arith;
      clauses = (clauses_of (lit_of (n + 1) true) k, refl);
      inputs = ([], sym (append-nil is));
      kept = ([], refl);
      limit = refl;
    };
    inputs = refl;
    most = omega arith;
    within = (omega arith, omega arith);
    means = means;
  }

-- the clauses of one gate more stand after the others
pub clauses_from-push : (es : List (Gate × LitOf)) (k : Gate) (l : LitOf) → clauses_from (es ++ (k, l) ∷ []) ≡ clauses_from es ++ clauses_of l k
clauses_from-push es k l = ap (λ (F : List (List LitOf)). (lit_of 1 true ∷ []) ∷ F) (flat_map-append f es ((k, l) ∷ []) ∙ ap (λ (F : List (List LitOf)). flat_map f es ++ F) (flat_map-cons f (k, l) [] ∙ append-nil (clauses_of l k)))
  where
    f : Gate × LitOf → List (List LitOf)
    f e = clauses_of e.1 e.0

pub IsCircuit-gate : (n : ℕ) (f g : FormulaOf) (is : List ℕ) (k : Gate) → IsCircuit n f is → n < MAX_VARS → OthersWithin n (operands k) → g.vars ≡ f.vars → g.clauses ≡ f.clauses ++ clauses_of (lit_of (n + 1) true) k → IsCircuit (n + 1) g is
IsCircuit-gate n f g is k p room w ev ec = record {
  gates = rw ec (IsGates-next n f.clauses k w is p.gates room);
  truth = λ x s. p.truth x (Satisfies-front x f.clauses (clauses_of (lit_of (n + 1) true) k) (subst (Satisfies x) ec s));
  some = omega arith;
  room = ev ∙ p.room;
}

pub IsKept-gate : (n most : ℕ) (is : List ℕ) (es : List (Gate × LitOf)) (k : Gate) → IsKept n most is es → n < most → OthersWithin n (operands k) →
    ((l : LitOf) → Contains es (k, l) → ⊥) → IsKept (n + 1) most is (es ++ (k, lit_of (n + 1) true) ∷ [])
IsKept-gate n most is es k p room w new = record {
  gates = let m = p.limit in subst (λ (F : List (List LitOf)). IsGates (circuit_of (n + 1) F is)) (sym ec) (IsGates-next n (clauses_from es) k w is p.gates (omega arith));
  truth = λ x s. p.truth x (front x s);
  some = omega arith;
  below = omega arith;
  limit = p.limit;
  all = λ j l h. elim (Contains-push_cases es (k, lit_of (n + 1) true) (j, l) h) [
    | inl i ↦ let o = p.all j l i in record {
      operands = others_more n (operands j) o.operands;
      within = let (a, b) = o.within in (a, omega arith);
      means = λ x s. o.means x (front x s);
    }
    | inr e ↦ subst (λ (d : Gate × LitOf). IsOf (n + 1) (clauses_from (es ++ (k, lit_of (n + 1) true) ∷ [])) d.0 d.1) e (record {
      operands = others_more n (operands k) w;
      within = (omega arith, omega arith);
      means = λ x s. means n (clauses_from es) k w x (subst (Satisfies x) ec s);
    })
  ];
  one = λ j l m h i. elim (Contains-push_cases es (k, lit_of (n + 1) true) (j, l) h) [
    | inl a ↦ elim (Contains-push_cases es (k, lit_of (n + 1) true) (j, m) i) [
      | inl b ↦ p.one j l m a b
      | inr e ↦ absurd (new l (subst (λ (d : Gate). Contains es (d, l)) (sym (ap (λ (d : Gate × LitOf). d.0) e)) a))
    ]
    | inr e ↦ elim (Contains-push_cases es (k, lit_of (n + 1) true) (j, m) i) [
      | inl b ↦ absurd (new m (subst (λ (d : Gate). Contains es (d, m)) (sym (ap (λ (d : Gate × LitOf). d.0) e)) b))
      | inr d ↦ sym (ap (λ (d : Gate × LitOf). d.1) e) ∙ ap (λ (d : Gate × LitOf). d.1) d
    ]
  ];
  rising = IsRising-gate n is es k p.some (λ v c. (p.gates.inputs_within v c).1) (λ j l c. (p.all j l c).within.1) w p.rising;
}
  where
    ec : clauses_from (es ++ (k, lit_of (n + 1) true) ∷ []) ≡ clauses_from es ++ clauses_of (lit_of (n + 1) true) k
    ec = clauses_from-push es k (lit_of (n + 1) true)

    front : (x : Assignment) → Satisfies x (clauses_from (es ++ (k, lit_of (n + 1) true) ∷ [])) → Satisfies x (clauses_from es)
    front x s = Satisfies-front x (clauses_from es) (clauses_of (lit_of (n + 1) true) k) (subst (Satisfies x) ec s)

signed_value : (x : Assignment) (s : Bool) (l : LitOf) → lit_in x (signed s l) ≡ xor s (lit_in x l)
signed_value x true l = lit_negated x l
signed_value x false l = refl

signed_within : (n : ℕ) (s : Bool) (l : LitOf) → LitWithin n l → LitWithin n (signed s l)
signed_within n true l w = w
signed_within n false l w = w

Continues-gate : (g : GatesOf) (k : Gate) → Continues g (with_gate g k)
Continues-gate g k = record {
  vars = omega arith;
  clauses = (clauses_of (lit_of (g.formula.vars + 1) true) k, refl);
  inputs = ([], sym (append-nil g.inputs));
  kept = ((k, lit_of (g.formula.vars + 1) true) ∷ [], refl);
  limit = refl;
}

-- what is asked is over the same variables
abbrev pub AskedWithin : ℕ → Asked → Type 0
AskedWithin n (Is l) = LitWithin n l
AskedWithin n (Make k s) = OthersWithin n (operands k)

-- what settles a gate makes it
pub settled : (old new : GatesOf) (g : Gate) (k : Asked) (l : LitOf) → IsKept old.formula.vars old.most old.inputs old.kept → clauses_from old.kept ≡ old.formula.clauses →
    ((x : Assignment) → x 1 ≡ true → asked_bit k x ≡ bit g x) → AskedWithin old.formula.vars k → Settles old k new l → MakesGate old new (bit g) l
settled old new g (Is m) l p e v w (n, h) = rw (n, h) (record {
  continues = Continues-refl old;
  inputs = refl;
  most = omega arith;
  within = w;
  means = λ x s. v x (p.truth x (subst (Satisfies x) (sym e) s));
})
settled old new g (Make k s) l p e v w (m, h, inl (c, n)) = rw (n, h) (record {
  continues = Continues-refl old;
  inputs = refl;
  most = omega arith;
  within = signed_within old.formula.vars s m (p.all k m c).within;
  means = λ x t.
      let u = subst (Satisfies x) (sym e) t in
      signed_value x s m ∙ ap (xor s) ((p.all k m c).means x u) ∙ v x (p.truth x u);
})
settled old new g (Make k s) l p e v w (m, h, inr (_, i, n)) = rw (n, h, i) (record {
  continues = Continues-gate old k;
  inputs = refl;
  most = omega arith;
  within = signed_within (old.formula.vars + 1) s (lit_of (old.formula.vars + 1) true) (omega arith, omega arith);
  means = λ x t.
      let u = subst (Satisfies x) (sym e) (Satisfies-front x old.formula.clauses (clauses_of (lit_of (old.formula.vars + 1) true) k) t) in
      signed_value x s (lit_of (old.formula.vars + 1) true) ∙ ap (xor s) (means old.formula.vars old.formula.clauses k w x t) ∙ v x (p.truth x u);
})

pub Settles-signed : (old new : GatesOf) (k : Gate) (s : Bool) (l r : LitOf) → Settles old (Make k false) new l → r ≡ signed s l → Settles old (Make k s) new r
Settles-signed old new k s l r (m, h, c) e = (m, e ∙ ap (signed s) h, c)

-- the promise
pub IsGates-kept : (n most : ℕ) (is : List ℕ) (es : List (Gate × LitOf)) (spent : Bool) → IsKept n most is es → IsGates (gates_of n most (clauses_from es) is es spent)
IsGates-kept n most is es spent p = record {
  limit = p.gates.limit;
  within = p.gates.within;
  inputs_within = p.gates.inputs_within;
  extends = p.gates.extends;
  unique = p.gates.unique;
  fixed = p.gates.fixed;
}

pub AreKept-kept : (n most : ℕ) (is : List ℕ) (es : List (Gate × LitOf)) (spent : Bool) → IsKept n most is es → AreKept (gates_of n most (clauses_from es) is es spent)
AreKept-kept n most is es spent p = record { all = p.all; one = p.one }

pub HasRoom-kept : (n most : ℕ) (is : List ℕ) (es : List (Gate × LitOf)) (spent : Bool) → IsKept n most is es → HasRoom (gates_of n most (clauses_from es) is es spent)
HasRoom-kept n most is es spent p = record { some = p.some; below = p.below; limit = p.limit }

-- a gate that was settled is kept
kept_then : (a b : GatesOf) (k : Gate) (m : LitOf) → (Contains a.kept (k, m) × (b ≡ a)) ⊎ (IsNew a k × (m ≡ lit_of (a.formula.vars + 1) true) × (b ≡ with_gate a k)) → Contains b.kept (k, m)
kept_then a b k m (inl (c, e)) = subst (λ (g : GatesOf). Contains g.kept (k, m)) (sym e) c
kept_then a b k m (inr (_, h, e)) = rw (e, h) (Contains-push a.kept (k, lit_of (a.formula.vars + 1) true))

-- asked twice it has one literal, and nothing is made
twice : (a b c d : GatesOf) (k : Asked) (l m : LitOf) → AreKept c → Settles a k b l → Continues b c → Settles c k d m → (m ≡ l) × (d ≡ c)
twice a b c d (Is n) l m kept (e, h) t (f, i) = (i ∙ sym h, f)
twice a b c d (Make k s) l m kept (n, h, u) t (o, i, v) =
    let there : Contains c.kept (k, n) = let (more, e) = t.kept in subst (λ es. Contains es (k, n)) (sym e) (Contains-append_left b.kept more (k, n) (kept_then a b k n u)) in
    elim v [
      | inl (p, e) ↦ (i ∙ ap (signed s) (kept.one k o n p there) ∙ sym h, e)
      | inr (new, _, _) ↦ absurd (new n there)
    ]

pub asked_twice : (a b c d : GatesOf) (g h : Gate) (l m : LitOf) → asked g ≡ asked h → AreKept c → Settles a (asked g) b l → Continues b c → Settles c (asked h) d m → (m ≡ l) × (d ≡ c)
asked_twice a b c d g h l m e kept s t u = twice a b c d (asked h) l m kept (subst (λ (k : Asked). Settles a k b l) e s) t u
