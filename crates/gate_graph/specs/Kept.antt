-- Which gates are kept, and what a call for one does.
use Rattle.std.specs.Prelude.{◌≡◌, ℕ, ◌<◌, ◌≤◌, ◌+◌, ◌-◌, Bool, true, false, not, if◌then◌else◌, ◌⊎◌, List, [], ◌∷◌, ◌++◌, Contains}
use Rattle.std.specs.List.{flat_map}
use Rattle.cnf_form.specs.Cnf.{LitOf, FormulaOf, Assignment, LitWithin, Satisfies, lit_in, negate}
use Rattle.cnf_form.specs.declared.literal.TheConstants.{MAX_VARS}
use Rattle.gate_graph.specs.declared.gate.Gate.{Gate}
use Rattle.gate_graph.specs.declared.gate.Asked.{Asked}
use Rattle.gate_graph.specs.declared.gate.Asked.TheVariants.{Is, Make}
use Rattle.gate_graph.specs.Folding.{bit, operands, clauses_of}
use Rattle.gate_graph.specs.Circuit.{GatesOf, IsGates}

abbrev pub gates_of : ℕ → ℕ → List (List LitOf) → List ℕ → List (Gate × LitOf) → Bool → GatesOf
gates_of vars most clauses inputs kept spent = record { formula = record { vars = vars; clauses = clauses }; inputs = inputs; most = most; kept = kept; spent = spent }

-- gates of which none is found again
abbrev pub circuit_of : ℕ → List (List LitOf) → List ℕ → GatesOf
circuit_of vars clauses inputs = gates_of vars MAX_VARS clauses inputs [] false

-- the literal of a variable with this value
abbrev pub lit_of : ℕ → Bool → LitOf
lit_of v value = record { var = v; negated = not value }

-- each literal is of a variable from 1 to n
abbrev pub OthersWithin : ℕ → List LitOf → Type 0
OthersWithin n [] = Unit {0}
OthersWithin n (l ∷ ls) = LitWithin n l × OthersWithin n ls

-- the literal has the gate's value in every assignment that satisfies the clauses
pub record IsOf (n : ℕ) (F : List (List LitOf)) (k : Gate) (l : LitOf) : Type 0 where
  pub operands : OthersWithin n (operands k)
  pub within : LitWithin n l
  pub means : (x : Assignment) → Satisfies x F → lit_in x l ≡ bit k x

-- each kept gate has a literal of its value, and no other
pub record AreKept (g : GatesOf) : Type 0 where
  pub all : (k : Gate) (l : LitOf) → Contains g.kept (k, l) → IsOf g.formula.vars g.formula.clauses k l
  pub one : (k : Gate) (l m : LitOf) → Contains g.kept (k, l) → Contains g.kept (k, m) → l ≡ m

-- the literal is a later variable than those of the gate's operands, and no input
pub record IsAbove (inputs : List ℕ) (k : Gate) (l : LitOf) : Type 0 where
  pub plain : l.negated ≡ false
  pub later : 1 < l.var
  pub own : ¬ Contains inputs l.var
  pub operands : OthersWithin (l.var - 1) (operands k)

-- Each variable is the one that is true, an input or one gate's, whose operands stand before it.
pub record IsRising (n : ℕ) (inputs : List ℕ) (kept : List (Gate × LitOf)) : Type 0 where
  pub each : (v : ℕ) → 0 < v → v ≤ n → (v ≡ 1) ⊎ Contains inputs v ⊎ ((k : Gate) × Contains kept (k, lit_of v true))
  pub apart : (v : ℕ) → Contains inputs v → 1 < v
  pub above : (k : Gate) (l : LitOf) → Contains kept (k, l) → IsAbove inputs k l
  pub single : (k j : Gate) (l : LitOf) → Contains kept (k, l) → Contains kept (j, l) → k ≡ j

-- variable 1 is true, and there are no more variables than there may be
pub record HasRoom (g : GatesOf) : Type 0 where
  pub some : 1 ≤ g.formula.vars
  pub below : g.formula.vars ≤ g.most
  pub limit : g.most ≤ MAX_VARS

-- the clause of variable 1, which is true, and after it the clauses of the gates, each with its literal
abbrev pub clauses_from : List (Gate × LitOf) → List (List LitOf)
clauses_from kept = (lit_of 1 true ∷ []) ∷ flat_map (λ (e : Gate × LitOf). clauses_of e.1 e.0) kept

-- what holds of the fields
pub record IsKept (vars most : ℕ) (inputs : List ℕ) (kept : List (Gate × LitOf)) : Type 0 where
  pub gates : IsGates (circuit_of vars (clauses_from kept) inputs)
  pub truth : (x : Assignment) → Satisfies x (clauses_from kept) → x 1 ≡ true
  pub some : 1 ≤ vars
  pub below : vars ≤ most
  pub limit : most ≤ MAX_VARS
  pub all : (k : Gate) (l : LitOf) → Contains kept (k, l) → IsOf vars (clauses_from kept) k l
  pub one : (k : Gate) (l m : LitOf) → Contains kept (k, l) → Contains kept (k, m) → l ≡ m
  pub rising : IsRising vars inputs kept

-- what holds of the fields of a circuit, whose clauses are in a formula that has room for every variable
pub record IsCircuit (vars : ℕ) (formula : FormulaOf) (inputs : List ℕ) : Type 0 where
  pub gates : IsGates (circuit_of vars formula.clauses inputs)
  pub truth : (x : Assignment) → Satisfies x formula.clauses → x 1 ≡ true
  pub some : 1 ≤ vars
  pub room : formula.vars ≡ MAX_VARS

-- no literal has been made for the gate
abbrev pub IsNew : GatesOf → Gate → Type 0
IsNew g k = (l : LitOf) → Contains g.kept (k, l) → ⊥

-- one more gate, at the next variable
abbrev pub with_gate : GatesOf → Gate → GatesOf
with_gate g k = let l = lit_of (g.formula.vars + 1) true in
    gates_of (g.formula.vars + 1) g.most (g.formula.clauses ++ clauses_of l k) g.inputs (g.kept ++ (k, l) ∷ []) g.spent

-- one more gate that is not found again
abbrev pub circuit_with : GatesOf → Gate → GatesOf
circuit_with g k = let l = lit_of (g.formula.vars + 1) true in circuit_of (g.formula.vars + 1) (g.formula.clauses ++ clauses_of l k) g.inputs

-- one more input, at the next variable
abbrev pub with_input : GatesOf → GatesOf
with_input g = gates_of (g.formula.vars + 1) g.most g.formula.clauses (g.inputs ++ (g.formula.vars + 1) ∷ []) g.kept g.spent

-- the same gates after memory ran out
abbrev pub out_of_memory : GatesOf → GatesOf
out_of_memory g = record g { spent = true }

-- all variables are taken
pub record IsFull (g : GatesOf) : Type 0 where
  pub live : g.spent ≡ false
  pub full : g.formula.vars ≡ g.most

abbrev pub signed : Bool → LitOf → LitOf
signed s l = if s then negate l else l

-- what is asked for has this literal, and a gate is made only where it is new
abbrev pub Settles : GatesOf → Asked → GatesOf → LitOf → Type 0
Settles old (Is m) new l = (new ≡ old) × (l ≡ m)
Settles old (Make k s) new l = (m : LitOf) × (l ≡ signed s m) × ((Contains old.kept (k, m) × (new ≡ old)) ⊎ (IsNew old k × (m ≡ lit_of (old.formula.vars + 1) true) × (new ≡ with_gate old k)))

-- it is a gate that is neither folded nor kept, and would be one variable too many
abbrev pub IsRefused : GatesOf → Asked → Type 0
IsRefused old (Is m) = ⊥
IsRefused old (Make k s) = IsFull old × IsNew old k
