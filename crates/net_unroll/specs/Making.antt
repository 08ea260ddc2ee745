-- What steps make: gates, shared and folded.
use Rattle.std.specs.Prelude.{◌≡◌, ℕ, suc, ◌<◌, ◌≤◌, All, length, Bool, true, false, ◌&&◌, cond, List, [], ◌∷◌, ◌++◌, Option, Some, None, set, replicate, slice_index_or}
use Rattle.cnf_form.specs.Cnf.{LitOf, LitWithin, negate}
use Rattle.cnf_form.specs.declared.literal.TheConstants.{MAX_VARS}
use Rattle.gate_graph.specs.declared.gate.Gate.{Gate}
use Rattle.gate_graph.specs.declared.gate.Gate.TheVariants.{And, Xor, Mux, Maj}
use Rattle.gate_graph.specs.declared.gate.Asked.{Asked}
use Rattle.gate_graph.specs.declared.gate.Asked.TheVariants.{Is, Make}
use Rattle.gate_graph.specs.Circuit.{GatesOf}
use Rattle.gate_graph.specs.Folding.{asked, constant, same}
use Rattle.gate_graph.specs.Kept.{lit_of, signed}
use Rattle.bit_net.specs.Net.{NetOf, vars}
use Rattle.net_unroll.specs.Program.{Step}
use Rattle.net_unroll.specs.Program.Step.{Input, Constant, Copy, Move, Assume, Pass, End}
use Rattle.net_unroll.specs.declared.encoded.Free.{Free}
use Rattle.net_unroll.specs.declared.making.Making.{Making}

-- how many variables there are, and the gates among them, each with its literal
pub record CoreOf : Type 0 where
  pub vars : ℕ
  pub kept : List (Gate × LitOf)

-- one gate
abbrev pub same_gate : Gate → Gate → Bool
same_gate (And a b) (And c d) = same a c && same b d
same_gate (And a b) (Xor c d) = false
same_gate (And a b) (Mux t c d) = false
same_gate (And a b) (Maj d e f) = false
same_gate (Xor a b) (And c d) = false
same_gate (Xor a b) (Xor c d) = same a c && same b d
same_gate (Xor a b) (Mux t c d) = false
same_gate (Xor a b) (Maj d e f) = false
same_gate (Mux s a b) (And c d) = false
same_gate (Mux s a b) (Xor c d) = false
same_gate (Mux s a b) (Mux t c d) = same s t && (same a c && same b d)
same_gate (Mux s a b) (Maj d e f) = false
same_gate (Maj a b c) (And d e) = false
same_gate (Maj a b c) (Xor d e) = false
same_gate (Maj a b c) (Mux t d e) = false
same_gate (Maj a b c) (Maj d e f) = same a d && (same b e && same c f)

-- the literal that a gate has
abbrev pub found : List (Gate × LitOf) → Gate → Option LitOf
found [] k = None
found (e ∷ kept) k = cond (same_gate e.0 k) (Some e.1) (found kept k)

abbrev pub with_new : CoreOf → Gate → CoreOf
with_new c k = record { vars = suc c.vars; kept = c.kept ++ (k, lit_of (suc c.vars) true) ∷ [] }

abbrev pub made_gate : CoreOf → Gate → Bool → Option LitOf → CoreOf × LitOf
made_gate c k s (Some l) = (c, signed s l)
made_gate c k s None = (with_new c k, signed s (lit_of (suc c.vars) true))

-- what a call for a gate leads to: the literal that is there or was made for it, else that of a new variable
abbrev pub settled : CoreOf → Asked → CoreOf × LitOf
settled c (Is l) = (c, l)
settled c (Make k s) = made_gate c k s (found c.kept k)

-- the literal that stands in a table for a literal
abbrev pub over : List LitOf → LitOf → LitOf
over table l = signed l.negated (slice_index_or table l.var (constant true))

-- the same gate over the table's literals
abbrev pub over_gate : List LitOf → Gate → Gate
over_gate table (And a b) = And (over table a) (over table b)
over_gate table (Xor a b) = Xor (over table a) (over table b)
over_gate table (Mux s a b) = Mux (over table s) (over table a) (over table b)
over_gate table (Maj a b c) = Maj (over table a) (over table b) (over table c)

-- `old` with the literals that it has for the second of each pair, at the variables that are the first
abbrev pub moved : List LitOf → List (ℕ × LitOf) → List LitOf → List LitOf
moved old [] table = table
moved old (m ∷ ms) table = moved old ms (set table m.0 (over old m.1))

-- The variables and gates so far, the inputs among the variables, the table, the literals that all was assumed and that nothing was met, and
-- those of the cycles in which what solves the job can end.
pub record MadeOf : Type 0 where
  pub core : CoreOf
  pub free : List Free
  pub table : List LitOf
  pub assumed : LitOf
  pub ok : LitOf
  pub goals : List LitOf

abbrev pub copied : MadeOf → ℕ → CoreOf × LitOf → MadeOf
copied m v r = record m { core = r.0; table = set m.table v r.1 }

abbrev pub ended : MadeOf → CoreOf × LitOf → MadeOf
ended m r = record m { core = r.0; goals = m.goals ++ r.1 ∷ [] }

-- the literal that is true where both are
unfoldable pub both : CoreOf → LitOf → LitOf → CoreOf × LitOf
both c a b = settled c (asked (And a b))

abbrev pub step : MadeOf → Step → MadeOf
step m (Input t v) = record m {
  core = record { vars = suc m.core.vars; kept = m.core.kept };
  free = m.free ++ record { cycle = t; place = v; var = suc m.core.vars } ∷ [];
  table = set m.table v (lit_of (suc m.core.vars) true);
}
step m (Constant v b) = record m { table = set m.table v (constant b) }
step m (Copy v g) = copied m v (settled m.core (asked (over_gate m.table g)))
step m (Move ms) = record m { table = moved m.table ms m.table }
step m (Assume l) = let r = both m.core m.assumed (over m.table l) in record m { core = r.0; assumed = r.1 }
step m (Pass l) = let r = both m.core m.ok (negate (over m.table l)) in record m { core = r.0; ok = r.1 }
step m (End l) = let r = both m.core m.ok (over m.table l) in ended m (both r.0 m.assumed r.1)

abbrev pub run : MadeOf → List Step → MadeOf
run m [] = m
run m (s ∷ steps) = run (step m s) steps

-- the variable that is true, and no other
abbrev pub nothing_made : NetOf → MadeOf
nothing_made n = record {
  core = record { vars = 1; kept = [] };
  free = [];
  table = replicate (suc (vars n)) (constant true);
  assumed = constant true;
  ok = constant true;
  goals = [];
}

-- what has been made, as it is kept
abbrev pub core_of : GatesOf → CoreOf
core_of g = record { vars = g.formula.vars; kept = g.kept }

abbrev pub made_of : Making → MadeOf
made_of m = record { core = core_of m.gates; free = m.free.items; table = m.table.items; assumed = m.assumed; ok = m.ok; goals = m.goals.items }

-- each literal is of a variable that is there, and the table has this many
pub record IsMaking (long : ℕ) (m : Making) : Type 0 where
  pub most : m.gates.most ≡ MAX_VARS
  pub size : length m.table.items ≡ long
  pub table : All (LitWithin m.gates.formula.vars) m.table.items
  pub assumed : LitWithin m.gates.formula.vars m.assumed
  pub ok : LitWithin m.gates.formula.vars m.ok
  pub goals : All (LitWithin m.gates.formula.vars) m.goals.items
  pub free : All (λ f. (0 < f.var) × (f.var ≤ m.gates.formula.vars)) m.free.items
