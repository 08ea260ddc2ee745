-- The encoding of what is asked: of the gates that its steps make those on which its goals rest, renumbered in the same order.
use Rattle.std.specs.Prelude.{ℕ, zero, suc, ◌+◌, Bool, true, false, ◌||◌, cond, eqb, List, [], ◌∷◌, ◌++◌, map, Option, Some, None}
use Rattle.std.specs.List.{filter}
use Rattle.cnf_form.specs.Cnf.{LitOf, FormulaOf}
use Rattle.gate_graph.specs.declared.gate.Gate.{Gate}
use Rattle.gate_graph.specs.declared.gate.Gate.TheVariants.{And, Xor, Mux, Maj}
use Rattle.gate_graph.specs.Kept.{clauses_from}
use Rattle.bit_net.specs.Net.{NetOf}
use Rattle.bit_net.specs.Reaching.{is_one_of, spread}
use Rattle.net_unroll.specs.Asking.{goal_of}
use Rattle.net_unroll.specs.Making.{MadeOf, nothing_made, run}
use Rattle.net_unroll.specs.Program.{Step, program}
use Rattle.net_unroll.specs.Program.Step.{Input, Constant, Copy, Move, Assume, Pass, End}
use Rattle.net_unroll.specs.declared.asking.Asked.{Asked}
use Rattle.net_unroll.specs.declared.asking.Cycles.{Cycles}
use Rattle.net_unroll.specs.declared.encoded.Free.{Free}

-- an encoding: whether there is something to ask for, how many variables there are, the gates among them, the free ones, and the goals
pub record EncodedOf : Type 0 where
  pub asks : Bool
  pub vars : ℕ
  pub gates : List (Gate × LitOf)
  pub free : List Free
  pub goals : List LitOf

-- that a variable is true, the gates, and that some goal is true; where there is nothing to ask for, the empty clause
abbrev pub formula_of : EncodedOf → FormulaOf
formula_of e = record { vars = e.vars; clauses = cond e.asks (clauses_from e.gates ++ e.goals ∷ []) ([] ∷ []) }

-- the numbers of variables for which a test passes
abbrev pub number : (ℕ → Bool) → ℕ → ℕ
number test zero = zero
number test (suc v) = cond (test (suc v)) (suc (number test v)) (number test v)

abbrev pub renumbered : (ℕ → Bool) → LitOf → LitOf
renumbered test l = record { var = number test l.var; negated = l.negated }

abbrev pub renumbered_gate : (ℕ → Bool) → Gate → Gate
renumbered_gate test (And a b) = And (renumbered test a) (renumbered test b)
renumbered_gate test (Xor a b) = Xor (renumbered test a) (renumbered test b)
renumbered_gate test (Mux s a b) = Mux (renumbered test s) (renumbered test a) (renumbered test b)
renumbered_gate test (Maj a b c) = Maj (renumbered test a) (renumbered test b) (renumbered test c)

abbrev pub renumbered_entry : (ℕ → Bool) → Gate × LitOf → Gate × LitOf
renumbered_entry test e = (renumbered_gate test e.0, renumbered test e.1)

abbrev pub renumbered_free : (ℕ → Bool) → Free → Free
renumbered_free test f = record { cycle = f.cycle; place = f.place; var = number test f.var }

-- the variable that is true, and those on which the goals rest
abbrev pub is_kept : MadeOf → ℕ → Bool
is_kept m = spread m.core.kept (λ v. eqb v 1 || is_one_of m.goals v)

abbrev pub finished : MadeOf → EncodedOf
finished m = record {
  asks = true;
  vars = number (is_kept m) m.core.vars;
  gates = map (renumbered_entry (is_kept m)) (filter (λ e. is_kept m e.1.var) m.core.kept);
  free = map (renumbered_free (is_kept m)) (filter (λ f. is_kept m f.var) m.free);
  goals = map (renumbered (is_kept m)) m.goals;
}

-- one variable and the empty clause
abbrev pub empty_encoding : EncodedOf
empty_encoding = record { asks = false; vars = 1; gates = []; free = []; goals = [] }

abbrev pub made_for : NetOf → LitOf → Cycles → MadeOf
made_for n goal c = run (nothing_made n) (program n goal c)

abbrev pub encoding_for : NetOf → Cycles → Option LitOf → EncodedOf
encoding_for n c None = empty_encoding
encoding_for n c (Some goal) = finished (made_for n goal c)

abbrev pub encoding : NetOf → Asked → Cycles → EncodedOf
encoding n a c = encoding_for n c (goal_of n a)

-- how many variables are made for it
abbrev pub vars_for : NetOf → Cycles → Option LitOf → ℕ
vars_for n c None = 1
vars_for n c (Some goal) = (made_for n goal c).core.vars

abbrev pub made : NetOf → Asked → Cycles → ℕ
made n a c = vars_for n c (goal_of n a)

-- how many variables a step may make
abbrev pub step_bound : Step → ℕ
step_bound (Input t v) = 1
step_bound (Constant v b) = 0
step_bound (Copy v g) = 1
step_bound (Move ms) = 0
step_bound (Assume l) = 1
step_bound (Pass l) = 1
step_bound (End l) = 2

abbrev pub steps_bound : List Step → ℕ
steps_bound [] = 0
steps_bound (s ∷ steps) = step_bound s + steps_bound steps

abbrev pub bound_for : NetOf → Cycles → Option LitOf → ℕ
bound_for n c None = 1
bound_for n c (Some goal) = 1 + steps_bound (program n goal c)

-- how many variables the steps could make, were nothing shared nor folded
abbrev pub bound : NetOf → Asked → Cycles → ℕ
bound n a c = bound_for n c (goal_of n a)
