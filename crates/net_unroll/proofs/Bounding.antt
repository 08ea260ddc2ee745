-- How many variables steps make.
use Rattle.std.proofs.Common.{◌+◌, ◌≤◌, List, [], ◌∷◌, Option, Some, None, arith}
use Rattle.cnf_form.specs.Cnf.{LitOf, negate}
use Rattle.gate_graph.specs.declared.gate.Gate.TheVariants.{And}
use Rattle.gate_graph.specs.declared.gate.Asked.{Asked as GateAsked}
use Rattle.gate_graph.specs.declared.gate.Asked.TheVariants.{Is, Make}
use Rattle.gate_graph.specs.Folding.{asked}
use Rattle.bit_net.specs.Net.{NetOf}
use Rattle.net_unroll.specs.Asking.{goal_of}
use Rattle.net_unroll.specs.Encoding.{bound, bound_for, made, step_bound, steps_bound, vars_for}
use Rattle.net_unroll.specs.Making.{CoreOf, MadeOf, both, found, made_gate, nothing_made, over, over_gate, run, settled, step}
use Rattle.net_unroll.specs.Program.{Step, program}
use Rattle.net_unroll.specs.Program.Step.{Input, Constant, Copy, Move, Assume, Pass, End}
use Rattle.net_unroll.specs.declared.asking.Asked.{Asked}
use Rattle.net_unroll.specs.declared.asking.Cycles.{Cycles}

settled_few : (c : CoreOf) (a : GateAsked) → (settled c a).0.vars ≤ c.vars + 1
settled_few c (Is l) = omega arith
settled_few c (Make k s) = by (found c.kept k)
  where
    by : (o : Option LitOf) → (made_gate c k s o).0.vars ≤ c.vars + 1
    by None = omega arith
    by (Some l) = omega arith

both_few : (c : CoreOf) (a b : LitOf) → (both c a b).0.vars ≤ c.vars + 1
unfolding both
both_few c a b = settled_few c (asked (And a b))

step_few : (m : MadeOf) (s : Step) → (step m s).core.vars ≤ m.core.vars + step_bound s
step_few m (Input t v) = omega arith
step_few m (Constant v b) = omega arith
step_few m (Copy v g) = settled_few m.core (asked (over_gate m.table g))
step_few m (Move ms) = omega arith
step_few m (Assume l) = both_few m.core m.assumed (over m.table l)
step_few m (Pass l) = both_few m.core m.ok (negate (over m.table l))
step_few m (End l) =
    let r = both m.core m.ok (over m.table l) in
    let p = both_few m.core m.ok (over m.table l) in
    let q = both_few r.0 m.assumed r.1 in
    omega arith

run_few : (m : MadeOf) (steps : List Step) → (run m steps).core.vars ≤ m.core.vars + steps_bound steps
run_few m [] = omega arith
run_few m (s ∷ steps) = let p = step_few m s in let q = run_few (step m s) steps in omega arith

pub bounded : (n : NetOf) (a : Asked) (c : Cycles) → made n a c ≤ bound n a c
bounded n a c = by (goal_of n a)
  where
    by : (o : Option LitOf) → vars_for n c o ≤ bound_for n c o
    by None = omega arith
    by (Some l) = run_few (nothing_made n) (program n l c)
