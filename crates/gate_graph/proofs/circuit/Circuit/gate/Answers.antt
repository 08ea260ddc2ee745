use Rattle.std.proofs.Common.{◌≡◌, ◌+◌, ◌<◌, true, ap, subst, sym}
use Rattle.cnf_form.specs.Cnf.{FormulaOf}
use Rattle.cnf_form.specs.declared.literal.TheConstants.{MAX_VARS}
use Rattle.gate_graph.specs.Circuit.{GatesOf}
use Rattle.gate_graph.specs.Folding.{operands}
use Rattle.gate_graph.specs.Kept.{OthersWithin, lit_of}
use Rattle.gate_graph.proofs.Keeping.{lit_from}
use Rattle.gate_graph.proofs.Making.{IsCircuit-gate, MakesGate-circuit}
use Rattle.gate_graph.proofs.circuit.Circuit.gate.Goals as goal

pub invariant_of-self-2 : goal.invariant_of-self-2
invariant_of-self-2 c =
    let i = c.self.inside in
    let v = sym c.self.view_is in
    let room = subst (λ (g : GatesOf). g.formula.vars < MAX_VARS) v c.requires.room in
    let within = subst (λ (g : GatesOf). OthersWithin g.formula.vars (operands c.args.gate.now)) v c.requires.within in
    let e : c.new-l.result ≡ lit_of (i.vars + 1) true = lit_from c.new-l.result (i.vars + 1) c.new-l.ensures.var c.new-l.ensures.negated in
    let ok = c.in_ok-push_clauses.ensures.ok in
    IsCircuit-gate i.vars i.formula c.push_clauses.new.formula i.inputs.items c.args.gate.now c.self.invariant room within
    (ap (λ (f : FormulaOf). f.vars) ok) (rw e at (ap (λ (f : FormulaOf). f.clauses) ok))

pub returns-clause-gate : goal.returns-clause-gate
returns-clause-gate c =
    let i = c.self.inside in
    let within = subst (λ (g : GatesOf). OthersWithin g.formula.vars (operands c.args.gate.now)) (sym c.self.view_is) c.requires.within in
    let e : c.new-l.result ≡ lit_of (i.vars + 1) true = lit_from c.new-l.result (i.vars + 1) c.new-l.ensures.var c.new-l.ensures.negated in
    rw (← c.self.view_is) (rw (c.in_ok-push_clauses.ensures.ok, e) (MakesGate-circuit i.vars i.formula.clauses c.args.gate.now within i.inputs.items))
