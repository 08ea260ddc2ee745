use Rattle.std.proofs.Common.{rules, ◌≡◌, ℕ, List, ◌∙◌, ap, get_or, subst, sym}
use Rattle.std.specs.Prelude.{Contains}
use Rattle.std.proofs.lemmas.List.Elements.{Contains-get_or}
use Rattle.cnf_form.specs.Cnf.{LitOf, LitWithin}
use Rattle.gate_graph.specs.declared.gate.Gate.{Gate}
use Rattle.gate_graph.specs.Circuit.{GatesOf}
use Rattle.gate_graph.specs.Folding.{operands}
use Rattle.gate_graph.specs.Kept.{OthersWithin}
use Rattle.gate_graph.proofs.gates.Gates.formula.Goals as goal

pub push_clauses-requires-clause-operands : goal.push_clauses-requires-clause-operands
push_clauses-requires-clause-operands c =
    let e = c.entry-item.result in
    let items = c.entries-entry-items.result.now in
    let is : c.entry-item.result ≡ get_or c.entries-entry-items.result.now c.loop-entry.entry-index c.entry-item.result = search rules in
    let there = subst (Contains items) (sym is) (Contains-get_or items c.loop-entry.entry-index e c.loop-entry-test.true) in
    let o = c.self.invariant.all e.0 e.1 (subst (λ (es : List (Gate × LitOf)). Contains es e) c.entries-entry-items.ensures there) in
    subst (λ (n : ℕ). OthersWithin n (operands e.0)) (sym (c.loop-entry.invariant.vars ∙ ap (λ (g : GatesOf). g.formula.vars) (sym c.self.view_is))) o.operands

pub push_clauses-requires-clause-literal : goal.push_clauses-requires-clause-literal
push_clauses-requires-clause-literal c =
    let e = c.entry-item.result in
    let items = c.entries-entry-items.result.now in
    let is : c.entry-item.result ≡ get_or c.entries-entry-items.result.now c.loop-entry.entry-index c.entry-item.result = search rules in
    let there = subst (Contains items) (sym is) (Contains-get_or items c.loop-entry.entry-index e c.loop-entry-test.true) in
    let o = c.self.invariant.all e.0 e.1 (subst (λ (es : List (Gate × LitOf)). Contains es e) c.entries-entry-items.ensures there) in
    subst (λ (n : ℕ). LitWithin n e.1) (sym (c.loop-entry.invariant.vars ∙ ap (λ (g : GatesOf). g.formula.vars) (sym c.self.view_is))) o.within
