use Rattle.std.proofs.Common.{◌≡◌, ◌++◌, ◌∙◌, List, ℕ, ap, sym, arith, get_or, length}
use Rattle.std.proofs.lemmas.Option.{get_or_from_slice_get}
use Rattle.cnf_form.specs.Cnf.{LitOf}
use Rattle.cnf_form.specs.Dimacs.{clause_text}
use Rattle.gate_graph.specs.declared.gate.Gate.{Gate}
use Rattle.gate_graph.specs.Folding.{clauses_of}
use Rattle.net_text.proofs.Writing.{clause_on, gate_on}
use Rattle.net_text.proofs.pieces.after_clause.Goals as goal

pub returns-then-next-clause_count-clause-text : goal.returns-then-next-clause_count-clause-text
returns-then-next-clause_count-clause-text c = λ x cl e f. clause_on c.args.encoded.now.gates c.args.encoded.now.goals c.args.gate c.args.clause x cl e f

pub returns-else-next-clause_count-clause-text : goal.returns-else-next-clause_count-clause-text
returns-else-next-clause_count-clause-text c = λ x cl e f.
    let r = c.index-gates-gate.result in
    let same : get_or c.gates.result.now c.args.gate c.index-gates-gate.result ≡ x = ap (λ (es : List (Gate × LitOf)). get_or es c.args.gate r) c.gates.ensures ∙ get_or_from_slice_get c.args.encoded.now.gates c.args.gate x r e in
    let many = c.clause_count.ensures x.1 in
    let alike = ap (λ (p : Gate × LitOf). length (clauses_of x.1 p.0)) same in
    let over = c.if-next-clause_count.false in
    gate_on c.args.encoded.now.gates c.args.encoded.now.goals c.args.gate c.args.clause x cl e f (omega arith) ∙ ap (λ (t : List ℕ). clause_text cl ++ t) (sym c.gate_place.ensures.text)
