use Rattle.std.proofs.Common.{◌≡◌, ◌<◌, ◌++◌, ◌∙◌, ℕ, List, Some, ap, sym, subst, get_or, length}
use Rattle.std.specs.Prelude.{slice_get}
use Rattle.std.proofs.lemmas.Option.{get_or_from_slice_get}
use Rattle.cnf_form.specs.Cnf.{LitOf}
use Rattle.gate_graph.specs.declared.gate.Gate.{Gate}
use Rattle.net_unroll.specs.Clauses.{lits_of}
use Rattle.net_text.specs.Text.{text_from}
use Rattle.net_text.proofs.Writing.{clause_some}
use Rattle.net_text.proofs.pieces.clause_front.Goals as goal

pub returns-clause-rest : goal.returns-clause-rest
returns-clause-rest c =
    let (x, e, l) = c.requires in
    let r = c.index-gates-gate.result in
    let same : c.index-gates-gate.result ≡ x = c.index-gates-gate.is ∙ ap (λ (es : List (Gate × LitOf)). get_or es c.args.gate r) c.gates.ensures ∙ get_or_from_slice_get c.args.encoded.now.gates c.args.gate x r e in
    let at : slice_get c.args.encoded.now.gates c.args.gate ≡ Some c.index-gates-gate.result = e ∙ ap Some (sym same) in
    ap (λ (bs : List ℕ). bs ++ text_from c.args.encoded.now c.after_clause.result) c.clause_piece.ensures
    ∙ sym (c.after_clause.ensures.text r (lits_of c.clause_at.result) at c.clause_at.ensures)

pub returns-clause-some : goal.returns-clause-some
returns-clause-some c = subst (λ (bs : List ℕ). 0 < length bs) (sym c.clause_piece.ensures) (clause_some (lits_of c.clause_at.result))
