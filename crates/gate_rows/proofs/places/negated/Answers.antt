use Rattle.std.proofs.Common.{◌≡◌, ◌∙◌, false, not, map, get_or, length, sym, ap, arith}
use Rattle.std.proofs.lemmas.List.{get_or-map, length-map}
use Rattle.cnf_form.specs.Cnf.{lit_in}
use Rattle.gate_graph.proofs.OneTable.{lit_negated}
use Rattle.gate_rows.specs.Literals.{row_of}
use Rattle.gate_rows.proofs.Building.{Builds-none, Built-push, Built-row, within_at, read, length-row}
use Rattle.gate_rows.proofs.places.negated.Goals as goal

pub loop-i-preserved : goal.loop-i-preserved
loop-i-preserved c =
    rw (c.in_ok-push.ensures, c.negate.ensures)
    (Built-push c.args.gates.now c.args.gates.now c.args.gates.now (λ x j. not (get_or (row_of x c.args.a.now) j false))
    c.loop-i.i c.loop-i.word.items _ c.loop-i.invariant (Builds-none c.args.gates.now 1)
    (within_at c.args.gates.now.formula.vars c.args.gates.now.formula.vars c.args.a.now c.loop-i.i c.index-a-i.result (omega arith) c.requires c.loop-i-test.true c.index-a-i.is)
    (λ x s. lit_negated x c.index-a-i.result ∙ ap not (sym (read x c.args.a.now c.loop-i.i c.index-a-i.result c.loop-i-test.true c.index-a-i.is))))

pub returns : goal.returns
returns c =
    let e : c.loop-i.i ≡ length c.args.a.now = omega arith in
    Built-row c.args.gates.now c.args.gates.now (λ x j. not (get_or (row_of x c.args.a.now) j false)) (length c.args.a.now) c.loop-i.word.items
    (λ x. map not (row_of x c.args.a.now)) (rw e at c.loop-i.invariant)
    (λ x. length-map (row_of x c.args.a.now) not ∙ length-row x c.args.a.now)
    (λ x j h. let n = length-row x c.args.a.now in sym (get_or-map not (row_of x c.args.a.now) j false false (omega arith)))
