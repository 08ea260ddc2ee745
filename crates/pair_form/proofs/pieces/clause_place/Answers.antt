use Rattle.std.proofs.Common.{arith, ap, length}
use Rattle.cnf_form.specs.Cnf.{FormulaOf}
use Rattle.pair_form.proofs.Writing.{clause_here}
use Rattle.pair_form.proofs.pieces.clause_place.Goals as goal

pub returns-then-clause-len-clause-place : goal.returns-then-clause-len-clause-place
returns-then-clause-len-clause-place c =
    let n = ap length c.clauses.ensures.clauses in
    let f = ap (λ (g : FormulaOf). length g.clauses) c.formula.ensures in
    let many = c.len.ensures in
    let less = c.if-clause-len.true in
    clause_here c.args.pair.now.formula.clauses c.args.clause (omega arith)
