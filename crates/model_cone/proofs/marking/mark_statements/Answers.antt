use Rattle.std.proofs.Common.{get_or}
use Rattle.std.proofs.lemmas.List.{get_or_default}
use Rattle.model_core.specs.declared.model.Statement.{Statement}
use Rattle.model_cone.proofs.Reading.{statements-spread}
use Rattle.model_cone.proofs.marking.mark_statements.Goals as goal

pub mark_statement-requires : goal.mark_statement-requires
mark_statement-requires c =
    rw c.loop-statement.invariant.size (c.requires c.loop-statement.statement-index (record { a = 0; en = 0 }) c.loop-statement-test.true)

pub loop-statement-preserved : goal.loop-statement-preserved
loop-statement-preserved c =
    let xs = c.args.statements.now in
    let i = c.loop-statement.statement-index in
    let x : Statement = get_or xs i (record { a = 0; en = 0 }) in
    let l = c.loop-statement-test.true in
    statements-spread xs i x l (get_or_default xs i (record { a = 0; en = 0 }) x l) _ _ _ _ _ _ c.loop-statement.invariant c.in_ok-mark_statement.ensures
