use Rattle.std.proofs.Common.{◌≡◌, List, subst, sym}
use Rattle.std.specs.Prelude.{slice_get, Some}
use Rattle.model_core.specs.declared.model.Statement.{Statement}
use Rattle.cnf_form.specs.Cnf.{LitOf}
use Rattle.frame_gates.specs.Frames.{IsTable}
use Rattle.frame_gates.proofs.Filling.{statement_below}
use Rattle.frame_gates.proofs.Saying.{tells_reached}
use Rattle.frame_gates.proofs.frames.Frames.reached.Goals as goal

pub speaks-requires-clause-table : goal.speaks-requires-clause-table
speaks-requires-clause-table c =
    let t = subst (λ (ls : List LitOf). IsTable c.args.model.now c.args.gates.now ls) (sym c.self.view_is) c.requires.table in
    rw c.as_slice-lits.ensures.value t.within

pub speaks-requires-clause-statement : goal.speaks-requires-clause-statement
speaks-requires-clause-statement c =
    let t = subst (λ (ls : List LitOf). IsTable c.args.model.now c.args.gates.now ls) (sym c.self.view_is) c.requires.table in
    rw c.as_slice-lits.ensures.value
    (statement_below c.args.model.now.size c.self.inside.table.items c.covers-statements.result.now c.args.model.now.covers c.args.k c.statement_at-statement.result c.covers-statements.ensures t.size c.size.ensures.model.covers
    c.statement_at-statement.ensures)

pub returns-clause-reached : goal.returns-clause-reached
returns-clause-reached c =
    let bit = rw (c.as_slice-lits.ensures.value, c.self.view_is) at c.in_ok-reached.ensures.bit in
    let at = subst (λ (xs : List Statement). slice_get xs c.args.k ≡ Some c.statement_at-statement.result) c.covers-statements.ensures c.statement_at-statement.ensures in
    tells_reached c.args.model.now c.speaks.new.gates c.args.self.now c.args.k c.statement_at-statement.result c.in_ok-reached.reached at bit
