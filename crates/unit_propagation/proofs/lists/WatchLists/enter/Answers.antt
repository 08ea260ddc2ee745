use Rattle.std.proofs.Common.{subst, sym}
use Rattle.unit_propagation.specs.Watch.{Enters, rows_of}
use Rattle.unit_propagation.proofs.Rows.{row_room}
use Rattle.unit_propagation.proofs.Entries.{enters_left, enters_both, entered_both}
use Rattle.unit_propagation.proofs.lists.WatchLists.enter.Goals as goal

pub returns-in_err-push-2-clause-enters : goal.returns-in_err-push-2-clause-enters
returns-in_err-push-2-clause-enters c =
    let p = c.in_ok-push.ensures in
    let q = c.in_err-push-2.ensures in
    subst (λ z. Enters (rows_of c.args.self.now.vars c.args.self.now.lists.items) z c.args.clause c.args.left c.args.right) (sym q.err) (enters_left _ _ c.args.clause c.args.left c.args.right p.ok)

pub returns-clause-enters : goal.returns-clause-enters
returns-clause-enters c =
    let p = c.in_ok-push.ensures in
    let q = c.in_ok-push-2.ensures in
    enters_both _ _ _ c.args.clause c.args.left c.args.right (enters_left _ _ c.args.clause c.args.left c.args.right p.ok) q.ok

pub returns-clause-entered : goal.returns-clause-entered
returns-clause-entered c =
    let s = c.args.self.now in
    let p = c.in_ok-push.ensures in
    let q = c.in_ok-push-2.ensures in
    entered_both (rows_of s.vars s.lists.items) _ _ c.args.clause c.args.left c.args.right (row_room s.vars s.lists.items c.args.left c.requires.left) (row_room s.vars s.lists.items c.args.right c.requires.right) p.ok q.ok
