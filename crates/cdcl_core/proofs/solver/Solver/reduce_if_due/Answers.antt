use Rattle.std.proofs.Common.{refl}
use Rattle.std.proofs.lemmas.Result.{on_ok_weaker, IfErr-weaker}
use Rattle.cdcl_core.specs.Searching.{Moves, Stops}
use Rattle.cdcl_core.specs.declared.solver.Solver.{Solver}
use Rattle.cdcl_core.proofs.Steps.{moves_same, leads_moves, leads_both, stops_moves}
use Rattle.cdcl_core.proofs.solver.Solver.reduce_if_due.Goals as goal

pub returns-then-is_some-clause-leads : goal.returns-then-is_some-clause-leads
returns-then-is_some-clause-leads g c =
    let s = c.args.self.now in
    leads_moves g.L.Log.takes g.L.Log.faults s s c.args.log.now (moves_same s s refl refl refl refl refl refl)

pub returns-then-not-is_due-clause-leads : goal.returns-then-not-is_due-clause-leads
returns-then-not-is_due-clause-leads g c =
    let s = c.args.self.now in
    let mid : Solver = record s { learnts = c.is_due.new.self } in
    leads_moves g.L.Log.takes g.L.Log.faults s mid c.args.log.now (moves_same s mid refl refl refl refl refl refl)

pub returns-clause-leads : goal.returns-clause-leads
returns-clause-leads g c =
    let s = c.args.self.now in
    let a = c.args.log.now in
    let mid : Solver = record s { learnts = c.is_due.new.self } in
    let m : Moves s mid = moves_same s mid refl refl refl refl refl refl in
    on_ok_weaker c.reduce.result (λ w. leads_both g.L.Log.takes g.L.Log.faults s mid c.reduce.new.self a a c.reduce.new.log (leads_moves g.L.Log.takes g.L.Log.faults s mid a m) w) c.reduce.ensures.leads

pub returns-clause-stopped : goal.returns-clause-stopped
returns-clause-stopped g c =
    let s = c.args.self.now in
    let a = c.args.log.now in
    let b = c.reduce.new.log in
    let mid : Solver = record s { learnts = c.is_due.new.self } in
    let m : Moves s mid = moves_same s mid refl refl refl refl refl refl in
    IfErr-weaker c.reduce.result (λ e. Stops g.L.Log.takes g.L.Log.fails g.L.Log.faults mid a b e) (λ e. Stops g.L.Log.takes g.L.Log.fails g.L.Log.faults s a b e) (λ e w. stops_moves g.L.Log.takes g.L.Log.faults g.L.Log.fails s mid a b e m w) c.reduce.ensures.stopped
