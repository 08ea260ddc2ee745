use Rattle.std.proofs.Common.{List, [], sym, subst}
use Rattle.btor_emit.specs.Emitting.{AreStates}
use Rattle.btor_emit.specs.declared.table.Seat.{Seat}
use Rattle.btor_emit.proofs.Beginning.{states_none}
use Rattle.btor_emit.proofs.emit.make.Goals as goal

pub draw-requires-clause-none : goal.draw-requires-clause-none
draw-requires-clause-none c =
    subst (λ (t : List Seat). AreStates c.args.model.now c.in_ok-draft.draft t [] 0) (sym c.deref_mut.ensures.value)
    (states_none c.args.model.now c.in_ok-draft.draft c.in_ok-table.table.items c.in_ok-draft.ensures c.promise.ensures.btor c.in_ok-table.ensures.size c.in_ok-table.ensures.seats)
