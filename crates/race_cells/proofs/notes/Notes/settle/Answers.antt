use Rattle.std.proofs.Common.{List, IfOk, length, set, subst, ap, sym, ◌∙◌, arith}
use Rattle.race_cells.specs.Notes.{NoteOf}
use Rattle.race_cells.specs.Settling.{Settles}
use Rattle.race_cells.proofs.Lists.{cells, cells-set, settle-at}
use Rattle.race_cells.proofs.notes.Notes.settle.Goals as goal

pub returns-clause-cells : goal.returns-clause-cells
returns-clause-cells g c =
    cells-set c.self.inside.notes.items c.args.place c.settle.new.self c.index_mut.result.now (c.settle.ensures.cell ∙ ap (λ n. n.cell) c.index_mut.ensures.value)
    ∙ ap cells c.self.view_is

pub returns-clause-settling : goal.returns-clause-settling
returns-clause-settling g c =
    let items = c.self.inside.notes.items in
    let now = set items c.args.place c.settle.new.self in
    subst (λ (ns : List (NoteOf g.row.T.Denot)). IfOk c.settle.result (Settles c.args.place c.args.value ns now)) c.self.view_is
    (settle-at items c.args.place c.args.value c.index_mut.result.now c.settle.new.self c.settle.result (omega (arith, ap length c.self.view_is)) (sym c.index_mut.ensures.value) c.settle.ensures.settling)
