use Rattle.std.proofs.Common.{◌≡◌, List, None, length, set, subst, ap, sym, ◌∙◌, arith}
use Rattle.std.specs.Option.{MatchOption}
use Rattle.race_cells.specs.Notes.{NoteOf, Learns, known_at}
use Rattle.race_cells.proofs.Lists.{cells, cells-set, look-at}
use Rattle.race_cells.proofs.notes.Notes.look.Goals as goal

pub returns-clause-cells : goal.returns-clause-cells
returns-clause-cells g c =
    cells-set c.self.inside.notes.items c.args.place c.look.new.self c.index_mut.result.now (c.look.ensures.cell ∙ ap (λ n. n.cell) c.index_mut.ensures.value)
    ∙ ap cells c.self.view_is

pub returns-clause-value : goal.returns-clause-value
returns-clause-value g c =
    let items = c.self.inside.notes.items in
    let now = set items c.args.place c.look.new.self in
    subst (λ (ns : List (NoteOf g.row.T.Denot)). MatchOption c.look.result ((known_at ns c.args.place ≡ None) × (now ≡ ns)) (λ v. Learns c.args.place v.now ns now)) c.self.view_is
    (look-at (λ v. v.now) items c.args.place c.index_mut.result.now c.look.new.self c.look.result (omega (arith, ap length c.self.view_is)) (sym c.index_mut.ensures.value) c.look.ensures.value)
