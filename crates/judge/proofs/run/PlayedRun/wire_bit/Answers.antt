use Rattle.std.proofs.Common.{◌∙◌, ◌<◌, List, [], false, ap, get_or, length, subst, sym}
use Rattle.std.specs.Arc.{arc_value}
use Rattle.sby_bits.specs.Rows.{Row}
use Rattle.design_meaning.specs.Runs.{CycleOf, shown_of}
use Rattle.judge.proofs.WireRows.{wire_is, wire_within}
use Rattle.judge.proofs.run.PlayedRun.wire_bit.Goals as goal

pub get-requires-clause-place : goal.get-requires-clause-place
get-requires-clause-place c =
    let i = c.self.inside in
    let few = rw (← c.self.view_is) at c.requires.number in
    let lt = rw (← c.self.view_is) at c.requires.place in
    subst (λ (rows : List Row). c.args.place < length (get_or rows c.args.number [])) (sym c.deref.ensures) (wire_within i.wires i.free i.kept (arc_value i.rows) c.args.number c.args.place few lt)

pub returns : goal.returns
returns c =
    let i = c.self.inside in
    let few = rw (← c.self.view_is) at c.requires.number in
    let lt = rw (← c.self.view_is) at c.requires.place in
    c.get.ensures ∙ ap (λ (rows : List Row). get_or (get_or rows c.args.number []) c.args.place false) c.deref.ensures
    ∙ wire_is i.wires i.free i.kept (arc_value i.rows) c.args.number c.args.place few lt
    ∙ ap (λ (run : List CycleOf). get_or (get_or (shown_of run) c.args.number []) c.args.place false) c.self.view_is
