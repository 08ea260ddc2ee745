use Rattle.std.proofs.Common.{arith, rules, ◌∙◌, List, ap, length, refl, subst}
use Rattle.cnf_form.specs.Cnf.{LitOf}
use Rattle.gate_rows.specs.Literals.{Builds, IsFull}
use Rattle.frame_gates.specs.Rows.{IsWritten}
use Rattle.frame_gates.proofs.Noding.{a_read, b_read, node_costs, node_given, node_long, node_widths, read_within, s_read, y_once, y_read, y_small}
use Rattle.frame_gates.proofs.nodes.run_node.Goals as goal

pub read_row-requires : goal.read_row-requires
read_row-requires c = a_read c.args.model.now c.requires.model c.args.node c.requires.node c.args.table.now c.requires.table.size c.a.result.now c.a.ensures

pub read_row-requires-2 : goal.read_row-requires-2
read_row-requires-2 c = b_read c.args.model.now c.requires.model c.args.node c.requires.node c.args.table.now c.requires.table.size c.b.result.now c.b.ensures

pub read_row-requires-3 : goal.read_row-requires-3
read_row-requires-3 c = s_read c.args.model.now c.requires.model c.args.node c.requires.node c.args.table.now c.requires.table.size c.s.result.now c.s.ensures

pub overflow_cast-width : goal.overflow_cast-width
overflow_cast-width c = let l = y_small c.args.model.now c.requires.model c.args.node c.requires.node c.args.table.now c.requires.table.size c.y-places.result.now c.y-places.ensures in omega arith

pub node_row-requires-clause-a : goal.node_row-requires-clause-a
node_row-requires-clause-a c = read_within c.args.gates.now.formula.vars c.args.table.now c.as_slice-a.result.now c.a.result.now (a_read c.args.model.now c.requires.model c.args.node c.requires.node c.args.table.now c.requires.table.size c.a.result.now c.a.ensures) c.requires.table.within (c.as_slice-a.ensures.value ∙ c.in_ok-read_row.ensures)

pub node_row-requires-clause-b : goal.node_row-requires-clause-b
node_row-requires-clause-b c = read_within c.args.gates.now.formula.vars c.args.table.now c.as_slice-b.result.now c.b.result.now (b_read c.args.model.now c.requires.model c.args.node c.requires.node c.args.table.now c.requires.table.size c.b.result.now c.b.ensures) c.requires.table.within (c.as_slice-b.ensures.value ∙ c.in_ok-read_row-2.ensures)

pub node_row-requires-clause-s : goal.node_row-requires-clause-s
node_row-requires-clause-s c = read_within c.args.gates.now.formula.vars c.args.table.now c.as_slice-s.result.now c.s.result.now (s_read c.args.model.now c.requires.model c.args.node c.requires.node c.args.table.now c.requires.table.size c.s.result.now c.s.ensures) c.requires.table.within (c.as_slice-s.ensures.value ∙ c.in_ok-read_row-3.ensures)

pub node_row-requires-clause-widths : goal.node_row-requires-clause-widths
node_row-requires-clause-widths c = node_widths c.args.model.now c.requires.model c.args.node c.requires.node c.args.table.now c.as_slice-a.result.now c.as_slice-b.result.now c.as_slice-s.result.now c.op-2.result c.a.result.now c.b.result.now c.s.result.now c.y-places.result.now (length c.y-places.result.now) c.op-2.ensures c.a.ensures c.b.ensures c.s.ensures c.y-places.ensures (c.as_slice-a.ensures.value ∙ c.in_ok-read_row.ensures) (c.as_slice-b.ensures.value ∙ c.in_ok-read_row-2.ensures) (c.as_slice-s.ensures.value ∙ c.in_ok-read_row-3.ensures) refl

pub returns-in_err-row-clause-builds : goal.returns-in_err-row-clause-builds
returns-in_err-row-clause-builds c = λ n at. subst (Builds c.args.gates.now c.node_row.new.gates) (node_costs c.args.model.now c.requires.model c.args.node c.requires.node c.args.table.now c.as_slice-a.result.now c.as_slice-b.result.now c.as_slice-s.result.now c.op-2.result c.a.result.now c.b.result.now c.s.result.now c.y-places.result.now (length c.y-places.result.now) c.op-2.ensures c.a.ensures c.b.ensures c.s.ensures c.y-places.ensures (c.as_slice-a.ensures.value ∙ c.in_ok-read_row.ensures) (c.as_slice-b.ensures.value ∙ c.in_ok-read_row-2.ensures) (c.as_slice-s.ensures.value ∙ c.in_ok-read_row-3.ensures) refl n at) c.node_row.ensures.builds

pub returns-in_err-row-clause-too_many : goal.returns-in_err-row-clause-too_many
returns-in_err-row-clause-too_many c = λ e n at. subst (IsFull c.args.gates.now c.node_row.new.gates) (node_costs c.args.model.now c.requires.model c.args.node c.requires.node c.args.table.now c.as_slice-a.result.now c.as_slice-b.result.now c.as_slice-s.result.now c.op-2.result c.a.result.now c.b.result.now c.s.result.now c.y-places.result.now (length c.y-places.result.now) c.op-2.ensures c.a.ensures c.b.ensures c.s.ensures c.y-places.ensures (c.as_slice-a.ensures.value ∙ c.in_ok-read_row.ensures) (c.as_slice-b.ensures.value ∙ c.in_ok-read_row-2.ensures) (c.as_slice-s.ensures.value ∙ c.in_ok-read_row-3.ensures) refl n at) (c.in_err-row.ensures.too_many (search rules))

pub write_row-requires-clause-below : goal.write_row-requires-clause-below
write_row-requires-clause-below c = y_read c.args.model.now c.requires.model c.args.node c.requires.node c.args.table.now c.requires.table.size c.y-places.result.now c.y-places.ensures

pub write_row-requires-clause-distinct : goal.write_row-requires-clause-distinct
write_row-requires-clause-distinct c = y_once c.args.model.now c.requires.model c.args.node c.requires.node c.args.table.now c.requires.table.size c.y-places.result.now c.y-places.ensures

pub write_row-requires-clause-as_many : goal.write_row-requires-clause-as_many
write_row-requires-clause-as_many c = ap length c.as_slice.ensures.value ∙ node_long c.args.model.now c.requires.model c.args.node c.requires.node c.args.table.now c.as_slice-a.result.now c.as_slice-b.result.now c.as_slice-s.result.now c.op-2.result c.a.result.now c.b.result.now c.s.result.now c.y-places.result.now (length c.y-places.result.now) c.op-2.ensures c.a.ensures c.b.ensures c.s.ensures c.y-places.ensures (c.as_slice-a.ensures.value ∙ c.in_ok-read_row.ensures) (c.as_slice-b.ensures.value ∙ c.in_ok-read_row-2.ensures) (c.as_slice-s.ensures.value ∙ c.in_ok-read_row-3.ensures) refl c.node_row.new.gates c.in_ok-row.row.items c.in_ok-row.ensures.row

pub returns-clause-given : goal.returns-clause-given
returns-clause-given c = λ n at.
    node_given c.args.model.now c.requires.model c.args.node c.requires.node c.args.table.now c.as_slice-a.result.now c.as_slice-b.result.now c.as_slice-s.result.now c.op-2.result c.a.result.now c.b.result.now c.s.result.now c.y-places.result.now (length c.y-places.result.now) c.op-2.ensures c.a.ensures c.b.ensures c.s.ensures c.y-places.ensures (c.as_slice-a.ensures.value ∙ c.in_ok-read_row.ensures) (c.as_slice-b.ensures.value ∙ c.in_ok-read_row-2.ensures) (c.as_slice-s.ensures.value ∙ c.in_ok-read_row-3.ensures) refl c.args.gates.now c.node_row.new.gates c.in_ok-row.row.items c.write_row.new.table c.node_row.ensures.builds.continues c.requires.table.within
    (subst (λ (ls : List LitOf). IsWritten c.y-places.result.now ls (length c.y-places.result.now) c.args.table.now c.write_row.new.table) c.as_slice.ensures.value c.write_row.ensures)
    c.in_ok-row.ensures.row (node_long c.args.model.now c.requires.model c.args.node c.requires.node c.args.table.now c.as_slice-a.result.now c.as_slice-b.result.now c.as_slice-s.result.now c.op-2.result c.a.result.now c.b.result.now c.s.result.now c.y-places.result.now (length c.y-places.result.now) c.op-2.ensures c.a.ensures c.b.ensures c.s.ensures c.y-places.ensures (c.as_slice-a.ensures.value ∙ c.in_ok-read_row.ensures) (c.as_slice-b.ensures.value ∙ c.in_ok-read_row-2.ensures) (c.as_slice-s.ensures.value ∙ c.in_ok-read_row-3.ensures) refl c.node_row.new.gates c.in_ok-row.row.items c.in_ok-row.ensures.row) n at

pub returns-clause-builds : goal.returns-clause-builds
returns-clause-builds c = λ n at. subst (Builds c.args.gates.now c.node_row.new.gates) (node_costs c.args.model.now c.requires.model c.args.node c.requires.node c.args.table.now c.as_slice-a.result.now c.as_slice-b.result.now c.as_slice-s.result.now c.op-2.result c.a.result.now c.b.result.now c.s.result.now c.y-places.result.now (length c.y-places.result.now) c.op-2.ensures c.a.ensures c.b.ensures c.s.ensures c.y-places.ensures (c.as_slice-a.ensures.value ∙ c.in_ok-read_row.ensures) (c.as_slice-b.ensures.value ∙ c.in_ok-read_row-2.ensures) (c.as_slice-s.ensures.value ∙ c.in_ok-read_row-3.ensures) refl n at) c.node_row.ensures.builds
