use Rattle.std.proofs.Common.{◌≡◌}
use Rattle.std.specs.Prelude.{slice_get, Some, IfOk, Result, Ok, Err, cond}
use Rattle.cnf_form.specs.Cnf.{lit_in}
use Rattle.gate_rows.specs.Literals.{MeansRow, row_of}
use Rattle.model_core.specs.Shape.{RegisterOf}
use Rattle.model_core.specs.Meaning.{next_row}
use Rattle.frame_gates.specs.Frames.{cycle_of}
use Rattle.frame_gates.proofs.Noding.{d_long, d_read, enable_below, q_read, read_within, register_first, register_second, reset_below, value_long, value_read}
use Rattle.frame_gates.proofs.registers.next_of.Goals as goal

-- what follows from what a call answers
if_ok : {A E : Type 0} (P Q : A → Type 0) (r : Result A E) → IfOk r P → ((a : A) → P a → Q a) → IfOk r Q
if_ok P Q (Ok a) p f = f a p
if_ok P Q (Err e) p f = tt

pub read_row-requires : goal.read_row-requires
read_row-requires c = q_read c.args.model.now c.requires.model c.args.register c.requires.register c.args.table.now c.requires.table.size c.q.result.now c.q.ensures

pub read_row-requires-2 : goal.read_row-requires-2
read_row-requires-2 c = d_read c.args.model.now c.requires.model c.args.register c.requires.register c.args.table.now c.requires.table.size c.d.result.now c.d.ensures

pub read_row-requires-3 : goal.read_row-requires-3
read_row-requires-3 c = value_read c.args.model.now c.requires.model c.args.register c.requires.register c.args.table.now c.requires.table.size c.value.result.now c.value.ensures

pub active-enable-requires : goal.active-enable-requires
active-enable-requires c = enable_below c.args.model.now c.requires.model c.args.register c.requires.register c.args.table.now c.requires.table.size c.enable.result c.enable.ensures

pub active-reset-requires : goal.active-reset-requires
active-reset-requires c = reset_below c.args.model.now c.requires.model c.args.register c.requires.register c.args.table.now c.requires.table.size c.reset.result c.reset.ensures

pub reset_first-requires-then-reset_first-clause-a : goal.reset_first-requires-then-reset_first-clause-a
reset_first-requires-then-reset_first-clause-a c = read_within c.args.gates.now.formula.vars c.args.table.now c.read_row.new.row.items c.q.result.now (q_read c.args.model.now c.requires.model c.args.register c.requires.register c.args.table.now c.requires.table.size c.q.result.now c.q.ensures) c.requires.table.within c.in_ok-read_row.ensures

pub reset_first-requires-then-reset_first-clause-b : goal.reset_first-requires-then-reset_first-clause-b
reset_first-requires-then-reset_first-clause-b c = read_within c.args.gates.now.formula.vars c.args.table.now c.read_row-2.new.row.items c.d.result.now (d_read c.args.model.now c.requires.model c.args.register c.requires.register c.args.table.now c.requires.table.size c.d.result.now c.d.ensures) c.requires.table.within c.in_ok-read_row-2.ensures

pub reset_first-requires-then-reset_first-clause-s : goal.reset_first-requires-then-reset_first-clause-s
reset_first-requires-then-reset_first-clause-s c = read_within c.args.gates.now.formula.vars c.args.table.now c.read_row-3.new.row.items c.value.result.now (value_read c.args.model.now c.requires.model c.args.register c.requires.register c.args.table.now c.requires.table.size c.value.result.now c.value.ensures) c.requires.table.within c.in_ok-read_row-3.ensures

pub reset_first-requires-then-reset_first-clause-b_width : goal.reset_first-requires-then-reset_first-clause-b_width
reset_first-requires-then-reset_first-clause-b_width c = d_long c.args.model.now c.requires.model c.args.register c.requires.register c.args.table.now c.requires.table.size c.q.result.now c.d.result.now c.value.result.now c.read_row.new.row.items c.read_row-2.new.row.items c.read_row-3.new.row.items c.q.ensures c.d.ensures c.value.ensures c.in_ok-read_row.ensures c.in_ok-read_row-2.ensures c.in_ok-read_row-3.ensures

pub reset_first-requires-then-reset_first-clause-s_width : goal.reset_first-requires-then-reset_first-clause-s_width
reset_first-requires-then-reset_first-clause-s_width c = value_long c.args.model.now c.requires.model c.args.register c.requires.register c.args.table.now c.requires.table.size c.q.result.now c.d.result.now c.value.result.now c.read_row.new.row.items c.read_row-2.new.row.items c.read_row-3.new.row.items c.q.ensures c.d.ensures c.value.ensures c.in_ok-read_row.ensures c.in_ok-read_row-2.ensures c.in_ok-read_row-3.ensures

pub enable_first-requires-clause-a : goal.enable_first-requires-clause-a
enable_first-requires-clause-a c = read_within c.args.gates.now.formula.vars c.args.table.now c.read_row.new.row.items c.q.result.now (q_read c.args.model.now c.requires.model c.args.register c.requires.register c.args.table.now c.requires.table.size c.q.result.now c.q.ensures) c.requires.table.within c.in_ok-read_row.ensures

pub enable_first-requires-clause-b : goal.enable_first-requires-clause-b
enable_first-requires-clause-b c = read_within c.args.gates.now.formula.vars c.args.table.now c.read_row-2.new.row.items c.d.result.now (d_read c.args.model.now c.requires.model c.args.register c.requires.register c.args.table.now c.requires.table.size c.d.result.now c.d.ensures) c.requires.table.within c.in_ok-read_row-2.ensures

pub enable_first-requires-clause-s : goal.enable_first-requires-clause-s
enable_first-requires-clause-s c = read_within c.args.gates.now.formula.vars c.args.table.now c.read_row-3.new.row.items c.value.result.now (value_read c.args.model.now c.requires.model c.args.register c.requires.register c.args.table.now c.requires.table.size c.value.result.now c.value.ensures) c.requires.table.within c.in_ok-read_row-3.ensures

pub enable_first-requires-clause-b_width : goal.enable_first-requires-clause-b_width
enable_first-requires-clause-b_width c = d_long c.args.model.now c.requires.model c.args.register c.requires.register c.args.table.now c.requires.table.size c.q.result.now c.d.result.now c.value.result.now c.read_row.new.row.items c.read_row-2.new.row.items c.read_row-3.new.row.items c.q.ensures c.d.ensures c.value.ensures c.in_ok-read_row.ensures c.in_ok-read_row-2.ensures c.in_ok-read_row-3.ensures

pub enable_first-requires-clause-s_width : goal.enable_first-requires-clause-s_width
enable_first-requires-clause-s_width c = value_long c.args.model.now c.requires.model c.args.register c.requires.register c.args.table.now c.requires.table.size c.q.result.now c.d.result.now c.value.result.now c.read_row.new.row.items c.read_row-2.new.row.items c.read_row-3.new.row.items c.q.ensures c.d.ensures c.value.ensures c.in_ok-read_row.ensures c.in_ok-read_row-2.ensures c.in_ok-read_row-3.ensures

pub returns-then-reset_first-clause-row : goal.returns-then-reset_first-clause-row
returns-then-reset_first-clause-row c = if_ok (λ w. MeansRow c.reset_first-then-reset_first.new.gates (λ x. cond (lit_in x c.active-reset.result) (row_of x c.read_row-3.new.row.items) (cond (lit_in x c.active-enable.result) (row_of x c.read_row-2.new.row.items) (row_of x c.read_row.new.row.items))) w.items) (λ w. (r : RegisterOf) → slice_get c.args.model.now.registers c.args.register ≡ Some r → MeansRow c.reset_first-then-reset_first.new.gates (λ x. next_row (cycle_of c.args.table.now x) r) w.items) c.reset_first-then-reset_first.result c.reset_first-then-reset_first.ensures.row (λ w p r at. register_first c.args.model.now c.requires.model c.args.register c.requires.register c.args.table.now c.requires.table.size c.q.result.now c.d.result.now c.value.result.now c.read_row.new.row.items c.read_row-2.new.row.items c.read_row-3.new.row.items c.q.ensures c.d.ensures c.value.ensures c.in_ok-read_row.ensures c.in_ok-read_row-2.ensures c.in_ok-read_row-3.ensures c.reset_first-then-reset_first.new.gates w.items c.enable.result c.reset.result c.active-enable.result c.active-reset.result c.reset_first.result c.enable.ensures c.reset.ensures c.reset_first.ensures c.active-enable.ensures.means c.active-reset.ensures.means c.if-reset_first.true p r at)

pub returns-else-reset_first-clause-row : goal.returns-else-reset_first-clause-row
returns-else-reset_first-clause-row c = if_ok (λ w. MeansRow c.enable_first.new.gates (λ x. cond (lit_in x c.active-enable.result) (cond (lit_in x c.active-reset.result) (row_of x c.read_row-3.new.row.items) (row_of x c.read_row-2.new.row.items)) (row_of x c.read_row.new.row.items)) w.items) (λ w. (r : RegisterOf) → slice_get c.args.model.now.registers c.args.register ≡ Some r → MeansRow c.enable_first.new.gates (λ x. next_row (cycle_of c.args.table.now x) r) w.items) c.enable_first.result c.enable_first.ensures.row (λ w p r at. register_second c.args.model.now c.requires.model c.args.register c.requires.register c.args.table.now c.requires.table.size c.q.result.now c.d.result.now c.value.result.now c.read_row.new.row.items c.read_row-2.new.row.items c.read_row-3.new.row.items c.q.ensures c.d.ensures c.value.ensures c.in_ok-read_row.ensures c.in_ok-read_row-2.ensures c.in_ok-read_row-3.ensures c.enable_first.new.gates w.items c.enable.result c.reset.result c.active-enable.result c.active-reset.result c.reset_first.result c.enable.ensures c.reset.ensures c.reset_first.ensures c.active-enable.ensures.means c.active-reset.ensures.means c.if-reset_first.false p r at)
