use Rattle.std.proofs.Common.{◌≡◌, ◌∙◌, Bool, false, get_or, length, sym, ap, arith, take}
use Rattle.cnf_form.specs.Cnf.{lit_in}
use Rattle.cell_table.specs.Cells.{bitwise}
use Rattle.gate_rows.specs.Literals.{row_of}
use Rattle.gate_rows.specs.Sums.{op_bit, op_lits}
use Rattle.gate_rows.proofs.Building.{Builds-gate, Builds-trans, Builds-more, Built-push, Built-row, All-later, within_at, read, full_on, bitwise-at, length-bitwise, length-row}
use Rattle.gate_rows.proofs.bits.each.Goals as goal

pub one-requires-clause-op : goal.one-requires-clause-op
one-requires-clause-op c = All-later c.args.gates.now.formula.vars c.loop-i.gates.formula.vars (op_lits c.args.op.now) c.loop-i.invariant.builds.continues.vars c.requires.op

pub one-requires-clause-a : goal.one-requires-clause-a
one-requires-clause-a c = within_at c.args.gates.now.formula.vars c.loop-i.gates.formula.vars c.args.a.now c.loop-i.i c.index-a-i.result c.loop-i.invariant.builds.continues.vars c.requires.a c.loop-i-test.true c.index-a-i.is

pub one-requires-clause-b : goal.one-requires-clause-b
one-requires-clause-b c = within_at c.args.gates.now.formula.vars c.loop-i.gates.formula.vars c.args.b.now c.loop-i.i c.index-b-i.result c.loop-i.invariant.builds.continues.vars c.requires.b (let e = c.requires.as_many in let h = c.loop-i-test.true in omega arith) c.index-b-i.is

pub loop-i-preserved : goal.loop-i-preserved
loop-i-preserved c =
    let gate = c.in_ok-lit.ensures.gate in
    let h = c.loop-i-test.true in
    rw c.in_ok-push.ensures
    (Built-push c.args.gates.now c.loop-i.gates c.one.new.gates (λ x j. op_bit c.args.op.now x (get_or (row_of x c.args.a.now) j false) (get_or (row_of x c.args.b.now) j false))
    c.loop-i.i c.loop-i.word.items c.in_ok-lit.lit c.loop-i.invariant (Builds-gate c.loop-i.gates c.one.new.gates _ c.in_ok-lit.lit gate) gate.within
    (λ x s.
    gate.means x s
    ∙ ap (λ (b : Bool). op_bit c.args.op.now x b (lit_in x c.index-b-i.result)) (sym (read x c.args.a.now c.loop-i.i c.index-a-i.result h c.index-a-i.is))
    ∙ ap (op_bit c.args.op.now x (get_or (row_of x c.args.a.now) c.loop-i.i false)) (sym (read x c.args.b.now c.loop-i.i c.index-b-i.result (let e = c.requires.as_many in omega arith) c.index-b-i.is))))

pub returns-in_err-lit-clause-builds : goal.returns-in_err-lit-clause-builds
returns-in_err-lit-clause-builds c = let h = c.loop-i-test.true in Builds-trans c.args.gates.now c.loop-i.gates c.one.new.gates c.loop-i.i 1 _ c.loop-i.invariant.builds c.one.ensures.builds (omega arith)

pub returns-in_err-push-clause-builds : goal.returns-in_err-push-clause-builds
returns-in_err-push-clause-builds c = let h = c.loop-i-test.true in Builds-trans c.args.gates.now c.loop-i.gates c.one.new.gates c.loop-i.i 1 _ c.loop-i.invariant.builds c.one.ensures.builds (omega arith)

pub returns-clause-row : goal.returns-clause-row
returns-clause-row c =
    let e : c.loop-i.i ≡ length c.args.a.now = omega arith in
    Built-row c.args.gates.now c.loop-i.gates (λ x j. op_bit c.args.op.now x (get_or (row_of x c.args.a.now) j false) (get_or (row_of x c.args.b.now) j false)) (length c.args.a.now) c.loop-i.word.items
    (λ x. bitwise (op_bit c.args.op.now x) (row_of x c.args.a.now) (row_of x c.args.b.now)) (rw e at c.loop-i.invariant)
    (λ x. length-bitwise (op_bit c.args.op.now x) (row_of x c.args.a.now) (row_of x c.args.b.now) (length-row x c.args.a.now ∙ c.requires.as_many ∙ sym (length-row x c.args.b.now)) ∙ length-row x c.args.a.now)
    (λ x j h. let na = length-row x c.args.a.now in let nb = length-row x c.args.b.now in let r = c.requires.as_many in
    sym (bitwise-at (op_bit c.args.op.now x) (row_of x c.args.a.now) (row_of x c.args.b.now) j (omega arith) (omega arith)))
