use Rattle.std.proofs.Common.{List, subst, sym}
use Rattle.cnf_form.specs.Cnf.{LitOf}
use Rattle.frame_gates.specs.Frames.{IsTable}
use Rattle.frame_gates.proofs.Filling.{statements_below}
use Rattle.frame_gates.proofs.Saying.{tells_broken}
use Rattle.frame_gates.proofs.frames.Frames.broken.Goals as goal

pub all_hold-requires-clause-table : goal.all_hold-requires-clause-table
all_hold-requires-clause-table c =
    let t = subst (λ (ls : List LitOf). IsTable c.args.model.now c.args.gates.now ls) (sym c.self.view_is) c.requires.table in
    rw c.as_slice-lits.ensures.value t.within

pub all_hold-requires-clause-statements : goal.all_hold-requires-clause-statements
all_hold-requires-clause-statements c =
    let t = subst (λ (ls : List LitOf). IsTable c.args.model.now c.args.gates.now ls) (sym c.self.view_is) c.requires.table in
    rw c.as_slice-lits.ensures.value
    (statements_below c.args.model.now.size c.self.inside.table.items c.asserts-statements.result.now c.args.model.now.asserts c.asserts-statements.ensures t.size c.size.ensures.model.asserts)

pub returns-clause-broken : goal.returns-clause-broken
returns-clause-broken c =
    let bit = rw (c.as_slice-lits.ensures.value, c.self.view_is, c.asserts-statements.ensures) at c.in_ok-all.ensures.bit in
    tells_broken c.args.model.now c.all_hold.new.gates c.args.self.now c.in_ok-all.all c.negate.result c.negate.ensures bit

pub returns-clause-builds : goal.returns-clause-builds
returns-clause-builds c = let b = rw c.asserts-statements.ensures at c.all_hold.ensures.builds in b

pub returns-in_err-all-clause-builds : goal.returns-in_err-all-clause-builds
returns-in_err-all-clause-builds c = let b = rw c.asserts-statements.ensures at c.all_hold.ensures.builds in b
