use Rattle.std.proofs.Common.{List, subst, sym}
use Rattle.cnf_form.specs.Cnf.{LitOf}
use Rattle.frame_gates.specs.Frames.{IsTable}
use Rattle.frame_gates.proofs.frames.Frames.next_states.Goals as goal

pub next_states-requires-clause-table : goal.next_states-requires-clause-table
next_states-requires-clause-table c =
    let t = subst (λ (ls : List LitOf). IsTable c.args.model.now c.args.gates.now ls) (sym c.self.view_is) c.requires.table in
    rw c.as_slice-held.ensures.value t
