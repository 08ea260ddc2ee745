use Rattle.std.proofs.Common.{sym}
use Rattle.gate_words.proofs.Moving.{stage_means, moved_many}
use Rattle.gate_words.proofs.shifts.stage.Goals as goal

pub mux-requires-clause-width : goal.mux-requires-clause-width
mux-requires-clause-width c = rw c.deref.ensures.value (sym (moved_many c.args.gates.now c.args.way.now c.args.a.now c.in_ok-other.other.items (λ _. c.args.places) c.in_ok-other.ensures))

pub returns-clause-row : goal.returns-clause-row
returns-clause-row c =
    let row = rw c.deref.ensures.value at c.in_ok-word.ensures.row in
    stage_means c.args.gates.now c.mux.new.gates c.args.way.now c.args.a.now c.in_ok-other.other.items c.in_ok-word.word.items c.args.places c.args.bit c.mux.ensures.builds.continues c.in_ok-other.ensures row
