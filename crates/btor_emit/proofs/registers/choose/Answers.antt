use Rattle.btor_words.proofs.Emitting.{sized, still}
use Rattle.btor_emit.proofs.Choosing.{chosen_high, chosen_low}
use Rattle.btor_emit.proofs.registers.choose.Goals as goal

pub mux-requires-clause-a : goal.mux-requires-clause-a
mux-requires-clause-a c = still c.in_ok-bit.ensures.row.turns.adds c.requires.other

pub mux-requires-clause-b : goal.mux-requires-clause-b
mux-requires-clause-b c = still c.in_ok-bit.ensures.row.turns.adds c.requires.then

pub mux-requires-2-clause-a : goal.mux-requires-2-clause-a
mux-requires-2-clause-a c = still c.in_ok-bit.ensures.row.turns.adds c.requires.then

pub mux-requires-2-clause-b : goal.mux-requires-2-clause-b
mux-requires-2-clause-b c = still c.in_ok-bit.ensures.row.turns.adds c.requires.other

pub returns-then-control : goal.returns-then-control
returns-then-control c =
    chosen_high c.args.draft.now c.gather.new.draft c.mux.new.draft c.args.table.now c.gather.new.table c.in_ok-bit.bit c.args.then c.args.other c.in_ok-word.word c.args.control c.args.then.width c.in_ok-bit.ensures.row c.if-control.true (sized c.in_ok-word.ensures.row c.requires.widths)

pub returns : goal.returns
returns c = chosen_low c.args.draft.now c.gather.new.draft c.mux-2.new.draft c.args.table.now c.gather.new.table c.in_ok-bit.bit c.args.then c.args.other c.in_ok-word-2.word c.args.control c.args.then.width c.in_ok-bit.ensures.row c.if-control.false c.in_ok-word-2.ensures.row
