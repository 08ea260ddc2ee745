use Rattle.std.proofs.Common.{◌∙◌, sym}
use Rattle.gate_words.proofs.Modulo.{turned_many}
use Rattle.gate_words.proofs.Quotients.{Step-made}
use Rattle.gate_words.proofs.division.subtracted.Goals as goal

pub add-requires-clause-as_many : goal.add-requires-clause-as_many
add-requires-clause-as_many c = rw c.deref.ensures.value (c.requires.as_many ∙ sym (turned_many c.args.gates.now c.args.low.now c.in_ok-turned.turned.items c.in_ok-turned.ensures))

pub returns-clause-step : goal.returns-clause-step
returns-clause-step c =
    let sum = rw c.deref.ensures.value at c.in_ok-row.ensures.sum in
    let rest = rw c.deref-2.ensures.value at c.in_ok-rest.ensures.row in
    Step-made c.args.gates.now c.add.new.gates c.both.new.gates c.mux.new.gates c.args.top.now c.args.low.now c.in_ok-turned.turned.items c.in_ok-row.row.items c.in_ok-rest.rest.items c.constant-one.result c.in_ok-row.carry c.args.zero c.in_ok-bit.bit
    c.requires.as_many c.in_ok-turned.ensures c.constant-one.ensures.means sum c.both.ensures.builds c.in_ok-bit.ensures.bit c.mux.ensures.builds rest
