use Rattle.std.proofs.Common.{◌∙◌, sym}
use Rattle.gate_words.proofs.Modulo.{difference_means, turned_many}
use Rattle.gate_words.proofs.bitwise.difference.Goals as goal

pub add-requires-clause-as_many : goal.add-requires-clause-as_many
add-requires-clause-as_many c = rw c.deref.ensures.value (c.requires.as_many ∙ sym (turned_many c.args.gates.now c.args.b.now c.in_ok-turned.turned.items c.in_ok-turned.ensures))

pub returns-clause-row : goal.returns-clause-row
returns-clause-row c =
    let sum = rw c.deref.ensures.value at c.in_ok-row.ensures.sum in
    difference_means c.args.gates.now c.add.new.gates c.args.a.now c.args.b.now c.in_ok-turned.turned.items c.in_ok-row.row.items c.constant-one.result _ c.requires.as_many c.constant-one.ensures.means c.in_ok-turned.ensures sum
