use Rattle.design_reader.proofs.StartLemmas.{new_wire_is}
use Rattle.design_reader.proofs.draft.add_wire.Goals as goal

pub push_wire-requires-clause-wire : goal.push_wire-requires-clause-wire
push_wire-requires-clause-wire c = rw c.in_ok-wire.ensures (new_wire_is c.args.name.now c.args.attributes.now c.args.options c.requires.room.0)
