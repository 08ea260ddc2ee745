use Rattle.std.proofs.Common.{length, sym, ap, ◌∙◌, arith}
use Rattle.unit_propagation.specs.Watch.{end_of, slot_of}
use Rattle.unit_propagation.proofs.Stores.{slot_at-read}
use Rattle.unit_propagation.proofs.store.ClauseStore.head.Goals as goal

pub returns-clause-within : goal.returns-clause-within
returns-clause-within c = let s = c.args.self.now in omega (arith, s.fit.within c.args.k, s.counted)

pub returns-clause-slot : goal.returns-clause-slot
returns-clause-slot c =
    let s = c.args.self.now in
    let lits = s.lits.items in
    let heads = s.heads.items in
    slot_at-read lits heads c.args.k c.index.result.now c.requires ∙ ap (slot_of lits (end_of (length lits) heads c.args.k)) (sym c.index.ensures)
