use Rattle.std.proofs.Common.{length, arith}
use Rattle.std.proofs.lemmas.List.{length-set}
use Rattle.unit_propagation.proofs.Stores.{heads_set, slots_of-same}
use Rattle.unit_propagation.proofs.store.ClauseStore.watch.Goals as goal

pub invariant_of-self-clause-few : goal.invariant_of-self-clause-few
invariant_of-self-clause-few c = let s = c.args.self.now in omega (arith, length-set s.heads.items c.args.k c.args.head, s.few)

pub invariant_of-self-clause-fit : goal.invariant_of-self-clause-fit
invariant_of-self-clause-fit c =
    let s = c.args.self.now in
    heads_set s.vars (length s.lits.items) s.heads.items c.args.k c.args.head c.requires.place c.requires.start c.requires.fits s.fit

pub returns-clause-slots : goal.returns-clause-slots
returns-clause-slots c = slots_of-same c.args.self.now.lits.items c.args.self.now.heads.items c.args.k c.args.head c.requires.place c.requires.start c.requires.same
