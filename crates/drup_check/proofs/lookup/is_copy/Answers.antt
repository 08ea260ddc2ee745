use Rattle.std.proofs.Common.{◌≡◌, length, arith, rules}
use Rattle.unit_propagation.specs.Propagator.{clauses_of}
use Rattle.unit_propagation.proofs.Slots.{clauses_of-contains}
use Rattle.drup_check.proofs.Weights.{free_same}
use Rattle.drup_check.proofs.lookup.is_copy.Goals as goal

pub is_same-requires-clause-places : goal.is_same-requires-clause-places
is_same-requires-clause-places c =
    let free = c.requires.free in
    free.places c.in-Some.d.now (clauses_of-contains c.args.core.now.slots c.args.k c.in-Some.d.now c.in-Some.ensures.there)

pub returns-in-Some-clause-free : goal.returns-in-Some-clause-free
returns-in-Some-clause-free c =
    let size : length c.is_same.new.b_marks ≡ length c.args.other.now = search rules in
    free_same (clauses_of c.args.core.now.slots) c.args.other.now c.is_same.new.b_marks (omega (arith, size)) c.requires.free c.is_same.ensures.clear
