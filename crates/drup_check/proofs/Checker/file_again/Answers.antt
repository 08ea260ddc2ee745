use Rattle.std.proofs.Common.{◌≡◌, length, subst, arith, rules}
use Rattle.unit_propagation.specs.Propagator.{clauses_of}
use Rattle.drup_check.specs.Inside.{IsFree}
use Rattle.drup_check.proofs.Weights.{freed_back}
use Rattle.drup_check.proofs.Checker.file_again.Goals as goal

pub clear-requires : goal.clear-requires
clear-requires c =
    let i = c.self.invariant in
    let filed = i.3 in
    omega (arith, c.len.ensures.count, filed.placed)

pub file_present-requires-clause-free : goal.file_present-requires-clause-free
file_present-requires-clause-free c =
    let i = c.self.invariant in
    let same : c.self.inside.marks.items ≡ c.deref_mut.result.now = search rules in
    subst (IsFree (clauses_of c.self.inside.core.slots)) same i.1

pub invariant_of-self : goal.invariant_of-self
invariant_of-self c =
    let i = c.self.invariant in
    let s = c.file_present.ensures in
    let marks = c.self.inside.marks in
    let a : marks.len ≡ length marks.items = search rules in
    let b : length c.file_present.new.marks ≡ length marks.items = search rules in
    (i.0, freed_back (clauses_of c.self.inside.core.slots) marks.items c.file_present.new.marks marks.len a b s.free, i.2, s.filed)
