use Rattle.std.proofs.Common.{◌≡◌, length, sym, ap, subst, ◌∙◌, arith, rules}
use Rattle.unit_propagation.specs.Propagator.{PropagatorOf, clauses_of}
use Rattle.unit_propagation.proofs.Filing.{from_ok}
use Rattle.drup_check.specs.Inside.{IsFree}
use Rattle.drup_check.proofs.Weights.{freed_back}
use Rattle.drup_check.proofs.Present.{clauses_collected, fewer_collected, root_collected, checker_of}
use Rattle.drup_check.proofs.Checker.collect.Goals as goal

pub clear-requires : goal.clear-requires
clear-requires c =
    let e = from_ok c.collect.result _ c.if-is_err.ensures.value c.collect.ensures.ok in
    let i = c.self.invariant in
    let filed = i.3 in
    omega (arith, fewer_collected c.self.inside.core c.collect.new.self e, c.len.ensures.count, filed.placed)

pub file_present-requires-clause-free : goal.file_present-requires-clause-free
file_present-requires-clause-free c =
    let p = c.self.inside.core in
    let q = c.collect.new.self in
    let e = from_ok c.collect.result _ c.if-is_err.ensures.value c.collect.ensures.ok in
    let i = c.self.invariant in
    let same : c.self.inside.marks.items ≡ c.deref_mut.result.now = search rules in
    subst (IsFree (clauses_of q.slots)) same (subst (λ F. IsFree F c.self.inside.marks.items) (sym (clauses_collected p q e)) i.1)

pub invariant_of-self-2 : goal.invariant_of-self-2
invariant_of-self-2 c =
    let p = c.self.inside.core in
    let q = c.collect.new.self in
    let e = from_ok c.collect.result _ c.if-is_err.ensures.value c.collect.ensures.ok in
    let i = c.self.invariant in
    let s = c.file_present.ensures in
    let marks = c.self.inside.marks in
    let a : marks.len ≡ length marks.items = search rules in
    let b : length c.file_present.new.marks ≡ length marks.items = search rules in (
      root_collected p q e i.0,
      freed_back (clauses_of q.slots) marks.items c.file_present.new.marks marks.len a b s.free,
      subst (λ F. IsFree F c.self.inside.others.items) (sym (clauses_collected p q e)) i.2,
      s.filed,
    )

pub returns : goal.returns
returns c =
    let p = c.self.inside.core in
    let q = c.collect.new.self in
    let k = c.self.inside in
    let e = from_ok c.collect.result _ c.if-is_err.ensures.value c.collect.ensures.ok in
    checker_of q.vars p.vars _ _ k.refuted k.out_of_memory (ap (λ (z : PropagatorOf). z.vars) e) (clauses_collected p q e) ∙ c.self.view_is
