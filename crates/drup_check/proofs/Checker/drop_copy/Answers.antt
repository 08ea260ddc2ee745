use Rattle.std.proofs.Common.{◌≡◌, true, false, length, refl, sym, ap, ◌∙◌, subst, inl, inr, rules}
use Rattle.cnf_form.specs.Cnf.{Conflict, IsReason, Deletes}
use Rattle.unit_propagation.specs.Propagator.{PropagatorOf, clauses_of}
use Rattle.std.proofs.lemmas.Bool.{both_ways}
use Rattle.drup_check.specs.Checking.{CheckerOf}
use Rattle.drup_check.proofs.Weights.{freed_back, free_less}
use Rattle.drup_check.proofs.Decisions.{conflict_from, no_conflict}
use Rattle.drup_check.proofs.Present.{root_without, filed_without, less_without, deletes_without}
use Rattle.drup_check.proofs.Checker.drop_copy.Goals as goal

pub returns-then-conflict-clause-deleted : goal.returns-then-conflict-clause-deleted
returns-then-conflict-clause-deleted c =
    let i = c.self.invariant in
    let r = i.0 in
    let p = c.self.inside.core in
    let f = c.conflict.ensures in
    let e : p.conflict ≡ true = sym f.conflict ∙ c.if-conflict.true in
    subst (λ (k : CheckerOf). Deletes k.clauses c.args.clause.now k.clauses) c.self.view_is (inr (refl, inr (inl (conflict_from (clauses_of p.slots) p.trail r.derived (r.falsified e)))))

pub returns-in_default-clause-deleted : goal.returns-in_default-clause-deleted
returns-in_default-clause-deleted c =
    let i = c.self.invariant in
    let p = c.self.inside.core in
    let n = c.in_default.ensures in
    subst (λ (k : CheckerOf). Deletes k.clauses c.args.clause.now (clauses_of p.slots)) c.self.view_is (inr (refl, inl (n.none i.3)))

pub returns-then-is_reason-clause-deleted : goal.returns-then-is_reason-clause-deleted
returns-then-is_reason-clause-deleted c =
    subst (λ (k : CheckerOf). Deletes k.clauses c.args.clause.now k.clauses) c.self.view_is (inr (refl, inr (inr (c.is_reason.ensures.0 c.if-is_reason.true))))

pub invariant_of-self-2 : goal.invariant_of-self-2
invariant_of-self-2 c =
    let i = c.self.invariant in
    let p = c.self.inside.core in
    let f = c.conflict.ensures in
    let e : p.conflict ≡ false = sym f.conflict ∙ c.if-conflict.false in
    let kept : IsReason (clauses_of p.slots) c.args.clause.now → ⊥ = λ w. both_ways _ c.if-is_reason.false (c.is_reason.ensures.1 w) in
    let s = c.in-Some.ensures in
    let found = s.found in
    let d = found.1 in
    let marks = c.self.inside.marks in
    let others = c.self.inside.others in
    let a : marks.len ≡ length marks.items = search rules in
    let b : length c.find_clause.new.marks ≡ length marks.items = search rules in
    let a' : others.len ≡ length others.items = search rules in
    let b' : length c.find_clause.new.others ≡ length others.items = search rules in
    let less = less_without p c.in-Some.found c.args.clause.now d.0 d.1 d.2 in
    rw c.remove_clause.ensures (
      root_without p c.in-Some.found c.args.clause.now d.0 d.1 d.2 i.0 e kept,
      freed_back _ marks.items c.find_clause.new.marks marks.len a b (free_less (clauses_of p.slots) _ _ less s.free),
      freed_back _ others.items c.find_clause.new.others others.len a' b' (free_less (clauses_of p.slots) _ _ less s.others_free),
      filed_without p c.in-Some.found c.args.clause.now d.0 d.1 d.2 c.self.inside.salt _ (s.filed i.3),
    )

pub returns-clause-deleted : goal.returns-clause-deleted
returns-clause-deleted c =
    let i = c.self.invariant in
    let p = c.self.inside.core in
    let f = c.conflict.ensures in
    let e : p.conflict ≡ false = sym f.conflict ∙ c.if-conflict.false in
    let kept : IsReason (clauses_of p.slots) c.args.clause.now → ⊥ = λ w. both_ways _ c.if-is_reason.false (c.is_reason.ensures.1 w) in
    let calm : Conflict (clauses_of p.slots) → ⊥ = no_conflict (clauses_of p.slots) p.trail (f.fixpoint e) in
    let s = c.in-Some.ensures in
    let found = s.found in
    let d = found.1 in
    let slots = ap (λ (q : PropagatorOf). clauses_of q.slots) c.remove_clause.ensures in
    subst (λ (k : CheckerOf). Deletes k.clauses c.args.clause.now (clauses_of c.remove_clause.new.self.slots)) c.self.view_is
    (subst (Deletes (clauses_of p.slots) c.args.clause.now) (sym slots) (deletes_without p c.in-Some.found c.args.clause.now d.0 d.1 d.2 i.0 e calm kept))
