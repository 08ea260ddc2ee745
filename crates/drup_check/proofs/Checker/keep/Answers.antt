use Rattle.std.proofs.Common.{◌≡◌, ◌<◌, ◌+◌, ◌++◌, ◌∷◌, [], length, sym, subst, ap, ◌∙◌, arith, rules}
use Rattle.std.proofs.lemmas.List.{length_push}
use Rattle.std.proofs.lemmas.Result.{err_from_is_err_and}
use Rattle.unit_propagation.specs.Marks.{Shows}
use Rattle.unit_propagation.specs.Propagator.{PropagatorOf, clauses_of}
use Rattle.drup_check.specs.Copies.{CopiesOf}
use Rattle.drup_check.specs.Inside.{IsFree, IsFiled}
use Rattle.drup_check.specs.Checking.{CheckerOf}
use Rattle.drup_check.proofs.Weights.{free_back, free_same, places_back}
use Rattle.drup_check.proofs.Chains.{holds_push}
use Rattle.drup_check.proofs.Present.{checker_out_of_memory, checker_added, checker_of, clauses_out_of_memory, clauses_push}
use Rattle.drup_check.proofs.Checker.keep.Goals as goal

pub invariant_of-self : goal.invariant_of-self
invariant_of-self c =
    let i = c.self.invariant in
    let core = c.self.inside.core in
    let F = clauses_of core.slots in
    let r = c.reach_both.ensures in
    let marks = c.reach_both.new.marks in
    let others = c.reach_both.new.others in
    let m = i.1 in
    let o = i.2 in
    let free : IsFree F marks.items = free_same F c.self.inside.marks.items marks.items r.longer m (r.clear m.clear) in
    let others_free : IsFree F others.items = free_same F c.self.inside.others.items others.items r.others_longer o (r.others_clear o.clear) in
    (i.0, free, others_free, i.3)

pub weigh-weight-requires-clause-clear : goal.weigh-weight-requires-clause-clear
weigh-weight-requires-clause-clear c =
    let i = c.self.invariant in
    let core = c.self.inside.core in
    let F = clauses_of core.slots in
    let r = c.reach_both.ensures in
    let marks = c.reach_both.new.marks in
    let others = c.reach_both.new.others in
    let m = i.1 in
    let o = i.2 in
    let free : IsFree F marks.items = free_same F c.self.inside.marks.items marks.items r.longer m (r.clear m.clear) in
    let others_free : IsFree F others.items = free_same F c.self.inside.others.items others.items r.others_longer o (r.others_clear o.clear) in
    let same : marks.items ≡ c.deref_mut.result.now = search rules in
    subst (λ z. Shows z []) same free.clear

pub invariant_of-self-in_err-make_place : goal.invariant_of-self-in_err-make_place
invariant_of-self-in_err-make_place c =
    let i = c.self.invariant in
    let core = c.self.inside.core in
    let F = clauses_of core.slots in
    let r = c.reach_both.ensures in
    let marks = c.reach_both.new.marks in
    let others = c.reach_both.new.others in
    let m = i.1 in
    let o = i.2 in
    let free : IsFree F marks.items = free_same F c.self.inside.marks.items marks.items r.longer m (r.clear m.clear) in
    let others_free : IsFree F others.items = free_same F c.self.inside.others.items others.items r.others_longer o (r.others_clear o.clear) in
    let w = c.weigh-weight.ensures in
    let a : marks.len ≡ length marks.items = search rules in
    let b : length c.weigh-weight.new.marks ≡ length marks.items = search rules in
    let freed = free_back F marks.items c.weigh-weight.new.marks marks.len a b free w.clear in
    let p = c.in_err-make_place.ensures in
    (i.0, freed, others_free, subst (IsFiled core c.self.inside.salt) (sym p.err) i.3)

pub invariant_of-self-in_err-add_clause : goal.invariant_of-self-in_err-add_clause
invariant_of-self-in_err-add_clause c =
    let i = c.self.invariant in
    let core = c.self.inside.core in
    let F = clauses_of core.slots in
    let r = c.reach_both.ensures in
    let marks = c.reach_both.new.marks in
    let others = c.reach_both.new.others in
    let m = i.1 in
    let o = i.2 in
    let free : IsFree F marks.items = free_same F c.self.inside.marks.items marks.items r.longer m (r.clear m.clear) in
    let others_free : IsFree F others.items = free_same F c.self.inside.others.items others.items r.others_longer o (r.others_clear o.clear) in
    let w = c.weigh-weight.ensures in
    let a : marks.len ≡ length marks.items = search rules in
    let b : length c.weigh-weight.new.marks ≡ length marks.items = search rules in
    let freed = free_back F marks.items c.weigh-weight.new.marks marks.len a b free w.clear in
    let p = c.in_ok-make_place.ensures in
    let q = c.in_err-add_clause.ensures in
    let t = c.self.inside.copies in
    let t' = c.make_place.new.self in
    let place : length t'.nexts ≡ length t.nexts + 1 = ap (λ (z : CopiesOf). length z.nexts) p.ok ∙ length_push t.nexts 0 in
    checker_out_of_memory core c.add_clause.new.self c.self.inside.salt t t' _ _ q.err (holds_push t t' p.ok) (ap (λ (z : CopiesOf). z.count) p.ok) place i.0 freed others_free i.3

pub returns-in_err-add_clause-clause-err : goal.returns-in_err-add_clause-clause-err
returns-in_err-add_clause-clause-err c =
    let q = c.in_err-add_clause.ensures in
    let r = err_from_is_err_and c.from_residual-in_err-add_clause.result c.from_residual-in_err-add_clause.ensures.1 in
    let e = q.err in
    rw r.1 (checker_of _ _ _ _ c.self.inside.refuted c.self.inside.out_of_memory (ap (λ (z : PropagatorOf). z.vars) e.1) (clauses_out_of_memory c.self.inside.core c.add_clause.new.self e) ∙ c.self.view_is ∙ c.in_ok-make_room.ensures)

pub invariant_of-self-2 : goal.invariant_of-self-2
invariant_of-self-2 c =
    let i = c.self.invariant in
    let core = c.self.inside.core in
    let F = clauses_of core.slots in
    let r = c.reach_both.ensures in
    let marks = c.reach_both.new.marks in
    let others = c.reach_both.new.others in
    let m = i.1 in
    let o = i.2 in
    let free : IsFree F marks.items = free_same F c.self.inside.marks.items marks.items r.longer m (r.clear m.clear) in
    let others_free : IsFree F others.items = free_same F c.self.inside.others.items others.items r.others_longer o (r.others_clear o.clear) in
    let w = c.weigh-weight.ensures in
    let a : marks.len ≡ length marks.items = search rules in
    let b : length c.weigh-weight.new.marks ≡ length marks.items = search rules in
    let freed = free_back F marks.items c.weigh-weight.new.marks marks.len a b free w.clear in
    let p = c.in_ok-make_place.ensures in
    let q = c.in_ok-add_clause.ensures in
    let n = c.len-k.ensures in
    let e = c.enter.ensures in
    let t = c.self.inside.copies in
    let t' = c.make_place.new.self in
    let filed = i.3 in
    let rooms = c.in_ok-reach_both.ensures.places in
    let more : length t'.nexts ≡ length t.nexts + 1 = ap (λ (z : CopiesOf). length z.nexts) p.ok ∙ length_push t.nexts 0 in
    let place : c.len-k.result < length c.enter.new.self.nexts = omega (arith, e.places, more, filed.placed, n.count) in
    checker_added core c.add_clause.new.self c.args.clause.now c.self.inside.salt t c.enter.new.self _ _ c.weigh-weight.result c.len-k.result q.ok (λ h j s. e.keeps h j (holds_push t t' p.ok h j s)) n.count e.count place
    w.weighs e.holds i.0 (places_back marks.items c.weigh-weight.new.marks marks.len c.args.clause.now a b rooms.0) rooms.1 freed others_free filed

pub returns-clause-ok : goal.returns-clause-ok
returns-clause-ok c =
    let q = c.in_ok-add_clause.ensures in
    let k = q.ok in
    checker_of _ _ _ _ c.self.inside.refuted c.self.inside.out_of_memory k.vars (ap clauses_of k.slots ∙ clauses_push c.self.inside.core.slots c.args.clause.now)
    ∙ ap (λ (x : CheckerOf). let y : CheckerOf = record x { clauses = x.clauses ++ c.args.clause.now ∷ [] } in y) (c.self.view_is ∙ c.in_ok-make_room.ensures)
