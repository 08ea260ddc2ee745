use Rattle.std.proofs.Common.{◌≡◌, true, ◌∷◌, [], length, sym, ◌∙◌, ap, subst, arith, length-append}
use Rattle.std.specs.Prelude.{List, Some}
use Rattle.cnf_form.specs.Cnf.{LitOf}
use Rattle.lrat_check.specs.Marks.{is_marked}
use Rattle.unit_propagation.specs.Propagation.{IsSettled}
use Rattle.hint_chain.specs.Standing.{Stands}
use Rattle.hint_chain.specs.declared.marks.Standing.TheVariants.{Negated, OneLeft, MoreLeft}
use Rattle.hint_chain.proofs.Chaining.{IsIdOf, watched_id, goes_both, goes_joins, ends_conflict, stands_as, settled_more, settled_one}
use Rattle.hint_chain.proofs.chain.follow.Goals as goal

same : (c d : List LitOf) → Some c ≡ Some d → c ≡ d
same c d e = cc

pub returns-in_ok-push_hint-in-Negated-clause-ends : goal.returns-in_ok-push_hint-in-Negated-clause-ends
returns-in_ok-push_hint-in-Negated-clause-ends c _ start r =
    let slots = c.args.core.now.slots in
    let ids = c.args.ids.now in
    let cl = c.in-Some.clause.now in
    let s = c.in_ok-standing.ensures in
    let g = s.goes slots in
    let marks = c.standing.new.marked.marks.items in
    let t = c.standing.new.marked.trail.items in
    let stands = subst (Stands (λ l. is_marked marks l ≡ true) cl) c.in-Negated.is s.stands in
    ends_conflict slots ids start c.standing.new.hints.items c.push_hint.new.hints.items t c.watched.result cl
    (subst (λ z. IsIdOf slots ids z cl) (sym c.watched.ensures) (watched_id slots ids c.args.k cl c.in-Some.ensures.there))
    (stands_as marks t cl Negated s.marked stands) c.in_ok-push_hint-in-Negated.ensures.ok (g.reaches start r)

pub returns-in_ok-push-in-OneLeft-clause-goes : goal.returns-in_ok-push-in-OneLeft-clause-goes
returns-in_ok-push-in-OneLeft-clause-goes c _ =
    let slots = c.args.core.now.slots in
    let ids = c.args.ids.now in
    let cl = c.in-Some.clause.now in
    let s = c.in_ok-standing.ensures in
    let marks = c.standing.new.marked.marks.items in
    let t = c.standing.new.marked.trail.items in
    let l = c.in-OneLeft.l in
    let stands = subst (Stands (λ l. is_marked marks l ≡ true) cl) c.in-OneLeft.is s.stands in
    goes_both slots ids c.args.hints.now.items c.standing.new.hints.items c.push_hint-then-not-has.new.hints.items c.args.marked.now.trail.items t c.push.new.self.trail.items (s.goes slots)
    (goes_joins slots ids c.standing.new.hints.items c.push_hint-then-not-has.new.hints.items t c.push.new.self.trail.items c.watched-then-not-has.result cl l
    (subst (λ z. IsIdOf slots ids z cl) (sym c.watched-then-not-has.ensures) (watched_id slots ids c.args.k cl c.in-Some.ensures.there))
    (stands_as marks t cl (OneLeft l) s.marked stands) c.in_ok-push_hint-in-OneLeft.ensures.ok c.in_ok-push-in-OneLeft.ensures.trail)

pub returns-in_ok-push-in-OneLeft-clause-settled : goal.returns-in_ok-push-in-OneLeft-clause-settled
returns-in_ok-push-in-OneLeft-clause-settled c _ e d at =
    let s = c.in_ok-standing.ensures in
    let g = s.goes c.args.core.now.slots in
    let t = c.standing.new.marked.trail.items in
    let l = c.in-OneLeft.l in
    absurd (let h = g.longer in omega (arith, h, e, ap length c.in_ok-push-in-OneLeft.ensures.trail, length-append t (l ∷ [])))

pub returns-else-not-has-clause-goes : goal.returns-else-not-has-clause-goes
returns-else-not-has-clause-goes c _ = let s = c.in_ok-standing.ensures in s.goes c.args.core.now.slots

pub returns-else-not-has-clause-settled : goal.returns-else-not-has-clause-settled
returns-else-not-has-clause-settled c _ e d at =
    let cl = c.in-Some.clause.now in
    let s = c.in_ok-standing.ensures in
    let marks = c.standing.new.marked.marks.items in
    let t = c.standing.new.marked.trail.items in
    let l = c.in-OneLeft.l in
    let m = s.marked in
    let stands = subst (Stands (λ l. is_marked marks l ≡ true) cl) c.in-OneLeft.is s.stands in
    let f = c.in-Some.ensures in
    subst (IsSettled t) (same cl d (sym f.there ∙ at)) (settled_one t cl l (stands_as marks t cl (OneLeft l) m stands) (m.only l (sym c.has.ensures ∙ c.if-not-has.false)))

pub returns-in-MoreLeft-clause-goes : goal.returns-in-MoreLeft-clause-goes
returns-in-MoreLeft-clause-goes c _ = let s = c.in_ok-standing.ensures in s.goes c.args.core.now.slots

pub returns-in-MoreLeft-clause-settled : goal.returns-in-MoreLeft-clause-settled
returns-in-MoreLeft-clause-settled c _ e d at =
    let cl = c.in-Some.clause.now in
    let s = c.in_ok-standing.ensures in
    let marks = c.standing.new.marked.marks.items in
    let t = c.standing.new.marked.trail.items in
    let stands = subst (Stands (λ l. is_marked marks l ≡ true) cl) c.in-MoreLeft.is s.stands in
    let f = c.in-Some.ensures in
    subst (IsSettled t) (same cl d (sym f.there ∙ at)) (settled_more marks t cl s.marked (stands_as marks t cl MoreLeft s.marked stands))
