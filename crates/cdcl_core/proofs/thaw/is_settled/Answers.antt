use Rattle.std.proofs.Common.{sym, ◌∙◌, subst, arith}
use Rattle.std.specs.Prelude.{Contains, IfSome}
use Rattle.std.proofs.lemmas.Bool.{both_ways}
use Rattle.cnf_form.proofs.Literals.{apart_by_ne}
use Rattle.cnf_form.proofs.Members.{Contains-read}
use Rattle.unit_propagation.specs.Propagation.{IsUnassigned}
use Rattle.cdcl_core.proofs.Thawing.{settled_true, settled_two}
use Rattle.cdcl_core.proofs.thaw.is_settled.Goals as goal

pub returns-then-is_true : goal.returns-then-is_true
returns-then-is_true c h =
    let cl = c.args.clause.now in
    let l = c.l-item.result in
    settled_true c.args.core.now.trail cl l c.conflict-consistent.ensures.consistent (Contains-read cl c.loop-l.l-index l (omega (arith, c.loop-l-test.true)) c.l-item.is) (c.is_true.ensures.0 c.if-is_true.true)

pub returns-then-ne : goal.returns-then-ne
returns-then-ne c h =
    let t = c.args.core.now.trail in
    let cl = c.args.clause.now in
    let l = c.l-item.result in
    let o = c.in-Some.other in
    let w = subst (λ z. IfSome z (λ o. Contains cl o × IsUnassigned t o)) c.in-Some.is c.loop-l.invariant in
    let op = w.1 in
    settled_two t cl o l w.0 (Contains-read cl c.loop-l.l-index l (omega (arith, c.loop-l-test.true)) c.l-item.is) (λ q. apart_by_ne _ _ (sym c.ne.ensures ∙ c.if-ne.true) q) op.not_false
    (λ k. both_ways _ c.if-not-is_true.true (c.is_true-in-loop-l.ensures.1 (subst (Contains t) (sym c.negate.ensures) k)))
