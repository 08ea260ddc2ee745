use Rattle.std.proofs.Common.{◌≡◌, ◌<◌, ℕ, Some, List, length, get_or, arith, refl}
use Rattle.lrat_check.specs.Table.{held}
use Rattle.std.proofs.lemmas.Bool.{false≢true}
use Rattle.cnf_form.specs.Cnf.{LitOf}
use Rattle.lrat_check.specs.declared.propagation.Status.TheVariants.{Negated, OneLeft, MoreLeft}
use Rattle.lrat_check.specs.Hints.{Live}
use Rattle.lrat_check.proofs.Following.{stands_as, followed_none, followed_conflict, followed_joins, followed_passing}
use Rattle.lrat_check.proofs.propagation.follow.Goals as goal
use Rattle.lrat_check.proofs.propagation.follow.Goals.{in-OneLeft+in_ok-assign-in-OneLeft, in-MoreLeft}

pub returns-in-Negated-clause-exact : goal.returns-in-Negated-clause-exact
returns-in-Negated-clause-exact c =
    let live : Live = held c.args.clauses.now in
    let i = c.loop-id.id-index in
    let hints : List ℕ = c.args.hints.now in
    let f = c.loop-id.invariant in
    let at : live (get_or hints i 0) ≡ Some c.in-Some.clause.now = c.in-Some.ensures in (
      λ _. followed_conflict live c.args.trail.now.items hints i c.loop-id.marks c.loop-id.trail.items f (get_or hints i 0) c.in-Some.clause.now (omega arith) refl at
          (stands_as c.loop-id.marks c.loop-id.trail.items c.in-Some.clause.now Negated f.marked c.in-Negated.ensures),
      λ _. refl,
    )

pub loop-id-preserved : goal.loop-id-preserved
loop-id-preserved c =
    let live : Live = held c.args.clauses.now in
    let i = c.loop-id.id-index in
    let hints : List ℕ = c.args.hints.now in
    let f = c.loop-id.invariant in
    let clause : List LitOf = c.in-Some.clause.now in
    let h : i < length hints = omega arith in
    let at : live (get_or hints i 0) ≡ Some clause = c.in-Some.ensures in
    elim c.match-clause_status.branch [
      | in-OneLeft+in_ok-assign-in-OneLeft w ↦
          followed_joins live c.args.trail.now.items hints i c.loop-id.marks c.loop-id.trail.items f (get_or hints i 0) clause h refl at w.in-OneLeft.l _ _
          (stands_as c.loop-id.marks c.loop-id.trail.items clause (OneLeft w.in-OneLeft.l) f.marked w.in-OneLeft.ensures) (rw (w.marks-is, w.trail-is) w.assign.ensures.marks) (cc w.in_ok-assign-in-OneLeft.ensures.trail)
      | in-MoreLeft w ↦
          rw (w.marks-is, w.trail-is) (followed_passing live c.args.trail.now.items hints i c.loop-id.marks c.loop-id.trail.items f (get_or hints i 0) clause h refl at
          (stands_as c.loop-id.marks c.loop-id.trail.items clause MoreLeft f.marked w.in-MoreLeft.ensures))
    ]

pub returns-clause-exact : goal.returns-clause-exact
returns-clause-exact c =
    let live : Live = held c.args.clauses.now in
    (λ f. absurd (false≢true f), λ r. absurd (followed_none live c.args.trail.now.items c.args.hints.now c.loop-id.id-index c.loop-id.marks c.loop-id.trail.items c.loop-id.invariant (omega arith) r))
