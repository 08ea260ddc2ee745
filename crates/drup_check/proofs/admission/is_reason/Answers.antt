use Rattle.std.proofs.Common.{◌≡◌, ◌+◌, true, false, take, arith, ap, sym, ◌∙◌, subst}
use Rattle.std.specs.Prelude.{Contains}
use Rattle.std.proofs.lemmas.Bool.{both_ways}
use Rattle.cnf_form.proofs.Literals.{apart_by_ne, same_by_ne}
use Rattle.cnf_form.proofs.Members.{Contains-read}
use Rattle.unit_propagation.specs.Propagator.{clauses_of}
use Rattle.drup_check.proofs.Reasons.{Scanned, scanned_true, scanned_same, scanned_false, no_reason_open, refused_two, scanned_all}
use Rattle.std.specs.Option.{is_some}
use Rattle.drup_check.proofs.admission.is_reason.Goals as goal
use Rattle.drup_check.proofs.admission.is_reason.Goals.{then-is_true+in-None, then-is_true+in-Some+else-ne, else-is_true+else-not-is_true}

pub returns-then-ne : goal.returns-then-ne
returns-then-ne c = (
  λ f. absurd (let g : false ≡ true = f in cc),
  λ w. absurd (refused_two (clauses_of c.args.core.now.slots) c.args.core.now.trail c.args.clause.now c.requires.consistent c.requires.fixpoint c.loop-l.l-index c.l-item.result c.in-Some.other c.loop-l.implied
      (omega arith) c.l-item.is (c.is_true.ensures.0 c.if-is_true.true) c.in-Some.is c.loop-l.invariant (apart_by_ne _ _ (sym c.if-ne.ensures)) w),
)

pub returns-then-not-is_true : goal.returns-then-not-is_true
returns-then-not-is_true c =
    let t = c.args.core.now.trail in
    let off : Contains t c.negate.result → ⊥ = λ h. both_ways _ c.if-not-is_true.true (c.is_true-else-is_true.ensures.1 h) in (
      λ f. absurd (let g : false ≡ true = f in cc),
      λ w. absurd (no_reason_open (clauses_of c.args.core.now.slots) t c.args.clause.now c.requires.consistent c.requires.fixpoint c.l-item.result (Contains-read c.args.clause.now c.loop-l.l-index c.l-item.result (omega arith) c.l-item.is)
          (λ h. both_ways _ c.if-is_true.false (c.is_true.ensures.1 h)) (λ h. off (subst (Contains t) (sym c.negate.ensures) h)) w),
    )

pub loop-l-preserved : goal.loop-l-preserved
loop-l-preserved c =
    let t = c.args.core.now.trail in
    let cs = c.args.clause.now in
    let i = c.loop-l.l-index in
    let l = c.l-item.result in
    elim c.if-is_true.branch [
      | then-is_true+in-None w ↦
          scanned_true t cs i l (omega arith) c.l-item.is c.loop-l.implied c.if-is_true.implied w.in-None.is w.implied-is (c.is_true.ensures.0 w.if-is_true.true) c.loop-l.invariant
      | then-is_true+in-Some+else-ne w ↦
          subst (Scanned t (take (i + 1) cs)) (sym w.implied-is)
          (scanned_same t cs i l (omega arith) c.l-item.is c.loop-l.implied w.in-Some.other w.in-Some.is (same_by_ne _ _ (sym w.if-ne.ensures)) c.loop-l.invariant)
      | else-is_true+else-not-is_true w ↦
          subst (Scanned t (take (i + 1) cs)) (sym w.implied-is)
          (scanned_false t cs i l (omega arith) c.l-item.is c.loop-l.implied (subst (Contains t) w.negate.ensures (w.is_true-else-is_true.ensures.0 w.if-not-is_true.false)) c.loop-l.invariant)
    ]

pub returns : goal.returns
returns c =
    let root = c.requires.root in
    scanned_all (clauses_of c.args.core.now.slots) c.args.core.now.trail c.args.clause.now c.requires.consistent c.requires.fixpoint c.loop-l.implied c.loop-l.l-index c.is_some.result
    root.derived (omega arith) c.loop-l.invariant (λ l h. c.is_some.ensures ∙ ap is_some h) (λ h. c.is_some.ensures ∙ ap is_some h)
