use Rattle.std.proofs.Common.{[], ◌∷◌, Some, ap, inl, inr, subst, sym, ◌∙◌}
use Rattle.cert_stream.specs.Telling.{IsClause}
use Rattle.cert_judge.proofs.DrupHearing.{none_in, some_in}
use Rattle.cnf_form.specs.Cnf.{ClauseWithin}
use Rattle.drup_check.specs.declared.Added.{Added}
use Rattle.inv_stream.specs.Machine.{Says}
use Rattle.inv_judge.specs.Claim.{ClaimOf, Leads}
use Rattle.inv_judge.proofs.Saying.{no_both}
use Rattle.inv_judge.proofs.Staging.{heard_completed, heard_head, heard_joined, heard_listed, heard_refused, heard_unlisted, over_bits_or_not}
use Rattle.inv_judge.proofs.claim.ClaimReceiver.clause.Goals as goal
use Rattle.inv_judge.proofs.claim.ClaimReceiver.clause.Goals.{in-None, in-None-2+in_ok-list-in-None-2, in-Some-NotRup, in-Some-Admitted, in-Some-Admitted+then-is_safe+else-is_empty, in-Some-Admitted+else-is_safe}

pub add-requires : goal.add-requires
add-requires c = (c.self.inside.pair.formula.vars, c.self.invariant.1, subst (λ (a : ClaimOf). ClauseWithin a.pair.formula.vars c.args.lits.now) (sym c.self.view_is) c.requires)

pub invariant_of-self : goal.invariant_of-self
invariant_of-self c = (c.self.invariant.0, c.add.ensures.stage c.self.inside.pair.formula.vars c.self.invariant.1)

pub invariant_of-self-in-Some-NotRup : goal.invariant_of-self-in-Some-NotRup
invariant_of-self-in-Some-NotRup c = (c.self.invariant.0, c.add.ensures.stage c.self.inside.pair.formula.vars c.self.invariant.1)

pub invariant_of-self-in-Admitted-1 : goal.invariant_of-self-in-Admitted-1
invariant_of-self-in-Admitted-1 c = (c.self.invariant.0, c.add.ensures.stage c.self.inside.pair.formula.vars c.self.invariant.1)

pub invariant_of-self-in-Some-Admitted : goal.invariant_of-self-in-Some-Admitted
invariant_of-self-in-Some-Admitted c = (c.self.invariant.0, c.add.ensures.stage c.self.inside.pair.formula.vars c.self.invariant.1)

pub invariant_of-self-else-is_empty : goal.invariant_of-self-else-is_empty
invariant_of-self-else-is_empty c = (c.self.invariant.0, c.add.ensures.stage c.self.inside.pair.formula.vars c.self.invariant.1)

pub invariant_of-self-else-is_safe : goal.invariant_of-self-else-is_safe
invariant_of-self-else-is_safe c = (c.self.invariant.0, c.add.ensures.stage c.self.inside.pair.formula.vars c.self.invariant.1)

pub returns-clause-gets : goal.returns-clause-gets
returns-clause-gets c = λ n.
    let m = c.self.inside in
    let o = ap (λ (a : ClaimOf). a.outcome) c.self.view_is ∙ n in
    let part = c.add.ensures.part in
    let adds = c.in_ok-add.ensures.adds in
    subst (λ (a : ClaimOf). Leads a (Says (IsClause c.args.lits.now c.args.place) ∷ []) c.match-branch-2.self) c.self.view_is
    (elim c.match-branch-2.branch [
      | in-None w ↦ heard_head m.pair m.invariant.clauses m.outcome m.stage c.add.new.self o part c.args.lits.now c.args.place c.match-branch-2.self c.in_ok-add.field-0 adds
          (w.is_head.ensures.0 w.if-is_head.true) (w.self-is ∙ w.refuse.ensures)
      | in-None-2+in_ok-list-in-None-2 w ↦ elim (over_bits_or_not m.pair c.args.lits.now) [
        | inl over ↦ heard_listed m.pair m.invariant.clauses m.outcome m.stage c.add.new.self o part c.args.lits.now c.args.place c.match-branch-2.self c.in_ok-add.field-0 adds
            w.in-None-2.is (λ h. no_both w.is_head.result w.if-is_head.false (w.is_head.ensures.1 h)) over (w.self-is ∙ w.in_ok-list-in-None-2.ensures.bits over)
        | inr none ↦ heard_unlisted m.pair m.invariant.clauses m.outcome m.stage c.add.new.self o part c.args.lits.now c.args.place c.match-branch-2.self c.in_ok-add.field-0 adds
            w.in-None-2.is (λ h. no_both w.is_head.result w.if-is_head.false (w.is_head.ensures.1 h)) none (w.self-is ∙ w.in_ok-list-in-None-2.ensures.none none)
      ]
      | in-Some-NotRup w ↦ heard_refused m.pair m.invariant.clauses m.outcome m.stage c.add.new.self o part c.args.lits.now c.args.place c.match-branch-2.self c.in_ok-add.field-0 adds
          (w.in-Some-NotRup.is ∙ ap (λ (a : Added). Some a) w.in-Some-NotRup.field-0-is) (w.self-is ∙ w.refuse-in-Some-NotRup.ensures)
      | in-Some-Admitted w ↦ heard_completed m.pair m.invariant.clauses m.outcome m.stage c.add.new.self o part c.args.lits.now c.args.place c.match-branch-2.self c.in_ok-add.field-0 adds
          (w.in-Some-Admitted.is ∙ ap (λ (a : Added). Some a) w.in-Some-Admitted.field-0-is) (w.is_safe.ensures.0 w.if-is_safe.true) (none_in _ (sym w.is_empty.ensures ∙ w.if-is_empty.true)) (w.self-is ∙ w.settle.ensures)
      | in-Some-Admitted+then-is_safe+else-is_empty w ↦ heard_joined m.pair m.invariant.clauses m.outcome m.stage c.add.new.self o part c.args.lits.now c.args.place c.match-branch-2.self c.in_ok-add.field-0 adds
          (w.in-Some-Admitted.is ∙ ap (λ (a : Added). Some a) w.in-Some-Admitted.field-0-is) (λ _. some_in _ (sym w.is_empty.ensures ∙ w.if-is_empty.false)) w.self-is
      | in-Some-Admitted+else-is_safe w ↦ heard_joined m.pair m.invariant.clauses m.outcome m.stage c.add.new.self o part c.args.lits.now c.args.place c.match-branch-2.self c.in_ok-add.field-0 adds
          (w.in-Some-Admitted.is ∙ ap (λ (a : Added). Some a) w.in-Some-Admitted.field-0-is) (λ h. absurd (no_both w.is_safe.result w.if-is_safe.false (w.is_safe.ensures.1 h))) w.self-is
    ])
