use Rattle.std.proofs.Common.{[], ◌∷◌, ap, subst, sym, ◌≡◌, ◌∙◌}
use Rattle.pair_form.specs.Pair.{PairOf}
use Rattle.pair_form.specs.declared.pair.Frame.TheVariants.{First, Second}
use Rattle.inv_stream.specs.Machine.{IsNext}
use Rattle.inv_judge.specs.Claim.{ClaimOf, Leads, Passes}
use Rattle.inv_judge.specs.declared.stage.Proof.{Proof}
use Rattle.inv_judge.specs.declared.stage.Proof.TheVariants as proof
use Rattle.inv_judge.specs.declared.stage.Stage.TheVariants as stage
use Rattle.inv_judge.proofs.Staging.{claim, next_head, next_inv, next_safe, next_start, next_step, passes_pair}
use Rattle.inv_judge.proofs.claim.ClaimInvReceiver.part.Goals as goal
use Rattle.inv_judge.proofs.claim.ClaimInvReceiver.part.Goals.{in-Head+in-Proves-1, in-Head+in-Head-1, in-Inv+in_ok-begin-in-Inv, in-Proves-Start-default+in_ok-pass-in-Proves-Start-default, in-Proves-Step-default+in_ok-pass-in-Proves-Step-default, in-Proves-Safe-default+in-Proves-this-2, in-Proves-Safe-default+in-Head-1}

pub returns-clause-gets : goal.returns-clause-gets
returns-clause-gets c = λ n.
    let m = c.self.inside in
    let o = ap (λ (a : ClaimOf). a.outcome) c.self.view_is ∙ n in
    let was = sym c.replace.ensures.value in
    let place = c.args.place in
    let y = c.match-replace.self in
    let t = c.replace.new.dest in
    let I = m.invariant.clauses in
    subst (λ (a : ClaimOf). Leads a (IsNext place ∷ []) y) c.self.view_is
    (elim c.match-replace.branch [
      | in-Head+in-Proves-1 w ↦ next_head m.pair I m.outcome m.stage t place y o (was ∙ w.in-Head.is) w.self-is
      | in-Head+in-Head-1 w ↦ next_head m.pair I m.outcome m.stage t place y o (was ∙ w.in-Head.is) w.self-is
      | in-Inv+in_ok-begin-in-Inv w ↦ next_inv m.pair I m.outcome m.stage t place y o (was ∙ w.in-Inv.is) (w.self-is ∙ w.in_ok-begin-in-Inv.ensures)
      | in-Proves-Start-default+in_ok-pass-in-Proves-Start-default w ↦ next_start m.pair I m.outcome m.stage t place y w.in-Proves-Start-default.checker o
          (was ∙ w.in-Proves-Start-default.is ∙ ap (λ (q : Proof). stage.Proves q w.in-Proves-Start-default.checker) w.in-Proves-Start-default.field-0-is)
          (subst (λ (z : ClaimOf). Passes (claim m.pair I m.outcome t) w.in-Proves-Start-default.checker.clauses First proof.Step place z) (sym w.self-is) w.in_ok-pass-in-Proves-Start-default.ensures)
      | in-Proves-Step-default+in_ok-pass-in-Proves-Step-default w ↦ next_step m.pair I m.outcome m.stage t place y w.in-Proves-Step-default.checker o
          (was ∙ w.in-Proves-Step-default.is ∙ ap (λ (q : Proof). stage.Proves q w.in-Proves-Step-default.checker) w.in-Proves-Step-default.field-0-is)
          (subst (λ (z : ClaimOf). Passes (claim m.pair I m.outcome t) w.in-Proves-Step-default.checker.clauses Second proof.Safe place z) (sym w.self-is) w.in_ok-pass-in-Proves-Step-default.ensures)
      | in-Proves-Safe-default+in-Proves-this-2 w ↦ next_safe m.pair I m.outcome m.stage t place y w.in-Proves-Safe-default.field-1 o
          (was ∙ w.in-Proves-Safe-default.is ∙ ap (λ (q : Proof). stage.Proves q w.in-Proves-Safe-default.field-1) w.in-Proves-Safe-default.field-0-is) (w.self-is ∙ w.refuse.ensures)
      | in-Proves-Safe-default+in-Head-1 w ↦ next_safe m.pair I m.outcome m.stage t place y w.in-Proves-Safe-default.field-1 o
          (was ∙ w.in-Proves-Safe-default.is ∙ ap (λ (q : Proof). stage.Proves q w.in-Proves-Safe-default.field-1) w.in-Proves-Safe-default.field-0-is) (w.self-is ∙ w.refuse.ensures)
    ])

pub returns-clause-vars : goal.returns-clause-vars
returns-clause-vars c =
    let m = c.self.inside in
    let t = c.replace.new.dest in
    let I = m.invariant.clauses in
    let y = c.match-replace.self in
    subst (λ (a : ClaimOf). y.pair.formula.vars ≡ a.pair.formula.vars) c.self.view_is
    (ap (λ (q : PairOf). q.formula.vars) (elim c.match-replace.branch as (λ _. y.pair ≡ m.pair) [
      | in-Head+in-Proves-1 w ↦ ap (λ (a : ClaimOf). a.pair) w.self-is
      | in-Head+in-Head-1 w ↦ ap (λ (a : ClaimOf). a.pair) w.self-is
      | in-Inv+in_ok-begin-in-Inv w ↦ ap (λ (a : ClaimOf). a.pair) (w.self-is ∙ w.in_ok-begin-in-Inv.ensures)
      | in-Proves-Start-default+in_ok-pass-in-Proves-Start-default w ↦ ap (λ (a : ClaimOf). a.pair) w.self-is
          ∙ passes_pair (claim m.pair I m.outcome t) w.in-Proves-Start-default.checker.clauses First proof.Step c.args.place _ w.in_ok-pass-in-Proves-Start-default.ensures
      | in-Proves-Step-default+in_ok-pass-in-Proves-Step-default w ↦ ap (λ (a : ClaimOf). a.pair) w.self-is
          ∙ passes_pair (claim m.pair I m.outcome t) w.in-Proves-Step-default.checker.clauses Second proof.Safe c.args.place _ w.in_ok-pass-in-Proves-Step-default.ensures
      | in-Proves-Safe-default+in-Proves-this-2 w ↦ ap (λ (a : ClaimOf). a.pair) (w.self-is ∙ w.refuse.ensures)
      | in-Proves-Safe-default+in-Head-1 w ↦ ap (λ (a : ClaimOf). a.pair) (w.self-is ∙ w.refuse.ensures)
    ]))
