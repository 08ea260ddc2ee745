use Rattle.std.proofs.Common.{ap, inl, inr, ◌≡◌, ◌∙◌}
use Rattle.cert_judge.proofs.Pieces.{if_ok}
use Rattle.inv_judge.specs.Claim.{ClaimOf, Passes, begun, with_outcome}
use Rattle.inv_judge.specs.declared.outcome.InvOutcome.TheVariants as outcome
use Rattle.cert_judge.specs.declared.stream.CertKind.TheVariants.{NotInvariant}
use Rattle.inv_judge.proofs.Saying.{no_both}
use Rattle.inv_judge.proofs.claim.Claim.pass.Goals as goal

pub returns-then-not-branch : goal.returns-then-not-branch
returns-then-not-branch c = inr (
  (λ a. no_both c.in_ok-is_shown.field-0 c.if-not-branch.true (c.in_ok-is_shown.ensures.exact.1 a)),
  c.refuse.ensures ∙ ap (λ (a : ClaimOf). with_outcome a (outcome.Bad (record { kind = NotInvariant; at = c.args.place }))) c.is_shown.ensures.same,
)

pub returns : goal.returns
returns c =
    if_ok (λ _. c.begin.new.self ≡ begun c.is_shown.new.self c.args.proof) (λ _. Passes c.args.self.now c.args.checker.clauses c.args.frame c.args.proof c.args.place c.begin.new.self) c.begin.result
    (λ _ e. inl (c.in_ok-is_shown.ensures.exact.0 c.if-not-branch.false, e ∙ ap (λ (a : ClaimOf). begun a c.args.proof) c.is_shown.ensures.same)) c.begin.ensures
