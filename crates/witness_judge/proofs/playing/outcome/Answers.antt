use Rattle.std.proofs.Common.{◌-◌, ◌∙◌, ℕ, ap, inr}
use Rattle.cert_judge.specs.Fate.{Bad}
use Rattle.cert_judge.specs.declared.stream.CertKind.TheVariants.{NotPlaying}
use Rattle.witness_judge.specs.Judging.{fate_of}
use Rattle.witness_judge.proofs.playing.outcome.Goals as goal

pub returns-then-not-is_sought-clause-fate : goal.returns-then-not-is_sought-clause-fate
returns-then-not-is_sought-clause-fate c =
    let not_so = c.if-not-is_sought.true in
    let first = c.in_default.ensures in
    inr (inr (first, (λ r. absurd (let t = c.is_sought.ensures.1 r in cc)), ap fate_of c.not_playing-then-not-is_sought.ensures ∙ ap (λ (n : ℕ). Bad NotPlaying (n - 1)) c.cycles.ensures))
