use Rattle.std.proofs.Common.{refl, inl, inr, ◌∙◌, ap, subst}
use Rattle.cdcl_run.specs.Output.{GrownBySome, grown}
use Rattle.cdcl_run.proofs.run.tell_fault.Goals as goal

pub returns-in_default-clause-tells : goal.returns-in_default-clause-tells
returns-in_default-clause-tells g c = λ told faults.
    inr (refl, inr (subst (GrownBySome (g.S.Sink.taken c.args.sink.now) (g.S.Sink.taken c.offer.new.sink)) (c.as_bytes.ensures.value ∙ c.in-Ok.ensures) c.in_default.ensures.part, c.in_default.ensures.failed))

pub returns-clause-tells : goal.returns-clause-tells
returns-clause-tells g c = λ told faults.
    inr (refl, inl (c.in-Ok-offer.ensures.whole ∙ ap (grown (g.S.Sink.taken c.args.sink.now)) (c.as_bytes.ensures.value ∙ c.in-Ok.ensures), c.in-Ok-offer.ensures.still))

pub returns-clause-whole : goal.returns-clause-whole
returns-clause-whole g c = c.in-Ok-offer.ensures.whole ∙ ap (grown (g.S.Sink.taken c.args.sink.now)) (c.as_bytes.ensures.value ∙ c.in-Ok.ensures)
