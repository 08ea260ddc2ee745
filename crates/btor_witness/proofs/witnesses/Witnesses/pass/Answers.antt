use Rattle.std.proofs.Common.{ap, ◌∙◌, sym, refl}
use Rattle.btor_witness.specs.Machine.{after}
use Rattle.btor_witness.proofs.Passing.{passed}
use Rattle.btor_witness.proofs.witnesses.Witnesses.pass.Goals as goal

pub returns-clause-after : goal.returns-clause-after
returns-clause-after c =
    passed c.self.inside.reading c.self.inside.scan c.self.inside.first c.self.inside.taken c.before_feed-count.result c.args.bytes.now (c.if-not-is_other.ensures.0 refl) (sym c.if-is_over.ensures) c.before_feed-count.ensures.within
    c.before_feed-count.ensures.none
    ∙ ap (λ w. after w c.args.bytes.now) c.self.view_is
