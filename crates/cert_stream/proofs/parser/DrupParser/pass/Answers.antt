use Rattle.std.proofs.Common.{ap, ◌∙◌, subst}
use Rattle.cert_stream.specs.Telling.{TakesMemory, after, said}
use Rattle.cert_stream.proofs.Passing.{passed}
use Rattle.cert_stream.proofs.parser.DrupParser.pass.Goals as goal

pub returns-clause-after : goal.returns-clause-after
returns-clause-after c =
    (passed c.self.inside.vars c.self.inside.taken c.self.inside.place c.self.inside.lits.items c.args.bytes.now _ c.before_feed-count.ensures.within c.before_feed-count.ensures.none c.self.inside.mode _ c.in-Skip.is).0
    ∙ ap (λ w. after w c.args.bytes.now) c.self.view_is

pub returns-clause-said : goal.returns-clause-said
returns-clause-said c =
    (passed c.self.inside.vars c.self.inside.taken c.self.inside.place c.self.inside.lits.items c.args.bytes.now _ c.before_feed-count.ensures.within c.before_feed-count.ensures.none c.self.inside.mode _ c.in-Skip.is).1
    ∙ ap (λ w. said w c.args.bytes.now) c.self.view_is

pub returns-clause-memory : goal.returns-clause-memory
returns-clause-memory c h =
    subst (λ w. TakesMemory w c.args.bytes.now) c.self.view_is
    ((passed c.self.inside.vars c.self.inside.taken c.self.inside.place c.self.inside.lits.items c.args.bytes.now _ c.before_feed-count.ensures.within c.before_feed-count.ensures.none c.self.inside.mode _ c.in-Skip.is).2 h)
