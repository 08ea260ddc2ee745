use Rattle.std.proofs.Common.{◌∙◌, ap, sym}
use Rattle.btor_core.specs.Shape.{at_nid}
use Rattle.btor_core.specs.declared.line.Body.TheVariants as body
use Rattle.btor_core.specs.declared.line.Line.{Line}
use Rattle.btor_text.proofs.Finding.{read_nowhere, read_there, sized_there}
use Rattle.btor_text.proofs.find.body_at.Goals as goal

pub returns-in-Some-clause-read : goal.returns-in-Some-clause-read
returns-in-Some-clause-read c =
    let d : Line = record { nid = 0; body = body.Sort 0 } in
    let there = c.in-Some.ensures.some in
    rw c.lines.ensures (λ read. ap (λ k. at_nid read c.args.model.now.lines k) (sym (there.1 d)) ∙ read_there c.args.model.now c.promise.ensures read c.in-Some.place d there.0)

pub returns-in-Some-clause-sized : goal.returns-in-Some-clause-sized
returns-in-Some-clause-sized c = rw c.lines.ensures (sized_there c.args.model.now c.promise.ensures c.in-Some.place (record { nid = 0; body = body.Sort 0 }) c.in-Some.ensures.some.0)

pub returns-in-None-clause-read : goal.returns-in-None-clause-read
returns-in-None-clause-read c = λ read. read_nowhere read c.args.model.now.lines c.args.nid (c.in-None.ensures.none)
