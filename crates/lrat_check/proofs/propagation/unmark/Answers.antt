use Rattle.std.proofs.Common.{arith}
use Rattle.std.proofs.lemmas.List.Elements.{All-contains}
use Rattle.cnf_form.proofs.Members.{Contains-read}
use Rattle.lrat_check.specs.Marks.{HasPlaces}
use Rattle.lrat_check.proofs.Trail.{unmarking_all, unmarking_more, unmarked_all}
use Rattle.lrat_check.proofs.propagation.unmark.Goals as goal

pub loop-l-init : goal.loop-l-init
loop-l-init c = unmarking_all _ _ c.requires

pub set_mark-requires : goal.set_mark-requires
set_mark-requires c =
    let u = c.loop-l.invariant in
    All-contains (HasPlaces c.loop-l.marks) c.args.trail.now c.l-item.result u.places (Contains-read c.args.trail.now c.loop-l.l-index c.l-item.result (omega arith) c.l-item.is)

pub loop-l-preserved : goal.loop-l-preserved
loop-l-preserved c = rw c.set_mark.ensures (unmarking_more _ _ c.loop-l.l-index c.l-item.result (omega arith) c.l-item.is c.loop-l.invariant)

pub returns : goal.returns
returns c = unmarked_all _ c.args.trail.now c.loop-l.l-index (omega arith) c.loop-l.invariant
