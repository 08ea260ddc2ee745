use Rattle.sby_top.proofs.ChildLemmas.{children_give}
use Rattle.sby_top.proofs.EvidenceLemmas.{FindingLaws}
use Rattle.sby_top.proofs.laws.valid_children_give_their_verdict.Goals as goal

pub returns : goal.returns
returns g c = λ before after moments words done task end engines now answers lane_of verdict is judged service size valid decides.
    let laws : FindingLaws = record {
      sat = c.findings_tell_what_can_be_solved.ensures.sat;
      unsat = c.findings_tell_what_can_be_solved.ensures.unsat;
    } in
    children_give laws (g.C.Clock.may_read c.args.clock.now) is.place moments task end is.exit engines now answers lane_of verdict is.ran judged service size valid decides
