use Rattle.sby_top.proofs.ChildLemmas.{child_gives}
use Rattle.sby_top.proofs.EvidenceLemmas.{FindingLaws}
use Rattle.sby_top.proofs.laws.valid_child_gives_its_verdict.Goals as goal

pub returns : goal.returns
returns g c = λ before after moments words done task end engines lane script now file answer is judged bmc one service serving script_is none stands valid.
    let laws : FindingLaws = record {
      sat = c.findings_tell_what_can_be_solved.ensures.sat;
      unsat = c.findings_tell_what_can_be_solved.ensures.unsat;
    } in
    child_gives laws (g.C.Clock.may_read c.args.clock.now) is.place moments task end is.exit engines lane script now file answer is.ran judged bmc one service serving script_is none stands valid
