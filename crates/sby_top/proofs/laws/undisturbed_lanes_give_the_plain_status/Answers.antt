use Rattle.sby_top.proofs.CompleteLemmas.{lanes_plain, lanes_verdict}
use Rattle.sby_top.proofs.EvidenceLemmas.{FindingLaws}
use Rattle.sby_top.proofs.laws.undisturbed_lanes_give_the_plain_status.Goals as goal

pub returns-clause-verdict : goal.returns-clause-verdict
returns-clause-verdict g c = λ before after moments words done task end engines now status is judged service calm plain closing.
    let laws : FindingLaws = record {
      sat = c.findings_tell_what_can_be_solved.ensures.sat;
      unsat = c.findings_tell_what_can_be_solved.ensures.unsat;
    } in
    lanes_verdict laws (g.C.Clock.may_read c.args.clock.now) is.place moments task end is.exit engines now is.ran judged service calm plain.reports plain.are_plain status plain.is_status closing

pub returns-clause-other : goal.returns-clause-other
returns-clause-other g c = λ before after moments words done task end engines now status is judged service calm plain.
    let laws : FindingLaws = record {
      sat = c.findings_tell_what_can_be_solved.ensures.sat;
      unsat = c.findings_tell_what_can_be_solved.ensures.unsat;
    } in
    lanes_plain laws (g.C.Clock.may_read c.args.clock.now) is.place moments task end is.exit engines now is.ran judged service calm plain.reports plain.are_plain status plain.is_status
