use Rattle.std.proofs.Common.{List, ℕ, ap, sym, subst, ◌∙◌}
use Rattle.race_core.specs.declared.event.LaneEvent.{LaneEvent}
use Rattle.lane_run.specs.Reading.{IsProof, bytes_filed}
use Rattle.lane_run.proofs.Proving.{file_asked, proof_got}
use Rattle.lane_run.proofs.proof.read_proof.Goals as goal

pub returns-clause-asks : goal.returns-clause-asks
returns-clause-asks g c =
    let bay = g.L.Launch.told c.args.berth.now.bay in
    let asked = c.args.asked.now in
    let got = subst (λ (proof : List ℕ). IsProof bay asked.job asked.most proof) (sym (c.as_slice.ensures.value ∙ c.bytes_of-bytes.ensures)) (proof_got bay asked.job asked.most c.in-Ok.got c.in-Ok.ensures.content) in
    let none = ap (λ (l : List (LaneEvent g.row.T.Denot)). bytes_filed l) c.take_room.ensures.events ∙ c.requires.unfiled in
    file_asked (g.S.ChildJudge.proves c.args.judge) bay asked.job asked.most c.as_slice.result.now (bytes_filed c.take_room.new.self.events) (bytes_filed c.judge_proof.new.events.events)
    c.judge_proof.result.part c.judge_proof.result.why got none c.judge_proof.ensures.judged
