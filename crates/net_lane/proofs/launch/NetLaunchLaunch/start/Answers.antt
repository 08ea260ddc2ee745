use Rattle.std.proofs.Common.{◌≡◌, ◌∙◌, ℕ, inl, inr, subst, rules}
use Rattle.sby_edge.specs.Cause.{Rose}
use Rattle.net_lane.proofs.Starts.{cause_so}
use Rattle.net_lane.proofs.launch.NetLaunchLaunch.start.Goals as goal

pub returns-in-Err-clause-failed : goal.returns-in-Err-clause-failed
returns-in-Err-clause-failed g c = λ e. let k = c.fail.ensures.same in inl (c.in-Err.ensures.failed (cc))

pub returns-in-Err-clause-starts : goal.returns-in-Err-clause-starts
returns-in-Err-clause-starts g c =
    let f = c.fail.ensures in
    let kept : c.keep.new.self.faults ≡ c.args.self.now.starts = search rules in
    cause_so _ _ _ _ _ _ _ _ kept f.same f.later f.failed f.memory

pub returns-in-Err-dial-clause-starts : goal.returns-in-Err-dial-clause-starts
returns-in-Err-dial-clause-starts g c =
    let f = c.fail-in-Err-dial.ensures in
    let kept : c.keep.new.self.faults ≡ c.args.self.now.starts = search rules in
    cause_so _ _ _ _ _ _ _ _ kept f.same f.later f.failed f.memory

pub returns-in-Err-send-clause-failed : goal.returns-in-Err-send-clause-failed
returns-in-Err-send-clause-failed g c = λ e.
    let k = c.fail-in-Err-send.ensures.same in
    let lost = c.in-Err-send.ensures.failed (cc) in
    let gives : g.D.Dial.told c.self.inside.dial ≡ c.args.self.now.gives = search rules in
    inr (inr (lost.0, lost.1 ∙ c.in-Ok-dial.ensures.left ∙ gives, subst (λ (n : ℕ). Rose n (g.D.Link.Link.faults lost.0)) c.in-Ok-dial.ensures.fresh.0 lost.2))

pub returns-in-Err-send-clause-starts : goal.returns-in-Err-send-clause-starts
returns-in-Err-send-clause-starts g c =
    let f = c.fail-in-Err-send.ensures in
    let kept : c.keep.new.self.faults ≡ c.args.self.now.starts = search rules in
    cause_so _ _ _ _ _ _ _ _ kept f.same f.later f.failed f.memory
