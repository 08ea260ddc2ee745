use Rattle.std.proofs.Common.{◌≡◌, ◌∙◌, ◌<◌, ◌≤◌, ◌^◌, Bool, List, ap, map, subst, sym}
use Rattle.model_core.specs.Choices.{open_states}
use Rattle.model_core.specs.Shape.{ModelOf, states}
use Rattle.model_cone.specs.Cone.{IsCone}
use Rattle.model_cone.specs.Slice.{kept_by, sliced}
use Rattle.frame_net.specs.NetOf.{IsNetOf, net_cost}
use Rattle.bit_net.specs.Net.{vars}
use Rattle.task_net.specs.Net.IsTaskNet.{AsksSome}
use Rattle.task_net.proofs.net.of_slice.Goals as goal
use Rattle.task_net.proofs.net.of_slice.Goals.{In_ok-net}

-- the slice by its marks
made : (c : In_ok-net) → c.in_ok-slice.slice ≡ sliced (kept_by c.in_ok-marks.marks.items) c.args.model.now
made c = c.in_ok-slice.ensures.slice ∙ ap (λ (marks : List Bool). sliced (kept_by marks) c.args.model.now) c.deref.ensures.value

pub cut-requires-clause-cone : goal.cut-requires-clause-cone
cut-requires-clause-cone c = (c.args.asked, subst (λ (marks : List Bool). IsCone c.args.model.now c.args.asked (kept_by marks)) (sym c.deref.ensures.value) c.in_ok-marks.ensures.cone)

pub returns-in-Err-clause-too_large : goal.returns-in-Err-clause-too_large
returns-in-Err-clause-too_large c =
    let i = (goal.at.returns-in-Err-clause-too_large c).In_ok-net in record {
      asks = c.requires.some;
      keep = kept_by c.in_ok-marks.marks.items;
      cone = i.in_ok-marks.ensures.cone;
      past = subst (λ (s : ModelOf). 2 ^ 27 < net_cost s) (made i) (rw c.in-Err.is at c.in_ok-net.ensures.too_many);
    }

pub returns-clause-net : goal.returns-clause-net
returns-clause-net c =
    let i = (goal.at.returns-clause-net c).In_ok-net in
    let keep = kept_by c.in_ok-marks.marks.items in
    AsksSome keep i.in_ok-marks.ensures.cone (record {
      net = c.promise.ensures;
      is = subst (λ (s : ModelOf). IsNetOf s c.in-Ok.net) (made i) (rw c.in-Ok.is at c.in_ok-net.ensures.net);
      few = subst (λ (s : ModelOf). vars c.in-Ok.net ≤ net_cost s) (made i) (rw c.in-Ok.is at c.in_ok-net.ensures.size);
      states = c.in_ok-extend_from_slice.ensures.items ∙ rw (c.new-states.ensures.items, c.states.ensures) (ap states (made i));
      starts = c.in_ok-starts.ensures ∙ ap (λ (marks : List Bool). map (kept_by marks) (open_states c.args.model.now)) c.deref-2.ensures.value;
      inputs = c.in_ok-inputs.ensures ∙ ap (λ (marks : List Bool). map (kept_by marks) c.args.model.now.inputs) c.deref-3.ensures.value;
    })
