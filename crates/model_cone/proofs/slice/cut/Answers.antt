use Rattle.std.proofs.Common.{◌≡◌, ◌∙◌, refl, sym, subst}
use Rattle.model_core.specs.Served.{IsModel}
use Rattle.model_cone.specs.Slice.{kept_by, sliced}
use Rattle.model_cone.proofs.Closing.{constants-kept, node-closed}
use Rattle.model_cone.proofs.Reading.{inputs-below, states-below}
use Rattle.model_cone.proofs.Slicing.{slice-is, slice-made}
use Rattle.model_cone.proofs.slice.cut.Goals as goal
use Rattle.model_cone.proofs.slice.cut.Goals.{In_ok-push_statements}

pub push_left_bits-requires : goal.push_left_bits-requires
push_left_bits-requires c = rw (c.states.ensures, c.requires.size) (states-below c.args.model.now c.size.ensures.model)

pub push_left_bits-requires-2 : goal.push_left_bits-requires-2
push_left_bits-requires-2 c = rw (c.inputs.ensures, c.requires.size) (inputs-below c.args.model.now c.size.ensures.model)

made : (c : In_ok-push_statements) → c.push_statements.new.draft ≡ sliced (kept_by c.args.marks.now) c.args.model.now
made c =
    slice-made (kept_by c.args.marks.now) c.args.model.now c.new-draft.result _ _ _ _ _ _
    (c.new-draft.ensures ∙ rw (c.size.ensures.size, c.zero.ensures) refl)
    c.in_ok-push_nodes.ensures (rw (c.zero-2.ensures, c.states.ensures) at c.in_ok-push_left_bits.ensures) (rw (c.zero-3.ensures, c.inputs.ensures) at c.in_ok-push_left_bits-2.ensures)
    c.in_ok-push_registers.ensures c.in_ok-push_inputs.ensures c.in_ok-push_statements.ensures

model-is : (c : In_ok-push_statements) → IsModel c.push_statements.new.draft
model-is c =
    let m = c.args.model.now in
    let keep = kept_by c.args.marks.now in
    let cone = c.requires.cone in
    subst IsModel (sym (made c)) (slice-is m c.size.ensures.model keep (constants-kept m cone.0 keep cone.1) (node-closed m cone.0 keep cone.1))

pub finish-requires : goal.finish-requires
finish-requires c = model-is c

pub returns : goal.returns
returns c =
    let i = (goal.at.returns c).In_ok-push_statements in
    record { model = subst IsModel (sym c.finish.ensures) (model-is i); slice = c.finish.ensures ∙ made i }
