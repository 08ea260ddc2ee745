use Rattle.std.proofs.Common.{sym, ◌∙◌, ap}
use Rattle.model_core.specs.Shape.{ModelOf, states}
use Rattle.model_core.proofs.Keeping.{kept_states}
use Rattle.model_core.proofs.model.WordModel.states.Goals as goal

pub returns : goal.returns
returns c =
    let k = kept_states c.draft.inside.places.items c.draft.inside.states.items c.draft.inside.registers.items c.draft.invariant.all_bits in
    c.as_slice.ensures.value ∙ sym k ∙ ap (λ (m : ModelOf). states m) (c.draft.view_is ∙ c.self.view_is)
