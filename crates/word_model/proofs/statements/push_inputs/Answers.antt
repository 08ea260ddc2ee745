use Rattle.std.proofs.Common.{◌∙◌, List, All, sym, subst}
use Rattle.design_core.specs.Shape.{IsDeclared}
use Rattle.design_signals.specs.declared.sig_bit.SigBit.{SigBit}
use Rattle.word_model.proofs.Owning.{inputs-declared}
use Rattle.word_model.proofs.statements.push_inputs.Goals as goal

pub place-requires : goal.place-requires
place-requires c =
    subst (λ (l : List SigBit). All (IsDeclared c.args.design.now.wires c.args.design.now.free) l) (sym (c.as_slice-list.ensures.value ∙ c.in_ok-bits.ensures)) (inputs-declared c.args.design.now) c.loop-index.index _ c.loop-index-test.true
