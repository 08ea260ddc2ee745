use Rattle.std.proofs.Common.{subst}
use Rattle.std.proofs.lemmas.Option.{slice_get_within}
use Rattle.design_core.specs.Shape.{IsDeclared}
use Rattle.design_graph.proofs.Driving.{drives-declared}
use Rattle.design_signals.specs.declared.sig_bit.SigBit.{SigBit}
use Rattle.design_check.proofs.names.driven_name.Goals as goal

pub bit_name-requires : goal.bit_name-requires
bit_name-requires c =
    let d = c.args.design.now in
    let drives = c.requires.drives in
    let declared = subst (λ (b : SigBit). IsDeclared c.args.design.now.wires c.args.design.now.free b) c.in-Wire.is (drives-declared d c.requires.shape c.args.item drives.0 c.args.bit drives.1) in
    slice_get_within d.wires c.in-Wire.wire declared.0 declared.1
