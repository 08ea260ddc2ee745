use Rattle.std.proofs.Common.{refl}
use Rattle.design_core.proofs.Declaring.{wire_chunk, const_chunk, free_chunk}
use Rattle.design_core.proofs.design.Design.declares_chunk.Goals as goal

pub returns-in-Wire : goal.returns-in-Wire
returns-in-Wire c =
    let d = c.args.self.now in
    let law = wire_chunk d.wires d.free c.args.chunk c.above.result _ _ c.in-Wire.is c.requires.some c.above.ensures in
    (λ t. law.0 (c.declares.ensures.0 t), λ all. c.declares.ensures.1 (law.1 all))

pub returns-in-Const : goal.returns-in-Const
returns-in-Const c = let d = c.args.self.now in (λ t. const_chunk d.wires d.free c.args.chunk _ c.in-Const.is, λ all. refl)

pub returns-in-Free : goal.returns-in-Free
returns-in-Free c =
    let d = c.args.self.now in
    let law = free_chunk d.wires d.free c.args.chunk _ c.in-Free.is c.requires.some in
    (λ t. law.0 (c.declares-in-Free.ensures.0 t), λ all. c.declares-in-Free.ensures.1 (law.1 all))
