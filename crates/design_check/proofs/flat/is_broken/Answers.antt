use Rattle.std.proofs.Common.{◌∙◌, Bool, not, ◌&&◌, List, ap}
use Rattle.design_core.specs.Cells.{is_set}
use Rattle.design_core.specs.Shape.{IsDeclared}
use Rattle.design_core.specs.declared.names.PortName.TheVariants.{A, En}
use Rattle.design_graph.proofs.Declared.{All-signal_at}
use Rattle.design_meaning.specs.Meaning.{row_in, says}
use Rattle.design_meaning.specs.Runs.{valuation_of}
use Rattle.design_signals.specs.declared.sig_bit.SigBit.{SigBit}
use Rattle.design_check.proofs.flat.is_broken.Goals as goal

pub is_set-requires-clause-declared : goal.is_set-requires-clause-declared
is_set-requires-clause-declared c =
    rw c.signal.ensures.bits (All-signal_at (IsDeclared c.args.design.now.wires c.args.design.now.free) c.args.cell.now.ports En c.requires.declared.ports)

pub is_set-requires-then-is_set-clause-declared : goal.is_set-requires-then-is_set-clause-declared
is_set-requires-then-is_set-clause-declared c =
    rw c.signal-then-is_set.ensures.bits (All-signal_at (IsDeclared c.args.design.now.wires c.args.design.now.free) c.args.cell.now.ports A c.requires.declared.ports)

pub returns-then-is_set : goal.returns-then-is_set
returns-then-is_set c =
    let flag : List SigBit → Bool = λ s. is_set (row_in (valuation_of c.args.design.now c.args.cycle.now) s) in
    let enabled = c.if-is_set.ensures ∙ ap flag c.signal.ensures.bits in
    let says' = c.is_set-then-is_set.ensures ∙ ap flag c.signal-then-is_set.ensures.bits in
    ap not says' ∙ ap (λ (b : Bool). b && not (says (valuation_of c.args.design.now c.args.cycle.now) c.args.cell.now)) enabled

pub returns-else-is_set : goal.returns-else-is_set
returns-else-is_set c =
    let flag : List SigBit → Bool = λ s. is_set (row_in (valuation_of c.args.design.now c.args.cycle.now) s) in
    let enabled = c.if-is_set.ensures ∙ ap flag c.signal.ensures.bits in
    c.if-is_set.false ∙ ap (λ (b : Bool). b && not (says (valuation_of c.args.design.now c.args.cycle.now) c.args.cell.now)) enabled
