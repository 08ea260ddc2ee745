use Rattle.std.proofs.Common.{◌∙◌, ℕ, ◌<◌, List, Option, length, ap, sym}
use Rattle.design_check.specs.Faults.{highest_wire, first_some, wire_or_dash}
use Rattle.design_signals.specs.declared.sig_bit.SigBit.{SigBit}
use Rattle.design_core.proofs.Lists.{item_at}
use Rattle.design_check.proofs.Highest.{first_some-or, either-declared, wire_name-at}
use Rattle.design_check.proofs.names.connect_name.Goals as goal

pub bounds-wires-wire : goal.bounds-wires-wire
bounds-wires-wire c =
    let d = c.args.design.now in
    let j = c.args.connect.now in
    let l = c.highest_wire-left.ensures ∙ ap (λ (s : List SigBit). highest_wire s) c.left.ensures.bits in
    let r = c.highest_wire-right.ensures ∙ ap (λ (s : List SigBit). highest_wire s) c.right.ensures.bits in
    let f = c.in-Some.ensures
    ∙ (first_some-or c.highest_wire-left.result c.highest_wire-right.result
    ∙ (ap (λ (o : Option ℕ). first_some o c.highest_wire-right.result) l ∙ ap (λ (o : Option ℕ). first_some (highest_wire c.args.connect.now.left) o) r)) in
    rw c.wires.ensures.wires (either-declared d.wires d.free j.left j.right c.requires.0 c.requires.1 c.in-Some.wire (sym f))

pub returns-in-Some : goal.returns-in-Some
returns-in-Some c =
    let d = c.args.design.now in
    let j = c.args.connect.now in
    let l = c.highest_wire-left.ensures ∙ ap (λ (s : List SigBit). highest_wire s) c.left.ensures.bits in
    let r = c.highest_wire-right.ensures ∙ ap (λ (s : List SigBit). highest_wire s) c.right.ensures.bits in
    let f = c.in-Some.ensures
    ∙ (first_some-or c.highest_wire-left.result c.highest_wire-right.result
    ∙ (ap (λ (o : Option ℕ). first_some o c.highest_wire-right.result) l ∙ ap (λ (o : Option ℕ). first_some (highest_wire c.args.connect.now.left) o) r)) in
    let lt : c.in-Some.wire < length c.wires.result.now = rw c.wires.ensures.wires (either-declared d.wires d.free j.left j.right c.requires.0 c.requires.1 c.in-Some.wire (sym f)) in
    let at = rw c.wires.ensures.wires at (item_at c.wires.result.now c.in-Some.wire c.index-wires-wire.result c.index-wires-wire.is lt) in
    c.name.ensures ∙ (sym (wire_name-at d c.in-Some.wire c.index-wires-wire.result at) ∙ ap (wire_or_dash c.args.design.now) f)
