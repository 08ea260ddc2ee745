use Rattle.std.proofs.Common.{◌<◌, ◌≤◌, ◌∙◌, ◌++◌, List, length, map, ap}
use Rattle.std.specs.List.{flat_map, enumerate_from, range_with_len}
use Rattle.digraph.proofs.Lists.{get-at}
use Rattle.design_meaning.specs.States.{open_bits}
use Rattle.design_signals.specs.declared.sig_bit.SigBit.{SigBit}
use Rattle.design_signals.specs.declared.sig_bit.SigBit.TheVariants.{Free}
use Rattle.design_states.proofs.Listing.{listed-next, listed-end}
use Rattle.design_states.proofs.input_bits.input_bits.Goals as goal

pub loop-wire-preserved : goal.loop-wire-preserved
loop-wire-preserved c =
    let d = c.args.design.now in
    let lt : c.loop-wire.wire < length c.args.design.now.wires = rw c.wires-wires.ensures.wires at c.loop-wire-test.true in
    let x = get-at d.wires c.loop-wire.wire lt in
    listed-next (open_bits d) d.wires (flat_map (open_bits d) (enumerate_from 0 d.wires)) c.loop-wire.wire c.loop-wire.bits.items c.push_open.new.bits.items x.0 x.1 (c.in_ok-push_open.ensures x.0 x.1)
    c.loop-wire.invariant

pub returns : goal.returns
returns c =
    let d = c.args.design.now in
    let most : length c.args.design.now.wires ≤ c.loop-wire.wire = rw c.wires-wires.ensures.wires at c.loop-wire-test.false in
    let wires = listed-end (open_bits d) d.wires (flat_map (open_bits d) (enumerate_from 0 d.wires)) c.loop-wire.wire c.loop-wire.bits.items most c.loop-wire.invariant in
    c.in_ok-push_free.ensures
    ∙ (ap (λ (l : List SigBit). l ++ map (λ n. Free n) (range_with_len 0 c.free.result)) wires
    ∙ ap (λ n. flat_map (open_bits c.args.design.now) (enumerate_from 0 c.args.design.now.wires) ++ map (λ m. Free m) (range_with_len 0 n)) c.free.ensures.free)
