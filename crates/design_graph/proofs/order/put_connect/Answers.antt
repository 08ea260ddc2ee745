use Rattle.std.proofs.Common.{◌≡◌, ◌<◌, ◌≤◌, ◌∙◌, ◌++◌, List, Some, length, ap, subst, arith}
use Rattle.std.specs.Prelude.{slice_get}
use Rattle.design_core.proofs.Lists.{item_at}
use Rattle.design_signals.specs.Chunks.{bits_of}
use Rattle.design_signals.specs.declared.sig_bit.SigBit.{SigBit}
use Rattle.design_graph.proofs.Declared.{left-declared}
use Rattle.design_graph.proofs.Ordering.{put-bit, end-connect}
use Rattle.design_graph.proofs.order.put_connect.Goals as goal
use Rattle.design_graph.proofs.order.put_connect.Goals.{In_ok-push_bits, After-index}

connect : (c : In_ok-push_bits) → slice_get c.args.design.now.connects c.args.place ≡ Some c.index-connects-place.result
connect c =
    let lt : c.args.place < length c.connects-connects.result.now = rw c.connects-connects.ensures.connects c.requires.place in
    rw c.connects-connects.ensures.connects at (item_at c.connects-connects.result.now c.args.place c.index-connects-place.result c.index-connects-place.is lt)

-- the bits of the left side
bits : (c : In_ok-push_bits) → c.push_bits.new.bits.items ≡ c.index-connects-place.result.left
bits c = c.in_ok-push_bits.ensures ∙ (ap (λ (l : List SigBit). l ++ bits_of c.left.result.now) c.new-left.ensures.items ∙ c.left.ensures.bits)

bit : (c : After-index) → (x : In_ok-push_bits) → c.push_bits.new.bits.items ≡ c.index-connects-place.result.left → slice_get c.index-connects-place.result.left c.loop-bit.bit ≡ Some c.index.result.now
bit c x same =
    subst (λ (l : List SigBit). slice_get l c.loop-bit.bit ≡ Some c.index.result.now) same
    (item_at c.push_bits.new.bits.items c.loop-bit.bit c.index.result.now c.index.ensures (omega (arith, c.loop-bit-test.true, c.len-bit-end.ensures, c.push_bits.new.bits.ok.0)))

pub place-requires : goal.place-requires
place-requires c =
    let x = (goal.at.place-requires c).In_ok-push_bits in
    let y = (goal.at.place-requires c).After-index in
    left-declared c.args.design.now c.connects-connects.ensures.design c.args.place c.loop-bit.bit c.index-connects-place.result c.index.result.now (connect x) (bit y x (bits x))

pub loop-bit-preserved : goal.loop-bit-preserved
loop-bit-preserved c =
    let x = (goal.at.loop-bit-preserved c).In_ok-push_bits in
    let y = (goal.at.loop-bit-preserved c).After-index in
    let next = put-bit c.args.design.now c.connects-connects.ensures.design c.requires.once (length c.args.design.now.cells) c.args.place c.loop-bit.bit c.loop-bit.table c.index-connects-place.result
    c.index.result.now c.loop-bit.invariant (connect x) (bit y x (bits x)) in
    rw c.place.ensures.place next

pub returns : goal.returns
returns c =
    let x = (goal.at.returns c).In_ok-push_bits in
    let same : length c.push_bits.new.bits.items ≡ length c.index-connects-place.result.left = ap (λ (l : List SigBit). length l) (bits x) in
    let most : length c.index-connects-place.result.left ≤ c.loop-bit.bit = omega (arith, same, c.loop-bit-test.false, c.len-bit-end.ensures, c.push_bits.new.bits.ok.0) in
    end-connect c.args.design.now c.connects-connects.ensures.design (length c.args.design.now.cells) c.args.place c.loop-bit.bit c.loop-bit.table c.index-connects-place.result c.loop-bit.invariant (connect x) most
