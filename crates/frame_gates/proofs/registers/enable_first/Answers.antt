use Rattle.std.proofs.Common.{ap, sym, ◌∙◌, length}
use Rattle.frame_gates.proofs.Choosing.{enable_means, mux_long}
use Rattle.frame_gates.proofs.registers.enable_first.Goals as goal

pub mux-requires-2-clause-width : goal.mux-requires-2-clause-width
mux-requires-2-clause-width c =
    let q = ap length c.as_slice-q.ensures.value in
    let d = ap length c.as_slice-d.ensures.value in
    let v = ap length c.as_slice-value.ensures.value in
    let t = ap length c.as_slice.ensures.value in
    let b = c.requires.b_width in
    let s = c.requires.s_width in
    let m = mux_long c.mux.new.gates c.as_slice-d.result.now c.as_slice-value.result.now c.in_ok-taken.taken.items c.args.reset (d ∙ b ∙ sym s ∙ sym v) c.in_ok-taken.ensures.row in
    q ∙ sym b ∙ sym d ∙ sym m ∙ sym t

pub returns-clause-row : goal.returns-clause-row
returns-clause-row c =
    let taken = rw (c.as_slice-d.ensures.value, c.as_slice-value.ensures.value) at c.in_ok-taken.ensures.row in
    let next = rw (c.as_slice-q.ensures.value, c.as_slice.ensures.value) at c.in_ok-next.ensures.row in
    enable_means c.mux.new.gates c.mux-2.new.gates c.args.words.now.a.items c.args.words.now.b.items c.args.words.now.s.items c.in_ok-taken.taken.items c.in_ok-next.next.items c.args.enable c.args.reset
    c.mux-2.ensures.builds.continues taken next
