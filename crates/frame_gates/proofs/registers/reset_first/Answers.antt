use Rattle.std.proofs.Common.{arith, ap, sym, ◌∙◌, length, rules}
use Rattle.gate_rows.proofs.Building.{Builds-trans}
use Rattle.frame_gates.proofs.Choosing.{kept_long, reset_means}
use Rattle.frame_gates.proofs.registers.reset_first.Goals as goal

pub mux-requires-2-clause-width : goal.mux-requires-2-clause-width
mux-requires-2-clause-width c =
    let v = ap length c.as_slice-value.ensures.value in
    kept_long c.mux.new.gates c.as_slice-q.result.now c.as_slice-d.result.now c.in_ok-kept.kept.items c.as_slice.result.now c.args.words.now.a.items c.args.words.now.b.items c.args.enable
    c.as_slice-q.ensures.value c.as_slice-d.ensures.value c.requires.b_width c.as_slice.ensures.value c.in_ok-kept.ensures.row
    ∙ sym c.requires.s_width ∙ sym v

pub returns-in_err-next-clause-builds : goal.returns-in_err-next-clause-builds
returns-in_err-next-clause-builds c =
    let q = ap length c.as_slice-q.ensures.value in
    let n = kept_long c.mux.new.gates c.as_slice-q.result.now c.as_slice-d.result.now c.in_ok-kept.kept.items c.as_slice.result.now c.args.words.now.a.items c.args.words.now.b.items c.args.enable
    c.as_slice-q.ensures.value c.as_slice-d.ensures.value c.requires.b_width c.as_slice.ensures.value c.in_ok-kept.ensures.row in
    Builds-trans c.args.gates.now c.mux.new.gates c.mux-2.new.gates (length c.as_slice-q.result.now) (length c.as_slice.result.now) _ c.mux.ensures.builds c.mux-2.ensures.builds (omega (arith, q, n))

pub returns-in_err-next-clause-too_many : goal.returns-in_err-next-clause-too_many
returns-in_err-next-clause-too_many c =
    let q = ap length c.as_slice-q.ensures.value in
    let n = kept_long c.mux.new.gates c.as_slice-q.result.now c.as_slice-d.result.now c.in_ok-kept.kept.items c.as_slice.result.now c.args.words.now.a.items c.args.words.now.b.items c.args.enable
    c.as_slice-q.ensures.value c.as_slice-d.ensures.value c.requires.b_width c.as_slice.ensures.value c.in_ok-kept.ensures.row in
    let most = c.mux.ensures.builds.most in
    let limit = c.mux.ensures.builds.continues.limit in
    search rules

pub returns-clause-row : goal.returns-clause-row
returns-clause-row c =
    let kept = rw (c.as_slice-q.ensures.value, c.as_slice-d.ensures.value) at c.in_ok-kept.ensures.row in
    let next = rw (c.as_slice.ensures.value, c.as_slice-value.ensures.value) at c.in_ok-next.ensures.row in
    reset_means c.mux.new.gates c.mux-2.new.gates c.args.words.now.a.items c.args.words.now.b.items c.args.words.now.s.items c.in_ok-kept.kept.items c.in_ok-next.next.items c.args.enable c.args.reset
    c.mux-2.ensures.builds.continues kept next

pub returns-clause-builds : goal.returns-clause-builds
returns-clause-builds c =
    let q = ap length c.as_slice-q.ensures.value in
    let n = kept_long c.mux.new.gates c.as_slice-q.result.now c.as_slice-d.result.now c.in_ok-kept.kept.items c.as_slice.result.now c.args.words.now.a.items c.args.words.now.b.items c.args.enable
    c.as_slice-q.ensures.value c.as_slice-d.ensures.value c.requires.b_width c.as_slice.ensures.value c.in_ok-kept.ensures.row in
    Builds-trans c.args.gates.now c.mux.new.gates c.mux-2.new.gates (length c.as_slice-q.result.now) (length c.as_slice.result.now) _ c.mux.ensures.builds c.mux-2.ensures.builds (omega (arith, q, n))
