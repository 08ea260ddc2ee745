use Rattle.std.proofs.Common.{arith, rules, add-one, ◌*◌, length}
use Rattle.std.proofs.lemmas.List.{take_all}
use Rattle.gate_rows.proofs.Building.{Builds-trans}
use Rattle.model_core.specs.Shape.{RegisterOf}
use Rattle.model_core.proofs.Lists.{at_place}
use Rattle.frame_gates.proofs.Noding.{sum_step, sum_within}
use Rattle.frame_gates.proofs.Following.{next_more}
use Rattle.frame_gates.proofs.registers.next_states.Goals as goal

pub returns-in_err-word-clause-builds : goal.returns-in_err-word-clause-builds
returns-in_err-word-clause-builds c =
    let r = at_place c.args.model.now.registers c.loop-register.register (let e = c.registers-register-end.ensures in let h = c.loop-register-test.true in omega arith) in
    let s = sum_within (λ (k : RegisterOf). 2 * length k.q) c.args.model.now.registers c.loop-register.register r.0 r.1 in
    Builds-trans c.args.gates.now c.loop-register.gates c.next_of.new.gates _ (2 * length r.0.q) _ c.loop-register.invariant.builds (c.next_of.ensures.builds r.0 r.1) s

pub returns-in_err-word-clause-too_many : goal.returns-in_err-word-clause-too_many
returns-in_err-word-clause-too_many c =
    let r = at_place c.args.model.now.registers c.loop-register.register (let e = c.registers-register-end.ensures in let h = c.loop-register-test.true in omega arith) in
    let s = sum_within (λ (k : RegisterOf). 2 * length k.q) c.args.model.now.registers c.loop-register.register r.0 r.1 in
    let most = c.loop-register.invariant.builds.most in
    let limit = c.loop-register.invariant.builds.continues.limit in
    let full = c.in_err-word.ensures.too_many in
    λ e. let f = full (search rules) r.0 r.1 in record { full = f.full; past = let q = f.past in omega arith }

pub returns-in_err-extend_from_slice-clause-builds : goal.returns-in_err-extend_from_slice-clause-builds
returns-in_err-extend_from_slice-clause-builds c =
    let r = at_place c.args.model.now.registers c.loop-register.register (let e = c.registers-register-end.ensures in let h = c.loop-register-test.true in omega arith) in
    let s = sum_within (λ (k : RegisterOf). 2 * length k.q) c.args.model.now.registers c.loop-register.register r.0 r.1 in
    Builds-trans c.args.gates.now c.loop-register.gates c.next_of.new.gates _ (2 * length r.0.q) _ c.loop-register.invariant.builds (c.next_of.ensures.builds r.0 r.1) s

pub loop-register-preserved : goal.loop-register-preserved
loop-register-preserved c =
    let r = at_place c.args.model.now.registers c.loop-register.register (let e = c.registers-register-end.ensures in let h = c.loop-register-test.true in omega arith) in
    let s = sum_step (λ (k : RegisterOf). 2 * length k.q) c.args.model.now.registers c.loop-register.register r.0 r.1 in
    record {
      row = rw (c.in_ok-extend_from_slice.ensures.items, c.as_slice.ensures.value, add-one)
          (next_more c.args.model.now c.loop-register.gates c.next_of.new.gates c.args.table.now c.loop-register.row.items c.in_ok-word.word.items c.loop-register.register r.0 r.1
          (c.next_of.ensures.builds r.0 r.1).continues c.loop-register.invariant.row (c.in_ok-word.ensures.row r.0 r.1));
      builds = rw s
          (Builds-trans c.args.gates.now c.loop-register.gates c.next_of.new.gates _ (2 * length r.0.q) _ c.loop-register.invariant.builds (c.next_of.ensures.builds r.0 r.1) (omega arith));
    }

pub returns-clause-row : goal.returns-clause-row
returns-clause-row c =
    let t = c.loop-register-test.false in
    let e = c.registers-register-end.ensures in
    let all = take_all c.loop-register.register c.args.model.now.registers (omega arith) in
    let b = rw all at c.loop-register.invariant.row in
    b
