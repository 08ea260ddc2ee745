use Rattle.std.proofs.Common.{◌≡◌, ◌<◌, ◌+◌, ◌∙◌, ℕ, suc, List, length, refl, sym, ap, subst, arith}
use Rattle.std.specs.List.{flat_map}
use Rattle.std.proofs.Math.Seq.{take-length}
use Rattle.btor_emit.specs.Nexts.{AreNexts, AreParts, MayHaveParts}
use Rattle.btor_emit.proofs.Edging.{edge_at, span_of}
use Rattle.btor_emit.proofs.NextRows.{all_done, ends, may_have, nexts_more, nexts_none}
use Rattle.btor_emit.proofs.registers.push_nexts.Goals as goal
use Rattle.model_core.specs.Shape.{RegisterOf, states}
use Rattle.model_core.proofs.Lists.{at_place}

pub loop-register-init : goal.loop-register-init
loop-register-init c = record { first = refl; inside = omega arith; bits = refl; nexts = nexts_none c.args.model.now c.args.draft.now c.args.table.now c.args.states.now c.requires.btor c.requires.seats }

pub overflow_add-end : goal.overflow_add-end
overflow_add-end c =
    let m = c.args.model.now in
    let i = c.loop-register.register in
    let l : i < length m.registers = omega arith in
    let span = span_of m i c.q.result.now c.requires.model.registers l c.q.ensures in
    let end = span.end in
    let first = c.loop-register.invariant.first in
    let inside = span.inside in
    let bits = ap (λ (ps : List ℕ). length ps) c.states-bits.ensures in
    omega arith

pub next_row-requires-clause-btor : goal.next_row-requires-clause-btor
next_row-requires-clause-btor c = c.loop-register.invariant.nexts.only.btor

pub next_row-requires-clause-seats : goal.next_row-requires-clause-seats
next_row-requires-clause-seats c = c.loop-register.invariant.nexts.seats

pub next_row-requires-clause-size : goal.next_row-requires-clause-size
next_row-requires-clause-size c = c.loop-register.invariant.nexts.size ∙ c.requires.size

pub push_parts-requires-clause-row : goal.push_parts-requires-clause-row
push_parts-requires-clause-row c =
    let m = c.args.model.now in
    let i = c.loop-register.register in
    let l : i < length m.registers = omega arith in
    let r = at_place m.registers i l in
    (c.in_ok-row.ensures r.0 r.1).word

pub push_parts-requires-clause-parts : goal.push_parts-requires-clause-parts
push_parts-requires-clause-parts c =
    let m = c.args.model.now in
    let i = c.loop-register.register in
    let l : i < length m.registers = omega arith in
    let r = at_place m.registers i l in
    let span = span_of m i c.q.result.now c.requires.model.registers l c.q.ensures in
    let ss = c.args.states.now in
    let inv = c.loop-register.invariant in
    let end = span.end in
    let first = inv.first in
    let z : suc i ≡ i + 1 = omega arith in
    let stop : edge_at m (suc i) ≡ c.loop-register.first + length c.q.result.now = ap (edge_at m) z ∙ sym end ∙ ap (λ (k : ℕ). k + length c.q.result.now) (sym first) in
    subst (λ (k : ℕ). MayHaveParts c.next_row.new.draft ss c.loop-register.done c.in_ok-row.row k (c.loop-register.first + length c.q.result.now)) (sym first)
    (subst (λ (k : ℕ). MayHaveParts c.next_row.new.draft ss c.loop-register.done c.in_ok-row.row (edge_at m i) k) stop
    (may_have m c.requires.model c.args.draft.now ss c.requires.states c.requires.none i r.0 r.1 c.loop-register.draft c.args.table.now c.loop-register.table c.loop-register.done inv.nexts (inv.bits ∙ first) inv.inside c.next_row.new.draft c.next_row.new.table c.in_ok-row.row _ (c.in_ok-row.ensures r.0 r.1)))

pub loop-register-preserved : goal.loop-register-preserved
loop-register-preserved c =
    let m = c.args.model.now in
    let i = c.loop-register.register in
    let l : i < length m.registers = omega arith in
    let r = at_place m.registers i l in
    let span = span_of m i c.q.result.now c.requires.model.registers l c.q.ensures in
    let ss = c.args.states.now in
    let inv = c.loop-register.invariant in
    let end = span.end in
    let first = inv.first in
    let z : suc i ≡ i + 1 = omega arith in
    let stop : c.loop-register.first + length c.q.result.now ≡ edge_at m (suc i) = sym (ap (edge_at m) z ∙ sym end ∙ ap (λ (k : ℕ). k + length c.q.result.now) (sym first)) in
    let to = c.in_ok-done.done in
    let parts : AreParts c.next_row.new.draft c.push_parts.new.draft ss c.loop-register.done to c.in_ok-row.row (edge_at m i) (edge_at m (suc i)) =
    subst (λ (k : ℕ). AreParts c.next_row.new.draft c.push_parts.new.draft ss c.loop-register.done to c.in_ok-row.row (edge_at m i) k) stop
    (subst (λ (k : ℕ). AreParts c.next_row.new.draft c.push_parts.new.draft ss c.loop-register.done to c.in_ok-row.row k (c.loop-register.first + length c.q.result.now)) first c.in_ok-done.ensures) in
    let put = c.in_ok-row.ensures r.0 r.1 in
    record {
      first = stop ∙ ap (edge_at m) z;
      inside = parts.inside;
      bits = ends m c.requires.model c.args.draft.now ss c.requires.states c.requires.none i r.0 r.1 c.loop-register.draft c.args.table.now c.loop-register.table c.loop-register.done inv.nexts (inv.bits ∙ first) inv.inside c.next_row.new.draft c.push_parts.new.draft c.next_row.new.table c.in_ok-row.row to put parts ∙ sym stop;
      nexts = nexts_more m c.requires.model c.args.draft.now ss c.requires.states c.requires.none i r.0 r.1 c.loop-register.draft c.args.table.now c.loop-register.table c.loop-register.done inv.nexts (inv.bits ∙ first) inv.inside c.next_row.new.draft c.push_parts.new.draft c.next_row.new.table c.in_ok-row.row to put parts;
    }

pub returns : goal.returns
returns c =
    let m = c.args.model.now in
    let ss = c.args.states.now in
    let inv = c.loop-register.invariant in
    let n : c.loop-register.register ≡ length m.registers = omega arith in
    let whole : edge_at m c.loop-register.register ≡ length (states m) = ap (edge_at m) n ∙ ap (λ (rs : List RegisterOf). length (flat_map (λ (r : RegisterOf). r.q) rs)) (take-length m.registers) in
    let all = all_done m c.requires.model c.args.draft.now ss c.requires.states c.requires.none c.loop-register.done inv.inside (inv.bits ∙ inv.first ∙ whole) in
    subst (λ (k : ℕ). AreNexts m c.args.draft.now c.loop-register.draft c.args.table.now c.loop-register.table ss k) all inv.nexts
