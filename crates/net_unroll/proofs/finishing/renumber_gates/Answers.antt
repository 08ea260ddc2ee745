use Rattle.std.proofs.Common.{◌≡◌, ◌-◌, ◌<◌, ◌≤◌, ℕ, List, Bool, true, false, drop, get_or, set, length, refl, sym, ap, subst, ◌∙◌, arith}
use Rattle.std.specs.Prelude.{All, slice_get, Some}
use Rattle.std.proofs.lemmas.List.{length-set}
use Rattle.std.proofs.lemmas.List.Elements.{All-get_or}
use Rattle.std.proofs.lemmas.Option.{get_or_from_slice_get, slice_get_read}
use Rattle.cnf_form.specs.Cnf.{LitOf, LitWithin}
use Rattle.gate_graph.specs.declared.gate.Gate.{Gate}
use Rattle.gate_graph.specs.Folding.{operands}
use Rattle.gate_graph.specs.Kept.{OthersWithin}
use Rattle.net_unroll.specs.Encoding.{renumbered_entry}
use Rattle.net_unroll.specs.Finishing.{HasMarks}
use Rattle.net_unroll.proofs.Compacting.{kept_on, left_out, rest_later, rest_set, stands}
use Rattle.net_unroll.proofs.finishing.renumber_gates.Goals as goal
use Rattle.net_unroll.proofs.finishing.renumber_gates.Goals.{then-marks-var, else-marks-var}

entry_within : (kept old : List (Gate × LitOf)) (numbers : List ℕ) (p : ℕ) (e : Gate × LitOf) → p < length old → length kept ≡ length old → drop p kept ≡ drop p old → e ≡ get_or kept p e →
    All (λ (e : Gate × LitOf). OthersWithin (length numbers - 1) (operands e.0) × LitWithin (length numbers - 1) e.1) old → OthersWithin (length numbers - 1) (operands e.0) × LitWithin (length numbers - 1) e.1
entry_within kept old numbers p e inside size rest is all =
    let was = stands kept old p e inside size rest (slice_get_read kept (length kept) p e refl (omega arith) is) in
    subst (λ (e : Gate × LitOf). OthersWithin (length numbers - 1) (operands e.0) × LitWithin (length numbers - 1) e.1) (get_or_from_slice_get old p e e was)
    (All-get_or (λ (e : Gate × LitOf). OthersWithin (length numbers - 1) (operands e.0) × LitWithin (length numbers - 1) e.1) old p e inside all)

pub bounds-marks-var : goal.bounds-marks-var
bounds-marks-var c =
    let l = c.loop-place in
    let inside : l.place < length c.args.kept.now.items = let n = c.len-place-end.ensures ∙ c.args.kept.now.ok.0 in let t = c.loop-place-test.true in omega arith in
    let within = (entry_within l.kept.items c.args.kept.now.items c.args.numbers.now l.place c.index.result.now inside l.invariant.size l.invariant.rest c.index.ensures c.requires.kept).1 in
    let some = within.0 in
    let few = within.1 in
    let v = c.var.ensures in
    let size = c.requires.size in
    omega arith

pub renumbered_gate-requires-clause-inside : goal.renumbered_gate-requires-clause-inside
renumbered_gate-requires-clause-inside c =
    let l = c.loop-place in
    let inside : l.place < length c.args.kept.now.items = let n = c.len-place-end.ensures ∙ c.args.kept.now.ok.0 in let t = c.loop-place-test.true in omega arith in
    (entry_within l.kept.items c.args.kept.now.items c.args.numbers.now l.place c.index.result.now inside l.invariant.size l.invariant.rest c.index.ensures c.requires.kept).0

pub renumbered-requires-clause-inside : goal.renumbered-requires-clause-inside
renumbered-requires-clause-inside c =
    let l = c.loop-place in
    let inside : l.place < length c.args.kept.now.items = let n = c.len-place-end.ensures ∙ c.args.kept.now.ok.0 in let t = c.loop-place-test.true in omega arith in
    (entry_within l.kept.items c.args.kept.now.items c.args.numbers.now l.place c.index.result.now inside l.invariant.size l.invariant.rest c.index.ensures c.requires.kept).1

tested : (marks : List Bool) (test : ℕ → Bool) (v w : ℕ) (b : Bool) → HasMarks marks test → w < length marks → v ≡ w → get_or marks v false ≡ b → test w ≡ b
tested marks test v w b has inside e is = sym (has.each w inside) ∙ ap (λ (u : ℕ). get_or marks u false) (sym e) ∙ is

pub loop-place-preserved : goal.loop-place-preserved
loop-place-preserved c =
    let l = c.loop-place in
    let e = c.index.result.now in
    let old : List (Gate × LitOf) = c.args.kept.now.items in
    let size : length l.kept.items ≡ length old = l.invariant.size in
    let rest : drop l.place l.kept.items ≡ drop l.place old = l.invariant.rest in
    let low : l.count ≤ l.place = l.invariant.count in
    let inside : l.place < length old = let n = c.len-place-end.ensures ∙ c.args.kept.now.ok.0 in let t = c.loop-place-test.true in omega arith in
    let is : slice_get l.kept.items l.place ≡ Some e = slice_get_read l.kept.items (length l.kept.items) l.place e refl (omega arith) c.index.ensures in
    let within = (entry_within l.kept.items old c.args.numbers.now l.place e inside size rest c.index.ensures c.requires.kept).1 in
    let var : e.1.var < length c.args.marks.now = let some = within.0 in let few = within.1 in let s = c.requires.size in omega arith in
    let test_is = λ (test : ℕ → Bool) (b : Bool) (m : HasMarks c.args.marks.now test) (at : get_or c.args.marks.now c.var.result false ≡ b). tested c.args.marks.now test c.var.result e.1.var b m var c.var.ensures at in
    elim c.if-marks-var.branch [
      | then-marks-var w ↦ rw (w.kept-is, w.count-is) (record {
        size = length-set l.kept.items l.count (w.renumbered_gate.result, w.renumbered.result) ∙ size;
        count = omega arith;
        done = λ test n m. rw (w.renumbered_gate.ensures test n, w.renumbered.ensures test n)
            (kept_on l.kept.items old l.place e inside size rest (λ e. test e.1.var) (renumbered_entry test) is l.count (l.invariant.done test n m) (test_is test true m w.if-marks-var.true) low);
        rest = rest_set l.kept.items old l.place e inside size rest l.count (w.renumbered_gate.result, w.renumbered.result) low;
      })
      | else-marks-var w ↦ rw (w.kept-is, w.count-is) (record {
        size = size;
        count = omega arith;
        done = λ test n m. left_out l.kept.items old l.place e inside size rest (λ e. test e.1.var) (renumbered_entry test) is l.count (l.invariant.done test n m) (test_is test false m w.if-marks-var.false);
        rest = rest_later l.kept.items old l.place e inside size rest;
      })
    ]
