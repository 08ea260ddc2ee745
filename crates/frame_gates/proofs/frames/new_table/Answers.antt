use Rattle.std.proofs.Common.{arith, ◌∙◌, ap, refl, suc, sym, true, false, length-append, [], ◌∷◌}
use Rattle.std.proofs.lemmas.List.Elements.{All-nil, All-push}
use Rattle.cnf_form.specs.Cnf.{LitWithin}
use Rattle.frame_gates.proofs.Opening.{constant_push}
use Rattle.frame_gates.proofs.Places.{one_source, source_below, zero_source}
use Rattle.frame_gates.proofs.frames.new_table.Goals as goal

pub loop-place-init : goal.loop-place-init
loop-place-init c = record {
  size = rw c.new-table.ensures.items refl;
  within = rw c.new-table.ensures.items (All-nil (LitWithin c.args.gates.now.formula.vars));
  zero = λ p h e. absurd (omega arith);
  one = λ p h e. absurd (omega arith);
}

pub loop-place-preserved : goal.loop-place-preserved
loop-place-preserved c =
    let z = c.constant_at.ensures.zero in
    let o = c.constant_at.ensures.one in
    record {
      size = rw c.in_ok-push.ensures (length-append c.loop-place.table.items (c.constant_at.result ∷ []) ∙ (let n = c.loop-place.invariant.size in omega arith));
      within = rw c.in_ok-push.ensures (All-push (LitWithin c.args.gates.now.formula.vars) c.loop-place.table.items c.constant_at.result c.loop-place.invariant.within c.constant_at.ensures.within);
      zero = rw c.in_ok-push.ensures
          (constant_push c.args.gates.now c.loop-place.table.items c.constant_at.result c.loop-place.place c.zero-low.result false c.loop-place.invariant.size c.loop-place.invariant.zero z);
      one = rw c.in_ok-push.ensures
          (constant_push c.args.gates.now c.loop-place.table.items c.constant_at.result c.loop-place.place (suc c.zero-low.result) true c.loop-place.invariant.size c.loop-place.invariant.one (λ e. o (omega arith)));
    }

pub returns : goal.returns
returns c =
    let is = c.size-place-end.ensures.model in
    let s = c.size-place-end.ensures.size in
    let low = c.zero-low.ensures in
    let n = c.loop-place.invariant.size in
    let t = c.loop-place-test.false in
    let a = source_below c.args.model.now is c.args.model.now.zero (zero_source c.args.model.now) in
    let b = source_below c.args.model.now is (suc c.args.model.now.zero) (one_source c.args.model.now) in
    record {
      is_table = record { size = omega arith; within = c.loop-place.invariant.within };
      zero = c.loop-place.invariant.zero c.args.model.now.zero (omega arith) (sym low);
      one = c.loop-place.invariant.one (suc c.args.model.now.zero) (omega arith) (ap suc (sym low));
    }
