use Rattle.std.proofs.Common.{◌≡◌, ◌∙◌, ◌<◌, ◌≤◌, ◌+◌, ℕ, Bool, List, Option, length, take, drop, ap, sym, arith, length-append}
use Rattle.std.specs.List.{flat_map}
use Rattle.std.proofs.lemmas.List.{drop-drop, length-take-le}
use Rattle.model_core.specs.Shape.{RegisterOf}
use Rattle.model_core.proofs.Lists.{at_place}
use Rattle.model_cone.specs.Slice.{kept_by}
use Rattle.model_cone.proofs.Growing.{left-room, registers-grow, states-next}
use Rattle.model_cone.proofs.slice.push_registers.Goals as goal

pub split_at-requires : goal.split_at-requires
split_at-requires c =
    let m = c.args.model.now in
    let l : c.loop-register.register < length m.registers = omega arith in
    let r = at_place m.registers c.loop-register.register l in
    let e : length c.q.result.now ≡ length r.0.q = ap (λ (qs : List ℕ). length qs) (c.q.ensures r.0 r.1) in
    let w = left-room m c.loop-register.register r.0 r.1 c.requires.model.starts c.loop-register.left.now c.loop-register.invariant.left in
    omega arith

pub push_register-requires-clause-digits : goal.push_register-requires-clause-digits
push_register-requires-clause-digits c r at =
    let e : length c.q.result.now ≡ length r.q = ap (λ (qs : List ℕ). length qs) (c.q.ensures r at) in
    let w = left-room c.args.model.now c.loop-register.register r at c.requires.model.starts c.loop-register.left.now c.loop-register.invariant.left in
    let n : length c.q.result.now ≤ length c.loop-register.left.now = omega arith in
    ap (λ (ds : List (Option Bool)). length ds) c.split_at.ensures.front ∙ length-take-le (length c.q.result.now) c.loop-register.left.now n ∙ e

pub loop-register-preserved : goal.loop-register-preserved
loop-register-preserved c =
    let m = c.args.model.now in
    let i = c.loop-register.register in
    let l : i < length m.registers = omega arith in
    let r = at_place m.registers i l in
    let ps : List ℕ = flat_map (λ (k : RegisterOf). k.q) (take i m.registers) in
    let e : length c.q.result.now ≡ length r.0.q = ap (λ (qs : List ℕ). length qs) (c.q.ensures r.0 r.1) in
    let n : length (flat_map (λ (k : RegisterOf). k.q) (take (i + 1) m.registers)) ≡ length ps + length r.0.q =
    ap (λ (qs : List ℕ). length qs) (states-next m.registers i r.0 r.1) ∙ length-append ps r.0.q in
    record {
      left =
          c.split_at.ensures.back
          ∙ ap (λ (k : ℕ). drop k c.loop-register.left.now) e
          ∙ ap (λ (ds : List (Option Bool)). drop (length r.0.q) ds) c.loop-register.invariant.left
          ∙ drop-drop (length r.0.q) (length ps) m.starts
          ∙ ap (λ (k : ℕ). drop k m.starts) (sym n);
      draft =
          registers-grow (kept_by c.args.marks.now) m i r.0 r.1 c.requires.model.starts c.loop-register.left.now c.split_at.result.0.now _ _ _ c.loop-register.invariant.left
          (c.split_at.ensures.front ∙ ap (λ (k : ℕ). take k c.loop-register.left.now) e) c.loop-register.invariant.draft (c.in_ok-push_register.ensures r.0 r.1);
    }
