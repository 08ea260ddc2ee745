use Rattle.std.proofs.Common.{◌≡◌, ◌-◌, ◌∙◌, ◌^◌, Bool, false, cond, get_or, ap, sym, arith, refl}
use Rattle.cell_rows.proofs.Choosing.{number_small}
use Rattle.cell_rows.proofs.choices.number.Goals as goal
use Rattle.cell_rows.proofs.choices.number.Goals.{then-s-place, else-s-place}

pub overflow_mul-count : goal.overflow_mul-count
overflow_mul-count c =
    let t = c.loop-place-test.true in
    let i = c.loop-place.invariant in
    let r = c.requires in
    let h = number_small c.args.s.now (c.loop-place.place - 1) c.loop-place.place (2 ^ 64) _ (omega arith) (omega arith) refl (omega arith) in
    omega arith

pub overflow_add-count : goal.overflow_add-count
overflow_add-count c =
    let t = c.loop-place-test.true in
    let i = c.loop-place.invariant in
    let r = c.requires in
    let bit : c.if-s-place.count ≡ cond (get_or c.args.s.now (c.loop-place.place - 1) false) 1 0 = elim c.if-s-place.branch [
      | then-s-place w ↦ w.count-is ∙ ap (λ (b : Bool). cond b 1 0) (sym w.if-s-place.true)
      | else-s-place w ↦ w.count-is ∙ ap (λ (b : Bool). cond b 1 0) (sym w.if-s-place.false)
    ] in
    let h = number_small c.args.s.now (c.loop-place.place - 1) c.loop-place.place (2 ^ 64) _ (omega arith) (omega arith) refl (omega arith) in
    omega arith
