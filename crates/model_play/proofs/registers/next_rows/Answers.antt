use Rattle.std.proofs.Common.{rules, ◌+◌, ◌-◌, ◌∙◌, ◌<◌, ◌≤◌, ap, arith, length, List, ℕ, Bool}
use Rattle.model_core.proofs.Lists.{at_place}
use Rattle.model_core.proofs.Runs.{next_wide}
use Rattle.model_play.specs.Playing.{cycle_of}
use Rattle.model_play.proofs.Models.{register_at, register_room, rows_step}
use Rattle.model_play.proofs.registers.next_rows.Goals as goal

pub overflow_add-end : goal.overflow_add-end
overflow_add-end c =
    let l : c.loop-register.register < length c.args.model.now.registers = let e = c.registers-register-end.ensures in let t = c.loop-register-test.true in omega (arith, e, t) in
    let r = at_place c.args.model.now.registers c.loop-register.register l in
    let room = register_room c.args.model.now c.requires.model c.loop-register.register r.0 r.1 in
    let wide = c.next_places-places.ensures.width r.0 r.1 in
    let reached = c.loop-register.invariant.reached in
    let held = c.requires.held in
    let now = c.loop-register.auto.held in
    let most : c.loop-register.end + length c.next_places-places.result.now ≤ length c.loop-register.held = omega (arith, room, wide, reached, held, now) in
    search rules

pub slice_bounds-read_row-end : goal.slice_bounds-read_row-end
slice_bounds-read_row-end c =
    let l : c.loop-register.register < length c.args.model.now.registers = let e = c.registers-register-end.ensures in let t = c.loop-register-test.true in omega (arith, e, t) in
    let r = at_place c.args.model.now.registers c.loop-register.register l in
    let room = register_room c.args.model.now c.requires.model c.loop-register.register r.0 r.1 in
    let wide = c.next_places-places.ensures.width r.0 r.1 in
    let reached = c.loop-register.invariant.reached in
    let held = c.requires.held in
    let now = c.loop-register.auto.held in
    let most : c.loop-register.end + length c.next_places-places.result.now ≤ length c.loop-register.held = omega (arith, room, wide, reached, held, now) in
    omega arith

pub loop-register-preserved : goal.loop-register-preserved
loop-register-preserved c =
    let l : c.loop-register.register < length c.args.model.now.registers = let e = c.registers-register-end.ensures in let t = c.loop-register-test.true in omega (arith, e, t) in
    let r = at_place c.args.model.now.registers c.loop-register.register l in
    let room = register_room c.args.model.now c.requires.model c.loop-register.register r.0 r.1 in
    let wide = c.next_places-places.ensures.width r.0 r.1 in
    let reached = c.loop-register.invariant.reached in
    let held = c.requires.held in
    let now = c.loop-register.auto.held in
    let row = c.read_row.ensures ∙ c.next_places-places.ensures.next r.0 r.1 in
    let le : c.loop-register.end ≤ length c.loop-register.held = omega (arith, room, wide, reached, held, now) in
    let step = rows_step c.args.model.now.registers c.loop-register.register r.0 (cycle_of c.args.table.now) c.loop-register.end (c.loop-register.end + length c.next_places-places.result.now)
    (c.loop-register.end + length c.next_places-places.result.now - c.loop-register.end) c.loop-register.held c.read_row.new.row r.1 reached c.loop-register.invariant.rows le row
    (ap (λ (xs : List Bool). length xs) row ∙ next_wide (cycle_of c.args.table.now) c.args.model.now.size r.0 (register_at c.args.model.now c.requires.model c.loop-register.register r.0 r.1))
    (ap (λ (x : ℕ). c.loop-register.end + x) wide) in
    record { reached = step.0; rows = step.1 }
