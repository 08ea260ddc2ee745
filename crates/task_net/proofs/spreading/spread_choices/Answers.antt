use Rattle.std.proofs.Common.{◌≡◌, ◌∙◌, ◌≤◌, ◌*◌, ℕ, List, length, map, take, ap, refl, sym, arith}
use Rattle.std.specs.List.{flat_map}
use Rattle.std.proofs.lemmas.List.{take_all}
use Rattle.sby_bits.specs.Rows.{Row}
use Rattle.model_core.specs.Choices.{ChoicesOf}
use Rattle.model_play.specs.Packed.{rows_of}
use Rattle.task_net.specs.Spreading.{spread_bits}
use Rattle.task_net.proofs.Spreads.{rows-back, rows-length, rows-next}
use Rattle.task_net.proofs.spreading.spread_choices.Goals as goal

pub loop-cycle-preserved : goal.loop-cycle-preserved
loop-cycle-preserved c =
    rows-next (spread_bits c.args.inputs.now) c.args.choices.now.inputs c.loop-cycle.cycle c.inputs.result.now c.loop-cycle.rows.items _ c.inputs.ensures c.loop-cycle.invariant c.in_ok-spread_row-2.ensures

all-rows : (f : Row → Row) (rows : List Row) (k : ℕ) (bits : Row) → length rows ≤ k → bits ≡ flat_map f (take k rows) → bits ≡ flat_map f rows
all-rows f rows k bits l e = e ∙ ap (flat_map f) (take_all k rows l)

pub new-requires : goal.new-requires
new-requires c =
    let e = c.cycles-cycles.ensures in
    let all = all-rows (spread_bits c.args.inputs.now) c.args.choices.now.inputs c.loop-cycle.cycle c.loop-cycle.rows.items (omega arith) c.loop-cycle.invariant in
    ap (λ (bs : Row). length bs) all ∙ rows-length c.args.inputs.now c.args.choices.now.inputs ∙ ap (λ (n : ℕ). n * length c.args.inputs.now) (sym e)

pub returns : goal.returns
returns c =
    let e = c.cycles-cycles.ensures in
    let w = length c.args.inputs.now in
    let all = all-rows (spread_bits c.args.inputs.now) c.args.choices.now.inputs c.loop-cycle.cycle c.loop-cycle.rows.items (omega arith) c.loop-cycle.invariant in
    let begun : c.spread_row.new.bits.items ≡ spread_bits c.args.starts.now c.args.choices.now.starts =
    c.in_ok-spread_row.ensures ∙ rw (c.new-begun.ensures.items, c.starts.ensures) refl in
    let rows : rows_of w c.cycles-cycles.result c.loop-cycle.rows.items ≡ map (spread_bits c.args.inputs.now) c.args.choices.now.inputs =
    ap (λ (n : ℕ). rows_of w n c.loop-cycle.rows.items) e ∙ ap (rows_of w (length c.args.choices.now.inputs)) all ∙ rows-back c.args.inputs.now w c.args.choices.now.inputs refl in
    c.new.ensures ∙ by begun rows
  where
    by : {a b : Row} {x y : List Row} → a ≡ b → x ≡ y → ◌≡◌ {A = ChoicesOf} (record { starts = a; inputs = x }) (record { starts = b; inputs = y })
    by f g = rw (f, g) refl
