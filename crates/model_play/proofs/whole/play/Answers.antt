use Rattle.std.proofs.Common.{◌≡◌, ◌∙◌, ◌+◌, ◌++◌, ◌∷◌, [], Some, ℕ, ap, sym, subst, arith, length, take, List}
use Rattle.std.specs.Prelude.{slice_get, All}
use Rattle.std.proofs.lemmas.List.{take_all, take_more}
use Rattle.std.proofs.lemmas.Option.{get_or_from_slice_get, slice_get_within}
use Rattle.sby_bits.specs.Rows.{Row}
use Rattle.model_core.specs.Choices.{ChoicesOf, Plays}
use Rattle.model_core.specs.Shape.{ModelOf}
use Rattle.model_play.specs.Packed.{packed_rows}
use Rattle.model_play.specs.Playing.{IsLast, cycles_of}
use Rattle.model_play.proofs.Packing.{length-packed_rows}
use Rattle.model_play.proofs.Wholes.{IsPacked, packed_more, packed_plays, packed_wide}
use Rattle.model_play.proofs.whole.play.Goals as goal

take_next : (xs : List Row) (i : ℕ) (y : Row) → slice_get xs i ≡ Some y → take i xs ++ y ∷ [] ≡ take (i + 1) xs
take_next xs i y e = ap (λ (r : Row). take i xs ++ r ∷ []) (sym (get_or_from_slice_get xs i y y e)) ∙ sym (take_more xs i y (slice_get_within xs i y e))

pub loop-cycle-preserved : goal.loop-cycle-preserved
loop-cycle-preserved c =
    let m = c.args.model.now in
    let xs = c.args.choices.now.inputs in
    let h : ChoicesOf = record { starts = c.args.choices.now.starts; inputs = take c.loop-cycle.cycle xs } in
    let y = c.inputs.result.now in
    let more = c.step.ensures.playing h c.loop-cycle.invariant.playing in
    let at = c.step.ensures.model ∙ c.loop-cycle.invariant.model in
    subst (λ (rows : List Row). IsPacked m c.step.new.self (record { starts = c.args.choices.now.starts; inputs = rows }) c.add_row.new.words.items) (take_next xs c.loop-cycle.cycle y c.inputs.ensures)
    (packed_more m c.size-size.ensures.model c.loop-cycle.player c.step.new.self h y c.row.result.now c.loop-cycle.words.items c.add_row.new.words.items c.loop-cycle.invariant c.step.ensures.model c.step.ensures.stage more
    (subst (λ (z : ModelOf). IsLast z (record h { inputs = h.inputs ++ y ∷ [] }) c.row.result.now) at (c.row.ensures.last (record h { inputs = h.inputs ++ y ∷ [] }) more))
    (c.row.ensures.size ∙ ap (λ (z : ModelOf). z.size) at) c.in_ok-add_row.ensures.size c.in_ok-add_row.ensures.row c.in_ok-add_row.ensures.before)

pub returns-clause-plays : goal.returns-clause-plays
returns-clause-plays c =
    let m = c.args.model.now in
    let xs = c.args.choices.now.inputs in
    let e : c.of_words.result ≡ packed_rows c.loop-cycle.words.items m.size c.cycles-cycles.result = c.of_words.ensures ∙ ap (λ (w : ℕ). packed_rows c.loop-cycle.words.items w c.cycles-cycles.result) c.size-size.ensures.size in
    let t = c.loop-cycle-test.false in
    let n = c.cycles-cycles.ensures in
    let whole = subst (λ (rows : List Row). IsPacked m c.loop-cycle.player (record { starts = c.args.choices.now.starts; inputs = rows }) c.loop-cycle.words.items)
    (take_all c.loop-cycle.cycle xs (omega (arith, t, n))) c.loop-cycle.invariant in
    subst (λ (rows : List Row). Plays m c.args.choices.now (cycles_of rows)) (sym e)
    (packed_plays m c.size-size.ensures.model c.loop-cycle.player c.args.choices.now c.loop-cycle.words.items c.cycles-cycles.result c.requires.some n whole)

pub returns-clause-cycles : goal.returns-clause-cycles
returns-clause-cycles c =
    ap (λ (rows : List Row). length rows) c.of_words.ensures ∙ length-packed_rows c.loop-cycle.words.items c.size-size.result c.cycles-cycles.result ∙ c.cycles-cycles.ensures

pub returns-clause-rows : goal.returns-clause-rows
returns-clause-rows c =
    let m = c.args.model.now in
    let e : c.of_words.result ≡ packed_rows c.loop-cycle.words.items m.size c.cycles-cycles.result = c.of_words.ensures ∙ ap (λ (w : ℕ). packed_rows c.loop-cycle.words.items w c.cycles-cycles.result) c.size-size.ensures.size in
    subst (λ (rows : List Row). All (λ row. length row ≡ m.size) rows) (sym e) (packed_wide c.loop-cycle.words.items m.size c.cycles-cycles.result)
