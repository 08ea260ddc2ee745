use Rattle.std.proofs.Common.{◌∙◌, ◌*◌, ◌<◌, ◌≤◌, ℕ, All, List, ap, arith, length, subst, sym}
use Rattle.sby_bits.specs.Rows.{Row}
use Rattle.model_core.specs.Choices.{AreChoicesFor, ChoicesOf}
use Rattle.btor_witness.specs.Grammar.{WitnessOf}
use Rattle.witness_judge.specs.Choosing.{AskedOf}
use Rattle.witness_judge.specs.Settling.{HasChosen, Tells}
use Rattle.witness_judge.proofs.Chosen.{choices_fit, kept_long, rows_below}
use Rattle.witness_judge.proofs.Telling.{made_choices, tells_run}
use Rattle.witness_judge.proofs.asked.Asked.play.Goals as goal

pub choices-requires-clause-read : goal.choices-requires-clause-read
choices-requires-clause-read c =
    subst (λ (l : List ℕ). All (λ p. p < c.self.inside.model.now.size) l) (sym c.places.ensures) (rows_below c.self.inside.model.now c.size-size.ensures.model c.self.inside.shape.inputs c.self.invariant.rows)

pub choices-requires-clause-width : goal.choices-requires-clause-width
choices-requires-clause-width c =
    let i = c.self.inside in
    let a : AskedOf = record { model = i.model.now; states = i.shape.states.items; inputs = i.shape.inputs; sought = i.sought } in
    let x = c.requires.0 in
    let chose : HasChosen a c.args.reader x = subst (λ (z : AskedOf). HasChosen z c.args.reader x) (sym c.self.view_is) c.requires.1 in
    let few : length x.frames ≤ a.sought.last = (let n = chose.kept.count in let f = c.frames-frames.ensures in let l = c.if-frames-last.false in let t = c.from-last.ensures in omega arith) in
    ap (λ (r : Row). length r) c.into_chosen-chosen.ensures.inputs
    ∙ kept_long a c.args.reader x chose few c.frames-frames.result c.frames-frames.ensures
    ∙ ap (λ (r : List ℕ). c.frames-frames.result * length r) (sym c.places.ensures)

pub play-requires-clause-fits : goal.play-requires-clause-fits
play-requires-clause-fits c =
    let i = c.self.inside in
    let a : AskedOf = record { model = i.model.now; states = i.shape.states.items; inputs = i.shape.inputs; sought = i.sought } in
    let x = c.requires.0 in
    let chose : HasChosen a c.args.reader x = subst (λ (z : AskedOf). HasChosen z c.args.reader x) (sym c.self.view_is) c.requires.1 in
    let few : length x.frames ≤ a.sought.last = (let n = chose.kept.count in let f = c.frames-frames.ensures in let l = c.if-frames-last.false in let t = c.from-last.ensures in omega arith) in
    let same = made_choices a c.args.reader x chose few c.in_ok-choices.choices c.into_chosen-chosen.result.starts.items c.into_chosen-chosen.result.inputs.items c.places.result.now c.frames-frames.result c.in_ok-choices.ensures c.into_chosen-chosen.ensures.starts
    c.into_chosen-chosen.ensures.inputs c.places.ensures c.frames-frames.ensures in
    subst (λ (d : ChoicesOf). AreChoicesFor a.model d) (sym same) (choices_fit a c.size-size.ensures.model c.self.invariant x.frames chose.fits)

pub returns : goal.returns
returns c =
    let i = c.self.inside in
    let a : AskedOf = record { model = i.model.now; states = i.shape.states.items; inputs = i.shape.inputs; sought = i.sought } in
    subst (λ (z : AskedOf). (x : WitnessOf) → HasChosen z c.args.reader x → Tells z x c.outcome.result) c.self.view_is
    (λ x chose.
    let few : length x.frames ≤ a.sought.last = (let n = chose.kept.count in let f = c.frames-frames.ensures in let l = c.if-frames-last.false in let t = c.from-last.ensures in omega arith) in
    let same = made_choices a c.args.reader x chose few c.in_ok-choices.choices c.into_chosen-chosen.result.starts.items c.into_chosen-chosen.result.inputs.items c.places.result.now c.frames-frames.result c.in_ok-choices.ensures c.into_chosen-chosen.ensures.starts
    c.into_chosen-chosen.ensures.inputs c.places.ensures c.frames-frames.ensures in
    tells_run a c.args.reader x chose few c.in_ok-choices.choices same c.in_ok-run.run' c.in_ok-run.ensures.plays c.in_ok-run.ensures.cycles c.in_ok-run.ensures.rows c.bad-bad.result c.bad-bad.ensures c.outcome.result c.outcome.ensures.fate c.outcome.ensures.run)
