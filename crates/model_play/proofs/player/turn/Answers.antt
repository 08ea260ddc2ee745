use Rattle.std.proofs.Common.{◌≡◌, ◌∙◌, List, ℕ, subst}
use Rattle.std.specs.Prelude.{Contains}
use Rattle.model_core.specs.Meaning.{row_at}
use Rattle.model_play.specs.Playing.{cycle_of}
use Rattle.model_play.proofs.Models.{IsTurn, inputs_below, inputs_distinct, states_below, states_distinct, turned}
use Rattle.model_play.proofs.player.turn.Goals as goal
use Rattle.model_play.proofs.player.turn.Goals.{After-next_rows}

pub write_row-requires-clause-below : goal.write_row-requires-clause-below
write_row-requires-clause-below c = states_below c.args.model.now c.requires.model _ _ c.requires.table.size c.states.ensures

pub write_row-requires-clause-distinct : goal.write_row-requires-clause-distinct
write_row-requires-clause-distinct c = states_distinct c.args.model.now c.requires.model _ c.states.ensures

pub write_row-requires-2-clause-below : goal.write_row-requires-2-clause-below
write_row-requires-2-clause-below c = inputs_below c.args.model.now c.requires.model _ _ (c.write_row.auto.table ∙ c.requires.table.size) c.inputs.ensures

pub write_row-requires-2-clause-distinct : goal.write_row-requires-2-clause-distinct
write_row-requires-2-clause-distinct c = inputs_distinct c.args.model.now c.requires.model _ c.inputs.ensures

played : (c : After-next_rows) → IsTurn c.args.model.now c.args.held.now c.args.inputs.now c.drive_all.new.table
played c =
    let low = cycle_of c.write_row.new.table in
    let mid = cycle_of c.write_row-2.new.table in
    turned c.args.model.now c.requires.model c.args.table.now c.write_row.new.table c.write_row-2.new.table c.drive_all.new.table c.args.held.now c.args.inputs.now c.requires.table
    (c.drive_all.auto.table ∙ c.write_row-2.auto.table ∙ c.write_row.auto.table)
    (subst (λ (ps : List ℕ). row_at low ps ≡ c.args.held.now) c.states.ensures c.write_row.ensures.row)
    (subst (λ (ps : List ℕ). (p : ℕ) → (Contains ps p → ⊥) → low p ≡ cycle_of c.args.table.now p) c.states.ensures c.write_row.ensures.others)
    (subst (λ (ps : List ℕ). row_at mid ps ≡ c.args.inputs.now) c.inputs.ensures c.write_row-2.ensures.row)
    (subst (λ (ps : List ℕ). (p : ℕ) → (Contains ps p → ⊥) → mid p ≡ low p) c.inputs.ensures c.write_row-2.ensures.others)
    c.drive_all.ensures.nodes c.drive_all.ensures.sources

pub returns-clause-table : goal.returns-clause-table
returns-clause-table c = (played (goal.at.returns-clause-table c).After-next_rows).table

pub returns-clause-frame : goal.returns-clause-frame
returns-clause-frame c = (played (goal.at.returns-clause-frame c).After-next_rows).frame

pub returns-clause-held : goal.returns-clause-held
returns-clause-held c = (played (goal.at.returns-clause-held c).After-next_rows).held

pub returns-clause-inputs : goal.returns-clause-inputs
returns-clause-inputs c = (played (goal.at.returns-clause-inputs c).After-next_rows).inputs
