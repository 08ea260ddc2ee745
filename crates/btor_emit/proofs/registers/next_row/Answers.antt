use Rattle.std.proofs.Common.{◌∙◌, [], ◌∷◌, ℕ, sym, ap, subst}
use Rattle.std.specs.Prelude.{not}
use Rattle.btor_emit.specs.Nodes.{IsReady}
use Rattle.btor_emit.proofs.Readying.{RegisterReady, enable_put, register_ready, reset_put}
use Rattle.btor_emit.proofs.registers.next_row.Goals as goal
use Rattle.btor_emit.proofs.registers.next_row.Goals.{After-reset_first}
use Rattle.model_core.specs.declared.model.Control.{Control}

ready : (c : After-reset_first) → RegisterReady c.args.draft.now c.args.table.now c.q-q.result.now c.d-d.result.now c.value-value.result.now c.enable-enable.result c.reset-reset.result
ready c =
    register_ready c.args.model.now c.requires.model c.args.draft.now c.args.table.now c.args.register c.requires.btor c.requires.seats c.requires.size c.requires.register c.q-q.result.now c.d-d.result.now c.value-value.result.now c.enable-enable.result c.reset-reset.result c.q-q.ensures c.d-d.ensures c.value-value.ensures
    c.enable-enable.ensures c.reset-reset.ensures

pub nested-requires-clause-outer : goal.nested-requires-clause-outer
nested-requires-clause-outer c = (ready (goal.at.nested-requires-clause-outer c).After-reset_first).reset

pub nested-requires-clause-inner : goal.nested-requires-clause-inner
nested-requires-clause-inner c = (ready (goal.at.nested-requires-clause-inner c).After-reset_first).enable

pub nested-requires-clause-row : goal.nested-requires-clause-row
nested-requires-clause-row c = (ready (goal.at.nested-requires-clause-row c).After-reset_first).value

pub nested-requires-clause-then : goal.nested-requires-clause-then
nested-requires-clause-then c = (ready (goal.at.nested-requires-clause-then c).After-reset_first).d

pub nested-requires-clause-other : goal.nested-requires-clause-other
nested-requires-clause-other c = (ready (goal.at.nested-requires-clause-other c).After-reset_first).q

pub nested-requires-clause-width : goal.nested-requires-clause-width
nested-requires-clause-width c = let k = ready (goal.at.nested-requires-clause-width c).After-reset_first in k.d_wide ∙ sym k.value_wide

pub nested-requires-clause-widths : goal.nested-requires-clause-widths
nested-requires-clause-widths c = sym (ready (goal.at.nested-requires-clause-widths c).After-reset_first).value_wide

pub nested-requires-2-clause-outer : goal.nested-requires-2-clause-outer
nested-requires-2-clause-outer c = subst (λ (p : ℕ). IsReady c.args.draft.now c.args.table.now (p ∷ [])) (sym c.opposite.ensures.place) (ready (goal.at.nested-requires-2-clause-outer c).After-reset_first).enable

pub nested-requires-2-clause-inner : goal.nested-requires-2-clause-inner
nested-requires-2-clause-inner c = (ready (goal.at.nested-requires-2-clause-inner c).After-reset_first).reset

pub nested-requires-2-clause-row : goal.nested-requires-2-clause-row
nested-requires-2-clause-row c = (ready (goal.at.nested-requires-2-clause-row c).After-reset_first).q

pub nested-requires-2-clause-then : goal.nested-requires-2-clause-then
nested-requires-2-clause-then c = (ready (goal.at.nested-requires-2-clause-then c).After-reset_first).value

pub nested-requires-2-clause-other : goal.nested-requires-2-clause-other
nested-requires-2-clause-other c = (ready (goal.at.nested-requires-2-clause-other c).After-reset_first).d

pub nested-requires-2-clause-width : goal.nested-requires-2-clause-width
nested-requires-2-clause-width c = (ready (goal.at.nested-requires-2-clause-width c).After-reset_first).value_wide

pub nested-requires-2-clause-widths : goal.nested-requires-2-clause-widths
nested-requires-2-clause-widths c = (ready (goal.at.nested-requires-2-clause-widths c).After-reset_first).d_wide

pub returns-then-reset_first : goal.returns-then-reset_first
returns-then-reset_first c = λ r at.
    reset_put c.args.draft.now c.nested.new.draft c.args.table.now c.nested.new.table c.in_ok-row.row r c.q-q.result.now c.d-d.result.now c.value-value.result.now c.enable-enable.result c.reset-reset.result (c.q-q.ensures r at) (c.d-d.ensures r at) (c.value-value.ensures r at) (c.enable-enable.ensures r at)
    (c.reset-reset.ensures r at) (ready (goal.at.returns-then-reset_first c).After-reset_first).value_wide (sym (c.reset_first.ensures r at) ∙ c.if-reset_first.true) c.in_ok-row.ensures

pub returns : goal.returns
returns c = λ r at.
    enable_put c.args.draft.now c.nested-2.new.draft c.args.table.now c.nested-2.new.table c.in_ok-row-2.row r c.q-q.result.now c.d-d.result.now c.value-value.result.now c.opposite.result c.reset-reset.result (c.q-q.ensures r at) (c.d-d.ensures r at) (c.value-value.ensures r at)
    (c.opposite.ensures.place ∙ ap (λ (k : Control). k.place) (c.enable-enable.ensures r at)) (c.opposite.ensures.level ∙ ap (λ (k : Control). not k.level) (c.enable-enable.ensures r at)) (c.reset-reset.ensures r at) (sym (c.reset_first.ensures r at) ∙ c.if-reset_first.false) c.in_ok-row-2.ensures
