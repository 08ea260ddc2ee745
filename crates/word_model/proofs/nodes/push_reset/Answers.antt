use Rattle.std.proofs.Common.{◌≡◌, ◌∙◌, ◌∷◌, ◌++◌, [], refl, ap, sym, subst, length, arith}
use Rattle.std.specs.Prelude.{OnOk}
use Rattle.design_core.specs.declared.names.ParameterName.TheVariants.{ArstPolarity}
use Rattle.model_core.specs.Shape.{NodeOf}
use Rattle.word_model.proofs.Making.{few-range, reset-high}
use Rattle.word_model.proofs.nodes.push_reset.Goals as goal

pub flag-requires : goal.flag-requires
flag-requires c = c.requires.cell.flags ArstPolarity refl

pub push_node-requires-clause-a : goal.push_node-requires-clause-a
push_node-requires-clause-a c =
    few-range c.args.design.now c.args.cell.now c.args.first c.len.result c.deref.result.now c.fill_output.new.row.items (c.deref.ensures.value ∙ c.in_ok-fill_range.ensures) (omega (arith, c.len.ensures, c.fill_output.new.row.ok.0)) c.in_ok-fill_output.ensures
    c.requires.few

pub push_node-requires-else-flag-clause-b : goal.push_node-requires-else-flag-clause-b
push_node-requires-else-flag-clause-b c =
    few-range c.args.design.now c.args.cell.now c.args.first c.len.result c.deref-else-flag-2.result.now c.fill_output.new.row.items (c.deref-else-flag-2.ensures.value ∙ c.in_ok-fill_range.ensures) (omega (arith, c.len.ensures, c.fill_output.new.row.ok.0))
    c.in_ok-fill_output.ensures c.requires.few

pub returns-then-flag : goal.returns-then-flag
returns-then-flag c = λ i e.
    subst (λ (n : NodeOf). OnOk c.push_node.result (c.push_node.new.self ≡ record c.args.draft.now { nodes = c.args.draft.now.nodes ++ n ∷ [] }))
    (reset-high c.args.design.now i c.args.cell.now c.args.first e c.deref.result.now c.deref-then-flag.result.now c.deref-then-flag-2.result.now c.deref-then-flag-3.result.now c.len.result
    (omega (arith, c.len.ensures, c.fill_output.new.row.ok.0, ap length c.deref-then-flag-3.ensures.value)) (c.deref-then-flag-3.ensures.value ∙ c.in_ok-fill_output.ensures) (c.deref.ensures.value ∙ c.in_ok-fill_range.ensures)
    (c.deref-then-flag.ensures.value ∙ c.in_ok-fill_parameter.ensures) (c.deref-then-flag-2.ensures.value ∙ c.in_ok-fill_port.ensures) (sym c.flag.ensures ∙ c.if-flag.true)) c.push_node.ensures
