use Rattle.std.proofs.Common.{List, sym, subst}
use Rattle.design_graph.specs.Order.{IsOrder}
use Rattle.design_graph.specs.declared.driver.Driver.{Driver}
use Rattle.model_core.specs.Shape.{ModelOf}
use Rattle.word_model.specs.Built.{IsBuilt}
use Rattle.word_model.specs.Model.{IsModelOf}
use Rattle.word_model.proofs.Meant.{meant}
use Rattle.word_model.proofs.Models.{modelled}
use Rattle.word_model.proofs.build.build.Goals as goal

pub finish-requires : goal.finish-requires
finish-requires c = let b = c.in_ok-draft.ensures in modelled c.args.flat.now b.1 b.2 b.0 b.3 c.in_ok-draft.draft b.4

pub returns-clause-model : goal.returns-clause-model
returns-clause-model c =
    let b = c.in_ok-draft.ensures in
    subst (λ (m : ModelOf). IsModelOf c.args.flat.now m) (sym c.finish.ensures) (meant c.args.flat.now b.1 b.2 b.0 b.3 c.in_ok-draft.draft b.4)

pub returns-clause-built : goal.returns-clause-built
returns-clause-built c =
    let b = c.in_ok-draft.ensures in
    subst (λ (m : ModelOf). (order : List Driver) × IsOrder c.args.flat.now order × IsBuilt c.args.flat.now order m) (sym c.finish.ensures) (b.0, b.3, b.4)
