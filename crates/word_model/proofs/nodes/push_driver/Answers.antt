use Rattle.std.proofs.Common.{[], ◌∷◌, sym, subst}
use Rattle.std.proofs.lemmas.Result.{on_ok_weaker}
use Rattle.design_graph.specs.declared.driver.Driver.{Driver}
use Rattle.model_core.specs.declared.op.Op.TheVariants as op
use Rattle.word_model.specs.Nodes.{IsNodeOf}
use Rattle.word_model.proofs.Making.{node}
use Rattle.word_model.proofs.nodes.push_driver.Goals as goal

pub returns-in-Connect : goal.returns-in-Connect
returns-in-Connect c =
    on_ok_weaker c.push_copy.result
    (λ e. (node op.Copy (c.pair_of-left.result.1 ∷ []) [] [] (c.pair_of-left.result.0 ∷ []), subst (λ (r : Driver). IsNodeOf c.args.design.now r (node op.Copy (c.pair_of-left.result.1 ∷ []) [] [] (c.pair_of-left.result.0 ∷ []))) (sym c.in-Connect.is) c.pair_of-left.ensures, e))
    c.push_copy.ensures
