use Rattle.std.proofs.Common.{◌<◌, ℕ, All, List, subst, sym}
use Rattle.btor_emit.proofs.Rowing.{inputs_below}
use Rattle.witness_judge.proofs.inputs.choices.Goals as goal

pub push_rows-requires-clause-all : goal.push_rows-requires-clause-all
push_rows-requires-clause-all c =
    let m = c.args.model.now in
    subst (λ (n : ℕ). All (λ p. p < n) c.inputs-all.result.now) (sym c.size-size.ensures.size) (subst (λ (l : List ℕ). All (λ p. p < m.size) l) (sym c.inputs-all.ensures) (inputs_below m c.size-size.ensures.model))
