use Rattle.pair_model.proofs.Ruling.{inductive, invariant}
use Rattle.pair_model.proofs.laws.invariants_are_inductive.Goals as goal

pub returns : goal.returns
returns c = record {
  inductive = λ m places p I is inv. inductive m places p I is inv;
  invariant = λ m places p I is ind. invariant m places p I is ind;
}
