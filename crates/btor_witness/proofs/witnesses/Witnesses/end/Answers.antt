use Rattle.btor_witness.proofs.Exact.{end_fate, end_kept}
use Rattle.btor_witness.proofs.witnesses.Witnesses.end.Goals as goal

pub returns-clause-exact : goal.returns-clause-exact
returns-clause-exact c = λ shape most bytes h. end_fate shape most c.args.self.now bytes c.ended.result h c.ended.ensures

pub returns-clause-found : goal.returns-clause-found
returns-clause-found c = λ shape most bytes x h i. end_kept shape most c.args.self.now bytes x h i
