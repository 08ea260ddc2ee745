use Rattle.std.proofs.Common.{◌≡◌, ◌++◌, OnOk, length, subst}
use Rattle.sby_bits.specs.Rows.{Row}
use Rattle.witness_judge.proofs.Merging.{laid_all}
use Rattle.witness_judge.proofs.inputs.push_row.Goals as goal

pub returns-clause-row : goal.returns-clause-row
returns-clause-row c =
    subst (λ (l : Row). OnOk c.push_all.result (c.push_all.new.bits.items ≡ c.args.bits.now.items ++ l))
    (laid_all c.lay.new.values (length c.args.values.now) c.args.read.now c.args.all.now c.args.row.now c.requires.all c.lay.ensures.bits) c.push_all.ensures
