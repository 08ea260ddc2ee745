use Rattle.std.proofs.Common.{arith, ◌∙◌, ap}
use Rattle.cnf_form.specs.Cnf.{lit_in}
use Rattle.gate_rows.proofs.Building.{last-in}
use Rattle.gate_rows.proofs.places.fill_of.Goals as goal

pub returns-in-len1-up-clause-means : goal.returns-in-len1-up-clause-means
returns-in-len1-up-clause-means c = λ x s.
    let t = c.if-signed.true in
    let e = c.last-item.is in
    rw t (ap (lit_in x) e ∙ last-in x c.args.word.now _ c.last-item.result (omega arith) (omega arith))
