use Rattle.btor_words.proofs.CellRows.{is_eq, is_eqx, is_ne, is_nex}
use Rattle.btor_words.proofs.numbers.comparison_of.Goals as goal

pub returns-in-Eq : goal.returns-in-Eq
returns-in-Eq c = rw c.in-Eq.is (is_eq c.args.signed)

pub returns-in-Eqx : goal.returns-in-Eqx
returns-in-Eqx c = rw c.in-Eqx.is (is_eqx c.args.signed)

pub returns-in-Ne : goal.returns-in-Ne
returns-in-Ne c = rw c.in-Ne.is (is_ne c.args.signed)

pub returns-in-Nex : goal.returns-in-Nex
returns-in-Nex c = rw c.in-Nex.is (is_nex c.args.signed)
