use Rattle.std.proofs.Common.{◌≡◌, length}
use Rattle.cnf_form.proofs.Bodies.{Reads}
use Rattle.cnf_form.proofs.reader.read_body.Given as goal

abbrev pub invariant-words : goal.invariant-words
invariant-words l = record { vars : l.formula.vars ≡ l.fn.formula.vars; reads : Reads l.fn.formula.vars l.body l.rest l.between l.formula.clauses l.clause.items }

abbrev pub decreases-words : goal.decreases-words
decreases-words l = length l.rest
