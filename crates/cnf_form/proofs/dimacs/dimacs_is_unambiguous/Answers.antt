use Rattle.cnf_form.proofs.Reading.{IsDimacs-one}
use Rattle.cnf_form.proofs.dimacs.dimacs_is_unambiguous.Goals as goal

pub returns : goal.returns
returns c = IsDimacs-one
