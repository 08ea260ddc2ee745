use Rattle.std.proofs.Common.{◌≡◌, true}
use Rattle.cnf_form.proofs.Rup.{Closure-least}
use Rattle.cnf_form.proofs.laws.closure_is_least.Goals as goal

pub returns : goal.returns
returns c F s closed l h = Closure-least (λ m. s m ≡ true) closed h
