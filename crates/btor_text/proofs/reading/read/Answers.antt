use Rattle.std.proofs.Common.{◌≡◌, ℕ, List, Ok, Err}
use Rattle.std.specs.Prelude.{◌↔◌, IfErr, IfOk}
use Rattle.std.specs.declared.result.Result.{Result}
use Rattle.btor_core.specs.Shape.{BtorOf}
use Rattle.btor_text.specs.Refusals.{IsFault, IsModel}
use Rattle.btor_text.specs.declared.reading.BtorFault.{BtorFault}
use Rattle.btor_text.proofs.Refusing.{fault_exact, model_exact}
use Rattle.btor_text.proofs.reading.read.Goals as goal

models : {E : Type 0} (bytes : List ℕ) (r : Result (Result BtorOf BtorFault) E) → IfOk r (λ x. IfOk x (IsModel bytes)) → IfOk r (λ x. IfErr x (IsFault bytes)) → IfOk r (λ x. (m : BtorOf) → (x ≡ Ok m) ↔ IsModel bytes m)
models bytes (Ok x) h g = model_exact bytes x h g
models bytes (Err e) h g = tt

faults : {E : Type 0} (bytes : List ℕ) (r : Result (Result BtorOf BtorFault) E) → IfOk r (λ x. IfOk x (IsModel bytes)) → IfOk r (λ x. IfErr x (IsFault bytes)) → IfOk r (λ x. (f : BtorFault) → (x ≡ Err f) ↔ IsFault bytes f)
faults bytes (Ok x) h g = fault_exact bytes x h g
faults bytes (Err e) h g = tt

pub returns-clause-model : goal.returns-clause-model
returns-clause-model c = models c.args.bytes.now c.read_lines.result c.read_lines.ensures.model c.read_lines.ensures.fault

pub returns-clause-fault : goal.returns-clause-fault
returns-clause-fault c = faults c.args.bytes.now c.read_lines.result c.read_lines.ensures.model c.read_lines.ensures.fault
