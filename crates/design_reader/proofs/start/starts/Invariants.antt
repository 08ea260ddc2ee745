use Rattle.std.proofs.Common.{◌≡◌, List, ℕ, map, take}
use Rattle.design_reader.specs.Grammar.{start_digits}
use Rattle.design_reader.proofs.start.starts.Given as goal

abbrev pub invariant-loop-init : goal.invariant-loop-init
invariant-loop-init l = l.starts.items ≡ map (λ (digits : List ℕ). start_digits l.width digits) (take l.init-index l.inits)
