use Rattle.std.proofs.Common.{◌≡◌, take}
use Rattle.design_lower.proofs.copies.copy_inits.Given as goal

abbrev pub invariant-loop-digits : goal.invariant-loop-digits
invariant-loop-digits l = l.copy.items ≡ take l.digits-index l.inits
