use Rattle.std.proofs.Common.{◌≡◌, false, take}
use Rattle.sby_top.specs.Served.{some_btor}
use Rattle.sby_top.proofs.put.some_btor.Given as goal

abbrev pub invariant-loop-engine : goal.invariant-loop-engine
invariant-loop-engine l = some_btor (take l.engine-index l.engines) ≡ false
