use Rattle.std.proofs.Common.{◌≡◌, drop}
use Rattle.sby_edge.specs.Scripts.{script_at}
use Rattle.sby_edge.proofs.scripted.script_for.Given as goal

abbrev pub invariant-loop-scripted : goal.invariant-loop-scripted
invariant-loop-scripted l = script_at (drop l.scripted-index l.scripts) l.other l.task l.lane l.job ≡ script_at l.scripts l.other l.task l.lane l.job
