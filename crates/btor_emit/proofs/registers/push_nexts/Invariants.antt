use Rattle.std.proofs.Common.{◌≡◌, ◌≤◌, length, take}
use Rattle.btor_emit.specs.Nexts.{AreNexts}
use Rattle.btor_emit.specs.States.{bits_of}
use Rattle.btor_emit.proofs.Edging.{edge_at}
use Rattle.btor_emit.proofs.registers.push_nexts.Given as goal

abbrev pub invariant-loop-register : goal.invariant-loop-register
invariant-loop-register l = record {
  first : l.first ≡ edge_at l.model l.register;
  inside : l.done ≤ length l.states;
  bits : bits_of (take l.done l.states) ≡ l.first;
  nexts : AreNexts l.model l.fn.draft l.draft l.fn.table l.table l.states l.done;
}
