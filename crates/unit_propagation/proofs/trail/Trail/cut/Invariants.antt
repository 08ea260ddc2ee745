use Rattle.std.proofs.Common.{◌≡◌, ◌+◌, ◌-◌, ◌<◌, take, length}
use Rattle.unit_propagation.proofs.trail.Trail.cut.Given as goal

abbrev pub invariant-loop : goal.invariant-loop
invariant-loop l = record {
  vars : l.self.vars ≡ l.fn.self.vars;
  idle : length l.fn.self.lits < l.place → l.counter ≡ l.place;
  room : length l.self.lits + l.counter ≡ length l.fn.self.lits + l.place;
  lits : l.self.lits ≡ take (length l.fn.self.lits + l.place - l.counter) l.fn.self.lits;
}
