use Rattle.std.proofs.Common.{◌≡◌, ◌||◌, ℕ, List, length}
use Rattle.sby_file.specs.Names.{has}
use Rattle.sby_file.specs.Faults.{declared_names, has_tasks}
use Rattle.sby_file.proofs.declaration.declaration.Given as goal

abbrev pub invariant-lines : goal.invariant-lines
invariant-lines l = record {
  tasks : (l.declared.has_tasks || has_tasks l.walk) ≡ has_tasks l.initial.walk;
  names : (name : List ℕ) → (has l.declared.names name || has (declared_names l.walk) name) ≡ has (declared_names l.initial.walk) name;
}

abbrev pub decreases-lines : goal.decreases-lines
decreases-lines l = length l.walk
