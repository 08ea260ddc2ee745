use Rattle.std.proofs.Common.{◌≡◌, [], length}
use Rattle.std.specs.Prelude.{All}
use Rattle.std.specs.declared.vec.Vec.{Vec}
use Rattle.std.specs.declared.alloc.Global.{Global}
use Rattle.frozen_clauses.specs.declared.entry.Entry.{Entry}
use Rattle.frozen_clauses.proofs.frozen.Frozen.new.Given as goal

abbrev pub invariant-loop : goal.invariant-loop
invariant-loop l = record {
  count : length l.lists.items ≡ l.counter;
  empty : All (λ (v : Vec Entry Global). v.items ≡ []) l.lists.items;
}
