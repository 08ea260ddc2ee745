use Rattle.std.proofs.Common.{◌≡◌, ◌∷◌}
use Rattle.sby_file.proofs.Declarations.{tasks_more, names_more}
use Rattle.sby_file.proofs.declaration.declaration.Goals as goal

pub lines-preserved : goal.lines-preserved
lines-preserved c =
    let walk : c.lines.walk ≡ c.in-Some.placed ∷ c.next.new.self = rw c.in-Some.is at c.in_ok-placed.ensures in
    record {
      tasks = tasks_more _ _ _ _ _ _ walk c.in_ok-declare.ensures.tasks c.lines.invariant.tasks;
      names = λ name. names_more _ _ _ _ _ name _ walk (c.in_ok-declare.ensures.names name) (c.lines.invariant.names name);
    }
