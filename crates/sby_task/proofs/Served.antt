-- What the task that is answered is sure to have.
use Rattle.std.proofs.Common.{◌≡◌, ℕ, true, List, Option, Some, None, Result, Ok, Err, refl, sym}
use Rattle.std.specs.Prelude.{All, IfOk}
use Rattle.sby_file.specs.Names.{has}
use Rattle.sby_file.specs.Config.{ConfigOf}
use Rattle.sby_task.specs.Scope.{kept}
use Rattle.sby_task.specs.Cycles.{IsTaskSpan}
use Rattle.sby_task.specs.Marks.{IsMarked}
use Rattle.sby_task.specs.Expand.{names_asked, asked_text, expanded, expansion, Expand}
use Rattle.sby_task.specs.Said.{AreKept}
use Rattle.sby_file.specs.declared.config.Row.{Row}
use Rattle.sby_task.specs.declared.expansion.Task.{Task}
use Rattle.sby_task.specs.declared.task_fault.TaskFault.{TaskFault}
use Rattle.sby_task.proofs.RowsSaid.{err_ok}
use Rattle.sby_task.proofs.CyclesSaid.{span_fits}
use Rattle.sby_task.proofs.Refusals.{marks_said}

-- some lines are kept for it
lines_kept : (c : ConfigOf) (asked : Option (List ℕ)) (t : Task) → Expand c asked t → (rows : List Row) × AreKept c asked rows
lines_kept c asked t h = by (names_asked c asked) refl h
  where
    by : (o : Option (List (List ℕ))) → names_asked c asked ≡ o → expanded c (asked_text asked) o ≡ Ok t → (rows : List Row) × AreKept c asked rows
    by None e h = absurd (err_ok t _ h)
    by (Some names) e h = (kept (has names) true c.rows, (names, e, refl))

pub span_served : (c : ConfigOf) (asked : Option (List ℕ)) (r : Result Task TaskFault) → r ≡ expansion c asked → IfOk r (λ task. IsTaskSpan task.mode task.span)
span_served c asked (Ok t) e = let k = lines_kept c asked t (sym e) in span_fits c asked t k.0 (sym e) k.1
span_served c asked (Err f) e = tt

pub engines_served : (c : ConfigOf) (asked : Option (List ℕ)) (r : Result Task TaskFault) → r ≡ expansion c asked → IfOk r (λ task. All IsMarked task.engines)
engines_served c asked (Ok t) e = let k = lines_kept c asked t (sym e) in marks_said c asked t k.0 (sym e) k.1
engines_served c asked (Err f) e = tt
