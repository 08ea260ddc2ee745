-- The lines of a task, and the task that is asked for.
use Rattle.std.proofs.Common.{◌≡◌, ℕ, ◌+◌, ◌<◌, true, false, cond, List, [], ◌∷◌, length, drop, get_or, map, Option, Some, None, Result, Ok, Err, refl, ap, sym, ◌∙◌}
use Rattle.std.specs.Prelude.{bytes_eq}
use Rattle.std.proofs.lemmas.List.{at_drop_more}
use Rattle.sby_file.specs.Names.{has}
use Rattle.sby_file.specs.Config.{ConfigOf}
use Rattle.sby_task.specs.Scope.{kept}
use Rattle.sby_task.specs.Task.{row_after}
use Rattle.sby_task.specs.Expand.{drafted, at_number, tags_of, names_asked, IsAsked, expansion, expanded, task_of, asked_text}
use Rattle.sby_file.specs.declared.config.Row.{Row}
use Rattle.sby_file.specs.declared.config.StoredFile.{StoredFile}
use Rattle.sby_task.specs.declared.draft.Draft.{Draft}
use Rattle.sby_task.specs.declared.expansion.Task.{Task}
use Rattle.sby_task.specs.declared.expansion.AskedTask.{AskedTask}
use Rattle.sby_task.specs.declared.task_fault.TaskFault.{TaskFault}
use Rattle.sby_task.specs.declared.task_fault.TaskKind.{TaskKind}

drafted_err : (files : List StoredFile) (all rows : List Row) (f : TaskFault) → drafted files all (Err f) rows ≡ Err f
drafted_err files all [] f = refl
drafted_err files all (row ∷ rows) f = drafted_err files all rows f

-- the line that is at fault
pub fault_at_row : (files : List StoredFile) (rows : List Row) (i : ℕ) (d : Draft) (row : Row) (k : TaskKind) (total : Result Draft TaskFault) → i < length rows → row ≡ get_or rows i row
    → row_after files rows d row ≡ Err k → drafted files rows (Ok d) (drop i rows) ≡ total → Err (record { line = row.number; kind = k }) ≡ total
fault_at_row files rows i d row k total h e n t =
    let more = at_drop_more (drafted files rows (Ok d)) rows i row h in
    let here : drafted files rows (Ok d) (get_or rows i row ∷ drop (i + 1) rows) ≡ drafted files rows (Ok d) (row ∷ drop (i + 1) rows) = ap (λ r. drafted files rows (Ok d) (r ∷ drop (i + 1) rows)) (sym e) in
    let fault : drafted files rows (Ok d) (row ∷ drop (i + 1) rows) ≡ Err (record { line = row.number; kind = k }) =
    ap (λ r. drafted files rows (at_number row.number r) (drop (i + 1) rows)) n ∙ drafted_err files rows (drop (i + 1) rows) (record { line = row.number; kind = k }) in
    sym (more ∙ here ∙ fault) ∙ t

-- a task of another name
pub tags_more : {X : Type 0} (f : X → List ℕ) (tasks : List X) (tags : List (List (List ℕ))) (name : List ℕ) (i : ℕ) (d : X) → i < length tasks → i < length tags
    → bytes_eq (f (get_or tasks i d)) name ≡ false → tags_of (map f (drop i tasks)) (drop i tags) name ≡ tags_of (map f (drop (i + 1) tasks)) (drop (i + 1) tags) name
tags_more f tasks tags name i d h k n =
    let a = at_drop_more (λ ts. tags_of (map f ts) (drop i tags) name) tasks i d h in
    let b : tags_of (map f (get_or tasks i d ∷ drop (i + 1) tasks)) (drop i tags) name
    ≡ cond (bytes_eq (f (get_or tasks i d)) name) (Some (get_or tags i [])) (tags_of (map f (drop (i + 1) tasks)) (drop (i + 1) tags) name) =
    at_drop_more (λ gs. tags_of (map f (get_or tasks i d ∷ drop (i + 1) tasks)) gs name) tags i [] k in
    a ∙ b ∙ ap (λ t. cond t (Some (get_or tags i [])) (tags_of (map f (drop (i + 1) tasks)) (drop (i + 1) tags) name)) n

-- names that are looked up alike give one task
pub asked_alike : (c : ConfigOf) (asked : Option (List ℕ)) (a : AskedTask) (names : Option (List (List ℕ))) (task : Result Task TaskFault) → names_asked c asked ≡ names → IsAsked a (asked_text asked) names
    → task ≡ task_of c.files (kept (has a.names) true c.rows) a.name → task ≡ expansion c asked
asked_alike c asked a None task e h t = absurd h
asked_alike c asked a (Some names) task e h t =
    let same : has a.names ≡ has names = λ i. λ q. h.1 q i in
    t ∙ ap (λ f. task_of c.files (kept f true c.rows) a.name) same ∙ ap (task_of c.files (kept (has names) true c.rows)) h.0
    ∙ ap (λ n. expanded c (asked_text asked) n) (sym e)
