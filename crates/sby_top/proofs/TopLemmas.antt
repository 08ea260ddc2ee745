-- What words ask was done.
use Rattle.std.proofs.Common.{◌≡◌, ℕ, List, [], ◌∷◌, refl, subst, inl, inr}
use Rattle.std.specs.Prelude.{Option, None, Result, Ok, Err}
use Rattle.sby_edge.specs.Files.{Store}
use Rattle.sby_file.specs.Config.{ConfigOf}
use Rattle.sby_file.specs.Sby.{SbyText}
use Rattle.sby_lines.specs.Telling.{Tells}
use Rattle.sby_lines.specs.declared.early.Early.{Early}
use Rattle.sby_lines.specs.declared.early.Early.TheVariants.{File, Sby, Task, Read, Design, TooMany, Streams, Memory}
use Rattle.sby_lines.specs.declared.tell.Stop.{Stop}
use Rattle.sby_lines.specs.declared.tell.Stop.TheVariants.{Memory as MemoryStop, Sink}
use Rattle.sby_words.specs.Folders.{IsStem, task_folder}
use Rattle.gen_design.specs.Ring.{task_lines, text_of}
use Rattle.sby_words.specs.Requests.{AskGen, AskNames, AskTasks, GenRequest, Request as Asked, TaskRequest}
use Rattle.sby_top.specs.Ending.{RunsTo, told_code}
use Rattle.sby_top.specs.Run.{LinesAlone, NamesTold, SameSink, TurnsDone, allowance_of, name_lines}
use Rattle.sby_top.specs.Served.{IsGot}
use Rattle.sby_top.specs.Steps.{IsFailedCall}
use Rattle.sby_top.specs.Asked.{HasTurns, IsNamesFault}
use Rattle.sby_top.specs.Generated.{gen_stem}
use Rattle.sby_top.specs.Turns.{AreTextTurns, IsTextGot, Refused, Turn, most_task_file}
use Rattle.task_race.specs.Bays.{YardAt}
use Rattle.sby_top.specs.World.{FilesOf, SameYard, World, files_of, world_at}
use Rattle.sby_top.specs.declared.outcome.Done.{Done}
use Rattle.sby_top.proofs.ServeLemmas.{same_files}
use Rattle.sby_top.proofs.TurnLemmas.{no_ends}

pub turns_done : (may_read : ℕ → Type 0) (before middle after : World) (done : Done) (asked : Asked) (turns : List Turn) → SameSink before middle → HasTurns (files_of before) (files_of middle) asked turns → RunsTo (allowance_of asked) may_read middle turns after done → TurnsDone may_read before after done asked
turns_done may_read before middle after done asked turns same has ran = record { middle = middle; turns = turns; exit = ran.0; same_sink = same; has_turns = has; ran = ran.1; rc = ran.2 }

-- a task file couldn't be got
pub text_failed : (before now : FilesOf) (path : List ℕ) (early : Early) → IsFailedCall before now path early → IsTextGot before now path (Err early)
text_failed before now path (File p) h = h
text_failed before now path Memory h = h
text_failed before now path (Sby x) h = absurd h
text_failed before now path (Task x) h = absurd h
text_failed before now path (Read x) h = absurd h
text_failed before now path (Design x) h = absurd h
text_failed before now path (TooMany job) h = absurd h
text_failed before now path Streams h = absurd h

-- the turns of a task file that was got, or wasn't
pub has_text : (before now : FilesOf) (file stem text : List ℕ) (directory : Option (List ℕ)) (jobs : Option ℕ) (names : List (List ℕ)) (turns : List Turn) → IsGot before.told file most_task_file text → now ≡ before → IsStem file stem
    → AreTextTurns stem directory names text turns → HasTurns before now (AskTasks (record { directory = directory; jobs = jobs; file = file; names = names })) turns
has_text before now file stem text directory jobs names turns got same is are = (Ok text, (got, same), (stem, is, are))

pub has_fault : (before now : FilesOf) (file stem : List ℕ) (directory : Option (List ℕ)) (jobs : Option ℕ) (names : List (List ℕ)) (early : Early) → IsFailedCall before now file early → IsStem file stem
    → HasTurns before now (AskTasks (record { directory = directory; jobs = jobs; file = file; names = names })) (Refused (task_folder stem directory []) early ∷ [])
has_fault before now file stem directory jobs names early failed is = (Err early, text_failed before now file early failed, (stem, is, refl))

alone_by : {T : Type 0} (before after : World) (lines : List (List ℕ)) (done : Done) (told : Result T Stop) → done.rc ≡ told_code told → done.ends.items ≡ [] → files_of after ≡ files_of before → SameYard before after
    → Tells before.taken after.taken before.sink_faults after.sink_faults after.ended lines told → LinesAlone before after lines done
alone_by before after lines done (Ok x) rc ends files yard tells = record { ends = ends; files = files; yard = yard; sink = tells.later; line = inl (rc, tells.still, tells.whole) }
alone_by before after lines done (Err MemoryStop) rc ends files yard tells = record { ends = ends; files = files; yard = yard; sink = tells.later; line = inr (inr (rc, tells.still_memory refl, tells.memory refl)) }
alone_by before after lines done (Err Sink) rc ends files yard tells = record { ends = ends; files = files; yard = yard; sink = tells.later; line = inr (inl (rc, (tells.fault refl).0, tells.last refl, (tells.fault refl).1)) }

-- lines alone were told
pub lines_alone : {T : Type 0} (told_files : Option Store) (faults : ℕ) (blamed before now : Option (List ℕ)) (f g : ℕ) (d e : Option ℕ) (yard : YardAt) (lines : List (List ℕ)) (done : Done) (told : Result T Stop) → done.rc ≡ told_code told → done.ends.items ≡ []
    → Tells before now f g e lines told → LinesAlone (world_at told_files faults blamed before f d yard) (world_at told_files faults blamed now g e yard) lines done
lines_alone told_files faults blamed before now f g d e yard lines done told rc ends tells =
    alone_by (world_at told_files faults blamed before f d yard) (world_at told_files faults blamed now g e yard) lines done told rc ends refl refl tells

-- the same, since a moment at which the files were the same
pub alone_since : (t0 t1 : Option Store) (f0 f1 : ℕ) (b0 b1 before now : Option (List ℕ)) (f g : ℕ) (d e : Option ℕ) (yard : YardAt) (lines : List (List ℕ)) (done : Done) → t1 ≡ t0 → f1 ≡ f0 → b1 ≡ b0
    → LinesAlone (world_at t1 f1 b1 before f d yard) (world_at t1 f1 b1 now g e yard) lines done → LinesAlone (world_at t0 f0 b0 before f d yard) (world_at t1 f1 b1 now g e yard) lines done
alone_since t0 t1 f0 f1 b0 b1 before now f g d e yard lines done told faults blamed alone =
    record { ends = alone.ends; files = same_files t0 t1 f0 f1 b0 b1 told faults blamed; yard = alone.yard; sink = alone.sink; line = alone.line }

-- the names of a file's tasks were told, or its fault
pub names_told : (may_read : ℕ → Type 0) (before after : World) (file text : List ℕ) (c : ConfigOf) (done : Done) → IsGot before.told file most_task_file text → SbyText text c → LinesAlone before after (name_lines c.tasks) done → NamesTold may_read before after file done
names_told may_read before after file text c done got is alone = inl (text, c, (got, refl), is, alone)

pub names_fault : (may_read : ℕ → Type 0) (before middle after : World) (file stem : List ℕ) (early : Early) (done : Done) → SameSink before middle → IsNamesFault (files_of before) (files_of middle) file early → IsStem file stem
    → RunsTo None may_read middle (Refused (task_folder stem None []) early ∷ []) after done → NamesTold may_read before after file done
names_fault may_read before middle after file stem early done same fault is ran =
    inr (turns_done may_read before middle after done (AskNames file) (Refused (task_folder stem None []) early ∷ []) same (early, fault, (stem, is, refl)) ran)

-- the turns of a task file that was got ran
pub tasks_done : (may_read : ℕ → Type 0) (before middle after : World) (done : Done) (t : TaskRequest) (file path stem text : List ℕ) (directory : Option (List ℕ)) (jobs : Option ℕ) (names : List (List ℕ)) → record { directory = directory; jobs = jobs; file = file; names = names } ≡ t → path ≡ file
    → SameSink before middle → IsGot before.told path most_task_file text → files_of middle ≡ files_of before → IsStem path stem
    → ((turns : List Turn) × AreTextTurns stem directory names text turns × RunsTo jobs may_read middle turns after done) → TurnsDone may_read before after done (AskTasks t)
tasks_done may_read before middle after done t file path stem text directory jobs names is at same got files stem_is ran =
    subst (λ q. TurnsDone may_read before after done (AskTasks q)) is
    (turns_done may_read before middle after done (AskTasks (record { directory = directory; jobs = jobs; file = file; names = names })) ran.0 same
    (has_text (files_of before) (files_of middle) file stem text directory jobs names ran.0 (subst (λ p. IsGot before.told p most_task_file text) at got) files (subst (λ p. IsStem p stem) at stem_is) ran.1) ran.2)

-- or its fault was told
pub tasks_fault : (may_read : ℕ → Type 0) (before middle after : World) (done : Done) (t : TaskRequest) (file path stem : List ℕ) (directory : Option (List ℕ)) (jobs : Option ℕ) (names : List (List ℕ)) (early : Early) → record { directory = directory; jobs = jobs; file = file; names = names } ≡ t → path ≡ file
    → SameSink before middle → IsFailedCall (files_of before) (files_of middle) path early → IsStem path stem → RunsTo jobs may_read middle (Refused (task_folder stem directory []) early ∷ []) after done → TurnsDone may_read before after done (AskTasks t)
tasks_fault may_read before middle after done t file path stem directory jobs names early is at same failed stem_is ran =
    subst (λ q. TurnsDone may_read before after done (AskTasks q)) is
    (turns_done may_read before middle after done (AskTasks (record { directory = directory; jobs = jobs; file = file; names = names })) (Refused (task_folder stem directory []) early ∷ []) same
    (has_fault (files_of before) (files_of middle) file stem directory jobs names early (subst (λ p. IsFailedCall (files_of before) (files_of middle) p early) at failed) (subst (λ p. IsStem p stem) at stem_is)) ran)

-- the turns of the generated task file ran
pub gen_done : (may_read : ℕ → Type 0) (before after : World) (done : Done) (t : GenRequest) (size : ℕ) (stem text : List ℕ) (directory : Option (List ℕ)) → record { directory = directory; size = size } ≡ t → stem ≡ gen_stem size → text ≡ text_of (task_lines size)
    → ((turns : List Turn) × AreTextTurns stem directory [] text turns × RunsTo None may_read before turns after done) → TurnsDone may_read before after done (AskGen t)
gen_done may_read before after done t size stem text directory is stem_is text_is ran =
    let are = subst (λ s. AreTextTurns s directory [] text ran.0) stem_is ran.1 in
    let own = subst (λ x. AreTextTurns (gen_stem size) directory [] x ran.0) text_is are in
    subst (λ q. TurnsDone may_read before after done (AskGen q)) is
    (turns_done may_read before before after done (AskGen (record { directory = directory; size = size })) ran.0 refl (refl, own) ran.2)

-- memory ran out for it
pub gen_none : (may_read : ℕ → Type 0) (before : World) (done : Done) (t : GenRequest) → done.rc ≡ 32 → done.ends.items ≡ [] → TurnsDone may_read before before done (AskGen t)
gen_none may_read before done t rc ends =
    turns_done may_read before before before done (AskGen t) (Refused (task_folder (gen_stem t.size) t.directory []) Memory ∷ []) refl (refl, inr (inl refl))
    (no_ends None may_read before (Refused (task_folder (gen_stem t.size) t.directory []) Memory) [] done rc ends)
