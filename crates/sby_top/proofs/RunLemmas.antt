-- A task was run.
use Rattle.std.proofs.Common.{◌≡◌, ℕ, ◌≤◌, List, [], sym, ◌∙◌, subst, inl, inr, ◌⊎◌}
use Rattle.std.specs.Prelude.{Option, Some, None}
use Rattle.jobs_pool.specs.Places.{PoolOf}
use Rattle.judge.specs.Finding.{FindingOf}
use Rattle.judge.specs.Problem.{AskedOf}
use Rattle.race_core.specs.Report.{ReportOf}
use Rattle.sby_edge.specs.Child.{YardOf}
use Rattle.sby_edge.specs.Files.{Store}
use Rattle.sby_terms.specs.Code.{code_of}
use Rattle.sby_terms.specs.declared.names.Status.{Status}
use Rattle.sby_terms.specs.declared.names.Status.TheVariants.{Memory}
use Rattle.sby_lines.specs.Lines.{HasLines, IsStatus}
use Rattle.sby_lines.specs.Told.{CameTo}
use Rattle.sby_lines.specs.declared.early.Early.{Early}
use Rattle.sby_top.specs.Causes.{AreTracesPut, HasReason, IsDone, IsSpared}
use Rattle.sby_top.specs.End.{IsEnd, IsFaultTold}
use Rattle.sby_top.specs.Headline.{AreLines, Exit, Code, Cut, HasOwnStatus, IsLater, IsPrinted, NamesEvent, TaskRan, WasStopped}
use Rattle.sby_top.specs.Ready.{IsReady, WasRaced}
use Rattle.sby_top.specs.Run.{IsRefusedStatus, WasRefused, refused_request}
use Rattle.sby_top.specs.Task.{IsAskable, TaskOf}
use Rattle.sby_top.specs.World.{Moments, SameFiles, SameYard, files_of, race_of}
use Rattle.sby_top.specs.declared.outcome.TaskEnd.{TaskEnd}
use Rattle.sby_top.specs.declared.serve.Raced.{Raced}
use Rattle.sby_top.specs.declared.serve.Ready.{Ready}
use Rattle.task_race.specs.Bays.{BackOf}
use Rattle.sby_top.proofs.EndLemmas.{no_design}
use Rattle.sby_top.proofs.PlainLemmas.{is_complete}
use Rattle.sby_top.proofs.ReportLemmas.{nothing_in}
use Rattle.sby_top.proofs.TruthLemmas.{Laws, is_fail_true, is_pass_true}

-- what was printed, by other lines and another status of the same kind
pub printed_weaker : (name : List ℕ) (before now : Option (List ℕ)) (f g : ℕ) (when : Option ℕ) (are other : List (List ℕ) → Type 0) (expect : List Status) (own same : Type 0) (status : Status) (exit : Exit) → ((lines : List (List ℕ)) → are lines → other lines)
    → (own → same) → IsPrinted name before now f g when are expect own status exit → IsPrinted name before now f g when other expect same status exit
printed_weaker name before now f g when are other expect own same status (Code rc) lines holds h = (
  h.0,
  h.1,
  (
    h.2.0,
    lines h.2.0 h.2.1,
    elim h.2.2 [
      | inl whole ↦ inl (holds whole.0, whole.1, whole.2)
      | inr part ↦ inr part
    ],
  ),
)
printed_weaker name before now f g when are other expect own same status Cut lines holds h = (h.0, h.1, (h.2.0, lines h.2.0 h.2.1, holds h.2.2, h.2.3))

-- ---- a fault before the lanes

pub fault_status : (task : TaskOf) (end : TaskEnd) (early : Early) → end.early ≡ Some early → ((c : CameTo) → IsStatus task.request (Some early) c end.status) → HasOwnStatus task end
fault_status task end early is holds = (
  no_design,
  (λ none. let no : Some early ≡ None = sym is ∙ none in cc),
  subst (λ e. IsStatus task.request e (record { design = no_design; reports = end.reports.items; start = end.start }) end.status) (sym is) (holds _),
)

fault_lines : (task : TaskOf) (end : TaskEnd) (early : Early) (lines : List (List ℕ)) → IsEnd task.request.name (Some early) [] [] None end → end.unput.items ≡ [] → HasLines task.request [] (Some early) [] None [] lines → AreLines task end lines
fault_lines task end early lines is unput has = rw (is.text_is, is.early_is, is.reports_are, is.start_is, unput) has

pub fault_printed : (task : TaskOf) (end : TaskEnd) (early : Early) (before now : Option (List ℕ)) (f g : ℕ) (when : Option ℕ) (exit : Exit) → IsEnd task.request.name (Some early) [] [] None end → end.unput.items ≡ []
    → IsFaultTold task.request early before now f g when end.status exit → IsPrinted task.request.name before now f g when (AreLines task end) task.request.expect (HasOwnStatus task end) end.status exit
fault_printed task end early before now f g when exit is unput told =
    printed_weaker task.request.name before now f g when _ (AreLines task end) task.request.expect _ (HasOwnStatus task end) end.status exit (λ lines has. fault_lines task end early lines is unput has) (fault_status task end early is.early_is) told.printed

own_or : (task : TaskOf) (end : TaskEnd) (early : Early) → end.early ≡ Some early → (((c : CameTo) → IsStatus task.request (Some early) c end.status) ⊎ (end.status ≡ Memory)) → HasOwnStatus task end ⊎ (end.status ≡ Memory)
own_or task end early is (inl holds) = inl (fault_status task end early is holds)
own_or task end early is (inr memory) = inr memory

pub fault_named : (may_read : ℕ → Type 0) (number : ℕ) (moments : Moments) (task : TaskOf) (end : TaskEnd) (early : Early) (told now : Option (List ℕ)) (f g : ℕ) (when : Option ℕ) (exit : Exit) → IsEnd task.request.name (Some early) [] [] None end → end.unput.items ≡ []
    → IsFaultTold task.request early told now f g when end.status exit → HasReason task moments.got moments.put early → files_of moments.after ≡ files_of moments.before
    → IsSpared moments.before.yard moments.after.yard early → NamesEvent may_read number moments task end
fault_named may_read number moments task end early told now f g when exit is unput was reason files spared = record {
  name = is.name_is;
  status = own_or task end early is.early_is was.own;
  cause = rw is.early_is (is.text_is, is.reports_are, unput, reason, files, (is.start_is, spared));
}

-- ---- a task that was served

pub served_named : (may_read : ℕ → Type 0) (number : ℕ) (moments : Moments) (start : Option ℕ) (task : TaskOf) (end : TaskEnd) (p : AskedOf) (text : List ℕ) (reports : List (ReportOf FindingOf))
    (done : IsDone may_read task moments.got moments.put (race_of number moments.pool moments.before moments.after start) text reports)
    → done.problem ≡ p → IsEnd task.request.name None text reports start end → AreTracesPut task (files_of moments.before) (files_of moments.after) p reports end.unput.items (WasStopped moments end)
    → HasOwnStatus task end ⊎ (end.status ≡ Memory) → NamesEvent may_read number moments task end
served_named may_read number moments start task end p text reports done same is put status = record {
  name = is.name_is;
  status = status;
  cause = rw (is.early_is, is.text_is, is.reports_are, is.start_is) (done, rw same put);
}

-- a task that ended so has run
pub task_ran : Laws → (may_read : ℕ → Type 0) (number : ℕ) (moments : Moments) (task : TaskOf) (end : TaskEnd) (exit : Exit) → IsAskable task → NamesEvent may_read number moments task end
    → IsPrinted task.request.name moments.before.taken moments.after.taken moments.before.sink_faults moments.after.sink_faults moments.after.ended (AreLines task end) task.request.expect (HasOwnStatus task end) end.status exit
    → IsLater moments → TaskRan may_read number moments task end exit
task_ran laws may_read number moments task end exit askable named printed later = record {
  pass = is_pass_true laws may_read number moments task end askable named;
  fail = is_fail_true laws may_read number moments task end askable named;
  named = named;
  printed = printed;
  complete = is_complete may_read number moments task end named;
  later = later;
}

no_end : CameTo
no_end = record { design = no_design; reports = []; start = None }

some_status : (name : List ℕ) (early : Early) (status : Status) → (((c : CameTo) → IsStatus (refused_request name) (Some early) c status) ⊎ (status ≡ Memory)) → IsRefusedStatus name early status ⊎ (status ≡ Memory)
some_status name early status (inl holds) = inl (no_end, holds no_end)
some_status name early status (inr memory) = inr memory

-- where nothing is expected, the number is the status's own
refused_code : (name : List ℕ) (before now : Option (List ℕ)) (f g : ℕ) (when : Option ℕ) (are : List (List ℕ) → Type 0) (own : Type 0) (status : Status) (exit : Exit) → IsPrinted name before now f g when are [] own status exit
    → (rc : ℕ) → exit ≡ Code rc → rc ≡ code_of status
refused_code name before now f g when are own status (Code n) printed rc is =
    let same : n ≡ rc = cc in sym same ∙ printed.1.unexpected (λ among. nothing_in status among)
refused_code name before now f g when are own status Cut printed rc is = cc

-- only a fault was told
pub fault_refused : (moments : Moments) (name : List ℕ) (early : Early) (end : TaskEnd) (exit : Exit) → IsEnd name (Some early) [] [] None end → end.unput.items ≡ []
    → IsFaultTold (refused_request name) early moments.before.taken moments.after.taken moments.before.sink_faults moments.after.sink_faults moments.after.ended end.status exit → SameFiles moments → SameYard moments.before moments.after
    → moments.before.sink_faults ≤ moments.after.sink_faults → WasRefused moments name early end exit
fault_refused moments name early end exit is unput told files yard later = record {
  name_is = is.name_is;
  early_is = is.early_is;
  reports = is.reports_are;
  unput = unput;
  text = is.text_is;
  start = is.start_is;
  status = some_status name early end.status told.own;
  code = refused_code name moments.before.taken moments.after.taken moments.before.sink_faults moments.after.sink_faults moments.after.ended _ _ end.status exit told.printed;
  printed = printed_weaker name moments.before.taken moments.after.taken moments.before.sink_faults moments.after.sink_faults moments.after.ended _ _ [] _ (IsRefusedStatus name early end.status) end.status exit (λ lines has. has) (λ holds. (no_end, holds no_end)) told.printed;
  files = files;
  yard = yard;
  later = later;
}

-- what was raced is so under another name of its clock's readings, its store and its yard's scripts
pub raced_same : {L : Type 0} (back : L → BackOf) (task : TaskOf) (number : ℕ) (pool : Option PoolOf) (a b : ℕ → Type 0) (told now : Option Store) (scripts own : Option YardOf) (raced : Raced L) → b ≡ a → now ≡ told → own ≡ scripts
    → WasRaced back task number pool a told scripts raced → WasRaced back task number pool b now own raced
raced_same back task number pool a b told now scripts own raced clock store yard was = rw (clock, store, yard) was

-- and so is what is ready
pub ready_same : {L : Type 0} (back : L → BackOf) (task : TaskOf) (number : ℕ) (pool : Option PoolOf) (told now : Option Store) (scripts own : Option YardOf) (ready : Ready L) → now ≡ told → own ≡ scripts
    → IsReady back task number pool told scripts ready → IsReady back task number pool now own ready
ready_same back task number pool told now scripts own ready store yard is = rw (store, yard) is
