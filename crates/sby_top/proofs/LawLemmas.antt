-- What `--judge` makes of stored certificates.
use Rattle.std.proofs.Common.{◌≡◌, ◌≢◌, ℕ, ◌+◌, ◌≤◌, true, List, [], ◌∷◌, refl, ap, sym, ◌∙◌, subst, inl, inr, ◌⊎◌, length, take, arith, Bool, false, ◌++◌}
use Rattle.std.specs.Prelude.{Option, Some, None, map, option_map, cond}
use Rattle.std.specs.Str.{bytes_eq}
use Rattle.std.proofs.lemmas.Slice.Eq.{bytes_eq-Decides}
use Rattle.cnf_form.proofs.Members.{Contains-head, Contains-one}
use Rattle.sby_edge.specs.Files.{Store, put_at}
use Rattle.cert_judge.specs.Fate.{Fate, Found}
use Rattle.cert_judge.specs.declared.stream.Kind.{Kind}
use Rattle.judge.specs.Fates.{IsFate, Serves}
use Rattle.judge.specs.Fault.{IsProblemFault}
use Rattle.judge.specs.Jobs.{jobs_in as jobs_of_mode}
use Rattle.judge.specs.Problem.{AskedOf, IsJobFile, IsProblem}
use Rattle.judge.specs.declared.problem.ProblemFault.{ProblemFault}
use Rattle.design_core.specs.Shape.{DesignOf}
use Rattle.design_reader.specs.Grammar.{Reads}
use Rattle.race_core.specs.Told.{Decided}
use Rattle.sby_terms.specs.Decide.{Decides}
use Rattle.sby_terms.specs.Path.{job_path}
use Rattle.sby_terms.specs.Problem.{ProblemOf}
use Rattle.sby_terms.specs.Span.{slices_of}
use Rattle.sby_terms.specs.Status.{HasStatus}
use Rattle.sby_terms.specs.declared.names.Answer.{Answer}
use Rattle.sby_terms.specs.declared.names.Answer.TheVariants.{Sat, Unsat}
use Rattle.sby_terms.specs.declared.names.Event.{Event}
use Rattle.sby_terms.specs.declared.names.JobName.{JobName}
use Rattle.sby_terms.specs.declared.names.JobName.TheVariants.{Base}
use Rattle.sby_terms.specs.declared.names.Mode.TheVariants.{Bmc}
use Rattle.sby_terms.specs.declared.names.Status.{Status}
use Rattle.sby_terms.specs.declared.names.Status.TheVariants.{Pass, Fail, Unknown, Error, Timeout, Memory}
use Rattle.sby_terms.specs.declared.names.Verdict.{Verdict}
use Rattle.sby_terms.specs.declared.names.Verdict.TheVariants.{Pass as PassVerdict, Fail as FailVerdict}
use Rattle.sby_lines.specs.Lines.{IsStatus}
use Rattle.sby_lines.specs.Told.{IsRaceStatus}
use Rattle.sby_lines.specs.declared.early.Early.{Early}
use Rattle.sby_words.specs.Kinds.{IsKindNamed}
use Rattle.sby_words.specs.Requests.{JudgeRequest}
use Rattle.sby_top.specs.Claims.{IsJudgedAt, status_for}
use Rattle.sby_top.specs.Causes.{IsOutcome}
use Rattle.sby_top.specs.Headline.{AreFates, AreWhole, Exit, IsDecided, IsFateStatus, IsServedStatus, IsSmooth, TaskRan, WasStopped, fate_answer}
use Rattle.sby_top.specs.Served.{ArePut, IsAccepted, IsTextOf, jobs_in, most_design, most_stream, slices_in, Btor, Formula, files_from, files_in, takes_witness}
use Rattle.sby_top.specs.Task.{DesignAt, Given, Lanes, Service, Stored, Streams, TaskOf, problem_of, streams_in}
use Rattle.sby_top.specs.Turns.{judge_task}
use Rattle.sby_top.specs.World.{Moments, race_of}
use Rattle.sby_top.specs.declared.outcome.TaskEnd.{TaskEnd}
use Rattle.sby_top.proofs.FailLemmas.{fail_status}
use Rattle.sby_top.proofs.KindLemmas.{one_kind}
use Rattle.sby_top.proofs.StreamLemmas.{fate_serves}
use Rattle.sby_top.proofs.PlainLemmas.{done_gives}
use Rattle.sby_top.proofs.ReportLemmas.{job_count}
use Rattle.sby_top.proofs.PutLemmas.{put_told}
use Rattle.task_race.specs.Words.{btor_path}
use Rattle.sby_top.proofs.PathLemmas.{btor_apart}

-- the judge's laws
abbrev pub OneFate : Type 0
OneFate = (p : AskedOf) (job : JobName) (kind : Kind) (file stream : List ℕ) (most : ℕ) (x y : Fate) → IsProblem p → IsFate p job kind file stream most x → IsFate p job kind file stream most y → x ≡ y

abbrev pub OneFile : Type 0
OneFile = (p : AskedOf) (job : JobName) (a b : List ℕ) → IsJobFile p job a → IsJobFile p job b → a ≡ b

pub one_some : {X : Type 0} (o : Option X) (x y : X) → o ≡ Some x → o ≡ Some y → x ≡ y
one_some o x y p q = let e : Some x ≡ Some y = sym p ∙ q in cc

-- ---- the answer of the one job

pub nothing_decides : (verdict : Verdict) → Decides Bmc (None ∷ []) verdict → ⊥
nothing_decides PassVerdict d = let no : ◌≡◌ {A = Option Answer} None (Some Unsat) = d.1 0 None (omega arith) in cc
nothing_decides FailVerdict d = let no : ◌≡◌ {A = Option Answer} None (Some Sat) = Contains-one None (Some Sat) d in cc

pub pass_status : (events : List Event) (s : Status) → HasStatus (Some PassVerdict) events s → s ≡ Pass
pass_status events Pass h = refl
pass_status events Fail h = cc
pass_status events Unknown h = absurd h
pass_status events Error h = absurd h
pass_status events Timeout h = absurd h
pass_status events Memory h = absurd h

pub all_one : Decides Bmc (Some Unsat ∷ []) PassVerdict
all_one = ((λ none. cc), (λ i e lt. let first : i ≡ 0 = omega (arith, lt) in rw first refl))

pub answer_gives : (answer : Answer) (verdict : Option Verdict) (events : List Event) (status : Status) → Decided Bmc (Some answer ∷ []) verdict → HasStatus verdict events status → status ≡ status_for answer
answer_gives Sat None events status decided is = absurd (decided FailVerdict (Contains-head (Some Sat) []))
answer_gives Sat (Some PassVerdict) events status decided is = let no : ◌≡◌ {A = Option Answer} (Some Sat) (Some Unsat) = decided.1 0 None (omega arith) in cc
answer_gives Sat (Some FailVerdict) events status decided is = fail_status events status is
answer_gives Unsat None events status decided is = absurd (decided PassVerdict all_one)
answer_gives Unsat (Some PassVerdict) events status decided is = pass_status events status is
answer_gives Unsat (Some FailVerdict) events status decided is = let no : ◌≡◌ {A = Option Answer} (Some Unsat) (Some Sat) = Contains-one (Some Unsat) (Some Sat) decided in cc

-- ---- the job's file

-- what was put at a path stands there
put_stands : (path bytes : List ℕ) (store : Store) → put_at path bytes store path ≡ Some bytes
put_stands path bytes store = let same : bytes_eq path path ≡ true = (bytes_eq-Decides path path).1 refl in rw same refl

put_one_stands : (path bytes file : List ℕ) (told : Option Store) (now : Store) → Some now ≡ option_map (put_at path bytes) told → now path ≡ Some file → bytes ≡ file
put_one_stands path bytes file None now put stands = cc
put_one_stands path bytes file (Some store) now put stands =
    let is : now ≡ put_at path bytes store = cc in
    one_some (now path) bytes file (ap (λ (s : Store). s path) is ∙ put_stands path bytes store) stands

-- where lines were put at another path, too
put_two_stands : (path other bytes lines file : List ℕ) (told : Option Store) (now : Store) → (other ≡ path → ⊥) → Some now ≡ option_map (put_at other lines) (option_map (put_at path bytes) told) → now path ≡ Some file → bytes ≡ file
put_two_stands path other bytes lines file None now apart put stands = cc
put_two_stands path other bytes lines file (Some store) now apart put stands =
    let is : now ≡ put_at other lines (put_at path bytes store) = cc in
    one_some (now path) bytes file (ap (λ (s : Store). s path) is ∙ (put_past other path lines (put_at path bytes store) (bytes_eq other path) refl apart ∙ put_stands path bytes store)) stands
  where
    put_past : (other path lines : List ℕ) (store : Store) (same : Bool) → bytes_eq other path ≡ same → (other ≡ path → ⊥) → put_at other lines store path ≡ store path
    put_past other path lines store false is apart = rw is refl
    put_past other path lines store true is apart = absurd (apart ((bytes_eq-Decides other path).0 is))

put_stood : (p : AskedOf) (folder : List ℕ) (told : Option Store) (now : Store) (file : List ℕ) (lines : Bool) → now (job_path folder (slices_in p) (Base 0)) ≡ Some file
    → ArePut p folder (Formula (Base 0) ∷ (cond lines (Btor (Base 0) ∷ []) [] ++ [])) told (Some now) → IsJobFile p (Base 0) file
put_stood p folder told now file false stands put = subst (IsJobFile p (Base 0)) (put_one_stands (job_path folder (slices_in p) (Base 0)) put.0 file told now put.2 stands) put.1
put_stood p folder told now file true stands put =
    subst (IsJobFile p (Base 0))
    (put_two_stands (job_path folder (slices_in p) (Base 0)) (btor_path folder (slices_in p) (Base 0)) put.0 put.2.0 file told now (btor_apart folder (slices_in p) (Base 0) (Base 0)) put.2.2 stands) put.1

pub one_put_stands : (service : Service) (p : AskedOf) (folder : List ℕ) (told : Option Store) (now : Store) (file : List ℕ) → slices_in p ≡ 1 → ArePut p folder (files_from service 0 (Base 0 ∷ [])) told (Some now)
    → now (job_path folder 1 (Base 0)) ≡ Some file → IsJobFile p (Base 0) file
one_put_stands service p folder told now file one put stands =
    let there : now (job_path folder (slices_in p) (Base 0)) ≡ Some file = subst (λ n. now (job_path folder n (Base 0)) ≡ Some file) (sym one) stands in
    put_stood p folder told now file (takes_witness service 0) there put

-- ---- the fate of the one stream

fate_is_found : OneFate → OneFile → (p : AskedOf) → IsProblem p → (now : Store) (path : List ℕ) (kind : Kind) (stream file : List ℕ) (answer : Answer) (fates : List (Option Fate)) → IsJobFile p (Base 0) file
    → IsKindNamed path kind → now path ≡ Some stream → IsFate p (Base 0) kind file stream most_stream (Found answer) → AreFates p now (Base 0 ∷ []) (path ∷ []) fates
    → AreWhole (Base 0 ∷ []) (path ∷ []) fates ⊎ IsDecided Bmc (map fate_answer fates) → fates ≡ Some (Found answer) ∷ []
fate_is_found one_fate one_file p problem now path kind stream file answer [] own named has valid fates_are whole = absurd fates_are
fate_is_found one_fate one_file p problem now path kind stream file answer (None ∷ fates) own named has valid fates_are whole = elim whole [
  | inl all ↦ absurd (all.0.2 (subst (λ (k : Kind). Serves k (Base 0)) (one_kind path kind all.0.0 named all.0.1) (fate_serves p (Base 0) kind file stream most_stream (Found answer) valid)))
  | inr decided ↦
      let none : fates ≡ [] = fates_are in
      absurd (nothing_decides decided.0 (subst (λ fs. Decides Bmc (None ∷ map fate_answer fs) decided.0) none decided.1))
]
fate_is_found one_fate one_file p problem now path kind stream file answer (Some fate ∷ fates) own named has valid fates_are whole =
    let told = fates_are.0 in
    let same_kind : told.0 ≡ kind = one_kind path told.0 kind told.3 named in
    let same_stream : told.1 ≡ stream = one_some (now path) told.1 stream told.4 has in
    let same_file : told.2 ≡ file = one_file p (Base 0) told.2 file told.5 own in
    let here : IsFate p (Base 0) kind file stream most_stream fate =
    subst (λ k. IsFate p (Base 0) k file stream most_stream fate) same_kind
    (subst (λ s. IsFate p (Base 0) told.0 file s most_stream fate) same_stream (subst (λ f. IsFate p (Base 0) told.0 f told.1 most_stream fate) same_file told.6)) in
    let is : fate ≡ Found answer = one_fate p (Base 0) kind file stream most_stream fate (Found answer) problem here valid in
    let none : fates ≡ [] = fates_are.1 in
    ap (λ f. Some f ∷ fates) is ∙ ap (λ fs. Some (Found answer) ∷ fs) none

-- the one job of bmc with its cycles whole
one_job : (told : Option Store) (j : JudgeRequest) (p : AskedOf) → IsAccepted told (judge_task j) p → j.mode ≡ Bmc → jobs_in p ≡ Base 0 ∷ []
one_job told j p accepted bmc =
    ap (λ (q : ProblemOf). jobs_of_mode q.mode q.span p.design) accepted.asked ∙ ap (λ m. jobs_of_mode m (judge_task j).request.span p.design) bmc

one_slice : (told : Option Store) (j : JudgeRequest) (p : AskedOf) → IsAccepted told (judge_task j) p → slices_in p ≡ 1
one_slice told j p accepted = ap (λ (q : ProblemOf). slices_of q.span) accepted.asked

-- a task that was judged has the verdict of its one certificate
race_gives : OneFate → OneFile → (may_read : ℕ → Type 0) (number : ℕ) (moments : Moments) (j : JudgeRequest) (end : TaskEnd) (now : Store) (d : DesignOf) (path : List ℕ) (kind : Kind) (stream file : List ℕ) (answer : Answer)
    → (judged : IsJudgedAt may_read number moments (judge_task j) end now) → Reads end.text d → IsRaceStatus (judge_task j).request (record { design = d; reports = end.reports.items; start = end.start }) end.status → j.mode ≡ Bmc → end.status ≢ Memory
    → j.streams ≡ path ∷ [] → IsKindNamed path kind → now path ≡ Some stream → now (job_path j.folder 1 (Base 0)) ≡ Some file → IsFate judged.done.problem (Base 0) kind file stream most_stream (Found answer) → end.status ≡ status_for answer
race_gives one_fate one_file may_read number moments j end now d path kind stream file answer judged reads race bmc apart streams named has stands valid =
    let jobs = one_job moments.got.told j judged.done.problem judged.done.served.0 bmc in
    let put : ArePut judged.done.problem j.folder (files_from (judge_task j).service 0 (Base 0 ∷ [])) moments.got.told (Some now) =
    subst (λ t. ArePut judged.done.problem j.folder (files_from (judge_task j).service 0 (Base 0 ∷ [])) moments.got.told t) judged.told
    (subst (λ js. ArePut judged.done.problem j.folder (files_from (judge_task j).service 0 js) moments.got.told moments.put.told) jobs judged.done.put) in
    let own = one_put_stands (judge_task j).service judged.done.problem j.folder moments.got.told now file (one_slice moments.got.told j judged.done.problem judged.done.served.0) put stands in
    let gives = done_gives may_read (judge_task j) moments.got moments.put (race_of number moments.pool moments.before moments.after end.start) now end.text end.reports.items d end.start end.status j.streams refl judged.told apart reads race judged.done in
    let fates : AreFates judged.done.problem now (Base 0 ∷ []) (path ∷ []) gives.fates =
    subst (λ js. AreFates judged.done.problem now js (path ∷ []) gives.fates) jobs (subst (λ ps. AreFates judged.done.problem now (jobs_in judged.done.problem) ps gives.fates) streams gives.are) in
    let whole : AreWhole (Base 0 ∷ []) (path ∷ []) gives.fates ⊎ IsDecided Bmc (map fate_answer gives.fates) =
    subst (λ m. AreWhole (Base 0 ∷ []) (path ∷ []) gives.fates ⊎ IsDecided m (map fate_answer gives.fates)) bmc
    (subst (λ js. AreWhole js (path ∷ []) gives.fates ⊎ IsDecided j.mode (map fate_answer gives.fates)) jobs
    (subst (λ ps. AreWhole (jobs_in judged.done.problem) ps gives.fates ⊎ IsDecided j.mode (map fate_answer gives.fates)) streams gives.give.0)) in
    let found = fate_is_found one_fate one_file judged.done.problem judged.done.served.0.problem now path kind stream file answer gives.fates own named has valid fates whole in
    let s : IsFateStatus Bmc (Some (Found answer) ∷ []) end.status = subst (λ fs. IsFateStatus Bmc fs end.status) found (subst (λ m. IsFateStatus m gives.fates end.status) bmc gives.give.1) in
    answer_gives answer s.0 _ end.status s.1 s.2

pub certificate_gives : OneFate → OneFile → (may_read : ℕ → Type 0) (number : ℕ) (moments : Moments) (j : JudgeRequest) (end : TaskEnd) (exit : Exit) (now : Store) (path : List ℕ) (kind : Kind) (stream file : List ℕ) (answer : Answer) → TaskRan may_read number moments (judge_task j) end exit
    → (judged : IsJudgedAt may_read number moments (judge_task j) end now) → j.mode ≡ Bmc → end.status ≢ Memory → j.streams ≡ path ∷ [] → IsKindNamed path kind → now path ≡ Some stream
    → now (job_path j.folder 1 (Base 0)) ≡ Some file → IsFate judged.done.problem (Base 0) kind file stream most_stream (Found answer) → end.status ≡ status_for answer
certificate_gives one_fate one_file may_read number moments j end exit now path kind stream file answer ran judged bmc apart streams named has stands valid = elim ran.named.status [
  | inl own ↦
      race_gives one_fate one_file may_read number moments j end now own.0 path kind stream file answer judged (own.1 judged.early)
      (subst (λ e. IsStatus (judge_task j).request e (record { design = own.0; reports = end.reports.items; start = end.start }) end.status) judged.early own.2) bmc apart streams named has stands valid
  | inr memory ↦ absurd (apart memory)
]

-- over a store that tells, there is the one at which a task was judged
pub judged_at : (may_read : ℕ → Type 0) (number : ℕ) (moments : Moments) (task : TaskOf) (end : TaskEnd) (exit : Exit) (store : Store) → TaskRan may_read number moments task end exit → moments.got.told ≡ Some store → end.early ≡ None → (now : Store) × IsJudgedAt may_read number moments task end now
judged_at may_read number moments task end exit store ran told early =
    let came = subst (λ e. IsOutcome may_read task moments (race_of number moments.pool moments.before moments.after end.start) e end.text end.reports.items end.unput.items (WasStopped moments end)) early ran.named.cause in
    let now = put_told came.0.problem task.request.name (files_in task.service came.0.problem) moments.got.told moments.put.told store told came.0.put in
    (now.0, record { early = early; done = came.0; traced = came.1; told = now.1 })

-- ---- designs that aren't refused

one_text : (store : Store) (design : DesignAt) (a b : List ℕ) → IsTextOf (Some store) design a → IsTextOf (Some store) design b → a ≡ b
one_text store (Stored path) a b p q = p.2 ∙ ap (take (most_design + 1)) (one_some (store path) p.0 q.0 p.1 q.1) ∙ sym q.2
one_text store (Given bytes) a b p q = p ∙ sym q

served_early : (service : Service) (store : Store) (task : TaskOf) (early : Option Early) (status : Status) → IsServedStatus service store task early status → early ≡ None
served_early (Streams paths) store task early status is = is.7
served_early (Lanes engines) store task early status is = is.2

comes_with_jobs : (may_read : ℕ → Type 0) (number : ℕ) (moments : Moments) (task : TaskOf) (end : TaskEnd) (exit : Exit) (store : Store) (text : List ℕ) → TaskRan may_read number moments task end exit → IsSmooth moments end.status → moments.got.told ≡ Some store
    → IsTextOf (Some store) task.design text → ((fault : ProblemFault) → IsProblemFault (problem_of task text) fault → ⊥)
    → ((p : AskedOf) → IsAccepted (Some store) task p → length (streams_in task.service) ≤ length (jobs_in p)) → end.early ≡ None
comes_with_jobs may_read number moments task end exit store text ran smooth told got accepted few = elim (ran.complete store told smooth) [
  | inl refused ↦ absurd (accepted refused.0 (subst (λ t. IsProblemFault (problem_of task t) refused.0) (one_text store task.design refused.1.0 text refused.1.1 got) refused.1.2))
  | inr others ↦ elim others [
    | inl many ↦ let enough = few many.0 many.1 in absurd (omega (arith, enough, many.2))
    | inr judged ↦ served_early task.service store task end.early end.status judged
  ]
]

-- the task of a design that isn't refused reaches its lanes, where there is a job for each stream
pub comes_to_lanes : (may_read : ℕ → Type 0) (number : ℕ) (moments : Moments) (task : TaskOf) (end : TaskEnd) (exit : Exit) (store : Store) (text : List ℕ) (d : DesignOf) → TaskRan may_read number moments task end exit → IsSmooth moments end.status → moments.got.told ≡ Some store
    → IsTextOf (Some store) task.design text → ((fault : ProblemFault) → IsProblemFault (problem_of task text) fault → ⊥) → Reads text d
    → length (streams_in task.service) ≤ length (jobs_of_mode task.request.mode task.request.span d) → end.early ≡ None
comes_to_lanes may_read number moments task end exit store text d ran smooth told got accepted reads few =
    comes_with_jobs may_read number moments task end exit store text ran smooth told got accepted (λ p is.
    let here : Reads p.problem.text d = subst (λ t. Reads t d) (one_text store task.design text p.problem.text got is.got) reads in
    let count = job_count (Some store) task p is in
    let only : length (jobs_of_mode task.request.mode task.request.span d) ≡ length (jobs_of_mode task.request.mode task.request.span p.design) =
    ap (λ x. length (jobs_of_mode task.request.mode task.request.span x)) (is.problem.only d here) in
    omega (arith, count, only, few))

-- in bmc `--judge` has one job
pub comes_in_bmc : (may_read : ℕ → Type 0) (number : ℕ) (moments : Moments) (j : JudgeRequest) (end : TaskEnd) (exit : Exit) (store : Store) (text : List ℕ) → TaskRan may_read number moments (judge_task j) end exit → IsSmooth moments end.status → moments.got.told ≡ Some store
    → j.mode ≡ Bmc → IsTextOf (Some store) (judge_task j).design text → ((fault : ProblemFault) → IsProblemFault (problem_of (judge_task j) text) fault → ⊥) → length j.streams ≤ 1 → end.early ≡ None
comes_in_bmc may_read number moments j end exit store text ran smooth told bmc got accepted few =
    comes_with_jobs may_read number moments (judge_task j) end exit store text ran smooth told got accepted (λ p is.
    let one : length (jobs_in p) ≡ 1 = ap length (one_job (Some store) j p is bmc) in omega (arith, one, few))
