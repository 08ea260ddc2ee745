-- The status is the one that the fates of the streams give.
use Rattle.std.proofs.Common.{◌≡◌, ◌≢◌, ℕ, zero, suc, ◌<◌, List, [], ◌∷◌, refl, ap, ap₂, sym, ◌∙◌, subst, inl, inr, ◌⊎◌, length, map, arith}
use Rattle.std.specs.Prelude.{Contains, Option, Some, None, MatchOption, option_map, slice_get}
use Rattle.std.proofs.lemmas.List.{length-map}
use Rattle.std.proofs.lemmas.Option.{get_or_from_slice_get, slice_get-get_or, slice_get-map, slice_get_within}
use Rattle.cnf_form.proofs.Members.{Contains-cases, Contains-empty, Contains-head, Contains-tail}
use Rattle.sby_edge.specs.Cause.{Rose}
use Rattle.sby_edge.specs.Files.{Store}
use Rattle.cert_judge.specs.Fate.{Fate, Found as FoundFate, Unknown as UnknownFate, Bad as BadFate}
use Rattle.cert_judge.specs.declared.stream.Kind.{Kind}
use Rattle.judge.specs.Fates.{IsFate}
use Rattle.design_core.specs.Shape.{DesignOf}
use Rattle.design_reader.specs.Grammar.{Reads}
use Rattle.judge.specs.Finding.{FindingOf}
use Rattle.judge.specs.Jobs.{jobs_in as jobs_of_mode}
use Rattle.judge.specs.Problem.{AskedOf, IsJobFile}
use Rattle.judge.specs.declared.problem.ProblemFault.TheVariants.{Read as ReadFault, Design as DesignFault, TooMany as TooManyFault}
use Rattle.race_core.specs.Asking.{name_at}
use Rattle.race_core.specs.Carrying.{Carries}
use Rattle.race_core.specs.Collect.{AreCollected, IsAnswer, IsStatus as IsStatusOf, SettledIn}
use Rattle.race_core.specs.Consistent.{end_at}
use Rattle.race_core.specs.Report.{ReportOf}
use Rattle.race_core.specs.Told.{Decided, told_by}
use Rattle.race_core.specs.declared.end.JobEnd.{JobEnd}
use Rattle.race_core.specs.declared.end.JobEnd.TheVariants.{Found, Unknown, NotServed, Bad, ReadFailed, StartFailed, HoldFailed, Skipped, CalledOff, Stopped, Memory as MemoryEnd}
use Rattle.sby_terms.specs.Decide.{Decides}
use Rattle.sby_terms.specs.Problem.{ProblemOf}
use Rattle.sby_terms.specs.Status.{HasStatus}
use Rattle.sby_terms.specs.declared.names.Answer.{Answer}
use Rattle.sby_terms.specs.declared.names.Event.{Event}
use Rattle.sby_terms.specs.declared.names.Event.TheVariants.{Fault as FaultEvent, Memory as MemoryEvent, Quiet, Stopped as StoppedEvent}
use Rattle.sby_terms.specs.declared.names.JobName.{JobName}
use Rattle.sby_terms.specs.declared.names.JobName.TheVariants.{Base, Step, Inv, Cover}
use Rattle.sby_terms.specs.declared.names.Mode.{Mode}
use Rattle.sby_terms.specs.declared.names.Mode.TheVariants.{Bmc, Prove, ProveInv, Cover as CoverMode}
use Rattle.sby_terms.specs.declared.names.Status.{Status}
use Rattle.sby_terms.specs.declared.names.Status.TheVariants.{Pass, Fail, Unknown as UnknownStatus, Error, Timeout, Memory}
use Rattle.sby_terms.specs.declared.names.Verdict.{Verdict}
use Rattle.sby_terms.specs.declared.span.Span.{Span}
use Rattle.sby_words.specs.Kinds.{IsKindNamed}
use Rattle.sby_lines.specs.Lines.{IsStatus}
use Rattle.sby_lines.specs.Told.{AreReported, IsRaceStatus, answer_of, job_of}
use Rattle.sby_lines.specs.declared.early.Early.{Early}
use Rattle.sby_lines.specs.declared.early.Early.TheVariants.{File, Sby, Task, Read, Design, TooMany, Streams as TooManyStreams, Memory as MemoryEarly}
use Rattle.sby_lines.proofs.PlaceLemmas.{at_contains, contains_at, job_named}
use Rattle.sby_lines.proofs.ShownLemmas.{answers_same, some_same}
use Rattle.sby_top.specs.Causes.{IsDone, IsOutcome}
use Rattle.sby_top.specs.Headline.{AreFates, AreWhole, IsComplete, IsDecided, IsFateStatus, IsJudgedStatus, IsPlainStatus, IsServedStatus, NamesEvent, fate_answer, fate_event}
use Rattle.sby_top.specs.Judged.{AreJudged, AreReports, AreStreamReports, IsEndOf, IsFateEnd, IsStreamEnd, IsUnserved}
use Rattle.sby_top.specs.Served.{ArePut, IsAccepted, IsRefused, files_in, jobs_in, most_stream}
use Rattle.sby_top.specs.Task.{Lanes, Service, Streams, TaskOf, streams_in}
use Rattle.sby_top.specs.World.{FilesOf, Moments, RaceOf, race_of}
use Rattle.sby_top.specs.declared.outcome.TaskEnd.{TaskEnd}
use Rattle.sby_top.proofs.JobLemmas.{judged_count}
use Rattle.sby_top.proofs.PutLemmas.{file_put, put_told}
use Rattle.sby_top.proofs.ReportLemmas.{job_count, reported}
use Rattle.sby_top.proofs.StatusLemmas.{no_memory, verdict_status}
use Rattle.sby_top.proofs.TruthLemmas.{own_design}

has_some : (o : Option (List ℕ)) (P : List ℕ → Type 0) → MatchOption o ⊥ P → (x : List ℕ) × (o ≡ Some x) × P x
has_some None P h = absurd h
has_some (Some x) P h = (x, refl, h)

-- ---- the fates of streams whose jobs ended so

abbrev event_of : JobEnd FindingOf → Event
event_of end = told_by end

-- the answer of the finding that an end is
abbrev pub end_answer : JobEnd FindingOf → Option Answer
end_answer (Found f) = Some f.answer
end_answer Unknown = None
end_answer NotServed = None
end_answer (Bad number at) = None
end_answer ReadFailed = None
end_answer StartFailed = None
end_answer HoldFailed = None
end_answer (Skipped f) = None
end_answer (CalledOff f) = None
end_answer (Stopped reading) = None
end_answer MemoryEnd = None

-- they answer as the ends do, and where memory did not run out they say what these say
record HasFates (p : AskedOf) (now : Store) (jobs : List JobName) (paths : List (List ℕ)) (ends : List (JobEnd FindingOf)) : Type 0 where
  fates : List (Option Fate)
  are : AreFates p now jobs paths fates
  answers : map fate_answer fates ≡ map end_answer ends
  whole : (Contains (map event_of ends) MemoryEvent → ⊥) → AreWhole jobs paths fates × (map fate_event fates ≡ map event_of ends)

-- a job's file, and the stream at its path, which names its kind
record IsStream (p : AskedOf) (now : Store) (job : JobName) (path : List ℕ) (kind : Kind) (file stream : List ℕ) : Type 0 where
  named : IsKindNamed path kind
  file_is : IsJobFile p job file
  at : now path ≡ Some stream

with_fate : (p : AskedOf) (now : Store) (job : JobName) (jobs : List JobName) (path : List ℕ) (kind : Kind) (file stream : List ℕ) (paths : List (List ℕ)) (end : JobEnd FindingOf) (ends : List (JobEnd FindingOf)) (fate : Fate)
    → IsStream p now job path kind file stream → IsFate p job kind file stream most_stream fate → fate_answer (Some fate) ≡ end_answer end → fate_event (Some fate) ≡ event_of end
    → HasFates p now jobs paths ends → HasFates p now (job ∷ jobs) (path ∷ paths) (end ∷ ends)
with_fate p now job jobs path kind file stream paths end ends fate is of answer event rest = record {
  fates = Some fate ∷ rest.fates;
  are = ((kind, stream, file, is.named, is.at, is.file_is, of), rest.are);
  answers = ap₂ (λ (a : Option Answer) (xs : List (Option Answer)). a ∷ xs) answer rest.answers;
  whole = λ none. let w = rest.whole (λ among. none (Contains-tail (event_of end) MemoryEvent (map event_of ends) among)) in
      (w.0, ap₂ (λ (e : Event) (es : List Event). e ∷ es) event w.1);
}

with_end : (p : AskedOf) (now : Store) (job : JobName) (jobs : List JobName) (path : List ℕ) (kind : Kind) (file stream : List ℕ) (paths : List (List ℕ)) (end : JobEnd FindingOf) (ends : List (JobEnd FindingOf))
    → IsStream p now job path kind file stream → IsFateEnd p job kind file stream end → HasFates p now jobs paths ends → HasFates p now (job ∷ jobs) (path ∷ paths) (end ∷ ends)
with_end p now job jobs path kind file stream paths (Found f) ends is of rest = with_fate p now job jobs path kind file stream paths (Found f) ends (FoundFate f.answer) is of refl refl rest
with_end p now job jobs path kind file stream paths Unknown ends is of rest = with_fate p now job jobs path kind file stream paths Unknown ends UnknownFate is of refl refl rest
with_end p now job jobs path kind file stream paths (Bad number at) ends is of rest = with_fate p now job jobs path kind file stream paths (Bad number at) ends (BadFate of.0 at) is of.2 refl refl rest
with_end p now job jobs path kind file stream paths MemoryEnd ends is of rest = record {
  fates = None ∷ rest.fates;
  are = rest.are;
  answers = ap (λ (xs : List (Option Answer)). None ∷ xs) rest.answers;
  whole = λ none. absurd (none (Contains-head MemoryEvent (map event_of ends)));
}
with_end p now job jobs path kind file stream paths NotServed ends is of rest = absurd of
with_end p now job jobs path kind file stream paths ReadFailed ends is of rest = absurd of
with_end p now job jobs path kind file stream paths StartFailed ends is of rest = absurd of
with_end p now job jobs path kind file stream paths HoldFailed ends is of rest = absurd of
with_end p now job jobs path kind file stream paths (Skipped f) ends is of rest = absurd of
with_end p now job jobs path kind file stream paths (CalledOff f) ends is of rest = absurd of
with_end p now job jobs path kind file stream paths (Stopped reading) ends is of rest = absurd of

-- an end of a job that isn't served says nothing
with_none : (p : AskedOf) (now : Store) (job : JobName) (jobs : List JobName) (path : List ℕ) (paths : List (List ℕ)) (end : JobEnd FindingOf) (ends : List (JobEnd FindingOf)) → IsUnserved path job → end ≡ NotServed
    → HasFates p now jobs paths ends → HasFates p now (job ∷ jobs) (path ∷ paths) (end ∷ ends)
with_none p now job jobs path paths end ends unserved is rest =
    let answer : None ≡ end_answer end = sym (ap end_answer is) in
    let event : Quiet ≡ event_of end = sym (ap event_of is) in
    record {
      fates = None ∷ rest.fates;
      are = rest.are;
      answers = ap₂ (λ (a : Option Answer) (xs : List (Option Answer)). a ∷ xs) answer rest.answers;
      whole = λ none. let w = rest.whole (λ among. none (Contains-tail (event_of end) MemoryEvent (map event_of ends) among)) in
          ((unserved, w.0), ap₂ (λ (e : Event) (es : List Event). e ∷ es) event w.1);
    }

-- each of these jobs has a file
abbrev HaveFiles : AskedOf → List JobName → Type 0
HaveFiles p jobs = (k : ℕ) (job : JobName) → slice_get jobs k ≡ Some job → (file : List ℕ) × IsJobFile p job file

with_stream : (p : AskedOf) (now : Store) (job : JobName) (jobs : List JobName) (path : List ℕ) (paths : List (List ℕ)) (end : JobEnd FindingOf) (ends : List (JobEnd FindingOf)) → (file : List ℕ) × IsJobFile p job file
    → IsStreamEnd p (Some now) job path end → HasFates p now jobs paths ends → HasFates p now (job ∷ jobs) (path ∷ paths) (end ∷ ends)
with_stream p now job jobs path paths end ends file (inl judged) rest =
    let at = has_some (now path) (λ stream. IsFateEnd p job judged.kind file.0 stream end) (judged.fate file.0 file.1) in
    with_end p now job jobs path judged.kind file.0 at.0 paths end ends (record { named = judged.named; file_is = file.1; at = at.1 }) at.2 rest
with_stream p now job jobs path paths end ends file (inr (unserved, is)) rest = with_none p now job jobs path paths end ends unserved is rest

fates_exist : (p : AskedOf) (now : Store) (jobs : List JobName) (paths : List (List ℕ)) (ends : List (JobEnd FindingOf)) → HaveFiles p jobs → AreJudged p (Some now) jobs paths ends → HasFates p now jobs paths ends
fates_exist p now [] paths ends files judged = record { fates = []; are = refl; answers = rw judged refl; whole = λ none. (tt, rw judged refl) }
fates_exist p now (job ∷ jobs) paths [] files judged = absurd judged
fates_exist p now (job ∷ jobs) [] (end ∷ ends) files judged =
    let rest = fates_exist p now jobs [] ends (λ k. files (suc k)) judged.1 in
    let answer : None ≡ end_answer end = sym (ap end_answer judged.0) in
    let event : Quiet ≡ event_of end = sym (ap event_of judged.0) in
    record {
      fates = None ∷ rest.fates;
      are = rest.are;
      answers = ap₂ (λ (a : Option Answer) (xs : List (Option Answer)). a ∷ xs) answer rest.answers;
      whole = λ none. let w = rest.whole (λ among. none (Contains-tail (event_of end) MemoryEvent (map event_of ends) among)) in
          (tt, ap₂ (λ (e : Event) (es : List Event). e ∷ es) event w.1);
    }
fates_exist p now (job ∷ jobs) (path ∷ paths) (end ∷ ends) files judged =
    with_stream p now job jobs path paths end ends (files 0 job refl) judged.0 (fates_exist p now jobs paths ends (λ k. files (suc k)) judged.1)

-- ---- the answers are those of the ends

own_carried : (p : AskedOf) (job : JobName) (end : JobEnd FindingOf) (f : FindingOf) → IsEndOf p job end → Carries end f → (end ≡ Found f) × (f.job ≡ job)
own_carried p job (Found g) f of carries = (ap Found carries, ap (λ (x : FindingOf). x.job) (sym carries) ∙ of.of_job)
own_carried p job Unknown f of carries = absurd carries
own_carried p job NotServed f of carries = absurd carries
own_carried p job (Bad number at) f of carries = absurd carries
own_carried p job ReadFailed f of carries = absurd carries
own_carried p job StartFailed f of carries = absurd carries
own_carried p job HoldFailed f of carries = absurd carries
own_carried p job (Skipped g) f of carries = absurd of
own_carried p job (CalledOff g) f of carries = absurd of
own_carried p job (Stopped reading) f of carries = absurd carries
own_carried p job MemoryEnd f of carries = absurd carries

stream_carried : (p : AskedOf) (told : Option Store) (job : JobName) (path : List ℕ) (end : JobEnd FindingOf) (f : FindingOf) → IsStreamEnd p told job path end → Carries end f → (end ≡ Found f) × (f.job ≡ job)
stream_carried p told job path end f (inl judged) carries = own_carried p job end f judged.of carries
stream_carried p told job path end f (inr (unserved, is)) carries = absurd (subst (λ x. Carries x f) is carries)

pub carried_at : (p : AskedOf) (told : Option Store) (jobs : List JobName) (paths : List (List ℕ)) (ends : List (JobEnd FindingOf)) (k : ℕ) (e : JobEnd FindingOf) (f : FindingOf) → AreJudged p told jobs paths ends
    → slice_get ends k ≡ Some e → Carries e f → (e ≡ Found f) × (slice_get jobs k ≡ Some f.job)
carried_at p told [] paths ends k e f judged at carries = absurd (Contains-empty e (subst (λ es. Contains es e) judged (at_contains ends k e at)))
carried_at p told (job ∷ jobs) paths [] k e f judged at carries = absurd judged
carried_at p told (job ∷ jobs) [] (end ∷ ends) zero e f judged at carries =
    let here = some_same end e at in absurd (subst (λ x. Carries x f) (sym here ∙ judged.0) carries)
carried_at p told (job ∷ jobs) [] (end ∷ ends) (suc k) e f judged at carries = carried_at p told jobs [] ends k e f judged.1 at carries
carried_at p told (job ∷ jobs) (path ∷ paths) (end ∷ ends) zero e f judged at carries =
    let here = some_same end e at in
    let own = stream_carried p told job path end f judged.0 (subst (λ x. Carries x f) (sym here) carries) in
    (sym here ∙ own.0, ap Some (sym own.1))
carried_at p told (job ∷ jobs) (path ∷ paths) (end ∷ ends) (suc k) e f judged at carries = carried_at p told jobs paths ends k e f judged.1 at carries

-- jobs at two places have two names
pub one_place : (mode : Mode) (span : Span) (d : DesignOf) (j k : ℕ) → j < length (jobs_of_mode mode span d) → k < length (jobs_of_mode mode span d) → name_at mode j ≡ name_at mode k → j ≡ k
one_place Bmc span d j k in_j in_k same = let own : Base j ≡ Base k = same in cc
one_place Prove span d zero zero in_j in_k same = refl
one_place Prove span d zero (suc zero) in_j in_k same = let own : Base 0 ≡ Step = same in cc
one_place Prove span d (suc zero) zero in_j in_k same = let own : Step ≡ Base 0 = same in cc
one_place Prove span d (suc zero) (suc zero) in_j in_k same = refl
one_place Prove span d (suc (suc j)) k in_j in_k same = absurd (omega (arith, in_j))
one_place Prove span d zero (suc (suc k)) in_j in_k same = absurd (omega (arith, in_k))
one_place Prove span d (suc zero) (suc (suc k)) in_j in_k same = absurd (omega (arith, in_k))
one_place ProveInv span d zero zero in_j in_k same = refl
one_place ProveInv span d zero (suc zero) in_j in_k same = let own : Base 0 ≡ Inv = same in cc
one_place ProveInv span d (suc zero) zero in_j in_k same = let own : Inv ≡ Base 0 = same in cc
one_place ProveInv span d (suc zero) (suc zero) in_j in_k same = refl
one_place ProveInv span d (suc (suc j)) k in_j in_k same = absurd (omega (arith, in_j))
one_place ProveInv span d zero (suc (suc k)) in_j in_k same = absurd (omega (arith, in_k))
one_place ProveInv span d (suc zero) (suc (suc k)) in_j in_k same = absurd (omega (arith, in_k))
one_place CoverMode span d j k in_j in_k same = let own : Cover j ≡ Cover k = same in cc

-- a member of a mapped list
mapped_at : {X Y : Type 0} (v : X → Y) (xs : List X) (k : ℕ) (y : Y) → slice_get (map v xs) k ≡ Some y → (x : X) × (slice_get xs k ≡ Some x) × (v x ≡ y)
mapped_at v [] k y at = absurd (Contains-empty y (at_contains [] k y at))
mapped_at v (x ∷ xs) zero y at = (x, refl, some_same (v x) y at)
mapped_at v (x ∷ xs) (suc k) y at = mapped_at v xs k y at

map_at : {X Y : Type 0} (v : X → Y) (xs : List X) (k : ℕ) (x : X) → slice_get xs k ≡ Some x → slice_get (map v xs) k ≡ Some (v x)
map_at v xs k x at = slice_get-map v xs k ∙ ap (option_map v) at

pub answer_found : (e : JobEnd FindingOf) (a : Answer) → end_answer e ≡ Some a → (f : FindingOf) × (e ≡ Found f) × (f.answer ≡ a)
answer_found (Found f) a is = (f, refl, some_same f.answer a is)
answer_found Unknown a is = cc
answer_found NotServed a is = cc
answer_found (Bad number at) a is = cc
answer_found ReadFailed a is = cc
answer_found StartFailed a is = cc
answer_found HoldFailed a is = cc
answer_found (Skipped f) a is = cc
answer_found (CalledOff f) a is = cc
answer_found (Stopped reading) a is = cc
answer_found MemoryEnd a is = cc

-- what is known of a task whose streams were judged
record IsLane (task : TaskOf) (p : AskedOf) (told : Option Store) (paths : List (List ℕ)) (r : ReportOf FindingOf) : Type 0 where
  count : length (jobs_in p) ≡ length (jobs_of_mode task.request.mode task.request.span p.design)
  named : (k : ℕ) → k < length (jobs_in p) → slice_get (jobs_in p) k ≡ Some (name_at task.request.mode k)
  judged : AreJudged p told (jobs_in p) paths r.ends

-- a finding that the one report carries for the job at a place is that of its end there
found_at : (task : TaskOf) (p : AskedOf) (told : Option Store) (paths : List (List ℕ)) (r : ReportOf FindingOf) (k : ℕ) (e : JobEnd FindingOf) (f : FindingOf) → IsLane task p told paths r → slice_get r.ends k ≡ Some e
    → SettledIn job_of (r ∷ []) (name_at task.request.mode k) f → e ≡ Found f
found_at task p told paths r k e f lane at settled =
    let same : settled.0 ≡ r = elim (Contains-cases r settled.0 [] settled.1) [ inl is ↦ sym is | inr none ↦ absurd (Contains-empty settled.0 none) ] in
    let end = settled.2.0 in
    let place = settled.2.1.0 in
    let here : slice_get r.ends place ≡ Some end = subst (λ (x : ReportOf FindingOf). slice_get x.ends place ≡ Some end) same (contains_at settled.0.ends settled.2.0 settled.2.1) in
    let own = carried_at p told (jobs_in p) paths r.ends place end f lane.judged here settled.2.2 in
    let long = judged_count p told (jobs_in p) paths r.ends lane.judged in
    let in_place : place < length (jobs_in p) = omega (arith, long, slice_get_within r.ends place end here) in
    let in_k : k < length (jobs_in p) = omega (arith, long, slice_get_within r.ends k e at) in
    let name : name_at task.request.mode place ≡ f.job = some_same (name_at task.request.mode place) f.job (sym (lane.named place in_place) ∙ own.1) in
    let one : place ≡ k = one_place task.request.mode task.request.span p.design place k (omega (arith, in_place, lane.count)) (omega (arith, in_k, lane.count)) (name ∙ settled.3) in
    let both : end ≡ e = some_same end e (sym (subst (λ n. slice_get r.ends n ≡ Some end) one here) ∙ at) in
    sym both ∙ own.0

answer_by : (task : TaskOf) (p : AskedOf) (told : Option Store) (paths : List (List ℕ)) (r : ReportOf FindingOf) (k : ℕ) (e : JobEnd FindingOf) (o : Option Answer) → IsLane task p told paths r → slice_get r.ends k ≡ Some e
    → end_answer e ≡ o → IsAnswer answer_of (λ f. SettledIn job_of (r ∷ []) (name_at task.request.mode k) f) o
answer_by task p told paths r k e (Some a) lane at is =
    let found = answer_found e a is in
    let own = carried_at p told (jobs_in p) paths r.ends k e found.0 lane.judged at (subst (λ x. Carries x found.0) (sym found.1) refl) in
    let long = judged_count p told (jobs_in p) paths r.ends lane.judged in
    let in_k : k < length (jobs_in p) = omega (arith, long, slice_get_within r.ends k e at) in
    let name : found.0.job ≡ name_at task.request.mode k = some_same found.0.job (name_at task.request.mode k) (sym own.1 ∙ lane.named k in_k) in
    (found.0, (r, Contains-head r [], (e, at_contains r.ends k e at, subst (λ x. Carries x found.0) (sym found.1) refl), name), found.2)
answer_by task p told paths r k e None lane at is = λ f settled.
    let found = found_at task p told paths r k e f lane at settled in
    let no : Some f.answer ≡ None = sym (ap end_answer found) ∙ is in cc

-- the ends' answers are collected
ends_collected : (task : TaskOf) (p : AskedOf) (told : Option Store) (paths : List (List ℕ)) (r : ReportOf FindingOf) → IsLane task p told paths r
    → AreCollected job_of answer_of task.request.mode (length (jobs_of_mode task.request.mode task.request.span p.design)) (r ∷ []) (map end_answer r.ends)
ends_collected task p told paths r lane = record {
  size = length-map r.ends end_answer ∙ judged_count p told (jobs_in p) paths r.ends lane.judged ∙ lane.count;
  entry = λ k o at. let own = mapped_at end_answer r.ends k o at in answer_by task p told paths r k own.0 o lane own.1 own.2;
}

-- ---- the events

-- the status by other events that say the same
pub status_by : (events others : List Event) (s : Status) → s ≢ Memory → ((e : Event) → e ≢ Quiet → Contains others e → Contains events e) → ((e : Event) → e ≢ Quiet → Contains events e → Contains others e)
    → HasStatus None events s → HasStatus None others s
status_by events others Pass apart back forth h = h
status_by events others Fail apart back forth h = h
status_by events others Memory apart back forth h = absurd (apart refl)
status_by events others Timeout apart back forth h = (λ m. h.0 (back MemoryEvent (λ e. cc) m), forth StoppedEvent (λ e. cc) h.1)
status_by events others Error apart back forth h = (λ m. h.0 (back MemoryEvent (λ e. cc) m), (λ s. h.1 (back StoppedEvent (λ e. cc) s)), forth FaultEvent (λ e. cc) h.2)
status_by events others UnknownStatus apart back forth h =
    (λ m. h.0 (back MemoryEvent (λ e. cc) m), (λ s. h.1 (back StoppedEvent (λ e. cc) s)), (λ f. h.2 (back FaultEvent (λ e. cc) f)))

none_or_quiet : (e : JobEnd FindingOf) → (end_answer e ≡ None) ⊎ (event_of e ≡ Quiet)
none_or_quiet (Found f) = inr refl
none_or_quiet Unknown = inl refl
none_or_quiet NotServed = inl refl
none_or_quiet (Bad number at) = inl refl
none_or_quiet ReadFailed = inl refl
none_or_quiet StartFailed = inl refl
none_or_quiet HoldFailed = inl refl
none_or_quiet (Skipped f) = inl refl
none_or_quiet (CalledOff f) = inl refl
none_or_quiet (Stopped reading) = inl refl
none_or_quiet MemoryEnd = inl refl

-- what an end says that isn't settled is among the events
event_back : (mode : Mode) (r : ReportOf FindingOf) (answers : List (Option Answer)) (s : Status) (is : IsStatusOf job_of mode (r ∷ []) answers s) → answers ≡ map end_answer r.ends
    → (e : Event) → e ≢ Quiet → Contains (map event_of r.ends) e → Contains is.events e
event_back mode r answers s is same e apart among =
    let own = mapped_at event_of r.ends among.0 e (contains_at (map event_of r.ends) e among) in
    elim (none_or_quiet own.0) [
      | inl none ↦
          let open_at : slice_get answers among.0 ≡ Some None = ap (λ xs. slice_get xs among.0) same ∙ map_at end_answer r.ends among.0 own.0 own.1 ∙ ap Some none in
          let end : end_at r among.0 ≡ own.0 = get_or_from_slice_get r.ends among.0 own.0 NotServed own.1 in
          subst (Contains is.events) (ap event_of end ∙ own.2) (is.all r among.0 (Contains-head r []) open_at)
      | inr quiet ↦ absurd (apart (sym own.2 ∙ quiet))
    ]

event_forth : (mode : Mode) (r : ReportOf FindingOf) (answers : List (Option Answer)) (s : Status) (is : IsStatusOf job_of mode (r ∷ []) answers s) → answers ≡ map end_answer r.ends
    → (e : Event) → e ≢ Quiet → Contains is.events e → Contains (map event_of r.ends) e
event_forth mode r answers s is same e apart among =
    let come = is.come e among in
    let one : come.0 ≡ r = elim (Contains-cases r come.0 [] come.2) [ inl here ↦ sym here | inr none ↦ absurd (Contains-empty come.0 none) ] in
    let long : length (map end_answer r.ends) ≡ length r.ends = length-map r.ends end_answer in
    let lt : come.1 < length r.ends = omega (arith, long, slice_get_within (map end_answer r.ends) come.1 None (ap (λ xs. slice_get xs come.1) (sym same) ∙ come.3)) in
    let at : slice_get r.ends come.1 ≡ Some (end_at r come.1) = slice_get-get_or r.ends come.1 NotServed lt in
    let event : event_of (end_at r come.1) ≡ e = ap (λ (x : ReportOf FindingOf). event_of (end_at x come.1)) (sym one) ∙ come.4 in
    at_contains (map event_of r.ends) come.1 e (map_at event_of r.ends come.1 (end_at r come.1) at ∙ ap Some event)

-- ---- what the fates give

-- none is left out, unless the others decide, and they give the status
abbrev pub FatesGive : Mode → List JobName → List (List ℕ) → List (Option Fate) → Status → Type 0
FatesGive mode jobs paths fates status = (AreWhole jobs paths fates ⊎ IsDecided mode (map fate_answer fates)) × IsFateStatus mode fates status

fates_by : (mode : Mode) (p : AskedOf) (now : Store) (jobs : List JobName) (paths : List (List ℕ)) (r : ReportOf FindingOf) (answers : List (Option Answer)) (status : Status) (has : HasFates p now jobs paths r.ends)
    (is : IsStatusOf job_of mode (r ∷ []) answers status) (verdict : Option Verdict) → is.decided ≡ verdict → status ≢ Memory → answers ≡ map end_answer r.ends → FatesGive mode jobs paths has.fates status
fates_by mode p now jobs paths r answers status has is (Some v) at apart same =
    let decided : Decided mode answers (Some v) = subst (Decided mode answers) at is.decides in
    let by : Decides mode (map fate_answer has.fates) v = subst (λ xs. Decides mode xs v) (same ∙ sym has.answers) decided in
    (inr (v, by), (Some v, by, verdict_status v is.events (map fate_event has.fates) status (subst (λ o. HasStatus o is.events status) at is.has_status)))
fates_by mode p now jobs paths r answers status has is None at apart same =
    let own : HasStatus None is.events status = subst (λ o. HasStatus o is.events status) at is.has_status in
    let whole = has.whole (λ among. no_memory is.events status own apart (event_back mode r answers status is same MemoryEvent (λ e. cc) among)) in
    let ends : HasStatus None (map event_of r.ends) status = status_by is.events (map event_of r.ends) status apart (event_back mode r answers status is same) (event_forth mode r answers status is same) own in
    (inl whole.0, (None, subst (λ xs. Decided mode xs None) (same ∙ sym has.answers) (subst (Decided mode answers) at is.decides), subst (λ es. HasStatus None es status) (sym whole.1) ends))

-- ---- a task that was done

-- the fates of a service's streams give the status
pub record GivesFates (task : TaskOf) (p : AskedOf) (now : Store) (service : Service) (status : Status) : Type 0 where
  pub fates : List (Option Fate)
  pub are : AreFates p now (jobs_in p) (streams_in service) fates
  pub give : FatesGive task.request.mode (jobs_in p) (streams_in service) fates status

-- the answers that are collected are these
record IsOwn (task : TaskOf) (p : AskedOf) (reports : List (ReportOf FindingOf)) (status : Status) : Type 0 where
  reported : AreReported task.request.mode task.request.span p.design reports
  race : IsRaceStatus task.request (record { design = p.design; reports = reports; start = None }) status
  count : length (jobs_in p) ≡ length (jobs_of_mode task.request.mode task.request.span p.design)
  named : (k : ℕ) → k < length (jobs_in p) → slice_get (jobs_in p) k ≡ Some (name_at task.request.mode k)

stream_gives : (task : TaskOf) (p : AskedOf) (now : Store) (paths : List (List ℕ)) (reports : List (ReportOf FindingOf)) (status : Status) → status ≢ Memory
    → HaveFiles p (jobs_in p) → AreStreamReports p (Some now) paths reports → IsOwn task p reports status → GivesFates task p now (Streams paths) status
stream_gives task p now paths reports status apart files are own =
    let lane : IsLane task p (Some now) paths are.0 = record { count = own.count; named = own.named; judged = are.1.ends } in
    let one : reports ≡ are.0 ∷ [] = are.2 in
    let race = subst (λ rs. IsRaceStatus task.request (record { design = p.design; reports = rs; start = None }) status) one own.race in
    let reported = subst (AreReported task.request.mode task.request.span p.design) one own.reported in
    let same : race.0 ≡ map end_answer are.0.ends = answers_same task.request.mode task.request.span p.design (are.0 ∷ []) reported (length (jobs_of_mode task.request.mode task.request.span p.design))
    race.0 (map end_answer are.0.ends) race.1 (ends_collected task p (Some now) paths are.0 lane) in
    let has = fates_exist p now (jobs_in p) paths are.0.ends files are.1.ends in
    record {
      fates = has.fates;
      are = has.are;
      give = fates_by task.request.mode p now (jobs_in p) paths are.0 race.0 status has race.2 race.2.decided refl apart same;
    }

-- a task that was done has the status of its streams' fates, at the store when the jobs' files were put
pub done_gives : (may_read : ℕ → Type 0) (task : TaskOf) (before middle : FilesOf) (race : RaceOf) (now : Store) (text : List ℕ) (reports : List (ReportOf FindingOf)) (d : DesignOf) (start : Option ℕ) (status : Status)
    (paths : List (List ℕ)) → task.service ≡ Streams paths → middle.told ≡ Some now → status ≢ Memory → Reads text d
    → IsRaceStatus task.request (record { design = d; reports = reports; start = start }) status → (done : IsDone may_read task before middle race text reports) → GivesFates task done.problem now task.service status
done_gives may_read task before middle race now text reports d start status paths stored told apart reads is done =
    let same : d ≡ done.problem.design = own_design done.problem text d done.served.0.problem done.text_is reads in
    let are : AreStreamReports done.problem (Some now) paths reports =
    (subst (λ s. AreReports s may_read task done.problem (Some now) race reports) stored (subst (λ t. AreReports task.service may_read task done.problem t race reports) told done.reports_are)).0 in
    let own : IsOwn task done.problem reports status = record {
      reported = reported may_read before.told middle.told task done.problem race task.service reports done.served.0 done.reports_are;
      race = subst (λ x. IsRaceStatus task.request (record { design = x; reports = reports; start = start }) status) same is;
      count = job_count before.told task done.problem done.served.0;
      named = λ k lt. job_named done.problem.problem.mode done.problem.problem.span done.problem.design k lt ∙ ap (λ (q : ProblemOf). Some (name_at q.mode k)) done.served.0.asked;
    } in
    subst (λ s. GivesFates task done.problem now s status) (sym stored) (stream_gives task done.problem now paths reports status apart
    (λ k job at. file_put task.service done.problem task.request.name before.told middle.told done.put k job at) are own)

pub done_judged : (may_read : ℕ → Type 0) (task : TaskOf) (before middle : FilesOf) (race : RaceOf) (store : Store) (text : List ℕ) (reports : List (ReportOf FindingOf)) (d : DesignOf) (start : Option ℕ) (status : Status)
    (paths : List (List ℕ)) → task.service ≡ Streams paths → before.told ≡ Some store → status ≢ Memory → Reads text d
    → IsRaceStatus task.request (record { design = d; reports = reports; start = start }) status → IsDone may_read task before middle race text reports → IsJudgedStatus store task None status
done_judged may_read task before middle race store text reports d start status paths stored told apart reads is done =
    let now = put_told done.problem task.request.name (files_in task.service done.problem) before.told middle.told store told done.put in
    let gives = done_gives may_read task before middle race now.0 text reports d start status paths stored now.1 apart reads is done in (
      done.problem,
      gives.fates,
      now.0,
      (subst (λ t. IsAccepted t task done.problem) told done.served.0, done.served.1),
      subst (λ t. ArePut done.problem task.request.name (files_in task.service done.problem) t (Some now.0)) told (subst (ArePut done.problem task.request.name (files_in task.service done.problem) before.told) now.1 done.put),
      gives.are,
      gives.give.0,
      refl,
      gives.give.1,
    )

done_served : (may_read : ℕ → Type 0) (task : TaskOf) (before middle : FilesOf) (race : RaceOf) (store : Store) (text : List ℕ) (reports : List (ReportOf FindingOf)) (d : DesignOf) (start : Option ℕ) (status : Status)
    (service : Service) → task.service ≡ service → before.told ≡ Some store → status ≢ Memory → Reads text d
    → IsRaceStatus task.request (record { design = d; reports = reports; start = start }) status → IsDone may_read task before middle race text reports → IsServedStatus service store task None status
done_served may_read task before middle race store text reports d start status (Streams paths) stored told apart reads is done =
    done_judged may_read task before middle race store text reports d start status paths stored told apart reads is done
done_served may_read task before middle race store text reports d start status (Lanes engines) stored told apart reads is done =
    (done.problem, (subst (λ t. IsAccepted t task done.problem) told done.served.0, done.served.1), refl)

plainly : (may_read : ℕ → Type 0) (moments : Moments) (race : RaceOf) (task : TaskOf) (store : Store) (early : Option Early) (text : List ℕ) (reports : List (ReportOf FindingOf)) (unput : List ℕ) (d : DesignOf) (start : Option ℕ) (status : Status) (stopped : Type 0) → moments.got.told ≡ Some store
    → (Rose moments.got.faults moments.put.faults → ⊥) → status ≢ Memory → (early ≡ None → Reads text d) → IsStatus task.request early (record { design = d; reports = reports; start = start }) status
    → IsOutcome may_read task moments race early text reports unput stopped → IsPlainStatus store task early status
plainly may_read moments race task store (Some (File path)) text reports unput d start status stopped told still apart reads is came = absurd (still came.3.0.rose)
plainly may_read moments race task store (Some (Sby fault)) text reports unput d start status stopped told still apart reads is came = absurd came.3
plainly may_read moments race task store (Some (Task fault)) text reports unput d start status stopped told still apart reads is came = absurd came.3
plainly may_read moments race task store (Some (Read x)) text reports unput d start status stopped told still apart reads is came = inl (ReadFault x, subst (λ t. IsRefused t task (ReadFault x)) told came.3.0, refl, is)
plainly may_read moments race task store (Some (Design x)) text reports unput d start status stopped told still apart reads is came = inl (DesignFault x, subst (λ t. IsRefused t task (DesignFault x)) told came.3.0, refl, is)
plainly may_read moments race task store (Some (TooMany job)) text reports unput d start status stopped told still apart reads is came = inl (TooManyFault job, subst (λ t. IsRefused t task (TooManyFault job)) told came.3.0, refl, is)
plainly may_read moments race task store (Some TooManyStreams) text reports unput d start status stopped told still apart reads is came =
    let r = came.3.0 in inr (inl (r.0, subst (λ t. IsAccepted t task r.0) told r.1, r.2, refl, is))
plainly may_read moments race task store (Some MemoryEarly) text reports unput d start status stopped told still apart reads is came = absurd (apart is)
plainly may_read moments race task store None text reports unput d start status stopped told still apart reads is came =
    inr (inr (done_served may_read task moments.got moments.put race store text reports d start status task.service refl told apart (reads refl) is came.0))

-- completeness, where each status names its event
pub is_complete : (may_read : ℕ → Type 0) (number : ℕ) (moments : Moments) (task : TaskOf) (end : TaskEnd) → NamesEvent may_read number moments task end → IsComplete moments task end
is_complete may_read number moments task end named = λ store told smooth. elim named.status [
  | inl own ↦
      plainly may_read moments (race_of number moments.pool moments.before moments.after end.start) task store end.early end.text end.reports.items end.unput.items own.0 end.start end.status _ told smooth.prepared smooth.memory own.1 own.2 named.cause
  | inr memory ↦ absurd (smooth.memory memory)
]
