-- Valid certificates of children give their verdict.
use Rattle.std.proofs.Common.{◌≡◌, ℕ, ◌+◌, zero, suc, ◌<◌, List, [], ◌∷◌, refl, ap, sym, ◌∙◌, subst, inl, inr, ◌⊎◌, length, map, take, arith}
use Rattle.std.specs.Prelude.{Contains, Option, Some, None, slice_get}
use Rattle.std.specs.List.{range_with_len}
use Rattle.std.proofs.lemmas.Option.{slice_get_within}
use Rattle.sby_edge.specs.Child.{up_to}
use Rattle.sby_edge.specs.Files.{Store}
use Rattle.sby_edge.specs.Script.{ScriptOf}
use Rattle.cert_judge.specs.Fate.{Found as FoundFate}
use Rattle.cnf_form.proofs.Members.{Contains-head}
use Rattle.design_core.specs.Shape.{DesignOf}
use Rattle.design_reader.specs.Grammar.{Reads}
use Rattle.judge.specs.Finding.{FindingOf}
use Rattle.judge.specs.Jobs.{jobs_in as jobs_of_mode}
use Rattle.judge.specs.Problem.{IsJobFile}
use Rattle.race_core.specs.Asking.{name_at}
use Rattle.race_core.specs.Consistent.{end_at}
use Rattle.race_core.specs.Report.{ReportOf}
use Rattle.race_core.specs.Told.{Decided, told_by}
use Rattle.sby_terms.specs.Decide.{Decides}
use Rattle.sby_terms.specs.Path.{job_path}
use Rattle.sby_terms.specs.Problem.{ProblemOf}
use Rattle.sby_terms.specs.Span.{slices_of}
use Rattle.sby_terms.specs.Status.{HasStatus}
use Rattle.sby_terms.specs.declared.engine.Engine.{Engine}
use Rattle.sby_terms.specs.declared.names.Answer.{Answer}
use Rattle.sby_terms.specs.declared.names.Answer.TheVariants.{Sat, Unsat}
use Rattle.sby_terms.specs.declared.names.Event.{Event}
use Rattle.sby_terms.specs.declared.names.JobName.TheVariants.{Base}
use Rattle.sby_terms.specs.declared.names.Mode.TheVariants.{Bmc}
use Rattle.sby_terms.specs.declared.names.Status.{Status}
use Rattle.sby_terms.specs.declared.names.Status.TheVariants.{Pass, Fail, Unknown, Error, Timeout, Memory}
use Rattle.sby_terms.specs.declared.names.Verdict.{Verdict}
use Rattle.sby_terms.specs.declared.names.Verdict.TheVariants.{Pass as PassVerdict, Fail as FailVerdict}
use Rattle.sby_lines.specs.Lines.{IsStatus}
use Rattle.sby_lines.specs.Told.{IsRaceStatus}
use Rattle.task_race.specs.Fates.{most_bytes}
use Rattle.task_race.specs.Serving.{IsServing, evidence_at}
use Rattle.task_race.specs.Ends.{IsFateOf, script_of}
use Rattle.task_race.proofs.PlaceLemmas.{at_contains}
use Rattle.task_race.specs.Ran.{LanesRan}
use Rattle.sby_top.specs.Claims.{AreValidChildren, HasOwnEnd, HasOwnFailedCall, IsInTime, IsJudgedAt, IsStoppedEnd, IsValidChild, IsVerdictInTime, status_for}
use Rattle.sby_top.specs.Headline.{Exit, TaskRan}
use Rattle.sby_top.specs.Judged.{AreReports, racing_of}
use Rattle.sby_top.specs.Served.{ArePut, jobs_in, files_from}
use Rattle.sby_top.specs.Task.{Lanes, TaskOf}
use Rattle.sby_top.specs.World.{Moments, race_of}
use Rattle.sby_top.specs.declared.outcome.TaskEnd.{TaskEnd}
use Rattle.sby_top.proofs.AnswerLemmas.{Apart, kept_or_else, kept_verdict, pass_apart}
use Rattle.sby_top.proofs.ApartLemmas.{AllSay, says_apart}
use Rattle.sby_top.proofs.EventLemmas.{none_carried}
use Rattle.sby_top.proofs.EvidenceLemmas.{FindingLaws, Says, answers_agree, fate_says, finding_says, lane_judgeable}
use Rattle.sby_top.proofs.FailLemmas.{fail_status}
use Rattle.sby_top.proofs.LawLemmas.{all_one, one_put_stands, pass_status}
use Rattle.sby_top.proofs.ReportLemmas.{job_count}
use Rattle.sby_top.proofs.SettleLemmas.{Hinders, child_hindered}
use Rattle.sby_top.proofs.StatusLemmas.{verdict_status}
use Rattle.sby_top.proofs.TruthLemmas.{own_design}

module _ (laws : FindingLaws) (may_read : ℕ → Type 0) (number : ℕ) (moments : Moments) (task : TaskOf) (end : TaskEnd) (exit : Exit) (engines : List Engine) (now : Store) (answers : List (Option Answer)) (lane_of : ℕ → ℕ) (verdict : Verdict)
    (ran : TaskRan may_read number moments task end exit) (judged : IsJudgedAt may_read number moments task end now) (service : task.service ≡ Lanes engines) (size : length answers ≡ length (jobs_in judged.done.problem))
    (valid : AreValidChildren moments.before.yard.scripts number lane_of engines judged.done.problem task.request.mode answers) (decides : Decides task.request.mode answers verdict) where
  abbrev Given : Type 0
  Given = IsVerdictInTime may_read number lane_of answers moments task end verdict

  abbrev Race : DesignOf → Type 0
  Race d = IsRaceStatus task.request (record { design = d; reports = end.reports.items; start = end.start }) end.status

  lanes_ran : LanesRan (racing_of task judged.done.problem number engines) moments.pool may_read moments.before.yard moments.after.yard end.start end.reports.items
  lanes_ran = subst (λ s. AreReports s may_read task judged.done.problem moments.put.told (race_of number moments.pool moments.before moments.after end.start) end.reports.items) service judged.done.reports_are

  -- the status where a job with a valid certificate has no answer, and nothing is decided
  unanswered : (place : ℕ) (a : Answer) → slice_get answers place ≡ Some (Some a) → (events : List Event) (r : ReportOf FindingOf) → slice_get end.reports.items (lane_of place) ≡ Some r → (status : Status) → end.status ≡ status
      → HasStatus None events status → Contains events (told_by (end_at r place))
      → Hinders may_read task.request.limit (HasOwnFailedCall number (lane_of place) moments.before.yard moments.after.yard) end.start (end_at r place) → Given
  unanswered place a at events r own Pass is h told hindered = absurd h
  unanswered place a at events r own Fail is h told hindered = absurd h
  unanswered place a at events r own Memory is h told hindered = inr (inl is)
  unanswered place a at events r own Timeout is h told (inl failed) = inr (inr (place, a, at, inl (inl is, failed.1)))
  unanswered place a at events r own Timeout is h told (inr (inl stopped)) = inr (inr (place, a, at, inr (is, (r, own, stopped))))
  unanswered place a at events r own Timeout is h told (inr (inr memory)) = absurd (h.0 (subst (Contains events) memory told))
  unanswered place a at events r own Error is h told (inl failed) = inr (inr (place, a, at, inl (inr is, failed.1)))
  unanswered place a at events r own Error is h told (inr (inl stopped)) = absurd (h.1 (subst (Contains events) (ap told_by stopped.1) told))
  unanswered place a at events r own Error is h told (inr (inr memory)) = absurd (h.0 (subst (Contains events) memory told))
  unanswered place a at events r own Unknown is h told (inl failed) = absurd (h.2 (subst (Contains events) failed.0 told))
  unanswered place a at events r own Unknown is h told (inr (inl stopped)) = absurd (h.1 (subst (Contains events) (ap told_by stopped.1) told))
  unanswered place a at events r own Unknown is h told (inr (inr memory)) = absurd (h.0 (subst (Contains events) memory told))

  module _ (d : DesignOf) (reads : Reads end.text d) (race : Race d) where
    -- there is an answer or none for each job
    same_size : length answers ≡ length race.0
    same_size =
        let own : d ≡ judged.done.problem.design = own_design judged.done.problem end.text d judged.done.served.0.problem judged.done.text_is reads in
        let count = job_count moments.got.told task judged.done.problem judged.done.served.0 in
        let many : length race.0 ≡ length (jobs_of_mode task.request.mode task.request.span judged.done.problem.design) = race.1.size ∙ ap (λ x. length (jobs_of_mode task.request.mode task.request.span x)) own in
        omega (arith, size, count, many)

    -- what was answered is what the certificate says
    agree : (k : ℕ) (a b : Answer) → slice_get answers k ≡ Some (Some a) → slice_get race.0 k ≡ Some (Some b) → a ≡ b
    agree k a b at found_at =
        let child = valid k a at in
        let found = race.1.entry k (Some b) found_at in
        let true_of = lanes_ran.are_true found.1.0 found.0 found.1.1 found.1.2 in
        let says = fate_says judged.done.problem judged.done.served.0.problem (name_at task.request.mode k) child.file child.is_file (evidence_at (slice_get engines (lane_of k))) (up_to child.script.stalls child.script.bytes)
        (take (most_bytes + 1) child.script.proof) a (lane_judgeable (slice_get engines (lane_of k)) (name_at task.request.mode k) child.serving) child.valid in
        sym (answers_agree laws judged.done.problem (name_at task.request.mode k) found.0 judged.done.served.0.problem true_of.0 true_of.1 found.1.3 a says) ∙ found.2

    own_say : AllSay judged.done.problem.design judged.done.problem.problem.span task.request.mode answers
    own_say k a at =
        let child = valid k a at in
        fate_says judged.done.problem judged.done.served.0.problem (name_at task.request.mode k) child.file child.is_file (evidence_at (slice_get engines (lane_of k))) (up_to child.script.stalls child.script.bytes)
        (take (most_bytes + 1) child.script.proof) a (lane_judgeable (slice_get engines (lane_of k)) (name_at task.request.mode k) child.serving) child.valid

    race_say : AllSay judged.done.problem.design judged.done.problem.problem.span task.request.mode race.0
    race_say k b at =
        let found = race.1.entry k (Some b) at in
        let true_of = lanes_ran.are_true found.1.0 found.0 found.1.1 found.1.2 in
        subst (Says judged.done.problem (name_at task.request.mode k)) found.2
        (finding_says laws judged.done.problem (name_at task.request.mode k) found.0 judged.done.served.0.problem true_of.0 true_of.1 found.1.3)

    abbrev apart : (xs ys : List (Option Answer)) → AllSay judged.done.problem.design judged.done.problem.problem.span task.request.mode xs → AllSay judged.done.problem.design judged.done.problem.problem.span task.request.mode ys → Apart task.request.mode xs ys
    apart xs ys = says_apart judged.done.problem.design judged.done.problem.problem.span task.request.mode xs ys

    one_verdict : (v w : Verdict) → Decides task.request.mode answers v → Decides task.request.mode race.0 w → v ≡ w
    one_verdict PassVerdict PassVerdict own other = refl
    one_verdict FailVerdict FailVerdict own other = refl
    one_verdict PassVerdict FailVerdict own other = absurd (pass_apart task.request.mode answers race.0 same_size agree (apart answers race.0 own_say race_say) own other)
    one_verdict FailVerdict PassVerdict own other = absurd (pass_apart task.request.mode race.0 answers (sym same_size) (λ k a b x y. sym (agree k b a y x)) (apart race.0 answers race_say own_say) other own)

    -- a job with a valid certificate is answered, where nothing is decided, or was hindered
    answered : (o : Option Answer) (k : ℕ) (a : Answer) → slice_get answers k ≡ Some (Some a) → slice_get race.0 k ≡ Some o → ((v : Verdict) → Decides task.request.mode race.0 v → ⊥) → HasStatus None race.2.events end.status
        → (slice_get race.0 k ≡ Some (Some a)) ⊎ Given
    answered (Some b) k a at found_at left has = inl (found_at ∙ ap (λ x. Some (Some x)) (sym (agree k a b at found_at)))
    answered None k a at found_at left has =
        let child = valid k a at in
        let lt : k < length (jobs_in judged.done.problem) = omega (arith, size, slice_get_within answers k (Some a) at) in
        let hindered = child_hindered may_read number moments task end engines (lane_of k) k child.script now child.file a judged service lt child.serving child.script_is child.ungated child.is_file child.valid
        (λ r at_lane f carries. none_carried may_read number moments task end d race.0 reads race.1 (judged.done, judged.traced) left (lane_of k) k (end_at r k) (record { report = r; at = at_lane; unsettled = found_at; end_is = refl }) f carries) in
        inr (unanswered k a at race.2.events hindered.0 hindered.1 end.status refl has (race.2.all hindered.0 k (at_contains end.reports.items (lane_of k) hindered.0 hindered.1) found_at) hindered.2)

    some_at : (k : ℕ) (a : Answer) → slice_get answers k ≡ Some (Some a) → (o : Option (Option Answer)) → slice_get race.0 k ≡ o → (x : Option Answer) × (slice_get race.0 k ≡ Some x)
    some_at k a at (Some x) is = (x, is)
    some_at k a at None is = let lt = slice_get_within answers k (Some a) at in absurd (none_beyond race.0 k is (omega (arith, lt, same_size)))
      where
        none_beyond : (xs : List (Option Answer)) (k : ℕ) → slice_get xs k ≡ None → k < length xs → ⊥
        none_beyond [] k none within = omega (arith, within)
        none_beyond (x ∷ xs) zero none within = let no : ◌≡◌ {A = Option (Option Answer)} (Some x) None = none in cc
        none_beyond (x ∷ xs) (suc k) none within = none_beyond xs k none (omega (arith, within))

    by_verdict : (decided : Option Verdict) → Decided task.request.mode race.0 decided → HasStatus decided race.2.events end.status → Given
    by_verdict (Some w) decided has =
        let same = one_verdict verdict w decides decided in
        inl (verdict_status verdict race.2.events [] end.status (subst (λ x. HasStatus (Some x) race.2.events end.status) (sym same) has))
    by_verdict None left has = elim (kept_or_else Given answers race.0 (λ k a at. let there = some_at k a at (slice_get race.0 k) refl in answered there.0 k a at there.1 left has)) [
      | inl keeps ↦ absurd (left verdict (kept_verdict task.request.mode answers race.0 verdict same_size keeps (apart race.0 race.0 race_say race_say) decides))
      | inr given ↦ given
    ]

    by_race : Given
    by_race = by_verdict race.2.decided race.2.decides race.2.has_status

  pub children_give : Given
  children_give = elim ran.named.status [
    | inl own ↦ by_race own.0 (own.1 judged.early) (subst (λ e. IsStatus task.request e (record { design = own.0; reports = end.reports.items; start = end.start }) end.status) judged.early own.2)
    | inr memory ↦ inr (inl memory)
  ]

-- ---- the one job of bmc with its cycles whole

abbrev verdict_for : Answer → Verdict
verdict_for Sat = FailVerdict
verdict_for Unsat = PassVerdict

one_decides : (answer : Answer) → Decides Bmc (Some answer ∷ []) (verdict_for answer)
one_decides Sat = Contains-head (Some Sat) []
one_decides Unsat = all_one

status_of_one : (answer : Answer) (status : Status) → HasStatus (Some (verdict_for answer)) [] status → status ≡ status_for answer
status_of_one Sat status has = fail_status [] status has
status_of_one Unsat status has = pass_status [] status has

module _ (laws : FindingLaws) (may_read : ℕ → Type 0) (number : ℕ) (moments : Moments) (task : TaskOf) (end : TaskEnd) (exit : Exit) (engines : List Engine) (lane : ℕ) (script : ScriptOf) (now : Store) (file : List ℕ)
    (answer : Answer) (ran : TaskRan may_read number moments task end exit) (judged : IsJudgedAt may_read number moments task end now) (bmc : task.request.mode ≡ Bmc) (one : slices_of task.request.span ≡ 1)
    (service : task.service ≡ Lanes engines) (serving : IsServing (slice_get engines lane) (Base 0)) (script_is : script_of moments.before.yard.scripts number lane (Base 0) ≡ Some script) (no_gate : script.gate ≡ None)
    (stands : now (job_path task.request.name 1 (Base 0)) ≡ Some file)
    (valid : IsFateOf judged.done.problem (Base 0) (evidence_at (slice_get engines lane)) file (up_to script.stalls script.bytes) (take (most_bytes + 1) script.proof) (FoundFate answer)) where
  jobs_are : jobs_in judged.done.problem ≡ Base 0 ∷ []
  jobs_are = ap (λ (q : ProblemOf). jobs_of_mode q.mode q.span judged.done.problem.design) judged.done.served.0.asked ∙ ap (λ m. jobs_of_mode m task.request.span judged.done.problem.design) bmc
      ∙ ap (λ n. map Base (range_with_len 0 n)) one

  own_file : IsJobFile judged.done.problem (Base 0) file
  own_file =
      let put : ArePut judged.done.problem task.request.name (files_from task.service 0 (Base 0 ∷ [])) moments.got.told (Some now) =
      subst (λ t. ArePut judged.done.problem task.request.name (files_from task.service 0 (Base 0 ∷ [])) moments.got.told t) judged.told
      (subst (λ js. ArePut judged.done.problem task.request.name (files_from task.service 0 js) moments.got.told moments.put.told) jobs_are judged.done.put) in
      one_put_stands task.service judged.done.problem task.request.name moments.got.told now file (ap (λ (q : ProblemOf). slices_of q.span) judged.done.served.0.asked ∙ one) put stands

  own_child : (place : ℕ) (a : Answer) → slice_get (Some answer ∷ []) place ≡ Some (Some a) → IsValidChild moments.before.yard.scripts number lane engines judged.done.problem task.request.mode place a
  own_child zero a at =
      let first : name_at task.request.mode 0 ≡ Base 0 = ap (λ m. name_at m 0) bmc in
      let same : answer ≡ a = cc in
      record {
        serving = subst (λ j. IsServing (slice_get engines lane) j) (sym first) serving;
        script = script;
        script_is = subst (λ j. script_of moments.before.yard.scripts number lane j ≡ Some script) (sym first) script_is;
        ungated = no_gate;
        file = file;
        is_file = subst (λ j. IsJobFile judged.done.problem j file) (sym first) own_file;
        valid = subst (λ j. IsFateOf judged.done.problem j (evidence_at (slice_get engines lane)) file (up_to script.stalls script.bytes) (take (most_bytes + 1) script.proof) (FoundFate a)) (sym first)
            (subst (λ x. IsFateOf judged.done.problem (Base 0) (evidence_at (slice_get engines lane)) file (up_to script.stalls script.bytes) (take (most_bytes + 1) script.proof) (FoundFate x)) same valid);
      }
  own_child (suc place) a at = let no : ◌≡◌ {A = Option (Option Answer)} None (Some (Some a)) = at in cc

  by_own : (place : ℕ) (a : Answer) → slice_get (Some answer ∷ []) place ≡ Some (Some a)
      → ((((end.status ≡ Timeout) ⊎ (end.status ≡ Error)) × HasOwnFailedCall number lane moments.before.yard moments.after.yard) ⊎ ((end.status ≡ Timeout) × HasOwnEnd end lane place (IsStoppedEnd may_read task end)))
      → IsInTime may_read number lane moments task end (status_for answer)
  by_own place a at (inl failed) = inr (inr (inl failed))
  by_own zero a at (inr stopped) = inr (inr (inr stopped))
  by_own (suc place) a at (inr stopped) = let no : ◌≡◌ {A = Option (Option Answer)} None (Some (Some a)) = at in cc

  pub child_gives : IsInTime may_read number lane moments task end (status_for answer)
  child_gives = elim
      (children_give laws may_read number moments task end exit engines now (Some answer ∷ []) (λ place. lane) (verdict_for answer) ran judged service (sym (ap length jobs_are)) own_child
      (subst (λ m. Decides m (Some answer ∷ []) (verdict_for answer)) (sym bmc) (one_decides answer))) [
        | inl has ↦ inl (status_of_one answer end.status has)
        | inr others ↦ elim others [
          | inl memory ↦ inr (inl memory)
          | inr own ↦ by_own own.0 own.1 own.2 own.3
        ]
      ]
