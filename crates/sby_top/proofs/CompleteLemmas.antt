-- Lanes that nothing disturbed have Plain's status.
use Rattle.std.proofs.Common.{◌≡◌, ℕ, ◌<◌, List, refl, ap, sym, ◌∙◌, subst, inl, inr, ◌⊎◌, length, arith}
use Rattle.std.specs.Prelude.{Contains, IsSome, Option, Some, None, slice_get}
use Rattle.sby_edge.specs.Cause.{CountsOf}
use Rattle.sby_edge.specs.Child.{YardOf}
use Rattle.sby_edge.specs.Files.{Store}
use Rattle.sby_edge.specs.Script.{ScriptOf}
use Rattle.cert_judge.specs.Fate.{Fate, Found as FoundFate, Unknown as UnknownFate, Bad as BadFate}
use Rattle.judge.specs.Finding.{FindingOf}
use Rattle.judge.specs.Jobs.{jobs_in as jobs_of_mode}
use Rattle.judge.specs.Problem.{IsJobFile}
use Rattle.race_core.specs.Asking.{name_at}
use Rattle.race_core.specs.Carrying.{Carries}
use Rattle.race_core.specs.Collect.{SettledIn}
use Rattle.race_core.specs.Consistent.{end_at}
use Rattle.race_core.specs.Report.{ReportOf}
use Rattle.race_core.specs.Told.{told_by}
use Rattle.race_core.specs.declared.end.JobEnd.{JobEnd}
use Rattle.race_core.specs.declared.end.JobEnd.TheVariants.{Found, Unknown, NotServed, Bad, ReadFailed, StartFailed, HoldFailed, Skipped, CalledOff, Stopped, Memory as MemoryEnd}
use Rattle.task_race.specs.Serving.{IsServing}
use Rattle.sby_terms.specs.Problem.{ProblemOf}
use Rattle.sby_terms.specs.declared.engine.Engine.{Engine}
use Rattle.sby_terms.specs.declared.names.Answer.{Answer}
use Rattle.sby_terms.specs.declared.names.Status.{Status}
use Rattle.sby_lines.specs.Lines.{IsStatus}
use Rattle.sby_lines.specs.Told.{AreReported, IsRaceStatus, job_of}
use Rattle.sby_lines.proofs.PlaceLemmas.{at_contains, job_named}
use Rattle.task_race.specs.Bays.{AreCountsOf}
use Rattle.task_race.specs.Ends.{HasEndCause, IsEndOfFate, script_of}
use Rattle.task_race.specs.Ran.{LanesRan, Serves, job_count, terms_in}
use Rattle.task_race.proofs.EndLemmas.{lane_cause}
use Rattle.task_race.proofs.FateLemmas.{end_of_fate}
use Rattle.sby_top.specs.Claims.{IsJudgedAt}
use Rattle.sby_top.specs.Complete.{ArePlain, IsByLook, IsPlainEnd, IsUndisturbed, IsVerdictStatus, PassesOn}
use Rattle.sby_top.specs.Headline.{Exit, TaskRan, fate_answer, fate_event}
use Rattle.sby_top.specs.Judged.{AreReports, racing_of}
use Rattle.sby_top.specs.Served.{jobs_in}
use Rattle.sby_top.specs.Task.{Lanes, TaskOf}
use Rattle.sby_top.specs.World.{Moments, race_of}
use Rattle.sby_top.specs.declared.outcome.TaskEnd.{TaskEnd}
use Rattle.sby_top.proofs.AnswerLemmas.{IsPlace, Spares, calling_spares, skipping_spares}
use Rattle.sby_top.proofs.ApartLemmas.{SaysOf}
use Rattle.sby_top.proofs.LookLemmas.{found_or_shown}
use Rattle.sby_top.proofs.EvidenceLemmas.{FindingLaws, Says, answers_agree, finding_says, judged_job, judged_says, plain_fate}
use Rattle.sby_top.proofs.MatchLemmas.{AreMatched, Matches, plain_or_look, plain_verdict}
use Rattle.sby_top.proofs.OpenLemmas.{is_place}
use Rattle.sby_top.proofs.PlainLemmas.{end_answer}
use Rattle.sby_top.proofs.PutLemmas.{file_put}
use Rattle.sby_top.proofs.ReportLemmas.{job_count as own_count, reported}
use Rattle.sby_top.proofs.TruthLemmas.{own_design}

-- an end by a fate says what the fate says
module _ (fate : Fate) where
  found_says : (f : FindingOf) → IsEndOfFate fate (Found f) → (end_answer (Found f) ≡ fate_answer (Some fate)) × (told_by (Found f) ≡ fate_event (Some fate))
  found_says f is = let same : FoundFate f.answer ≡ fate = sym is in subst (λ x. (end_answer (Found f) ≡ fate_answer (Some x)) × (told_by (Found f) ≡ fate_event (Some x))) same (refl, refl)

  unknown_says : IsEndOfFate fate Unknown → (end_answer Unknown ≡ fate_answer (Some fate)) × (told_by {T = FindingOf} Unknown ≡ fate_event (Some fate))
  unknown_says is = let same : UnknownFate ≡ fate = sym is in subst (λ x. (end_answer Unknown ≡ fate_answer (Some x)) × (told_by {T = FindingOf} Unknown ≡ fate_event (Some x))) same (refl, refl)

  bad_says : (number at : ℕ) → IsEndOfFate fate (Bad number at) → (end_answer (Bad number at) ≡ fate_answer (Some fate)) × (told_by {T = FindingOf} (Bad number at) ≡ fate_event (Some fate))
  bad_says number at is =
      let same : BadFate is.0 at ≡ fate = sym is.2 in
      subst (λ x. (end_answer (Bad number at) ≡ fate_answer (Some x)) × (told_by {T = FindingOf} (Bad number at) ≡ fate_event (Some x))) same (refl, refl)

module _ (laws : FindingLaws) (may_read : ℕ → Type 0) (number : ℕ) (moments : Moments) (task : TaskOf) (end : TaskEnd) (exit : Exit) (engines : List Engine) (now : Store)
    (ran : TaskRan may_read number moments task end exit) (judged : IsJudgedAt may_read number moments task end now) (service : task.service ≡ Lanes engines)
    (calm : IsUndisturbed may_read number moments task end) (plain : List (ReportOf FindingOf)) (are_plain : ArePlain (racing_of task judged.done.problem number engines) moments.before.yard.scripts plain) where
  lanes_ran : LanesRan (racing_of task judged.done.problem number engines) moments.pool may_read moments.before.yard moments.after.yard end.start end.reports.items
  lanes_ran = subst (λ s. AreReports s may_read task judged.done.problem moments.put.told (race_of number moments.pool moments.before moments.after end.start) end.reports.items) service judged.done.reports_are

  mode_is : judged.done.problem.problem.mode ≡ task.request.mode
  mode_is = ap (λ (q : ProblemOf). q.mode) judged.done.served.0.asked

  count : length (jobs_in judged.done.problem) ≡ length (jobs_of_mode task.request.mode task.request.span judged.done.problem.design)
  count = own_count moments.got.told task judged.done.problem judged.done.served.0

  are_reported : AreReported task.request.mode task.request.span judged.done.problem.design end.reports.items
  are_reported = reported may_read moments.got.told moments.put.told task judged.done.problem (race_of number moments.pool moments.before moments.after end.start) task.service end.reports.items judged.done.served.0 judged.done.reports_are

  -- of one job of one lane
  module _ (lane k : ℕ) (lt : k < length (jobs_in judged.done.problem)) where
    own_file : (file : List ℕ) × IsJobFile judged.done.problem (name_at judged.done.problem.problem.mode k) file
    own_file =
        file_put task.service judged.done.problem task.request.name moments.got.told moments.put.told judged.done.put k (name_at judged.done.problem.problem.mode k)
        (job_named judged.done.problem.problem.mode judged.done.problem.problem.span judged.done.problem.design k lt)

    place : IsPlace judged.done.problem.problem.mode k
    place = is_place judged.done.problem.problem.mode judged.done.problem.problem.span judged.done.problem.design k lt

    own_cause : (r : ReportOf FindingOf) → slice_get end.reports.items lane ≡ Some r
        → (counts : CountsOf) × AreCountsOf number lane moments.before.yard moments.after.yard counts
        × HasEndCause (racing_of task judged.done.problem number engines) may_read moments.before.yard.scripts counts end.start lane (name_at judged.done.problem.problem.mode k) (end_at r k)
    own_cause r at = lane_cause (racing_of task judged.done.problem number engines) may_read moments.before.yard moments.after.yard end.start end.reports.items lanes_ran lane k r at lt (end_at r k) refl

    -- an end whose job's fate is known says it, or passes on a finding
    by_fate : (r : ReportOf FindingOf) → Contains end.reports.items r → (fate : Fate) (e : JobEnd FindingOf) → end_at r k ≡ e → (counts : CountsOf) → AreCountsOf number lane moments.before.yard moments.after.yard counts
        → HasEndCause (racing_of task judged.done.problem number engines) may_read moments.before.yard.scripts counts end.start lane (name_at judged.done.problem.problem.mode k) e → IsEndOfFate fate e
        → ((end_answer e ≡ fate_answer (Some fate)) × (told_by e ≡ fate_event (Some fate))) ⊎ ((f : FindingOf) × PassesOn e f × Spares judged.done.problem.problem.mode k f.job f.answer)
    by_fate r among fate (Found f) is counts own cause of = inl (found_says fate f of)
    by_fate r among fate Unknown is counts own cause of = inl (unknown_says fate of)
    by_fate r among fate (Bad kind at) is counts own cause of = inl (bad_says fate kind at of)
    by_fate r among fate NotServed is counts own cause of = absurd of
    by_fate r among fate ReadFailed is counts own cause of = absurd (calm.calls (inr (inl (own.rose.reads cause))))
    by_fate r among fate StartFailed is counts own cause of = absurd (calm.calls (inl (own.rose.starts cause)))
    by_fate r among fate HoldFailed is counts own cause of = absurd (calm.calls (inr (inr (own.rose.holds cause))))
    by_fate r among fate (Skipped f) is counts own cause of = inr (f, (refl, λ g no. cc), skipping_spares judged.done.problem.problem.mode k f.job f.answer place cause.2)
    by_fate r among fate (CalledOff f) is counts own cause of = inr (f, (refl, λ g no. cc), calling_spares judged.done.problem.problem.mode k f.job f.answer place cause.2)
    by_fate r among fate (Stopped t) is counts own cause of = absurd (calm.in_time cause.begun t cause.millis cause.limit_is cause.may_start cause.may_stop cause.shows.0 cause.shows.1)
    by_fate r among fate MemoryEnd is counts own cause of = absurd (calm.lanes_memory r k among is)

    -- an end of a job that isn't served says so, or passes on a finding
    unserved : (e : JobEnd FindingOf) → (IsServing (slice_get engines lane) (name_at judged.done.problem.problem.mode k) → ⊥) → (r : ReportOf FindingOf) → Contains end.reports.items r → end_at r k ≡ e → (counts : CountsOf) → AreCountsOf number lane moments.before.yard moments.after.yard counts
        → HasEndCause (racing_of task judged.done.problem number engines) may_read moments.before.yard.scripts counts end.start lane (name_at judged.done.problem.problem.mode k) e
        → ((end_answer NotServed ≡ end_answer e) × (told_by {T = FindingOf} NotServed ≡ told_by e)) ⊎ ((f : FindingOf) × PassesOn e f × Spares judged.done.problem.problem.mode k f.job f.answer)
    unserved NotServed apart r among is counts own cause = inl (refl, refl)
    unserved (Found f) apart r among is counts own cause = absurd (apart cause.0.0)
    unserved Unknown apart r among is counts own cause = absurd (apart cause.0.0)
    unserved (Bad kind at) apart r among is counts own cause = absurd (apart cause.0.0)
    unserved ReadFailed apart r among is counts own cause = absurd (calm.calls (inr (inl (own.rose.reads cause))))
    unserved StartFailed apart r among is counts own cause = absurd (calm.calls (inl (own.rose.starts cause)))
    unserved HoldFailed apart r among is counts own cause = absurd (calm.calls (inr (inr (own.rose.holds cause))))
    unserved (Skipped f) apart r among is counts own cause = inr (f, (refl, λ g no. cc), skipping_spares judged.done.problem.problem.mode k f.job f.answer place cause.2)
    unserved (CalledOff f) apart r among is counts own cause = inr (f, (refl, λ g no. cc), calling_spares judged.done.problem.problem.mode k f.job f.answer place cause.2)
    unserved (Stopped t) apart r among is counts own cause = absurd (calm.in_time cause.begun t cause.millis cause.limit_is cause.may_start cause.may_stop cause.shows.0 cause.shows.1)
    unserved MemoryEnd apart r among is counts own cause = absurd (calm.lanes_memory r k among is)

    -- the script of the lane's job
    own_script : (o : Option YardOf) → moments.before.yard.scripts ≡ o → IsSome o → (script : ScriptOf) × (script_of moments.before.yard.scripts number lane (name_at judged.done.problem.problem.mode k) ≡ Some script)
    own_script None is some = absurd (cc)
    own_script (Some scripts) is some = (scripts number lane (name_at judged.done.problem.problem.mode k), ap (λ (x : Option YardOf). script_of x number lane (name_at judged.done.problem.problem.mode k)) is)

    -- the end matches Plain's
    matches : (q r : ReportOf FindingOf) → slice_get plain lane ≡ Some q → slice_get end.reports.items lane ≡ Some r → Matches judged.done.problem.problem.mode k (end_at q k) (end_at r k)
    matches q r at_q at_r =
        let among = at_contains end.reports.items lane r at_r in
        let script = own_script moments.before.yard.scripts refl calm.told in
        let free = calm.ungated lane (name_at judged.done.problem.problem.mode k) script.0 script.1 in
        let file = own_file in
        let cause = own_cause r at_r in
        let own = (are_plain.each lane q at_q).1 k lt in
        elim (plain_fate (racing_of task judged.done.problem number engines) moments.before.yard.scripts lane (name_at judged.done.problem.problem.mode k) script.0 file.0 script.1 free file.1 (end_at q k) own) [
          | inl none ↦ subst (λ (e : JobEnd FindingOf). Matches judged.done.problem.problem.mode k e (end_at r k)) (sym none.0) (unserved (end_at r k) none.1 r among refl cause.0 cause.1 cause.2)
          | inr served ↦
              let fate = served.1.0 in
              let of = end_of_fate (racing_of task judged.done.problem number engines) may_read moments.before.yard.scripts cause.0 end.start lane (name_at judged.done.problem.problem.mode k) script.0 file.0 fate
              served.0 script.1 free file.1 judged.done.served.0.problem served.1.1 (end_at r k) cause.2 in
              by_own fate (end_at q k) served.1.2 own (by_fate r among fate (end_at r k) refl cause.0 cause.1 cause.2 of)
        ]
      where
        by_own : (fate : Fate) (e : JobEnd FindingOf) → IsEndOfFate fate e → IsPlainEnd (racing_of task judged.done.problem number engines) moments.before.yard.scripts lane (name_at judged.done.problem.problem.mode k) e
            → ((end_answer (end_at r k) ≡ fate_answer (Some fate)) × (told_by (end_at r k) ≡ fate_event (Some fate))) ⊎ ((f : FindingOf) × PassesOn (end_at r k) f × Spares judged.done.problem.problem.mode k f.job f.answer)
            → Matches judged.done.problem.problem.mode k e (end_at r k)
        by_own fate (Found f) of own (inl says) = let mine = found_says fate f of in inl (mine.0 ∙ sym says.0, mine.1 ∙ sym says.1)
        by_own fate Unknown of own (inl says) = let mine = unknown_says fate of in inl (mine.0 ∙ sym says.0, mine.1 ∙ sym says.1)
        by_own fate (Bad kind at) of own (inl says) = let mine = bad_says fate kind at of in inl (mine.0 ∙ sym says.0, mine.1 ∙ sym says.1)
        by_own fate NotServed of own (inl says) = absurd of
        by_own fate ReadFailed of own (inl says) = absurd own
        by_own fate StartFailed of own (inl says) = absurd own
        by_own fate HoldFailed of own (inl says) = absurd own
        by_own fate (Skipped f) of own (inl says) = absurd own
        by_own fate (CalledOff f) of own (inl says) = absurd own
        by_own fate (Stopped t) of own (inl says) = absurd own
        by_own fate MemoryEnd of own (inl says) = absurd own
        by_own fate e of own (inr passed) = inr passed

    -- Plain's ends carry what is found for their jobs
    plain_own : (e : JobEnd FindingOf) → IsPlainEnd (racing_of task judged.done.problem number engines) moments.before.yard.scripts lane (name_at judged.done.problem.problem.mode k) e → (f : FindingOf) → Carries e f
        → (e ≡ Found f) × (f.job ≡ name_at judged.done.problem.problem.mode k)
    plain_own (Found g) own f carries =
        (ap Found carries, ap (λ (x : FindingOf). x.job) (sym carries) ∙ judged_job (racing_of task judged.done.problem number engines) moments.before.yard.scripts lane (name_at judged.done.problem.problem.mode k) g own)
    plain_own Unknown own f carries = absurd carries
    plain_own NotServed own f carries = absurd carries
    plain_own (Bad kind at) own f carries = absurd carries
    plain_own ReadFailed own f carries = absurd carries
    plain_own StartFailed own f carries = absurd carries
    plain_own HoldFailed own f carries = absurd carries
    plain_own (Skipped g) own f carries = absurd own
    plain_own (CalledOff g) own f carries = absurd own
    plain_own (Stopped t) own f carries = absurd carries
    plain_own MemoryEnd own f carries = absurd carries

    -- what they found is true
    plain_says : (q : ReportOf FindingOf) (f : FindingOf) → slice_get plain lane ≡ Some q → end_at q k ≡ Found f → Says judged.done.problem (name_at judged.done.problem.problem.mode k) f.answer
    plain_says q f at_q is =
        let own = subst (λ (e : JobEnd FindingOf). IsPlainEnd (racing_of task judged.done.problem number engines) moments.before.yard.scripts lane (name_at judged.done.problem.problem.mode k) e) is ((are_plain.each lane q at_q).1 k lt) in
        let file = own_file in
        judged_says (racing_of task judged.done.problem number engines) judged.done.served.0.problem moments.before.yard.scripts lane (name_at judged.done.problem.problem.mode k) f file.0 file.1 own

    -- a finding that the reports carry for the job answers as Plain's does
    agrees : (q : ReportOf FindingOf) (f g : FindingOf) → slice_get plain lane ≡ Some q → end_at q k ≡ Found f → SettledIn job_of end.reports.items (name_at judged.done.problem.problem.mode k) g → f.answer ≡ g.answer
    agrees q f g at_q is settled =
        let true_of = lanes_ran.are_true settled.0 g settled.1 settled.2 in
        sym (answers_agree laws judged.done.problem (name_at judged.done.problem.problem.mode k) g judged.done.served.0.problem true_of.0 true_of.1 settled.3 f.answer (plain_says q f at_q is))

  -- and is true
  settled_says : (k : ℕ) (g : FindingOf) → SettledIn job_of end.reports.items (name_at judged.done.problem.problem.mode k) g → Says judged.done.problem (name_at judged.done.problem.problem.mode k) g.answer
  settled_says k g settled =
      let true_of = lanes_ran.are_true settled.0 g settled.1 settled.2 in
      finding_says laws judged.done.problem (name_at judged.done.problem.problem.mode k) g judged.done.served.0.problem true_of.0 true_of.1 settled.3

  -- in the task's own words
  of_task : (k : ℕ) (a : Answer) → Says judged.done.problem (name_at judged.done.problem.problem.mode k) a → SaysOf judged.done.problem.design task.request.span (name_at task.request.mode k) a
  of_task k a says = subst (λ (q : ProblemOf). SaysOf judged.done.problem.design q.span (name_at q.mode k) a) judged.done.served.0.asked says

  -- ---- all of them

  back_in : (k : ℕ) → k < length (jobs_of_mode task.request.mode task.request.span judged.done.problem.design) → k < length (jobs_in judged.done.problem)
  back_in k lt = omega (arith, lt, count)

  matched : AreMatched task.request.mode task.request.span judged.done.problem.design end.reports.items plain
  matched = record {
    lanes = are_plain.lanes_are ∙ sym lanes_ran.consistent.lanes_are;
    ends = λ lane q at. (are_plain.each lane q at).0 ∙ count;
    own = λ lane k q f at lt carries.
        let both = plain_own lane k (back_in k lt) (end_at q k) ((are_plain.each lane q at).1 k (back_in k lt)) f carries in
        (both.0, subst (λ m. f.job ≡ name_at m k) mode_is both.1);
    found = λ lane k r f at lt is.
        let cause = own_cause lane k (back_in k lt) r at in
        let own = subst (λ (e : JobEnd FindingOf). HasEndCause (racing_of task judged.done.problem number engines) may_read moments.before.yard.scripts cause.0 end.start lane
        (name_at judged.done.problem.problem.mode k) e) is cause.2 in
        subst (λ m. f.job ≡ name_at m k) mode_is (judged_job (racing_of task judged.done.problem number engines) moments.before.yard.scripts lane (name_at judged.done.problem.problem.mode k) f own);
    matches = λ lane k q r at_q at_r lt. subst (λ m. Matches m k (end_at q k) (end_at r k)) mode_is (matches lane k (back_in k lt) q r at_q at_r);
    agree = λ lane k q f g at lt is settled. agrees lane k (back_in k lt) q f g at is (subst (λ m. SettledIn job_of end.reports.items (name_at m k) g) (sym mode_is) settled);
    plain_says = λ lane k q f at lt is. of_task k f.answer (plain_says lane k (back_in k lt) q f at is);
    says = λ k g lt settled. of_task k g.answer (settled_says k g (subst (λ m. SettledIn job_of end.reports.items (name_at m k) g) (sym mode_is) settled));
    sources = λ lane k r f at lt carries.
        elim (found_or_shown (Serves (racing_of task judged.done.problem number engines) lane) (terms_in (racing_of task judged.done.problem number engines) end.start) (job_count (racing_of task judged.done.problem number engines)) r
        (lanes_ran.consistent.replays lane r at) k f (back_in k lt) carries) [
          | inl found ↦ let here : found.0 < length (jobs_of_mode task.request.mode task.request.span judged.done.problem.design) = omega (arith, count, found.1) in inl (found.0, here, found.2)
          | inr look ↦ inr look
        ];
  }

  -- the race's own status
  own_race : IsRaceStatus task.request (record { design = judged.done.problem.design; reports = end.reports.items; start = end.start }) end.status
  own_race = elim ran.named.status [
    | inl own ↦
        let same : own.0 ≡ judged.done.problem.design = own_design judged.done.problem end.text own.0 judged.done.served.0.problem judged.done.text_is (own.1 judged.early) in
        let race : IsRaceStatus task.request (record { design = own.0; reports = end.reports.items; start = end.start }) end.status =
        subst (λ e. IsStatus task.request e (record { design = own.0; reports = end.reports.items; start = end.start }) end.status) judged.early own.2 in
        subst (λ d. IsRaceStatus task.request (record { design = d; reports = end.reports.items; start = end.start }) end.status) same race
    | inr memory ↦ absurd (calm.memory memory)
  ]

  module _ (status : Status) (is : IsRaceStatus task.request (record { design = judged.done.problem.design; reports = plain; start = None }) status) where
    pub lanes_plain : (end.status ≡ status) ⊎ IsByLook task.request.mode end.reports.items
    lanes_plain = plain_or_look task.request.mode task.request.span judged.done.problem.design end.reports.items plain are_reported matched own_race.0 is.0 own_race.1 is.1 status end.status is.2 own_race.2 calm.memory

    pub lanes_verdict : IsVerdictStatus status → end.status ≡ status
    lanes_verdict closing = plain_verdict task.request.mode task.request.span judged.done.problem.design end.reports.items plain are_reported matched own_race.0 is.0 own_race.1 is.1 status end.status is.2 own_race.2 closing
