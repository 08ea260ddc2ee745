-- Two lists of plain reports of the same lanes, whose scripts have no gate, give the same status.
use Rattle.std.proofs.Common.{◌≡◌, ℕ, ◌<◌, List, refl, ap, sym, ◌∙◌, subst, inl, inr, length, get_or, arith}
use Rattle.std.specs.Prelude.{Contains, Option, Some, None, slice_get}
use Rattle.std.proofs.lemmas.List.{get_or_default}
use Rattle.std.proofs.lemmas.Option.{slice_get-get_or, slice_get_within}
use Rattle.sby_edge.specs.Child.{YardOf}
use Rattle.sby_edge.specs.Script.{ScriptOf}
use Rattle.cert_judge.specs.Fate.{Fate, Found as FoundFate, Unknown as UnknownFate, Bad as BadFate}
use Rattle.cert_judge.proofs.OutputFates.{output_fate}
use Rattle.cert_judge.specs.declared.stream.Kind.TheVariants.{Certificate}
use Rattle.design_core.specs.Shape.{DesignOf}
use Rattle.judge.specs.Finding.{FindingOf}
use Rattle.judge.specs.Jobs.{jobs_in as jobs_of_mode}
use Rattle.judge.specs.Problem.{AskedOf, IsJobFile, IsProblem}
use Rattle.race_core.specs.Carrying.{Carries}
use Rattle.race_core.specs.Collect.{AreCollected, IsStatus, SettledIn}
use Rattle.race_core.specs.Consistent.{end_at}
use Rattle.race_core.specs.Report.{ReportOf}
use Rattle.race_core.specs.Told.{Decided, told_by}
use Rattle.race_core.specs.declared.end.JobEnd.{JobEnd}
use Rattle.race_core.specs.declared.end.JobEnd.TheVariants.{Found, Unknown, NotServed, Bad, ReadFailed, StartFailed, HoldFailed, Skipped, CalledOff, Stopped, Memory as MemoryEnd}
use Rattle.sby_terms.specs.Status.{HasStatus}
use Rattle.sby_terms.specs.declared.names.Answer.{Answer}
use Rattle.sby_terms.specs.declared.names.Answer.TheVariants.{Sat, Unsat}
use Rattle.sby_terms.specs.declared.names.Event.{Event}
use Rattle.sby_terms.specs.declared.names.JobName.{JobName}
use Rattle.sby_terms.specs.declared.names.Status.{Status}
use Rattle.sby_terms.specs.declared.names.Status.TheVariants.{Pass, Fail, Unknown as UnknownStatus, Error, Timeout, Memory}
use Rattle.sby_terms.specs.declared.names.Verdict.{Verdict}
use Rattle.sby_terms.specs.declared.span.Span.{Span}
use Rattle.sby_lines.specs.Told.{answer_of, job_of}
use Rattle.sby_lines.proofs.PlaceLemmas.{at_contains, contains_at}
use Rattle.sby_lines.proofs.ShownLemmas.{one_verdict}
use Rattle.task_race.specs.Fates.{most_bytes}
use Rattle.task_race.specs.declared.evidence.Evidence.{Evidence}
use Rattle.task_race.specs.declared.evidence.Evidence.TheVariants.{Output, ProofFile}
use Rattle.task_race.specs.Ends.{IsEndOfFate, IsFateOf, script_of}
use Rattle.task_race.specs.Ran.{RacingOf, job_count, name_in}
use Rattle.task_race.proofs.PlaceLemmas.{stands_at}
use Rattle.sby_top.specs.Complete.{ArePlain, IsPlainEnd}
use Rattle.sby_top.specs.Headline.{fate_answer, fate_event}
use Rattle.sby_top.proofs.AnswerLemmas.{Keeps, one_closed, one_open, same_answers}
use Rattle.sby_top.proofs.EvidenceLemmas.{Says, judged_job, judged_says, plain_fate}
use Rattle.sby_top.proofs.LawLemmas.{OneFate}
use Rattle.sby_top.proofs.PlainLemmas.{answer_found, end_answer, one_place}

-- ---- one fate, and one answer

some_fate_same : (x y : Fate) → ◌≡◌ {A = Option Fate} (Some x) (Some y) → x ≡ y
some_fate_same x y is = cc

one_left : OneFate → (p : AskedOf) → IsProblem p → (job : JobName) (by : Evidence) (file stream proof : List ℕ) (x y : Fate) → IsFateOf p job by file stream proof x → IsFateOf p job by file stream proof y → x ≡ y
one_left one p problem job (Output kind) file stream proof x y h k = one p job kind file stream most_bytes x y problem h k
one_left one p problem job (ProofFile kind) file stream proof x y (inl h) (inl k) = some_fate_same x y (output_fate file stream most_bytes (Some x) (Some y) h k)
one_left one p problem job (ProofFile kind) file stream proof x y (inl h) (inr k) = let no : ◌≡◌ {A = Option Fate} (Some x) None = output_fate file stream most_bytes (Some x) None h k.0 in cc
one_left one p problem job (ProofFile kind) file stream proof x y (inr h) (inl k) = let no : ◌≡◌ {A = Option Fate} None (Some y) = output_fate file stream most_bytes None (Some y) h.0 k in cc
one_left one p problem job (ProofFile kind) file stream proof x y (inr h) (inr k) = one p job (Certificate kind) file proof most_bytes x y problem h.1 k.1

one_says : (p : AskedOf) (job : JobName) (a b : Answer) → Says p job a → Says p job b → a ≡ b
one_says p job Sat Sat h k = refl
one_says p job Unsat Unsat h k = refl
one_says p job Sat Unsat h k = absurd (k h)
one_says p job Unsat Sat h k = absurd (h k)

-- ---- statuses of the same events

with_events : (E F : List Event) (s : Status) → ((e : Event) → Contains E e → Contains F e) → ((e : Event) → Contains F e → Contains E e) → HasStatus None E s → HasStatus None F s
with_events E F Pass forth back h = absurd h
with_events E F Fail forth back h = absurd h
with_events E F Memory forth back h = forth _ h
with_events E F Timeout forth back h = ((λ c. h.0 (back _ c)), forth _ h.1)
with_events E F Error forth back h = ((λ c. h.0 (back _ c)), (λ c. h.1 (back _ c)), forth _ h.2)
with_events E F UnknownStatus forth back h = ((λ c. h.0 (back _ c)), (λ c. h.1 (back _ c)), (λ c. h.2 (back _ c)))

one_status : (o : Option Verdict) (E F : List Event) (s t : Status) → ((e : Event) → Contains E e → Contains F e) → ((e : Event) → Contains F e → Contains E e) → HasStatus o E s → HasStatus o F t → s ≡ t
one_status (Some v) E F s t forth back h k = one_closed v E F s t h k
one_status None E F s t forth back h k = one_open F s t (with_events E F s forth back h) k

module _ (one : OneFate) (racing : RacingOf) (problem : IsProblem racing.problem) (told : Option YardOf)
    (some_script : (lane : ℕ) (job : JobName) → (script : ScriptOf) × (script_of told racing.task lane job ≡ Some script) × (script.gate ≡ None))
    (file_at : (k : ℕ) → k < job_count racing → (file : List ℕ) × IsJobFile racing.problem (name_in racing k) file) where
  -- an end by a fate says what the fate says
  says_fate : (lane k : ℕ) (fate : Fate) (e : JobEnd FindingOf) → IsEndOfFate fate e → IsPlainEnd racing told lane (name_in racing k) e → (end_answer e ≡ fate_answer (Some fate)) × (told_by e ≡ fate_event (Some fate))
  says_fate lane k fate (Found f) is own = let same : FoundFate f.answer ≡ fate = sym is in subst (λ x. (end_answer (Found f) ≡ fate_answer (Some x)) × (told_by (Found f) ≡ fate_event (Some x))) same (refl, refl)
  says_fate lane k fate Unknown is own = let same : UnknownFate ≡ fate = sym is in subst (λ x. (end_answer Unknown ≡ fate_answer (Some x)) × (told_by {T = FindingOf} Unknown ≡ fate_event (Some x))) same (refl, refl)
  says_fate lane k fate (Bad number at) is own =
      let same : BadFate is.0 at ≡ fate = sym is.2 in
      subst (λ x. (end_answer (Bad number at) ≡ fate_answer (Some x)) × (told_by {T = FindingOf} (Bad number at) ≡ fate_event (Some x))) same (refl, refl)
  says_fate lane k fate NotServed is own = absurd is
  says_fate lane k fate ReadFailed is own = absurd own
  says_fate lane k fate StartFailed is own = absurd own
  says_fate lane k fate HoldFailed is own = absurd own
  says_fate lane k fate (Skipped f) is own = absurd own
  says_fate lane k fate (CalledOff f) is own = absurd own
  says_fate lane k fate (Stopped t) is own = absurd own
  says_fate lane k fate MemoryEnd is own = absurd own

  -- two plain ends of a job say the same
  abbrev Agree : JobEnd FindingOf → JobEnd FindingOf → Type 0
  Agree e d = (end_answer e ≡ end_answer d) × (told_by e ≡ told_by d)

  both_plain : (lane k : ℕ) → k < job_count racing → (e d : JobEnd FindingOf) → IsPlainEnd racing told lane (name_in racing k) e → IsPlainEnd racing told lane (name_in racing k) d → Agree e d
  both_plain lane k lt e d own other =
      let script = some_script lane (name_in racing k) in
      let file = file_at k lt in
      elim (plain_fate racing told lane (name_in racing k) script.0 file.0 script.1 script.2 file.1 e own) [
        | inl none ↦ elim (plain_fate racing told lane (name_in racing k) script.0 file.0 script.1 script.2 file.1 d other) [
          | inl same ↦ (ap end_answer (none.0 ∙ sym same.0), ap told_by (none.0 ∙ sym same.0))
          | inr served ↦ absurd (none.1 served.0)
        ]
        | inr served ↦ elim (plain_fate racing told lane (name_in racing k) script.0 file.0 script.1 script.2 file.1 d other) [
          | inl none ↦ absurd (none.1 served.0)
          | inr too ↦
              let same : served.1.0 ≡ too.1.0 = one_left one racing.problem problem (name_in racing k) _ file.0 _ _ served.1.0 too.1.0 served.1.1 too.1.1 in
              let x = says_fate lane k served.1.0 e served.1.2 own in
              let y = says_fate lane k too.1.0 d too.1.2 other in
              (x.0 ∙ ap (λ z. fate_answer (Some z)) same ∙ sym y.0, x.1 ∙ ap (λ z. fate_event (Some z)) same ∙ sym y.1)
        ]
      ]

  -- a plain end carries what it found for its job
  carries_own : (lane k : ℕ) (e : JobEnd FindingOf) → IsPlainEnd racing told lane (name_in racing k) e → (f : FindingOf) → Carries e f → (e ≡ Found f) × (f.job ≡ name_in racing k)
  carries_own lane k (Found g) own f carries = (ap Found carries, ap (λ (x : FindingOf). x.job) (sym carries) ∙ judged_job racing told lane (name_in racing k) g own)
  carries_own lane k Unknown own f carries = absurd carries
  carries_own lane k NotServed own f carries = absurd carries
  carries_own lane k (Bad number at) own f carries = absurd carries
  carries_own lane k ReadFailed own f carries = absurd carries
  carries_own lane k StartFailed own f carries = absurd carries
  carries_own lane k HoldFailed own f carries = absurd carries
  carries_own lane k (Skipped g) own f carries = absurd own
  carries_own lane k (CalledOff g) own f carries = absurd own
  carries_own lane k (Stopped t) own f carries = absurd carries
  carries_own lane k MemoryEnd own f carries = absurd carries

  module _ (span : Span) (d : DesignOf) (count : job_count racing ≡ length (jobs_of_mode racing.problem.problem.mode span d)) where
    -- a finding that plain reports carry, where it was found
    record FoundAt (reports : List (ReportOf FindingOf)) (k : ℕ) (f : FindingOf) : Type 0 where
      lane : ℕ
      report : ReportOf FindingOf
      at : slice_get reports lane ≡ Some report
      is : end_at report k ≡ Found f

    found_at : (reports : List (ReportOf FindingOf)) → ArePlain racing told reports → (k : ℕ) → k < job_count racing → (f : FindingOf) → SettledIn job_of reports (name_in racing k) f → FoundAt reports k f
    found_at reports plain k lt f settled =
        let at : slice_get reports settled.1.0 ≡ Some settled.0 = contains_at reports settled.0 settled.1 in
        let own = plain.each settled.1.0 settled.0 at in
        let in_j : settled.2.1.0 < job_count racing = omega (arith, own.0, settled.2.1.1) in
        let end_is : end_at settled.0 settled.2.1.0 ≡ settled.2.0 = get_or_default settled.0.ends settled.2.1.0 NotServed settled.2.0 settled.2.1.1 ∙ settled.2.1.2 in
        let found = carries_own settled.1.0 settled.2.1.0 (end_at settled.0 settled.2.1.0) (own.1 settled.2.1.0 in_j) f (subst (λ x. Carries x f) (sym end_is) settled.2.2) in
        let same : settled.2.1.0 ≡ k = one_place racing.problem.problem.mode span d settled.2.1.0 k (omega (arith, count, in_j)) (omega (arith, count, lt)) (sym found.1 ∙ settled.3) in
        record { lane = settled.1.0; report = settled.0; at = at; is = subst (λ n. end_at settled.0 n ≡ Found f) same found.0 }

    settles : (reports : List (ReportOf FindingOf)) → ArePlain racing told reports → (lane k : ℕ) (r : ReportOf FindingOf) (f : FindingOf) → slice_get reports lane ≡ Some r → k < job_count racing → end_at r k ≡ Found f → SettledIn job_of reports (name_in racing k) f
    settles reports plain lane k r f at lt is =
        let own = plain.each lane r at in
        let within : k < length r.ends = omega (arith, own.0, lt) in
        let job = (carries_own lane k (end_at r k) (own.1 k lt) f (subst (λ x. Carries x f) (sym is) refl)).1 in
        (r, at_contains reports lane r at, (end_at r k, (k, within, get_or_default r.ends k (end_at r k) NotServed within), subst (λ x. Carries x f) (sym is) refl), job)

    -- findings for one job answer alike
    alike : (P Q : List (ReportOf FindingOf)) → ArePlain racing told P → ArePlain racing told Q → (k : ℕ) → k < job_count racing → (f g : FindingOf) → FoundAt P k f → FoundAt Q k g → f.answer ≡ g.answer
    alike P Q plain other k lt f g x y =
        let file = file_at k lt in
        let own = subst (IsPlainEnd racing told x.lane (name_in racing k)) x.is ((plain.each x.lane x.report x.at).1 k lt) in
        let its = subst (IsPlainEnd racing told y.lane (name_in racing k)) y.is ((other.each y.lane y.report y.at).1 k lt) in
        one_says racing.problem (name_in racing k) f.answer g.answer (judged_says racing problem told x.lane (name_in racing k) f file.0 file.1 own)
        (judged_says racing problem told y.lane (name_in racing k) g file.0 file.1 its)

    module _ (P Q : List (ReportOf FindingOf)) (plain : ArePlain racing told P) (other : ArePlain racing told Q) (A B : List (Option Answer))
        (own : AreCollected job_of answer_of racing.problem.problem.mode (job_count racing) P A) (its : AreCollected job_of answer_of racing.problem.problem.mode (job_count racing) Q B) where
      report_at : (lane : ℕ) (r : ReportOf FindingOf) → slice_get P lane ≡ Some r → (q : ReportOf FindingOf) × (slice_get Q lane ≡ Some q)
      report_at lane r at = let lanes : length P ≡ length Q = plain.lanes_are ∙ sym other.lanes_are in stands_at Q lane (omega (arith, lanes, slice_get_within P lane r at))

      by_entry : (k : ℕ) → k < job_count racing → (f g : FindingOf) → FoundAt P k f → SettledIn job_of Q (name_in racing k) g → (o : Option Answer) → slice_get B k ≡ Some o → slice_get B k ≡ Some (Some f.answer)
      by_entry k lt f g x settled None at = absurd (its.entry k None at g settled)
      by_entry k lt f g x settled (Some b) at =
          let h = its.entry k (Some b) at in
          let y = found_at Q other k lt h.0 h.1 in
          at ∙ ap (λ z. Some (Some z)) (sym (alike P Q plain other k lt f h.0 x y ∙ h.2))

      keeps : Keeps A B
      keeps k a at =
          let lt : k < job_count racing = omega (arith, own.size, slice_get_within A k (Some a) at) in
          let f = own.entry k (Some a) at in
          let x = found_at P plain k lt f.0 f.1 in
          let q = report_at x.lane x.report x.at in
          let agree = both_plain x.lane k lt (end_at x.report k) (end_at q.0 k) ((plain.each x.lane x.report x.at).1 k lt) ((other.each x.lane q.0 q.1).1 k lt) in
          let found = answer_found (end_at q.0 k) f.0.answer (sym agree.0 ∙ ap end_answer x.is) in
          let here : slice_get B k ≡ Some (get_or B k None) = slice_get-get_or B k None (omega (arith, its.size, lt)) in
          by_entry k lt f.0 found.0 x (settles Q other x.lane k q.0 found.0 q.1 lt found.1) (get_or B k None) here ∙ ap (λ z. Some (Some z)) f.2

      module _ (s t : Status) (is : IsStatus job_of racing.problem.problem.mode P A s) (too : IsStatus job_of racing.problem.problem.mode Q B t) (same : A ≡ B) where
        events_in : (e : Event) → Contains is.events e → Contains too.events e
        events_in e among =
            let come = is.come e among in
            let at : slice_get P come.2.0 ≡ Some come.0 = contains_at P come.0 come.2 in
            let q = report_at come.2.0 come.0 at in
            let lt : come.1 < job_count racing = omega (arith, own.size, slice_get_within A come.1 None come.3) in
            let agree = both_plain come.2.0 come.1 lt (end_at come.0 come.1) (end_at q.0 come.1) ((plain.each come.2.0 come.0 at).1 come.1 lt) ((other.each come.2.0 q.0 q.1).1 come.1 lt) in
            subst (Contains too.events) (sym agree.1 ∙ come.4) (too.all q.0 come.1 (at_contains Q come.2.0 q.0 q.1) (subst (λ xs. slice_get xs come.1 ≡ Some None) same come.3))

    pub once : (P Q : List (ReportOf FindingOf)) → ArePlain racing told P → ArePlain racing told Q → (A B : List (Option Answer)) → AreCollected job_of answer_of racing.problem.problem.mode (job_count racing) P A
        → AreCollected job_of answer_of racing.problem.problem.mode (job_count racing) Q B → (s t : Status) → IsStatus job_of racing.problem.problem.mode P A s → IsStatus job_of racing.problem.problem.mode Q B t → s ≡ t
    once P Q plain other A B own its s t is too =
        let same : A ≡ B = same_answers A B (own.size ∙ sym its.size) (keeps P Q plain other A B own its) (keeps Q P other plain B A its own) in
        let decided : is.decided ≡ too.decided = one_verdict racing.problem.problem.mode B is.decided too.decided (subst (λ xs. Decided racing.problem.problem.mode xs is.decided) same is.decides) too.decides in
        one_status too.decided is.events too.events s t (events_in P Q plain other A B own its s t is too same) (events_in Q P other plain B A its own t s too is (sym same))
        (subst (λ o. HasStatus o is.events s) decided is.has_status) too.has_status
