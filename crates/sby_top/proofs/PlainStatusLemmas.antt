-- There is one plain status of lanes, and only one.
use Rattle.std.proofs.Common.{◌≡◌, ℕ, zero, suc, ◌+◌, ◌<◌, List, [], ◌∷◌, refl, ap, sym, subst, inl, inr, length, take, get_or, arith}
use Rattle.std.specs.Prelude.{true, Option, Some, None, slice_get}
use Rattle.std.proofs.lemmas.Option.{slice_get-get_or}
use Rattle.sby_edge.specs.Child.{YardOf, up_to}
use Rattle.sby_edge.specs.Script.{ScriptOf}
use Rattle.cert_judge.specs.Fate.{Fate, Found as FoundFate, Unknown as UnknownFate, Bad as BadFate}
use Rattle.cert_judge.specs.Numbers.{number_of}
use Rattle.cert_judge.specs.Output.{has_values, stream_of}
use Rattle.cert_judge.specs.OutputFate.{IsOutputFate, own_fate}
use Rattle.cert_judge.specs.declared.stream.Kind.{Kind}
use Rattle.cert_judge.specs.declared.stream.Kind.TheVariants.{Certificate, Witness, Invariant}
use Rattle.cert_judge.specs.declared.stream.StreamKind.{StreamKind}
use Rattle.cert_judge.specs.declared.stream.StreamKind.TheVariants.{Drup}
use Rattle.cnf_form.specs.Cnf.{FormulaOf}
use Rattle.cnf_form.specs.Dimacs.{IsDimacs}
use Rattle.judge.specs.Fates.{IsFate, Serves}
use Rattle.judge.specs.Finding.{FindingOf}
use Rattle.judge.specs.Problem.{AskedOf, IsJob, IsJobFile, IsProblem, pair_in}
use Rattle.race_core.specs.Report.{ReportOf}
use Rattle.race_core.specs.declared.end.JobEnd.{JobEnd}
use Rattle.race_core.specs.declared.end.JobEnd.TheVariants.{Found, Unknown, NotServed, Bad}
use Rattle.race_core.specs.declared.event.Judged.{Judged}
use Rattle.race_core.specs.declared.event.Judged.TheVariants as judged
use Rattle.sby_terms.specs.declared.engine.Engine.{Engine}
use Rattle.sby_terms.specs.declared.names.Answer.{Answer}
use Rattle.sby_terms.specs.declared.names.JobName.{JobName}
use Rattle.sby_lines.proofs.PlaceLemmas.{job_named}
use Rattle.lane_run.specs.Complete.{ComesTo}
use Rattle.task_race.specs.Fates.{Ends, Proves, Tells, most_bytes}
use Rattle.task_race.specs.Serving.{IsJudgeable, IsServing, evidence_of}
use Rattle.task_race.specs.declared.evidence.Evidence.{Evidence}
use Rattle.task_race.specs.declared.evidence.Evidence.TheVariants.{Output, ProofFile}
use Rattle.task_race.specs.Ends.{IsJudgedAs, IsProofOf}
use Rattle.task_race.specs.Ran.{RacingOf, evidence_in, job_count, name_in}
use Rattle.sby_top.specs.Complete.{ArePlain, IsPlainEnd, IsPlainReport}
use Rattle.sby_top.proofs.EvidenceLemmas.{lane_judgeable}
use Rattle.sby_top.proofs.ExistLemmas.{Known}
use Rattle.sby_top.proofs.StreamLemmas.{certificate_serves}
use Rattle.sby_top.proofs.LawLemmas.{OneFile}
use Rattle.sby_terms.specs.declared.names.JobName.TheVariants.{Base, Step, Inv, Cover}

-- no stream of a kind that is judged for a job is without a fate
abbrev pub SomeFate : Type 0
SomeFate = (p : AskedOf) (job : JobName) (kind : Kind) (file stream : List ℕ) (most : ℕ) (f : FormulaOf) → IsProblem p → IsDimacs file f → Serves kind job
    → ((x : Fate) → IsFate p job kind file stream most x → ⊥) → ⊥

-- ---- lists whose elements can't be missing

listed : {X : Type 0} (P : ℕ → X → Type 0) (n : ℕ) → ((k : ℕ) → k < n → ((x : X) → P k x → ⊥) → ⊥) → ((xs : List X) → length xs ≡ n → ((k : ℕ) (x : X) → slice_get xs k ≡ Some x → P k x) → ⊥) → ⊥
listed P zero each none = none [] refl (λ k x at. cc)
listed {X} P (suc n) each none =
    each 0 (omega arith) (λ x first.
    listed (λ k. P (suc k)) n (λ k lt. each (suc k) (omega (arith, lt))) (λ xs size others. none (x ∷ xs) (ap suc size) (λ k y at. by x first xs others k y at)))
  where
    by : (x : X) → P 0 x → (xs : List X) → ((k : ℕ) (y : X) → slice_get xs k ≡ Some y → P (suc k) y) → (k : ℕ) (y : X) → slice_get (x ∷ xs) k ≡ Some y → P k y
    by x first xs others zero y at = let same : x ≡ y = cc in subst (P 0) same first
    by x first xs others (suc k) y at = others k y at

served_or_not : (kind : Kind) (job : JobName) → Known (Serves kind job)
served_or_not (Certificate kind) (Base i) = inl tt
served_or_not (Certificate kind) Step = inl tt
served_or_not (Certificate kind) Inv = inr (λ no. no)
served_or_not (Certificate kind) (Cover k) = inl tt
served_or_not Witness (Base i) = inl tt
served_or_not Witness Step = inr (λ no. no)
served_or_not Witness Inv = inr (λ no. no)
served_or_not Witness (Cover k) = inl tt
served_or_not Invariant (Base i) = inr (λ no. no)
served_or_not Invariant Step = inr (λ no. no)
served_or_not Invariant Inv = inl tt
served_or_not Invariant (Cover k) = inr (λ no. no)

judgeable_or_not : (by : Evidence) (job : JobName) → Known (IsJudgeable by job)
judgeable_or_not (Output kind) job = served_or_not kind job
judgeable_or_not (ProofFile kind) job = served_or_not (Certificate kind) job

serves_or_not : (o : Option Engine) (job : JobName) → Known (IsServing o job)
serves_or_not None job = inr (λ no. no)
serves_or_not (Some e) job = judgeable_or_not (evidence_of e) job

-- ---- the end of a job by a fate

module _ (p : AskedOf) where
  abbrev finding : JobName → Answer → FindingOf
  finding job a = record { problem = p.problem; job = job; answer = a; run = None }

  abbrev said_of : JobName → Fate → Judged FindingOf
  said_of job (FoundFate a) = judged.Found (finding job a)
  said_of job UnknownFate = judged.Unknown
  said_of job (BadFate kind at) = judged.Bad (number_of kind) at

  abbrev end_of : JobName → Fate → JobEnd FindingOf
  end_of job (FoundFate a) = Found (finding job a)
  end_of job UnknownFate = Unknown
  end_of job (BadFate kind at) = Bad (number_of kind) at

  tells : (job : JobName) (fate : Fate) → Tells p.problem job (said_of job fate) (Some fate)
  tells job (FoundFate a) = (refl, refl, refl)
  tells job UnknownFate = refl
  tells job (BadFate kind at) = (kind, refl, refl)

-- a job's file has a formula
file_formula : (p : AskedOf) (job : JobName) (file : List ℕ) → IsJobFile p job file → (f : FormulaOf) × IsDimacs file f
file_formula p job file (inl is) = (is.0, is.3)
file_formula p job file (inr is) = ((pair_in p).formula, is.3)

module _ (some_fate : SomeFate) (one_file : OneFile) (p : AskedOf) (problem : IsProblem p) (job : JobName) (script : ScriptOf) (file : List ℕ) (is_file : IsJobFile p job file) where
  formula : (f : FormulaOf) × IsDimacs file f
  formula = file_formula p job file is_file

  abbrev Comes : Evidence → Fate → Type 0
  Comes by fate = ComesTo (Ends p job by) (Proves p job by) (IsProofOf (Some script)) (up_to script.stalls script.bytes) (said_of p job fate)

  of_output : (kind : StreamKind) (x : Fate) → Serves (Certificate kind) job → IsFate p job (Certificate Drup) file (stream_of true (up_to script.stalls script.bytes)) most_bytes x → (o : Option Fate) → own_fate (has_values (up_to script.stalls script.bytes)) x ≡ o
      → ((fate : Fate) → Comes (ProofFile kind) fate → ⊥) → ⊥
  of_output kind x serves is (Some y) own none =
      none y (inl (Some y, tells p job y, (λ other is_other. subst (λ z. IsOutputFate z (up_to script.stalls script.bytes) most_bytes (Some y)) (one_file p job file other is_file is_other) (x, is.1, sym own))))
  of_output kind x serves is None own none =
      some_fate p job (Certificate kind) file (take (most_bytes + 1) script.proof) most_bytes formula.0 problem formula.1 serves (λ y left.
      none y (inr (
        (None, refl, (λ other is_other. subst (λ z. IsOutputFate z (up_to script.stalls script.bytes) most_bytes None) (one_file p job file other is_file is_other) (x, is.1, sym own))),
        (take (most_bytes + 1) script.proof, refl, (y, tells p job y, (λ other is_other. subst (λ z. IsFate p job (Certificate kind) z (take (most_bytes + 1) script.proof) most_bytes y) (one_file p job file other is_file is_other) left))),
      )))

  comes : (by : Evidence) → IsJudgeable by job → ((fate : Fate) → Comes by fate → ⊥) → ⊥
  comes (Output kind) serves none =
      some_fate p job kind file (up_to script.stalls script.bytes) most_bytes formula.0 problem formula.1 serves (λ x is.
      none x (inl (Some x, tells p job x, (λ other is_other. subst (λ z. IsFate p job kind z (up_to script.stalls script.bytes) most_bytes x) (one_file p job file other is_file is_other) is))))
  comes (ProofFile kind) serves none =
      some_fate p job (Certificate Drup) file (stream_of true (up_to script.stalls script.bytes)) most_bytes formula.0 problem formula.1 (certificate_serves kind Drup job serves) (λ x is.
      of_output kind x serves is (own_fate (has_values (up_to script.stalls script.bytes)) x) refl none)

-- ---- Plain's reports

module _ (some_fate : SomeFate) (one_file : OneFile) (racing : RacingOf) (problem : IsProblem racing.problem) (scripts : YardOf) (file_at : (k : ℕ) → k < job_count racing → (file : List ℕ) × IsJobFile racing.problem (name_in racing k) file) where
  by_fate : (lane : ℕ) (job : JobName) (fate : Fate) → IsJudgedAs racing (Some scripts) lane job (said_of racing.problem job fate) → IsPlainEnd racing (Some scripts) lane job (end_of racing.problem job fate)
  by_fate lane job (FoundFate a) is = is
  by_fate lane job UnknownFate is = is
  by_fate lane job (BadFate kind at) is = is

  is_job : (k : ℕ) → k < job_count racing → IsJob racing.problem (name_in racing k)
  is_job k lt = (k, job_named racing.problem.problem.mode racing.problem.problem.span racing.problem.design k lt)

  some_end : (lane k : ℕ) → k < job_count racing → ((e : JobEnd FindingOf) → IsPlainEnd racing (Some scripts) lane (name_in racing k) e → ⊥) → ⊥
  some_end lane k lt none = elim (serves_or_not (slice_get racing.engines lane) (name_in racing k)) [
    | inl serving ↦
        let file = file_at k lt in
        comes some_fate one_file racing.problem problem (name_in racing k) (scripts racing.task lane (name_in racing k)) file.0 file.1 (evidence_in racing lane)
        (lane_judgeable (slice_get racing.engines lane) (name_in racing k) serving) (λ fate left.
        none (end_of racing.problem (name_in racing k) fate) (by_fate lane (name_in racing k) fate
        ((serving, is_job k lt), (up_to (scripts racing.task lane (name_in racing k)).stalls (scripts racing.task lane (name_in racing k)).bytes, inl refl, left))))
    | inr apart ↦ none NotServed apart
  ]

  some_report : (lane : ℕ) → ((r : ReportOf FindingOf) → IsPlainReport racing (Some scripts) lane r → ⊥) → ⊥
  some_report lane none =
      listed (λ k e. IsPlainEnd racing (Some scripts) lane (name_in racing k) e) (job_count racing) (λ k lt. some_end lane k lt) (λ ends size each.
      none (record { lane = lane; jobs = job_count racing; ends = ends; events = [] })
      (size, (λ place lt. each place (get_or ends place NotServed) (slice_get-get_or ends place NotServed (omega (arith, lt, size))))))

  pub some_reports : ((reports : List (ReportOf FindingOf)) → ArePlain racing (Some scripts) reports → ⊥) → ⊥
  some_reports none =
      listed (λ lane r. IsPlainReport racing (Some scripts) lane r) (length racing.engines) (λ lane lt. some_report lane) (λ reports size each. none reports (record { lanes_are = size; each = each }))
