-- PASS and FAIL are true.
use Rattle.std.proofs.Common.{◌≡◌, ◌≢◌, ℕ, ◌-◌, ◌<◌, ◌≤◌, List, [], ◌∷◌, ◌++◌, refl, ap, sym, ◌∙◌, subst, inl, inr, length, append_assoc, arith}
use Rattle.std.specs.Prelude.{◌↔◌, Contains, Option, Some, None, slice_get}
use Rattle.jobs_pool.specs.Places.{PoolOf}
use Rattle.judge.specs.Finding.{Claim, FindingOf, RunReaches}
use Rattle.race_core.specs.Asking.{name_at}
use Rattle.design_meaning.specs.Meaning.{Broken, covers}
use Rattle.design_meaning.specs.Runs.{CycleOf, valuations}
use Rattle.sby_terms.specs.declared.names.Answer.TheVariants.{Sat, Unsat}
use Rattle.std.proofs.lemmas.Option.{slice_get-get_or, slice_get_within}
use Rattle.sby_lines.proofs.ShownLemmas.{one_printed, printed_claims, some_same}
use Rattle.sby_lines.specs.Reached.{reached_line, unreached_line}
use Rattle.std.proofs.lemmas.List.Elements.{Contains-append_left}
use Rattle.judge.specs.Jobs.{IsSpanFor, Solvable, jobs_in}
use Rattle.judge.specs.Problem.{AskedOf, IsProblem}
use Rattle.race_core.specs.Collect.{AreCollected}
use Rattle.race_core.specs.Report.{ReportOf}
use Rattle.design_reader.specs.Grammar.{Reads}
use Rattle.sby_terms.specs.Decide.{Decides}
use Rattle.sby_terms.specs.declared.names.Verdict.TheVariants.{Pass as PassVerdict, Fail as FailVerdict}
use Rattle.design_core.specs.Shape.{CellOf, DesignOf}
use Rattle.design_meaning.specs.Claims.{NeverBreak, NoBreak}
use Rattle.sby_terms.specs.Span.{IsSpan, first_of, last_of, slices_of, whole}
use Rattle.sby_terms.specs.declared.names.Answer.{Answer}
use Rattle.sby_terms.specs.declared.names.JobName.TheVariants.{Base, Step, Cover}
use Rattle.sby_terms.specs.declared.names.Mode.{Mode}
use Rattle.sby_terms.specs.declared.names.Mode.TheVariants.{Bmc, Prove, ProveInv, Cover as CoverMode}
use Rattle.sby_terms.specs.declared.names.Status.{Status}
use Rattle.sby_terms.specs.declared.names.Status.TheVariants.{Pass, Fail, Memory as Memory_}
use Rattle.sby_terms.specs.declared.span.Span.{Span}
use Rattle.sby_lines.specs.Lines.{HasJobLines, HasLines, IsStatus, done_line, unput_lines}
use Rattle.sby_lines.specs.Shown.{IsTraced, ShowsBreak, ShowsStatement}
use Rattle.sby_lines.specs.Told.{AreAnswers, AreLimited, AreReported, CameTo, IsPrintedFinding, IsRaceStatus, Request, answer_of, job_of}
use Rattle.sby_lines.specs.declared.early.Early.{Early}
use Rattle.sby_lines.specs.declared.early.Early.TheVariants.{File, Sby, Task, Read, Design as DesignFault, TooMany, Streams, Memory}
use Rattle.sby_lines.proofs.PlaceLemmas.{at_contains, contains_at, cover_length, slice_length}
use Rattle.sby_top.specs.Causes.{IsDone, IsOutcome}
use Rattle.sby_top.specs.Headline.{AreLines, ArePrintedOf, FailClaim, IsReachPrinted, IsReachShown, IsShown, IsTrueOf, NamesEvent, PassClaim, WasStopped}
use Rattle.sby_top.specs.Task.{IsAskable, TaskOf}
use Rattle.sby_top.specs.World.{FilesOf, Moments, World, race_of}
use Rattle.sby_top.specs.declared.outcome.TaskEnd.{TaskEnd}
use Rattle.sby_top.proofs.FailLemmas.{break_claim, one_fail, printed_carries, same_break, traced_more}
use Rattle.sby_top.proofs.PassLemmas.{bmc_passes, invariant_passes, prove_passes}
use Rattle.sby_top.proofs.ReportLemmas.{limited as limited_by, reported}
use Rattle.sby_top.proofs.StatusLemmas.{fail_decides, pass_decides}

-- the laws on which the truth of statuses stands: of k-induction, of slices, and of what lines show
pub record Laws : Type 0 where
  pub induction : (d : DesignOf) (n : ℕ) → 0 < n → (Solvable d (Base 0) (whole n) → ⊥) → (Solvable d Step (whole n) → ⊥) → NeverBreak d
  pub slices : (d : DesignOf) (span : Span) → IsSpan span → ((i : ℕ) → i < slices_of span → NoBreak d (first_of span i) (last_of span i)) ↔ NoBreak d span.skip span.depth
  pub within : (span : Span) (i : ℕ) → (span.skip ≤ first_of span i) × (last_of span i ≤ span.depth)
  pub break : (request : Request) (c : CameTo) (lines : List (List ℕ)) → AreReported request.mode request.span c.design c.reports → request.mode ≢ CoverMode
      → IsRaceStatus request c Fail → HasJobLines request c Fail lines → (answers : List (Option Answer)) × AreAnswers request c answers × ShowsBreak request c answers lines
  pub exist : (request : Request) (c : CameTo) (status : Status) → AreReported request.mode request.span c.design c.reports → AreLimited c.start request.limit c.reports → IsRaceStatus request c status
      → (lines : List (List ℕ)) × HasJobLines request c status lines
  pub statement : (request : Request) (c : CameTo) (status : Status) (answers : List (Option Answer)) (lines : List (List ℕ)) (place : ℕ) (answer : Answer)
      → AreReported request.mode request.span c.design c.reports → request.mode ≡ CoverMode → AreAnswers request c answers → HasJobLines request c status lines
      → slice_get answers place ≡ Some (Some answer) → ShowsStatement request c place answer lines

-- the text reads this design and no other
pub own_design : (p : AskedOf) (text : List ℕ) (d : DesignOf) → IsProblem p → text ≡ p.problem.text → Reads text d → d ≡ p.design
own_design p text d problem is reads = problem.only d (subst (λ t. Reads t d) is reads)

-- ---- cover statements

abbrev over : TaskEnd → DesignOf → CameTo
over end d = record { design = d; reports = end.reports.items; start = end.start }

-- the job lines among the lines of a task
record HasJobs (task : TaskOf) (end : TaskEnd) (d : DesignOf) (lines : List (List ℕ)) : Type 0 where
  status : Status
  job : List (List ℕ)
  back : List (List ℕ)
  has : HasJobLines task.request (over end d) status job
  all : lines ≡ job ++ back

job_lines : (task : TaskOf) (end : TaskEnd) (p : AskedOf) (lines : List (List ℕ)) → end.early ≡ None → end.text ≡ p.problem.text → IsProblem p → AreLines task end lines → HasJobs task end p.design lines
job_lines task end p lines early text problem has =
    let own : HasLines task.request end.text None end.reports.items end.start end.unput.items lines = subst (λ e. HasLines task.request end.text e end.reports.items end.start end.unput.items lines) early has in
    let same : own.design ≡ p.design = own_design p end.text own.design problem text (own.reads refl) in
    record {
      status = own.status;
      job = own.is_body.0;
      back = unput_lines task.request end.unput.items ++ done_line task.request.name own.status own.rc ∷ [];
      has = subst (λ d. HasJobLines task.request (over end d) own.status own.is_body.0) same own.is_body.1;
      all = own.all ∙ ap (λ ls. ls ++ done_line task.request.name own.status own.rc ∷ []) own.is_body.2
          ∙ append_assoc own.is_body.0 (unput_lines task.request end.unput.items) (done_line task.request.name own.status own.rc ∷ []);
    }

-- what the lines show of a settled statement, whatever lines they are: the same finding and cell
record IsStatementShown (task : TaskOf) (end : TaskEnd) (d : DesignOf) (k : ℕ) (a : Answer) : Type 0 where
  finding : FindingOf
  cell : CellOf
  printed : IsPrintedFinding task.request.mode end.reports.items k finding
  claim : Claim d task.request.span (Cover k) a finding.run
  is_cell : slice_get (covers d) k ≡ Some cell
  reached : (lines : List (List ℕ)) (run : List CycleOf) → AreLines task end lines → finding.run ≡ Some run → IsReachPrinted d task.request.name cell run lines
  unreached : (lines : List (List ℕ)) → AreLines task end lines → finding.run ≡ None → Contains lines (unreached_line task.request.name cell)

traced_in : (d : DesignOf) (line : List ℕ) (run : List CycleOf) (job back lines : List (List ℕ)) → lines ≡ job ++ back → IsTraced d line run job → IsTraced d line run lines
traced_in d line run job back lines is traced =
    (traced.0, traced.1, traced.2 ++ back, traced.3, is ∙ ap (λ ls. ls ++ back) traced.4 ∙ append_assoc traced.0 (line ∷ (traced.1 ++ traced.2)) back ∙ ap (λ ls. traced.0 ++ line ∷ ls) (append_assoc traced.1 traced.2 back))

same_found : (task : TaskOf) (end : TaskEnd) (d : DesignOf) (k : ℕ) (a : Answer) (lines more : List (List ℕ)) → AreReported task.request.mode task.request.span d end.reports.items
    → (x : ShowsStatement task.request (over end d) k a lines) → (y : ShowsStatement task.request (over end d) k a more) → (y.finding ≡ x.finding) × (y.cell ≡ x.cell)
same_found task end d k a lines more reported x y =
    (one_printed task.request.mode end.reports.items k y.finding x.finding reported.places y.printed x.printed, some_same y.cell x.cell (sym y.is_cell ∙ x.is_cell))

statement_shown : Laws → (task : TaskOf) (end : TaskEnd) (p : AskedOf) (status : Status) (k : ℕ) (a : Answer) → task.request.mode ≡ CoverMode → end.early ≡ None → end.text ≡ p.problem.text → IsProblem p
    → AreReported task.request.mode task.request.span p.design end.reports.items → AreLimited end.start task.request.limit end.reports.items → (race : IsRaceStatus task.request (over end p.design) status)
    → slice_get race.0 k ≡ Some (Some a) → IsStatementShown task end p.design k a
statement_shown laws task end p status k a is early text problem reported limited race at =
    let first = laws.exist task.request (over end p.design) status reported limited race in
    let x = laws.statement task.request (over end p.design) status race.0 first.0 k a reported is race.1 first.1 at in
    let name : name_at task.request.mode k ≡ Cover k = ap (λ m. name_at m k) is in
    let claim = printed_claims task.request.mode task.request.span p.design end.reports.items k x.finding reported x.printed in
    record {
      finding = x.finding;
      cell = x.cell;
      printed = x.printed;
      claim = subst (λ b. Claim p.design task.request.span (Cover k) b x.finding.run) x.answers (subst (λ j. Claim p.design task.request.span j x.finding.answer x.finding.run) name claim);
      is_cell = x.is_cell;
      reached = λ lines run has carries.
          let jobs = job_lines task end p lines early text problem has in
          let y = laws.statement task.request (over end p.design) jobs.status race.0 jobs.job k a reported is race.1 jobs.has at in
          let same = same_found task end p.design k a first.0 jobs.job reported x y in
          let traced = y.reached run (ap (λ (f : FindingOf). f.run) same.0 ∙ carries) in
          traced_in p.design (reached_line task.request.name x.cell run) run jobs.job jobs.back lines jobs.all (subst (λ cell. IsTraced p.design (reached_line task.request.name cell run) run jobs.job) same.1 traced);
      unreached = λ lines has none.
          let jobs = job_lines task end p lines early text problem has in
          let y = laws.statement task.request (over end p.design) jobs.status race.0 jobs.job k a reported is race.1 jobs.has at in
          let same = same_found task end p.design k a first.0 jobs.job reported x y in
          let named = subst (λ cell. Contains jobs.job (unreached_line task.request.name cell)) same.1 (y.unreached (ap (λ (f : FindingOf). f.run) same.0 ∙ none)) in
          subst (λ ls. Contains ls (unreached_line task.request.name x.cell)) (sym jobs.all) (Contains-append_left jobs.job jobs.back (unreached_line task.request.name x.cell) named);
    }

reach_by : (task : TaskOf) (end : TaskEnd) (d : DesignOf) (k : ℕ) (shown : IsStatementShown task end d k Sat) → task.request.mode ≡ CoverMode → (o : Option (List CycleOf)) → shown.finding.run ≡ o → RunReaches d task.request.span.depth k o → IsReachShown task end d k
reach_by task end d k shown is None carries reaches = absurd reaches
reach_by task end d k shown is (Some run) carries reaches =
    let f = shown.printed in record {
      run = run;
      cell = shown.cell;
      carried = (shown.finding, (f.report, f.in_reports, (f.first.end, at_contains f.report.ends f.first.place f.first.end f.first.at, f.first.carried), f.first.of_job ∙ ap (λ m. name_at m k) is), carries);
      rows = reaches.0;
      within = reaches.1;
      reaches = reaches.2;
      is_cell = shown.is_cell;
      printed = λ lines has. shown.reached lines run has carries;
    }

-- ---- PASS

-- each cover statement has a run, which is shown
cover_passes : Laws → (task : TaskOf) (end : TaskEnd) (p : AskedOf) → task.request.mode ≡ CoverMode → end.early ≡ None → end.text ≡ p.problem.text → IsProblem p → AreReported task.request.mode task.request.span p.design end.reports.items
    → AreLimited end.start task.request.limit end.reports.items → (race : IsRaceStatus task.request (over end p.design) Pass) → Decides CoverMode race.0 PassVerdict → PassClaim CoverMode task end p.design
cover_passes laws task end p is early text problem reported limited race decides = λ k lt.
    let within : k < length race.0 = omega (arith, lt, race.1.size, cover_length task.request.mode task.request.span p.design p.design is refl) in
    let at = slice_get-get_or race.0 k None within ∙ ap Some (decides k None within) in
    let shown = statement_shown laws task end p Pass k Sat is early text problem reported limited race at in
    reach_by task end p.design k shown is shown.finding.run refl shown.claim

passes_by : Laws → (task : TaskOf) (end : TaskEnd) (p : AskedOf) (reports : List (ReportOf FindingOf)) (n : ℕ) (answers : List (Option Answer)) (mode : Mode) → (task.request.mode ≡ CoverMode → Decides CoverMode answers PassVerdict → PassClaim CoverMode task end p.design) → task.request.mode ≡ mode
    → IsAskable task → n ≡ length (jobs_in task.request.mode task.request.span p.design) → AreReported task.request.mode task.request.span p.design reports
    → AreCollected job_of answer_of task.request.mode n reports answers → Decides mode answers PassVerdict → PassClaim mode task end p.design
passes_by laws task end p reports n answers Bmc cover is askable count reported are decides =
    bmc_passes laws.slices task.request.span p.design reports n answers askable.is_span (count ∙ slice_length task.request.mode task.request.span p.design is)
    (subst (λ m. AreReported m task.request.span p.design reports) is reported) (subst (λ m. AreCollected job_of answer_of m n reports answers) is are) decides
passes_by laws task end p reports n answers Prove cover is askable count reported are decides =
    prove_passes laws.induction task.request.span p.design reports n answers (subst (λ m. IsSpanFor m task.request.span) is askable)
    (subst (λ m. AreReported m task.request.span p.design reports) is reported) (subst (λ m. AreCollected job_of answer_of m n reports answers) is are) decides
passes_by laws task end p reports n answers ProveInv cover is askable count reported are decides =
    invariant_passes task.request.span p.design reports n answers
    (subst (λ m. AreReported m task.request.span p.design reports) is reported) (subst (λ m. AreCollected job_of answer_of m n reports answers) is are) decides
passes_by laws task end p reports n answers CoverMode cover is askable count reported are decides = cover is decides

done_passes : Laws → (may_read : ℕ → Type 0) (number : ℕ) (pool : Option PoolOf) (begun finish : World) (before middle : FilesOf) (task : TaskOf) (end : TaskEnd)
    (done : IsDone may_read task before middle (race_of number pool begun finish end.start) end.text end.reports.items) → IsAskable task → end.early ≡ None → (d : DesignOf) → Reads end.text d
    → IsRaceStatus task.request (record { design = d; reports = end.reports.items; start = end.start }) Pass → IsTrueOf before.told task end.text (PassClaim task.request.mode task end)
done_passes laws may_read number pool begun finish before middle task end done askable early d reads is =
    let p = done.problem in
    let accepted = done.served.0 in
    let same : d ≡ done.problem.design = own_design done.problem end.text d done.served.0.problem done.text_is reads in
    let count : length (jobs_in task.request.mode task.request.span d) ≡ length (jobs_in task.request.mode task.request.span done.problem.design) = ap (λ x. length (jobs_in task.request.mode task.request.span x)) same in (
      rw done.text_is accepted.got,
      (
        p.design,
        rw done.text_is accepted.problem.reads,
        accepted.problem.flat,
        passes_by laws task end p end.reports.items (length (jobs_in task.request.mode task.request.span d)) is.0 task.request.mode
            (λ cover decides. cover_passes laws task end p cover early done.text_is accepted.problem (reported may_read before.told middle.told task p (race_of number pool begun finish end.start) task.service end.reports.items accepted done.reports_are)
            (limited_by may_read middle.told task p (race_of number pool begun finish end.start) task.service end.reports.items done.reports_are) (is.0, subst (λ x. AreAnswers task.request (over end x) is.0) same is.1, is.2) decides) refl askable count
            (reported may_read before.told middle.told task p (race_of number pool begun finish end.start) task.service end.reports.items accepted done.reports_are) is.1 (pass_decides task.request.mode is.0 is.2.events is.2.decided is.2.decides is.2.has_status),
      ),
    )

early_passes : (request : Request) (early : Early) (c : CameTo) → IsStatus request (Some early) c Pass → ⊥
early_passes request Memory c is = cc
early_passes request (File path) c is = cc
early_passes request (Sby fault) c is = cc
early_passes request (Task fault) c is = cc
early_passes request (Read fault) c is = cc
early_passes request (DesignFault fault) c is = cc
early_passes request (TooMany job) c is = cc
early_passes request Streams c is = cc

passes_truly : Laws → (may_read : ℕ → Type 0) (number : ℕ) (moments : Moments) (task : TaskOf) (end : TaskEnd) (early : Option Early) → IsAskable task → end.early ≡ early → (d : DesignOf) → (early ≡ None → Reads end.text d)
    → IsStatus task.request early (record { design = d; reports = end.reports.items; start = end.start }) Pass → IsOutcome may_read task moments (race_of number moments.pool moments.before moments.after end.start) early end.text end.reports.items end.unput.items (WasStopped moments end)
    → IsTrueOf moments.got.told task end.text (PassClaim task.request.mode task end)
passes_truly laws may_read number moments task end (Some early) askable at d reads is came = absurd (early_passes task.request early _ is)
passes_truly laws may_read number moments task end None askable at d reads is came = done_passes laws may_read number moments.pool moments.before moments.after moments.got moments.put task end came.0 askable at d (reads refl) is

pub is_pass_true : Laws → (may_read : ℕ → Type 0) (number : ℕ) (moments : Moments) (task : TaskOf) (end : TaskEnd) → IsAskable task → NamesEvent may_read number moments task end → end.status ≡ Pass
    → IsTrueOf moments.got.told task end.text (PassClaim task.request.mode task end)
is_pass_true laws may_read number moments task end askable named passes = elim named.status [
  | inl own ↦ passes_truly laws may_read number moments task end end.early askable refl own.0 own.1
      (subst (IsStatus task.request end.early (record { design = own.0; reports = end.reports.items; start = end.start })) passes own.2) named.cause
  | inr memory ↦ let no : Pass ≡ Memory_ = sym passes ∙ memory in cc
]

-- ---- FAIL

-- whatever lines the task has, they show the run
lines_show : Laws → (task : TaskOf) (end : TaskEnd) (p : AskedOf) (answers : List (Option Answer)) (first lines : List (List ℕ)) → task.request.mode ≢ CoverMode → end.early ≡ None → end.text ≡ p.problem.text → IsProblem p
    → AreReported task.request.mode task.request.span p.design end.reports.items → IsRaceStatus task.request (record { design = p.design; reports = end.reports.items; start = end.start }) Fail
    → AreAnswers task.request (record { design = p.design; reports = end.reports.items; start = end.start }) answers
    → (b : ShowsBreak task.request (record { design = p.design; reports = end.reports.items; start = end.start }) answers first) → AreLines task end lines → ArePrintedOf p.design task.request.name b.cell b.run lines
lines_show laws task end p answers first lines apart early text problem reported is are b has =
    let own : HasLines task.request end.text None end.reports.items end.start end.unput.items lines = subst (λ e. HasLines task.request end.text e end.reports.items end.start end.unput.items lines) early has in
    let same : own.design ≡ p.design = own_design p end.text own.design problem text (own.reads refl) in
    let c : CameTo = record { design = p.design; reports = end.reports.items; start = end.start } in
    let race : IsRaceStatus task.request (record { design = p.design; reports = end.reports.items; start = end.start }) own.status =
    subst (λ d. IsRaceStatus task.request (record { design = d; reports = end.reports.items; start = end.start }) own.status) same own.is_status in
    let fails : own.status ≡ Fail = one_fail task.request (record { design = p.design; reports = end.reports.items; start = end.start }) own.status reported apart is race in
    let body = own.is_body in
    let job : HasJobLines task.request (record { design = p.design; reports = end.reports.items; start = end.start }) Fail body.0 =
    subst (λ s. HasJobLines task.request (record { design = p.design; reports = end.reports.items; start = end.start }) s body.0) fails
    (subst (λ d. HasJobLines task.request (record { design = d; reports = end.reports.items; start = end.start }) own.status body.0) same body.1) in
    let shows = laws.break task.request (record { design = p.design; reports = end.reports.items; start = end.start }) body.0 reported apart is job in
    traced_more p.design task.request.name b.cell b.run body.0 own.body (unput_lines task.request end.unput.items) lines (done_line task.request.name own.status own.rc) body.2 own.all
    (same_break task.request (record { design = p.design; reports = end.reports.items; start = end.start }) answers shows.0 first body.0 reported are shows.1 b shows.2)

shown_break : Laws → (task : TaskOf) (end : TaskEnd) (p : AskedOf) → task.request.mode ≢ CoverMode → end.early ≡ None → end.text ≡ p.problem.text → IsProblem p → AreReported task.request.mode task.request.span p.design end.reports.items
    → AreLimited end.start task.request.limit end.reports.items → IsRaceStatus task.request (record { design = p.design; reports = end.reports.items; start = end.start }) Fail → IsShown task end p.design
shown_break laws task end p apart early text problem reported limited is =
    let first = laws.exist task.request (record { design = p.design; reports = end.reports.items; start = end.start }) Fail reported limited is in
    let shows = laws.break task.request (record { design = p.design; reports = end.reports.items; start = end.start }) first.0 reported apart is first.1 in
    let b = shows.2 in
    let lt : shows.2.place < length (jobs_in task.request.mode task.request.span p.design) = omega (arith, shows.1.size, slice_get_within shows.0 shows.2.place (Some Sat) shows.2.first.0) in
    let claim = subst (λ o. Claim p.design task.request.span (name_at task.request.mode shows.2.place) shows.2.finding.answer o) shows.2.carries
    (printed_claims task.request.mode task.request.span p.design end.reports.items shows.2.place shows.2.finding reported shows.2.printed) in
    let at = break_claim task.request.mode task.request.span p.design shows.2.place shows.2.finding.answer shows.2.run apart lt claim in
    let own = at.2.3.1 in
    let within = laws.within task.request.span at.0 in
    record {
      run = b.run;
      assertion = b.broken.0;
      cell = b.cell;
      slice = at.0;
      carried = printed_carries task.request.mode end.reports.items b.place at.0 b.finding b.run b.printed at.1 b.carries;
      rows = at.2.0;
      behind = omega (arith, at.2.1, within.0);
      within = omega (arith, at.2.2, within.1);
      shows = record {
        run = own.run;
        assumed = own.assumed;
        last = λ t e. let same : length shows.2.run - 1 ≡ t = omega (arith, e) in subst (λ k. Broken p.design (valuations p.design shows.2.run k) shows.2.broken.0) same b.broken.1.0;
      };
      first = b.broken.1;
      is_cell = b.broken.2;
      printed = λ lines has. lines_show laws task end p shows.0 first.0 lines apart early text problem reported is shows.1 shows.2 has;
    }

-- a cover statement that isn't reached is named
cover_fails : Laws → (task : TaskOf) (end : TaskEnd) (p : AskedOf) → task.request.mode ≡ CoverMode → end.early ≡ None → end.text ≡ p.problem.text → IsProblem p → AreReported task.request.mode task.request.span p.design end.reports.items
    → AreLimited end.start task.request.limit end.reports.items → IsRaceStatus task.request (record { design = p.design; reports = end.reports.items; start = end.start }) Fail → FailClaim CoverMode task end p.design
cover_fails laws task end p is early text problem reported limited race =
    let decides = subst (λ m. Decides m race.0 FailVerdict) is (fail_decides task.request.mode race.0 race.2.events race.2.decided race.2.decides race.2.has_status) in
    let shown = statement_shown laws task end p Fail decides.0 Unsat is early text problem reported limited race (contains_at race.0 (Some Unsat) decides) in (
      decides.0,
      omega (arith, decides.1, race.1.size, cover_length task.request.mode task.request.span p.design p.design is refl),
      record { cell = shown.cell; is_cell = shown.is_cell; none = shown.claim.0; printed = λ lines has. shown.unreached lines has shown.claim.1 },
    )

fails_by : Laws → (task : TaskOf) (end : TaskEnd) (p : AskedOf) (mode : Mode) → task.request.mode ≡ mode → end.early ≡ None → end.text ≡ p.problem.text → IsProblem p → AreReported task.request.mode task.request.span p.design end.reports.items
    → AreLimited end.start task.request.limit end.reports.items → IsRaceStatus task.request (record { design = p.design; reports = end.reports.items; start = end.start }) Fail → FailClaim mode task end p.design
fails_by laws task end p Bmc is early text problem reported limited race = shown_break laws task end p (λ e. let no : Bmc ≡ CoverMode = sym is ∙ e in cc) early text problem reported limited race
fails_by laws task end p Prove is early text problem reported limited race = shown_break laws task end p (λ e. let no : Prove ≡ CoverMode = sym is ∙ e in cc) early text problem reported limited race
fails_by laws task end p ProveInv is early text problem reported limited race = shown_break laws task end p (λ e. let no : ProveInv ≡ CoverMode = sym is ∙ e in cc) early text problem reported limited race
fails_by laws task end p CoverMode is early text problem reported limited race = cover_fails laws task end p is early text problem reported limited race

done_fails : Laws → (may_read : ℕ → Type 0) (number : ℕ) (pool : Option PoolOf) (begun finish : World) (before middle : FilesOf) (task : TaskOf) (end : TaskEnd)
    (done : IsDone may_read task before middle (race_of number pool begun finish end.start) end.text end.reports.items) → end.early ≡ None → (d : DesignOf) → Reads end.text d
    → IsRaceStatus task.request (record { design = d; reports = end.reports.items; start = end.start }) Fail → IsTrueOf before.told task end.text (FailClaim task.request.mode task end)
done_fails laws may_read number pool begun finish before middle task end done early d reads is =
    let p = done.problem in
    let accepted = done.served.0 in
    let same : d ≡ done.problem.design = own_design done.problem end.text d done.served.0.problem done.text_is reads in
    let race : IsRaceStatus task.request (record { design = done.problem.design; reports = end.reports.items; start = end.start }) Fail =
    subst (λ x. IsRaceStatus task.request (record { design = x; reports = end.reports.items; start = end.start }) Fail) same is in (
      rw done.text_is accepted.got,
      (
        p.design,
        rw done.text_is accepted.problem.reads,
        accepted.problem.flat,
        fails_by laws task end p task.request.mode refl early done.text_is accepted.problem (reported may_read before.told middle.told task p (race_of number pool begun finish end.start) task.service end.reports.items accepted done.reports_are)
            (limited_by may_read middle.told task p (race_of number pool begun finish end.start) task.service end.reports.items done.reports_are) race,
      ),
    )

early_fails : (request : Request) (early : Early) (c : CameTo) → IsStatus request (Some early) c Fail → ⊥
early_fails request Memory c is = cc
early_fails request (File path) c is = cc
early_fails request (Sby fault) c is = cc
early_fails request (Task fault) c is = cc
early_fails request (Read fault) c is = cc
early_fails request (DesignFault fault) c is = cc
early_fails request (TooMany job) c is = cc
early_fails request Streams c is = cc

fails_truly : Laws → (may_read : ℕ → Type 0) (number : ℕ) (moments : Moments) (task : TaskOf) (end : TaskEnd) (early : Option Early) → end.early ≡ early → (d : DesignOf) → (early ≡ None → Reads end.text d)
    → IsStatus task.request early (record { design = d; reports = end.reports.items; start = end.start }) Fail → IsOutcome may_read task moments (race_of number moments.pool moments.before moments.after end.start) early end.text end.reports.items end.unput.items (WasStopped moments end)
    → IsTrueOf moments.got.told task end.text (FailClaim task.request.mode task end)
fails_truly laws may_read number moments task end (Some early) at d reads is came = absurd (early_fails task.request early _ is)
fails_truly laws may_read number moments task end None at d reads is came = done_fails laws may_read number moments.pool moments.before moments.after moments.got moments.put task end came.0 at d (reads refl) is

pub is_fail_true : Laws → (may_read : ℕ → Type 0) (number : ℕ) (moments : Moments) (task : TaskOf) (end : TaskEnd) → IsAskable task → NamesEvent may_read number moments task end → end.status ≡ Fail
    → IsTrueOf moments.got.told task end.text (FailClaim task.request.mode task end)
is_fail_true laws may_read number moments task end askable named fails = elim named.status [
  | inl own ↦ fails_truly laws may_read number moments task end end.early refl own.0 own.1
      (subst (IsStatus task.request end.early (record { design = own.0; reports = end.reports.items; start = end.start })) fails own.2) named.cause
  | inr memory ↦ let no : Fail ≡ Memory_ = sym fails ∙ memory in cc
]
