-- The lines of a task's design and jobs exist.
use Rattle.std.proofs.Common.{◌≡◌, ℕ, zero, suc, ◌+◌, ◌<◌, List, [], ◌∷◌, ◌++◌, refl, ap, sym, ◌∙◌, subst, inl, inr, length, arith}
use Rattle.std.specs.Prelude.{◌≢◌, Option, Some, None, Contains, slice_get}
use Rattle.std.proofs.lemmas.Option.{slice_get_within}
use Rattle.judge.specs.Finding.{Claim, FindingOf, RunShows}
use Rattle.design_core.specs.Shape.{CellOf, DesignOf}
use Rattle.design_meaning.specs.Meaning.{covers}
use Rattle.design_meaning.specs.Runs.{CycleOf}
use Rattle.race_core.specs.Asking.{name_at}
use Rattle.race_core.specs.Collect.{AreCollected, IsAnswer, IsStatus, SettledIn}
use Rattle.race_core.specs.Consistent.{end_at}
use Rattle.race_core.specs.Report.{ReportOf}
use Rattle.race_core.specs.Told.{Decided, told_by}
use Rattle.race_core.specs.declared.end.JobEnd.{JobEnd}
use Rattle.race_core.specs.declared.end.JobEnd.TheVariants as end
use Rattle.sby_terms.specs.Decide.{Decides}
use Rattle.design_reader.specs.Grammar.{Reads}
use Rattle.sby_terms.specs.Code.{HasCode}
use Rattle.sby_lines.specs.declared.early.Early.{Early}
use Rattle.sby_terms.specs.Span.{first_of, last_of, slices_of}
use Rattle.sby_terms.specs.Status.{HasStatus}
use Rattle.sby_terms.specs.declared.names.Answer.{Answer}
use Rattle.sby_terms.specs.declared.names.Answer.TheVariants.{Sat}
use Rattle.sby_terms.specs.declared.names.Event.{Event}
use Rattle.sby_terms.specs.declared.names.Event.TheVariants as told
use Rattle.sby_terms.specs.declared.names.JobName.TheVariants.{Base}
use Rattle.sby_terms.specs.declared.names.Mode.{Mode}
use Rattle.sby_terms.specs.declared.names.Mode.TheVariants.{Bmc, Prove, ProveInv, Cover as CoverMode}
use Rattle.sby_terms.specs.declared.names.Status.{Status}
use Rattle.sby_terms.specs.declared.names.Status.TheVariants as status
use Rattle.sby_terms.specs.declared.names.Verdict.{Verdict}
use Rattle.sby_terms.specs.declared.names.Verdict.TheVariants.{Pass, Fail}
use Rattle.sby_lines.specs.Lines.{HasCoverLines, HasJobLines, HasLines, HasRunLines, HasStatementLines, HasStopLines, HasVerdictLines, IsStatus as IsTaskStatus, early_text, line_if, unput_lines}
use Rattle.sby_lines.specs.Reached.{HasReachLines, reached_line, unreached_line}
use Rattle.sby_lines.specs.Told.{AreLimited, AreReported, CameTo, came, IsFirstSat, IsPrintedFinding, IsRaceStatus, IsStoppedIn, Request, answer_of, job_of, jobs_for}
use Rattle.sby_lines.proofs.BrokenLemmas.{broken_lines, trace_lines}
use Rattle.sby_lines.proofs.ExistLemmas.{first_below, printed_of, sat_test, stop_of}
use Rattle.sby_lines.proofs.PlaceLemmas.{contains_at, at_contains, cover_length}
use Rattle.sby_lines.proofs.ShownLemmas.{findings_agree, printed_breaks, printed_claims}

stopped_by : (e : JobEnd FindingOf) → told_by e ≡ told.Stopped → (t : ℕ) × (e ≡ end.Stopped t)
stopped_by (end.Stopped t) is = (t, refl)
stopped_by (end.Found f) is = cc
stopped_by (end.Skipped f) is = cc
stopped_by (end.CalledOff f) is = cc
stopped_by end.Unknown is = cc
stopped_by end.NotServed is = cc
stopped_by (end.Bad number at) is = cc
stopped_by end.ReadFailed is = cc
stopped_by end.StartFailed is = cc
stopped_by end.HoldFailed is = cc
stopped_by end.Memory is = cc

reach_lines : (d : DesignOf) (name : List ℕ) (cell : CellOf) (run : Option (List CycleOf)) → (lines : List (List ℕ)) × HasReachLines d name cell run lines
reach_lines d name cell (Some run) = let traced = trace_lines d run in (reached_line name cell run ∷ traced.0, (traced.0, traced.1, refl))
reach_lines d name cell None = (unreached_line name cell ∷ [], refl)

cell_at : (cells : List CellOf) (k : ℕ) → k < length cells → (cell : CellOf) × (slice_get cells k ≡ Some cell)
cell_at [] k lt = absurd (omega (arith, lt))
cell_at (c ∷ cells) zero lt = (c, refl)
cell_at (c ∷ cells) (suc k) lt = cell_at cells k (omega (arith, lt))

module _ (request : Request) (c : CameTo) (are : AreReported request.mode request.span c.design c.reports) (answers : List (Option Answer))
    (collected : AreCollected job_of answer_of request.mode (length (jobs_for request c.design)) c.reports answers) where
  -- ---- findings

  printed_settled : (place : ℕ) (f : FindingOf) → IsPrintedFinding request.mode c.reports place f → SettledIn job_of c.reports (name_at request.mode place) f
  printed_settled place f is = (is.report, is.in_reports, (is.first.end, at_contains is.report.ends is.first.place is.first.end is.first.at, is.first.carried), is.first.of_job)

  -- a settled job has a printed finding, with its answer
  pub settled_finding : (place : ℕ) (answer : Answer) → slice_get answers place ≡ Some (Some answer) → (f : FindingOf) × IsPrintedFinding request.mode c.reports place f × (f.answer ≡ answer)
  settled_finding place answer at =
      let own : IsAnswer answer_of (λ f. SettledIn job_of c.reports (name_at request.mode place) f) (Some answer) = collected.entry place (Some answer) at in
      let s : SettledIn job_of c.reports (name_at request.mode place) own.0 = own.1 in
      let printed = printed_of request.mode c.reports place are.places are.winners s.0 s.1 (own.0, s.2, s.3) in
      let other = printed_settled place printed.0 printed.1 in
      (printed.0, printed.1, findings_agree request.mode request.span c.design c.reports are (name_at request.mode place) printed.0 own.0 other s ∙ own.2)

  -- ---- the stop

  stop_lines : (limited : AreLimited c.start request.limit c.reports) (decided : Option Verdict) (events : List Event) (s : Status)
      → ((e : Event) → Contains events e → (r : ReportOf FindingOf) × (k : ℕ) × Contains c.reports r × (slice_get answers k ≡ Some None) × (told_by (end_at r k) ≡ e))
      → HasStatus decided events s → (lines : List (List ℕ)) × HasStopLines request c answers s lines
  stop_lines limited decided events status.Pass come has = ([], refl)
  stop_lines limited decided events status.Fail come has = ([], refl)
  stop_lines limited decided events status.Unknown come has = ([], refl)
  stop_lines limited decided events status.Error come has = ([], refl)
  stop_lines limited decided events status.Memory come has = ([], refl)
  stop_lines limited (Some v) events status.Timeout come has = absurd has
  stop_lines limited None events status.Timeout come has =
      let k = come told.Stopped has.1 in
      let stop = stopped_by (end_at k.0 k.1) k.4 in
      let stopped : IsStoppedIn answers k.0 k.1 stop.0 = (k.3, stop.1) in
      let reading = stop_of c.reports answers are.places k.0 k.1 stop.0 k.2 stopped in
      let given = limited k.0 k.1 stop.0 k.2 stop.1 in
      (_, (reading.0, given.0.0, given.1.0, reading.1, given.0.1, given.1.1, refl))

  -- ---- the run that fails

  shown_run : (d : DesignOf) (k n : ℕ) (run : Option (List CycleOf)) → RunShows d k n run → (shown : List CycleOf) × (run ≡ Some shown)
  shown_run d k n (Some run) shows = (run, refl)
  shown_run d k n None shows = absurd shows

  base_run : (place i : ℕ) (f : FindingOf) → name_at request.mode place ≡ Base i → IsPrintedFinding request.mode c.reports place f → f.answer ≡ Sat → (run : List CycleOf) × (f.run ≡ Some run)
  base_run place i f named is sat =
      let claim : Claim c.design request.span (name_at request.mode place) f.answer f.run = printed_claims request.mode request.span c.design c.reports place f are is in
      let own : Claim c.design request.span (Base i) Sat f.run = subst (λ a. Claim c.design request.span (Base i) a f.run) sat (subst (λ j. Claim c.design request.span j f.answer f.run) named claim) in
      shown_run c.design (first_of request.span i) (last_of request.span i) f.run own

  fail_lines : (place i : ℕ) → request.mode ≢ CoverMode → IsFirstSat answers place → name_at request.mode place ≡ Base i → (lines : List (List ℕ)) × HasRunLines request c answers (Some Fail) lines
  fail_lines place i apart first named =
      let f = settled_finding place Sat first.0 in
      let run = base_run place i f.0 named f.1 f.2 in
      let lt : place < length (jobs_for request c.design) = omega (arith, slice_get_within answers place (Some Sat) first.0, collected.size) in
      let breaks = printed_breaks request.mode request.span c.design c.reports place f.0 run.0 apart are lt f.1 run.1 in
      let lines = broken_lines c.design request.name run.0 breaks in
      (lines.0, (place, f.0, run.0, first, f.1, run.1, lines.1))

  first_sat : (k : ℕ) → slice_get answers k ≡ Some (Some Sat) → (place : ℕ) × IsFirstSat answers place
  first_sat k at = elim (first_below (λ j. slice_get answers j ≡ Some (Some Sat)) (sat_test answers) (suc k)) [
    | inl first ↦ (first.0, (first.2, first.3))
    | inr none ↦ absurd (none k (omega arith) at)
  ]

  -- where bmc fails, some job has answer Sat
  bmc_fails : Decides Bmc answers Fail → (k : ℕ) × (slice_get answers k ≡ Some (Some Sat))
  bmc_fails fails = (fails.0, contains_at answers (Some Sat) fails)

  -- the first job with answer Sat is a Base
  failing : (mode : Mode) → request.mode ≡ mode → mode ≢ CoverMode → Decides mode answers Fail → (place : ℕ) × (i : ℕ) × IsFirstSat answers place × (name_at request.mode place ≡ Base i)
  failing Bmc is apart fails = let some = bmc_fails fails in let first = first_sat some.0 some.1 in (first.0, first.0, first.1, ap (λ m. name_at m first.0) is)
  failing Prove is apart fails = (0, 0, (fails, λ k lt at. omega (arith, lt)), ap (λ m. name_at m 0) is)
  failing ProveInv is apart fails = (0, 0, (fails, λ k lt at. omega (arith, lt)), ap (λ m. name_at m 0) is)
  failing CoverMode is apart fails = absurd (apart refl)

  run_lines : (mode : Mode) → request.mode ≡ mode → mode ≢ CoverMode → (decided : Option Verdict) → Decided mode answers decided → (lines : List (List ℕ)) × HasRunLines request c answers decided lines
  run_lines mode is apart None decides = ([], refl)
  run_lines mode is apart (Some Pass) decides = ([], refl)
  run_lines mode is apart (Some Fail) decides =
      let at = failing mode is apart decides in fail_lines at.0 at.1 (λ e. apart (sym is ∙ e)) at.2 at.3

  -- ---- cover statements

  statement_lines : (place : ℕ) (answer : Option Answer) → request.mode ≡ CoverMode → slice_get answers place ≡ Some answer → (lines : List (List ℕ)) × HasStatementLines request c place answer lines
  statement_lines place None is at = ([], refl)
  statement_lines place (Some answer) is at =
      let f = settled_finding place answer at in
      let count : length (jobs_for request c.design) ≡ length (covers c.design) = cover_length request.mode request.span c.design c.design is refl in
      let cell = cell_at (covers c.design) place (omega (arith, slice_get_within answers place (Some answer) at, collected.size, count)) in
      let lines = reach_lines c.design request.name cell.0 f.0.run in
      (lines.0, (f.0, cell.0, f.1, cell.1, lines.1))

  cover_from : (k : ℕ) (rest : List (Option Answer)) → request.mode ≡ CoverMode → ((j : ℕ) (o : Option Answer) → slice_get rest j ≡ Some o → slice_get answers (k + j) ≡ Some o)
      → (lines : List (List ℕ)) × HasCoverLines request c k rest lines
  cover_from k [] is same = ([], refl)
  cover_from k (o ∷ rest) is same =
      let here : k + 0 ≡ k = omega arith in
      let first = statement_lines k o is (subst (λ n. slice_get answers n ≡ Some o) here (same 0 o refl)) in
      let others = cover_from (k + 1) rest is (λ j p at. let next : k + suc j ≡ (k + 1) + j = omega arith in subst (λ n. slice_get answers n ≡ Some p) next (same (suc j) p at)) in
      (first.0 ++ others.0, (first.0, others.0, first.1, others.1, refl))

  shown_lines : (mode : Mode) → request.mode ≡ mode → (decided : Option Verdict) → Decided mode answers decided → (lines : List (List ℕ)) × HasVerdictLines mode request c answers decided lines
  shown_lines Bmc is decided decides = run_lines Bmc is (λ e. cc) decided decides
  shown_lines Prove is decided decides = run_lines Prove is (λ e. cc) decided decides
  shown_lines ProveInv is decided decides = run_lines ProveInv is (λ e. cc) decided decides
  shown_lines CoverMode is decided decides = cover_from 0 answers is (λ j o at. let same : j ≡ 0 + j = omega arith in subst (λ n. slice_get answers n ≡ Some o) same at)

  pub job_lines : AreLimited c.start request.limit c.reports → (s : Status) → IsStatus job_of request.mode c.reports answers s → (lines : List (List ℕ)) × HasJobLines request c s lines
  job_lines limited s has =
      let stop = stop_lines limited has.decided has.events s has.come has.has_status in
      let shown = shown_lines request.mode refl has.decided has.decides in (
        _,
        record {
          answers = answers;
          verdict = has.decided;
          stop = stop.0;
          shown = shown.0;
          are_answers = collected;
          decided = has.decides;
          stopped = stop.1;
          runs = shown.1;
          all = refl;
        },
      )

pub lines_exist : (request : Request) (c : CameTo) (s : Status) → AreReported request.mode request.span c.design c.reports → AreLimited c.start request.limit c.reports → IsRaceStatus request c s
    → (lines : List (List ℕ)) × HasJobLines request c s lines
lines_exist request c s are limited is = job_lines request c are is.0 is.1 limited s is.2

-- all lines of a task
pub task_lines : (request : Request) (text : List ℕ) (early : Option Early) (design : DesignOf) (reports : List (ReportOf FindingOf)) (start : Option ℕ) (unput : List ℕ) (s : Status) (rc : ℕ)
    → (early ≡ None → Reads text design × AreReported request.mode request.span design reports × AreLimited start request.limit reports) → IsTaskStatus request early (came design reports start) s
    → HasCode request.expect s rc → (lines : List (List ℕ)) × HasLines request text early reports start unput lines
task_lines request text (Some early) design reports start unput s rc plain is coded = (
  _,
  record {
    design = design;
    status = s;
    rc = rc;
    body = line_if request.name (early_text (slices_of request.span) early);
    reads = λ e. cc;
    is_status = is;
    is_rc = coded;
    is_body = refl;
    all = refl;
  },
)
task_lines request text None design reports start unput s rc plain is coded =
    let p = plain refl in
    let lines = lines_exist request (came design reports start) s p.1 p.2 is in (
      _,
      record {
        design = design;
        status = s;
        rc = rc;
        body = lines.0 ++ unput_lines request unput;
        reads = λ e. p.0;
        is_status = is;
        is_rc = coded;
        is_body = (lines.0, lines.1, refl);
        all = refl;
      },
    )
