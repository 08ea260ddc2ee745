-- FAIL of bmc and prove shows a run.
use Rattle.std.proofs.Common.{◌≡◌, ◌≢◌, ℕ, zero, suc, ◌<◌, List, [], ◌∷◌, ◌++◌, refl, ap, sym, ◌∙◌, subst, length, append_assoc, arith}
use Rattle.std.specs.Prelude.{Option, Some, None}
use Rattle.design_core.specs.Shape.{CellOf, DesignOf}
use Rattle.design_meaning.specs.Runs.{CycleOf}
use Rattle.judge.specs.Finding.{Claim, FindingOf, RunShows}
use Rattle.judge.specs.Jobs.{jobs_in}
use Rattle.race_core.specs.Asking.{name_at}
use Rattle.race_core.specs.Report.{ReportOf}
use Rattle.race_core.specs.Told.{Decided}
use Rattle.sby_terms.specs.Decide.{Decides}
use Rattle.sby_terms.specs.Span.{first_of, last_of}
use Rattle.sby_terms.specs.Status.{HasStatus}
use Rattle.sby_terms.specs.declared.names.Answer.{Answer}
use Rattle.sby_terms.specs.declared.names.Answer.TheVariants.{Sat, Unsat}
use Rattle.sby_terms.specs.declared.names.Event.{Event}
use Rattle.sby_terms.specs.declared.names.JobName.TheVariants.{Base}
use Rattle.sby_terms.specs.declared.names.Mode.{Mode}
use Rattle.sby_terms.specs.declared.names.Mode.TheVariants.{Bmc, Prove, ProveInv, Cover as CoverMode}
use Rattle.sby_terms.specs.declared.names.Status.{Status}
use Rattle.sby_terms.specs.declared.names.Status.TheVariants.{Pass, Fail, Unknown, Error, Timeout, Memory}
use Rattle.sby_terms.specs.declared.names.Verdict.{Verdict}
use Rattle.sby_terms.specs.declared.names.Verdict.TheVariants.{Pass as PassVerdict, Fail as FailVerdict}
use Rattle.sby_terms.specs.declared.span.Span.{Span}
use Rattle.sby_lines.specs.Broken.{IsBrokenCell, broken_line}
use Rattle.sby_lines.specs.Shown.{IsTraced, ShowsBreak}
use Rattle.sby_lines.specs.Told.{AreAnswers, AreReported, CameTo, IsFirstSat, IsPrintedFinding, IsRaceStatus, Request}
use Rattle.sby_lines.proofs.BrokenLemmas.{one_cell}
use Rattle.sby_lines.proofs.PlaceLemmas.{at_contains}
use Rattle.sby_lines.proofs.ShownLemmas.{answers_same, first_same, one_printed, some_same}
use Rattle.sby_top.specs.Headline.{ArePrintedOf, IsCarried}
use Rattle.sby_top.proofs.StatusLemmas.{fail_decides}

-- ---- the status is the one

both_verdicts : (mode : Mode) (answers : List (Option Answer)) → mode ≢ CoverMode → Decides mode answers PassVerdict → Decides mode answers FailVerdict → ⊥
both_verdicts Bmc answers apart pass fail = let no : ◌≡◌ {A = Option Answer} (Some Unsat) (Some Sat) = sym (pass.1 fail.0 (Some Sat) fail.1) ∙ fail.2 in cc
both_verdicts Prove answers apart pass fail = let no : ◌≡◌ {A = Option (Option Answer)} (Some (Some Unsat)) (Some (Some Sat)) = sym pass.0 ∙ fail in cc
both_verdicts ProveInv answers apart pass fail = pass.0 fail
both_verdicts CoverMode answers apart pass fail = apart refl

pub fail_status : (events : List Event) (s : Status) → HasStatus (Some FailVerdict) events s → s ≡ Fail
fail_status events Pass h = cc
fail_status events Fail h = refl
fail_status events Unknown h = absurd h
fail_status events Error h = absurd h
fail_status events Timeout h = absurd h
fail_status events Memory h = absurd h

fail_only : (mode : Mode) (answers : List (Option Answer)) (verdict : Option Verdict) (events : List Event) (s : Status) → mode ≢ CoverMode → Decides mode answers FailVerdict → Decided mode answers verdict → HasStatus verdict events s → s ≡ Fail
fail_only mode answers None events s apart fail decided has = absurd (decided FailVerdict fail)
fail_only mode answers (Some PassVerdict) events s apart fail decided has = absurd (both_verdicts mode answers apart decided fail)
fail_only mode answers (Some FailVerdict) events s apart fail decided has = fail_status events s has

-- reports that give FAIL give no other status
pub one_fail : (request : Request) (c : CameTo) (s : Status) → AreReported request.mode request.span c.design c.reports → request.mode ≢ CoverMode → IsRaceStatus request c Fail → IsRaceStatus request c s → s ≡ Fail
one_fail request c s reported apart fail is =
    let same = answers_same request.mode request.span c.design c.reports reported (length (jobs_in request.mode request.span c.design)) fail.0 is.0 fail.1 is.1 in
    let decides = fail_decides request.mode fail.0 fail.2.events fail.2.decided fail.2.decides fail.2.has_status in
    fail_only request.mode is.0 is.2.decided is.2.events s apart (subst (λ xs. Decides request.mode xs FailVerdict) same decides) is.2.decides is.2.has_status

-- ---- the run

break_by : (d : DesignOf) (span : Span) (i : ℕ) (a : Answer) (run : List CycleOf) → Claim d span (Base i) a (Some run) → RunShows d (first_of span i) (last_of span i) (Some run)
break_by d span i Sat run c = c
break_by d span i Unsat run c = let no : Some run ≡ None = c.1 in cc

-- a run that is claimed of a job of bmc or prove is one of a slice
pub break_claim : (mode : Mode) (span : Span) (d : DesignOf) (place : ℕ) (a : Answer) (run : List CycleOf) → mode ≢ CoverMode → place < length (jobs_in mode span d) → Claim d span (name_at mode place) a (Some run)
    → (i : ℕ) × (name_at mode place ≡ Base i) × RunShows d (first_of span i) (last_of span i) (Some run)
break_claim Bmc span d place a run apart lt c = (place, refl, break_by d span place a run c)
break_claim Prove span d zero a run apart lt c = (0, refl, break_by d span 0 a run c)
break_claim Prove span d (suc zero) Sat run apart lt c = let no : Some run ≡ None = c.1 in cc
break_claim Prove span d (suc zero) Unsat run apart lt c = let no : Some run ≡ None = c.1 in cc
break_claim Prove span d (suc (suc place)) a run apart lt c = absurd (omega (arith, lt))
break_claim ProveInv span d zero a run apart lt c = (0, refl, break_by d span 0 a run c)
break_claim ProveInv span d (suc zero) Sat run apart lt c = absurd c
break_claim ProveInv span d (suc zero) Unsat run apart lt c = let no : Some run ≡ None = c.1 in cc
break_claim ProveInv span d (suc (suc place)) a run apart lt c = absurd (omega (arith, lt))
break_claim CoverMode span d place a run apart lt c = absurd (apart refl)

-- a finding that is printed is carried
pub printed_carries : (mode : Mode) (reports : List (ReportOf FindingOf)) (place i : ℕ) (f : FindingOf) (run : List CycleOf) → IsPrintedFinding mode reports place f → name_at mode place ≡ Base i → f.run ≡ Some run → IsCarried reports (Base i) run
printed_carries mode reports place i f run is name carries =
    (f, (is.report, is.in_reports, (is.first.end, at_contains is.report.ends is.first.place is.first.end is.first.at, is.first.carried), is.first.of_job ∙ name), carries)

-- ---- the lines

-- whatever lines show the run that fails, they show this one
pub same_break : (request : Request) (c : CameTo) (answers others : List (Option Answer)) (lines more : List (List ℕ)) → AreReported request.mode request.span c.design c.reports → AreAnswers request c answers → AreAnswers request c others
    → (a : ShowsBreak request c answers lines) → (b : ShowsBreak request c others more) → IsTraced c.design (broken_line request.name a.cell a.run) a.run more
same_break request c answers others lines more reported are other a b =
    let same = answers_same request.mode request.span c.design c.reports reported (length (jobs_in request.mode request.span c.design)) others answers other are in
    let place : b.place ≡ a.place = first_same answers b.place a.place (subst (λ xs. IsFirstSat xs b.place) same b.first) a.first in
    let finding : b.finding ≡ a.finding = one_printed request.mode c.reports a.place b.finding a.finding reported.places (subst (λ k. IsPrintedFinding request.mode c.reports k b.finding) place b.printed) a.printed in
    let run : b.run ≡ a.run = some_same b.run a.run (sym b.carries ∙ ap (λ (f : FindingOf). f.run) finding ∙ a.carries) in
    let cell : b.cell ≡ a.cell = one_cell c.design a.run b.cell a.cell (subst (λ r. IsBrokenCell c.design r b.cell) run b.broken) a.broken in
    subst (λ x. IsTraced c.design (broken_line request.name x a.run) a.run more) cell (subst (λ r. IsTraced c.design (broken_line request.name b.cell r) r more) run b.traced)

-- with lines after them
pub traced_more : (d : DesignOf) (name : List ℕ) (cell : CellOf) (run : List CycleOf) (lines body unput all : List (List ℕ)) (last : List ℕ) → body ≡ lines ++ unput → all ≡ body ++ last ∷ [] → IsTraced d (broken_line name cell run) run lines
    → ArePrintedOf d name cell run all
traced_more d name cell run lines body unput all last is all_is traced =
    let whole : all ≡ lines ++ (unput ++ last ∷ []) = all_is ∙ ap (λ ls. ls ++ last ∷ []) is ∙ append_assoc lines unput (last ∷ []) in
    let moved : lines ++ (unput ++ last ∷ []) ≡ traced.0 ++ broken_line name cell run ∷ (traced.1 ++ (traced.2 ++ (unput ++ last ∷ []))) =
    ap (λ ls. ls ++ (unput ++ last ∷ [])) traced.4 ∙ append_assoc traced.0 (broken_line name cell run ∷ (traced.1 ++ traced.2)) (unput ++ last ∷ [])
    ∙ ap (λ ls. traced.0 ++ broken_line name cell run ∷ ls) (append_assoc traced.1 traced.2 (unput ++ last ∷ [])) in
    (traced.0, traced.1, traced.2 ++ (unput ++ last ∷ []), traced.3, whole ∙ moved)
