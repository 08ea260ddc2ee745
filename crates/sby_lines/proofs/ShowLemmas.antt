-- What the lines of a task show of runs.
use Rattle.std.proofs.Common.{◌≡◌, ℕ, zero, suc, ◌+◌, List, [], ◌∷◌, ◌++◌, refl, ap, sym, ◌∙◌, subst, length, append_assoc, append-nil, arith}
use Rattle.std.specs.Prelude.{◌≢◌, Option, Some, None, Contains, slice_get}
use Rattle.std.proofs.lemmas.List.Elements.{Contains-append_right}
use Rattle.judge.specs.Finding.{FindingOf}
use Rattle.design_core.specs.Shape.{CellOf}
use Rattle.design_meaning.specs.Runs.{CycleOf}
use Rattle.race_core.specs.Told.{Decided}
use Rattle.sby_terms.specs.Status.{HasStatus}
use Rattle.sby_terms.specs.declared.names.Answer.{Answer}
use Rattle.sby_terms.specs.declared.names.Event.{Event}
use Rattle.sby_terms.specs.declared.names.Mode.{Mode}
use Rattle.sby_terms.specs.declared.names.Mode.TheVariants.{Bmc, Prove, ProveInv, Cover as CoverMode}
use Rattle.sby_terms.specs.declared.names.Status.{Status}
use Rattle.sby_terms.specs.declared.names.Status.TheVariants.{Fail as FailStatus}
use Rattle.sby_terms.specs.declared.names.Verdict.{Verdict}
use Rattle.sby_terms.specs.declared.names.Verdict.TheVariants.{Fail}
use Rattle.sby_lines.specs.Broken.{broken_line}
use Rattle.sby_lines.specs.Reached.{HasReachLines, reached_line, unreached_line}
use Rattle.sby_lines.specs.Lines.{HasCoverLines, HasJobLines, HasRunLines, HasStatementLines, HasVerdictLines}
use Rattle.sby_lines.specs.Shown.{IsTraced, ShowsBreak, ShowsStatement}
use Rattle.sby_lines.specs.Told.{AreAnswers, AreReported, CameTo, IsRaceStatus, Request, jobs_for}
use Rattle.sby_lines.proofs.LinesExist.{settled_finding}
use Rattle.sby_lines.proofs.PlaceLemmas.{at_contains}
use Rattle.sby_lines.proofs.ShownLemmas.{answers_same, one_printed}
use Rattle.sby_lines.proofs.TaskLemmas.{JobParts, job_parts, shown_last}

fail_decided : (decided : Option Verdict) (events : List Event) → HasStatus decided events FailStatus → decided ≡ Some Fail
fail_decided None events has = absurd has
fail_decided (Some v) events has = ap Some has

run_lines_apart : (mode : Mode) (request : Request) (c : CameTo) (answers : List (Option Answer)) (verdict : Option Verdict) (lines : List (List ℕ)) → mode ≢ CoverMode → HasVerdictLines mode request c answers verdict lines
    → HasRunLines request c answers verdict lines
run_lines_apart Bmc request c answers verdict lines apart has = has
run_lines_apart Prove request c answers verdict lines apart has = has
run_lines_apart ProveInv request c answers verdict lines apart has = has
run_lines_apart CoverMode request c answers verdict lines apart has = absurd (apart refl)

-- FAIL of bmc and prove shows its run
pub fail_shows : (request : Request) (c : CameTo) (lines : List (List ℕ)) → AreReported request.mode request.span c.design c.reports → request.mode ≢ CoverMode → IsRaceStatus request c FailStatus
    → HasJobLines request c FailStatus lines → (answers : List (Option Answer)) × AreAnswers request c answers × ShowsBreak request c answers lines
fail_shows request c lines are apart is has =
    let answers = is.0 in let s = is.2 in
    let p : JobParts request c FailStatus answers s.decided lines = job_parts request c FailStatus answers s.decided lines are is.1 s.decides has in
    let runs : HasRunLines request c answers s.decided p.shown = run_lines_apart request.mode request c answers s.decided p.shown apart p.runs in
    let h : HasRunLines request c answers (Some Fail) p.shown = subst (λ v. HasRunLines request c answers v p.shown) (fail_decided s.decided s.events s.has_status) runs in
    let b = h.6 in
    let line = broken_line request.name b.cell h.2 in
    let all = shown_last request c FailStatus answers s.decided lines p in
    let shown : p.shown ≡ line ∷ (b.traced ++ []) = b.all ∙ ap (λ ts. line ∷ ts) (sym (append-nil b.traced)) in (
      answers,
      is.1,
      record {
        place = h.0;
        finding = h.1;
        run = h.2;
        cell = b.cell;
        first = h.3;
        printed = h.4;
        carries = h.5;
        broken = b.is_broken;
        traced = (all.0, b.traced, [], b.is_trace, all.1 ∙ ap (λ xs. all.0 ++ xs) shown);
      },
    )

-- ---- cover statements

-- the lines of one statement among those of all
abbrev pub Among : Request → CameTo → ℕ → Option Answer → List (List ℕ) → Type 0
Among request c place answer lines =
    (front : List (List ℕ)) × (first : List (List ℕ)) × (back : List (List ℕ)) × HasStatementLines request c place answer first × (lines ≡ front ++ (first ++ back))

cover_part : (request : Request) (c : CameTo) (k : ℕ) (rest : List (Option Answer)) (lines : List (List ℕ)) (j : ℕ) (o : Option Answer) → HasCoverLines request c k rest lines → slice_get rest j ≡ Some o
    → Among request c (k + j) o lines
cover_part request c k [] lines j o has at = cc
cover_part request c k (a ∷ rest) lines zero o has at =
    let same : a ≡ o = cc in let here : k ≡ k + 0 = omega arith in
    ([], has.0, has.1, subst (λ n. HasStatementLines request c n o has.0) here (subst (λ x. HasStatementLines request c k x has.0) same has.2), has.4)
cover_part request c k (a ∷ rest) lines (suc j) o has at =
    let next : (k + 1) + j ≡ k + suc j = omega arith in
    let t = cover_part request c (k + 1) rest has.1 j o has.3 at in
    (has.0 ++ t.0, t.1, t.2, subst (λ n. HasStatementLines request c n o t.1) next t.3, has.4 ∙ ap (λ xs. has.0 ++ xs) t.4 ∙ sym (append_assoc has.0 t.0 (t.1 ++ t.2)))

reached_part : (request : Request) (c : CameTo) (cell : CellOf) (run : List CycleOf) (front first back lines : List (List ℕ)) → HasReachLines c.design request.name cell (Some run) first → lines ≡ front ++ (first ++ back)
    → IsTraced c.design (reached_line request.name cell run) run lines
reached_part request c cell run front first back lines has all = (front, has.0, back, has.1, all ∙ ap (λ xs. front ++ (xs ++ back)) has.2)

unreached_part : (request : Request) (c : CameTo) (cell : CellOf) (front first back lines : List (List ℕ)) → HasReachLines c.design request.name cell None first → lines ≡ front ++ (first ++ back)
    → Contains lines (unreached_line request.name cell)
unreached_part request c cell front first back lines has all =
    let line = unreached_line request.name cell in
    subst (λ ls. Contains ls line) (sym (all ∙ ap (λ xs. front ++ (xs ++ back)) has))
    (Contains-append_right front (line ∷ back) line (at_contains (line ∷ back) 0 line refl))

-- each settled cover job shows its statement
pub statement_shows : (request : Request) (c : CameTo) (status : Status) (answers : List (Option Answer)) (lines : List (List ℕ)) (place : ℕ) (answer : Answer) → AreReported request.mode request.span c.design c.reports
    → request.mode ≡ CoverMode → AreAnswers request c answers → HasJobLines request c status lines → slice_get answers place ≡ Some (Some answer) → ShowsStatement request c place answer lines
statement_shows request c status answers lines place answer are is collected has at =
    let same : has.answers ≡ answers = answers_same request.mode request.span c.design c.reports are (length (jobs_for request c.design)) has.answers answers has.are_answers collected in
    let decided : Decided request.mode answers has.verdict = subst (λ xs. Decided request.mode xs has.verdict) same has.decided in
    let p : JobParts request c status answers has.verdict lines = job_parts request c status answers has.verdict lines are collected decided has in
    let runs : HasVerdictLines CoverMode request c answers has.verdict p.shown = subst (λ m. HasVerdictLines m request c answers has.verdict p.shown) is p.runs in
    let part : Among request c (0 + place) (Some answer) p.shown = cover_part request c 0 answers p.shown place (Some answer) runs at in
    let start : 0 + place ≡ place = omega arith in
    let own : HasStatementLines request c place (Some answer) part.1 = subst (λ n. HasStatementLines request c n (Some answer) part.1) start part.3 in
    let f = settled_finding request c are answers collected place answer at in
    let one : f.0 ≡ own.0 = one_printed request.mode c.reports place f.0 own.0 are.places f.1 own.2 in
    let all = shown_last request c status answers has.verdict lines p in
    let total : lines ≡ (all.0 ++ part.0) ++ (part.1 ++ part.2) = all.1 ∙ ap (λ xs. all.0 ++ xs) part.4 ∙ sym (append_assoc all.0 part.0 (part.1 ++ part.2)) in
    record {
      finding = own.0;
      cell = own.1;
      printed = own.2;
      answers = ap (λ (x : FindingOf). x.answer) (sym one) ∙ f.2;
      is_cell = own.3;
      reached = λ run e. reached_part request c own.1 run (all.0 ++ part.0) part.1 part.2 lines (subst (λ o. HasReachLines c.design request.name own.1 o part.1) e own.4) total;
      unreached = λ e. unreached_part request c own.1 (all.0 ++ part.0) part.1 part.2 lines (subst (λ o. HasReachLines c.design request.name own.1 o part.1) e own.4) total;
    }
