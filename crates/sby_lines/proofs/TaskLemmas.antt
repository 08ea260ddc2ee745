-- The lines of a task, part by part.
use Rattle.std.proofs.Common.{◌≡◌, ℕ, ◌+◌, ◌≤◌, List, [], ◌∷◌, ◌++◌, refl, ap, sym, ◌∙◌, subst, inl, inr, ◌⊎◌, length, drop, map, append_assoc, arith}
use Rattle.std.specs.Prelude.{Option, Some, Ok, slice_get}
use Rattle.std.proofs.lemmas.List.{drop_all}
use Rattle.race_core.specs.Collect.{AreCollected}
use Rattle.race_core.specs.Told.{Decided}
use Rattle.sby_terms.specs.Span.{slices_of}
use Rattle.sby_terms.specs.declared.names.Answer.{Answer}
use Rattle.sby_terms.specs.declared.names.Mode.{Mode}
use Rattle.sby_terms.specs.declared.names.Mode.TheVariants.{Bmc, Prove, ProveInv, Cover as CoverMode}
use Rattle.sby_terms.specs.declared.names.Status.{Status}
use Rattle.sby_terms.specs.declared.names.Verdict.{Verdict}
use Rattle.sby_lines.specs.Counts.{counts_of}
use Rattle.sby_lines.specs.Lines.{HasCoverLines, HasJobLines, HasRunLines, HasStopLines, HasVerdictLines, design_line, race_lines, settled_lines, skipped_lines, told_answers, unless_decided}
use Rattle.sby_lines.specs.Telling.{Tells}
use Rattle.sby_lines.specs.Texts.{design_text, line_of}
use Rattle.sby_lines.specs.Told.{AreReported, CameTo, Request, answer_of, job_of, jobs_for}
use Rattle.sby_lines.proofs.PlaceLemmas.{drop_at}
use Rattle.sby_lines.proofs.SatLemmas.{upto_fewer}
use Rattle.sby_lines.proofs.ShownLemmas.{answers_same, one_verdict}
use Rattle.sby_lines.proofs.TellLemmas.{grown-nil}

-- no lines were told
pub tells_none : {d : Option ℕ} (b : Option (List ℕ)) (f : ℕ) (lines : List (List ℕ)) → lines ≡ [] → Tells {T = Unit {0}} b b f f d lines (Ok tt)
tells_none {d} b f lines none = subst (λ ls. Tells {T = Unit {0}} b b f f d ls (Ok tt)) (sym none) (record {
  later = omega arith;
  whole = sym (grown-nil b);
  still = refl;
  still_memory = λ e. let no : ⊥ = cc in absurd no;
  memory = λ e. let no : ⊥ = cc in absurd no;
  fault = λ e. let no : ⊥ = cc in absurd no;
  last = λ e. let no : ⊥ = cc in absurd no;
})

told_least : (mode : Mode) (answers : List (Option Answer)) → length (told_answers mode answers) ≤ length answers
told_least Bmc answers = upto_fewer answers
told_least Prove answers = upto_fewer answers
told_least ProveInv answers = upto_fewer answers
told_least CoverMode answers = omega arith

-- no more answers have a line than there are
pub told_fewer : (mode : Mode) (answers told : List (Option Answer)) → told ≡ told_answers mode answers → length told ≤ length answers
told_fewer mode answers told is = omega (arith, ap length is, told_least mode answers)

-- in bmc and prove the lines of runs are those of the run that fails
pub run_lines : (mode : Mode) (request : Request) (c : CameTo) (answers : List (Option Answer)) (verdict : Option Verdict) (lines : List (List ℕ)) → ((mode ≡ Bmc) ⊎ ((mode ≡ Prove) ⊎ (mode ≡ ProveInv)))
    → HasVerdictLines mode request c answers verdict lines → HasRunLines request c answers verdict lines
run_lines mode request c answers verdict lines (inl is) has = subst (λ m. HasVerdictLines m request c answers verdict lines) is has
run_lines mode request c answers verdict lines (inr (inl is)) has = subst (λ m. HasVerdictLines m request c answers verdict lines) is has
run_lines mode request c answers verdict lines (inr (inr is)) has = subst (λ m. HasVerdictLines m request c answers verdict lines) is has

pub cover_lines : (mode : Mode) (request : Request) (c : CameTo) (answers : List (Option Answer)) (verdict : Option Verdict) (lines : List (List ℕ)) → mode ≡ CoverMode
    → HasVerdictLines mode request c answers verdict lines → HasCoverLines request c 0 answers lines
cover_lines mode request c answers verdict lines is has = subst (λ m. HasVerdictLines m request c answers verdict lines) is has

-- the lines of a task's design and jobs, by its answers and its verdict
pub record JobParts (request : Request) (c : CameTo) (status : Status) (answers : List (Option Answer)) (verdict : Option Verdict) (lines : List (List ℕ)) : Type 0 where
  pub stop : List (List ℕ)
  pub shown : List (List ℕ)
  pub stopped : HasStopLines request c answers status stop
  pub runs : HasVerdictLines request.mode request c answers verdict shown
  pub all : lines
      ≡ (line_of request.name (design_text (counts_of c.design)) ∷ (skipped_lines request
      ++ settled_lines request.name (slices_of request.span) (jobs_for request c.design) (told_answers request.mode answers)))
      ++ (stop ++ (unless_decided verdict (race_lines request.name (slices_of request.span) (jobs_for request c.design) answers c.reports) ++ shown))

pub regrouped : {X : Type 0} (x : X) (a b r : List X) → x ∷ (a ++ (b ++ r)) ≡ (x ∷ (a ++ b)) ++ r
regrouped x a b r = ap (λ xs. x ∷ xs) (sym (append_assoc a b r))

own_parts : (request : Request) (c : CameTo) (status : Status) (lines : List (List ℕ)) (has : HasJobLines request c status lines) → JobParts request c status has.answers has.verdict lines
own_parts request c status lines has = record {
  stop = has.stop;
  shown = has.shown;
  stopped = has.stopped;
  runs = has.runs;
  all = has.all ∙ regrouped _ (skipped_lines request) (settled_lines request.name (slices_of request.span) (jobs_for request c.design) (told_answers request.mode has.answers)) _;
}

pub job_parts : (request : Request) (c : CameTo) (status : Status) (answers : List (Option Answer)) (verdict : Option Verdict) (lines : List (List ℕ)) → AreReported request.mode request.span c.design c.reports
    → AreCollected job_of answer_of request.mode (length (jobs_for request c.design)) c.reports answers → Decided request.mode answers verdict → HasJobLines request c status lines
    → JobParts request c status answers verdict lines
job_parts request c status answers verdict lines are collected decided has =
    let same : has.answers ≡ answers = answers_same request.mode request.span c.design c.reports are (length (jobs_for request c.design)) has.answers answers has.are_answers collected in
    let one : has.verdict ≡ verdict = one_verdict request.mode answers has.verdict verdict (subst (λ xs. Decided request.mode xs has.verdict) same has.decided) decided in
    subst (λ v. JobParts request c status answers v lines) one (subst (λ xs. JobParts request c status xs has.verdict lines) same (own_parts request c status lines has))

later_parts : {X : Type 0} (x : X) (xs front rest : List X) → x ∷ xs ≡ (x ∷ front) ++ rest → xs ≡ front ++ rest
later_parts x xs front rest same = cc

-- the lines after the design's
pub after_design : (request : Request) (c : CameTo) (status : Status) (answers : List (Option Answer)) (verdict : Option Verdict) (lines : List (List ℕ))
    → (p : JobParts request c status answers verdict (design_line request.name c.design ∷ lines))
    → lines ≡ (skipped_lines request ++ settled_lines request.name (slices_of request.span) (jobs_for request c.design) (told_answers request.mode answers))
    ++ (p.stop ++ (unless_decided verdict (race_lines request.name (slices_of request.span) (jobs_for request c.design) answers c.reports) ++ p.shown))
after_design request c status answers verdict lines p = later_parts (design_line request.name c.design) lines
    (skipped_lines request ++ settled_lines request.name (slices_of request.span) (jobs_for request c.design) (told_answers request.mode answers))
    (p.stop ++ (unless_decided verdict (race_lines request.name (slices_of request.span) (jobs_for request c.design) answers c.reports) ++ p.shown)) p.all

-- the lines of runs are the last
pub shown_last : (request : Request) (c : CameTo) (status : Status) (answers : List (Option Answer)) (verdict : Option Verdict) (lines : List (List ℕ)) (p : JobParts request c status answers verdict lines)
    → (front : List (List ℕ)) × (lines ≡ front ++ p.shown)
shown_last request c status answers verdict lines p =
    let head = line_of request.name (design_text (counts_of c.design)) ∷ (skipped_lines request ++ settled_lines request.name (slices_of request.span) (jobs_for request c.design) (told_answers request.mode answers)) in
    let undecided = unless_decided verdict (race_lines request.name (slices_of request.span) (jobs_for request c.design) answers c.reports) in
    (head ++ (p.stop ++ undecided), p.all ∙ ap (λ xs. head ++ xs) (sym (append_assoc p.stop undecided p.shown)) ∙ sym (append_assoc head (p.stop ++ undecided) p.shown))

-- one line for each number
pub mapped_next : {X Y : Type 0} (f : X → Y) (xs : List X) (i : ℕ) (x : X) → slice_get xs i ≡ Some x → map f (drop i xs) ≡ (f x ∷ []) ++ map f (drop (i + 1) xs)
mapped_next f xs i x at = ap (map f) (drop_at xs i x at)

pub mapped_end : {X Y : Type 0} (f : X → Y) (xs : List X) (i : ℕ) → length xs ≤ i → map f (drop i xs) ≡ []
mapped_end f xs i all = ap (map f) (drop_all i xs all)
