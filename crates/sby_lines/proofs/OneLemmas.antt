-- A task's design and jobs have one list of lines.
use Rattle.std.proofs.Common.{◌≡◌, ℕ, suc, ◌+◌, List, [], ◌∷◌, ◌++◌, refl, ap, ap₂, sym, ◌∙◌, subst, append_assoc, arith}
use Rattle.std.specs.Prelude.{All, Option, Some, None, Contains}
use Rattle.std.specs.List.{concat}
use Rattle.std.proofs.lemmas.List.Elements.{All-head, All-tail}
use Rattle.judge.specs.Finding.{FindingOf}
use Rattle.design_core.specs.Shape.{CellOf, DesignOf}
use Rattle.design_meaning.specs.Runs.{CycleOf, shown_of}
use Rattle.design_trace.specs.Trace.{trace}
use Rattle.sby_terms.specs.declared.names.Answer.{Answer}
use Rattle.sby_terms.specs.declared.names.Mode.{Mode}
use Rattle.sby_terms.specs.declared.names.Mode.TheVariants.{Bmc, Prove, ProveInv, Cover}
use Rattle.sby_terms.specs.declared.names.Status.{Status}
use Rattle.sby_terms.specs.declared.names.Status.TheVariants as status
use Rattle.sby_terms.specs.declared.names.Verdict.{Verdict}
use Rattle.sby_terms.specs.declared.names.Verdict.TheVariants.{Pass, Fail}
use Rattle.sby_lines.specs.Broken.{AreLinesOf, HasBrokenLines, IsLine, broken_line}
use Rattle.sby_terms.specs.Span.{slices_of}
use Rattle.sby_lines.specs.Counts.{counts_of}
use Rattle.sby_lines.specs.Lines.{HasCoverLines, HasJobLines, HasRunLines, HasStatementLines, HasStopLines, HasVerdictLines, race_lines, settled_lines, skipped_lines, told_answers, unless_decided}
use Rattle.sby_lines.specs.Reached.{HasReachLines, reached_line}
use Rattle.sby_lines.specs.Texts.{design_text, line_of, stopped_text}
use Rattle.sby_lines.specs.Told.{AreInPlace, AreReported, CameTo, IsPrintedFinding, Request, jobs_for}
use Rattle.sby_lines.proofs.BrokenLemmas.{one_cell}
use Rattle.sby_lines.proofs.ShownLemmas.{first_same, one_printed, one_stop, some_same}
use Rattle.sby_lines.proofs.TaskLemmas.{JobParts, job_parts}

-- ---- the lines of a text are one list

tail_none : (b : ℕ) (text : List ℕ) → (Contains (b ∷ text) 10 → ⊥) → Contains text 10 → ⊥
tail_none b text none c = none (suc c.0, omega (arith, c.1), c.2)

no_feed : (text : List ℕ) → (Contains (10 ∷ text) 10 → ⊥) → ⊥
no_feed text none = none (0, omega arith, refl)

-- texts without a line feed, each with one after it
one_text : (a b r s : List ℕ) → (Contains a 10 → ⊥) → (Contains b 10 → ⊥) → a ++ 10 ∷ r ≡ b ++ 10 ∷ s → (a ≡ b) × (r ≡ s)
one_text [] [] r s na nb e = (refl, cc)
one_text [] (y ∷ b) r s na nb e = let is : y ≡ 10 = cc in absurd (no_feed b (subst (λ z. Contains (z ∷ b) 10 → ⊥) is nb))
one_text (x ∷ a) [] r s na nb e = let is : x ≡ 10 = cc in absurd (no_feed a (subst (λ z. Contains (z ∷ a) 10 → ⊥) is na))
one_text (x ∷ a) (y ∷ b) r s na nb e =
    let head : x ≡ y = cc in let rest : a ++ 10 ∷ r ≡ b ++ 10 ∷ s = cc in
    let t = one_text a b r s (tail_none x a na) (tail_none y b nb) rest in
    (ap₂ (λ z zs. z ∷ zs) head t.0, t.1)

one_line : (x y r s : List ℕ) → IsLine x → IsLine y → x ++ r ≡ y ++ s → (x ≡ y) × (r ≡ s)
one_line x y r s p q e =
    let own : p.0 ++ 10 ∷ r ≡ q.0 ++ 10 ∷ s = sym (ap (λ z. z ++ r) p.1 ∙ append_assoc p.0 (10 ∷ []) r) ∙ e ∙ (ap (λ z. z ++ s) q.1 ∙ append_assoc q.0 (10 ∷ []) s) in
    let t = one_text p.0 q.0 r s p.2 q.2 own in
    (p.1 ∙ ap (λ z. z ++ 10 ∷ []) t.0 ∙ sym q.1, t.1)

some_line : (x r : List ℕ) → IsLine x → x ++ r ≡ [] → ⊥
some_line x r p e = go p.0 (sym (ap (λ z. z ++ r) p.1) ∙ e)
  where
    go : (text : List ℕ) → (text ++ 10 ∷ []) ++ r ≡ [] → ⊥
    go [] h = cc
    go (b ∷ text) h = cc

lines_same : (xs ys : List (List ℕ)) → All IsLine xs → All IsLine ys → concat xs ≡ concat ys → xs ≡ ys
lines_same [] [] p q e = refl
lines_same [] (y ∷ ys) p q e = absurd (some_line y (concat ys) (All-head IsLine y ys q) (sym e))
lines_same (x ∷ xs) [] p q e = absurd (some_line x (concat xs) (All-head IsLine x xs p) e)
lines_same (x ∷ xs) (y ∷ ys) p q e =
    let t = one_line x y (concat xs) (concat ys) (All-head IsLine x xs p) (All-head IsLine y ys q) e in
    ap₂ (λ z zs. z ∷ zs) t.0 (lines_same xs ys (All-tail IsLine x xs p) (All-tail IsLine y ys q) t.1)

pub one_trace : (text : List ℕ) (xs ys : List (List ℕ)) → AreLinesOf text xs → AreLinesOf text ys → xs ≡ ys
one_trace text xs ys p q = lines_same xs ys p.1 q.1 (p.0 ∙ sym q.0)

-- ---- the lines of runs are

one_broken : (d : DesignOf) (name : List ℕ) (run : List CycleOf) (a b : List (List ℕ)) → HasBrokenLines d name run a → HasBrokenLines d name run b → a ≡ b
one_broken d name run a b x y =
    x.all ∙ ap₂ (λ (c : CellOf) (ls : List (List ℕ)). broken_line name c run ∷ ls) (one_cell d run x.cell y.cell x.is_broken y.is_broken) (one_trace (trace d (shown_of run)) x.traced y.traced x.is_trace y.is_trace) ∙ sym y.all

one_reach : (d : DesignOf) (name : List ℕ) (cell : CellOf) (run : Option (List CycleOf)) (a b : List (List ℕ)) → HasReachLines d name cell run a → HasReachLines d name cell run b → a ≡ b
one_reach d name cell (Some run) a b x y = x.2 ∙ ap (λ ls. reached_line name cell run ∷ ls) (one_trace (trace d (shown_of run)) x.0 y.0 x.1 y.1) ∙ sym y.2
one_reach d name cell None a b x y = x ∙ sym y

module _ (request : Request) (c : CameTo) (places : AreInPlace c.reports) (answers : List (Option Answer)) where
  one_stop_line : (s : Status) (a b : List (List ℕ)) → HasStopLines request c answers s a → HasStopLines request c answers s b → a ≡ b
  one_stop_line status.Pass a b x y = x ∙ sym y
  one_stop_line status.Fail a b x y = x ∙ sym y
  one_stop_line status.Unknown a b x y = x ∙ sym y
  one_stop_line status.Error a b x y = x ∙ sym y
  one_stop_line status.Memory a b x y = x ∙ sym y
  one_stop_line status.Timeout a b x y =
      let reading : x.0 ≡ y.0 = one_stop c.reports answers x.0 y.0 places x.3 y.3 in
      let start : x.1 ≡ y.1 = some_same x.1 y.1 (sym x.4 ∙ y.4) in
      let limit : x.2 ≡ y.2 = some_same x.2 y.2 (sym x.5 ∙ y.5) in
      x.6 ∙ ap₂ (λ m n. line_of request.name (stopped_text m n x.2) ∷ []) reading start ∙ ap (λ n. line_of request.name (stopped_text y.0 y.1 n) ∷ []) limit ∙ sym y.6

  one_run : (v : Option Verdict) (a b : List (List ℕ)) → HasRunLines request c answers v a → HasRunLines request c answers v b → a ≡ b
  one_run None a b x y = x ∙ sym y
  one_run (Some Pass) a b x y = x ∙ sym y
  one_run (Some Fail) a b x y =
      let place : x.0 ≡ y.0 = first_same answers x.0 y.0 x.3 y.3 in
      let printed : IsPrintedFinding request.mode c.reports y.0 x.1 = subst (λ n. IsPrintedFinding request.mode c.reports n x.1) place x.4 in
      let finding : x.1 ≡ y.1 = one_printed request.mode c.reports y.0 x.1 y.1 places printed y.4 in
      let run : x.2 ≡ y.2 = some_same x.2 y.2 (sym x.5 ∙ ap (λ (f : FindingOf). f.run) finding ∙ y.5) in
      one_broken c.design request.name y.2 a b (subst (λ r. HasBrokenLines c.design request.name r a) run x.6) y.6

  one_statement : (place : ℕ) (o : Option Answer) (a b : List (List ℕ)) → HasStatementLines request c place o a → HasStatementLines request c place o b → a ≡ b
  one_statement place None a b x y = x ∙ sym y
  one_statement place (Some answer) a b x y =
      let finding : x.0 ≡ y.0 = one_printed request.mode c.reports place x.0 y.0 places x.2 y.2 in
      let cell : x.1 ≡ y.1 = some_same x.1 y.1 (sym x.3 ∙ y.3) in
      let own : HasReachLines c.design request.name y.1 x.0.run a = subst (λ k. HasReachLines c.design request.name k x.0.run a) cell x.4 in
      one_reach c.design request.name y.1 y.0.run a b (subst (λ (f : FindingOf). HasReachLines c.design request.name y.1 f.run a) finding own) y.4

  one_cover : (place : ℕ) (rest : List (Option Answer)) (a b : List (List ℕ)) → HasCoverLines request c place rest a → HasCoverLines request c place rest b → a ≡ b
  one_cover place [] a b x y = x ∙ sym y
  one_cover place (o ∷ rest) a b x y =
      x.4 ∙ ap₂ (λ (s t : List (List ℕ)). s ++ t) (one_statement place o x.0 y.0 x.2 y.2) (one_cover (place + 1) rest x.1 y.1 x.3 y.3) ∙ sym y.4

  one_shown : (mode : Mode) (v : Option Verdict) (a b : List (List ℕ)) → HasVerdictLines mode request c answers v a → HasVerdictLines mode request c answers v b → a ≡ b
  one_shown Bmc v a b x y = one_run v a b x y
  one_shown Prove v a b x y = one_run v a b x y
  one_shown ProveInv v a b x y = one_run v a b x y
  one_shown Cover v a b x y = one_cover 0 answers a b x y

-- a task's design and jobs have one list of lines
pub lines_are_one : (request : Request) (c : CameTo) (s : Status) (a b : List (List ℕ)) → AreReported request.mode request.span c.design c.reports → HasJobLines request c s a → HasJobLines request c s b → a ≡ b
lines_are_one request c s a b are x y =
    let p : JobParts request c s y.answers y.verdict a = job_parts request c s y.answers y.verdict a are y.are_answers y.decided x in
    let q : JobParts request c s y.answers y.verdict b = job_parts request c s y.answers y.verdict b are y.are_answers y.decided y in
    let stop : p.stop ≡ q.stop = one_stop_line request c are.places y.answers s p.stop q.stop p.stopped q.stopped in
    let shown : p.shown ≡ q.shown = one_shown request c are.places y.answers request.mode y.verdict p.shown q.shown p.runs q.runs in
    let head = line_of request.name (design_text (counts_of c.design)) ∷ (skipped_lines request ++ settled_lines request.name (slices_of request.span) (jobs_for request c.design) (told_answers request.mode y.answers)) in
    let undecided = unless_decided y.verdict (race_lines request.name (slices_of request.span) (jobs_for request c.design) y.answers c.reports) in
    p.all ∙ joined p.stop q.stop p.shown q.shown head undecided stop shown ∙ sym q.all
  where
    joined : {X : Type 0} (s t u v : List X) (head undecided : List X) → s ≡ t → u ≡ v → head ++ (s ++ (undecided ++ u)) ≡ head ++ (t ++ (undecided ++ v))
    joined s t u v head undecided e f = ap₂ (λ x y. head ++ (x ++ (undecided ++ y))) e f
