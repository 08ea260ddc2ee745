-- Why a finding is true.
use Rattle.std.proofs.Common.{◌≡◌, ◌⊎◌, ℕ, suc, ◌-◌, ◌<◌, ◌≤◌, Bool, List, All, length, Some, None, inl, inr, refl, sym, ap, subst, ◌∙◌, arith}
use Rattle.std.specs.Prelude.{Option}
use Rattle.std.proofs.lemmas.List.{length-map}
use Rattle.cnf_form.specs.Cnf.{Assignment, FormulaOf, IsUnsatisfiable, Satisfies}
use Rattle.design_core.specs.Shape.{DesignOf, IsDesign, wire_bits}
use Rattle.design_meaning.specs.Claims.{NeverBreak, ReachRun, Shows}
use Rattle.design_meaning.specs.Meaning.{Broken, Reached, Run, Valuation}
use Rattle.design_meaning.specs.Runs.{CycleOf, kept_bits, valuations}
use Rattle.design_reader.specs.Grammar.{Reads}
use Rattle.job_terms.specs.Encoding.{EncodedOf, IsDecoded, ShowsGoal, decoded}
use Rattle.job_terms.specs.Jobs.{MayEnd}
use Rattle.model_core.proofs.Runs.{runs_same}
use Rattle.model_core.specs.Choices.{AreChoicesFor, ChoicesOf, Plays}
use Rattle.model_core.specs.Meaning.{Cycle}
use Rattle.model_play.specs.Playing.{cycles_of}
use Rattle.sby_bits.specs.Rows.{Row}
use Rattle.sby_terms.specs.Problem.{ProblemOf}
use Rattle.sby_terms.specs.Span.{first_of, last_of}
use Rattle.sby_terms.specs.declared.names.Answer.TheVariants.{Sat, Unsat}
use Rattle.sby_terms.specs.declared.names.JobName.{JobName}
use Rattle.sby_terms.specs.declared.names.JobName.TheVariants.{Base, Step, Inv, Cover}
use Rattle.sby_terms.specs.declared.names.Mode.{Mode}
use Rattle.sby_terms.specs.declared.span.Span.{Span}
use Rattle.word_model.proofs.Alike.{alike-turned, assumed-alike, broken-alike, follows-alike, frame-alike, reached-alike, starts-alike}
use Rattle.word_model.proofs.Runs.{reach-to, shows-to}
use Rattle.word_model.specs.Layout.{HasConstants, IsAlike, valued}
use Rattle.judge.proofs.Encodes.{encodes}
use Rattle.judge.proofs.Carrying.{constants}
use Rattle.cert_judge.specs.Kinds.{stream_values}
use Rattle.cert_judge.specs.declared.stream.StreamKind.{StreamKind}
use Rattle.judge.proofs.Problems.{one_encoded}
use Rattle.judge.proofs.Cycles.{alike-on, rows-alike, rows-fit, runs-same, valued-alike}
use Rattle.judge.specs.Finding.{Claim, FindingOf, IsTrueFinding}
use Rattle.judge.specs.Jobs.{Solvable, span_of}
use Rattle.judge.specs.Played.{IsPlayed, IsValuesRun}
use Rattle.judge.specs.Problem.{AskedOf, IsEncodedOf, IsFormulaOf, IsProblem}
use Rattle.judge.specs.Rows.{AreRowsOf, cycle_in, cycles_in}

never : (d : DesignOf) (job : JobName) (span : Span) → (Solvable d job span → ⊥) → Claim d span job Unsat None
never d (Base i) span unsolved = (λ m vs a lt le s. unsolved (m, vs, a, lt, le, s), refl)
never d Step span unsolved = (unsolved, refl)
never d Inv span unsolved = (λ n m vs a lt le s. unsolved (m, vs, a, s), refl)
never d (Cover k) span unsolved = (λ m vs le r. unsolved (m, vs, le, r), refl)

abbrev problem : List ℕ → Mode → Span → ProblemOf
problem text mode span = record { text = text; mode = mode; span = span }

same_problem : (p : ProblemOf) (text : List ℕ) (mode : Mode) (span : Span) → text ≡ p.text → mode ≡ p.mode → span ≡ p.span → problem text mode span ≡ p
same_problem p text mode span e f g = rw (e, f, g) refl

abbrev unsat : ProblemOf → JobName → FindingOf
unsat p job = record { problem = p; job = job; answer = Unsat; run = None }

abbrev sat : ProblemOf → JobName → Option (List CycleOf) → FindingOf
sat p job run = record { problem = p; job = job; answer = Sat; run = run }

-- what is claimed of the one design that the text reads
claimed : (p : AskedOf) (f : FindingOf) → IsProblem p → f.problem ≡ p.problem → Claim p.design (span_of p.problem) f.job f.answer f.run → IsTrueFinding f
claimed p f h e c =
    record {
      design = p.design;
      reads = subst (λ (z : ProblemOf). Reads z.text p.design) (sym e) h.reads;
      flat = h.flat;
      claims = λ d r.
          let same = h.only d (subst (λ (z : ProblemOf). Reads z.text d) e r) in
          subst (λ (z : ProblemOf). Claim d (span_of z) f.job f.answer f.run) (sym e) (subst (λ (z : DesignOf). Claim z (span_of p.problem) f.job f.answer f.run) (sym same) c);
    }

-- the finding of a formula that can't be satisfied
pub unsat_found : (p : AskedOf) (job : JobName) (text : List ℕ) (mode : Mode) (span : Span) → IsProblem p → ((f : FormulaOf) × IsFormulaOf p job f × IsUnsatisfiable f.clauses)
    → text ≡ p.problem.text → mode ≡ p.problem.mode → span ≡ p.problem.span → IsTrueFinding (unsat (problem text mode span) job)
unsat_found p job text mode span h w e f g = claimed p (unsat (problem text mode span) job) h (same_problem p.problem text mode span e f g) (never p.design job (span_of p.problem) unsolved)
  where
    unsolved : Solvable p.design job (span_of p.problem) → ⊥
    unsolved s =
        let b = w.1 in
        let x = (encodes p h job b.0 b.1).speaks.1 s in
        w.2 x.0 (subst (λ (z : FormulaOf). Satisfies x.0 z.clauses) (sym b.2) x.1)

-- the finding that no run breaks an assertion
pub never_found : (p : AskedOf) (text : List ℕ) (mode : Mode) (span : Span) → IsProblem p → NeverBreak p.design → text ≡ p.problem.text → mode ≡ p.problem.mode → span ≡ p.problem.span
    → IsTrueFinding (unsat (problem text mode span) Inv)
never_found p text mode span h none e f g = claimed p (unsat (problem text mode span) Inv) h (same_problem p.problem text mode span e f g) (none, refl)

-- and of one for which what is shown bears the claim out
pub sat_found : (p : AskedOf) (job : JobName) (run : Option (List CycleOf)) (text : List ℕ) (mode : Mode) (span : Span) → IsProblem p → Claim p.design (span_of p.problem) job Sat run
    → text ≡ p.problem.text → mode ≡ p.problem.mode → span ≡ p.problem.span → IsTrueFinding (sat (problem text mode span) job run)
sat_found p job run text mode span h c e f g = claimed p (sat (problem text mode span) job run) h (same_problem p.problem text mode span e f g) c

-- Step can be solved where values satisfy its formula
step_shown : (p : AskedOf) (e : EncodedOf) (x : Assignment) → IsProblem p → IsEncodedOf p Step e → Satisfies x e.formula.clauses → Claim p.design (span_of p.problem) Step Sat None
step_shown p e x h is holds = ((encodes p h Step e is).speaks.0 (x, holds), refl)

pub step_claim : (p : AskedOf) (job : JobName) (e : EncodedOf) (x : Assignment) → job ≡ Step → IsProblem p → IsEncodedOf p job e → Satisfies x e.formula.clauses → Claim p.design (span_of p.problem) job Sat None
step_claim p job e x same h is holds =
    subst (λ (j : JobName). Claim p.design (span_of p.problem) j Sat None) (sym same) (step_shown p e x h (subst (λ (j : JobName). IsEncodedOf p j e) same is) holds)

-- the values of Base or Cover tell choices for a run, of one cycle at least
module _ (p : AskedOf) (h : IsProblem p) (job : JobName) (apart : job ≡ Step → ⊥) (e : EncodedOf) (is : IsEncodedOf p job e) (x : Assignment) (c : ChoicesOf) (told : c ≡ decoded e x) where
  pub choices_fit : AreChoicesFor p.model c
  choices_fit = subst (λ (z : ChoicesOf). AreChoicesFor p.model z) (sym told) ((encodes p h job e is).choices apart x)

  module _ (holds : Satisfies x e.formula.clauses) where
    pub some_choices : 0 < length c.inputs
    some_choices =
        let plays = ((encodes p h job e is).decodes apart x holds).plays in
        subst (λ (z : ChoicesOf). 0 < length z.inputs) (sym told) plays.1.run.window.some

    -- the rows that are played for them are a run that is played from the values
    pub run_played : (rows : List Row) (wires free kept : ℕ) → wires ≡ wire_bits p.design → free ≡ p.design.free → kept ≡ kept_bits p.design → All (λ (row : Row). length row ≡ p.model.size) rows
        → Plays p.model c (cycles_of rows) → length rows ≡ length c.inputs → IsPlayed p e x (cycles_in wires free kept rows)
    run_played rows wires free kept w f k fit plays size =
        let d = p.design in
        let all : AreRowsOf (wire_bits d) d.free (kept_bits d) rows = subst (λ (n : ℕ). All (λ (row : Row). length row ≡ n) rows) h.model.size fit in
        let played : IsPlayed p e x (cycles_in (wire_bits d) d.free (kept_bits d) rows) = record {
          satisfies = holds;
          rows = rows-fit d rows all;
          cycles = length-map rows (cycle_in (wire_bits d) d.free (kept_bits d)) ∙ (size ∙ ap (λ (z : ChoicesOf). length z.inputs) told);
          plays = (
            cycles_of rows,
            subst (λ (z : ChoicesOf). Plays p.model z (cycles_of rows)) told plays,
            λ t lt. rows-alike d rows t (omega (arith, lt, length-map rows (cycle_in (wire_bits d) d.free (kept_bits d)))),
          );
        } in
        rw (w, f, k) played

-- what cycles show, cycles that are alike show
module _ (d : DesignOf) (shape : IsDesign d) (n : ℕ) (vs ws : ℕ → Valuation) (same : (t : ℕ) → t < n → IsAlike d (vs t) (ws t)) where
  run-alike : Run d n vs → Run d n ws
  run-alike r = record {
    window = record {
      some = r.window.some;
      frames = λ t lt. frame-alike d shape (vs t) (ws t) (same t lt) (r.window.frames t lt);
      follows = λ t lt. follows-alike d shape (vs t) (ws t) (vs (suc t)) (ws (suc t)) (same t (omega (arith, lt))) (same (suc t) lt) (r.window.follows t lt);
    };
    starts = starts-alike d shape (vs 0) (ws 0) (same 0 r.window.some) r.starts;
  }

  pub shows-alike : (a : ℕ) → Shows d n vs a → Shows d n ws a
  shows-alike a s = record {
    run = run-alike s.run;
    assumed = λ t lt. assumed-alike d shape (vs t) (ws t) (same t lt) (s.assumed t lt);
    last = λ t e. broken-alike d shape (vs t) (ws t) (same t (omega (arith, e))) a (s.last t e);
  }

  pub reach-alike : (k : ℕ) → ReachRun d n vs k → ReachRun d n ws k
  reach-alike k s = record {
    run = run-alike s.run;
    assumed = λ t lt. assumed-alike d shape (vs t) (ws t) (same t lt) (s.assumed t lt);
    last = λ t e. reached-alike d shape (vs t) (ws t) (same t (omega (arith, e))) k (s.last t e);
  }

base-apart : (i : ℕ) → Base i ≡ Step → ⊥
base-apart i e = cc

cover-apart : (k : ℕ) → Cover k ≡ Step → ⊥
cover-apart k e = cc

pub runs-apart : (job : JobName) → ((i : ℕ) × (job ≡ Base i)) ⊎ ((k : ℕ) × (job ≡ Cover k)) → job ≡ Step → ⊥
runs-apart job (inl (i, is)) e = base-apart i (sym is ∙ e)
runs-apart job (inr (k, is)) e = cover-apart k (sym is ∙ e)

-- a run that is played from values of Base or Cover
module _ (p : AskedOf) (h : IsProblem p) (e : EncodedOf) (x : Assignment) (run : List CycleOf) (played : IsPlayed p e x run) where
  abbrev cycles : ℕ → Cycle
  cycles = played.plays.0

  plays : Plays p.model (decoded e x) cycles
  plays = played.plays.1

  alike : (t : ℕ) → t < length run → IsAlike p.design (valued p.design (cycles t)) (valuations p.design run t)
  alike t lt = alike-turned p.design (valuations p.design run t) (valued p.design (cycles t)) (played.plays.2 t lt)

  known : (t : ℕ) → t < length run → HasConstants p.model (cycles t)
  known t lt = constants p.design p.model h.model (cycles t) (plays.run.window.frames t (subst (λ (n : ℕ). t < n) played.cycles lt))

  decoded-as : (job : JobName) → (job ≡ Step → ⊥) → IsEncodedOf p job e → IsDecoded p.model job (span_of p.problem) (decoded e x)
  decoded-as job apart is = (encodes p h job e is).decodes apart x played.satisfies

  goal : (job : JobName) → (job ≡ Step → ⊥) → IsEncodedOf p job e → ShowsGoal p.model job (length run) cycles
  goal job apart is = subst (λ (n : ℕ). ShowsGoal p.model job n cycles) (sym played.cycles) ((decoded-as job apart is).shows cycles plays)

  some : 0 < length run
  some = subst (λ (n : ℕ). 0 < n) (sym played.cycles) plays.run.window.some

  ends : (job : JobName) → (job ≡ Step → ⊥) → IsEncodedOf p job e → (t : ℕ) → suc t ≡ length run → MayEnd job (span_of p.problem) t
  ends job apart is t last = (decoded-as job apart is).ends t (last ∙ played.cycles)

  last-cycle : suc (length run - 1) ≡ length run
  last-cycle = omega (arith, some)

  pub base-shown : (i : ℕ) → IsEncodedOf p (Base i) e → (a : ℕ) × Shows p.design (length run) (valuations p.design run) a
  base-shown i is =
      let s = goal (Base i) (base-apart i) is in (
        s.0,
        shows-alike p.design h.design (length run) (λ t. valued p.design (cycles t)) (valuations p.design run) alike s.0
            (shows-to p.design p.model h.model (length run) cycles s.0 s.1),
      )

  pub base-slice : (i : ℕ) → IsEncodedOf p (Base i) e → (first_of (span_of p.problem) i < length run) × (length run ≤ last_of (span_of p.problem) i)
  base-slice i is =
      let end = ends (Base i) (base-apart i) is (length run - 1) last-cycle in
      (omega (arith, some, end.0), omega (arith, some, end.1))

  pub base-first : (i : ℕ) → IsEncodedOf p (Base i) e → (t a : ℕ) → first_of (span_of p.problem) i ≤ t → suc t < length run → Broken p.design (valuations p.design run t) a → ⊥
  base-first i is t a from lt broken =
      let now : t < length run = omega (arith, lt) in
      let slice = base-slice i is in
      let before : t < last_of (span_of p.problem) i = omega (arith, lt, slice.1) in
      let same = broken-alike p.design h.design (valuations p.design run t) (valued p.design (cycles t)) (played.plays.2 t now) a broken in
      (decoded-as (Base i) (base-apart i) is).before cycles plays t (subst (λ (n : ℕ). suc t < n) played.cycles lt) (from, before)
      (a, (h.model.broken (cycles t) (known t now) a).1 same)

  pub cover-shown : (k : ℕ) → IsEncodedOf p (Cover k) e → ReachRun p.design (length run) (valuations p.design run) k
  cover-shown k is =
      reach-alike p.design h.design (length run) (λ t. valued p.design (cycles t)) (valuations p.design run) alike k
      (reach-to p.design p.model h.model (length run) cycles k (goal (Cover k) (cover-apart k) is))

  pub cover-within : (k : ℕ) → IsEncodedOf p (Cover k) e → length run ≤ (span_of p.problem).depth
  cover-within k is = let end = ends (Cover k) (cover-apart k) is (length run - 1) last-cycle in omega (arith, some, end)

  pub cover-first : (k : ℕ) → IsEncodedOf p (Cover k) e → (t : ℕ) → suc t < length run → Reached p.design (valuations p.design run t) k → ⊥
  cover-first k is t lt reached =
      let now : t < length run = omega (arith, lt) in
      let within = cover-within k is in
      let before : t < (span_of p.problem).depth = omega (arith, lt, within) in
      let same = reached-alike p.design h.design (valuations p.design run t) (valued p.design (cycles t)) (played.plays.2 t now) k reached in
      (decoded-as (Cover k) (cover-apart k) is).before cycles plays t (subst (λ (n : ℕ). suc t < n) played.cycles lt) before
      ((h.model.reached (cycles t) (known t now) k).1 same)

  -- it bears out the claim that the job can be solved
  pub shown_claim : (job : JobName) → (job ≡ Step → ⊥) → IsEncodedOf p job e → Claim p.design (span_of p.problem) job Sat (Some run)
  shown_claim (Base i) apart is = let s = base-slice i is in (played.rows, s.0, s.1, base-shown i is)
  shown_claim Step apart is = absurd (apart refl)
  shown_claim Inv apart is = absurd (is.0.1 refl)
  shown_claim (Cover k) apart is = (played.rows, cover-within k is, cover-shown k is)

-- values stand for one run
pub one_run_played : (p : AskedOf) → IsProblem p → (e : EncodedOf) (x : Assignment) (run other : List CycleOf) → IsPlayed p e x run → IsPlayed p e x other → run ≡ other
one_run_played p h e x run other a b =
    runs-same p.design run other a.rows b.rows (a.cycles ∙ sym b.cycles)
    (λ t lt.
    let cs = a.plays.0 in
    let es = b.plays.0 in
    let now : t < length other = omega (arith, lt, a.cycles, b.cycles) in
    let inside : t < length (decoded e x).inputs = omega (arith, lt, a.cycles) in
    let same = valued-alike p.design p.model h.model.size (cs t) (es t) (runs_same p.model h.is_model (decoded e x) cs es a.plays.1 b.plays.1 t inside) in
    alike-on p.design (valuations p.design run t) (valued p.design (cs t)) (valuations p.design other t) (a.plays.2 t lt)
    (alike-on p.design (valued p.design (cs t)) (valued p.design (es t)) (valuations p.design other t) same
    (alike-turned p.design (valuations p.design other t) (valued p.design (es t)) (b.plays.2 t now))))

-- and so a stream has one run of a job
pub one_stream_run : (p : AskedOf) (job : JobName) (kind : StreamKind) (ended : Bool) (bytes : List ℕ) (most : ℕ) (run other : List CycleOf) → IsProblem p → IsValuesRun p job kind ended bytes most run
    → IsValuesRun p job kind ended bytes most other → run ≡ other
one_stream_run p job kind ended bytes most run other h a b =
    let one : b.0 ≡ a.0 = one_encoded p job b.0 a.0 b.1 a.1 in
    one_run_played p h a.0 (stream_values kind a.0.formula.vars ended bytes most) run other a.2
    (subst (λ (e : EncodedOf). IsPlayed p e (stream_values kind e.formula.vars ended bytes most) other) one b.2)
