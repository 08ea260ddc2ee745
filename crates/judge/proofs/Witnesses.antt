-- What the run shows that a witness chooses.
use Rattle.std.proofs.Common.{◌≡◌, ◌⊎◌, ◌∙◌, inl, ℕ, suc, ◌-◌, ◌<◌, ◌≤◌, Bool, true, false, ◌&&◌, leb, All, List, Some, None, length, sym, subst, arith, take}
use Rattle.std.proofs.lemmas.List.{length-map}
use Rattle.btor_emit.specs.declared.goal.Goal.TheVariants as goal
use Rattle.btor_witness.specs.Grammar.{WitnessOf}
use Rattle.btor_witness.specs.Shape.{ShapeOf}
use Rattle.btor_witness.specs.Streams.{EndsWith, Holds}
use Rattle.cert_judge.specs.Fate.{Found}
use Rattle.design_core.specs.Shape.{wire_bits}
use Rattle.design_meaning.specs.Claims.{ReachRun as ReachRunOf, Shows as ShowsOf}
use Rattle.design_meaning.specs.Runs.{CycleOf, kept_bits, valuations}
use Rattle.model_core.proofs.Runs.{runs_same}
use Rattle.model_core.specs.Choices.{ChoicesOf, Plays}
use Rattle.model_core.specs.Claims.{ReachRun, Shows}
use Rattle.model_core.specs.Meaning.{Broken, Cycle, Reached, Run}
use Rattle.model_play.specs.Playing.{cycles_of}
use Rattle.sby_bits.specs.Rows.{Row}
use Rattle.sby_terms.specs.Span.{first_of, last_of}
use Rattle.sby_terms.specs.declared.names.Answer.{Answer}
use Rattle.sby_terms.specs.declared.names.Answer.TheVariants.{Sat}
use Rattle.sby_terms.specs.declared.names.JobName.{JobName}
use Rattle.sby_terms.specs.declared.names.JobName.TheVariants.{Base, Step, Inv, Cover}
use Rattle.witness_judge.proofs.Alone.{same_choices}
use Rattle.witness_judge.proofs.Finding.{found_whole, length_choices}
use Rattle.witness_judge.specs.Choosing.{choices_for, shape_of}
use Rattle.witness_judge.specs.Fate.{HasWitness}
use Rattle.witness_judge.specs.Judging.{IsPlayed}
use Rattle.witness_judge.specs.Playing.{AreAssumed, IsReached}
use Rattle.witness_judge.specs.declared.sought.Sought.{Sought}
use Rattle.word_model.proofs.Alike.{alike-turned}
use Rattle.word_model.proofs.Runs.{reach-to, shows-to}
use Rattle.word_model.specs.Layout.{IsAlike, valued}
use Rattle.judge.proofs.Cycles.{alike-on, rows-alike, rows-fit, runs-same, valued-alike}
use Rattle.judge.proofs.Truth.{reach-alike, shows-alike}
use Rattle.judge.specs.Finding.{Claim}
use Rattle.judge.specs.Jobs.{Solvable, span_of}
use Rattle.judge.specs.Problem.{AskedOf, IsProblem}
use Rattle.judge.specs.Rows.{AreRowsOf, cycle_in}
use Rattle.judge.specs.Telling.{design_run}
use Rattle.judge.specs.Witness.{IsChosen, IsShown, IsWitnessRun, sought_in, witness_asked}

-- what is sought for Base and Cover
abbrev pub base_sought : AskedOf → ℕ → Sought
base_sought p i = record { goal = goal.Asserts; first = first_of (span_of p.problem) i; last = last_of (span_of p.problem) i }

abbrev pub cover_sought : AskedOf → ℕ → Sought
cover_sought p k = record { goal = goal.Cover k; first = 0; last = (span_of p.problem).depth }

-- the rows that were played are the run that the witness chooses
pub rows_chosen : (p : AskedOf) → IsProblem p → (s : Sought) (x : WitnessOf) (rows : List Row) → IsPlayed (witness_asked p s) x rows → IsChosen p s x (design_run p.design rows)
rows_chosen p h s x rows played =
    let d = p.design in
    let all : AreRowsOf (wire_bits d) d.free (kept_bits d) rows = subst (λ (n : ℕ). All (λ (row : Row). length row ≡ n) rows) h.model.size played.wide in
    let long = length-map rows (cycle_in (wire_bits d) d.free (kept_bits d)) in
    let n = played.cycles in
    let few = played.few in
    record {
      rows = rows-fit d rows all;
      cycles = long ∙ n;
      within = omega arith;
      model_run = cycles_of rows;
      plays = played.plays;
      alike = λ t lt. rows-alike d rows t (omega (arith, lt, long));
      assumed = subst (λ (k : ℕ). AreAssumed p.model k (cycles_of rows)) (sym long) played.assumed;
      reached = subst (λ (k : ℕ). IsReached p.model s k (cycles_of rows) x.bad) (sym long) played.reached;
    }

module _ (p : AskedOf) (h : IsProblem p) (s : Sought) (x : WitnessOf) (run : List CycleOf) (c : IsChosen p s x run) where
  abbrev cs : ℕ → Cycle
  cs = c.model_run

  alike : (t : ℕ) → t < length run → IsAlike p.design (valued p.design (cs t)) (valuations p.design run t)
  alike t lt = alike-turned p.design (valuations p.design run t) (valued p.design (cs t)) (c.alike t lt)

  pub long : length (choices_for (witness_asked p s) x.frames).inputs ≡ length run
  long = length_choices (witness_asked p s) x.frames ∙ sym c.cycles

  is_run : Run p.model (length run) cs
  is_run = subst (λ (n : ℕ). Run p.model n cs) long c.plays.run

  last : (t : ℕ) → suc t ≡ length run → length run - 1 ≡ t
  last t e = omega arith

  broken_shown : Broken p.model (cs (length run - 1)) x.bad → (a : ℕ) × ShowsOf p.design (length run) (valuations p.design run) a
  broken_shown bad =
      let shows : Shows p.model (length run) cs x.bad = record { run = is_run; assumed = c.assumed; last = λ t e. subst (λ (n : ℕ). Broken p.model (cs n) x.bad) (last t e) bad } in (
        x.bad,
        shows-alike p.design h.design (length run) (λ t. valued p.design (cs t)) (valuations p.design run) alike x.bad
            (shows-to p.design p.model h.model (length run) cs x.bad shows),
      )

  reached_shown : (k : ℕ) → Reached p.model (cs (length run - 1)) k → ReachRunOf p.design (length run) (valuations p.design run) k
  reached_shown k bad =
      let reach : ReachRun p.model (length run) cs k = record { run = is_run; assumed = c.assumed; last = λ t e. subst (λ (n : ℕ). Reached p.model (cs n) k) (last t e) bad } in
      reach-alike p.design h.design (length run) (λ t. valued p.design (cs t)) (valuations p.design run) alike k
      (reach-to p.design p.model h.model (length run) cs k reach)

module _ (p : AskedOf) (h : IsProblem p) (x : WitnessOf) (run : List CycleOf) where
  pub base_chosen : (i : ℕ) → IsChosen p (base_sought p i) x run → (a : ℕ) × ShowsOf p.design (length run) (valuations p.design run) a
  base_chosen i c = broken_shown p h (base_sought p i) x run c c.reached.bad

  pub base_among : (i : ℕ) → IsChosen p (base_sought p i) x run → (first_of (span_of p.problem) i < length run) × (length run ≤ last_of (span_of p.problem) i)
  base_among i c = (c.reached.late, c.within)

  pub cover_chosen : (k : ℕ) → IsChosen p (cover_sought p k) x run → ReachRunOf p.design (length run) (valuations p.design run) k
  cover_chosen k c = reached_shown p h (cover_sought p k) x run c k c.reached.bad.1

  -- it bears out the claim that the job can be solved
  pub chosen_claim : (job : JobName) (s : Sought) → sought_in p job ≡ Some s → IsChosen p s x run → Claim p.design (span_of p.problem) job Sat (Some run)
  chosen_claim (Base i) s e c =
      let same : s ≡ base_sought p i = cc in
      let own : IsChosen p (base_sought p i) x run = subst (λ (z : Sought). IsChosen p z x run) same c in
      (own.rows, own.reached.late, own.within, base_chosen i own)
  chosen_claim Step s e c = absurd (let n : None ≡ Some s = e in cc)
  chosen_claim Inv s e c = absurd (let n : None ≡ Some s = e in cc)
  chosen_claim (Cover k) s e c =
      let same : s ≡ cover_sought p k = cc in
      let own : IsChosen p (cover_sought p k) x run = subst (λ (z : Sought). IsChosen p z x run) same c in
      (own.rows, own.within, cover_chosen k own)

-- what is seen of a whole stream is a witness in it
pub either : (ended : Bool) (shape : ShapeOf) (bytes : List ℕ) (x : WitnessOf) → HasWitness ended shape bytes x → Holds shape bytes x ⊎ EndsWith shape bytes x
either false shape bytes x h = inl h
either true shape bytes x h = h

-- what is in bytes that may go on, is in them where they end
pub holds_whole : (ended : Bool) (shape : ShapeOf) (bytes : List ℕ) (x : WitnessOf) → HasWitness false shape bytes x → HasWitness ended shape bytes x
holds_whole false shape bytes x h = h
holds_whole true shape bytes x h = inl h

-- a stream has one run
module _ (p : AskedOf) (h : IsProblem p) (s : Sought) (ended : Bool) (bytes : List ℕ) (run other : List CycleOf) where
  pub one_chosen : (x y : WitnessOf) → HasWitness ended (shape_of (witness_asked p s)) bytes x → HasWitness ended (shape_of (witness_asked p s)) bytes y → IsChosen p s x run → IsChosen p s y other → run ≡ other
  one_chosen x y hx hy a b =
      let same = same_choices (witness_asked p s) bytes x y (either ended (shape_of (witness_asked p s)) bytes x hx) (either ended (shape_of (witness_asked p s)) bytes y hy) in
      let frames = same.0 in
      let left = a.cycles in
      let right = b.cycles in
      let counted = long p h s x run a in
      let plays : Plays p.model (choices_for (witness_asked p s) x.frames) b.model_run = subst (λ (z : ChoicesOf). Plays p.model z b.model_run) (sym same.1) b.plays in
      runs-same p.design run other a.rows b.rows (omega arith)
      (λ t lt.
      let there : t < length other = omega arith in
      let model_same = valued-alike p.design p.model h.model.size (a.model_run t) (b.model_run t) (runs_same p.model h.is_model (choices_for (witness_asked p s) x.frames) a.model_run b.model_run a.plays plays t (omega arith)) in
      alike-on p.design (valuations p.design run t) (valued p.design (a.model_run t)) (valuations p.design other t) (a.alike t lt)
      (alike-on p.design (valued p.design (a.model_run t)) (valued p.design (b.model_run t)) (valuations p.design other t) model_same
      (alike-turned p.design (valuations p.design other t) (valued p.design (b.model_run t)) (b.alike t there))))

pub one_witness_run : (p : AskedOf) → IsProblem p → (job : JobName) (ended : Bool) (bytes : List ℕ) (most : ℕ) (run other : List CycleOf) → IsWitnessRun p job ended bytes most run → IsWitnessRun p job ended bytes most other → run ≡ other
one_witness_run p h (Base i) ended bytes most run other (x, hx, a) (y, hy, b) = one_chosen p h (base_sought p i) (ended && leb (length bytes) most) (take most bytes) run other x y hx hy a b
one_witness_run p h Step ended bytes most run other a b = absurd a
one_witness_run p h Inv ended bytes most run other a b = absurd a
one_witness_run p h (Cover k) ended bytes most run other (x, hx, a) (y, hy, b) = one_chosen p h (cover_sought p k) (ended && leb (length bytes) most) (take most bytes) run other x y hx hy a b

-- a witness that is found shows that the job can be solved
pub shown_solvable : (p : AskedOf) → IsProblem p → (job : JobName) (stream : List ℕ) (most : ℕ) (answer : Answer) → IsShown p job stream most (Found answer) → (answer ≡ Sat) × Solvable p.design job (span_of p.problem)
shown_solvable p h (Base i) stream most answer is =
    let found = found_whole (witness_asked p (base_sought p i)) stream most answer is in
    let f = found.1 in
    let shows = f.shows in
    (found.0, (f.cycles, (λ t. valued p.design (f.run t)), shows.0, f.late, f.within, shows-to p.design p.model h.model f.cycles f.run shows.0 shows.1))
shown_solvable p h Step stream most answer is = absurd is
shown_solvable p h Inv stream most answer is = absurd is
shown_solvable p h (Cover k) stream most answer is =
    let found = found_whole (witness_asked p (cover_sought p k)) stream most answer is in
    let f = found.1 in
    (found.0, (f.cycles, (λ t. valued p.design (f.run t)), f.within, reach-to p.design p.model h.model f.cycles f.run k f.shows))
