-- A job of a net in the terms of all jobs: its formula, its free variables, and what tells the choices for a run.
use Rattle.std.specs.Prelude.{◌≡◌, ◌↔◌, ◌≤◌, ◌^◌, ℕ, suc, max, Bool, false, cond, List, [], ◌∷◌, ◌++◌, map, Option, Some, None, ◌&&◌, eqb}
use Rattle.cnf_form.specs.Cnf.{Assignment, LitOf, Satisfies}
use Rattle.gate_graph.specs.Kept.{lit_of}
use Rattle.sby_terms.specs.declared.names.JobName.{JobName}
use Rattle.sby_terms.specs.declared.names.JobName.TheVariants.{Step}
use Rattle.sby_terms.specs.declared.span.Span.{Span}
use Rattle.model_core.specs.Choices.{AreChoicesFor}
use Rattle.model_core.specs.Shape.{ModelOf}
use Rattle.job_terms.specs.Decoding.{DecodingOf, FrameOf}
use Rattle.job_terms.specs.Encoding as job
use Rattle.job_terms.specs.Jobs.{AsksNothing, Solvable}
use Rattle.bit_net.specs.Net.{NetOf, input_var, state_var}
use Rattle.bit_net.specs.Reaching.{numbers}
use Rattle.net_unroll.specs.Encoding.{EncodedOf, formula_of}
use Rattle.net_unroll.specs.declared.asking.Cycles.{Cycles}
use Rattle.net_unroll.specs.declared.encoded.Free.{Free}
use Rattle.net_jobs.specs.Jobs.{cycles_of, job_encoding}

-- the variable of a bit of the net in cycle t, if it has one
abbrev pub var_at : List Free → ℕ → ℕ → Option ℕ
var_at [] t v = None
var_at (f ∷ fs) t v = cond (eqb f.cycle t && eqb f.place v) (Some f.var) (var_at fs t v)

-- of the states that have no start digit, from state k on, the variable in the first cycle
abbrev pub start_vars : List (Option Bool) → ℕ → List Free → List (Option ℕ)
start_vars [] k free = []
start_vars (Some d ∷ digits) k free = start_vars digits (suc k) free
start_vars (None ∷ digits) k free = var_at free 0 (state_var k) ∷ start_vars digits (suc k) free

-- cycle t: the variables of the inputs, and the literal that what solves the job ends here
abbrev pub frame_of : NetOf → List Free → ℕ → LitOf → FrameOf
frame_of n free t goal = record { inputs = map (λ k. var_at free t (input_var n k)) (numbers 0 n.inputs); goal = goal }

-- the first k cycles, none of which ends it
abbrev pub early_frames : NetOf → List Free → ℕ → List FrameOf
early_frames n free k = map (λ t. frame_of n free t (lit_of 1 false)) (numbers 0 k)

-- cycles from t on, one for each goal
abbrev pub goal_frames : NetOf → List Free → ℕ → List LitOf → List FrameOf
goal_frames n free t [] = []
goal_frames n free t (l ∷ ls) = frame_of n free t l ∷ goal_frames n free (suc t) ls

abbrev pub decoding_of : NetOf → Cycles → EncodedOf → DecodingOf
decoding_of n c e = record {
  starts = start_vars (map (λ s. s.start) n.states) 0 e.free;
  frames = early_frames n e.free (max c.first c.end) ++ goal_frames n e.free (max c.first c.end) e.goals;
}

-- the job as it is encoded
abbrev pub encoded_of : NetOf → JobName → Span → job.EncodedOf
encoded_of n name span = record {
  formula = formula_of (job_encoding n name span);
  free_vars = map (λ f. f.var) (job_encoding n name span).free;
  decoding = decoding_of n (cycles_of name span) (job_encoding n name span);
}

-- What is promised of an encoded job of a model: its formula can be satisfied exactly where the job can be solved, and has from 1 to
-- 2 ^ 27 variables; where its free variables are fixed, each of which stands for a bit that the job leaves free, unit propagation comes
-- to a conflict or fixes all others; over no statement the formula is one variable and the empty clause; and, but for Step, each
-- assignment tells choices for a run of the model, and one that satisfies the formula those for a run that shows the job's goal.
pub record IsEncoded (m : ModelOf) (name : JobName) (span : Span) (e : job.EncodedOf) : Type 0 where
  pub speaks : job.CanBeSatisfied e.formula ↔ Solvable m name span
  pub vars : (1 ≤ e.formula.vars) × (e.formula.vars ≤ 2 ^ 27)
  pub propagates : job.Propagates e
  pub origins : job.HasOrigins m name span e
  pub empty : AsksNothing m name → e.formula ≡ job.empty_job
  pub choices : (name ≡ Step → ⊥) → (x : Assignment) → AreChoicesFor m (job.decoded e x)
  pub decodes : (name ≡ Step → ⊥) → (x : Assignment) → Satisfies x e.formula.clauses → job.IsDecoded m name span (job.decoded e x)
