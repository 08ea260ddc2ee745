-- What is judged of a lane's child tells whether the job can be solved.
use Rattle.std.proofs.Common.{◌≡◌, ℕ, ◌+◌, List, refl, sym, subst, inl, inr, ◌⊎◌, take}
use Rattle.std.specs.Prelude.{true, IsSomeAnd, Option, Some, None, slice_get}
use Rattle.design_core.specs.Shape.{DesignOf}
use Rattle.design_reader.specs.Grammar.{Reads}
use Rattle.sby_edge.specs.Child.{YardOf, up_to}
use Rattle.sby_edge.specs.Script.{GateOf, ScriptOf}
use Rattle.cert_judge.specs.Fate.{Fate, Found as FoundFate, Unknown as UnknownFate, Bad as BadFate}
use Rattle.cert_judge.specs.Output.{has_values, stream_of}
use Rattle.cert_judge.specs.Kinds.{IsFate as IsCertFate}
use Rattle.cert_judge.specs.OutputFate.{IsOutputFate}
use Rattle.cert_judge.specs.declared.stream.Kind.{Kind}
use Rattle.cert_judge.specs.declared.stream.Kind.TheVariants.{Certificate}
use Rattle.cert_judge.specs.declared.stream.StreamKind.{StreamKind}
use Rattle.cert_judge.specs.declared.stream.StreamKind.TheVariants.{Drup}
use Rattle.cert_judge.proofs.OutputFates.{own_same}
use Rattle.judge.proofs.Streams.{found_sat, found_unsat}
use Rattle.judge.specs.Fates.{IsFate, Serves}
use Rattle.judge.specs.Finding.{FindingOf, IsTrueFinding}
use Rattle.judge.specs.Jobs.{Solvable, span_of}
use Rattle.judge.specs.Problem.{AskedOf, IsJobFile, IsProblem}
use Rattle.race_core.specs.declared.end.JobEnd.{JobEnd}
use Rattle.race_core.specs.declared.end.JobEnd.TheVariants.{Found, Unknown, NotServed, Bad, ReadFailed, StartFailed, HoldFailed, Skipped, CalledOff, Stopped, Memory as MemoryEnd}
use Rattle.race_core.specs.declared.event.Judged.{Judged}
use Rattle.race_core.specs.declared.event.Judged.TheVariants as judged
use Rattle.task_race.specs.Fates.{Ends, IsWhole, Proves, Tells, for_law, most_bytes}
use Rattle.task_race.specs.Serving.{IsJudgeable, IsServing, evidence_at}
use Rattle.task_race.specs.declared.evidence.Evidence.{Evidence}
use Rattle.task_race.specs.declared.evidence.Evidence.TheVariants.{Output, ProofFile}
use Rattle.sby_terms.specs.Problem.{ProblemOf}
use Rattle.sby_terms.specs.declared.engine.Engine.{Engine}
use Rattle.sby_terms.specs.declared.names.Answer.{Answer}
use Rattle.sby_terms.specs.declared.names.Answer.TheVariants.{Sat, Unsat}
use Rattle.sby_terms.specs.declared.names.JobName.{JobName}
use Rattle.task_race.specs.Ends.{IsEndOfFate, IsFateOf, IsJudgedAs, IsProofOf, IsStreamOf, script_of}
use Rattle.task_race.specs.Ran.{RacingOf, evidence_in}
use Rattle.sby_top.specs.Complete.{IsPlainEnd}
use Rattle.sby_top.proofs.ApartLemmas.{SaysOf}
use Rattle.sby_top.proofs.StreamLemmas.{certificate_serves}

-- what an answer says of a job
abbrev pub Says : AskedOf → JobName → Answer → Type 0
Says p job a = SaysOf p.design (span_of p.problem) job a

module _ (p : AskedOf) (problem : IsProblem p) (job : JobName) (file : List ℕ) (is_file : IsJobFile p job file) where
  pub stream_says : (kind : Kind) (stream : List ℕ) (most : ℕ) (a : Answer) → IsFate p job kind file stream most (FoundFate a) → Says p job a
  stream_says kind stream most Sat fate = found_sat p problem job kind file stream most is_file fate
  stream_says kind stream most Unsat fate = found_unsat p problem job kind file stream most is_file fate

  output_says : (kind : StreamKind) (output : List ℕ) (most : ℕ) (a : Answer) → Serves (Certificate kind) job → IsOutputFate file output most (Some (FoundFate a)) → Says p job a
  output_says kind output most a serves (x, fate, own) =
      stream_says (Certificate Drup) (stream_of true output) most a
      (certificate_serves kind Drup job serves, subst (λ (y : Fate). IsCertFate Drup file (stream_of true output) most y) (own_same (has_values output) x (FoundFate a) own) fate)

  whole_says : (by : Evidence) (output : List ℕ) (a : Answer) → IsJudgeable by job → IsWhole p job by file output (Some (FoundFate a)) → Says p job a
  whole_says (Output kind) output a judgeable fate = stream_says kind output most_bytes a fate
  whole_says (ProofFile kind) output a judgeable fate = output_says kind output most_bytes a judgeable fate

  ends_say : (by : Evidence) (g : FindingOf) (output : List ℕ) → IsJudgeable by job → Ends p job by output (judged.Found g) → Says p job g.answer
  ends_say by g output judgeable (fate, tells, is) = whole_says by output g.answer judgeable (subst (λ (x : Option Fate). IsWhole p job by file output x) tells.0 (is file is_file))

  proves_say : (by : Evidence) (g : FindingOf) (proof : List ℕ) → Proves p job by proof (judged.Found g) → Says p job g.answer
  proves_say (Output kind) g proof h = absurd h
  proves_say (ProofFile kind) g proof (fate, tells, is) =
      let same : fate ≡ FoundFate g.answer = let e = tells.0 in cc in
      stream_says (Certificate kind) proof most_bytes g.answer (subst (λ (x : Fate). IsFate p job (Certificate kind) file proof most_bytes x) same (is file is_file))

  -- the fate of what a child leaves says what it finds
  pub fate_says : (by : Evidence) (stream proof : List ℕ) (a : Answer) → IsJudgeable by job → IsFateOf p job by file stream proof (FoundFate a) → Says p job a
  fate_says (Output kind) stream proof a judgeable fate = stream_says kind stream most_bytes a fate
  fate_says (ProofFile kind) stream proof a judgeable (inl output) = output_says kind stream most_bytes a judgeable output
  fate_says (ProofFile kind) stream proof a judgeable (inr (none, fate)) = stream_says (Certificate kind) proof most_bytes a fate

-- evidence of a lane that serves a job is judged for it
pub lane_judgeable : (o : Option Engine) (job : JobName) → IsServing o job → IsJudgeable (evidence_at o) job
lane_judgeable None job serving = absurd serving
lane_judgeable (Some e) job serving = serving

-- what is found of what a child leaves is for the job, and is so
pub judged_job : (racing : RacingOf) (told : Option YardOf) (lane : ℕ) (job : JobName) (g : FindingOf) → IsJudgedAs racing told lane job (judged.Found g) → g.job ≡ job
judged_job racing told lane job g (served, (stream, of_script, inl ends)) = (for_law racing.problem job (evidence_in racing lane) stream g (inr (inl ends))).1
judged_job racing told lane job g (served, (stream, of_script, inr (none, (proof, of_proof, proves)))) = (for_law racing.problem job (evidence_in racing lane) proof g (inr (inr proves))).1

pub judged_says : (racing : RacingOf) → IsProblem racing.problem → (told : Option YardOf) (lane : ℕ) (job : JobName) (g : FindingOf) (file : List ℕ) → IsJobFile racing.problem job file
    → IsJudgedAs racing told lane job (judged.Found g) → Says racing.problem job g.answer
judged_says racing problem told lane job g file is_file (served, (stream, of_script, inl ends)) =
    ends_say racing.problem problem job file is_file (evidence_in racing lane) g stream (lane_judgeable (slice_get racing.engines lane) job served.0) ends
judged_says racing problem told lane job g file is_file (served, (stream, of_script, inr (none, (proof, of_proof, proves)))) =
    proves_say racing.problem problem job file is_file (evidence_in racing lane) g proof proves

-- ---- what is judged of a script is its fate

none_told : (p : ProblemOf) (job : JobName) (said : Judged FindingOf) → Tells p job said None → said ≡ judged.More
none_told p job judged.More tells = refl
none_told p job (judged.Found g) tells = let no : ◌≡◌ {A = Option Fate} None (Some (FoundFate g.answer)) = tells.0 in cc
none_told p job judged.Unknown tells = let no : ◌≡◌ {A = Option Fate} None (Some UnknownFate) = tells in cc
none_told p job (judged.Bad number at) tells = let no : ◌≡◌ {A = Option Fate} None (Some (BadFate tells.0 at)) = tells.2 in cc
none_told p job judged.Failed tells = absurd tells
none_told p job judged.Unjudged tells = absurd tells

whole_left : (p : AskedOf) (job : JobName) (by : Evidence) (file stream proof : List ℕ) (fate : Fate) → IsWhole p job by file stream (Some fate) → IsFateOf p job by file stream proof fate
whole_left p job (Output kind) file stream proof fate h = h
whole_left p job (ProofFile kind) file stream proof fate h = inl h

proof_left : (p : AskedOf) (job : JobName) (by : Evidence) (file stream proof : List ℕ) (said : Judged FindingOf) → IsJobFile p job file → Ends p job by stream judged.More → Proves p job by proof said
    → (fate : Fate) × IsFateOf p job by file stream proof fate × Tells p.problem job said (Some fate)
proof_left p job (Output kind) file stream proof said is_file none proves = absurd proves
proof_left p job (ProofFile kind) file stream proof said is_file (o, tells, is) (fate, says, are) =
    (fate, inr (subst (λ (x : Option Fate). IsOutputFate file stream most_bytes x) tells (is file is_file), are file is_file), says)

stream_left : (p : AskedOf) (job : JobName) (by : Evidence) (file stream proof : List ℕ) (said : Judged FindingOf) → (said ≡ judged.More → ⊥) → IsJobFile p job file → Ends p job by stream said
    → (fate : Fate) × IsFateOf p job by file stream proof fate × Tells p.problem job said (Some fate)
stream_left p job by file stream proof said some is_file (None, tells, is) = absurd (some (none_told p.problem job said tells))
stream_left p job by file stream proof said some is_file (Some fate, tells, is) = (fate, whole_left p job by file stream proof fate (is file is_file), tells)

module _ (racing : RacingOf) (told : Option YardOf) (lane : ℕ) (job : JobName) (script : ScriptOf) (file : List ℕ) (script_is : script_of told racing.task lane job ≡ Some script) (no_gate : script.gate ≡ None)
    (is_file : IsJobFile racing.problem job file) where
  -- the fate of what it leaves
  abbrev pub IsLeft : Fate → Type 0
  IsLeft fate = IsFateOf racing.problem job (evidence_in racing lane) file (up_to script.stalls script.bytes) (take (most_bytes + 1) script.proof) fate

  one_stream : (stream : List ℕ) → IsStreamOf (Some script) stream → stream ≡ up_to script.stalls script.bytes
  one_stream stream (inl is) = is
  one_stream stream (inr other) = absurd (subst (λ (gate : Option GateOf). IsSomeAnd gate (λ g. stream ≡ up_to script.stalls g.instead)) no_gate other)

  own_stream : (stream : List ℕ) → IsStreamOf (script_of told racing.task lane job) stream → stream ≡ up_to script.stalls script.bytes
  own_stream stream of_script = one_stream stream (subst (λ (o : Option ScriptOf). IsStreamOf o stream) script_is of_script)

  own_proof : (proof : List ℕ) → IsProofOf (script_of told racing.task lane job) proof → proof ≡ take (most_bytes + 1) script.proof
  own_proof proof of_script = subst (λ (o : Option ScriptOf). IsProofOf o proof) script_is of_script

  said_left : (said : Judged FindingOf) → (said ≡ judged.More → ⊥) → IsJudgedAs racing told lane job said → (fate : Fate) × IsLeft fate × Tells racing.problem.problem job said (Some fate)
  said_left said some (served, (stream, of_script, inl ends)) =
      stream_left racing.problem job (evidence_in racing lane) file (up_to script.stalls script.bytes) (take (most_bytes + 1) script.proof) said some is_file
      (subst (λ (s : List ℕ). Ends racing.problem job (evidence_in racing lane) s said) (own_stream stream of_script) ends)
  said_left said some (served, (stream, of_script, inr (none, (proof, of_proof, proves)))) =
      proof_left racing.problem job (evidence_in racing lane) file (up_to script.stalls script.bytes) (take (most_bytes + 1) script.proof) said is_file
      (subst (λ (s : List ℕ). Ends racing.problem job (evidence_in racing lane) s judged.More) (own_stream stream of_script) none)
      (subst (λ (s : List ℕ). Proves racing.problem job (evidence_in racing lane) s said) (own_proof proof of_proof) proves)

  -- Plain's end is by that fate
  pub plain_fate : (e : JobEnd FindingOf) → IsPlainEnd racing told lane job e → ((e ≡ NotServed) × (IsServing (slice_get racing.engines lane) job → ⊥)) ⊎ (IsServing (slice_get racing.engines lane) job × ((fate : Fate) × IsLeft fate × IsEndOfFate fate e))
  plain_fate (Found f) h =
      let left = said_left (judged.Found f) (λ is. cc) h in
      let told_is = left.2.0 in
      let same : left.0 ≡ FoundFate f.answer = cc in
      inr (h.0.0, (left.0, left.1, same))
  plain_fate Unknown h =
      let left = said_left judged.Unknown (λ is. cc) h in
      let told_is = left.2 in
      let same : left.0 ≡ UnknownFate = cc in
      inr (h.0.0, (left.0, left.1, same))
  plain_fate (Bad number at) h =
      let left = said_left (judged.Bad number at) (λ is. cc) h in
      let told_is = left.2.2 in
      let same : left.0 ≡ BadFate left.2.0 at = cc in
      inr (h.0.0, (left.0, left.1, (left.2.0, left.2.1, same)))
  plain_fate NotServed h = inl (refl, h)
  plain_fate ReadFailed h = absurd h
  plain_fate StartFailed h = absurd h
  plain_fate HoldFailed h = absurd h
  plain_fate (Skipped f) h = absurd h
  plain_fate (CalledOff f) h = absurd h
  plain_fate (Stopped t) h = absurd h
  plain_fate MemoryEnd h = absurd h

-- ---- a true finding answers as what is judged does

-- the laws of the judge
pub record FindingLaws : Type 0 where
  pub sat : (f : FindingOf) (d : DesignOf) → IsTrueFinding f → Reads f.problem.text d → f.answer ≡ Sat → Solvable d f.job (span_of f.problem)
  pub unsat : (f : FindingOf) (d : DesignOf) → IsTrueFinding f → Reads f.problem.text d → f.answer ≡ Unsat → Solvable d f.job (span_of f.problem) → ⊥

module _ (laws : FindingLaws) (p : AskedOf) (job : JobName) (f : FindingOf) (problem : IsProblem p) (is_true : IsTrueFinding f) (same : f.problem ≡ p.problem) (of_job : f.job ≡ job) where
  own_reads : Reads f.problem.text p.design
  own_reads = subst (λ (q : ProblemOf). Reads q.text p.design) (sym same) problem.reads

  as_finding : Solvable p.design job (span_of p.problem) → Solvable p.design f.job (span_of f.problem)
  as_finding s = subst (λ j. Solvable p.design j (span_of f.problem)) (sym of_job) (subst (λ (q : ProblemOf). Solvable p.design job (span_of q)) (sym same) s)

  as_job : Solvable p.design f.job (span_of f.problem) → Solvable p.design job (span_of p.problem)
  as_job s = subst (λ (q : ProblemOf). Solvable p.design job (span_of q)) same (subst (λ j. Solvable p.design j (span_of f.problem)) of_job s)

  agree_by : (a b : Answer) → Says p job a → f.answer ≡ b → b ≡ a
  agree_by Sat Sat says is = refl
  agree_by Unsat Unsat says is = refl
  agree_by Sat Unsat says is = absurd (laws.unsat f p.design is_true own_reads is (as_finding says))
  agree_by Unsat Sat says is = absurd (says (as_job (laws.sat f p.design is_true own_reads is)))

  pub answers_agree : (a : Answer) → Says p job a → f.answer ≡ a
  answers_agree a says = agree_by a f.answer says refl

  says_by : (b : Answer) → f.answer ≡ b → Says p job b
  says_by Sat is = as_job (laws.sat f p.design is_true own_reads is)
  says_by Unsat is = λ s. laws.unsat f p.design is_true own_reads is (as_finding s)

  -- and says so
  pub finding_says : Says p job f.answer
  finding_says = says_by f.answer refl
