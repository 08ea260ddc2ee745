-- Jobs end by the fates of what their children leave.
use Rattle.std.proofs.Common.{◌≡◌, ◌≢◌, ℕ, ◌+◌, inl, inr, List, take, refl, sym, subst, ◌∙◌}
use Rattle.std.specs.Prelude.{Option, Some, None, IsSomeAnd, slice_get}
use Rattle.sby_edge.specs.Cause.{CountsOf}
use Rattle.sby_edge.specs.Child.{YardOf, up_to}
use Rattle.sby_edge.specs.Script.{GateOf, ScriptOf}
use Rattle.sby_terms.specs.declared.names.JobName.{JobName}
use Rattle.cert_judge.specs.Fate.{Fate, Found, Unknown, Bad}
use Rattle.cert_judge.specs.declared.stream.StreamKind.{StreamKind}
use Rattle.cert_judge.specs.declared.stream.Kind.{Kind}
use Rattle.cert_judge.specs.declared.stream.Kind.TheVariants.{Certificate}
use Rattle.cert_judge.proofs.OutputFates.{output_fate}
use Rattle.cert_judge.specs.OutputFate.{IsOutputFate}
use Rattle.judge.proofs.Streams.{one_whole}
use Rattle.judge.specs.Fates.{IsFate}
use Rattle.judge.specs.Finding.{FindingOf}
use Rattle.judge.specs.Problem.{AskedOf, IsJobFile, IsProblem}
use Rattle.race_core.specs.declared.end.JobEnd.{JobEnd}
use Rattle.race_core.specs.declared.end.JobEnd.TheVariants as end
use Rattle.race_core.specs.declared.event.Judged.{Judged}
use Rattle.race_core.specs.declared.event.Judged.TheVariants as judged
use Rattle.lane_run.specs.Complete.{ComesTo}
use Rattle.task_race.specs.Fates.{Ends, Proves, Tells, most_bytes}
use Rattle.task_race.specs.Serving.{IsServing}
use Rattle.task_race.specs.declared.evidence.Evidence.{Evidence}
use Rattle.task_race.specs.declared.evidence.Evidence.TheVariants.{Output, ProofFile}
use Rattle.task_race.specs.Ends.{HasEndCause, IsEndOfFate, IsFateOf, IsJudgedAs, IsProofOf, IsStreamOf, script_of}
use Rattle.task_race.specs.Ran.{RacingOf, evidence_in}

-- without a gate there is one stream
one_stream : (script : ScriptOf) (stream : List ℕ) → script.gate ≡ None → IsStreamOf (Some script) stream → stream ≡ up_to script.stalls script.bytes
one_stream script stream none (inl is) = is
one_stream script stream none (inr other) = absurd (subst (λ (gate : Option GateOf). IsSomeAnd gate (λ g. stream ≡ up_to script.stalls g.instead)) none other)

-- what says something says it of some fate
none_tells : (p : AskedOf) (job : JobName) (said : Judged FindingOf) (fate : Fate) → said ≢ judged.More → Tells p.problem job said None → Tells p.problem job said (Some fate)
none_tells p job judged.More fate some tells = absurd (some refl)
none_tells p job (judged.Found f) fate some tells = absurd (let none = tells.0 in cc)
none_tells p job judged.Unknown fate some tells = absurd cc
none_tells p job (judged.Bad number at) fate some tells = absurd (let none = tells.2 in cc)
none_tells p job judged.Failed fate some tells = tells
none_tells p job judged.Unjudged fate some tells = tells

none_some : (fate : Fate) → (let o : Option Fate = None in o) ≡ Some fate → ⊥
none_some fate is = cc

-- what is said of what a child left is said of its fate
module _ (p : AskedOf) (h : IsProblem p) (job : JobName) (said : Judged FindingOf) (some : said ≢ judged.More) (file stream proof : List ℕ) (is_file : IsJobFile p job file) (fate : Fate) where
  -- of a stream
  of_stream : (kind : Kind) → IsFate p job kind file stream most_bytes fate
      → ComesTo (Ends p job (Output kind)) (Proves p job (Output kind)) (λ (got : List ℕ). got ≡ proof) stream said → Tells p.problem job said (Some fate)
  of_stream kind is (inl (None, tells, whole)) = absurd (whole file is_file)
  of_stream kind is (inl (Some own, tells, whole)) = subst (λ (x : Fate). Tells p.problem job said (Some x)) (one_whole p h job kind file stream most_bytes own fate (whole file is_file) is) tells
  of_stream kind is (inr (more, (got, same, proves))) = absurd proves

  -- of an output that doesn't leave it to the proof file
  of_output : (kind : StreamKind) → IsOutputFate file stream most_bytes (Some fate)
      → ComesTo (Ends p job (ProofFile kind)) (Proves p job (ProofFile kind)) (λ (got : List ℕ). got ≡ proof) stream said → Tells p.problem job said (Some fate)
  of_output kind is (inl (own, tells, whole)) = subst (λ (o : Option Fate). Tells p.problem job said o) (output_fate file stream most_bytes own (Some fate) (whole file is_file) is) tells
  of_output kind is (inr ((own, none, whole), proved)) = absurd (none_some fate (sym none ∙ output_fate file stream most_bytes own (Some fate) (whole file is_file) is))

  -- of one that does
  of_proof : (kind : StreamKind) → IsOutputFate file stream most_bytes None → IsFate p job (Certificate kind) file proof most_bytes fate
      → ComesTo (Ends p job (ProofFile kind)) (Proves p job (ProofFile kind)) (λ (got : List ℕ). got ≡ proof) stream said → Tells p.problem job said (Some fate)
  of_proof kind none is (inl (own, tells, whole)) =
      none_tells p job said fate some (subst (λ (o : Option Fate). Tells p.problem job said o) (output_fate file stream most_bytes own None (whole file is_file) none) tells)
  of_proof kind none is (inr (more, (got, same, (own, tells, whole)))) =
      subst (λ (x : Fate). Tells p.problem job said (Some x))
      (one_whole p h job (Certificate kind) file proof most_bytes own fate (subst (λ (bytes : List ℕ). IsFate p job (Certificate kind) file bytes most_bytes own) same (whole file is_file)) is) tells

  pub of_fate : (evidence : Evidence) → IsFateOf p job evidence file stream proof fate
      → ComesTo (Ends p job evidence) (Proves p job evidence) (λ (got : List ℕ). got ≡ proof) stream said → Tells p.problem job said (Some fate)
  of_fate (Output kind) is comes = of_stream kind is comes
  of_fate (ProofFile kind) (inl is) comes = of_output kind is comes
  of_fate (ProofFile kind) (inr is) comes = of_proof kind is.0 is.1 comes

module _ (racing : RacingOf) (may_read : ℕ → Type 0) (told : Option YardOf) (counts : CountsOf) (start : Option ℕ) (lane : ℕ) (job : JobName)
    (script : ScriptOf) (file : List ℕ) (fate : Fate) (serving : IsServing (slice_get racing.engines lane) job) (script_is : script_of told racing.task lane job ≡ Some script) (none : script.gate ≡ None)
    (is_file : IsJobFile racing.problem job file)
    (problem : IsProblem racing.problem) (is_fate : IsFateOf racing.problem job (evidence_in racing lane) file (up_to script.stalls script.bytes) (take (most_bytes + 1) script.proof) fate) where
  -- what is said of what the child left is said of its fate
  said_of : (said : Judged FindingOf) → said ≢ judged.More → IsJudgedAs racing told lane job said → Tells racing.problem.problem job said (Some fate)
  said_of said some (served, (stream, of_script, comes)) =
      let same = one_stream script stream none (subst (λ (o : Option ScriptOf). IsStreamOf o stream) script_is of_script) in
      of_fate racing.problem problem job said some file (up_to script.stalls script.bytes) (take (most_bytes + 1) script.proof) is_file fate (evidence_in racing lane) is_fate
      (subst (λ (bytes : List ℕ). ComesTo (Ends racing.problem job (evidence_in racing lane)) (Proves racing.problem job (evidence_in racing lane)) (λ (got : List ℕ). got ≡ take (most_bytes + 1) script.proof) bytes said) same
      (subst (λ (o : Option ScriptOf). ComesTo (Ends racing.problem job (evidence_in racing lane)) (Proves racing.problem job (evidence_in racing lane)) (IsProofOf o) stream said) script_is comes))

  found_some : (f : FindingOf) → judged.Found f ≢ judged.More
  found_some f is = cc

  unknown_some : ◌≢◌ {A = Judged FindingOf} judged.Unknown judged.More
  unknown_some is = cc

  bad_some : (number at : ℕ) → ◌≢◌ {A = Judged FindingOf} (judged.Bad number at) judged.More
  bad_some number at is = cc

  pub end_of_fate : (e : JobEnd FindingOf) → HasEndCause racing may_read told counts start lane job e → IsEndOfFate fate e
  end_of_fate (end.Found f) cause = let tells = (said_of (judged.Found f) (found_some f) cause).0 in let same : fate ≡ Found f.answer = cc in same
  end_of_fate end.Unknown cause = let tells = said_of judged.Unknown unknown_some cause in let same : fate ≡ Unknown = cc in same
  end_of_fate (end.Bad number at) cause =
      let tells = said_of (judged.Bad number at) (bad_some number at) cause in
      let told = tells.2 in
      let same : fate ≡ Bad tells.0 at = cc in
      (tells.0, tells.1, same)
  end_of_fate end.NotServed cause = cause serving
  end_of_fate end.ReadFailed cause = tt
  end_of_fate end.StartFailed cause = tt
  end_of_fate end.HoldFailed cause = tt
  end_of_fate (end.Skipped f) cause = tt
  end_of_fate (end.CalledOff f) cause = tt
  end_of_fate (end.Stopped t) cause = tt
  end_of_fate end.Memory cause = tt
