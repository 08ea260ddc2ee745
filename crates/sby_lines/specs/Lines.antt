-- The lines of a task.
use Rattle.std.specs.Prelude.{◌≡◌, ℕ, ◌+◌, ◌==◌, if◌then◌else◌, List, [], ◌∷◌, ◌++◌, map, slice_get, string_bytes, Option, Some, None}
use Rattle.judge.specs.Finding.{FindingOf}
use Rattle.cert_judge.specs.declared.stream.CertKind.{CertKind}
use Rattle.cert_judge.specs.Numbers.{kind_of}
use Rattle.race_core.specs.Report.{ReportOf}
use Rattle.race_core.specs.Told.{Decided}
use Rattle.race_core.specs.declared.end.JobEnd.{JobEnd}
use Rattle.race_core.specs.declared.end.JobEnd.TheVariants.{Found, Unknown, NotServed, Bad, ReadFailed, StartFailed, HoldFailed, Skipped, CalledOff, Stopped, Memory as MemoryEnd}
use Rattle.design_meaning.specs.Meaning.{covers}
use Rattle.design_meaning.specs.Runs.{CycleOf}
use Rattle.design_core.specs.Shape.{CellOf, DesignOf}
use Rattle.design_reader.specs.Grammar.{Reads}
use Rattle.sby_terms.specs.Code.{HasCode}
use Rattle.sby_terms.specs.Span.{slices_of}
use Rattle.sby_terms.specs.declared.names.Answer.{Answer}
use Rattle.sby_terms.specs.declared.names.Answer.TheVariants.{Sat, Unsat}
use Rattle.sby_terms.specs.declared.names.JobName.{JobName}
use Rattle.sby_terms.specs.declared.names.Mode.{Mode}
use Rattle.sby_terms.specs.declared.names.Mode.TheVariants.{Bmc, Prove, ProveInv, Cover}
use Rattle.sby_terms.specs.declared.names.Status.{Status}
use Rattle.sby_terms.specs.declared.names.Status.TheVariants as status
use Rattle.sby_terms.specs.declared.names.Verdict.{Verdict}
use Rattle.sby_terms.specs.declared.names.Verdict.TheVariants.{Pass as PassVerdict, Fail as FailVerdict}
use Rattle.sby_lines.specs.Broken.{HasBrokenLines}
use Rattle.sby_lines.specs.Reached.{HasReachLines}
use Rattle.sby_lines.specs.Counts.{counts_of}
use Rattle.sby_lines.specs.Told.{AreAnswers, CameTo, IsFirstSat, IsPrintedFinding, IsRaceStatus, IsStopReading, Request, jobs_for}
use Rattle.sby_terms.specs.Path.{job_text}
use Rattle.sby_lines.specs.Texts.{answer_text, cert_kind_text, cert_text, design_kind_text, design_text, done_text, fault_text, file_text, hold_failed_text, lane_text, line_of, memory_text, not_served_text, not_written_text, read_failed_text, read_kind_text, read_text, sby_kind_text, sby_text, settled_text, skipped_text, start_failed_text, status_text, stopped_text, streams_text, task_kind_text, too_many_text, trace_path, unknown_text}
use Rattle.sby_lines.specs.declared.early.Early.{Early}
use Rattle.sby_lines.specs.declared.early.Early.TheVariants.{File, Sby, Task, Read, Design, TooMany, Streams, Memory as MemoryEarly}

-- what is printed of a certificate's fault of a kind; a number that is no kind's has no line
abbrev pub bad_text : Option CertKind → ℕ → Option (List ℕ)
bad_text None at = None
bad_text (Some kind) at = Some (cert_text (cert_kind_text kind) at)

-- the line of a text, or no line
abbrev pub line_if : List ℕ → Option (List ℕ) → List (List ℕ)
line_if name (Some text) = line_of name text ∷ []
line_if name None = []

-- what is printed of a fault before the lanes of a task with this many slices; out of memory has no line
abbrev pub early_text : ℕ → Early → Option (List ℕ)
early_text slices (File path) = Some (file_text (string_bytes path))
early_text slices (Sby fault) = Some (sby_text fault.line (sby_kind_text fault.kind))
early_text slices (Task fault) = Some (sby_text fault.line (task_kind_text fault.kind))
early_text slices (Read fault) = Some (read_text fault.byte (read_kind_text fault.kind))
early_text slices (Design fault) = Some (fault_text (design_kind_text fault.kind) fault.name)
early_text slices (TooMany job) = Some (too_many_text (job_text slices job))
early_text slices Streams = Some streams_text
early_text slices MemoryEarly = None

-- what is printed of an unsettled job's end; a lane that was stopped or called off has no line
abbrev pub end_text : JobEnd FindingOf → Option (List ℕ)
end_text (Found f) = None
end_text Unknown = Some unknown_text
end_text NotServed = Some not_served_text
end_text (Bad number at) = bad_text (kind_of number) at
end_text ReadFailed = Some read_failed_text
end_text StartFailed = Some start_failed_text
end_text HoldFailed = Some hold_failed_text
end_text (Skipped f) = None
end_text (CalledOff f) = None
end_text (Stopped reading) = None
end_text MemoryEnd = Some memory_text

-- an end that has a line whatever it carries
abbrev pub HasLine : JobEnd FindingOf → Type 0
HasLine Unknown = Unit {0}
HasLine NotServed = Unit {0}
HasLine ReadFailed = Unit {0}
HasLine StartFailed = Unit {0}
HasLine HoldFailed = Unit {0}
HasLine MemoryEnd = Unit {0}
HasLine (Bad number at) = ⊥
HasLine (Found f) = ⊥
HasLine (Skipped f) = ⊥
HasLine (CalledOff f) = ⊥
HasLine (Stopped reading) = ⊥

-- the line of the cycles that are skipped
abbrev pub skipped_lines : Request → List (List ℕ)
skipped_lines request = if request.span.skip == 0 then [] else (line_of request.name (skipped_text request.span.skip) ∷ [])

-- the answers up to the first that is Sat
abbrev pub upto_sat : List (Option Answer) → List (Option Answer)
upto_sat [] = []
upto_sat (None ∷ answers) = None ∷ upto_sat answers
upto_sat (Some Unsat ∷ answers) = Some Unsat ∷ upto_sat answers
upto_sat (Some Sat ∷ answers) = Some Sat ∷ []

-- the answers that have a line: in bmc and prove none after the first that is Sat
abbrev pub told_answers : Mode → List (Option Answer) → List (Option Answer)
told_answers Bmc answers = upto_sat answers
told_answers Prove answers = upto_sat answers
told_answers ProveInv answers = upto_sat answers
told_answers Cover answers = answers

-- the line of a settled job
abbrev pub settled_line : List ℕ → ℕ → JobName → Option Answer → List (List ℕ)
settled_line name slices job (Some answer) = line_of name (settled_text (job_text slices job) (answer_text answer)) ∷ []
settled_line name slices job None = []

-- the lines of the settled jobs, in the order of the jobs, by their answers
abbrev pub settled_lines : List ℕ → ℕ → List JobName → List (Option Answer) → List (List ℕ)
settled_lines name slices (job ∷ jobs) (answer ∷ answers) = settled_line name slices job answer ++ settled_lines name slices jobs answers
settled_lines name slices (job ∷ jobs) [] = []
settled_lines name slices [] answers = []

-- the line of a job's end in a lane; a settled job has none
abbrev pub lane_line : List ℕ → ℕ → ℕ → JobName → Option Answer → Option (List ℕ) → List (List ℕ)
lane_line name slices lane job (Some answer) text = []
lane_line name slices lane job None (Some text) = line_of name (lane_text lane (job_text slices job) text) ∷ []
lane_line name slices lane job None None = []

-- the lines of a lane's unsettled jobs, in the order of the jobs
abbrev pub lane_lines : List ℕ → ℕ → ℕ → List JobName → List (Option Answer) → List (JobEnd FindingOf) → List (List ℕ)
lane_lines name slices lane (job ∷ jobs) (answer ∷ answers) (end ∷ ends) =
    lane_line name slices lane job answer (end_text end) ++ lane_lines name slices lane jobs answers ends
lane_lines name slices lane (job ∷ jobs) (answer ∷ answers) [] = []
lane_lines name slices lane (job ∷ jobs) [] ends = []
lane_lines name slices lane [] answers ends = []

-- those of all lanes, in their order
abbrev pub race_lines : List ℕ → ℕ → List JobName → List (Option Answer) → List (ReportOf FindingOf) → List (List ℕ)
race_lines name slices jobs answers [] = []
race_lines name slices jobs answers (r ∷ reports) = lane_lines name slices r.lane jobs answers r.ends ++ race_lines name slices jobs answers reports

-- the lines of unsettled jobs come where there is no verdict
abbrev pub unless_decided : Option Verdict → List (List ℕ) → List (List ℕ)
unless_decided None lines = lines
unless_decided (Some verdict) lines = []

-- the line of a stop comes where the status is TIMEOUT
abbrev pub HasStopLines : Request → CameTo → List (Option Answer) → Status → List (List ℕ) → Type 0
HasStopLines request c answers status.Timeout lines =
    (reading : ℕ) × (start : ℕ) × (limit : ℕ) × IsStopReading c.reports answers reading × (c.start ≡ Some start) × (request.limit ≡ Some limit)
    × (lines ≡ line_of request.name (stopped_text reading start limit) ∷ [])
HasStopLines request c answers status.Pass lines = lines ≡ []
HasStopLines request c answers status.Fail lines = lines ≡ []
HasStopLines request c answers status.Unknown lines = lines ≡ []
HasStopLines request c answers status.Error lines = lines ≡ []
HasStopLines request c answers status.Memory lines = lines ≡ []

-- FAIL has the lines of the run that the printed finding of the first job with answer Sat carries; PASS has none, nor is there a run
-- without a verdict
abbrev pub HasRunLines : Request → CameTo → List (Option Answer) → Option Verdict → List (List ℕ) → Type 0
HasRunLines request c answers (Some FailVerdict) lines =
    (place : ℕ) × (f : FindingOf) × (run : List CycleOf) × IsFirstSat answers place × IsPrintedFinding request.mode c.reports place f × (f.run ≡ Some run)
    × HasBrokenLines c.design request.name run lines
HasRunLines request c answers (Some PassVerdict) lines = lines ≡ []
HasRunLines request c answers None lines = lines ≡ []

-- the lines of the cover statement at a place; without an answer it has none
abbrev pub HasStatementLines : Request → CameTo → ℕ → Option Answer → List (List ℕ) → Type 0
HasStatementLines request c place (Some answer) lines =
    (f : FindingOf) × (cell : CellOf) × IsPrintedFinding request.mode c.reports place f × (slice_get (covers c.design) place ≡ Some cell)
    × HasReachLines c.design request.name cell f.run lines
HasStatementLines request c place None lines = lines ≡ []

-- the lines of the cover statements from a place on, in their order, by their answers
abbrev pub HasCoverLines : Request → CameTo → ℕ → List (Option Answer) → List (List ℕ) → Type 0
HasCoverLines request c place [] lines = lines ≡ []
HasCoverLines request c place (answer ∷ answers) lines =
    (first : List (List ℕ)) × (rest : List (List ℕ)) × HasStatementLines request c place answer first × HasCoverLines request c (place + 1) answers rest
    × (lines ≡ first ++ rest)

-- in bmc and prove the lines of the run that fails; in cover, with a verdict or not, those of the cover statements
abbrev pub HasVerdictLines : Mode → Request → CameTo → List (Option Answer) → Option Verdict → List (List ℕ) → Type 0
HasVerdictLines Bmc request c answers verdict lines = HasRunLines request c answers verdict lines
HasVerdictLines Prove request c answers verdict lines = HasRunLines request c answers verdict lines
HasVerdictLines ProveInv request c answers verdict lines = HasRunLines request c answers verdict lines
HasVerdictLines Cover request c answers verdict lines = HasCoverLines request c 0 answers lines

-- the line of a design
abbrev pub design_line : List ℕ → DesignOf → List ℕ
design_line name d = line_of name (design_text (counts_of d))

-- The lines of a design and its jobs: those of the design, of the cycles that are skipped, of the settled jobs, of a stop, without a
-- verdict of the unsettled jobs, and of the runs.
pub record HasJobLines (request : Request) (c : CameTo) (status : Status) (lines : List (List ℕ)) : Type 0 where
  pub answers : List (Option Answer)
  pub verdict : Option Verdict
  pub stop : List (List ℕ)
  pub shown : List (List ℕ)
  pub are_answers : AreAnswers request c answers
  pub decided : Decided request.mode answers verdict
  pub stopped : HasStopLines request c answers status stop
  pub runs : HasVerdictLines request.mode request c answers verdict shown
  pub all : lines
      ≡ design_line request.name c.design ∷ (skipped_lines request
      ++ (settled_lines request.name (slices_of request.span) (jobs_for request c.design) (told_answers request.mode answers)
      ++ (stop
      ++ (unless_decided verdict (race_lines request.name (slices_of request.span) (jobs_for request c.design) answers c.reports)
      ++ shown))))

-- the line of a trace file that couldn't be put
abbrev pub unput_line : List ℕ → Mode → ℕ → List ℕ
unput_line name mode number = line_of name (not_written_text (trace_path name mode number))

-- one for each of them
abbrev pub unput_lines : Request → List ℕ → List (List ℕ)
unput_lines request unput = map (unput_line request.name request.mode) unput

-- the last line
abbrev pub done_line : List ℕ → Status → ℕ → List ℕ
done_line name status rc = line_of name (done_text (status_text status) rc)

-- the status of a task: MEMORY or ERROR where a fault came before its lanes, else by what its lanes report
abbrev pub IsStatus : Request → Option Early → CameTo → Status → Type 0
IsStatus request (Some MemoryEarly) c s = s ≡ status.Memory
IsStatus request (Some (File path)) c s = s ≡ status.Error
IsStatus request (Some (Sby fault)) c s = s ≡ status.Error
IsStatus request (Some (Task fault)) c s = s ≡ status.Error
IsStatus request (Some (Read fault)) c s = s ≡ status.Error
IsStatus request (Some (Design fault)) c s = s ≡ status.Error
IsStatus request (Some (TooMany job)) c s = s ≡ status.Error
IsStatus request (Some Streams) c s = s ≡ status.Error
IsStatus request None c s = IsRaceStatus request c s

-- the lines before the last: that of a fault before the lanes; or those of the design and its jobs, and of the files not written
abbrev pub HasBody : Request → Option Early → CameTo → Status → List ℕ → List (List ℕ) → Type 0
HasBody request (Some early) c status unput body = body ≡ line_if request.name (early_text (slices_of request.span) early)
HasBody request None c status unput body = (lines : List (List ℕ)) × HasJobLines request c status lines × (body ≡ lines ++ unput_lines request unput)

-- All lines of a task, by the status that its reports give, also where MEMORY stands in place of it. The design is the one that the
-- text reads.
pub record HasLines (request : Request) (text : List ℕ) (early : Option Early) (reports : List (ReportOf FindingOf)) (start : Option ℕ) (unput : List ℕ) (lines : List (List ℕ)) : Type 0 where
  pub design : DesignOf
  pub status : Status
  pub rc : ℕ
  pub body : List (List ℕ)
  pub reads : early ≡ None → Reads text design
  pub is_status : IsStatus request early (record { design = design; reports = reports; start = start }) status
  pub is_rc : HasCode request.expect status rc
  pub is_body : HasBody request early (record { design = design; reports = reports; start = start }) status unput body
  pub all : lines ≡ body ++ done_line request.name status rc ∷ []
