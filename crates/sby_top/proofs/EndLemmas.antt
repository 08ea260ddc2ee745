-- How a task's lines were told, and its end.
use Rattle.std.proofs.Common.{◌≡◌, ℕ, ◌<◌, List, [], ◌∷◌, ◌++◌, refl, sym, subst, inl, inr, ◌⊎◌, length, append_assoc, arith}
use Rattle.std.specs.Prelude.{Option, Some, None, Result, Ok, Err, IsOk}
use Rattle.design_reader.specs.Grammar.{Reads}
use Rattle.judge.specs.Finding.{FindingOf}
use Rattle.judge.specs.Problem.{AskedOf}
use Rattle.race_core.specs.Report.{ReportOf}
use Rattle.sby_edge.specs.Cause.{Rose}
use Rattle.sby_top.specs.Causes.{AreTracesPut}
use Rattle.sby_top.specs.Task.{TaskOf}
use Rattle.sby_top.specs.World.{FilesOf}
use Rattle.std.proofs.lemmas.List.{length-append}
use Rattle.design_core.specs.Shape.{DesignOf}
use Rattle.sby_terms.specs.Code.{HasCode}
use Rattle.sby_terms.specs.Span.{slices_of}
use Rattle.sby_terms.specs.declared.names.Status.{Status}
use Rattle.sby_terms.specs.declared.names.Status.TheVariants.{Memory}
use Rattle.sby_lines.specs.Lines.{HasJobLines, HasLines, IsStatus, design_line, done_line, early_text, line_if, race_lines, settled_lines, skipped_lines, told_answers, unless_decided, unput_lines}
use Rattle.sby_lines.specs.Telling.{Tells}
use Rattle.sby_lines.specs.Told.{CameTo, IsRaceStatus, Request, jobs_for}
use Rattle.sby_lines.proofs.TellLemmas.{tells_nothing, tells_stopped, tells_then}
use Rattle.sby_lines.specs.declared.early.Early.{Early}
use Rattle.sby_lines.specs.declared.tell.Stop.{Stop}
use Rattle.sby_lines.specs.declared.tell.Stop.TheVariants.{Memory as MemoryStop, Sink}
use Rattle.sby_top.specs.End.{AreShownPut, IsFaultTold, ended}
use Rattle.sby_top.specs.Headline.{EndIn, Exit, IsPrinted}

-- MEMORY has its number, whatever is expected
memory_code : (expect : List Status) → HasCode expect Memory 32
memory_code expect = record { expected = λ apart among. absurd (apart refl); unexpected = λ none. refl; memory = λ is. refl }

printed_by : {T : Type 0} (name : List ℕ) (before now : Option (List ℕ)) (f g : ℕ) (when : Option ℕ) (are_lines : List (List ℕ) → Type 0) (expect : List Status) (own : Status → Type 0) (lines : List (List ℕ)) (told : Result T Stop)
    (decided : Status) (rc : ℕ) → are_lines lines → EndIn (done_line name decided rc) lines → Tells before now f g when lines told → HasCode expect decided rc → own decided
    → IsPrinted name before now f g when are_lines expect (own (ended told decided rc).0) (ended told decided rc).0 (ended told decided rc).1
printed_by name before now f g when are_lines expect own lines (Ok x) decided rc are last tells code holds = (tells.still, code, (lines, are, inl (holds, tells.whole, last)))
printed_by name before now f g when are_lines expect own lines (Err MemoryStop) decided rc are last tells code holds =
    (tells.still_memory refl, memory_code expect, (lines, are, inr (refl, tells.memory refl)))
printed_by name before now f g when are_lines expect own lines (Err Sink) decided rc are last tells code holds =
    ((tells.fault refl).0, tells.last refl, (lines, are, holds, (tells.fault refl).1))

-- lines were told, and so printed
pub printed_as : {T : Type 0} (name : List ℕ) (before now : Option (List ℕ)) (f g : ℕ) (when : Option ℕ) (are_lines : List (List ℕ) → Type 0) (expect : List Status) (own : Status → Type 0) (lines : List (List ℕ)) (told : Result T Stop)
    (decided : Status) (rc : ℕ) (status : Status) (exit : Exit) → (status, exit) ≡ ended told decided rc → are_lines lines → EndIn (done_line name decided rc) lines → Tells before now f g when lines told → HasCode expect decided rc → own decided
    → IsPrinted name before now f g when are_lines expect (own status) status exit
printed_as name before now f g when are_lines expect own lines told decided rc status exit is are last tells code holds =
    subst (λ (x : Status × Exit). IsPrinted name before now f g when are_lines expect (own x.0) x.0 x.1) (sym is) (printed_by name before now f g when are_lines expect own lines told decided rc are last tells code holds)

status_by : {T : Type 0} (own : Status → Type 0) (told : Result T Stop) (decided : Status) (rc : ℕ) → own decided → own (ended told decided rc).0 ⊎ ((ended told decided rc).0 ≡ Memory)
status_by own (Ok x) decided rc holds = inl holds
status_by own (Err MemoryStop) decided rc holds = inr refl
status_by own (Err Sink) decided rc holds = inl holds

-- the status is the own one, or MEMORY
pub status_as : {T : Type 0} (own : Status → Type 0) (told : Result T Stop) (decided : Status) (rc : ℕ) (status : Status) (exit : Exit) → (status, exit) ≡ ended told decided rc → own decided → own status ⊎ (status ≡ Memory)
status_as own told decided rc status exit is holds = subst (λ (x : Status × Exit). own x.0 ⊎ (x.0 ≡ Memory)) (sym is) (status_by own told decided rc holds)

-- a design, of which nothing is said
pub no_design : DesignOf
no_design = record { name = []; wires = []; cells = []; connects = []; free = 0 }

-- a fault before the lanes was told
pub fault_told : {T : Type 0} (request : Request) (early : Early) (name : List ℕ) (slices : ℕ) (expect : List Status) (before now : Option (List ℕ)) (f g : ℕ) (when : Option ℕ) (told : Result T Stop) (decided : Status) (rc : ℕ)
    (status : Status) (exit : Exit) → request.name ≡ name → slices_of request.span ≡ slices → request.expect ≡ expect → (status, exit) ≡ ended told decided rc
    → Tells before now f g when (line_if name (early_text slices early) ++ done_line name decided rc ∷ []) told → HasCode expect decided rc → ((c : CameTo) → IsStatus request (Some early) c decided)
    → IsFaultTold request early before now f g when status exit
fault_told request early name slices expect before now f g when told decided rc status exit name_is count expect_is is tells code holds =
    let body : List (List ℕ) = line_if request.name (early_text (slices_of request.span) early) in
    let lines : List (List ℕ) = body ++ done_line request.name decided rc ∷ [] in
    let own_code : HasCode request.expect decided rc = subst (λ e. HasCode e decided rc) (sym expect_is) code in
    let are : HasLines request [] (Some early) [] None [] lines = record {
      design = no_design;
      status = decided;
      rc = rc;
      body = body;
      reads = λ none. cc;
      is_status = holds _;
      is_rc = own_code;
      is_body = refl;
      all = refl;
    } in
    let own_tells : Tells before now f g when lines told = subst (λ n. Tells before now f g when (line_if n (early_text (slices_of request.span) early) ++ done_line n decided rc ∷ []) told) (sym name_is)
    (subst (λ k. Tells before now f g when (line_if name (early_text k early) ++ done_line name decided rc ∷ []) told) (sym count) tells) in
    record {
      own = status_as (λ s. (c : CameTo) → IsStatus request (Some early) c s) told decided rc status exit is holds;
      printed = printed_as request.name before now f g when (HasLines request [] (Some early) [] None []) request.expect (λ s. (c : CameTo) → IsStatus request (Some early) c s) lines told decided rc status exit is are (body, refl) own_tells own_code holds;
    }

-- a list that has a last has some
pub some_last : {X : Type 0} (xs : List X) (x : X) → 0 < length (xs ++ x ∷ [])
some_last xs x = let both = length-append xs (x ∷ []) in omega (arith, both)

-- the design's line was told, and then those after it
pub after_head : {T U : Type 0} (first mid now : Option (List ℕ)) (f g h : ℕ) (at when : Option ℕ) (request : Request) (c : CameTo) (status : Status) (lines last : List (List ℕ)) (x : T) (told : Result U Stop)
    → HasJobLines request c status lines → Tells {T = T} first mid f g at (design_line request.name c.design ∷ []) (Ok x)
    → ((rest : List (List ℕ)) → HasJobLines request c status (design_line request.name c.design ∷ rest) → Tells {T = U} mid now g h when (rest ++ last) told)
    → Tells {T = U} first now f h when (lines ++ last) told
after_head {T} {U} first mid now f g h at when request c status lines last x told has head more =
    subst (λ ls. Tells {T = U} first now f h when (ls ++ last) told) (sym has.all)
    (tells_then {T = T} {U = U} first mid now f g h (design_line request.name c.design ∷ []) (after has ++ last) x told head (more (after has) (subst (HasJobLines request c status) has.all has)))
  where
    after : HasJobLines request c status lines → List (List ℕ)
    after has = skipped_lines request
        ++ (settled_lines request.name (slices_of request.span) (jobs_for request c.design) (told_answers request.mode has.answers)
        ++ (has.stop
        ++ (unless_decided has.verdict (race_lines request.name (slices_of request.span) (jobs_for request c.design) has.answers c.reports)
        ++ has.shown)))

-- lines whose first wasn't told, or not whole
pub head_stopped : {T U : Type 0} (first mid : Option (List ℕ)) (f g : ℕ) (at : Option ℕ) (request : Request) (c : CameTo) (status : Status) (lines last : List (List ℕ)) (e : Stop)
    → HasJobLines request c status lines → Tells {T = T} first mid f g at (design_line request.name c.design ∷ []) (Err e) → Tells {T = U} first mid f g at (lines ++ last) (Err e)
head_stopped {T} {U} first mid f g at request c status lines last e has head =
    subst (λ ls. Tells {T = U} first mid f g at (ls ++ last) (Err e)) (sym has.all) (tells_stopped {T = T} {U = U} first mid f g (design_line request.name c.design ∷ []) _ e head)

-- memory ran out once the design's line was told
pub head_alone : {T U : Type 0} (first mid : Option (List ℕ)) (f g : ℕ) (at : Option ℕ) (request : Request) (c : CameTo) (status : Status) (lines unput : List (List ℕ)) (line : List ℕ) (x : T)
    → HasJobLines request c status lines → Tells {T = T} first mid f g at (design_line request.name c.design ∷ []) (Ok x) → Tells {T = U} first mid f g at (lines ++ (unput ++ line ∷ [])) (Err MemoryStop)
head_alone {T} {U} first mid f g at request c status lines unput line x has head =
    after_head {T = T} {U = U} first mid mid f g g at at request c status lines (unput ++ line ∷ []) x (Err MemoryStop) has head
    (λ rest own. tells_nothing {T = U} mid g (rest ++ (unput ++ line ∷ [])) (let one = some_last unput line in let both = length-append rest (unput ++ line ∷ []) in omega (arith, one, both)))

-- lines that end so end with their last one
pub served_last : (lines unput : List (List ℕ)) (line : List ℕ) → EndIn line (lines ++ (unput ++ line ∷ []))
served_last lines unput line = (lines ++ unput, sym (append_assoc lines unput (line ∷ [])))

-- a task that was served has these lines
pub served_lines : (request : Request) (text : List ℕ) (d : DesignOf) (reports : List (ReportOf FindingOf)) (start : Option ℕ) (unput : List ℕ) (status : Status) (rc : ℕ) (lines : List (List ℕ)) → Reads text d
    → IsRaceStatus request (record { design = d; reports = reports; start = start }) status → HasCode request.expect status rc → HasJobLines request (record { design = d; reports = reports; start = start }) status lines
    → HasLines request text None reports start unput (lines ++ (unput_lines request unput ++ done_line request.name status rc ∷ []))
served_lines request text d reports start unput status rc lines reads is code has = record {
  design = d;
  status = status;
  rc = rc;
  body = lines ++ unput_lines request unput;
  reads = λ none. reads;
  is_status = is;
  is_rc = code;
  is_body = (lines, has, refl);
  all = sym (append_assoc lines (unput_lines request unput) (done_line request.name status rc ∷ []));
}

traces_by : {T : Type 0} (task : TaskOf) (p : AskedOf) (reports : List (ReportOf FindingOf)) (b a : FilesOf) (unput : List ℕ) (told : Result T Stop) (decided : Status) (rc : ℕ) (before now : Option (List ℕ)) (f g : ℕ) (when : Option ℕ)
    (lines : List (List ℕ)) → AreShownPut task.request p.design reports b a unput (IsOk told) → Tells before now f g when lines told
    → AreTracesPut task b a p reports unput (((ended told decided rc).0 ≡ Memory) ⊎ Rose f g)
traces_by task p reports b a unput (Ok x) decided rc before now f g when lines put tells =
    record { traces = put.traces; count = put.count; are_traces = put.are_traces; put = put.put; whole = inr (put.all refl) }
traces_by task p reports b a unput (Err MemoryStop) decided rc before now f g when lines put tells =
    record { traces = put.traces; count = put.count; are_traces = put.are_traces; put = put.put; whole = inl (inl refl) }
traces_by task p reports b a unput (Err Sink) decided rc before now f g when lines put tells =
    record { traces = put.traces; count = put.count; are_traces = put.are_traces; put = put.put; whole = inl (inr (tells.fault refl).0) }

-- its trace files were put, all of them unless that was stopped
pub traces_as : {T : Type 0} (task : TaskOf) (p : AskedOf) (reports : List (ReportOf FindingOf)) (b a : FilesOf) (unput : List ℕ) (told : Result T Stop) (decided : Status) (rc : ℕ) (before now : Option (List ℕ)) (f g : ℕ) (when : Option ℕ)
    (lines : List (List ℕ)) (status : Status) (exit : Exit) → (status, exit) ≡ ended told decided rc → AreShownPut task.request p.design reports b a unput (IsOk told) → Tells before now f g when lines told
    → AreTracesPut task b a p reports unput ((status ≡ Memory) ⊎ Rose f g)
traces_as task p reports b a unput told decided rc before now f g when lines status exit is put tells =
    subst (λ (x : Status × Exit). AreTracesPut task b a p reports unput ((x.0 ≡ Memory) ⊎ Rose f g)) (sym is) (traces_by task p reports b a unput told decided rc before now f g when lines put tells)

-- what was told, for a task that is named otherwise
pub as_request : {T : Type 0} (before now : Option (List ℕ)) (f g : ℕ) (when : Option ℕ) (r q : Request) (c : CameTo) (status : Status) (rc : ℕ) (lines : List (List ℕ)) (unput : List ℕ) (told : Result T Stop) → r ≡ q
    → (HasJobLines r c status lines → Tells before now f g when (lines ++ (unput_lines r unput ++ done_line r.name status rc ∷ [])) told) → HasJobLines q c status lines
    → Tells before now f g when (lines ++ (unput_lines q unput ++ done_line q.name status rc ∷ [])) told
as_request before now f g when r q c status rc lines unput told same tells has =
    subst (λ (x : Request). HasJobLines x c status lines → Tells before now f g when (lines ++ (unput_lines x unput ++ done_line x.name status rc ∷ [])) told) same tells has
