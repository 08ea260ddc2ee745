-- The runs that are shown, and their trace files.
use Rattle.std.proofs.Common.{◌≡◌, ◌≢◌, ℕ, ◌+◌, List, [], ◌∷◌, ◌++◌, refl, ap, sym, ◌∙◌, subst, inl, inr, length, take, drop, map, append_assoc, arith}
use Rattle.std.specs.Prelude.{Bool, true, false, Option, Some, None, Contains, option_map, slice_get, slice_index_or}
use Rattle.std.proofs.lemmas.Option.{get_or_from_slice_get, slice_get-map, slice_get_within}
use Rattle.design_meaning.specs.Runs.{CycleOf, IsRunOf}
use Rattle.sby_top.specs.declared.traces.Shown.{Shown}
use Rattle.sby_top.proofs.JobLemmas.{take_at}
use Rattle.design_core.specs.Shape.{DesignOf}
use Rattle.judge.specs.Finding.{FindingOf}
use Rattle.race_core.specs.Asking.{name_at}
use Rattle.race_core.specs.Collect.{AreCollected, HasFinding}
use Rattle.race_core.specs.Report.{ReportOf}
use Rattle.sby_terms.specs.Decide.{Decides}
use Rattle.sby_terms.specs.declared.names.Answer.{Answer}
use Rattle.sby_terms.specs.declared.names.Answer.TheVariants.{Sat}
use Rattle.sby_terms.specs.declared.names.Mode.{Mode}
use Rattle.sby_terms.specs.declared.names.Mode.TheVariants.{Bmc, Prove, ProveInv, Cover}
use Rattle.sby_terms.specs.declared.names.Verdict.{Verdict}
use Rattle.sby_terms.specs.declared.names.Verdict.TheVariants.{Pass, Fail}
use Rattle.judge.specs.Jobs.{jobs_in}
use Rattle.std.proofs.lemmas.List.Elements.{All-append}
use Rattle.sby_lines.proofs.ShownLemmas.{printed_breaks, printed_reaches}
use Rattle.sby_top.specs.End.{AreShownPut}
use Rattle.sby_lines.specs.Told.{AreReported, CameTo, Request, answer_of, job_of}
use Rattle.sby_lines.proofs.PlaceLemmas.{contains_at, drop_at}
use Rattle.sby_top.specs.Shown.{AreFitting, ArePutUpto, IsOnePut, IsStatementTrace, trace_seen}
use Rattle.sby_top.specs.Traces.{ArePutTraces, AreTraces, HasCoverTraces, HasFailTrace, HasModeTraces, HasTrace, TraceOf}
use Rattle.sby_top.specs.World.{FilesOf}

-- a report carries a finding for a settled job
pub settled_at : (mode : Mode) (jobs : ℕ) (reports : List (ReportOf FindingOf)) (answers : List (Option Answer)) (k : ℕ) (a : Answer) → AreCollected job_of answer_of mode jobs reports answers
    → slice_get answers k ≡ Some (Some a) → (r : ReportOf FindingOf) × Contains reports r × HasFinding job_of (name_at mode k) r
settled_at mode jobs reports answers k a are at = let e = are.entry k (Some a) at in (e.1.0, e.1.1, (e.0, e.1.2, e.1.3))

-- FAIL of bmc or prove has an answer Sat
pub fail_has_sat : (mode : Mode) (answers : List (Option Answer)) → mode ≢ Cover → Decides mode answers Fail → (k : ℕ) × (slice_get answers k ≡ Some (Some Sat))
fail_has_sat Bmc answers apart decides = (decides.0, contains_at answers (Some Sat) decides)
fail_has_sat Prove answers apart decides = (0, decides)
fail_has_sat ProveInv answers apart decides = (0, decides)
fail_has_sat Cover answers apart decides = absurd (apart refl)

statement_next : (request : Request) (c : CameTo) (place : ℕ) (answer : Option Answer) (answers : List (Option Answer)) (own rest : List TraceOf)
    → IsStatementTrace request.mode c.reports place answer own → HasCoverTraces request c (place + 1) answers rest → HasCoverTraces request c place (answer ∷ answers) (own ++ rest)
statement_next request c place (Some a) answers own rest is has = (is.0, own, rest, is.1, is.2, has, refl)
statement_next request c place None answers own rest is has = subst (HasCoverTraces request c (place + 1) answers) (ap (λ ts. ts ++ rest) (sym is)) has

-- the traces of the statements before a place, with those after it
pub cover_next : (request : Request) (c : CameTo) (answers : List (Option Answer)) (place : ℕ) (answer : Option Answer) (old new own rest : List TraceOf) → slice_get answers place ≡ Some answer
    → IsStatementTrace request.mode c.reports place answer own → new ≡ old ++ own
    → ((more : List TraceOf) → HasCoverTraces request c place (drop place answers) more → HasCoverTraces request c 0 answers (old ++ more))
    → HasCoverTraces request c (place + 1) (drop (place + 1) answers) rest → HasCoverTraces request c 0 answers (new ++ rest)
cover_next request c answers place answer old new own rest at is more before has =
    subst (HasCoverTraces request c 0 answers) (sym (append_assoc old own rest) ∙ ap (λ ts. ts ++ rest) (sym more))
    (before (own ++ rest) (subst (λ xs. HasCoverTraces request c place xs (own ++ rest)) (sym (drop_at answers place answer at))
    (statement_next request c place answer (drop (place + 1) answers) own rest is has)))

-- trace files were put, and then others
pub put_then : (request : Request) (d : DesignOf) (xs ys : List TraceOf) (b m a : FilesOf) (us vs : List ℕ) → ArePutTraces request d xs b m us → ArePutTraces request d ys m a vs
    → ArePutTraces request d (xs ++ ys) b a (us ++ vs)
put_then request d [] ys b m a us vs first then =
    subst (λ f. ArePutTraces request d ys f a (us ++ vs)) first.0 (subst (ArePutTraces request d ys m a) (ap (λ ns. ns ++ vs) (sym first.1)) then)
put_then request d (x ∷ xs) ys b m a us vs (inl first) then = inl (put_then request d xs ys _ m a us vs first then)
put_then request d (x ∷ xs) ys b m a us vs (inr first) then =
    inr (first.0, first.1 ++ vs, first.2, put_then request d xs ys first.0 m a first.1 vs first.3 then, ap (λ ns. ns ++ vs) first.4)

-- one trace file was put, or listed
pub one_put : (request : Request) (d : DesignOf) (trace : TraceOf) (b a : FilesOf) (well : Bool) → well ≡ true → IsOnePut request d trace b a well → ArePutTraces request d (trace ∷ []) b a []
one_put request d trace b a true is put = inl (put, refl)
one_put request d trace b a false is put = cc

pub one_unput : (request : Request) (d : DesignOf) (trace : TraceOf) (b a : FilesOf) (well : Bool) → well ≡ false → IsOnePut request d trace b a well → ArePutTraces request d (trace ∷ []) b a (trace.number ∷ [])
one_unput request d trace b a false is failed = inr (a, [], failed, (refl, refl), refl)
one_unput request d trace b a true is failed = cc

trace_at : (runs : List Shown) (i : ℕ) (s : Shown) → slice_get runs i ≡ Some s → slice_get (map trace_seen runs) i ≡ Some (trace_seen s)
trace_at runs i s at = slice_get-map trace_seen runs i ∙ ap (option_map trace_seen) at

pub fitting_at : (d : DesignOf) (runs : List Shown) (i : ℕ) (s : Shown) → AreFitting d (map trace_seen runs) → slice_get runs i ≡ Some s → IsRunOf d s.run.now
fitting_at d runs i s fit at =
    let m = trace_at runs i s at in
    subst (λ (t : TraceOf). IsRunOf d t.run) (get_or_from_slice_get (map trace_seen runs) i (trace_seen s) (trace_seen s) m) (fit i (trace_seen s) (slice_get_within (map trace_seen runs) i (trace_seen s) m))

-- one trace file more was put
pub put_next : (request : Request) (d : DesignOf) (runs : List Shown) (i : ℕ) (s : Shown) (b m a : FilesOf) (us new own : List ℕ) → slice_get runs i ≡ Some s → new ≡ us ++ own
    → ArePutTraces request d (take i (map trace_seen runs)) b m us → ArePutTraces request d (trace_seen s ∷ []) m a own → ArePutTraces request d (take (i + 1) (map trace_seen runs)) b a new
put_next request d runs i s b m a us new own at is first then =
    subst (ArePutTraces request d (take (i + 1) (map trace_seen runs)) b a) (sym is)
    (subst (λ ts. ArePutTraces request d ts b a (us ++ own)) (sym (take_at (map trace_seen runs) i (trace_seen s) (trace_at runs i s at)))
    (put_then request d (take i (map trace_seen runs)) (trace_seen s ∷ []) b m a us own first then))

-- ---- the runs that are shown are the design's

none_fits : (d : DesignOf) (traces : List TraceOf) → traces ≡ [] → AreFitting d traces
none_fits d traces none = λ k e lt. let no : length traces ≡ 0 = ap length none in absurd (omega (arith, lt, no))

one_fits : (d : DesignOf) (number : ℕ) (o : Option (List CycleOf)) (traces : List TraceOf) → ((run : List CycleOf) → o ≡ Some run → IsRunOf d run) → HasTrace number o traces → AreFitting d traces
one_fits d number None traces each has = none_fits d traces has
one_fits d number (Some run) traces each has = subst (AreFitting d) (sym has) (λ k e lt. let first : k ≡ 0 = omega (arith, lt) in
    subst (λ i. IsRunOf d (slice_index_or (record { number = number; run = run } ∷ []) i e).run) (sym first) (each run refl))

both_fit : (d : DesignOf) (xs ys : List TraceOf) → AreFitting d xs → AreFitting d ys → AreFitting d (xs ++ ys)
both_fit d xs ys first then = All-append (λ t. IsRunOf d t.run) xs ys first then

covers_fit : (request : Request) (d : DesignOf) (reports : List (ReportOf FindingOf)) (place : ℕ) (answers : List (Option Answer)) (traces : List TraceOf) → request.mode ≡ Cover → AreReported request.mode request.span d reports
    → HasCoverTraces request (record { design = d; reports = reports; start = None }) place answers traces → AreFitting d traces
covers_fit request d reports place [] traces is are has = none_fits d traces has
covers_fit request d reports place (None ∷ answers) traces is are has = covers_fit request d reports (place + 1) answers traces is are has
covers_fit request d reports place (Some a ∷ answers) traces is are has =
    let f = has.0 in
    let first = one_fits d place f.run has.1 (λ run e. (printed_reaches request.mode request.span d reports place f run is are has.3 e).0) has.4 in
    subst (AreFitting d) (sym has.6) (both_fit d has.1 has.2 first (covers_fit request d reports (place + 1) answers has.2 is are has.5))

fail_fits : (request : Request) (d : DesignOf) (reports : List (ReportOf FindingOf)) (answers : List (Option Answer)) (verdict : Option Verdict) (traces : List TraceOf) → request.mode ≢ Cover → AreReported request.mode request.span d reports
    → length answers ≡ length (jobs_in request.mode request.span d) → HasFailTrace request (record { design = d; reports = reports; start = None }) answers verdict traces → AreFitting d traces
fail_fits request d reports answers (Some Fail) traces apart are size has =
    one_fits d 0 has.1.run traces (λ run e. (printed_breaks request.mode request.span d reports has.0 has.1 run apart are (omega (arith, size, slice_get_within answers has.0 (Some Sat) has.2.0)) has.3 e).rows) has.4
fail_fits request d reports answers (Some Pass) traces apart are size has = none_fits d traces has
fail_fits request d reports answers None traces apart are size has = none_fits d traces has

mode_fits : (mode : Mode) (request : Request) (d : DesignOf) (reports : List (ReportOf FindingOf)) (answers : List (Option Answer)) (verdict : Option Verdict) (traces : List TraceOf) → request.mode ≡ mode → AreReported request.mode request.span d reports
    → length answers ≡ length (jobs_in request.mode request.span d) → HasModeTraces mode request (record { design = d; reports = reports; start = None }) answers verdict traces → AreFitting d traces
mode_fits Bmc request d reports answers verdict traces is are size has = fail_fits request d reports answers verdict traces (λ e. let no : Bmc ≡ Cover = sym is ∙ e in cc) are size has
mode_fits Prove request d reports answers verdict traces is are size has = fail_fits request d reports answers verdict traces (λ e. let no : Prove ≡ Cover = sym is ∙ e in cc) are size has
mode_fits ProveInv request d reports answers verdict traces is are size has = fail_fits request d reports answers verdict traces (λ e. let no : ProveInv ≡ Cover = sym is ∙ e in cc) are size has
mode_fits Cover request d reports answers verdict traces is are size has = covers_fit request d reports 0 answers traces is are has

pub fitting_traces : (request : Request) (d : DesignOf) (reports : List (ReportOf FindingOf)) (traces : List TraceOf) → AreReported request.mode request.span d reports
    → AreTraces request (record { design = d; reports = reports; start = None }) traces → AreFitting d traces
fitting_traces request d reports traces are has = mode_fits request.mode request d reports has.0 has.1 traces refl are has.2.size has.4

-- trace files of these runs were put
pub shown_put : (request : Request) (d : DesignOf) (reports : List (ReportOf FindingOf)) (traces : List TraceOf) (b a : FilesOf) (unput : List ℕ) (whole : Type 0)
    → AreTraces request (record { design = d; reports = reports; start = None }) traces → ArePutUpto request d traces b a unput whole → AreShownPut request d reports b a unput whole
shown_put request d reports traces b a unput whole are put = record {
  traces = traces;
  count = put.count;
  are_traces = inr are;
  put = put.put;
  all = λ w. (are, put.all w);
}
