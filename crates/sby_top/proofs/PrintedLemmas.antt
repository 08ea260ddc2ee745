-- From what was printed of a task, and from the exit status, to its status.
use Rattle.std.proofs.Common.{◌≡◌, ◌≢◌, ◌⊎◌, ◌∙◌, ℕ, suc, ◌+◌, ◌<◌, ◌≤◌, ◌^◌, List, [], ◌∷◌, ◌++◌, inl, inr, refl, sym, ap, subst, append-nil, arith}
use Rattle.std.specs.Prelude.{Option, Some, None, Contains, bit_or}
use Rattle.std.specs.List.{concat}
use Rattle.std.proofs.lemmas.Bool.{cases_lt}
use Rattle.std.proofs.lemmas.List.{append_cancel_left}
use Rattle.std.proofs.lemmas.Nat.{le_or_l, le_or_r}
use Rattle.std.proofs.lemmas.List.Folds.{concat-append}
use Rattle.judge.specs.Finding.{FindingOf, IsTrueFinding}
use Rattle.race_core.specs.Collect.{CarriedIn}
use Rattle.race_core.specs.Report.{ReportOf}
use Rattle.sby_lines.specs.Lines.{done_line}
use Rattle.sby_lines.specs.Telling.{grown}
use Rattle.sby_lines.specs.declared.early.Early.{Early}
use Rattle.sby_terms.specs.Code.{HasCode, code_of}
use Rattle.sby_terms.specs.declared.names.Status.{Status}
use Rattle.sby_terms.specs.declared.names.Status.TheVariants.{Pass, Fail, Unknown, Error, Timeout, Memory}
use Rattle.sby_words.specs.Requests.{AskGen, AskJudge, AskNames, AskTasks, Request as Asked}
use Rattle.sby_words.specs.Words.{IsAsked}
use Rattle.sby_top.specs.Causes.{IsOutcome}
use Rattle.sby_top.specs.Claims.{AllExpected, AreExpected, HasTold}
use Rattle.sby_top.specs.Headline.{AreLines, Code, Cut, Exit, HasOwnStatus, IsPrinted, TaskRan, WasStopped}
use Rattle.sby_top.specs.Promise.{ZeroIsExpected}
use Rattle.sby_top.specs.Run.{Did, TurnRan, TurnsDone, TurnsRan, rc_of_exit}
use Rattle.sby_top.specs.Task.{TaskOf, problem_of}
use Rattle.sby_top.specs.Turns.{Refused, Run, Turn}
use Rattle.sby_top.specs.World.{Moments, World, race_of}
use Rattle.sby_top.specs.declared.outcome.Done.{Done}
use Rattle.sby_top.specs.declared.outcome.TaskEnd.{TaskEnd}
use Rattle.sby_top.proofs.DoneLemmas.{one_done}
use Rattle.sby_top.proofs.ReportLemmas.{first_or_later, nothing_in, true_findings}

-- ---- numbers

code_least : (s : Status) → (0 < code_of s) × (code_of s ≤ 32)
code_least Pass = (omega arith, omega arith)
code_least Fail = (omega arith, omega arith)
code_least Unknown = (omega arith, omega arith)
code_least Error = (omega arith, omega arith)
code_least Timeout = (omega arith, omega arith)
code_least Memory = (omega arith, omega arith)

code_same : (s t : Status) → code_of s ≡ code_of t → s ≡ t
code_same Pass Pass e = refl
code_same Pass Fail e = absurd (omega (arith, e))
code_same Pass Unknown e = absurd (omega (arith, e))
code_same Pass Error e = absurd (omega (arith, e))
code_same Pass Timeout e = absurd (omega (arith, e))
code_same Pass Memory e = absurd (omega (arith, e))
code_same Fail Pass e = absurd (omega (arith, e))
code_same Fail Fail e = refl
code_same Fail Unknown e = absurd (omega (arith, e))
code_same Fail Error e = absurd (omega (arith, e))
code_same Fail Timeout e = absurd (omega (arith, e))
code_same Fail Memory e = absurd (omega (arith, e))
code_same Unknown Pass e = absurd (omega (arith, e))
code_same Unknown Fail e = absurd (omega (arith, e))
code_same Unknown Unknown e = refl
code_same Unknown Error e = absurd (omega (arith, e))
code_same Unknown Timeout e = absurd (omega (arith, e))
code_same Unknown Memory e = absurd (omega (arith, e))
code_same Error Pass e = absurd (omega (arith, e))
code_same Error Fail e = absurd (omega (arith, e))
code_same Error Unknown e = absurd (omega (arith, e))
code_same Error Error e = refl
code_same Error Timeout e = absurd (omega (arith, e))
code_same Error Memory e = absurd (omega (arith, e))
code_same Timeout Pass e = absurd (omega (arith, e))
code_same Timeout Fail e = absurd (omega (arith, e))
code_same Timeout Unknown e = absurd (omega (arith, e))
code_same Timeout Error e = absurd (omega (arith, e))
code_same Timeout Timeout e = refl
code_same Timeout Memory e = absurd (omega (arith, e))
code_same Memory Pass e = absurd (omega (arith, e))
code_same Memory Fail e = absurd (omega (arith, e))
code_same Memory Unknown e = absurd (omega (arith, e))
code_same Memory Error e = absurd (omega (arith, e))
code_same Memory Timeout e = absurd (omega (arith, e))
code_same Memory Memory e = refl

few_or_many : (n : ℕ) → (n < 2 ^ 64) ⊎ (2 ^ 64 ≤ n)
few_or_many n = cases_lt n (2 ^ 64)

same_or_not : (m n : ℕ) → (m ≡ n) ⊎ (m ≡ n → ⊥)
same_or_not m n = elim (cases_lt m n) [
  | inl below ↦ inr (λ e. omega (below, e, arith))
  | inr other ↦ elim (cases_lt n m) [
    | inl above ↦ inr (λ e. omega (above, e, arith))
    | inr both ↦ inl (omega (other, both, arith))
  ]
]

or_zero : (a b : ℕ) → bit_or a b ≡ 0 → (a ≡ 0) × (b ≡ 0)
or_zero a b e = (omega (le_or_l a b, e, arith), omega (le_or_r a b, e, arith))

-- the number of a task is a small one
pub small_code : (expect : List Status) (s : Status) (n : ℕ) → s ≢ Memory → HasCode expect s n → n < 2 ^ 64
small_code expect s n apart h = elim (few_or_many n) [
  | inl few ↦ few
  | inr many ↦
      let none : Contains expect s → ⊥ = λ among. let zero_code = h.expected apart among in omega (zero_code, many, arith) in
      let own = h.unexpected none in
      let least = code_least s in
      absurd (omega (own, many, least.1, arith))
]

-- a status is expected or not
expected_or_not : (expect : List Status) (s : Status) → Contains expect s ⊎ (Contains expect s → ⊥)
expected_or_not [] s = inr (λ among. nothing_in s among)
expected_or_not (x ∷ expect) s = elim (same_or_not (code_of x) (code_of s)) [
  | inl same ↦ inl (0, omega arith, code_same x s same)
  | inr apart ↦ elim (expected_or_not expect s) [
    | inl among ↦ inl (suc among.0, omega (among.1, arith), among.2)
    | inr none ↦ inr (λ among. elim (first_or_later x s expect among) [
      | inl here ↦ apart (ap (λ (t : Status). code_of t) here)
      | inr rest ↦ none rest
    ])
  ]
]

-- the number 0 says that the status is expected
zero_expected : (expect : List Status) (s : Status) → HasCode expect s 0 → Contains expect s
zero_expected expect s h = elim (expected_or_not expect s) [
  | inl among ↦ among
  | inr none ↦ let own = h.unexpected none in let least = code_least s in absurd (omega (own, least.0, arith))
]

-- ---- the last line

whole_taken : (earlier bytes other : List ℕ) (start finish : Option (List ℕ)) → start ≡ Some earlier → finish ≡ grown start bytes → finish ≡ Some (earlier ++ other) → bytes ≡ other
whole_taken earlier bytes other start finish begun grew taken =
    let both : Some (earlier ++ bytes) ≡ Some (earlier ++ other) = sym (grew ∙ ap (λ (o : Option (List ℕ)). grown o bytes) begun) ∙ taken in
    append_cancel_left earlier bytes other (some_bytes (earlier ++ bytes) (earlier ++ other) both)
  where
    some_bytes : (x y : List ℕ) → Some x ≡ Some y → x ≡ y
    some_bytes x y h = cc

joined : (body : List (List ℕ)) (line : List ℕ) (lines : List (List ℕ)) → lines ≡ body ++ line ∷ [] → concat lines ≡ concat body ++ line
joined body line lines is = ap (λ (ls : List (List ℕ)). concat ls) is ∙ (concat-append body (line ∷ []) ∙ ap (λ (l : List ℕ). concat body ++ l) (append-nil line))

by_exit : (moments : Moments) (task : TaskOf) (end : TaskEnd) (exit : Exit) (status : Status) (rc : ℕ)
    → IsPrinted task.request.name moments.before.taken moments.after.taken moments.before.sink_faults moments.after.sink_faults moments.after.ended (AreLines task end) task.request.expect (HasOwnStatus task end) end.status exit → end.status ≢ Memory
    → HasTold moments task.request.name status rc → end.status ≡ status
by_exit moments task end (Code n) status rc printed apart told = elim printed.2.2 [
  | inl whole ↦
      let last = whole.2 in
      let bytes = whole_taken told.earlier (concat printed.2.0) (told.front ++ done_line task.request.name status rc) moments.before.taken moments.after.taken told.begun whole.1 told.taken in
      one_done (concat last.0) told.front task.request.name end.status status n rc (small_code task.request.expect end.status n apart printed.1) told.small
      (sym (joined last.0 (done_line task.request.name end.status n) printed.2.0 last.1) ∙ bytes)
  | inr part ↦ absurd (apart part.0)
]
by_exit moments task end Cut status rc printed apart told = absurd (told.still printed.0)

pub told_status : (may_read : ℕ → Type 0) (number : ℕ) (moments : Moments) (task : TaskOf) (end : TaskEnd) (exit : Exit) (status : Status) (rc : ℕ) → TaskRan may_read number moments task end exit → end.status ≢ Memory
    → HasTold moments task.request.name status rc → end.status ≡ status
told_status may_read number moments task end exit status rc ran apart told = by_exit moments task end exit status rc ran.printed apart told

-- ---- findings

by_early : (may_read : ℕ → Type 0) (number : ℕ) (moments : Moments) (task : TaskOf) (end : TaskEnd) (early : Option Early)
    → IsOutcome may_read task moments (race_of number moments.pool moments.before moments.after end.start) early end.text end.reports.items end.unput.items (WasStopped moments end)
    → (r : ReportOf FindingOf) (f : FindingOf) → Contains end.reports.items r → CarriedIn r.ends f → IsTrueFinding f × (f.problem ≡ problem_of task end.text)
by_early may_read number moments task end (Some early) came r f among carried = absurd (nothing_in r (subst (λ (rs : List (ReportOf FindingOf)). Contains rs r) came.1 among))
by_early may_read number moments task end None came r f among carried =
    let done = came.0 in
    let own = true_findings may_read moments.put.told task done.problem (race_of number moments.pool moments.before moments.after end.start) task.service end.reports.items done.reports_are r f among carried in
    (own.0, own.1 ∙ (done.served.0.asked ∙ ap (λ (text : List ℕ). problem_of task text) (sym done.text_is)))

pub findings_of_text : (may_read : ℕ → Type 0) (number : ℕ) (moments : Moments) (task : TaskOf) (end : TaskEnd) (exit : Exit) → TaskRan may_read number moments task end exit
    → (r : ReportOf FindingOf) (f : FindingOf) → Contains end.reports.items r → CarriedIn r.ends f → IsTrueFinding f × (f.problem ≡ problem_of task end.text)
findings_of_text may_read number moments task end exit ran = by_early may_read number moments task end end.early ran.named.cause

-- ---- exit status 0

code_zero : (n : ℕ) → Code n ≡ Code 0 → n ≡ 0
code_zero n e = cc

cut_zero : Cut ≡ Code 0 → ⊥
cut_zero e = cc

turn_expected : (may_read : ℕ → Type 0) (number : ℕ) (moments : Moments) (turn : Turn) (turns : List Turn) (end : TaskEnd) (ends : List TaskEnd) → TurnRan may_read number moments turn end (Code 0) → AreExpected turns ends → AreExpected (turn ∷ turns) (end ∷ ends)
turn_expected may_read number moments (Run task) turns end ends ran rest = (ran.named.name, zero_expected task.request.expect end.status ran.printed.1, rest)
turn_expected may_read number moments (Refused name early) turns end ends ran rest = let own = ran.code 0 refl in let least = code_least end.status in absurd (omega (own, least.0, arith))

pub had_expected : (may_read : ℕ → Type 0) (number so_far : ℕ) (turns : List Turn) (ms : List Moments) (ends : List TaskEnd) (exit : Exit) → TurnsRan may_read number so_far turns ms ends exit → exit ≡ Code 0 → (so_far ≡ 0) × AreExpected turns ends
had_expected may_read number so_far [] [] [] exit had zero_exit = (code_zero so_far (sym had ∙ zero_exit), tt)
had_expected may_read number so_far [] [] (end ∷ ends) exit had zero_exit = absurd had
had_expected may_read number so_far [] (m ∷ ms) ends exit had zero_exit = absurd had
had_expected may_read number so_far (turn ∷ turns) [] [] exit had zero_exit =
    let both = or_zero so_far 32 (code_zero (bit_or so_far 32) (sym had ∙ zero_exit)) in absurd (omega (both.1, arith))
had_expected may_read number so_far (turn ∷ turns) [] (end ∷ ends) exit had zero_exit = absurd had
had_expected may_read number so_far (turn ∷ turns) (m ∷ ms) [] exit had zero_exit = absurd had
had_expected may_read number so_far (turn ∷ turns) (m ∷ ms) (end ∷ ends) exit (inl cut) zero_exit = absurd (cut_zero (sym cut.3 ∙ zero_exit))
had_expected may_read number so_far (turn ∷ turns) (m ∷ ms) (end ∷ ends) exit (inr more) zero_exit =
    let rest = had_expected may_read (number + 1) (bit_or so_far more.0) turns ms ends exit more.2 zero_exit in
    let both = or_zero so_far more.0 rest.0 in
    (both.0, turn_expected may_read number m turn turns end ends (subst (λ (n : ℕ). TurnRan may_read number m turn end (Code n)) both.1 more.1) rest.1)

exit_zero : (exit : Exit) → rc_of_exit exit ≡ 0 → exit ≡ Code 0
exit_zero (Code n) e = ap Code e
exit_zero Cut e = absurd (omega (e, arith))

turned_expected : (may_read : ℕ → Type 0) (before after : World) (done : Done) (asked : Asked) → done.rc ≡ 0 → (turned : TurnsDone may_read before after done asked) → AreExpected turned.turns done.ends.items
turned_expected may_read before after done asked zero_rc turned = (had_expected may_read 0 0 turned.turns turned.ran.0 done.ends.items turned.exit turned.ran.1 (exit_zero turned.exit (sym turned.rc ∙ zero_rc))).1

done_expected : (may_read : ℕ → Type 0) (before after : World) (words : List (List ℕ)) (done : Done) (asked : Asked) → IsAsked words (Some asked) → TurnsDone may_read before after done asked → done.rc ≡ 0 → AllExpected before words done
done_expected may_read before after words done asked asks run zero_rc =
    (asked, asks, inr (run.middle, run.same_sink, (run.turns, run.has_turns, turned_expected may_read before after done asked zero_rc run)))

all_expected : (may_read : ℕ → Type 0) (before after : World) (words : List (List ℕ)) (done : Done) → Did may_read before after words done → done.rc ≡ 0 → AllExpected before words done
all_expected may_read before after words done (inl (None, asks, usage)) zero_rc = absurd (omega (usage.rc, zero_rc, arith))
all_expected may_read before after words done (inl (Some (AskNames file), asks, told)) zero_rc = (AskNames file, asks, inl (file, refl))
all_expected may_read before after words done (inl (Some (AskJudge j), asks, run)) zero_rc = done_expected may_read before after words done (AskJudge j) asks run zero_rc
all_expected may_read before after words done (inl (Some (AskTasks t), asks, run)) zero_rc = done_expected may_read before after words done (AskTasks t) asks run zero_rc
all_expected may_read before after words done (inl (Some (AskGen g), asks, run)) zero_rc = done_expected may_read before after words done (AskGen g) asks run zero_rc
all_expected may_read before after words done (inr nothing) zero_rc = absurd (omega (nothing.rc, zero_rc, arith))

pub zero_expected_all : (may_read : ℕ → Type 0) (before after : World) (words : List (List ℕ)) (done : Done) → Did may_read before after words done → ZeroIsExpected may_read before after words done
zero_expected_all may_read before after words done did zero_rc = (all_expected may_read before after words done did zero_rc, λ asked asks turned. turned_expected may_read before after done asked zero_rc turned)
