-- Turns run at the same time, under an allowance.
use Rattle.std.proofs.Common.{◌≡◌, ℕ, zero, suc, ◌+◌, ◌<◌, List, [], ◌∷◌, ◌++◌, refl, ap, sym, ◌∙◌, subst, inl, inr, ◌⊎◌, append_assoc, append-nil, length, take, drop, arith}
use Rattle.std.specs.Prelude.{All, Bool, Option, None, Some, IsSomeAnd, bit_or}
use Rattle.std.proofs.lemmas.List.{drop_all, length-append}
use Rattle.std.proofs.lemmas.List.Elements.{All-append, All-cons, All-head, All-nil, All-tail}
use Rattle.jobs_pool.specs.Places.{PoolOf}
use Rattle.judge.specs.Finding.{FindingOf}
use Rattle.judge.specs.Problem.{AskedOf}
use Rattle.race_core.specs.Report.{ReportOf}
use Rattle.sby_edge.specs.Child.{LaneOf, YardOf}
use Rattle.task_race.specs.Bays.{BackOf, NoneStarted, YardAt}
use Rattle.task_race.proofs.BackLemmas.{logged_more, none_logged}
use Rattle.sby_lines.proofs.ShownLemmas.{some_same}
use Rattle.sby_lines.specs.declared.early.Early.{Early}
use Rattle.sby_top.specs.Causes.{HasReason, IsSpared}
use Rattle.sby_top.specs.Headline.{Exit, Code, Cut}
use Rattle.sby_top.specs.Run.{ArePrepared, AreShown, AreUntold, IsUntold, RanUnder, ShareOne, TurnRan, TurnUntold, TurnsRan, WasRefused}
use Rattle.sby_top.specs.Judged.{AreReports}
use Rattle.sby_top.specs.Ready.{WasPrepared}
use Rattle.sby_top.specs.Task.{TaskOf}
use Rattle.sby_top.specs.Turns.{Refused, Turn}
use Rattle.sby_top.specs.Waiting.{AreSlotted, AreWaiting, Holds, IsAt}
use Rattle.sby_top.specs.World.{FilesOf, Moments, World, files_of, race_of, with_files, with_yard}
use Rattle.sby_top.specs.declared.outcome.Done.{Done}
use Rattle.sby_top.specs.declared.outcome.TaskEnd.{TaskEnd}
use Rattle.sby_top.specs.declared.slot.Slot.{Slot}
use Rattle.sby_top.specs.declared.slot.Stage.{Stage}

-- ---- a yard in which nothing was started

pub none_started_yet : (yard : YardAt) → NoneStarted yard yard
none_started_yet yard = record { scripts = refl; counts = refl; lanes = []; logged = none_logged yard.started; unstarted = All-nil (λ (l : LaneOf). l.starts ≡ []) }

pub none_started_since : (before mid now : YardAt) → NoneStarted before mid → NoneStarted mid now → NoneStarted before now
none_started_since before mid now first then = record {
  scripts = then.scripts ∙ first.scripts;
  counts = then.counts ∙ first.counts;
  lanes = first.lanes ++ then.lanes;
  logged = logged_more first.lanes then.lanes before.started mid.started now.started first.logged then.logged;
  unstarted = All-append (λ (l : LaneOf). l.starts ≡ []) first.lanes then.lanes first.unstarted then.unstarted;
}

-- for a task that ended before its lanes nothing was started
pub spared_none : (before now : YardAt) (early : Early) → IsSpared before now early → NoneStarted before now
spared_none before now early (inl same) = subst (λ y. NoneStarted before y) (sym same) (none_started_yet before)
spared_none before now early (inr none) = none.1

-- only files and the yard changed
abbrev pub IsSilent : World → World → Type 0
IsSilent before now = now ≡ with_yard (with_files before (files_of now)) now.yard

pub silent_since : (before mid now : World) → IsSilent before mid → IsSilent mid now → IsSilent before now
silent_since before mid now first then = then ∙ ap (λ w. with_yard (with_files w (files_of now)) now.yard) first

-- ---- one pool

pub share_one : (most : ℕ) (pool : PoolOf) (ms : List Moments) → pool.most ≡ most → All (λ m. m.pool ≡ Some pool) ms → ShareOne most ms
share_one most pool [] is all = tt
share_one most pool (m ∷ ms) is all =
    let own : m.pool ≡ Some pool = All-head (λ (n : Moments). n.pool ≡ Some pool) m ms all in
    subst (λ (o : Option PoolOf). IsSomeAnd o (λ p. (p.most ≡ most) × All (λ n. n.pool ≡ Some p) ms)) (sym own) (is, All-tail (λ (n : Moments). n.pool ≡ Some pool) m ms all)

-- ---- turns in slots

pub waiting_more : {L : Type 0} (back : L → BackOf) (may_read : ℕ → Type 0) (pool : PoolOf) (scripts : Option YardOf) (number here : ℕ) (got at put : FilesOf) (turns : List Turn) (turn : Turn) (slots : List (Slot L)) (slot : Slot L)
    → here ≡ number + length slots → AreWaiting back may_read pool scripts number got turns at slots → slot.number ≡ here → Holds slot (IsAt back may_read pool scripts here at put turn)
    → AreWaiting back may_read pool scripts number got (turns ++ turn ∷ []) put (slots ++ slot ∷ [])
waiting_more back may_read pool scripts number here got at put [] turn [] slot is are named holds =
    let first : here ≡ number = omega (arith, is) in
    (put, named ∙ first, subst (λ n. Holds slot (IsAt back may_read pool scripts n got put turn)) first (subst (λ f. Holds slot (IsAt back may_read pool scripts here f put turn)) are holds), refl)
waiting_more back may_read pool scripts number here got at put [] turn (s ∷ slots) slot is are named holds = absurd are
waiting_more back may_read pool scripts number here got at put (t ∷ turns) turn [] slot is are named holds = absurd are
waiting_more back may_read pool scripts number here got at put (t ∷ turns) turn (s ∷ slots) slot is are named holds =
    (are.0, are.1, are.2, waiting_more back may_read pool scripts (number + 1) here are.0 at put turns turn slots slot (omega (arith, is)) are.3 named holds)

pub waiting_count : {L : Type 0} (back : L → BackOf) (may_read : ℕ → Type 0) (pool : PoolOf) (scripts : Option YardOf) (number : ℕ) (got last : FilesOf) (turns : List Turn) (slots : List (Slot L))
    → AreWaiting back may_read pool scripts number got turns last slots → length turns ≡ length slots
waiting_count back may_read pool scripts number got last [] [] are = refl
waiting_count back may_read pool scripts number got last [] (s ∷ slots) are = absurd are
waiting_count back may_read pool scripts number got last (t ∷ turns) [] are = absurd are
waiting_count back may_read pool scripts number got last (t ∷ turns) (s ∷ slots) are = let rest = waiting_count back may_read pool scripts (number + 1) are.0 last turns slots are.3 in omega (arith, rest)

-- races change nothing of this
pub slotted_raced : {L : Type 0} (back : L → BackOf) (may_read : ℕ → Type 0) (pool : PoolOf) (start now : World) (turns : List Turn) (is_all : Bool) (old new : List (Slot L)) → AreSlotted back may_read pool start now turns is_all old
    → ((scripts : Option YardOf) (number : ℕ) (first last : FilesOf) (some : List Turn) → AreWaiting back may_read pool scripts number first some last old → AreWaiting back may_read pool scripts number first some last new)
    → AreSlotted back may_read pool start now turns is_all new
slotted_raced back may_read pool start now turns is_all old new slotted kept =
    let some = take (length old) turns in
    let still = kept start.yard.scripts 0 (files_of start) (files_of now) some slotted.waiting in
    let before = waiting_count back may_read pool start.yard.scripts 0 (files_of start) (files_of now) some old slotted.waiting in
    let after = waiting_count back may_read pool start.yard.scripts 0 (files_of start) (files_of now) some new still in
    let same : length old ≡ length new = sym before ∙ after in
    record {
      waiting = subst (λ n. AreWaiting back may_read pool start.yard.scripts 0 (files_of start) (take n turns) (files_of now) new) same still;
      all = λ is. slotted.all is ∙ same;
      few = λ is. let less = slotted.few is in omega (arith, less, same);
      spared = slotted.spared;
      silent = slotted.silent;
    }

-- a turn of which only a fault is told
pub shown_refused : (may_read : ℕ → Type 0) (number : ℕ) (got put : FilesOf) (pool : PoolOf) (before after : World) (turn : Turn) (name : List ℕ) (early : Early) (end : TaskEnd) (exit : Exit) → turn ≡ Refused name early → put ≡ got
    → WasRefused (record { got = got; put = got; pool = Some pool; before = before; after = after }) name early end exit
    → TurnRan may_read number (record { got = got; put = put; pool = Some pool; before = before; after = after }) turn end exit
shown_refused may_read number got put pool before after turn name early end exit is same was =
    subst (λ t. TurnRan may_read number (record { got = got; put = put; pool = Some pool; before = before; after = after }) t end exit) (sym is)
    (subst (λ p. WasRefused (record { got = got; put = p; pool = Some pool; before = before; after = after }) name early end exit) (sym same) was)

-- a task that was raced and isn't told
pub untold_raced : (may_read : ℕ → Type 0) (number : ℕ) (got put : FilesOf) (pool : PoolOf) (before after : World) (task : TaskOf) (p : AskedOf) (start : Option ℕ) (reports : List (ReportOf FindingOf)) → WasPrepared task got put p
    → AreReports task.service may_read task p put.told (race_of number (Some pool) before after start) reports → after ≡ with_yard before after.yard
    → IsUntold may_read number (record { got = got; put = put; pool = Some pool; before = before; after = after }) task
untold_raced may_read number got put pool before after task p start reports prepared are silent = record {
  start = start;
  early = None;
  text = p.problem.text;
  reports = reports;
  outcome = (
    record { problem = p; served = prepared.served; text_is = refl; put = prepared.put_is; reports_are = are; faults = prepared.faults; blamed = prepared.blamed },
    record { traces = []; count = 0; are_traces = inl refl; put = (ap files_of silent, refl); whole = inl tt },
  );
  silent = silent;
}

-- one that ended before its lanes
pub untold_early : (may_read : ℕ → Type 0) (number : ℕ) (got put : FilesOf) (pool : PoolOf) (now : World) (task : TaskOf) (early : Early) → HasReason task got put early
    → IsUntold may_read number (record { got = got; put = put; pool = Some pool; before = now; after = now }) task
untold_early may_read number got put pool now task early reason =
    record { start = None; early = Some early; text = []; reports = []; outcome = (refl, refl, refl, reason, refl, (refl, inl refl)); silent = refl }

-- what a slot holds, where it is seen
pub held_at : {L : Type 0} (slot : Slot L) (P : Stage L → Type 0) (stage : Stage L) → Holds slot P → slot.stage ≡ Some stage → P stage
held_at slot P stage holds at = subst P (some_same holds.0 stage (sym holds.1 ∙ at)) holds.2

pub held_none : {L : Type 0} (slot : Slot L) (P : Stage L → Type 0) → Holds slot P → slot.stage ≡ None → ⊥
held_none slot P holds at = let no : Some holds.0 ≡ None = sym holds.1 ∙ at in cc

-- ---- turns that aren't told

-- the first of these turns aren't told, from these files and this moment on
abbrev pub GoUntold : (ℕ → Type 0) → PoolOf → ℕ → List Turn → FilesOf → FilesOf → World → World → Type 0
GoUntold may_read pool number turns at last now finish =
    (ms : List Moments) × AreUntold may_read number turns ms × ArePrepared at ms last × AreShown now ms finish × All (λ m. m.pool ≡ Some pool) ms

-- Some turns aren't told, and these slots hold the others.
pub record AreLeaving {L : Type 0} (back : L → BackOf) (may_read : ℕ → Type 0) (pool : PoolOf) (number : ℕ) (first last : FilesOf) (turns : List Turn) (start now : World) (slots : List (Slot L)) : Type 0 where
  pub next : ℕ
  pub at : FilesOf
  pub rest : List Turn
  pub waiting : AreWaiting back may_read pool now.yard.scripts next at rest last slots
  pub go_on : (finish : World) → GoUntold may_read pool next rest at last now finish → GoUntold may_read pool number turns first last start finish

pub leaving_none : {L : Type 0} (back : L → BackOf) (may_read : ℕ → Type 0) (pool : PoolOf) (number : ℕ) (first last : FilesOf) (turns : List Turn) (start : World) (slots : List (Slot L))
    → AreWaiting back may_read pool start.yard.scripts number first turns last slots → AreLeaving back may_read pool number first last turns start start slots
leaving_none back may_read pool number first last turns start slots are = record { next = number; at = first; rest = turns; waiting = are; go_on = λ finish all. all }

-- what is known of a turn that isn't told
abbrev pub LeavesAt : {L : Type 0} (back : L → BackOf) → (ℕ → Type 0) → PoolOf → World → World → Slot L → Type 0
LeavesAt back may_read pool now after slot =
    (got put : FilesOf) (turn : Turn) → Holds slot (IsAt back may_read pool now.yard.scripts slot.number got put turn)
    → TurnUntold may_read slot.number (record { got = got; put = put; pool = Some pool; before = now; after = after }) turn

leave_one : {L : Type 0} (back : L → BackOf) (may_read : ℕ → Type 0) (pool : PoolOf) (number next : ℕ) (first last at : FilesOf) (turns rest : List Turn) (start now after : World) (slot : Slot L) (slots : List (Slot L))
    → AreWaiting back may_read pool now.yard.scripts next at rest last (slot ∷ slots)
    → ((finish : World) → GoUntold may_read pool next rest at last now finish → GoUntold may_read pool number turns first last start finish)
    → LeavesAt back may_read pool now after slot → after.yard.scripts ≡ now.yard.scripts → AreLeaving back may_read pool number first last turns start after slots
leave_one back may_read pool number next first last at turns [] start now after slot slots are go_on leaves scripts = absurd are
leave_one back may_read pool number next first last at turns (turn ∷ rest) start now after slot slots are go_on leaves scripts =
    let m : Moments = record { got = at; put = are.0; pool = Some pool; before = now; after = after } in
    let own : TurnUntold may_read next m turn = subst (λ n. TurnUntold may_read n m turn) are.1
    (leaves at are.0 turn (subst (λ n. Holds slot (IsAt back may_read pool now.yard.scripts n at are.0 turn)) (sym are.1) are.2)) in
    record {
      next = next + 1;
      at = are.0;
      rest = rest;
      waiting = subst (λ s. AreWaiting back may_read pool s (next + 1) are.0 rest last slots) (sym scripts) are.3;
      go_on = λ finish all. go_on finish (m ∷ all.0, (own, all.1), (refl, all.2), (refl, all.3), All-cons (λ (n : Moments). n.pool ≡ Some pool) m all.0 refl all.4);
    }

pub leaving_next : {L : Type 0} (back : L → BackOf) (may_read : ℕ → Type 0) (pool : PoolOf) (number : ℕ) (first last : FilesOf) (turns : List Turn) (start now after : World) (left : List (Slot L)) (slot : Slot L) (slots : List (Slot L))
    → AreLeaving back may_read pool number first last turns start now left → left ≡ slot ∷ slots
    → LeavesAt back may_read pool now after slot → after.yard.scripts ≡ now.yard.scripts → AreLeaving back may_read pool number first last turns start after slots
leaving_next back may_read pool number first last turns start now after left slot slots was is leaves scripts =
    leave_one back may_read pool number was.next first last was.at turns was.rest start now after slot slots
    (subst (λ ss. AreWaiting back may_read pool now.yard.scripts was.next was.at was.rest last ss) is was.waiting) was.go_on leaves scripts

none_left : {L : Type 0} (back : L → BackOf) (may_read : ℕ → Type 0) (pool : PoolOf) (scripts : Option YardOf) (number : ℕ) (at last : FilesOf) (rest : List Turn)
    → AreWaiting back may_read pool scripts number at rest last [] → (rest ≡ []) × (last ≡ at)
none_left back may_read pool scripts number at last [] are = (refl, are)
none_left back may_read pool scripts number at last (turn ∷ rest) are = absurd are

pub leaving_all : {L : Type 0} (back : L → BackOf) (may_read : ℕ → Type 0) (pool : PoolOf) (number : ℕ) (first last : FilesOf) (turns : List Turn) (start now : World) (left : List (Slot L))
    → AreLeaving back may_read pool number first last turns start now left → left ≡ [] → GoUntold may_read pool number turns first last start now
leaving_all back may_read pool number first last turns start now left was is =
    let none = none_left back may_read pool now.yard.scripts was.next was.at last was.rest (subst (λ ss. AreWaiting back may_read pool now.yard.scripts was.next was.at was.rest last ss) is was.waiting) in
    was.go_on now (subst (λ ts. GoUntold may_read pool was.next ts was.at last now now) (sym none.0) ([], tt, none.1, refl, All-nil (λ (n : Moments). n.pool ≡ Some pool)))

untold_of_more : (may_read : ℕ → Type 0) (number : ℕ) (turns more : List Turn) (ms : List Moments) → AreUntold may_read number turns ms → AreUntold may_read number (turns ++ more) ms
untold_of_more may_read number [] more [] are = are
untold_of_more may_read number (turn ∷ turns) more [] are = are
untold_of_more may_read number [] more (m ∷ ms) are = absurd are
untold_of_more may_read number (turn ∷ turns) more (m ∷ ms) are = (are.0, untold_of_more may_read (number + 1) turns more ms are.1)

-- ---- turns that are shown

-- turns run, from these files and this moment on, after this exit status; some more may be left untold
abbrev pub GoShown : (ℕ → Type 0) → PoolOf → ℕ → ℕ → List Turn → List TaskEnd → Exit → FilesOf → FilesOf → World → World → Type 0
GoShown may_read pool number so_far turns ends exit at last now finish =
    (ms : List Moments) × (untold : List Moments) × TurnsRan may_read number so_far turns ms ends exit × ((untold ≡ []) ⊎ (exit ≡ Cut)) × AreUntold may_read (number + length ms) (drop (length ms) turns) untold
    × ArePrepared at (ms ++ untold) last × AreShown now (ms ++ untold) finish × All (λ m. m.pool ≡ Some pool) (ms ++ untold)

-- Some turns were shown, these slots hold those after them, and there are some more.
pub record AreShowing {L : Type 0} (back : L → BackOf) (may_read : ℕ → Type 0) (pool : PoolOf) (first last : FilesOf) (turns more : List Turn) (start now : World) (slots : List (Slot L)) (done : Done) : Type 0 where
  pub at : FilesOf
  pub rest : List Turn
  pub waiting : AreWaiting back may_read pool now.yard.scripts (length done.ends.items) at rest last slots
  pub go_on : (ends : List TaskEnd) (finish : World) (exit : Exit) → GoShown may_read pool (length done.ends.items) done.rc (rest ++ more) ends exit at last now finish
      → GoShown may_read pool 0 0 turns (done.ends.items ++ ends) exit first last start finish

-- all wait when the first one is to be shown
pub showing_none : {L : Type 0} (back : L → BackOf) (may_read : ℕ → Type 0) (pool : PoolOf) (first last : FilesOf) (turns some more : List Turn) (start : World) (slots : List (Slot L)) (done : Done) → some ++ more ≡ turns → done.rc ≡ 0 → done.ends.items ≡ []
    → AreWaiting back may_read pool start.yard.scripts 0 first some last slots → AreShowing back may_read pool first last turns more start start slots done
showing_none back may_read pool first last turns some more start slots done all rc none are = record {
  at = first;
  rest = some;
  waiting = subst (λ n. AreWaiting back may_read pool start.yard.scripts n first some last slots) (sym (ap length none)) are;
  go_on = λ ends finish exit go.
      let from = subst (λ n. GoShown may_read pool n 0 (some ++ more) ends exit first last start finish) (ap length none) (subst (λ r. GoShown may_read pool (length done.ends.items) r (some ++ more) ends exit first last start finish) rc go) in
      subst (λ ts. GoShown may_read pool 0 0 ts (done.ends.items ++ ends) exit first last start finish) all (subst (λ es. GoShown may_read pool 0 0 (some ++ more) (es ++ ends) exit first last start finish) (sym none) from);
}

-- what is known of a turn that was shown
abbrev pub ShowsAt : {L : Type 0} (back : L → BackOf) → (ℕ → Type 0) → PoolOf → World → World → Slot L → TaskEnd → Exit → Type 0
ShowsAt back may_read pool now after slot end exit =
    (got put : FilesOf) (turn : Turn) → Holds slot (IsAt back may_read pool now.yard.scripts slot.number got put turn)
    → TurnRan may_read slot.number (record { got = got; put = put; pool = Some pool; before = now; after = after }) turn end exit

turn_at : {L : Type 0} (back : L → BackOf) (may_read : ℕ → Type 0) (pool : PoolOf) (number : ℕ) (at put : FilesOf) (turn : Turn) (now after : World) (slot : Slot L) (end : TaskEnd) (exit : Exit) → slot.number ≡ number
    → Holds slot (IsAt back may_read pool now.yard.scripts number at put turn) → ShowsAt back may_read pool now after slot end exit
    → TurnRan may_read number (record { got = at; put = put; pool = Some pool; before = now; after = after }) turn end exit
turn_at back may_read pool number at put turn now after slot end exit is holds shows =
    subst (λ n. TurnRan may_read n (record { got = at; put = put; pool = Some pool; before = now; after = after }) turn end exit) is
    (shows at put turn (subst (λ n. Holds slot (IsAt back may_read pool now.yard.scripts n at put turn)) (sym is) holds))

next_place : (number count : ℕ) → (number + 1) + count ≡ number + suc count
next_place number count = omega arith

-- the turns that follow one that was shown
go_next : (may_read : ℕ → Type 0) (pool : PoolOf) (number so_far : ℕ) (turn : Turn) (turns : List Turn) (end : TaskEnd) (ends : List TaskEnd) (rc : ℕ) (exit : Exit) (at put last : FilesOf) (now after finish : World)
    → TurnRan may_read number (record { got = at; put = put; pool = Some pool; before = now; after = after }) turn end (Code rc)
    → GoShown may_read pool (number + 1) (bit_or so_far rc) turns ends exit put last after finish → GoShown may_read pool number so_far (turn ∷ turns) (end ∷ ends) exit at last now finish
go_next may_read pool number so_far turn turns end ends rc exit at put last now after finish ran go =
    let m : Moments = record { got = at; put = put; pool = Some pool; before = now; after = after } in (
      m ∷ go.0,
      go.1,
      inr (rc, ran, go.2),
      go.3,
      subst (λ n. AreUntold may_read n (drop (length go.0) turns) go.1) (next_place number (length go.0)) go.4,
      (refl, go.5),
      (refl, go.6),
      All-cons (λ (n : Moments). n.pool ≡ Some pool) m (go.0 ++ go.1) refl go.7,
    )

-- a turn that cut the run short, after which the others aren't told
go_cut : (may_read : ℕ → Type 0) (pool : PoolOf) (number so_far : ℕ) (turn : Turn) (rest more : List Turn) (end : TaskEnd) (at put last : FilesOf) (now after finish : World)
    → TurnRan may_read number (record { got = at; put = put; pool = Some pool; before = now; after = after }) turn end Cut
    → GoUntold may_read pool (number + 1) rest put last after finish → GoShown may_read pool number so_far ((turn ∷ rest) ++ more) (end ∷ []) Cut at last now finish
go_cut may_read pool number so_far turn rest more end at put last now after finish ran left =
    let m : Moments = record { got = at; put = put; pool = Some pool; before = now; after = after } in (
      m ∷ [],
      left.0,
      inl (ran, refl, refl, refl),
      inr refl,
      untold_of_more may_read (number + 1) rest more left.0 left.1,
      (refl, left.2),
      (refl, left.3),
      All-cons (λ (n : Moments). n.pool ≡ Some pool) m left.0 refl left.4,
    )

one_longer : {X : Type 0} (old new : List X) (x : X) → new ≡ old ++ x ∷ [] → length new ≡ length old + 1
one_longer old new x is = ap length is ∙ length-append old (x ∷ [])

show_one : {L : Type 0} (back : L → BackOf) (may_read : ℕ → Type 0) (pool : PoolOf) (first last at : FilesOf) (turns rest more : List Turn) (start now after : World) (slot : Slot L) (slots : List (Slot L)) (old new : Done) (end : TaskEnd) (rc : ℕ)
    → AreWaiting back may_read pool now.yard.scripts (length old.ends.items) at rest last (slot ∷ slots)
    → ((ends : List TaskEnd) (finish : World) (exit : Exit) → GoShown may_read pool (length old.ends.items) old.rc (rest ++ more) ends exit at last now finish → GoShown may_read pool 0 0 turns (old.ends.items ++ ends) exit first last start finish)
    → ShowsAt back may_read pool now after slot end (Code rc) → after.yard.scripts ≡ now.yard.scripts → new.rc ≡ bit_or old.rc rc → new.ends.items ≡ old.ends.items ++ end ∷ []
    → AreShowing back may_read pool first last turns more start after slots new
show_one back may_read pool first last at turns [] more start now after slot slots old new end rc are go_on shows scripts code ends_are = absurd are
show_one back may_read pool first last at turns (turn ∷ rest) more start now after slot slots old new end rc are go_on shows scripts code ends_are =
    let count = one_longer old.ends.items new.ends.items end ends_are in
    let own = turn_at back may_read pool (length old.ends.items) at are.0 turn now after slot end (Code rc) are.1 are.2 shows in
    record {
      at = are.0;
      rest = rest;
      waiting = subst (λ n. AreWaiting back may_read pool after.yard.scripts n are.0 rest last slots) (sym count)
          (subst (λ s. AreWaiting back may_read pool s (length old.ends.items + 1) are.0 rest last slots) (sym scripts) are.3);
      go_on = λ ends finish exit go.
          let from = subst (λ n. GoShown may_read pool n (bit_or old.rc rc) (rest ++ more) ends exit are.0 last after finish) count
          (subst (λ r. GoShown may_read pool (length new.ends.items) r (rest ++ more) ends exit are.0 last after finish) code go) in
          let all = go_on (end ∷ ends) finish exit (go_next may_read pool (length old.ends.items) old.rc turn (rest ++ more) end ends rc exit at are.0 last now after finish own from) in
          subst (λ es. GoShown may_read pool 0 0 turns es exit first last start finish) (sym (ap (λ es. es ++ ends) ends_are ∙ append_assoc old.ends.items (end ∷ []) ends)) all;
    }

pub showing_next : {L : Type 0} (back : L → BackOf) (may_read : ℕ → Type 0) (pool : PoolOf) (first last : FilesOf) (turns more : List Turn) (start now after : World) (left : List (Slot L)) (slot : Slot L) (slots : List (Slot L)) (old new : Done) (end : TaskEnd) (rc : ℕ)
    → AreShowing back may_read pool first last turns more start now left old → left ≡ slot ∷ slots
    → ShowsAt back may_read pool now after slot end (Code rc) → after.yard.scripts ≡ now.yard.scripts → new.rc ≡ bit_or old.rc rc → new.ends.items ≡ old.ends.items ++ end ∷ []
    → AreShowing back may_read pool first last turns more start after slots new
showing_next back may_read pool first last turns more start now after left slot slots old new end rc was is shows scripts code ends_are =
    show_one back may_read pool first last was.at turns was.rest more start now after slot slots old new end rc
    (subst (λ ss. AreWaiting back may_read pool now.yard.scripts (length old.ends.items) was.at was.rest last ss) is was.waiting) was.go_on shows scripts code ends_are

first_held : {L : Type 0} (back : L → BackOf) (may_read : ℕ → Type 0) (pool : PoolOf) (scripts : Option YardOf) (number : ℕ) (at last : FilesOf) (rest : List Turn) (slot : Slot L) (slots : List (Slot L))
    → AreWaiting back may_read pool scripts number at rest last (slot ∷ slots)
    → (got : FilesOf) × (put : FilesOf) × (turn : Turn) × Holds slot (IsAt back may_read pool scripts slot.number got put turn)
first_held back may_read pool scripts number at last [] slot slots are = absurd are
first_held back may_read pool scripts number at last (turn ∷ rest) slot slots are = (at, are.0, turn, subst (λ n. Holds slot (IsAt back may_read pool scripts n at are.0 turn)) (sym are.1) are.2)

-- the next slot holds a turn
pub showing_first : {L : Type 0} (back : L → BackOf) (may_read : ℕ → Type 0) (pool : PoolOf) (first last : FilesOf) (turns more : List Turn) (start now : World) (left : List (Slot L)) (slot : Slot L) (slots : List (Slot L)) (done : Done)
    → AreShowing back may_read pool first last turns more start now left done → left ≡ slot ∷ slots
    → (got : FilesOf) × (put : FilesOf) × (turn : Turn) × Holds slot (IsAt back may_read pool now.yard.scripts slot.number got put turn)
showing_first back may_read pool first last turns more start now left slot slots done was is =
    first_held back may_read pool now.yard.scripts (length done.ends.items) was.at last was.rest slot slots
    (subst (λ ss. AreWaiting back may_read pool now.yard.scripts (length done.ends.items) was.at was.rest last ss) is was.waiting)

-- those that are left after a failed call of the sink
abbrev pub LeavesAll : {L : Type 0} (back : L → BackOf) → (ℕ → Type 0) → PoolOf → World → World → List (Slot L) → Type 0
LeavesAll back may_read pool now finish slots =
    (number : ℕ) (at last : FilesOf) (turns : List Turn) → AreWaiting back may_read pool now.yard.scripts number at turns last slots → GoUntold may_read pool number turns at last now finish

cut_one : {L : Type 0} (back : L → BackOf) (may_read : ℕ → Type 0) (pool : PoolOf) (first last at : FilesOf) (turns rest more : List Turn) (start now after finish : World) (slot : Slot L) (slots : List (Slot L)) (old : Done) (end : TaskEnd)
    → AreWaiting back may_read pool now.yard.scripts (length old.ends.items) at rest last (slot ∷ slots)
    → ((ends : List TaskEnd) (finish : World) (exit : Exit) → GoShown may_read pool (length old.ends.items) old.rc (rest ++ more) ends exit at last now finish → GoShown may_read pool 0 0 turns (old.ends.items ++ ends) exit first last start finish)
    → ShowsAt back may_read pool now after slot end Cut → after.yard.scripts ≡ now.yard.scripts → LeavesAll back may_read pool after finish slots
    → GoShown may_read pool 0 0 turns (old.ends.items ++ end ∷ []) Cut first last start finish
cut_one back may_read pool first last at turns [] more start now after finish slot slots old end are go_on shows scripts leaves = absurd are
cut_one back may_read pool first last at turns (turn ∷ rest) more start now after finish slot slots old end are go_on shows scripts leaves =
    let own = turn_at back may_read pool (length old.ends.items) at are.0 turn now after slot end Cut are.1 are.2 shows in
    let left = leaves (length old.ends.items + 1) are.0 last rest (subst (λ s. AreWaiting back may_read pool s (length old.ends.items + 1) are.0 rest last slots) (sym scripts) are.3) in
    go_on (end ∷ []) finish Cut (go_cut may_read pool (length old.ends.items) old.rc turn rest more end at are.0 last now after finish own left)

pub showing_cut : {L : Type 0} (back : L → BackOf) (may_read : ℕ → Type 0) (pool : PoolOf) (first last : FilesOf) (turns more : List Turn) (start now after finish : World) (left : List (Slot L)) (slot : Slot L) (slots : List (Slot L)) (old : Done) (end : TaskEnd)
    → AreShowing back may_read pool first last turns more start now left old → left ≡ slot ∷ slots
    → ShowsAt back may_read pool now after slot end Cut → after.yard.scripts ≡ now.yard.scripts → LeavesAll back may_read pool after finish slots
    → GoShown may_read pool 0 0 turns (old.ends.items ++ end ∷ []) Cut first last start finish
showing_cut back may_read pool first last turns more start now after finish left slot slots old end was is shows scripts leaves =
    cut_one back may_read pool first last was.at turns was.rest more start now after finish slot slots old end
    (subst (λ ss. AreWaiting back may_read pool now.yard.scripts (length old.ends.items) was.at was.rest last ss) is was.waiting) was.go_on shows scripts leaves

-- the exit status where no turn is left to be shown: memory ran out for the name of the next one, where there are more
abbrev pub last_code : ℕ → List Turn → ℕ
last_code so_far [] = so_far
last_code so_far (turn ∷ turns) = bit_or so_far 32

pub code_of_all : (so_far n : ℕ) (turns : List Turn) → length turns ≡ n → last_code so_far (drop n turns) ≡ so_far
code_of_all so_far n turns all = ap (last_code so_far) (drop_all n turns (omega (arith, all)))

pub code_of_few : (so_far n : ℕ) (turns : List Turn) → n < length turns → last_code so_far (drop n turns) ≡ bit_or so_far 32
code_of_few so_far n [] few = absurd (omega (arith, few))
code_of_few so_far zero (turn ∷ turns) few = refl
code_of_few so_far (suc n) (turn ∷ turns) few = code_of_few so_far n turns (omega (arith, few))

go_none : (may_read : ℕ → Type 0) (pool : PoolOf) (number so_far : ℕ) (more : List Turn) (at last : FilesOf) (now : World) → last ≡ at → GoShown may_read pool number so_far more [] (Code (last_code so_far more)) at last now now
go_none may_read pool number so_far [] at last now is = ([], [], refl, inl refl, tt, is, refl, All-nil (λ (n : Moments). n.pool ≡ Some pool))
go_none may_read pool number so_far (turn ∷ more) at last now is = ([], [], refl, inl refl, tt, is, refl, All-nil (λ (n : Moments). n.pool ≡ Some pool))

pub showing_all : {L : Type 0} (back : L → BackOf) (may_read : ℕ → Type 0) (pool : PoolOf) (first last : FilesOf) (turns more : List Turn) (start now : World) (left : List (Slot L)) (done : Done)
    → AreShowing back may_read pool first last turns more start now left done → left ≡ [] → GoShown may_read pool 0 0 turns done.ends.items (Code (last_code done.rc more)) first last start now
showing_all back may_read pool first last turns more start now left done was is =
    let none = none_left back may_read pool now.yard.scripts (length done.ends.items) was.at last was.rest
    (subst (λ ss. AreWaiting back may_read pool now.yard.scripts (length done.ends.items) was.at was.rest last ss) is was.waiting) in
    let code = Code (last_code done.rc more) in
    subst (λ es. GoShown may_read pool 0 0 turns es code first last start now) (append-nil done.ends.items)
    (was.go_on [] now code
    (subst (λ ts. GoShown may_read pool (length done.ends.items) done.rc (ts ++ more) [] code was.at last now now) (sym none.0) (go_none may_read pool (length done.ends.items) done.rc more was.at last now none.1)))

-- ---- all of them

first_place : (count : ℕ) → 0 + count ≡ count
first_place count = omega arith

pub ran_together : {L : Type 0} (back : L → BackOf) (may_read : ℕ → Type 0) (pool : PoolOf) (start ready : World) (turns : List Turn) (is_all : Bool) (slots : List (Slot L)) (ends : List TaskEnd) (exit : Exit) (finish : World)
    → AreSlotted back may_read pool start ready turns is_all slots → GoShown may_read pool 0 0 turns ends exit (files_of start) (files_of ready) ready finish → RanUnder (Some pool.most) may_read start turns ends finish exit
ran_together back may_read pool start ready turns is_all slots ends exit finish slotted go = (
  go.0,
  go.2,
  (
    go.1,
    go.3,
    subst (λ n. AreUntold may_read n (drop (length go.0) turns) go.1) (first_place (length go.0)) go.4,
    record {
      pool = share_one pool.most pool (go.0 ++ go.1) refl go.7;
      ready = ready;
      prepared = go.5;
      spared = slotted.spared;
      silent = slotted.silent;
      shown = go.6;
    },
  ),
)
