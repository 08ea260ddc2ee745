-- What one event does to what is kept of a keeper, of looks and of a settle.
use Rattle.std.proofs.Common.{◌≡◌, ◌⊎◌, ℕ, Bool, true, false, cond, ◌==◌, ◌||◌, List, [], ◌∷◌, ◌++◌, Option, Some, None, refl, sym, ap, ◌∙◌, subst, inl, inr}
use Rattle.std.proofs.lemmas.Bool.{cases_eq}
use Rattle.race_core.specs.Report.{EventsOf}
use Rattle.race_core.specs.Parts.{Terms, by_of, judged, after_read, after_file, after_settle, after_want, reader_after, reader_of, after_look, ending, tells_ending, shows_limit, comes_due, turns, after_kill, keeper_after, RightReader, RightKeeper}
use Rattle.race_core.specs.Ends.{IsKilled}
use Rattle.race_law.specs.World.{Script, Holds, Exchanges, Stays, Meets, IsQuiet, ends_job}
use Rattle.race_law.specs.Invariant.{FromScript, ReasonOk, KeeperOk, LooksOk, WonOk}
use Rattle.race_core.specs.declared.event.Judged.{Judged}
use Rattle.race_core.specs.declared.event.Judged.TheVariants as progress
use Rattle.race_core.specs.declared.event.Polled.TheVariants as polled
use Rattle.race_core.specs.declared.event.LaneEvent.{LaneEvent}
use Rattle.race_core.specs.declared.event.LaneEvent.TheVariants as event
use Rattle.race_core.specs.declared.part.By.{By}
use Rattle.race_core.specs.declared.part.By.TheVariants as by
use Rattle.race_core.specs.declared.part.Reader.{Reader}
use Rattle.race_core.specs.declared.part.Reader.TheVariants as reader
use Rattle.race_core.specs.declared.part.Keeper.{Keeper}
use Rattle.race_core.specs.declared.part.Keeper.TheVariants as keeper
use Rattle.race_core.specs.declared.part.Reason.{Reason}
use Rattle.race_core.specs.declared.part.Reason.TheVariants as reason

-- a cell that is set stays
abbrev pub Grows : {T : Type 0} → (ℕ → Option T) → (ℕ → Option T) → Type 0
Grows {T} before after = (c : ℕ) (f : T) → before c ≡ Some f → after c ≡ Some f

reason-grows : {T : Type 0} (needless : T → Bool) (before after : ℕ → Option T) (Q : Type 0) → Grows before after → (why : Reason T) → ReasonOk needless before Q why → ReasonOk needless after Q why
reason-grows needless before after Q h (reason.Skip f) o = (o.0, (o.1.0, h o.1.0 f o.1.1))
reason-grows needless before after Q h (reason.Needless f) o = (o.0, (o.1.0, h o.1.0 f o.1.1))
reason-grows needless before after Q h (reason.Limit t) o = o
reason-grows needless before after Q h reason.Fault o = o
reason-grows needless before after Q h reason.Memory o = o

pub keeper-grows : {T : Type 0} (needless : T → Bool) (before after : ℕ → Option T) (Q : Type 0) → Grows before after → (k : Keeper T) → KeeperOk needless before Q k → KeeperOk needless after Q k
keeper-grows needless before after Q h (keeper.Due why) o = reason-grows needless before after Q h why o
keeper-grows needless before after Q h (keeper.Killed why) o = reason-grows needless before after Q h why o
keeper-grows needless before after Q h k o = tt

pub looks-grow : {T : Type 0} (before after : ℕ → Option T) → Grows before after → (es : List (LaneEvent T)) → LooksOk before es → LooksOk after es
looks-grow before after h [] o = tt
looks-grow before after h (event.Look c (Some f) ∷ es) o = (h c f o.0, looks-grow before after h es o.1)
looks-grow before after h (e ∷ es) o = looks-grow before after h es o

pub won-grows : {T : Type 0} (before after : ℕ → Option T) → Grows before after → (j : ℕ) (r : Reader T) → WonOk before j r → WonOk after j r
won-grows before after h j (reader.Found f b true) o = h j f o
won-grows before after h j r o = tt

pub looks-append : {T : Type 0} (cells : ℕ → Option T) (es : List (LaneEvent T)) (e : LaneEvent T) → LooksOk cells es → LooksOk cells (e ∷ []) → LooksOk cells (es ++ e ∷ [])
looks-append cells [] e o n = n
looks-append cells (event.Look c (Some f) ∷ es) e o n = (o.0, looks-append cells es e o.1 n)
looks-append cells (x ∷ es) e o n = looks-append cells es e o n

due-ok : {T : Type 0} (needless : T → Bool) (cells : ℕ → Option T) (Q : Type 0) (why : Reason T) (k : Keeper T) → ReasonOk needless cells Q why → KeeperOk needless cells Q (comes_due why k)
due-ok needless cells Q why keeper.Fresh o = o
due-ok needless cells Q why keeper.Looked o = o
due-ok needless cells Q why keeper.Turning o = o
due-ok needless cells Q why k o = tt

turns-ok : {T : Type 0} (needless : T → Bool) (cells : ℕ → Option T) (Q : Type 0) (k : Keeper T) → KeeperOk needless cells Q (turns k)
turns-ok needless cells Q keeper.Fresh = tt
turns-ok needless cells Q keeper.Looked = tt
turns-ok needless cells Q keeper.Turning = tt
turns-ok needless cells Q k = tt

kill-ok : {T : Type 0} (needless : T → Bool) (cells : ℕ → Option T) (Q : Type 0) (k : Keeper T) → KeeperOk needless cells Q k → KeeperOk needless cells Q (after_kill k)
kill-ok needless cells Q (keeper.Due why) o = o
kill-ok needless cells Q k o = tt

look-none : {T : Type 0} (needless : T → Bool) (cells : ℕ → Option T) (Q : Type 0) (own : Bool) (tells : Bool) (k : Keeper T) → KeeperOk needless cells Q (after_look own None tells k)
look-none needless cells Q own tells keeper.Fresh = tt
look-none needless cells Q true tells keeper.Looked = tt
look-none needless cells Q false tells keeper.Looked = tt
look-none needless cells Q own tells keeper.Turning = tt
look-none needless cells Q own tells k = tt

look-other : {T : Type 0} (needless : T → Bool) (cells : ℕ → Option T) (Q : Type 0) (own : Bool) (f : T) (k : Keeper T) → KeeperOk needless cells Q (after_look own (Some f) false k)
look-other needless cells Q own f keeper.Fresh = tt
look-other needless cells Q true f keeper.Looked = tt
look-other needless cells Q false f keeper.Looked = tt
look-other needless cells Q own f keeper.Turning = tt
look-other needless cells Q own f k = tt

look-ok : {T : Type 0} (needless : T → Bool) (cells : ℕ → Option T) (Q : Type 0) (own : Bool) (known : Option T) (tells : Bool) (k : Keeper T)
    → ((f : T) → known ≡ Some f → tells ≡ true → (needless f ≡ true) × ((c : ℕ) × (cells c ≡ Some f))) → KeeperOk needless cells Q (after_look own known tells k)
look-ok needless cells Q own (Some f) true keeper.Fresh h = h f refl refl
look-ok needless cells Q true (Some f) true keeper.Looked h = h f refl refl
look-ok needless cells Q false (Some f) true keeper.Looked h = h f refl refl
look-ok needless cells Q own (Some f) true keeper.Turning h = h f refl refl
look-ok needless cells Q own (Some f) true keeper.Wrong h = tt
look-ok needless cells Q own (Some f) true (keeper.Due why) h = tt
look-ok needless cells Q own (Some f) true (keeper.Killed why) h = tt
look-ok needless cells Q own None tells k h = look-none needless cells Q own tells k
look-ok needless cells Q own (Some f) false k h = look-other needless cells Q own f k

tells-known : {T : Type 0} (needless : T → Bool) (known : Option T) (f : T) → known ≡ Some f → tells_ending needless known ≡ true → needless f ≡ true
tells-known needless None f e t = absurd (let h : None ≡ Some f = e in cc)
tells-known needless (Some g) f e t = let h : g ≡ f = cc in subst (λ x. needless x ≡ true) h t

or-left : (x y : Bool) → x ≡ true → x || y ≡ true
or-left true y h = refl
or-left false y h = absurd (let e : false ≡ true = h in cc)

or-right : (x y : Bool) → y ≡ true → x || y ≡ true
or-right true y h = refl
or-right false y h = h

-- a finding that skips the job ends it
pub skipped-ends : {T : Type 0} (a : Terms T) (f : T) → a.skipped f ≡ true → ends_job a f ≡ true
skipped-ends a f h = or-left (a.skipped f) (a.needless f) h

needless-ends : {T : Type 0} (a : Terms T) (f : T) → a.needless f ≡ true → ends_job a f ≡ true
needless-ends a f h = or-right (a.skipped f) (a.needless f) h

ending-ends : {T : Type 0} (a : Terms T) (own : Bool) (k : Keeper T) (f : T) → ending a own k f ≡ true → ends_job a f ≡ true
ending-ends a own keeper.Fresh f h = skipped-ends a f h
ending-ends a true keeper.Looked f h = needless-ends a f h
ending-ends a false keeper.Looked f h = skipped-ends a f h
ending-ends a own keeper.Turning f h = needless-ends a f h
ending-ends a own (keeper.Due why) f h = needless-ends a f h
ending-ends a own (keeper.Killed why) f h = needless-ends a f h
ending-ends a own keeper.Wrong f h = needless-ends a f h

clock-ok : {T : Type 0} (needless : T → Bool) (cells : ℕ → Option T) (Q : Type 0) (t : ℕ) (k : Keeper T) (shows : Bool) → (shows ≡ false) ⊎ Q → KeeperOk needless cells Q (cond shows (comes_due (reason.Limit t) k) (turns k))
clock-ok needless cells Q t k true o = due-ok needless cells Q (reason.Limit t) k (elim o [ inl e ↦ absurd (let h : true ≡ false = e in cc) | inr q ↦ q ])
clock-ok needless cells Q t k false o = turns-ok needless cells Q k

-- a look at a cell
abbrev pub LookMeets : {T : Type 0} → (ℕ → Option T) → LaneEvent T → Type 0
LookMeets cells (event.Look c known) = known ≡ cells c
LookMeets cells e = Unit

pub keeper-step : {T : Type 0} (a : Terms T) (cells : ℕ → Option T) (Q : Type 0) (e : LaneEvent T) (k : Keeper T)
    → KeeperOk (ends_job a) cells Q k → LookMeets cells e → IsQuiet a e ⊎ Q → KeeperOk (ends_job a) cells Q (keeper_after a e k)
keeper-step a cells Q (event.Poll polled.Failed) k o m q = due-ok (ends_job a) cells Q reason.Fault k (elim q [ inl quiet ↦ absurd (quiet refl) | inr x ↦ x ])
keeper-step a cells Q (event.Poll polled.Exited) k o m q = turns-ok (ends_job a) cells Q k
keeper-step a cells Q (event.Turns n) k o m q = turns-ok (ends_job a) cells Q k
keeper-step a cells Q (event.Clock t) k o m q = clock-ok (ends_job a) cells Q t k (shows_limit a.start a.limit t) q
keeper-step a cells Q (event.Look c known) k o m q =
    look-ok (ends_job a) cells Q (c == a.cell) known (tells_ending (ending a (c == a.cell) k) known) k (λ f e t. (ending-ends a (c == a.cell) k f (tells-known (ending a (c == a.cell) k) known f e t), (c, sym m ∙ e)))
keeper-step a cells Q event.Kill k o m q = kill-ok (ends_job a) cells Q k o
keeper-step a cells Q event.KeeperMemory k o m q = due-ok (ends_job a) cells Q reason.Memory k (elim q [ inl quiet ↦ absurd quiet | inr x ↦ x ])
keeper-step a cells Q event.Took k o m q = o
keeper-step a cells Q event.Start k o m q = o
keeper-step a cells Q event.Finish k o m q = o
keeper-step a cells Q event.Gave k o m q = o
keeper-step a cells Q e k o m q = tt

-- a kill stays
poll-right : {T : Type 0} (why : Reason T) (k : Keeper T) → IsKilled k → RightKeeper (comes_due why k) → ⊥
poll-right why (keeper.Killed w) killed right = right
poll-right why k killed right = killed

turn-right : {T : Type 0} (k : Keeper T) → IsKilled k → RightKeeper (turns k) → ⊥
turn-right (keeper.Killed w) killed right = right
turn-right k killed right = killed

clock-right : {T : Type 0} (t : ℕ) (shows : Bool) (k : Keeper T) → IsKilled k → RightKeeper (cond shows (comes_due (reason.Limit t) k) (turns k)) → ⊥
clock-right t true k killed right = poll-right (reason.Limit t) k killed right
clock-right t false k killed right = turn-right k killed right

look-right : {T : Type 0} (own : Bool) (known : Option T) (tells : Bool) (k : Keeper T) → IsKilled k → RightKeeper (after_look own known tells k) → ⊥
look-right own (Some f) true (keeper.Killed w) killed right = right
look-right own (Some f) false (keeper.Killed w) killed right = right
look-right own None tells (keeper.Killed w) killed right = right
look-right own known tells k killed right = killed

kill-right : {T : Type 0} (k : Keeper T) → IsKilled k → RightKeeper (after_kill k) → ⊥
kill-right (keeper.Killed w) killed right = right
kill-right k killed right = killed

pub killed-stays : {T : Type 0} (a : Terms T) (e : LaneEvent T) (k : Keeper T) → RightKeeper (keeper_after a e k) → IsKilled k → IsKilled (keeper_after a e k)
killed-stays a (event.Poll polled.Failed) k right killed = absurd (poll-right reason.Fault k killed right)
killed-stays a (event.Poll polled.Exited) k right killed = absurd (turn-right k killed right)
killed-stays a (event.Turns n) k right killed = absurd (turn-right k killed right)
killed-stays a (event.Clock t) k right killed = absurd (clock-right t (shows_limit a.start a.limit t) k killed right)
killed-stays a (event.Look c known) k right killed = absurd (look-right (c == a.cell) known (tells_ending (ending a (c == a.cell) k) known) k killed right)
killed-stays a event.Kill k right killed = absurd (kill-right k killed right)
killed-stays a event.KeeperMemory k right killed = absurd (poll-right reason.Memory k killed right)
killed-stays a event.Took k right killed = killed
killed-stays a event.Start k right killed = killed
killed-stays a event.Finish k right killed = killed
killed-stays a event.Gave k right killed = killed
killed-stays a e k right killed = absurd right

-- no read, file or want makes a finding settled
judged-won : {T : Type 0} (cells : ℕ → Option T) (j : ℕ) (b : By) (p : Judged T) → WonOk cells j (judged b p)
judged-won cells j by.Bytes progress.More = tt
judged-won cells j by.Close progress.More = tt
judged-won cells j by.File progress.More = tt
judged-won cells j b (progress.Found f) = tt
judged-won cells j b p = tt

pub read-won : {T : Type 0} (cells : ℕ → Option T) (j n : ℕ) (p : Judged T) (r : Reader T) → WonOk cells j (after_read n p r)
read-won cells j n p reader.Fresh = judged-won cells j (by_of n) p
read-won cells j n p reader.Reading = judged-won cells j (by_of n) p
read-won cells j n p r = tt

pub file-won : {T : Type 0} (cells : ℕ → Option T) (j : ℕ) (p : Judged T) (r : Reader T) → WonOk cells j (after_file p r)
file-won cells j p reader.Asking = judged-won cells j by.File p
file-won cells j p r = tt

pub want-won : {T : Type 0} (cells : ℕ → Option T) (j : ℕ) (r : Reader T) → WonOk cells j (after_want r)
want-won cells j reader.Fresh = tt
want-won cells j reader.Reading = tt
want-won cells j reader.Asking = tt
want-won cells j reader.Unjudged = tt
want-won cells j (reader.Holding f b) = tt
want-won cells j r = tt

pub settle-won : {T : Type 0} (cells after : ℕ → Option T) (j : ℕ) (won : Bool) (r : Reader T) → Exchanges j r won cells after → WonOk after j (after_settle won r)
settle-won cells after j true (reader.Holding f b) x = let same : x.1.0 ≡ f = sym x.1.1 in let at : after j ≡ Some x.1.0 = x.1.2 in cc
settle-won cells after j false (reader.Holding f b) x = tt
settle-won cells after j won r x = tt

-- want and settle leave what is from the script
pub want-script : {T : Type 0} (P : T → Type 0) (script : Option (Script T)) (taken : ℕ) (K : Type 0) (r : Reader T) → FromScript P script taken K (after_want r)
want-script P script taken K reader.Fresh = tt
want-script P script taken K reader.Reading = tt
want-script P script taken K reader.Asking = tt
want-script P script taken K reader.Unjudged = tt
want-script P script taken K (reader.Holding f b) = tt
want-script P script taken K r = tt

pub settle-script : {T : Type 0} (P : T → Type 0) (script : Option (Script T)) (taken : ℕ) (K : Type 0) (won : Bool) (r : Reader T) → FromScript P script taken K r → FromScript P script taken K (after_settle won r)
settle-script P script taken K won (reader.Holding f b) o = o
settle-script P script taken K won r o = tt

-- what is settled stays so
pub found-stays : {T : Type 0} (e : LaneEvent T) (f : T) (b : By) (won : Bool) → RightReader (reader_after e (reader.Found f b won)) → ⊥
found-stays (event.Read n p) f b won right = right
found-stays (event.File n p) f b won right = right
found-stays (event.Settle w) f b won right = right
found-stays event.ReaderMemory f b won right = right
found-stays e f b won right = right

-- the cells only grow
stays-grows : {T : Type 0} (before after : ℕ → Option T) → Stays before after → Grows before after
stays-grows before after h c f e = h c ∙ e

exchange-grows : {T : Type 0} (j : ℕ) (r : Reader T) (won : Bool) (before after : ℕ → Option T) → Exchanges j r won before after → Grows before after
exchange-grows j r true before after x c f e =
    elim (cases_eq c j) [
      | inl same ↦ absurd (let n : before c ≡ None = ap (λ (m : ℕ). before m) same ∙ x.0 in let h : Some f ≡ None = sym e ∙ n in cc)
      | inr other ↦ x.2 c other ∙ e
    ]
exchange-grows j r false before after x c f e = x.1 c ∙ e

pub meets-grows : {T : Type 0} (script : Option (Script T)) (j : ℕ) (es : EventsOf T) (k : Keeper T) (e : LaneEvent T) (before after : ℕ → Option T) → Meets script j es k e before after → Grows before after
meets-grows script j es k (event.Read n p) before after m = stays-grows before after m.1
meets-grows script j es k (event.File n p) before after m = stays-grows before after m.1
meets-grows script j es k (event.Settle won) before after m = exchange-grows j (reader_of es) won before after m
meets-grows script j es k (event.Look c known) before after m = stays-grows before after m.1
meets-grows script j es k e before after m = stays-grows before after m

some-same : {T : Type 0} (g h : T) → Some g ≡ Some h → g ≡ h
some-same g h e = cc

-- a cell that is set now was set before, or was won by this step
pub meets-cell : {T : Type 0} (script : Option (Script T)) (j : ℕ) (es : EventsOf T) (k : Keeper T) (e : LaneEvent T) (before after : ℕ → Option T) → Meets script j es k e before after
    → (c : ℕ) (f : T) → after c ≡ Some f → (before c ≡ Some f) ⊎ ((e ≡ event.Settle true) × (c ≡ j) × (before j ≡ None) × Holds (reader_of es) f)
meets-cell script j es k (event.Read n p) before after m c f e = inl (sym (m.1 c) ∙ e)
meets-cell script j es k (event.File n p) before after m c f e = inl (sym (m.1 c) ∙ e)
meets-cell script j es k (event.Settle true) before after m c f e =
    elim (cases_eq c j) [
      | inl same ↦ inr (refl, same, m.0, subst (λ x. Holds (reader_of es) x) (some-same m.1.0 f (sym m.1.2 ∙ ap (λ (x : ℕ). after x) (sym same) ∙ e)) m.1.1)
      | inr other ↦ inl (sym (m.2 c other) ∙ e)
    ]
meets-cell script j es k (event.Settle false) before after m c f e = inl (sym (m.1 c) ∙ e)
meets-cell script j es k (event.Look d known) before after m c f e = inl (sym (m.1 c) ∙ e)
meets-cell script j es k x before after m c f e = inl (sym (m c) ∙ e)
