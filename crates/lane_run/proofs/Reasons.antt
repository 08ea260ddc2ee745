-- Why a keeper has a reason.
use Rattle.std.proofs.Common.{◌≡◌, ◌⊎◌, inl, inr, ℕ, ◌==◌, Bool, true, false, cond, List, [], ◌∷◌, ◌++◌, Some, None, refl, sym, ap, subst}
use Rattle.race_core.specs.Carrying.{Looked}
use Rattle.race_core.specs.Ends.{HasReason}
use Rattle.race_core.specs.Parts.{Terms, after_look, comes_due, ending, keeper_after, keeper_from, shows_limit, turns}
use Rattle.race_core.specs.declared.event.LaneEvent.{LaneEvent}
use Rattle.race_core.specs.declared.event.LaneEvent.TheVariants as event
use Rattle.race_core.specs.declared.event.Polled.TheVariants as polled
use Rattle.race_core.specs.declared.part.Keeper.{Keeper}
use Rattle.race_core.specs.declared.part.Keeper.TheVariants as keeper
use Rattle.race_core.specs.declared.part.Reason.{Reason}
use Rattle.race_core.specs.declared.part.Reason.TheVariants as reason
use Rattle.lane_run.specs.Keeping.{HasReading, IsReading}
use Rattle.lane_run.specs.Done.{IsLastReading}

-- the event gives a keeper this reason
abbrev pub Causes : {T : Type 0} → Terms T → LaneEvent T → Reason T → Type 0
Causes a (event.Look c (Some f)) w = ((reason.Skip f ≡ w) × (a.skipped f ≡ true)) ⊎ ((reason.Needless f ≡ w) × (a.needless f ≡ true))
Causes a (event.Look c None) w = ⊥
Causes a (event.Clock r) w = (reason.Limit r ≡ w) × (shows_limit a.start a.limit r ≡ true)
Causes a (event.Poll polled.Failed) w = reason.Fault ≡ w
Causes a (event.Poll polled.Exited) w = ⊥
Causes a event.KeeperMemory w = reason.Memory ≡ w
Causes a (event.Read n p) w = ⊥
Causes a (event.File n p) w = ⊥
Causes a (event.Settle won) w = ⊥
Causes a event.ReaderMemory w = ⊥
Causes a (event.Turns n) w = ⊥
Causes a event.Kill w = ⊥
Causes a event.Took w = ⊥
Causes a event.Start w = ⊥
Causes a event.Finish w = ⊥
Causes a event.Gave w = ⊥

-- the reason stood already, and the event has no reading; or the event gives it
abbrev Steps : {T : Type 0} → Terms T → Keeper T → LaneEvent T → Reason T → Type 0
Steps a k e w = (HasReason k w × ((r : ℕ) → IsReading r e → ⊥)) ⊎ Causes a e w

turned : {T : Type 0} (k : Keeper T) (w : Reason T) → HasReason (turns k) w → ⊥
turned keeper.Fresh w h = h
turned keeper.Looked w h = h
turned keeper.Turning w h = h
turned (keeper.Due why) w h = h
turned (keeper.Killed why) w h = h
turned keeper.Wrong w h = h

due : {T : Type 0} (why : Reason T) (k : Keeper T) (w : Reason T) → HasReason (comes_due why k) w → why ≡ w
due why keeper.Fresh w h = h
due why keeper.Looked w h = h
due why keeper.Turning w h = h
due why (keeper.Due old) w h = absurd h
due why (keeper.Killed old) w h = absurd h
due why keeper.Wrong w h = absurd h

clocked : {T : Type 0} (b : Bool) (r : ℕ) (k : Keeper T) (w : Reason T) → HasReason (cond b (comes_due (reason.Limit r) k) (turns k)) w → (reason.Limit r ≡ w) × (b ≡ true)
clocked true r k w h = (due (reason.Limit r) k w h, refl)
clocked false r k w h = absurd (turned k w h)

looked_none : {T : Type 0} (own : Bool) (k : Keeper T) (w : Reason T) → HasReason (after_look own None false k) w → ⊥
looked_none true keeper.Fresh w h = h
looked_none true keeper.Looked w h = h
looked_none true keeper.Turning w h = h
looked_none true (keeper.Due why) w h = h
looked_none true (keeper.Killed why) w h = h
looked_none true keeper.Wrong w h = h
looked_none false keeper.Fresh w h = h
looked_none false keeper.Looked w h = h
looked_none false keeper.Turning w h = h
looked_none false (keeper.Due why) w h = h
looked_none false (keeper.Killed why) w h = h
looked_none false keeper.Wrong w h = h

looked_some : {T : Type 0} (a : Terms T) (own : Bool) (f : T) (k : Keeper T) (w : Reason T) → HasReason (after_look own (Some f) (ending a own k f) k) w
    → ((reason.Skip f ≡ w) × (a.skipped f ≡ true)) ⊎ ((reason.Needless f ≡ w) × (a.needless f ≡ true))
looked_some a own f keeper.Fresh w h = skipping own (a.skipped f) refl h
  where
    skipping : (own b : Bool) → a.skipped f ≡ b → HasReason (after_look own (Some f) b keeper.Fresh) w → ((reason.Skip f ≡ w) × (a.skipped f ≡ true)) ⊎ ((reason.Needless f ≡ w) × (a.needless f ≡ true))
    skipping true true is h = inl (h, is)
    skipping false true is h = inl (h, is)
    skipping true false is h = absurd h
    skipping false false is h = absurd h
looked_some a true f keeper.Looked w h = calling (a.needless f) refl h
  where
    calling : (b : Bool) → a.needless f ≡ b → HasReason (after_look true (Some f) b keeper.Looked) w → ((reason.Skip f ≡ w) × (a.skipped f ≡ true)) ⊎ ((reason.Needless f ≡ w) × (a.needless f ≡ true))
    calling true is h = inr (h, is)
    calling false is h = absurd h
looked_some a false f keeper.Looked w h = skipping (a.skipped f) refl h
  where
    skipping : (b : Bool) → a.skipped f ≡ b → HasReason (after_look false (Some f) b keeper.Looked) w → ((reason.Skip f ≡ w) × (a.skipped f ≡ true)) ⊎ ((reason.Needless f ≡ w) × (a.needless f ≡ true))
    skipping true is h = inl (h, is)
    skipping false is h = absurd h
looked_some a own f keeper.Turning w h = calling own (a.needless f) refl h
  where
    calling : (own b : Bool) → a.needless f ≡ b → HasReason (after_look own (Some f) b keeper.Turning) w → ((reason.Skip f ≡ w) × (a.skipped f ≡ true)) ⊎ ((reason.Needless f ≡ w) × (a.needless f ≡ true))
    calling true true is h = inr (h, is)
    calling false true is h = inr (h, is)
    calling true false is h = absurd h
    calling false false is h = absurd h
looked_some a own f (keeper.Due why) w h = absurd (wrong own (a.needless f) h)
  where
    wrong : (own b : Bool) → HasReason (after_look own (Some f) b (keeper.Due why)) w → ⊥
    wrong true true h = h
    wrong false true h = h
    wrong true false h = h
    wrong false false h = h
looked_some a own f (keeper.Killed why) w h = absurd (wrong own (a.needless f) h)
  where
    wrong : (own b : Bool) → HasReason (after_look own (Some f) b (keeper.Killed why)) w → ⊥
    wrong true true h = h
    wrong false true h = h
    wrong true false h = h
    wrong false false h = h
looked_some {T} a own f keeper.Wrong w h = absurd (wrong own (a.needless f) h)
  where
    wrong : (own b : Bool) → HasReason (after_look {T = T} own (Some f) b keeper.Wrong) w → ⊥
    wrong true true h = h
    wrong false true h = h
    wrong true false h = h
    wrong false false h = h

killed : {T : Type 0} (a : Terms T) (k : Keeper T) (w : Reason T) → HasReason (keeper_after a event.Kill k) w → HasReason k w
killed a keeper.Fresh w h = h
killed a keeper.Looked w h = h
killed a keeper.Turning w h = h
killed a (keeper.Due why) w h = h
killed a (keeper.Killed why) w h = absurd h
killed a keeper.Wrong w h = h

step : {T : Type 0} (a : Terms T) (k : Keeper T) (e : LaneEvent T) (w : Reason T) → HasReason (keeper_after a e k) w → Steps a k e w
step a k (event.Look c (Some f)) w h = inr (looked_some a (c == a.cell) f k w h)
step a k (event.Look c None) w h = absurd (looked_none (c == a.cell) k w h)
step a k (event.Clock r) w h = inr (clocked (shows_limit a.start a.limit r) r k w h)
step a k (event.Poll polled.Failed) w h = inr (due reason.Fault k w h)
step a k (event.Poll polled.Exited) w h = absurd (turned k w h)
step a k event.KeeperMemory w h = inr (due reason.Memory k w h)
step a k (event.Read n p) w h = absurd h
step a k (event.File n p) w h = absurd h
step a k (event.Settle won) w h = absurd h
step a k event.ReaderMemory w h = absurd h
step a k (event.Turns n) w h = absurd (turned k w h)
step a k event.Kill w h = inl (killed a k w h, λ r x. x)
step a k event.Took w h = inl (h, λ r x. x)
step a k event.Start w h = inl (h, λ r x. x)
step a k event.Finish w h = inl (h, λ r x. x)
step a k event.Gave w h = inl (h, λ r x. x)

-- what came before the event that gives the reason, and what came after it, where no reading stands
pub record Caused {T : Type 0} (a : Terms T) (w : Reason T) (events : List (LaneEvent T)) : Type 0 where
  pub front : List (LaneEvent T)
  pub cause : LaneEvent T
  pub back : List (LaneEvent T)
  pub is : events ≡ front ++ cause ∷ back
  pub causes : Causes a cause w
  pub none : (r : ℕ) → HasReading r back → ⊥

reasons : {T : Type 0} (a : Terms T) (k : Keeper T) (es : List (LaneEvent T)) (w : Reason T) → HasReason (keeper_from a k es) w
    → (HasReason k w × ((r : ℕ) → HasReading r es → ⊥)) ⊎ Caused a w es
reasons a k [] w h = inl (h, λ r x. x)
reasons {T} a k (e ∷ es) w h = elim (reasons a (keeper_after a e k) es w h) [
  | inl old ↦ elim (step a k e w old.0) [
    | inl s ↦ inl (s.0, λ r x. elim x [ inl y ↦ s.1 r y | inr y ↦ old.1 r y ])
    | inr s ↦ inr (record { front = []; cause = e; back = es; is = refl; causes = s; none = old.1 })
  ]
  | inr c ↦ inr (record { front = e ∷ c.front; cause = c.cause; back = c.back; is = ap (λ (l : List (LaneEvent T)). e ∷ l) c.is; causes = c.causes; none = c.none })
]

-- a keeper that began fresh has its reason by an event
pub caused : {T : Type 0} (a : Terms T) (es : List (LaneEvent T)) (w : Reason T) → HasReason (keeper_from a keeper.Fresh es) w → Caused a w es
caused a es w h = elim (reasons a keeper.Fresh es w h) [ inl x ↦ absurd x.0 | inr c ↦ c ]

looked_behind : {T : Type 0} (c : ℕ) (f : T) (front back : List (LaneEvent T)) → Looked c f back → Looked c f (front ++ back)
looked_behind c f [] back h = h
looked_behind c f (event.Look d known ∷ es) back h = inr (looked_behind c f es back h)
looked_behind c f ((event.Read n p) ∷ es) back h = looked_behind c f es back h
looked_behind c f ((event.File n p) ∷ es) back h = looked_behind c f es back h
looked_behind c f ((event.Settle won) ∷ es) back h = looked_behind c f es back h
looked_behind c f (event.ReaderMemory ∷ es) back h = looked_behind c f es back h
looked_behind c f ((event.Turns n) ∷ es) back h = looked_behind c f es back h
looked_behind c f ((event.Poll p) ∷ es) back h = looked_behind c f es back h
looked_behind c f ((event.Clock r) ∷ es) back h = looked_behind c f es back h
looked_behind c f (event.Kill ∷ es) back h = looked_behind c f es back h
looked_behind c f (event.KeeperMemory ∷ es) back h = looked_behind c f es back h
looked_behind c f (event.Took ∷ es) back h = looked_behind c f es back h
looked_behind c f (event.Start ∷ es) back h = looked_behind c f es back h
looked_behind c f (event.Finish ∷ es) back h = looked_behind c f es back h
looked_behind c f (event.Gave ∷ es) back h = looked_behind c f es back h

-- a look showed the finding by which a job is called off, and it makes the job needless
needless_cause : {T : Type 0} (a : Terms T) (f : T) (e : LaneEvent T) (back : List (LaneEvent T)) → Causes a e (reason.Needless f) → ((c : ℕ) × Looked c f (e ∷ back)) × (a.needless f ≡ true)
needless_cause {T} a f (event.Look c (Some g)) back h = elim h [
  | inl x ↦ absurd (apart x.0)
  | inr x ↦ let same = held x.0 in ((c, inl (refl, ap Some same)), subst (λ (v : T). a.needless v ≡ true) same x.1)
]
  where
    apart : reason.Skip g ≡ reason.Needless f → ⊥
    apart h = cc

    held : reason.Needless g ≡ reason.Needless f → g ≡ f
    held h = cc
needless_cause a f (event.Look c None) back h = absurd h
needless_cause a f (event.Read n p) back h = absurd h
needless_cause a f (event.File n p) back h = absurd h
needless_cause a f (event.Settle won) back h = absurd h
needless_cause a f event.ReaderMemory back h = absurd h
needless_cause a f (event.Turns n) back h = absurd h
needless_cause a f (event.Poll polled.Exited) back h = absurd h
needless_cause a f event.Kill back h = absurd h
needless_cause a f event.Took back h = absurd h
needless_cause a f event.Start back h = absurd h
needless_cause a f event.Finish back h = absurd h
needless_cause a f event.Gave back h = absurd h
needless_cause a f (event.Poll polled.Failed) back h = absurd cc
needless_cause a f event.KeeperMemory back h = absurd cc
needless_cause a f (event.Clock r) back (h, k) = absurd cc

-- a look showed the finding by which a job is skipped, and it skips the job
skip_cause : {T : Type 0} (a : Terms T) (f : T) (e : LaneEvent T) (back : List (LaneEvent T)) → Causes a e (reason.Skip f) → ((c : ℕ) × Looked c f (e ∷ back)) × (a.skipped f ≡ true)
skip_cause {T} a f (event.Look c (Some g)) back h = elim h [
  | inl x ↦ let same = held x.0 in ((c, inl (refl, ap Some same)), subst (λ (v : T). a.skipped v ≡ true) same x.1)
  | inr x ↦ absurd (apart x.0)
]
  where
    apart : reason.Needless g ≡ reason.Skip f → ⊥
    apart h = cc

    held : reason.Skip g ≡ reason.Skip f → g ≡ f
    held h = cc
skip_cause a f (event.Look c None) back h = absurd h
skip_cause a f (event.Read n p) back h = absurd h
skip_cause a f (event.File n p) back h = absurd h
skip_cause a f (event.Settle won) back h = absurd h
skip_cause a f event.ReaderMemory back h = absurd h
skip_cause a f (event.Turns n) back h = absurd h
skip_cause a f (event.Poll polled.Exited) back h = absurd h
skip_cause a f event.Kill back h = absurd h
skip_cause a f event.Took back h = absurd h
skip_cause a f event.Start back h = absurd h
skip_cause a f event.Finish back h = absurd h
skip_cause a f event.Gave back h = absurd h
skip_cause a f (event.Poll polled.Failed) back h = absurd cc
skip_cause a f event.KeeperMemory back h = absurd cc
skip_cause a f (event.Clock r) back (h, k) = absurd cc

put : {T : Type 0} (f : T) (P : Type 0) (es front : List (LaneEvent T)) (e : LaneEvent T) (back : List (LaneEvent T)) → es ≡ front ++ e ∷ back → ((c : ℕ) × Looked c f (e ∷ back)) × P → ((c : ℕ) × Looked c f es) × P
put {T} f P es front e back is ((c, seen), holds) = ((c, subst (λ (l : List (LaneEvent T)). Looked c f l) (sym is) (looked_behind c f front (e ∷ back) seen)), holds)

pub called_by_look : {T : Type 0} (a : Terms T) (f : T) (es : List (LaneEvent T)) → HasReason (keeper_from a keeper.Fresh es) (reason.Needless f) → ((c : ℕ) × Looked c f es) × (a.needless f ≡ true)
called_by_look a f es h = let k = caused a es (reason.Needless f) h in put f (a.needless f ≡ true) es k.front k.cause k.back k.is (needless_cause a f k.cause k.back k.causes)

pub skipped_by_look : {T : Type 0} (a : Terms T) (f : T) (es : List (LaneEvent T)) → HasReason (keeper_from a keeper.Fresh es) (reason.Skip f) → ((c : ℕ) × Looked c f es) × (a.skipped f ≡ true)
skipped_by_look a f es h = let k = caused a es (reason.Skip f) h in put f (a.skipped f ≡ true) es k.front k.cause k.back k.is (skip_cause a f k.cause k.back k.causes)

-- the last reading shows the limit by which a job is stopped
limit_cause : {T : Type 0} (a : Terms T) (t : ℕ) (e : LaneEvent T) → Causes a e (reason.Limit t) → (e ≡ event.Clock t) × (shows_limit a.start a.limit t ≡ true)
limit_cause {T} a t (event.Clock r) (h, k) = (ap event.Clock (same h), subst (λ (v : ℕ). shows_limit a.start a.limit v ≡ true) (same h) k)
  where
    same : ◌≡◌ {A = Reason T} (reason.Limit r) (reason.Limit t) → r ≡ t
    same h = cc
limit_cause a t (event.Look c (Some g)) (inl (h, k)) = absurd cc
limit_cause a t (event.Look c (Some g)) (inr (h, k)) = absurd cc
limit_cause a t (event.Look c None) h = absurd h
limit_cause a t (event.Poll polled.Failed) h = absurd cc
limit_cause a t event.KeeperMemory h = absurd cc
limit_cause a t (event.Read n p) h = absurd h
limit_cause a t (event.File n p) h = absurd h
limit_cause a t (event.Settle won) h = absurd h
limit_cause a t event.ReaderMemory h = absurd h
limit_cause a t (event.Turns n) h = absurd h
limit_cause a t (event.Poll polled.Exited) h = absurd h
limit_cause a t event.Kill h = absurd h
limit_cause a t event.Took h = absurd h
limit_cause a t event.Start h = absurd h
limit_cause a t event.Finish h = absurd h
limit_cause a t event.Gave h = absurd h

pub by_reading : {T : Type 0} (a : Terms T) (t : ℕ) (es : List (LaneEvent T)) → HasReason (keeper_from a keeper.Fresh es) (reason.Limit t)
    → IsLastReading t es × (shows_limit a.start a.limit t ≡ true)
by_reading {T} a t es h =
    let k = caused a es (reason.Limit t) h in
    let l = limit_cause a t k.cause k.causes in
    ((k.front, k.back, subst (λ (e : LaneEvent T). es ≡ k.front ++ e ∷ k.back) l.0 k.is, k.none), l.1)
