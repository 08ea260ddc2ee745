-- A keeper that killed the child has the kill in its list.
use Rattle.std.proofs.Common.{◌≡◌, ◌⊎◌, inl, inr, Bool, true, false, cond, List, [], ◌∷◌, Option, None, Some, ℕ, ◌==◌, subst, sym}
use Rattle.std.specs.Option.{MatchOption}
use Rattle.std.specs.Prelude.{IfSome}
use Rattle.race_core.specs.Ends.{IsKilled}
use Rattle.race_core.specs.Parts.{Terms, after_look, comes_due, ending, keeper_after, keeper_from, shows_limit, tells_ending, turns}
use Rattle.race_core.specs.declared.event.LaneEvent.{LaneEvent}
use Rattle.race_core.specs.declared.event.LaneEvent.TheVariants as event
use Rattle.race_core.specs.declared.event.Polled.TheVariants as polled
use Rattle.race_core.specs.declared.part.Keeper.{Keeper}
use Rattle.race_core.specs.declared.part.Keeper.TheVariants as keeper
use Rattle.race_core.specs.declared.part.Reason.{Reason}
use Rattle.race_core.specs.declared.part.Reason.TheVariants as reason
use Rattle.sby_edge.specs.Child.{PipeOf}
use Rattle.lane_run.specs.Keeping.{HasKill, IsKill, TakesTurns}
use Rattle.lane_run.specs.Sides.{KilledBy, KilledLast}

due_alive : {T : Type 0} (why : Reason T) (k : Keeper T) → IsKilled (comes_due why k) → ⊥
due_alive why keeper.Fresh h = h
due_alive why keeper.Looked h = h
due_alive why keeper.Turning h = h
due_alive why (keeper.Due w) h = h
due_alive why (keeper.Killed w) h = h
due_alive why keeper.Wrong h = h

turn_alive : {T : Type 0} (k : Keeper T) → IsKilled (turns k) → ⊥
turn_alive keeper.Fresh h = h
turn_alive keeper.Looked h = h
turn_alive keeper.Turning h = h
turn_alive (keeper.Due w) h = h
turn_alive (keeper.Killed w) h = h
turn_alive keeper.Wrong h = h

clock_alive : {T : Type 0} (shows : Bool) (t : ℕ) (k : Keeper T) → IsKilled (cond shows (comes_due (reason.Limit t) k) (turns k)) → ⊥
clock_alive true t k h = due_alive (reason.Limit t) k h
clock_alive false t k h = turn_alive k h

look_alive : {T : Type 0} (own : Bool) (known : Option T) (tells : Bool) (k : Keeper T) → IsKilled (after_look own known tells k) → ⊥
look_alive true (Some f) true keeper.Fresh h = h
look_alive true (Some f) false keeper.Fresh h = h
look_alive true None true keeper.Fresh h = h
look_alive true None false keeper.Fresh h = h
look_alive false (Some f) true keeper.Fresh h = h
look_alive false (Some f) false keeper.Fresh h = h
look_alive false None true keeper.Fresh h = h
look_alive false None false keeper.Fresh h = h
look_alive true (Some f) true keeper.Looked h = h
look_alive true (Some f) false keeper.Looked h = h
look_alive true None true keeper.Looked h = h
look_alive true None false keeper.Looked h = h
look_alive false (Some f) true keeper.Looked h = h
look_alive false (Some f) false keeper.Looked h = h
look_alive false None true keeper.Looked h = h
look_alive false None false keeper.Looked h = h
look_alive true (Some f) true keeper.Turning h = h
look_alive true (Some f) false keeper.Turning h = h
look_alive true None true keeper.Turning h = h
look_alive true None false keeper.Turning h = h
look_alive false (Some f) true keeper.Turning h = h
look_alive false (Some f) false keeper.Turning h = h
look_alive false None true keeper.Turning h = h
look_alive false None false keeper.Turning h = h
look_alive true (Some f) true (keeper.Due w) h = h
look_alive true (Some f) false (keeper.Due w) h = h
look_alive true None true (keeper.Due w) h = h
look_alive true None false (keeper.Due w) h = h
look_alive false (Some f) true (keeper.Due w) h = h
look_alive false (Some f) false (keeper.Due w) h = h
look_alive false None true (keeper.Due w) h = h
look_alive false None false (keeper.Due w) h = h
look_alive true (Some f) true (keeper.Killed w) h = h
look_alive true (Some f) false (keeper.Killed w) h = h
look_alive true None true (keeper.Killed w) h = h
look_alive true None false (keeper.Killed w) h = h
look_alive false (Some f) true (keeper.Killed w) h = h
look_alive false (Some f) false (keeper.Killed w) h = h
look_alive false None true (keeper.Killed w) h = h
look_alive false None false (keeper.Killed w) h = h
look_alive true (Some f) true keeper.Wrong h = h
look_alive true (Some f) false keeper.Wrong h = h
look_alive true None true keeper.Wrong h = h
look_alive true None false keeper.Wrong h = h
look_alive false (Some f) true keeper.Wrong h = h
look_alive false (Some f) false keeper.Wrong h = h
look_alive false None true keeper.Wrong h = h
look_alive false None false keeper.Wrong h = h

kill_step : {T : Type 0} (a : Terms T) (e : LaneEvent T) (k : Keeper T) → IsKilled (keeper_after a e k) → IsKilled k ⊎ IsKill e
kill_step a (event.Poll polled.Failed) k h = absurd (due_alive reason.Fault k h)
kill_step a (event.Poll polled.Exited) k h = absurd (turn_alive k h)
kill_step a (event.Turns n) k h = absurd (turn_alive k h)
kill_step a (event.Clock t) k h = absurd (clock_alive (shows_limit a.start a.limit t) t k h)
kill_step a (event.Look c known) k h = absurd (look_alive (c == a.cell) known (tells_ending (ending a (c == a.cell) k) known) k h)
kill_step a event.Kill k h = inr tt
kill_step a event.KeeperMemory k h = absurd (due_alive reason.Memory k h)
kill_step a event.Took k h = inl h
kill_step a event.Start k h = inl h
kill_step a event.Finish k h = inl h
kill_step a event.Gave k h = inl h
kill_step a (event.Read n p) k h = absurd h
kill_step a (event.File n p) k h = absurd h
kill_step a (event.Settle won) k h = absurd h
kill_step a event.ReaderMemory k h = absurd h

kill_had : {T : Type 0} (a : Terms T) (k : Keeper T) (es : List (LaneEvent T)) → IsKilled (keeper_from a k es) → IsKilled k ⊎ HasKill es
kill_had a k [] h = inl h
kill_had a k (e ∷ es) h = elim (kill_had a (keeper_after a e k) es h) [
  | inl here ↦ elim (kill_step a e k here) [ inl before ↦ inl before | inr kill ↦ inr (inl kill) ]
  | inr later ↦ inr (inr later)
]

-- a child was killed last, or by a kill of its keeper's list
pub killed_for : {T : Type 0} (a : Terms T) (why : Option (Reason T)) (es : List (LaneEvent T)) (pipe : Option PipeOf) (killed : Option ℕ)
    → MatchOption why (TakesTurns (keeper_from a keeper.Fresh es)) (λ why. keeper_from a keeper.Fresh es ≡ keeper.Killed why) → KilledBy why pipe killed → KilledLast pipe killed ⊎ HasKill es
killed_for a None es pipe killed kept by = inl by
killed_for a (Some why) es pipe killed kept by =
    elim (kill_had a keeper.Fresh es (subst (λ k. IsKilled k) (sym kept) tt)) [
      | inl none ↦ absurd none
      | inr has ↦ inr has
    ]

-- so it is where the list goes on after a child that its keeper didn't kill
pub killed_then : {T : Type 0} (a : Terms T) (why : Option (Reason T)) (es es' : List (LaneEvent T)) (pipe : Option PipeOf) (killed : Option ℕ)
    → MatchOption why (TakesTurns (keeper_from a keeper.Fresh es)) (λ why. keeper_from a keeper.Fresh es ≡ keeper.Killed why) → KilledBy why pipe killed → IfSome why (λ _. es' ≡ es)
    → KilledLast pipe killed ⊎ HasKill es'
killed_then a None es es' pipe killed kept by still = inl by
killed_then {T} a (Some why) es es' pipe killed kept by still =
    subst (λ (l : List (LaneEvent T)). KilledLast pipe killed ⊎ HasKill l) (sym still) (killed_for a (Some why) es pipe killed kept by)
