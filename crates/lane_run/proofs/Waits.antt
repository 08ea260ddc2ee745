-- How a job ends whose lane waits for a place.
use Rattle.std.proofs.Common.{◌≡◌, ◌≢◌, ◌⊎◌, inl, inr, ℕ, ◌≤◌, Option, None, Some, IfNone, refl, sym, subst}
use Rattle.jobs_pool.specs.Places.{PoolOf}
use Rattle.race_core.specs.Ends.{EndIs, Leaves, NoReason}
use Rattle.race_core.specs.Parts.{RightKeeper, Terms}
use Rattle.race_core.specs.declared.end.JobEnd.{JobEnd}
use Rattle.race_core.specs.declared.end.JobEnd.TheVariants as end
use Rattle.race_core.specs.declared.part.Keeper.{Keeper}
use Rattle.race_core.specs.declared.part.Keeper.TheVariants as keeper
use Rattle.race_core.specs.declared.part.Reader.TheVariants as reader
use Rattle.race_core.specs.declared.part.Reason.{Reason}
use Rattle.race_core.specs.declared.part.Reason.TheVariants as reason
use Rattle.lane_run.specs.Keeping.{TakesTurns}
use Rattle.lane_run.specs.Starting.{EndsWaiting, NoStart, Unstarted}

due_leaves : {T : Type 0} (why : Reason T) → Leaves reader.Fresh (keeper.Due why)
due_leaves why = inr (inr (tt, λ killed. killed))

pub called_off : {T : Type 0} (a : Terms T) (f : T) → EndIs a (λ _. ⊥) reader.Fresh (keeper.Due (reason.Needless f)) (end.CalledOff f)
called_off a f = (due_leaves (reason.Needless f), refl)

pub stopped : {T : Type 0} (a : Terms T) (t : ℕ) → EndIs a (λ _. ⊥) reader.Fresh (keeper.Due (reason.Limit t)) (end.Stopped t)
stopped {T} a t = (due_leaves {T = T} (reason.Limit t), refl)

pub no_memory : {T : Type 0} (a : Terms T) → EndIs a (λ _. ⊥) reader.Fresh (keeper.Due reason.Memory) end.Memory
no_memory {T} a = (due_leaves {T = T} reason.Memory, inl refl)

-- a keeper that takes its turns has no reason, is right and isn't fresh
pub turns_free : {T : Type 0} (k : Keeper T) → TakesTurns k → NoReason k
turns_free keeper.Looked h = tt
turns_free keeper.Turning h = tt
turns_free keeper.Fresh h = absurd h
turns_free (keeper.Due why) h = absurd h
turns_free (keeper.Killed why) h = absurd h
turns_free keeper.Wrong h = absurd h

pub turns_right : {T : Type 0} (k : Keeper T) → TakesTurns k → RightKeeper k
turns_right keeper.Looked h = tt
turns_right keeper.Turning h = tt
turns_right keeper.Fresh h = absurd h
turns_right (keeper.Due why) h = absurd h
turns_right (keeper.Killed why) h = absurd h
turns_right keeper.Wrong h = absurd h

pub turns_looked : {T : Type 0} (k : Keeper T) → TakesTurns k → k ≢ keeper.Fresh
turns_looked {T} k h is = subst (λ (k : Keeper T). TakesTurns k) is h

-- a keeper with a reason is right, and isn't fresh
pub due_right : {T : Type 0} (why : Reason T) (k : Keeper T) → k ≡ keeper.Due why → RightKeeper k
due_right {T} why k is = subst (λ (k : Keeper T). RightKeeper k) (sym is) tt

pub due_looked : {T : Type 0} (why : Reason T) (k : Keeper T) → k ≡ keeper.Due why → k ≢ keeper.Fresh
due_looked {T} why k is fresh = absurd cc

-- under an allowance it has an end without a start
pub over_unstarted : {T : Type 0} (pool : Option PoolOf) (e : JobEnd T) → IfNone pool ⊥ → EndsWaiting e ⊎ (e ≡ end.Memory) → Unstarted pool e
over_unstarted None e some is = absurd some
over_unstarted (Some pool) e some (inl waits) = inr (refl, waits)
over_unstarted {T} (Some pool) e some (inr is) = inl (subst (λ (e : JobEnd T). NoStart e) (sym is) tt)

-- such an end tells of no failed call
module _ {T : Type 0} (pool : Option PoolOf) (e : JobEnd T) where
  pub unstarted_start : Unstarted pool e → e ≡ end.StartFailed → ⊥
  unstarted_start (inl none) is = subst (λ (e : JobEnd T). NoStart e) is none
  unstarted_start (inr waits) is = subst (λ (e : JobEnd T). EndsWaiting e) is waits.1

  pub unstarted_read : Unstarted pool e → e ≡ end.ReadFailed → ⊥
  unstarted_read (inl none) is = subst (λ (e : JobEnd T). NoStart e) is none
  unstarted_read (inr waits) is = subst (λ (e : JobEnd T). EndsWaiting e) is waits.1

  pub unstarted_hold : Unstarted pool e → e ≡ end.HoldFailed → ⊥
  unstarted_hold (inl none) is = subst (λ (e : JobEnd T). NoStart e) is none
  unstarted_hold (inr waits) is = subst (λ (e : JobEnd T). EndsWaiting e) is waits.1

-- a lane that waits, between two turns
pub record AtWait (keeps notes turns place idle : Type 0) (room : ℕ) (same free : Type 0) : Type 0 where
  pub so_far : keeps
  pub of : notes
  pub part : turns
  pub away : place
  pub at_rest : idle
  pub some : 1 ≤ room
  pub berth : same
  pub none : free
