-- What a yard tells and counts when bays come back.
use Rattle.std.specs.Prelude.{◌≡◌, ℕ, ◌<◌, ◌≤◌, List, [], ◌∷◌, ◌++◌, Option, All, Contains, IfSome}
use Rattle.sby_edge.specs.Cause.{CountsOf, RisesBy, Rose}
use Rattle.sby_edge.specs.Child.{BayOf, IsLogged, LaneOf, YardOf, left_by}

-- the three counts
abbrev pub counts_at : ℕ → ℕ → ℕ → CountsOf
counts_at starts reads holds = record { starts = starts; reads = reads; holds = holds }

-- no call failed
abbrev pub none_failed : CountsOf
none_failed = counts_at 0 0 0

-- none of the counts fell
pub record AreLater (before now : CountsOf) : Type 0 where
  pub starts : before.starts ≤ now.starts
  pub reads : before.reads ≤ now.reads
  pub holds : before.holds ≤ now.holds

-- each count rises by that of a bay which came back
pub record AreRisenBy (part before now : CountsOf) : Type 0 where
  pub starts : RisesBy part.starts before.starts now.starts
  pub reads : RisesBy part.reads before.reads now.reads
  pub holds : RisesBy part.holds before.holds now.holds

-- each count rose where that of a bay is above 0
pub record HaveRisenFor (part before now : CountsOf) : Type 0 where
  pub starts : 0 < part.starts → Rose before.starts now.starts
  pub reads : 0 < part.reads → Rose before.reads now.reads
  pub holds : 0 < part.holds → Rose before.holds now.holds

-- Bays with these counts came back: none of the yard's counts fell; each rose where that of some bay is above 0; where no bay counted a
-- failed call, they are as before.
pub record CameBack (parts : List CountsOf) (before now : CountsOf) : Type 0 where
  pub later : AreLater before now
  pub rose : (part : CountsOf) → Contains parts part → HaveRisenFor part before now
  pub stood : All (λ part. part ≡ none_failed) parts → now ≡ before

-- a yard at a moment: the scripts that it tells; what it tells of the bays that came back; and its counts of failed calls
pub record YardAt : Type 0 where
  pub scripts : Option YardOf
  pub started : Option (List LaneOf)
  pub counts : CountsOf

abbrev pub yard_at : Option YardOf → Option (List LaneOf) → CountsOf → YardAt
yard_at scripts started counts = record { scripts = scripts; started = started; counts = counts }

-- a bay that comes back: what it tells then, and its counts of failed calls
pub record BackOf : Type 0 where
  pub told : Option BayOf
  pub counts : CountsOf

abbrev pub counts_in : BackOf → CountsOf
counts_in back = back.counts

-- what bays leave that come back from the last one to the first
abbrev pub left_all : List BackOf → List LaneOf
left_all [] = []
left_all (back ∷ backs) = left_all backs ++ left_by back.told back.counts

-- nothing was started: no count changed, and the bays that came back, if any did, have no start
pub record NoneStarted (before now : YardAt) : Type 0 where
  pub scripts : now.scripts ≡ before.scripts
  pub counts : now.counts ≡ before.counts
  pub lanes : List LaneOf
  pub logged : IsLogged lanes before.started now.started
  pub unstarted : All (λ lane. lane.starts ≡ []) lanes

-- among the bays that a yard tells now, and did not tell before, is such a one
abbrev pub IsToldSince : Option (List LaneOf) → Option (List LaneOf) → (LaneOf → Type 0) → Type 0
IsToldSince before now P = IfSome before (λ earlier. IfSome now (λ lanes. (since : List LaneOf) × (left : LaneOf) × (lanes ≡ earlier ++ since) × Contains since left × P left))

-- The counts with which the bay of a task's lane came back: those of its yard rose for them; and, where the yard tells of its bays, it tells
-- them of one that came back since.
pub record AreCountsOf (task lane : ℕ) (before now : YardAt) (counts : CountsOf) : Type 0 where
  pub rose : HaveRisenFor counts before.counts now.counts
  pub told : IfSome before.scripts (λ _. IsToldSince before.started now.started (λ left. (left.task ≡ task) × (left.lane ≡ lane) × (left.counts ≡ counts)))
