-- Neighbouring events that share one entry of a list.
use Rattle.std.specs.Prelude.{ℕ, ◌+◌, ◌^◌, Bool, cond, nat_lt, List, [], ◌∷◌, Option, Some, None}
use Rattle.std.proofs.Common.{◌&&◌}
use Rattle.race_core.specs.declared.event.Judged.TheVariants as progress
use Rattle.race_core.specs.declared.event.LaneEvent.{LaneEvent}
use Rattle.race_core.specs.declared.event.LaneEvent.TheVariants as event

-- a read that was judged More
abbrev pub read_more : {T : Type 0} → ℕ → LaneEvent T
read_more n = event.Read n progress.More

-- the number of an entry goes up to 2^64 - 1
abbrev pub fits : ℕ → Bool
fits n = nat_lt n (2 ^ 64)

-- reads of some bytes that were judged More share one
abbrev pub share_read : {T : Type 0} → ℕ → ℕ → Option (LaneEvent T)
share_read m n = cond ((nat_lt 0 m && nat_lt 0 n) && fits (m + n)) (Some (event.Read (m + n) progress.More)) None

-- so do turns of a keeper that found nothing new
abbrev pub share_turns : {T : Type 0} → ℕ → ℕ → Option (LaneEvent T)
share_turns m n = cond (fits (m + n)) (Some (event.Turns (m + n))) None

-- the entry that a read of m bytes, judged More, and the next event share, if they do
abbrev pub shared_read : {T : Type 0} → ℕ → LaneEvent T → Option (LaneEvent T)
shared_read m (event.Read n progress.More) = share_read m n
shared_read m (event.Read n (progress.Found f)) = None
shared_read m (event.Read n progress.Unknown) = None
shared_read m (event.Read n (progress.Bad number at)) = None
shared_read m (event.Read n progress.Failed) = None
shared_read m (event.Read n progress.Unjudged) = None
shared_read m (event.File n p) = None
shared_read m (event.Settle won) = None
shared_read m event.ReaderMemory = None
shared_read m (event.Turns n) = None
shared_read m (event.Poll p) = None
shared_read m (event.Clock r) = None
shared_read m (event.Look c known) = None
shared_read m event.Kill = None
shared_read m event.KeeperMemory = None
shared_read m event.Took = None
shared_read m event.Start = None
shared_read m event.Finish = None
shared_read m event.Gave = None

-- and that m turns and the next event share
abbrev pub shared_turns : {T : Type 0} → ℕ → LaneEvent T → Option (LaneEvent T)
shared_turns m (event.Read n p) = None
shared_turns m (event.File n p) = None
shared_turns m (event.Settle won) = None
shared_turns m event.ReaderMemory = None
shared_turns m (event.Turns n) = share_turns m n
shared_turns m (event.Poll p) = None
shared_turns m (event.Clock r) = None
shared_turns m (event.Look c known) = None
shared_turns m event.Kill = None
shared_turns m event.KeeperMemory = None
shared_turns m event.Took = None
shared_turns m event.Start = None
shared_turns m event.Finish = None
shared_turns m event.Gave = None

-- the entry that an event and the next one share, if they do
abbrev pub shared : {T : Type 0} → LaneEvent T → LaneEvent T → Option (LaneEvent T)
shared (event.Read m progress.More) e = shared_read m e
shared (event.Read m (progress.Found f)) e = None
shared (event.Read m progress.Unknown) e = None
shared (event.Read m (progress.Bad number at)) e = None
shared (event.Read m progress.Failed) e = None
shared (event.Read m progress.Unjudged) e = None
shared (event.File n p) e = None
shared (event.Settle won) e = None
shared event.ReaderMemory e = None
shared (event.Turns m) e = shared_turns m e
shared (event.Poll p) e = None
shared (event.Clock r) e = None
shared (event.Look c known) e = None
shared event.Kill e = None
shared event.KeeperMemory e = None
shared event.Took e = None
shared event.Start e = None
shared event.Finish e = None
shared event.Gave e = None

-- the two entries, or the shared one
abbrev pub entries : {T : Type 0} → LaneEvent T → LaneEvent T → Option (LaneEvent T) → List (LaneEvent T)
entries e f None = e ∷ f ∷ []
entries e f (Some both) = both ∷ []

-- the list with one more event, which shares the last entry where it can
abbrev pub with_event : {T : Type 0} → LaneEvent T → List (LaneEvent T) → List (LaneEvent T)
with_event f [] = f ∷ []
with_event f (e ∷ []) = entries e f (shared e f)
with_event f (e ∷ d ∷ es) = e ∷ with_event f (d ∷ es)

-- a list of events as a thread keeps it, and for how many more it has room
pub record ListOf (T : Type 0) : Type 0 where
  pub events : List (LaneEvent T)
  pub room : ℕ
