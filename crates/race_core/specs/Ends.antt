-- How a job's end follows from the last states of its reader and its keeper.
use Rattle.std.specs.Prelude.{◌≡◌, ◌⊎◌, true}
use Rattle.race_core.specs.Parts.{Terms}
use Rattle.race_core.specs.declared.end.JobEnd.{JobEnd}
use Rattle.race_core.specs.declared.end.JobEnd.TheVariants as end
use Rattle.race_core.specs.declared.part.By.TheVariants as by
use Rattle.race_core.specs.declared.part.Reader.{Reader}
use Rattle.race_core.specs.declared.part.Reader.TheVariants as reader
use Rattle.race_core.specs.declared.part.Keeper.{Keeper}
use Rattle.race_core.specs.declared.part.Keeper.TheVariants as keeper
use Rattle.race_core.specs.declared.part.Reason.{Reason}
use Rattle.race_core.specs.declared.part.Reason.TheVariants as reason

-- the keeper killed the child
abbrev pub IsKilled : {T : Type 0} → Keeper T → Type 0
IsKilled (keeper.Killed why) = Unit
IsKilled keeper.Fresh = ⊥
IsKilled keeper.Looked = ⊥
IsKilled keeper.Turning = ⊥
IsKilled (keeper.Due why) = ⊥
IsKilled keeper.Wrong = ⊥

-- the keeper has this reason, with a kill or without
abbrev pub HasReason : {T : Type 0} → Keeper T → Reason T → Type 0
HasReason (keeper.Due w) why = w ≡ why
HasReason (keeper.Killed w) why = w ≡ why
HasReason keeper.Fresh why = ⊥
HasReason keeper.Looked why = ⊥
HasReason keeper.Turning why = ⊥
HasReason keeper.Wrong why = ⊥

-- the keeper has no reason
abbrev pub NoReason : {T : Type 0} → Keeper T → Type 0
NoReason keeper.Fresh = Unit
NoReason keeper.Looked = Unit
NoReason keeper.Turning = Unit
NoReason (keeper.Due why) = ⊥
NoReason (keeper.Killed why) = ⊥
NoReason keeper.Wrong = ⊥

-- A reader's result that gives way to the kill: an unknown, or an early end, that came only with the stream's end; so does an output
-- that ended before its proof file was asked for.
abbrev pub Yields : {T : Type 0} → Reader T → Type 0
Yields (reader.Unknown b) = b ≡ by.Close
Yields (reader.Bad number at b) = (b ≡ by.Close) × (number ≡ 48)
Yields reader.Asking = Unit
Yields reader.Fresh = ⊥
Yields reader.Reading = ⊥
Yields reader.Unjudged = ⊥
Yields (reader.Holding f b) = ⊥
Yields (reader.Found f b won) = ⊥
Yields reader.Failed = ⊥
Yields reader.Short = ⊥
Yields reader.Wrong = ⊥

-- The reader has an end of its own. A finding is one once it is settled.
abbrev pub HasEnd : {T : Type 0} → Reader T → JobEnd T → Type 0
HasEnd (reader.Holding f b) e = ⊥
HasEnd (reader.Found f b won) e = e ≡ end.Found f
HasEnd (reader.Unknown b) e = e ≡ end.Unknown
HasEnd (reader.Bad number at b) e = e ≡ end.Bad number at
HasEnd reader.Failed e = e ≡ end.ReadFailed
HasEnd reader.Fresh e = ⊥
HasEnd reader.Reading e = ⊥
HasEnd reader.Asking e = ⊥
HasEnd reader.Unjudged e = ⊥
HasEnd reader.Short e = ⊥
HasEnd reader.Wrong e = ⊥

-- nothing was read: the job has no child
abbrev pub IsUnread : {T : Type 0} → Reader T → Type 0
IsUnread reader.Fresh = Unit
IsUnread reader.Reading = ⊥
IsUnread reader.Asking = ⊥
IsUnread reader.Unjudged = ⊥
IsUnread (reader.Holding f b) = ⊥
IsUnread (reader.Found f b won) = ⊥
IsUnread (reader.Unknown b) = ⊥
IsUnread (reader.Bad number at b) = ⊥
IsUnread reader.Failed = ⊥
IsUnread reader.Short = ⊥
IsUnread reader.Wrong = ⊥

abbrev pub IsShort : {T : Type 0} → Reader T → Type 0
IsShort reader.Short = Unit
IsShort reader.Fresh = ⊥
IsShort reader.Reading = ⊥
IsShort reader.Asking = ⊥
IsShort reader.Unjudged = ⊥
IsShort (reader.Holding f b) = ⊥
IsShort (reader.Found f b won) = ⊥
IsShort (reader.Unknown b) = ⊥
IsShort (reader.Bad number at b) = ⊥
IsShort reader.Failed = ⊥
IsShort reader.Wrong = ⊥

-- the reader is over, and leaves the end to what comes after it
abbrev pub Leaves : {T : Type 0} → Reader T → Keeper T → Type 0
Leaves r k = IsShort r ⊎ (Yields r × IsKilled k) ⊎ (IsUnread r × (IsKilled k → ⊥))

-- The end of a job that is served, in the order of these cases: the reader's own, unless it yields to the kill; then the keeper's
-- reason; then the failed kill, reap or start, which are no events; then out of memory. `known` are the findings that the lane
-- knew when the job began.
abbrev pub EndIs : {T : Type 0} → Terms T → (T → Type 0) → Reader T → Keeper T → JobEnd T → Type 0
EndIs a known r k (end.Found f) = HasEnd r (end.Found f)
EndIs a known r k end.Unknown = HasEnd r end.Unknown × (Yields r → IsKilled k → ⊥)
EndIs a known r k (end.Bad number at) = HasEnd r (end.Bad number at) × (Yields r → IsKilled k → ⊥)
EndIs a known r k end.ReadFailed = HasEnd r end.ReadFailed
EndIs a known r k (end.Stopped t) = Leaves r k × HasReason k (reason.Limit t)
EndIs a known r k (end.CalledOff f) = Leaves r k × HasReason k (reason.Needless f)
EndIs a known r k (end.Skipped f) = IsUnread r × (HasReason k (reason.Skip f) ⊎ (NoReason k × known f × (a.skipped f ≡ true)))
EndIs a known r k end.HoldFailed = Leaves r k × (HasReason k reason.Fault ⊎ HasReason k reason.Memory ⊎ (NoReason k × IsShort r))
EndIs a known r k end.StartFailed = IsUnread r × NoReason k
EndIs a known r k end.Memory = Leaves r k × (HasReason k reason.Memory ⊎ (NoReason k × IsShort r))
EndIs a known r k end.NotServed = ⊥

-- The end of a job that isn't served: by what was known before, else not served.
abbrev pub UnservedEndIs : {T : Type 0} → Terms T → (T → Type 0) → Reader T → Keeper T → JobEnd T → Type 0
UnservedEndIs {T} a known r k end.NotServed = IsUnread r × NoReason k × ((f : T) → known f → a.skipped f ≡ true → ⊥)
UnservedEndIs a known r k (end.Skipped f) = EndIs a known r k (end.Skipped f)
UnservedEndIs a known r k end.Memory = EndIs a known r k end.Memory
UnservedEndIs a known r k (end.Found f) = ⊥
UnservedEndIs a known r k end.Unknown = ⊥
UnservedEndIs a known r k (end.Bad number at) = ⊥
UnservedEndIs a known r k end.ReadFailed = ⊥
UnservedEndIs a known r k end.StartFailed = ⊥
UnservedEndIs a known r k end.HoldFailed = ⊥
UnservedEndIs a known r k (end.CalledOff f) = ⊥
UnservedEndIs a known r k (end.Stopped t) = ⊥

-- after Stopped and Memory the later jobs end the same
abbrev pub IsLast : {T : Type 0} → JobEnd T → Type 0
IsLast (end.Stopped t) = Unit
IsLast end.Memory = Unit
IsLast (end.Found f) = ⊥
IsLast end.Unknown = ⊥
IsLast end.NotServed = ⊥
IsLast (end.Bad number at) = ⊥
IsLast end.ReadFailed = ⊥
IsLast end.StartFailed = ⊥
IsLast end.HoldFailed = ⊥
IsLast (end.Skipped f) = ⊥
IsLast (end.CalledOff f) = ⊥
