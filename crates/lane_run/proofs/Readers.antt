-- The states of a reader.
use Rattle.std.proofs.Common.{◌≡◌, ◌⊎◌, inl, inr, ℕ, ◌≤◌, List, length, Option, refl}
use Rattle.sby_edge.specs.Child.{PipeOf}
use Rattle.race_core.specs.Parts.{reader_after, reader_from, judged, by_of}
use Rattle.race_core.specs.declared.event.Judged.{Judged}
use Rattle.race_core.specs.declared.event.Judged.TheVariants.{More, Found, Unknown, Bad}
use Rattle.race_core.specs.declared.event.LaneEvent.{LaneEvent}
use Rattle.race_core.specs.declared.event.LaneEvent.TheVariants as event
use Rattle.race_core.specs.declared.part.By.TheVariants as by
use Rattle.race_core.specs.declared.part.Reader.{Reader}
use Rattle.race_core.specs.declared.part.Reader.TheVariants as reader
use Rattle.lane_run.specs.Judging.{Within}
use Rattle.lane_run.specs.Reading.{Comes, HasRead, ReadsOn, ReadSoFar, empty_reads}

-- the state of a reader that reads on is what its next read is judged as
pub read_on : {T : Type 0} (r : Reader T) (n : ℕ) (p : Judged T) → ReadsOn r → reader_after (event.Read n p) r ≡ judged (by_of n) p
read_on reader.Fresh n p h = refl
read_on reader.Reading n p h = refl
read_on reader.Asking n p h = absurd h
read_on reader.Unjudged n p h = absurd h
read_on (reader.Holding f b) n p h = absurd h
read_on (reader.Found f b won) n p h = absurd h
read_on (reader.Unknown b) n p h = absurd h
read_on (reader.Bad number at b) n p h = absurd h
read_on reader.Failed n p h = absurd h
read_on reader.Short n p h = absurd h
read_on reader.Wrong n p h = absurd h

-- where a reader stands between two reads
pub record AtRead {T : Type 0} (goes_on : Type 0) (stands stands' ends ends' proves proves' : List ℕ → Judged T → Type 0) (most most' : ℕ)
    (start now : Option PipeOf) (output : List ℕ) (events : List (LaneEvent T)) (room size : ℕ) : Type 0 where
  pub going : goes_on
  pub within : Within stands stands'
  pub within_ends : Within ends ends'
  pub within_proves : Within proves proves'
  pub bound : most ≡ most'
  pub short : length output ≤ most'
  pub so_far : ReadSoFar start now output events
  pub reads : ReadsOn (reader_from reader.Fresh events)
  pub some : 1 ≤ room
  pub buffer : size ≡ 65536
  pub unended : empty_reads events ≡ 0

-- what it is judged as by a later moment of the judge it is judged as by an earlier one
pub comes_within : {T : Type 0} (st st' en en' pr pr' : List ℕ → Judged T → Type 0) (ended : Type 0) (output proof : List ℕ) (part : Reader T)
    → Within st st' → Within en en' → Within pr pr' → Comes st en pr ended output proof part → Comes st' en' pr' ended output proof part
comes_within st st' en en' pr pr' ended out proof (reader.Holding f by.Bytes) hs he hp h = hs out (Found f) h
comes_within st st' en en' pr pr' ended out proof (reader.Holding f by.Close) hs he hp h = (h.0, he out (Found f) h.1)
comes_within st st' en en' pr pr' ended out proof (reader.Holding f by.File) hs he hp h = (h.0, he out More h.1, hp proof (Found f) h.2)
comes_within st st' en en' pr pr' ended out proof (reader.Found f by.Bytes won) hs he hp h = hs out (Found f) h
comes_within st st' en en' pr pr' ended out proof (reader.Found f by.Close won) hs he hp h = (h.0, he out (Found f) h.1)
comes_within st st' en en' pr pr' ended out proof (reader.Found f by.File won) hs he hp h = (h.0, he out More h.1, hp proof (Found f) h.2)
comes_within st st' en en' pr pr' ended out proof (reader.Unknown by.Bytes) hs he hp h = hs out Unknown h
comes_within st st' en en' pr pr' ended out proof (reader.Unknown by.Close) hs he hp h = (h.0, he out Unknown h.1)
comes_within st st' en en' pr pr' ended out proof (reader.Unknown by.File) hs he hp h = (h.0, he out More h.1, hp proof Unknown h.2)
comes_within st st' en en' pr pr' ended out proof (reader.Bad number at by.Bytes) hs he hp h = hs out (Bad number at) h
comes_within st st' en en' pr pr' ended out proof (reader.Bad number at by.Close) hs he hp h = (h.0, he out (Bad number at) h.1)
comes_within st st' en en' pr pr' ended out proof (reader.Bad number at by.File) hs he hp h = (h.0, he out More h.1, hp proof (Bad number at) h.2)
comes_within st st' en en' pr pr' ended out proof reader.Asking hs he hp h = (h.0, he out More h.1)
comes_within st st' en en' pr pr' ended out proof reader.Fresh hs he hp h = tt
comes_within st st' en en' pr pr' ended out proof reader.Reading hs he hp h = tt
comes_within st st' en en' pr pr' ended out proof reader.Unjudged hs he hp h = tt
comes_within st st' en en' pr pr' ended out proof reader.Failed hs he hp h = tt
comes_within st st' en en' pr pr' ended out proof reader.Short hs he hp h = tt
comes_within st st' en en' pr pr' ended out proof reader.Wrong hs he hp h = absurd h

-- a reader that doesn't read on has read
pub has_read : {T : Type 0} (part : Reader T) → (part ≡ reader.Fresh → ⊥) → (part ≡ reader.Reading → ⊥) → ReadsOn part ⊎ HasRead part → HasRead part
has_read part fresh reading (inr read) = read
has_read reader.Fresh fresh reading (inl on) = absurd (fresh refl)
has_read reader.Reading fresh reading (inl on) = absurd (reading refl)
has_read reader.Asking fresh reading (inl on) = absurd on
has_read reader.Unjudged fresh reading (inl on) = absurd on
has_read (reader.Holding f b) fresh reading (inl on) = absurd on
has_read (reader.Found f b won) fresh reading (inl on) = absurd on
has_read (reader.Unknown b) fresh reading (inl on) = absurd on
has_read (reader.Bad number at b) fresh reading (inl on) = absurd on
has_read reader.Failed fresh reading (inl on) = absurd on
has_read reader.Short fresh reading (inl on) = absurd on
has_read reader.Wrong fresh reading (inl on) = absurd on
