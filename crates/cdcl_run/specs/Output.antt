-- What a sink takes, and what is gathered before it.
use Rattle.std.specs.Prelude.{◌≡◌, ℕ, ◌<◌, ◌≤◌, List, ◌++◌, length, take, Option, option_map}
use Rattle.sby_edge.specs.Cause.{Rose}

-- what is told, with these bytes after it
abbrev pub grown : Option (List ℕ) → List ℕ → Option (List ℕ)
grown before bytes = option_map (λ taken. taken ++ bytes) before

-- what is told has grown by a prefix of these bytes, and at least one is missing
abbrev pub GrownBySome : Option (List ℕ) → Option (List ℕ) → List ℕ → Type 0
GrownBySome before now bytes = (count : ℕ) × (count < length bytes) × (now ≡ grown before (take count bytes))

-- what is told has grown by a prefix of these bytes
abbrev pub GrownByFirst : Option (List ℕ) → Option (List ℕ) → List ℕ → Type 0
GrownByFirst before now bytes = (count : ℕ) × (now ≡ grown before (take count bytes))

-- what a sink took and how often it failed, and what was gathered since
pub record OutputOf : Type 0 where
  pub taken : Option (List ℕ)
  pub faults : ℕ
  pub gathered : List ℕ

-- the text was taken: of what was gathered and the text a first part was written, and the rest is gathered; no call failed
pub record Puts (old new : OutputOf) (text : List ℕ) : Type 0 where
  pub written : List ℕ
  pub taken : new.taken ≡ grown old.taken written
  pub split : old.gathered ++ text ≡ written ++ new.gathered
  pub still : new.faults ≡ old.faults

-- a call failed: of what was gathered and the text a first part was written, and at least one byte is missing
pub record Breaks (old new : OutputOf) (text : List ℕ) : Type 0 where
  pub part : GrownBySome old.taken new.taken (old.gathered ++ text)
  pub rose : Rose old.faults new.faults
  pub later : old.faults ≤ new.faults
