-- What a call of the engine does.
use Rattle.std.specs.Prelude.{◌≡◌, ◌⊎◌, ℕ, ◌^◌, ◌<◌, ◌≤◌, Bool, List, length, Option, Some, IfSome}
use Rattle.cnf_form.specs.Cnf.{FormulaOf}
use Rattle.cnf_form.specs.Dimacs.{IsDimacs}
use Rattle.cnf_form.specs.Reading.{IsFault}
use Rattle.cnf_form.specs.declared.reader.DimacsFaultKind.{DimacsFaultKind}
use Rattle.sby_edge.specs.Cause.{Rose}
use Rattle.sby_edge.specs.Files.{Store}
use Rattle.cdcl_words.specs.Asking.{Asks}
use Rattle.cdcl_run.specs.Output.{GrownByFirst, GrownBySome, grown}
use Rattle.cdcl_run.specs.Text.{usage_line, file_line, long_line, fault_line}
use Rattle.cdcl_run.specs.Answer.{IsAnswer, IsSearchText, budget_of}

-- What the file store and the sink tell, and how often each failed.
pub record World : Type 0 where
  pub told : Option Store
  pub file_faults : ℕ
  pub taken : Option (List ℕ)
  pub sink_faults : ℕ

-- this text was written; or a call of the sink failed, and a part of it was
abbrev pub Writes : World → World → List ℕ → Type 0
Writes before after text =
    ((after.taken ≡ grown before.taken text) × (after.sink_faults ≡ before.sink_faults))
    ⊎ (GrownBySome before.taken after.taken text × Rose before.sink_faults after.sink_faults)

-- the words are refused: the usage line alone
pub record IsRefused (before after : World) (words : List (List ℕ)) (exit : ℕ) : Type 0 where
  pub none : (hinted : Bool) (conflicts : Option ℕ) (file : List ℕ) → Asks words hinted conflicts file → ⊥
  pub exit_is : exit ≡ 1
  pub line : Writes before after usage_line
  pub file_faults : after.file_faults ≡ before.file_faults

-- the file can't be got
pub record IsUngot (before after : World) (exit : ℕ) : Type 0 where
  pub exit_is : exit ≡ 1
  pub line : Writes before after file_line
  pub file_faults : Rose before.file_faults after.file_faults

-- the bytes are those of the file, where the store tells them
abbrev pub IsContent : Option Store → List ℕ → List ℕ → Type 0
IsContent told file bytes = IfSome told (λ store. store file ≡ Some bytes)

-- an answer for a formula was written whole
abbrev pub IsWhole : Bool → World → World → List ℕ → ℕ → ℕ → Type 0
IsWhole hinted before after bytes budget exit =
    (stream : List ℕ) × (after.taken ≡ grown before.taken stream) × (after.sink_faults ≡ before.sink_faults) × IsAnswer hinted bytes budget stream exit

-- A call of the sink failed, and what was written is a first part of the lines of a search within the budget, or of an answer. At
-- least one byte is missing.
abbrev pub IsCutShort : Bool → World → World → List ℕ → ℕ → Type 0
IsCutShort hinted before after bytes budget =
    Rose before.sink_faults after.sink_faults
    × ((text : List ℕ) × GrownBySome before.taken after.taken text × (IsSearchText hinted bytes budget text ⊎ ((exit : ℕ) × IsAnswer hinted bytes budget text exit)))

-- memory ran out, and what was written is a first part of the lines of a search within the budget
abbrev pub IsLeftOff : Bool → World → World → List ℕ → ℕ → Type 0
IsLeftOff hinted before after bytes budget =
    (after.sink_faults ≡ before.sink_faults) × ((text : List ℕ) × GrownByFirst before.taken after.taken text × IsSearchText hinted bytes budget text)

-- an answer for a formula, whole or cut short; or memory ran out
abbrev pub Answers : Bool → World → World → List ℕ → ℕ → ℕ → Type 0
Answers hinted before after bytes budget exit =
    IsWhole hinted before after bytes budget exit ⊎ ((exit ≡ 1) × IsCutShort hinted before after bytes budget) ⊎ ((exit ≡ 32) × IsLeftOff hinted before after bytes budget)

-- what is done with the bytes of a file
abbrev pub IsServed : Bool → World → World → List ℕ → ℕ → ℕ → Type 0
IsServed hinted before after bytes budget exit =
    ((2 ^ 32 < length bytes) × (exit ≡ 1) × Writes before after long_line)
    ⊎ ((length bytes ≤ 2 ^ 32) × ((kind : DimacsFaultKind) × (byte : ℕ) × IsFault bytes kind byte × (exit ≡ 1) × Writes before after (fault_line kind byte)))
    ⊎ ((length bytes ≤ 2 ^ 32) × ((f : FormulaOf) × IsDimacs bytes f × Answers hinted before after bytes budget exit))

-- memory ran out before anything was written, and no call failed
pub record IsOutOfMemory (before after : World) (exit : ℕ) : Type 0 where
  pub exit_is : exit ≡ 32
  pub taken : after.taken ≡ before.taken
  pub sink_faults : after.sink_faults ≡ before.sink_faults
  pub file_faults : after.file_faults ≡ before.file_faults

-- What is done with a file: memory ran out at once; or the file can't be got; or its bytes are served.
abbrev pub IsDone : World → World → Bool → Option ℕ → List ℕ → ℕ → Type 0
IsDone before after hinted conflicts file exit =
    IsOutOfMemory before after exit
    ⊎ IsUngot before after exit
    ⊎ ((bytes : List ℕ) × IsContent before.told file bytes × (after.file_faults ≡ before.file_faults) × IsServed hinted before after bytes (budget_of conflicts) exit)

-- What a call does: the words are refused, or what they ask for is done. The store stays as it was.
abbrev pub Did : World → World → List (List ℕ) → ℕ → Type 0
Did before after words exit =
    (after.told ≡ before.told)
    × (IsRefused before after words exit ⊎ ((hinted : Bool) × (conflicts : Option ℕ) × (file : List ℕ) × Asks words hinted conflicts file × IsDone before after hinted conflicts file exit))
