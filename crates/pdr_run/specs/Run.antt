-- What a call does.
use Rattle.std.specs.Prelude.{◌≡◌, ◌⊎◌, ℕ, ◌^◌, ◌<◌, ◌≤◌, List, length, Option}
use Rattle.pair_form.specs.Pair.{IsPair, PairOf}
use Rattle.pair_form.specs.Text.{pair_text}
use Rattle.sby_edge.specs.Cause.{Rose}
use Rattle.cdcl_words.specs.Asking.{AsksPlainly}
use Rattle.cdcl_run.specs.Answer.{budget_of}
use Rattle.cdcl_run.specs.Output.{GrownBySome, grown}
use Rattle.cdcl_run.specs.Run.{IsContent, IsOutOfMemory, IsUngot, World, Writes}
use Rattle.cdcl_run.specs.Text.{long_line}
use Rattle.pair_reader.specs.Reading.{IsPairFault}
use Rattle.pair_reader.specs.declared.reader.PairFault.{PairFault}
use Rattle.pdr_run.specs.Answer.{IsAnswer}
use Rattle.pdr_run.specs.Text.{pair_fault_line, usage_line}

-- the words are refused: the usage line alone
pub record IsRefused (before after : World) (words : List (List ℕ)) (exit : ℕ) : Type 0 where
  pub none : (conflicts : Option ℕ) (file : List ℕ) → AsksPlainly words conflicts file → ⊥
  pub exit_is : exit ≡ 1
  pub line : Writes before after usage_line
  pub file_faults : after.file_faults ≡ before.file_faults

-- an answer for a pair was written whole
abbrev pub IsWhole : World → World → PairOf → ℕ → ℕ → Type 0
IsWhole before after p budget exit = (stream : List ℕ) × (after.taken ≡ grown before.taken stream) × (after.sink_faults ≡ before.sink_faults) × IsAnswer p budget stream exit

-- a call of the sink failed, and what was written is a first part of an answer, of which at least one byte is missing
abbrev pub IsCutShort : World → World → PairOf → ℕ → Type 0
IsCutShort before after p budget = Rose before.sink_faults after.sink_faults × ((stream : List ℕ) × (exit : ℕ) × GrownBySome before.taken after.taken stream × IsAnswer p budget stream exit)

-- an answer for a pair, whole or cut short
abbrev pub Answers : World → World → PairOf → ℕ → ℕ → Type 0
Answers before after p budget exit = IsWhole before after p budget exit ⊎ ((exit ≡ 1) × IsCutShort before after p budget)

-- what is done with the bytes of a file
abbrev pub IsServed : World → World → List ℕ → ℕ → ℕ → Type 0
IsServed before after bytes budget exit =
    ((2 ^ 32 < length bytes) × (exit ≡ 1) × Writes before after long_line)
    ⊎ ((length bytes ≤ 2 ^ 32) × ((fault : PairFault) × IsPairFault bytes fault × (exit ≡ 1) × Writes before after (pair_fault_line fault)))
    ⊎ ((length bytes ≤ 2 ^ 32) × ((p : PairOf) × IsPair p × (pair_text p ≡ bytes) × Answers before after p budget exit))

-- What is done with a file: memory ran out, and nothing was written; or the file can't be got; or its bytes are served.
abbrev pub IsDone : World → World → Option ℕ → List ℕ → ℕ → Type 0
IsDone before after conflicts file exit =
    IsOutOfMemory before after exit
    ⊎ IsUngot before after exit
    ⊎ ((bytes : List ℕ) × IsContent before.told file bytes × (after.file_faults ≡ before.file_faults) × IsServed before after bytes (budget_of conflicts) exit)

-- What a call does: the words are refused, or what they ask for is done. The store stays as it was.
abbrev pub Did : World → World → List (List ℕ) → ℕ → Type 0
Did before after words exit =
    (after.told ≡ before.told) × (IsRefused before after words exit ⊎ ((conflicts : Option ℕ) × (file : List ℕ) × AsksPlainly words conflicts file × IsDone before after conflicts file exit))
