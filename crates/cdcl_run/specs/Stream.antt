-- A stream that was written whole.
use Rattle.std.specs.Prelude.{◌≡◌, ◌⊎◌, ℕ, Bool, List, Result, Ok, Err}
use Rattle.cnf_form.specs.Reading.{IsFault}
use Rattle.cnf_form.specs.declared.reader.DimacsFaultKind.{DimacsFaultKind}
use Rattle.sby_edge.specs.declared.outside.Fail.{Fail}
use Rattle.sby_edge.specs.declared.outside.Fail.TheVariants.{Failed, Memory}
use Rattle.cdcl_run.specs.Answer.{IsAnswer}
use Rattle.cdcl_run.specs.Text.{fault_line}

-- the whole stream for the bytes of a file within a budget: the line of their fault, or an answer
abbrev pub IsStream : Bool → ℕ → List ℕ → List ℕ → Type 0
IsStream hinted budget bytes stream =
    ((kind : DimacsFaultKind) × (byte : ℕ) × IsFault bytes kind byte × (stream ≡ fault_line kind byte))
    ⊎ ((exit : ℕ) × IsAnswer hinted bytes budget stream exit)

-- the exit status: that of a whole stream, 1 where a call failed, and 32 at out of memory
abbrev pub exit_of : Result ℕ Fail → ℕ
exit_of (Ok exit) = exit
exit_of (Err Failed) = 1
exit_of (Err Memory) = 32
