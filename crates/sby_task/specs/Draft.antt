-- What the lines of a task say, one after the other.
use Rattle.std.specs.Prelude.{◌≡◌, ℕ, Bool, true, false, cond, leb, List, [], ◌∷◌, ◌++◌, length, Option, Some, None, Result, Ok, Err, is_some, codes, bytes_eq, MatchResult}
use Rattle.sby_terms.specs.declared.engine.Engine.{Engine}
use Rattle.sby_task.specs.Values.{by_of, mode_of, number_of, count_of, statuses_of, switch_of}
use Rattle.sby_task.specs.Engines.{engine_of}
use Rattle.sby_task.specs.declared.draft.Draft.{Draft}
use Rattle.sby_task.specs.declared.draft.OptionName.{OptionName}
use Rattle.sby_task.specs.declared.draft.OptionName.TheVariants.{Mode, By, Skip, Depth, Stride, Timeout, Expect, Wait, Multiclock, Unknown}
use Rattle.sby_task.specs.declared.task_fault.TaskKind.{TaskKind}
use Rattle.sby_task.specs.declared.task_fault.TaskKind.TheVariants as kind

-- the answer and the draft that is left are these: the next draft, or what is wrong
abbrev pub Becomes : Result (Unit {0}) TaskKind → Draft → Result Draft TaskKind → Type 0
Becomes answer left next = MatchResult answer (λ _. next ≡ Ok left) (λ k. next ≡ Err k)

-- nothing is said yet
abbrev pub blank : Draft
blank = record { mode = None; by = None; skip = None; depth = None; stride = None; timeout = None; expect = None; wait = None; multiclock = None; engines = []; script = None }

abbrev pub option_name : List ℕ → OptionName
option_name word =
    cond (bytes_eq word (codes "mode")) Mode
    (cond (bytes_eq word (codes "by")) By
    (cond (bytes_eq word (codes "skip")) Skip
    (cond (bytes_eq word (codes "depth")) Depth
    (cond (bytes_eq word (codes "stride")) Stride
    (cond (bytes_eq word (codes "timeout")) Timeout
    (cond (bytes_eq word (codes "expect")) Expect (cond (bytes_eq word (codes "wait")) Wait (cond (bytes_eq word (codes "multiclock")) Multiclock Unknown))))))))

-- the value of an option
abbrev pub valued : {A : Type 0} → Option A → (A → Draft) → Result Draft TaskKind
valued None put = Err kind.BadValue
valued (Some value) put = Ok (put value)

-- an option stands once
abbrev pub once : {A : Type 0} → Bool → Option A → (A → Draft) → Result Draft TaskKind
once had value put = cond had (Err kind.DoubleOption) (valued value put)

-- `multiclock` may only be off
abbrev pub off_only : Option Bool → Option Bool
off_only None = None
off_only (Some true) = None
off_only (Some false) = Some false

-- `by` stands in prove alone
abbrev pub if_proved : {A : Type 0} → Bool → Option A → Option A
if_proved proved value = cond proved value None

abbrev pub option_after : Bool → Draft → OptionName → List (List ℕ) → Result Draft TaskKind
option_after proved d Mode value = once (is_some d.mode) (mode_of value) (λ v. record d { mode = Some v })
option_after proved d By value = once (is_some d.by) (if_proved proved (by_of value)) (λ v. record d { by = Some v })
option_after proved d Skip value = once (is_some d.skip) (count_of 99999 value) (λ v. record d { skip = Some v })
option_after proved d Depth value = once (is_some d.depth) (number_of 100000 value) (λ v. record d { depth = Some v })
option_after proved d Stride value = once (is_some d.stride) (number_of 100000 value) (λ v. record d { stride = Some v })
option_after proved d Timeout value = once (is_some d.timeout) (number_of 1000000 value) (λ v. record d { timeout = Some v })
option_after proved d Expect value = once (is_some d.expect) (statuses_of value) (λ v. record d { expect = Some v })
option_after proved d Wait value = once (is_some d.wait) (switch_of value) (λ v. record d { wait = Some v })
option_after proved d Multiclock value = once (is_some d.multiclock) (off_only (switch_of value)) (λ v. record d { multiclock = Some v })
option_after proved d Unknown value = Err kind.UnknownOption

-- an option line: a name and its value; by whether some line gives the mode prove
abbrev pub option_row : Bool → Draft → List (List ℕ) → Result Draft TaskKind
option_row proved d [] = Err kind.UnknownOption
option_row proved d (name ∷ value) = option_after proved d (option_name name) value

abbrev pub with_engine : Draft → Result Engine TaskKind → Result Draft TaskKind
with_engine d (Err k) = Err k
with_engine d (Ok engine) = Ok (record d { engines = d.engines ++ engine ∷ [] })

-- an engine line: at most 64
abbrev pub engine_row : Draft → List (List ℕ) → Result Draft TaskKind
engine_row d words = cond (leb 64 (length d.engines)) (Err kind.Limit) (with_engine d (engine_of words))

abbrev pub read_command : Draft → List (List ℕ) → Result Draft TaskKind
read_command d [] = Err kind.Script
read_command d (command ∷ []) = Err kind.Script
read_command d (command ∷ name ∷ []) = cond (bytes_eq command (codes "read_rtlil")) (Ok (record d { script = Some name })) (Err kind.Script)
read_command d (command ∷ name ∷ more ∷ words) = Err kind.Script

-- the script: one line `read_rtlil NAME`
abbrev pub script_row : Draft → List (List ℕ) → Result Draft TaskKind
script_row d words = cond (is_some d.script) (Err kind.Script) (read_command d words)
