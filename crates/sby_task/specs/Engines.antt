-- Engine lines.
use Rattle.std.specs.Prelude.{ℕ, Bool, false, cond, ◌&&◌, List, [], ◌∷◌, Option, Some, None, Result, Ok, Err, is_ok, codes, bytes_eq}
use Rattle.sby_terms.specs.declared.engine.Engine.{Engine}
use Rattle.sby_terms.specs.declared.engine.Engine.TheVariants as engine
use Rattle.sby_terms.specs.Address.{is_address}
use Rattle.sby_task.specs.Values.{number_of}
use Rattle.sby_task.specs.Marks.{are_marked}
use Rattle.sby_task.specs.declared.engines.EngineName.{EngineName}
use Rattle.sby_task.specs.declared.engines.EngineName.TheVariants.{Sat, Drup, Btor, Inv, Lrat, Proof, ProofBinary, Net, LeftOut, Unknown}
use Rattle.sby_task.specs.declared.task_fault.TaskKind.{TaskKind}
use Rattle.sby_task.specs.declared.task_fault.TaskKind.TheVariants.{BadValue, LeftOutEngine, UnknownEngine, Marks}

-- the engine of this name; five are left out by name
abbrev pub engine_name : List ℕ → EngineName
engine_name word =
    cond (bytes_eq word (codes "sat")) Sat
    (cond (bytes_eq word (codes "drup")) Drup
    (cond (bytes_eq word (codes "btor")) Btor
    (cond (bytes_eq word (codes "inv")) Inv
    (cond (bytes_eq word (codes "lrat")) Lrat
    (cond (bytes_eq word (codes "proof")) Proof
    (cond (bytes_eq word (codes "proofb")) ProofBinary
    (cond (bytes_eq word (codes "net")) Net
    (cond (bytes_eq word (codes "smtbmc")) LeftOut
    (cond (bytes_eq word (codes "abc")) LeftOut
    (cond (bytes_eq word (codes "aiger")) LeftOut
    (cond (bytes_eq word (codes "itp")) LeftOut (cond (bytes_eq word (codes "none")) LeftOut Unknown))))))))))))

abbrev pub with_conflicts : Option ℕ → Result Engine TaskKind
with_conflicts None = Err BadValue
with_conflicts (Some n) = Ok (engine.Sat (Some n))

-- `sat`, or `sat --conflicts n`
abbrev pub sat_of : List (List ℕ) → Result Engine TaskKind
sat_of [] = Ok (engine.Sat None)
sat_of (option ∷ value) = cond (bytes_eq option (codes "--conflicts")) (with_conflicts (number_of 1000000000 value)) (Err BadValue)

-- an address, and after it what may stand after `sat`
abbrev pub is_net : List (List ℕ) → Bool
is_net [] = false
is_net (address ∷ budget) = is_address address && is_ok (sat_of budget)

-- `net HOST:PORT`, or `net HOST:PORT --conflicts n`, with all words as they stand
abbrev pub net_of : List ℕ → List (List ℕ) → Result Engine TaskKind
net_of name arguments = cond (is_net arguments) (Ok (engine.Net (name ∷ arguments))) (Err BadValue)

-- PROGRAM and its ARGS
abbrev pub program_of : (List (List ℕ) → Engine) → List (List ℕ) → Result Engine TaskKind
program_of make [] = Err BadValue
program_of make (program ∷ arguments) = Ok (make (program ∷ arguments))

-- the same where the marks of both paths stand once each
abbrev pub marked_of : (List (List ℕ) → Engine) → List (List ℕ) → Result Engine TaskKind
marked_of make [] = Err BadValue
marked_of make (program ∷ arguments) = cond (are_marked (program ∷ arguments)) (Ok (make (program ∷ arguments))) (Err Marks)

-- the engine that a line of this name asks for
abbrev pub engine_from : EngineName → List ℕ → List (List ℕ) → Result Engine TaskKind
engine_from Sat name arguments = sat_of arguments
engine_from Drup name arguments = program_of engine.Drup arguments
engine_from Btor name arguments = program_of engine.Btor arguments
engine_from Inv name arguments = program_of engine.Inv arguments
engine_from Lrat name arguments = program_of engine.Lrat arguments
engine_from Proof name arguments = marked_of engine.Proof arguments
engine_from ProofBinary name arguments = marked_of engine.ProofBinary arguments
engine_from Net name arguments = net_of name arguments
engine_from LeftOut name arguments = Err LeftOutEngine
engine_from Unknown name arguments = Err UnknownEngine

-- the engine that a line names, or what is wrong with it
abbrev pub engine_of : List (List ℕ) → Result Engine TaskKind
engine_of [] = Err UnknownEngine
engine_of (name ∷ arguments) = engine_from (engine_name name) name arguments
