-- The text of every line, as bytes. Nothing above these definitions speaks of text.
use Rattle.std.specs.Prelude.{ℕ, ◌-◌, List, [], ◌∷◌, ◌++◌, codes}
use Rattle.std.specs.Fmt.{decimal}
use Rattle.design_check.specs.declared.fault.FaultKind.{FaultKind}
use Rattle.design_check.specs.declared.fault.FaultKind.TheVariants.{UnknownCell, LeftOut as LeftOutCell, BadParameter, PortWidth, WidthLimit, MixedSign, TwoDrivers, MultiClock, InitConflict, Loop}
use Rattle.design_reader.specs.declared.fault.ReadFaultKind.{ReadFaultKind}
use Rattle.design_reader.specs.declared.fault.ReadFaultKind.TheVariants.{Limit, Syntax, NotUtf8Name, DoubleName, UnknownWire, Index, LeftOut, NoModule, SeveralModules}
use Rattle.cert_judge.specs.declared.stream.CertKind.{CertKind}
use Rattle.cert_judge.specs.declared.stream.CertKind.TheVariants.{BadLine, BadLiteral, LineTooLong, NotRup, NotSatisfying, NotPlaying, TooLong, EarlyEnd, BadWitness, BadId, BadHint, NotHinted, BadPart, NotInvariant}
use Rattle.sby_terms.specs.declared.names.Answer.{Answer}
use Rattle.sby_terms.specs.declared.names.Answer.TheVariants.{Sat, Unsat}
use Rattle.sby_terms.specs.declared.names.Status.{Status}
use Rattle.sby_terms.specs.declared.names.Status.TheVariants.{Pass, Fail, Unknown, Error, Timeout, Memory}
use Rattle.sby_file.specs.declared.fault.SbyKind.{SbyKind}
use Rattle.sby_file.specs.declared.fault.SbyKind.TheVariants as sby
use Rattle.sby_task.specs.declared.task_fault.TaskKind.{TaskKind}
use Rattle.sby_task.specs.declared.task_fault.TaskKind.TheVariants as task
use Rattle.sby_terms.specs.declared.names.Mode.{Mode}
use Rattle.sby_terms.specs.declared.names.Mode.TheVariants.{Bmc, Prove, ProveInv, Cover as CoverMode}
use Rattle.sby_lines.specs.declared.counts.Counts.{Counts}

-- the usage line
unfoldable pub usage_line : List ℕ
usage_line = codes "usage: sby [-f] [-j M] [-d DIR] FILE.sby [TASK ..] | sby [-d DIR] --judge DESIGN MODE DEPTH [STREAM ..] | sby --dumptasks FILE.sby | sby [-d DIR] --gen N\n"

-- a line of a task: `SBY [name] text`
unfoldable pub line_of : List ℕ → List ℕ → List ℕ
line_of name text = codes "SBY [" ++ name ++ codes "] " ++ text ++ 10 ∷ []

unfoldable pub answer_text : Answer → List ℕ
answer_text Sat = codes "SAT"
answer_text Unsat = codes "UNSAT"

unfoldable pub status_text : Status → List ℕ
status_text Pass = codes "PASS"
status_text Fail = codes "FAIL"
status_text Unknown = codes "UNKNOWN"
status_text Error = codes "ERROR"
status_text Timeout = codes "TIMEOUT"
status_text Memory = codes "MEMORY"

unfoldable pub read_kind_text : ReadFaultKind → List ℕ
read_kind_text Limit = codes "Limit"
read_kind_text Syntax = codes "Syntax"
read_kind_text NotUtf8Name = codes "NotUtf8Name"
read_kind_text DoubleName = codes "DoubleName"
read_kind_text UnknownWire = codes "UnknownWire"
read_kind_text Index = codes "Index"
read_kind_text LeftOut = codes "LeftOut"
read_kind_text NoModule = codes "NoModule"
read_kind_text SeveralModules = codes "SeveralModules"

unfoldable pub design_kind_text : FaultKind → List ℕ
design_kind_text UnknownCell = codes "UnknownCell"
design_kind_text LeftOutCell = codes "LeftOut"
design_kind_text BadParameter = codes "BadParameter"
design_kind_text PortWidth = codes "PortWidth"
design_kind_text WidthLimit = codes "WidthLimit"
design_kind_text MixedSign = codes "MixedSign"
design_kind_text TwoDrivers = codes "TwoDrivers"
design_kind_text MultiClock = codes "MultiClock"
design_kind_text InitConflict = codes "InitConflict"
design_kind_text Loop = codes "Loop"

-- the kind of a certificate's fault, and what its place counts
unfoldable pub cert_kind_text : CertKind → List ℕ
cert_kind_text BadLine = codes "BadLine at byte"
cert_kind_text BadLiteral = codes "BadLiteral at byte"
cert_kind_text LineTooLong = codes "LineTooLong at byte"
cert_kind_text NotRup = codes "NotRup at byte"
cert_kind_text NotSatisfying = codes "NotSatisfying clause"
cert_kind_text NotPlaying = codes "NotPlaying frame"
cert_kind_text TooLong = codes "TooLong at byte"
cert_kind_text EarlyEnd = codes "EarlyEnd at byte"
cert_kind_text BadWitness = codes "BadWitness at byte"
cert_kind_text BadId = codes "BadId at byte"
cert_kind_text BadHint = codes "BadHint at byte"
cert_kind_text NotHinted = codes "NotHinted at byte"
cert_kind_text BadPart = codes "BadPart at byte"
cert_kind_text NotInvariant = codes "NotInvariant at byte"

unfoldable pub sby_kind_text : SbyKind → List ℕ
sby_kind_text sby.NotText = codes "NotText"
sby_kind_text sby.StrayLine = codes "StrayLine"
sby_kind_text sby.UnknownSection = codes "UnknownSection"
sby_kind_text sby.DoubleSection = codes "DoubleSection"
sby_kind_text sby.DoubleTask = codes "DoubleTask"
sby_kind_text sby.PrefixWithoutTasks = codes "PrefixWithoutTasks"
sby_kind_text sby.UnknownTask = codes "UnknownTask"
sby_kind_text sby.DoubleFile = codes "DoubleFile"
sby_kind_text sby.Limit = codes "Limit"

unfoldable pub task_kind_text : TaskKind → List ℕ
task_kind_text task.UnknownTask = codes "UnknownTask"
task_kind_text task.Limit = codes "Limit"
task_kind_text task.UnknownOption = codes "UnknownOption"
task_kind_text task.DoubleOption = codes "DoubleOption"
task_kind_text task.BadValue = codes "BadValue"
task_kind_text task.NoMode = codes "NoMode"
task_kind_text task.NoEngine = codes "NoEngine"
task_kind_text task.LeftOutEngine = codes "LeftOutEngine"
task_kind_text task.UnknownEngine = codes "UnknownEngine"
task_kind_text task.Script = codes "Script"
task_kind_text task.MissingFile = codes "MissingFile"
task_kind_text task.Slices = codes "Slices"
task_kind_text task.Marks = codes "Marks"

unfoldable pub sby_text : ℕ → List ℕ → List ℕ
sby_text line kind = codes "ERROR: sby line " ++ decimal line ++ codes ": " ++ kind

unfoldable pub file_text : List ℕ → List ℕ
file_text path = codes "ERROR: file " ++ path

unfoldable pub read_text : ℕ → List ℕ → List ℕ
read_text byte kind = codes "ERROR: rtlil byte " ++ decimal byte ++ codes ": " ++ kind

unfoldable pub fault_text : List ℕ → List ℕ → List ℕ
fault_text kind name = codes "ERROR: design " ++ kind ++ codes " " ++ name

unfoldable pub too_many_text : List ℕ → List ℕ
too_many_text job = codes "ERROR: " ++ job ++ codes " TooMany"

unfoldable pub streams_text : List ℕ
streams_text = codes "ERROR: streams"

unfoldable pub design_text : Counts → List ℕ
design_text c =
    codes "design: " ++ decimal c.registers ++ codes " register bits, " ++ decimal c.asserts ++ codes " assert, "
    ++ decimal c.assumes ++ codes " assume, " ++ decimal c.covers ++ codes " cover"

unfoldable pub skipped_text : ℕ → List ℕ
skipped_text skip = codes "skipped: cycles 0 to " ++ decimal (skip - 1)

-- the reading that showed the limit, the one at which the lanes started, and the limit, in milliseconds
unfoldable pub stopped_text : ℕ → ℕ → ℕ → List ℕ
stopped_text reading start limit = codes "stopped at " ++ decimal reading ++ codes ", started at " ++ decimal start ++ codes ", limit " ++ decimal limit

unfoldable pub settled_text : List ℕ → List ℕ → List ℕ
settled_text job answer = job ++ codes ": " ++ answer

unfoldable pub cert_text : List ℕ → ℕ → List ℕ
cert_text kind at = codes "certificate " ++ kind ++ codes " " ++ decimal at

unfoldable pub lane_text : ℕ → List ℕ → List ℕ → List ℕ
lane_text lane job text = codes "engine_" ++ decimal lane ++ codes " " ++ job ++ codes ": " ++ text

unfoldable pub unknown_text : List ℕ
unknown_text = codes "unknown"

unfoldable pub not_served_text : List ℕ
not_served_text = codes "not served"

unfoldable pub read_failed_text : List ℕ
read_failed_text = codes "read failed"

unfoldable pub start_failed_text : List ℕ
start_failed_text = codes "start failed"

unfoldable pub hold_failed_text : List ℕ
hold_failed_text = codes "hold failed"

unfoldable pub memory_text : List ℕ
memory_text = codes "out of memory"

unfoldable pub broken_text : List ℕ → ℕ → List ℕ
broken_text name cycle = codes "broken: " ++ name ++ codes " at cycle " ++ decimal cycle

unfoldable pub reached_text : List ℕ → ℕ → List ℕ
reached_text name cycle = codes "reached: " ++ name ++ codes " at cycle " ++ decimal cycle

unfoldable pub unreached_text : List ℕ → List ℕ
unreached_text name = codes "unreached: " ++ name

unfoldable pub done_text : List ℕ → ℕ → List ℕ
done_text status rc = codes "DONE (" ++ status ++ codes ", rc=" ++ decimal rc ++ codes ")"

unfoldable pub not_written_text : List ℕ → List ℕ
not_written_text path = codes "not written: " ++ path

-- the path of a trace file in the work folder; those of cover are numbered as the statements are
unfoldable pub trace_path : List ℕ → Mode → ℕ → List ℕ
trace_path folder Bmc k = folder ++ codes "/trace.vcd"
trace_path folder Prove k = folder ++ codes "/trace.vcd"
trace_path folder ProveInv k = folder ++ codes "/trace.vcd"
trace_path folder CoverMode k = folder ++ codes "/trace" ++ decimal k ++ codes ".vcd"
