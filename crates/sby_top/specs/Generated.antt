-- What `--gen N` asks: the tasks of a task file that is generated.
use Rattle.std.specs.Prelude.{ℕ, List, [], ◌++◌, codes}
use Rattle.std.specs.Fmt.{decimal}
use Rattle.gen_design.specs.Ring.{task_lines, text_of}
use Rattle.sby_words.specs.Requests.{GenRequest}
use Rattle.sby_top.specs.Turns.{AreTextTurns, Turn}

-- the stem of `--gen N`
abbrev pub gen_stem : ℕ → List ℕ
gen_stem n = codes "gen_" ++ decimal n

-- the turns of the generated task file
abbrev pub AreGenTurns : GenRequest → List Turn → Type 0
AreGenTurns g turns = AreTextTurns (gen_stem g.size) g.directory [] (text_of (task_lines g.size)) turns
