-- The command by which `clap` reads the words.
use Rattle.std.specs.Prelude.{◌≡◌, ℕ, true, List, Some, codes}
use Rattle.clap.specs.Walk.{Row, Rule, first_of}
use Rattle.clap.specs.Simple.{App, new_app, new_rule, on_top, with_rule}
use Rattle.clap.specs.Takes.{takes}
use Rattle.clap.specs.declared.builder.action.ArgAction.TheVariants.{Append, Set, SetTrue}

-- a flag by its letter
abbrev pub short_flag : List ℕ → ℕ → Rule
short_flag id letter = record (new_rule id) { short = Some letter; action = Some SetTrue }

-- a flag by its name
abbrev pub long_flag : List ℕ → Rule
long_flag id = record (new_rule id) { long = Some id; action = Some SetTrue }

-- an option by its letter, with one value
abbrev pub short_option : List ℕ → ℕ → Rule
short_option id letter = record (new_rule id) { short = Some letter; action = Some Set }

-- all other words
abbrev pub word_list : Rule
word_list = record (new_rule (codes "words")) { action = Some Append }

-- the command without arguments: no word is the program's name, and it has no help of its own
abbrev pub bare : App
bare = on_top (λ s. record s { no_binary_name = true; disable_help_flag = true }) (new_app (codes "sby"))

-- the command: the flags `-f`, `--judge`, `--dumptasks` and `--gen`, the options `-d DIR` and `-j M`, one list
abbrev pub command : App
command =
    with_rule (with_rule (with_rule (with_rule (with_rule (with_rule (with_rule bare
    (short_flag (codes "force") 102))
    (short_option (codes "folder") 100))
    (short_option (codes "jobs") 106))
    (long_flag (codes "judge")))
    (long_flag (codes "dumptasks")))
    (long_flag (codes "gen")))
    word_list

-- the words are a command line of this command
abbrev pub Taken : List (List ℕ) → Type 0
Taken words = takes command words ≡ true

-- the flag stands among the words
abbrev pub IsGiven : List ℕ → List Row → Type 0
IsGiven id rows = first_of id rows ≡ Some (codes "true")
