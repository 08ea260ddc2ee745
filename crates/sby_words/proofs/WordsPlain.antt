-- Plain words: what the walk makes of them, and what their matches ask.
use Rattle.std.proofs.Common.{◌≡◌, ◌∙◌, ◌&&◌, ◌==◌, Bool, true, false, List, [], ◌∷◌, ◌++◌, Option, Some, None, refl, sym, ap, ap₂, subst, append_assoc, append-nil, true≢false}
use Rattle.std.specs.Prelude.{◌↔◌, All, IfSome, IsTrue, codes}
use Rattle.std.specs.List.{fold}
use Rattle.std.specs.Str.{bytes_eq}
use Rattle.std.proofs.lemmas.Bool.{ne_eqb}
use Rattle.std.proofs.lemmas.List.Elements.{All-head, All-tail}
use Rattle.clap.specs.Lexer.{long_of, short_of}
use Rattle.clap.specs.Simple.{Shape, built, matches_of}
use Rattle.clap.specs.Takes.{settle_passes, turn_passes, walk_passes}
use Rattle.clap.specs.Walk.{Row, Rule, Text, Walk, all_of, first_of, idle, nothing_held, option, positional, settled, walk_from, walked, with_default, with_values}
use Rattle.clap.specs.declared.builder.value_parser.Reading.TheVariants.{AsWritten}
use Rattle.clap.specs.declared.parser.matches.ValueSource.TheVariants.{CommandLine}
use Rattle.clap.proofs.OnLiterals.{clap_on_literals}
use Rattle.clap.proofs.TakesLemmas.{leaf_takes}
use Rattle.sby_words.specs.declared.form.Form.{Form}
use Rattle.sby_words.specs.declared.form.Form.TheVariants.{Judge, Tasks, Names, Gen}
use Rattle.sby_words.specs.Command.{IsGiven, command}
use Rattle.sby_words.specs.Requests.{AskGen, AskJudge, AskNames, AskTasks, Request}
use Rattle.sby_words.specs.Words.{Asks, HasForm, IsPlain, Means, Says, directory_words, form_of, form_words, jobs_words, plain_words}
use Rattle.sby_words.proofs.WordsTaken.{walk_level}

abbrev whole : Shape
whole = (built command).top

abbrev rules : List Rule
rules = whole.rules

-- ---- a plain word

record Plain (word : Text) : Type 0 where
  pub no_end : bytes_eq word (45 ∷ 45 ∷ []) ≡ false
  pub no_long : long_of word ≡ None
  pub no_short : short_of word ≡ None

plain : (word : Text) → IsPlain word → Plain word
plain [] p = absurd p
plain (b ∷ bs) p =
    let other : (b == 45) ≡ false = ne_eqb b 45 p in
    record { no_end = rw other refl; no_long = rw other refl; no_short = rw other refl }

-- ---- the rows

abbrev row_of : Text → List Text → Row
row_of id values = record { id = id; values = values; count = None; source = Some CommandLine; reading = AsWritten }

abbrev force_rows : Bool → List Row
force_rows true = row_of (codes "force") (codes "true" ∷ []) ∷ []
force_rows false = []

abbrev directory_rows : Option Text → List Row
directory_rows None = []
directory_rows (Some dir) = row_of (codes "folder") (dir ∷ []) ∷ []

abbrev jobs_rows : Option Text → List Row
jobs_rows None = []
jobs_rows (Some jobs) = row_of (codes "jobs") (jobs ∷ []) ∷ []

abbrev form_rows : Form → List Row
form_rows Judge = row_of (codes "judge") (codes "true" ∷ []) ∷ []
form_rows Tasks = []
form_rows Names = row_of (codes "dumptasks") (codes "true" ∷ []) ∷ []
form_rows Gen = row_of (codes "gen") (codes "true" ∷ []) ∷ []

-- the rows of what stands in front of the list
abbrev front : Bool → Option Text → Option Text → Form → List Row
front force dir jobs form = force_rows force ++ (jobs_rows jobs ++ (directory_rows dir ++ form_rows form))

-- the rows with one more word in the list
abbrev with_word : List Row → Text → List Row
with_word rows word = with_values (codes "words") AsWritten CommandLine (word ∷ []) rows

-- no row is that of the list
abbrev NoWords : List Row → Type 0
NoWords [] = Unit {0}
NoWords (r ∷ rs) = (bytes_eq r.id (codes "words") ≡ false) × NoWords rs

no_words : (a b : List Row) → NoWords a → NoWords b → NoWords (a ++ b)
no_words [] b p q = q
no_words (r ∷ rs) b p q = (p.0, no_words rs b p.1 q)

no_force_words : (force : Bool) → NoWords (force_rows force)
no_force_words true = (refl, tt)
no_force_words false = tt

no_directory_words : (dir : Option Text) → NoWords (directory_rows dir)
no_directory_words None = tt
no_directory_words (Some dir) = (refl, tt)

no_jobs_words : (jobs : Option Text) → NoWords (jobs_rows jobs)
no_jobs_words None = tt
no_jobs_words (Some jobs) = (refl, tt)

no_form_words : (form : Form) → NoWords (form_rows form)
no_form_words Judge = (refl, tt)
no_form_words Tasks = tt
no_form_words Names = (refl, tt)
no_form_words Gen = (refl, tt)

no_front_words : (force : Bool) (dir jobs : Option Text) (form : Form) → NoWords (front force dir jobs form)
no_front_words force dir jobs form =
    no_words (force_rows force) (jobs_rows jobs ++ (directory_rows dir ++ form_rows form)) (no_force_words force)
    (no_words (jobs_rows jobs) (directory_rows dir ++ form_rows form) (no_jobs_words jobs)
    (no_words (directory_rows dir) (form_rows form) (no_directory_words dir) (no_form_words form)))

first_word : (rows : List Row) (word : Text) → NoWords rows → with_word rows word ≡ rows ++ row_of (codes "words") (word ∷ []) ∷ []
first_word [] word none = refl
first_word (r ∷ rs) word none = rw none.0 (ap (λ (t : List Row). r ∷ t) (first_word rs word none.1))

next_word : (rows : List Row) (vs : List Text) (word : Text) → NoWords rows
    → with_word (rows ++ row_of (codes "words") vs ∷ []) word ≡ rows ++ row_of (codes "words") (vs ++ word ∷ []) ∷ []
next_word [] vs word none = refl
next_word (r ∷ rs) vs word none = rw none.0 (ap (λ (t : List Row). r ∷ t) (next_word rs vs word none.1))

next_words : (rows : List Row) (vs words : List Text) → NoWords rows
    → fold with_word (rows ++ row_of (codes "words") vs ∷ []) words ≡ rows ++ row_of (codes "words") (vs ++ words) ∷ []
next_words rows vs [] none = ap (λ (t : List Text). rows ++ row_of (codes "words") t ∷ []) (sym (append-nil vs))
next_words rows vs (word ∷ words) none = ap (λ (t : List Row). fold with_word t words) (next_word rows vs word none)
    ∙ next_words rows (vs ++ word ∷ []) words none
    ∙ ap (λ (t : List Text). rows ++ row_of (codes "words") t ∷ []) (append_assoc vs (word ∷ []) words)

-- ---- one turn of the walk

-- between two words, where nothing waits
abbrev ready : List Row → Walk
ready rows = record { held = record { rows = rows; pending = None; skip = 0 }; waiting = idle; position = 1; is_trailing = false; stopped = None }

-- after an option, and after its value
abbrev option_waits : Text → List Row → Walk
option_waits id rows = record { held = record { rows = rows; pending = Some (id, []); skip = 0 }; waiting = option id; position = 1; is_trailing = false; stopped = None }

abbrev option_has : Text → List Row → Text → Walk
option_has id rows given = record { held = record { rows = rows; pending = Some (id, given ∷ []); skip = 0 }; waiting = idle; position = 1; is_trailing = false; stopped = None }

-- after a word of the list, which waits
abbrev behind : List Row → Text → Walk
behind rows last = record { held = record { rows = rows; pending = Some (codes "words", last ∷ []); skip = 0 }; waiting = positional; position = 1; is_trailing = false; stopped = None }

record Turn (from after : Walk) (word : Text) : Type 0 where
  pub to : walked rules [] from word ≡ after
  pub passes : turn_passes whole [] from word ≡ true

force_turn : Turn (ready []) (ready (force_rows true)) (codes "-f")
unfolding clap_on_literals
force_turn = record { to = refl; passes = refl }

-- after `-f` and `-j M`
abbrev behind_jobs : Bool → Option Text → Walk
behind_jobs force None = ready (force_rows force)
behind_jobs force (Some jobs) = option_has (codes "jobs") (force_rows force) jobs

jobs_turn : (rows : List Row) → Turn (ready rows) (option_waits (codes "jobs") rows) (codes "-j")
unfolding clap_on_literals
jobs_turn rows = record { to = refl; passes = refl }

limit_turn : (rows : List Row) (jobs : Text) → Plain jobs → Turn (option_waits (codes "jobs") rows) (option_has (codes "jobs") rows jobs) jobs
unfolding clap_on_literals
limit_turn rows jobs p = record { to = rw (p.no_end, p.no_long, p.no_short) refl; passes = rw (p.no_end, p.no_long, p.no_short) refl }

folder_turn : (force : Bool) (jobs : Option Text) → Turn (behind_jobs force jobs) (option_waits (codes "folder") (force_rows force ++ jobs_rows jobs)) (codes "-d")
unfolding clap_on_literals
folder_turn true None = record { to = refl; passes = refl }
folder_turn true (Some jobs) = record { to = refl; passes = refl }
folder_turn false None = record { to = refl; passes = refl }
folder_turn false (Some jobs) = record { to = refl; passes = refl }

directory_turn : (rows : List Row) (dir : Text) → Plain dir → Turn (option_waits (codes "folder") rows) (option_has (codes "folder") rows dir) dir
unfolding clap_on_literals
directory_turn rows dir p = record { to = rw (p.no_end, p.no_long, p.no_short) refl; passes = rw (p.no_end, p.no_long, p.no_short) refl }

first_turn : (rows : List Row) (word : Text) → Plain word → Turn (ready rows) (behind rows word) word
unfolding clap_on_literals
first_turn rows word p = record { to = rw (p.no_end, p.no_long, p.no_short) refl; passes = rw (p.no_end, p.no_long, p.no_short) refl }

next_turn : (rows : List Row) (last word : Text) → Plain word → Turn (behind rows last) (behind (with_word rows last) word) word
unfolding clap_on_literals
next_turn rows last word p = record { to = rw (p.no_end, p.no_long, p.no_short) refl; passes = rw (p.no_end, p.no_long, p.no_short) refl }

-- after `-f`, `-j M` and `-d DIR`
abbrev behind_options : Bool → Option Text → Option Text → Walk
behind_options force None jobs = behind_jobs force jobs
behind_options force (Some dir) jobs = option_has (codes "folder") (force_rows force ++ jobs_rows jobs) dir

-- the turns by the flags of forms
record FlagTurns (force : Bool) (dir jobs : Option Text) : Type 0 where
  pub judge : Turn (behind_options force dir jobs) (ready (front force dir jobs Judge)) (codes "--judge")
  pub names : Turn (behind_options force dir jobs) (ready (front force dir jobs Names)) (codes "--dumptasks")
  pub gen : Turn (behind_options force dir jobs) (ready (front force dir jobs Gen)) (codes "--gen")

flag_turns : (force : Bool) (dir jobs : Option Text) → FlagTurns force dir jobs
unfolding clap_on_literals
flag_turns true None None = record { judge = record { to = refl; passes = refl }; names = record { to = refl; passes = refl }; gen = record { to = refl; passes = refl } }
flag_turns true None (Some jobs) = record { judge = record { to = refl; passes = refl }; names = record { to = refl; passes = refl }; gen = record { to = refl; passes = refl } }
flag_turns true (Some dir) None = record { judge = record { to = refl; passes = refl }; names = record { to = refl; passes = refl }; gen = record { to = refl; passes = refl } }
flag_turns true (Some dir) (Some jobs) = record { judge = record { to = refl; passes = refl }; names = record { to = refl; passes = refl }; gen = record { to = refl; passes = refl } }
flag_turns false None None = record { judge = record { to = refl; passes = refl }; names = record { to = refl; passes = refl }; gen = record { to = refl; passes = refl } }
flag_turns false None (Some jobs) = record { judge = record { to = refl; passes = refl }; names = record { to = refl; passes = refl }; gen = record { to = refl; passes = refl } }
flag_turns false (Some dir) None = record { judge = record { to = refl; passes = refl }; names = record { to = refl; passes = refl }; gen = record { to = refl; passes = refl } }
flag_turns false (Some dir) (Some jobs) = record { judge = record { to = refl; passes = refl }; names = record { to = refl; passes = refl }; gen = record { to = refl; passes = refl } }

tasks_turn : (force : Bool) (dir jobs : Option Text) (word : Text) → Plain word → Turn (behind_options force dir jobs) (behind (front force dir jobs Tasks) word) word
unfolding clap_on_literals
tasks_turn true None None word p = record { to = rw (p.no_end, p.no_long, p.no_short) refl; passes = rw (p.no_end, p.no_long, p.no_short) refl }
tasks_turn true None (Some jobs) word p = record { to = rw (p.no_end, p.no_long, p.no_short) refl; passes = rw (p.no_end, p.no_long, p.no_short) refl }
tasks_turn true (Some dir) None word p = record { to = rw (p.no_end, p.no_long, p.no_short) refl; passes = rw (p.no_end, p.no_long, p.no_short) refl }
tasks_turn true (Some dir) (Some jobs) word p = record { to = rw (p.no_end, p.no_long, p.no_short) refl; passes = rw (p.no_end, p.no_long, p.no_short) refl }
tasks_turn false None None word p = record { to = rw (p.no_end, p.no_long, p.no_short) refl; passes = rw (p.no_end, p.no_long, p.no_short) refl }
tasks_turn false None (Some jobs) word p = record { to = rw (p.no_end, p.no_long, p.no_short) refl; passes = rw (p.no_end, p.no_long, p.no_short) refl }
tasks_turn false (Some dir) None word p = record { to = rw (p.no_end, p.no_long, p.no_short) refl; passes = rw (p.no_end, p.no_long, p.no_short) refl }
tasks_turn false (Some dir) (Some jobs) word p = record { to = rw (p.no_end, p.no_long, p.no_short) refl; passes = rw (p.no_end, p.no_long, p.no_short) refl }

-- ---- all words

-- the rows that the walk ends with, and that each turn passes
record Walked (rows : List Row) (from : Walk) (words : List Text) : Type 0 where
  pub comes : (settled rules (fold (walked rules []) from words).held).rows ≡ rows
  pub passes : walk_passes whole [] from words ≡ true
  pub ends : settle_passes rules false (fold (walked rules []) from words).held ≡ true

walked_end : (rows : List Row) (last : Text) → Walked (with_word rows last) (behind rows last) []
unfolding clap_on_literals
walked_end rows last = record { comes = refl; passes = refl; ends = refl }

-- one turn more in front
walked_more : (rows : List Row) (from after : Walk) (word : Text) (words : List Text) → Turn from after word → Walked rows after words → Walked rows from (word ∷ words)
unfolding walk_passes
walked_more rows from after word words turn later = record {
  comes = ap (λ (w : Walk). (settled rules (fold (walked rules []) w words).held).rows) turn.to ∙ later.comes;
  passes = ap₂ (λ a b. a && b) turn.passes (ap (λ (w : Walk). walk_passes whole [] w words) turn.to ∙ later.passes);
  ends = ap (λ (w : Walk). settle_passes rules false (fold (walked rules []) w words).held) turn.to ∙ later.ends;
}

walked_on : (rows : List Row) (last : Text) (words : List Text) → All IsPlain words → Walked (fold with_word (with_word rows last) words) (behind rows last) words
walked_on rows last [] all = walked_end rows last
walked_on rows last (word ∷ words) all =
    walked_more (fold with_word (with_word rows last) (word ∷ words)) (behind rows last) (behind (with_word rows last) word) word words
    (next_turn rows last word (plain word (All-head IsPlain word words all)))
    (walked_on (with_word rows last) word words (All-tail IsPlain word words all))

-- the rows in front, and that of the list
abbrev all_rows : List Row → Text → List Text → List Row
all_rows rows word words = rows ++ row_of (codes "words") (word ∷ words) ∷ []

walked_behind : (rows : List Row) (word : Text) (words : List Text) → NoWords rows → All IsPlain words → Walked (all_rows rows word words) (behind rows word) words
walked_behind rows word words none all =
    subst (λ (t : List Row). Walked t (behind rows word) words)
    (ap (λ (t : List Row). fold with_word t words) (first_word rows word none) ∙ next_words rows (word ∷ []) words none) (walked_on rows word words all)

walked_list : (rows : List Row) (word : Text) (words : List Text) → NoWords rows → IsPlain word → All IsPlain words → Walked (all_rows rows word words) (ready rows) (word ∷ words)
walked_list rows word words none p all =
    walked_more (all_rows rows word words) (ready rows) (behind rows word) word words (first_turn rows word (plain word p)) (walked_behind rows word words none all)

walked_flag : (force : Bool) (dir jobs : Option Text) (form : Form) (flag : Text) → Turn (behind_options force dir jobs) (ready (front force dir jobs form)) flag
    → (word : Text) (words : List Text) → IsPlain word → All IsPlain words → Walked (all_rows (front force dir jobs form) word words) (behind_options force dir jobs) (flag ∷ word ∷ words)
walked_flag force dir jobs form flag turn word words p all =
    let rows = front force dir jobs form in
    walked_more (all_rows rows word words) (behind_options force dir jobs) (ready rows) flag (word ∷ words) turn (walked_list rows word words (no_front_words force dir jobs form) p all)

walked_form : (force : Bool) (dir jobs : Option Text) (form : Form) (word : Text) (words : List Text) → IsPlain word → All IsPlain words
    → Walked (all_rows (front force dir jobs form) word words) (behind_options force dir jobs) (form_words form ++ word ∷ words)
walked_form force dir jobs Judge word words p all = walked_flag force dir jobs Judge (codes "--judge") (flag_turns force dir jobs).judge word words p all
walked_form force dir jobs Names word words p all = walked_flag force dir jobs Names (codes "--dumptasks") (flag_turns force dir jobs).names word words p all
walked_form force dir jobs Gen word words p all = walked_flag force dir jobs Gen (codes "--gen") (flag_turns force dir jobs).gen word words p all
walked_form force dir jobs Tasks word words p all =
    let rows = front force dir jobs Tasks in
    walked_more (all_rows rows word words) (behind_options force dir jobs) (behind rows word) word words (tasks_turn force dir jobs word (plain word p)) (walked_behind rows word words (no_front_words force dir jobs Tasks) all)

walked_directory : (force : Bool) (dir jobs : Option Text) (rows : List Row) (words : List Text) → IfSome dir IsPlain → Walked rows (behind_options force dir jobs) words
    → Walked rows (behind_jobs force jobs) (directory_words dir ++ words)
walked_directory force None jobs rows words on later = later
walked_directory force (Some dir) jobs rows words on later =
    let before = force_rows force ++ jobs_rows jobs in
    walked_more rows (behind_jobs force jobs) (option_waits (codes "folder") before) (codes "-d") (dir ∷ words) (folder_turn force jobs)
    (walked_more rows (option_waits (codes "folder") before) (option_has (codes "folder") before dir) dir words (directory_turn before dir (plain dir on)) later)

walked_jobs : (force : Bool) (jobs : Option Text) (rows : List Row) (words : List Text) → IfSome jobs IsPlain → Walked rows (behind_jobs force jobs) words
    → Walked rows (ready (force_rows force)) (jobs_words jobs ++ words)
walked_jobs force None rows words on later = later
walked_jobs force (Some jobs) rows words on later =
    let before = force_rows force in
    walked_more rows (ready before) (option_waits (codes "jobs") before) (codes "-j") (jobs ∷ words) (jobs_turn before)
    (walked_more rows (option_waits (codes "jobs") before) (option_has (codes "jobs") before jobs) jobs words (limit_turn before jobs (plain jobs on)) later)

-- the words after `-f`
walked_options : (force : Bool) (dir jobs : Option Text) (form : Form) (word : Text) (words : List Text) → IfSome dir IsPlain → IfSome jobs IsPlain → IsPlain word → All IsPlain words
    → Walked (all_rows (front force dir jobs form) word words) (ready (force_rows force)) (jobs_words jobs ++ (directory_words dir ++ (form_words form ++ word ∷ words)))
walked_options force dir jobs form word words on limited p all =
    let rows = all_rows (front force dir jobs form) word words in
    let list = form_words form ++ word ∷ words in
    walked_jobs force jobs rows (directory_words dir ++ list) limited
    (walked_directory force dir jobs rows list on (walked_form force dir jobs form word words p all))

all_walked : (force : Bool) (dir jobs : Option Text) (form : Form) (word : Text) (words : List Text) → IfSome dir IsPlain → IfSome jobs IsPlain → IsPlain word → All IsPlain words
    → Walked (all_rows (front force dir jobs form) word words) (walk_from nothing_held) (plain_words force dir jobs form (word ∷ words))
all_walked true dir jobs form word words on limited p all =
    let rows = all_rows (front true dir jobs form) word words in
    let rest = jobs_words jobs ++ (directory_words dir ++ (form_words form ++ word ∷ words)) in
    walked_more rows (ready []) (ready (force_rows true)) (codes "-f") rest force_turn (walked_options true dir jobs form word words on limited p all)
all_walked false dir jobs form word words on limited p all = walked_options false dir jobs form word words on limited p all

-- ---- what they ask

abbrev is_judge : Form → Bool
is_judge Judge = true
is_judge Tasks = false
is_judge Names = false
is_judge Gen = false

abbrev is_names : Form → Bool
is_names Judge = false
is_names Tasks = false
is_names Names = true
is_names Gen = false

abbrev is_gen : Form → Bool
is_gen Judge = false
is_gen Tasks = false
is_gen Names = false
is_gen Gen = true

abbrev flag_text : Bool → Text
flag_text true = codes "true"
flag_text false = codes "false"

-- what the matches find
record Found (rows : List Row) (dir jobs : Option Text) (form : Form) (list : List Text) : Type 0 where
  pub words : all_of (codes "words") rows ≡ Some list
  pub folder : first_of (codes "folder") rows ≡ dir
  pub jobs_are : first_of (codes "jobs") rows ≡ jobs
  pub judge : first_of (codes "judge") rows ≡ Some (flag_text (is_judge form))
  pub dumptasks : first_of (codes "dumptasks") rows ≡ Some (flag_text (is_names form))
  pub gen : first_of (codes "gen") rows ≡ Some (flag_text (is_gen form))

-- the rows with the defaults of all that wasn't used
abbrev defaulted : List Row → List Row
defaulted rows = fold with_default rows rules

found : (force : Bool) (dir jobs : Option Text) (form : Form) (word : Text) (words : List Text) → Found (defaulted (all_rows (front force dir jobs form) word words)) dir jobs form (word ∷ words)
unfolding clap_on_literals
found true None None Judge word words = record { words = refl; folder = refl; jobs_are = refl; judge = refl; dumptasks = refl; gen = refl }
found true None None Tasks word words = record { words = refl; folder = refl; jobs_are = refl; judge = refl; dumptasks = refl; gen = refl }
found true None None Names word words = record { words = refl; folder = refl; jobs_are = refl; judge = refl; dumptasks = refl; gen = refl }
found true None None Gen word words = record { words = refl; folder = refl; jobs_are = refl; judge = refl; dumptasks = refl; gen = refl }
found true None (Some jobs) Judge word words = record { words = refl; folder = refl; jobs_are = refl; judge = refl; dumptasks = refl; gen = refl }
found true None (Some jobs) Tasks word words = record { words = refl; folder = refl; jobs_are = refl; judge = refl; dumptasks = refl; gen = refl }
found true None (Some jobs) Names word words = record { words = refl; folder = refl; jobs_are = refl; judge = refl; dumptasks = refl; gen = refl }
found true None (Some jobs) Gen word words = record { words = refl; folder = refl; jobs_are = refl; judge = refl; dumptasks = refl; gen = refl }
found true (Some dir) None Judge word words = record { words = refl; folder = refl; jobs_are = refl; judge = refl; dumptasks = refl; gen = refl }
found true (Some dir) None Tasks word words = record { words = refl; folder = refl; jobs_are = refl; judge = refl; dumptasks = refl; gen = refl }
found true (Some dir) None Names word words = record { words = refl; folder = refl; jobs_are = refl; judge = refl; dumptasks = refl; gen = refl }
found true (Some dir) None Gen word words = record { words = refl; folder = refl; jobs_are = refl; judge = refl; dumptasks = refl; gen = refl }
found true (Some dir) (Some jobs) Judge word words = record { words = refl; folder = refl; jobs_are = refl; judge = refl; dumptasks = refl; gen = refl }
found true (Some dir) (Some jobs) Tasks word words = record { words = refl; folder = refl; jobs_are = refl; judge = refl; dumptasks = refl; gen = refl }
found true (Some dir) (Some jobs) Names word words = record { words = refl; folder = refl; jobs_are = refl; judge = refl; dumptasks = refl; gen = refl }
found true (Some dir) (Some jobs) Gen word words = record { words = refl; folder = refl; jobs_are = refl; judge = refl; dumptasks = refl; gen = refl }
found false None None Judge word words = record { words = refl; folder = refl; jobs_are = refl; judge = refl; dumptasks = refl; gen = refl }
found false None None Tasks word words = record { words = refl; folder = refl; jobs_are = refl; judge = refl; dumptasks = refl; gen = refl }
found false None None Names word words = record { words = refl; folder = refl; jobs_are = refl; judge = refl; dumptasks = refl; gen = refl }
found false None None Gen word words = record { words = refl; folder = refl; jobs_are = refl; judge = refl; dumptasks = refl; gen = refl }
found false None (Some jobs) Judge word words = record { words = refl; folder = refl; jobs_are = refl; judge = refl; dumptasks = refl; gen = refl }
found false None (Some jobs) Tasks word words = record { words = refl; folder = refl; jobs_are = refl; judge = refl; dumptasks = refl; gen = refl }
found false None (Some jobs) Names word words = record { words = refl; folder = refl; jobs_are = refl; judge = refl; dumptasks = refl; gen = refl }
found false None (Some jobs) Gen word words = record { words = refl; folder = refl; jobs_are = refl; judge = refl; dumptasks = refl; gen = refl }
found false (Some dir) None Judge word words = record { words = refl; folder = refl; jobs_are = refl; judge = refl; dumptasks = refl; gen = refl }
found false (Some dir) None Tasks word words = record { words = refl; folder = refl; jobs_are = refl; judge = refl; dumptasks = refl; gen = refl }
found false (Some dir) None Names word words = record { words = refl; folder = refl; jobs_are = refl; judge = refl; dumptasks = refl; gen = refl }
found false (Some dir) None Gen word words = record { words = refl; folder = refl; jobs_are = refl; judge = refl; dumptasks = refl; gen = refl }
found false (Some dir) (Some jobs) Judge word words = record { words = refl; folder = refl; jobs_are = refl; judge = refl; dumptasks = refl; gen = refl }
found false (Some dir) (Some jobs) Tasks word words = record { words = refl; folder = refl; jobs_are = refl; judge = refl; dumptasks = refl; gen = refl }
found false (Some dir) (Some jobs) Names word words = record { words = refl; folder = refl; jobs_are = refl; judge = refl; dumptasks = refl; gen = refl }
found false (Some dir) (Some jobs) Gen word words = record { words = refl; folder = refl; jobs_are = refl; judge = refl; dumptasks = refl; gen = refl }

flag_found : (id : Text) (rows : List Row) (given : Bool) → first_of id rows ≡ Some (flag_text given) → IsTrue given ↔ IsGiven id rows
flag_found id rows true e = (λ t. e, λ g. refl)
flag_found id rows false e = (λ t. absurd (true≢false (sym t)), λ g. cc)

form_found : (rows : List Row) (dir jobs : Option Text) (form : Form) (list : List Text) → Found rows dir jobs form list → HasForm rows form
form_found rows dir jobs Judge list f =
    record { judge = flag_found (codes "judge") rows true f.judge; dumptasks = flag_found (codes "dumptasks") rows false f.dumptasks; gen = flag_found (codes "gen") rows false f.gen }
form_found rows dir jobs Tasks list f =
    record { judge = flag_found (codes "judge") rows false f.judge; dumptasks = flag_found (codes "dumptasks") rows false f.dumptasks; gen = flag_found (codes "gen") rows false f.gen }
form_found rows dir jobs Names list f =
    record { judge = flag_found (codes "judge") rows false f.judge; dumptasks = flag_found (codes "dumptasks") rows true f.dumptasks; gen = flag_found (codes "gen") rows false f.gen }
form_found rows dir jobs Gen list f =
    record { judge = flag_found (codes "judge") rows false f.judge; dumptasks = flag_found (codes "dumptasks") rows false f.dumptasks; gen = flag_found (codes "gen") rows true f.gen }

means : (rows : List Row) (dir jobs : Option Text) (list : List Text) (r : Request) → Found rows dir jobs (form_of r) list → Says dir jobs list r → Means rows r
means rows dir jobs list r f says = record {
  form = form_found rows dir jobs (form_of r) list f;
  list = list;
  words = f.words;
  says = subst (λ (d : Option Text). Says d (first_of (codes "jobs") rows) list r) (sym f.folder) (subst (λ (j : Option Text). Says dir j list r) (sym f.jobs_are) says);
}

nothing_said : (dir jobs : Option Text) (r : Request) → Says dir jobs [] r → ⊥
nothing_said dir jobs (AskJudge r) says = let parts = says.parts in cc
nothing_said dir jobs (AskTasks r) says = let parts = says.parts in cc
nothing_said dir jobs (AskNames file) says = let parts = says.parts in cc
nothing_said dir jobs (AskGen r) says = let parts = says.parts in cc

pub plain_words_ask : (force : Bool) (dir jobs : Option Text) (list : List Text) (r : Request) → IfSome dir IsPlain → IfSome jobs IsPlain → All IsPlain list → Says dir jobs list r
    → Asks (plain_words force dir jobs (form_of r) list) r
plain_words_ask force dir jobs [] r on limited all says = absurd (nothing_said dir jobs r says)
plain_words_ask force dir jobs (word ∷ words) r on limited all says =
    let given = plain_words force dir jobs (form_of r) (word ∷ words) in
    let walk = all_walked force dir jobs (form_of r) word words on limited (All-head IsPlain word words all) (All-tail IsPlain word words all) in
    let rows : matches_of command given ≡ defaulted (all_rows (front force dir jobs (form_of r)) word words) = ap defaulted walk.comes in
    record {
      taken = leaf_takes (built command) nothing_held given refl (walk_level given walk.passes walk.ends);
      means = subst (λ (t : List Row). Means t r) (sym rows) (means _ dir jobs (word ∷ words) r (found force dir jobs (form_of r) word words) says);
    }
