-- What the words of the command line ask: the flags, DIR, M and the list that `clap` finds in them, read form by form.
use Rattle.std.specs.Prelude.{◌≡◌, ◌≤◌, ◌↔◌, ℕ, Bool, true, false, List, [], ◌∷◌, ◌++◌, Option, Some, None, IfSome, IsTrue, codes}
use Rattle.std.specs.Fmt.{decimal}
use Rattle.clap.specs.Walk.{Row, all_of, first_of}
use Rattle.clap.specs.Simple.{matches_of}
use Rattle.sby_terms.specs.declared.names.Mode.{Mode}
use Rattle.sby_terms.specs.declared.names.Mode.TheVariants.{Bmc, Prove, ProveInv, Cover}
use Rattle.sby_words.specs.declared.form.Form.{Form}
use Rattle.sby_words.specs.declared.form.Form.TheVariants.{Judge, Tasks, Names, Gen}
use Rattle.sby_words.specs.Command.{IsGiven, Taken, command}
use Rattle.sby_words.specs.Folders.{HasStem, IsFolder, IsNamed}
use Rattle.sby_words.specs.Requests.{AskGen, AskJudge, AskNames, AskTasks, GenRequest, JudgeRequest, Request, TaskRequest}

-- MODE, as a word
abbrev pub mode_word : Mode → List ℕ
mode_word Bmc = codes "bmc"
mode_word Prove = codes "prove"
mode_word ProveInv = codes "prove-inv"
mode_word Cover = codes "cover"

-- the word is a number within these bounds: decimal digits without a leading 0
pub record IsNumber (from upto : ℕ) (word : List ℕ) (n : ℕ) : Type 0 where
  pub digits : word ≡ decimal n
  pub least : from ≤ n
  pub most : n ≤ upto

-- M of `-j M` is a number from 1 to 64, where it is given
abbrev pub IsLimit : Option (List ℕ) → Option ℕ → Type 0
IsLimit (Some word) (Some n) = IsNumber 1 64 word n
IsLimit None None = Unit {0}
IsLimit (Some word) None = ⊥
IsLimit None (Some n) = ⊥

-- DIR and the list say `DESIGN MODE DEPTH [STREAM ..]`. It has no `-j M`: it starts no child.
pub record Judges (directory jobs : Option (List ℕ)) (list : List (List ℕ)) (r : JudgeRequest) : Type 0 where
  pub word : List ℕ
  pub parts : list ≡ r.design ∷ mode_word r.mode ∷ word ∷ r.streams
  pub depth : IsNumber 1 100000 word r.depth
  pub folder : IsFolder directory r.design r.folder
  pub no_limit : jobs ≡ None

-- DIR, M and the list say `FILE.sby [TASK ..]`
pub record Runs (directory jobs : Option (List ℕ)) (list : List (List ℕ)) (r : TaskRequest) : Type 0 where
  pub parts : list ≡ r.file ∷ r.names
  pub stem : HasStem r.file
  pub option : r.directory ≡ directory
  pub placed : IfSome directory IsNamed
  pub limit : IsLimit jobs r.jobs

-- DIR and the list say `FILE.sby` of `--dumptasks`. It has no `-d DIR`: it names no folder, and `-f` alone is an option of every form.
-- It has no `-j M`: it runs no task.
pub record Lists (directory jobs : Option (List ℕ)) (list : List (List ℕ)) (file : List ℕ) : Type 0 where
  pub parts : list ≡ file ∷ []
  pub stem : HasStem file
  pub option : directory ≡ None
  pub no_limit : jobs ≡ None

-- DIR and the list say `N` of `--gen`. It has no `-j M`: it runs one task.
pub record Generates (directory jobs : Option (List ℕ)) (list : List (List ℕ)) (r : GenRequest) : Type 0 where
  pub word : List ℕ
  pub parts : list ≡ word ∷ []
  pub size : IsNumber 2 10000 word r.size
  pub option : r.directory ≡ directory
  pub placed : IfSome directory IsNamed
  pub no_limit : jobs ≡ None

-- DIR, M and the list say what is asked
abbrev pub Says : Option (List ℕ) → Option (List ℕ) → List (List ℕ) → Request → Type 0
Says directory jobs list (AskJudge r) = Judges directory jobs list r
Says directory jobs list (AskTasks r) = Runs directory jobs list r
Says directory jobs list (AskNames file) = Lists directory jobs list file
Says directory jobs list (AskGen r) = Generates directory jobs list r

-- the form of what is asked
abbrev pub form_of : Request → Form
form_of (AskJudge r) = Judge
form_of (AskTasks r) = Tasks
form_of (AskNames file) = Names
form_of (AskGen r) = Gen

-- which flags of the forms stand among the words
pub record HasFlags (rows : List Row) (judging listing generating : Bool) : Type 0 where
  pub judge : IsTrue judging ↔ IsGiven (codes "judge") rows
  pub dumptasks : IsTrue listing ↔ IsGiven (codes "dumptasks") rows
  pub gen : IsTrue generating ↔ IsGiven (codes "gen") rows

-- the form's flag stands among the words, and that of no other form; a run has none
abbrev pub HasForm : List Row → Form → Type 0
HasForm rows Judge = HasFlags rows true false false
HasForm rows Tasks = HasFlags rows false false false
HasForm rows Names = HasFlags rows false true false
HasForm rows Gen = HasFlags rows false false true

-- the matches ask this: their flags, DIR, M and list do
pub record Means (rows : List Row) (r : Request) : Type 0 where
  pub form : HasForm rows (form_of r)
  pub list : List (List ℕ)
  pub words : all_of (codes "words") rows ≡ Some list
  pub says : Says (first_of (codes "folder") rows) (first_of (codes "jobs") rows) list r

-- the words are taken, and their matches ask this
pub record Asks (words : List (List ℕ)) (r : Request) : Type 0 where
  pub taken : Taken words
  pub means : Means (matches_of command words) r

-- the answer is the request that the words ask, and none where they ask none
abbrev pub IsAsked : List (List ℕ) → Option Request → Type 0
IsAsked words None = (r : Request) → Asks words r → ⊥
IsAsked words (Some r) = Asks words r

-- a word that `clap` reads as it stands: it isn't empty, and no `-` is in front
abbrev pub IsPlain : List ℕ → Type 0
IsPlain [] = ⊥
IsPlain (b ∷ bs) = b ≡ 45 → ⊥

-- the words of a form in front of its list
abbrev pub form_words : Form → List (List ℕ)
form_words Judge = codes "--judge" ∷ []
form_words Tasks = []
form_words Names = codes "--dumptasks" ∷ []
form_words Gen = codes "--gen" ∷ []

-- `-d DIR`, where it is given
abbrev pub directory_words : Option (List ℕ) → List (List ℕ)
directory_words None = []
directory_words (Some directory) = codes "-d" ∷ directory ∷ []

-- `-j M`, where it is given
abbrev pub jobs_words : Option (List ℕ) → List (List ℕ)
jobs_words None = []
jobs_words (Some jobs) = codes "-j" ∷ jobs ∷ []

-- `-f`, where it is given
abbrev pub force_words : Bool → List (List ℕ)
force_words true = codes "-f" ∷ []
force_words false = []

-- `[-f] [-j M] [-d DIR]`, the form's flag and its list
abbrev pub plain_words : Bool → Option (List ℕ) → Option (List ℕ) → Form → List (List ℕ) → List (List ℕ)
plain_words force directory jobs form list = force_words force ++ (jobs_words jobs ++ (directory_words directory ++ (form_words form ++ list)))
