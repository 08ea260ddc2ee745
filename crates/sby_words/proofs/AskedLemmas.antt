-- What the matches ask, and that it is one thing.
use Rattle.std.proofs.Common.{◌≡◌, ◌∙◌, ◌<◌, ◌^◌, ℕ, true, false, List, [], ◌∷◌, Option, Some, None, refl, sym, ap, subst, arith, true≢false}
use Rattle.std.specs.Prelude.{◌↔◌, IsTrue, codes, option_map, unwrap_or}
use Rattle.std.specs.Borrow.{Bor}
use Rattle.clap.specs.Faults.{fault_of}
use Rattle.clap.specs.Simple.{App, is_simple, matches_of}
use Rattle.clap.specs.Takes.{takes}
use Rattle.clap.specs.Walk.{Row, all_of, first_of, rows_of, texts}
use Rattle.clap.specs.Matches.{first_value, found_of, matched_of, raw_values}
use Rattle.clap.specs.declared.parser.matches.ArgMatches.{ArgMatches}
use Rattle.clap.proofs.WalkLemmas.{first_value-rows, raw_values-rows}
use Rattle.sby_words.specs.declared.form.Form.{Form}
use Rattle.sby_words.specs.declared.form.Form.TheVariants.{Judge, Tasks, Names, Gen}
use Rattle.sby_words.specs.Command.{command}
use Rattle.sby_words.specs.Folders.{IsDesignStem}
use Rattle.sby_words.specs.Requests.{AskGen, AskJudge, AskNames, AskTasks, GenRequest, JudgeRequest, Request, TaskRequest}
use Rattle.sby_words.specs.Words.{Asks, Generates, HasForm, IsAsked, IsLimit, IsNumber, Judges, Lists, Means, Runs, Says, form_of, mode_word}
use Rattle.sby_words.specs.Answers.{IsMeant, IsSaid}
use Rattle.sby_words.proofs.FolderLemmas.{design_stem_is_one}
use Rattle.sby_words.proofs.ListLemmas.{mode_is_one, number_is_one}
use Rattle.sby_words.proofs.WordsTaken.{clear_is_taken}

-- ---- a form that says nothing

pub no_tasks : (directory jobs : Option (List ℕ)) (list : List (List ℕ)) → ((r : TaskRequest) → Runs directory jobs list r → ⊥)
    → (r : Request) → form_of r ≡ Tasks → Says directory jobs list r → ⊥
no_tasks directory jobs list none (AskJudge r) is says = cc
no_tasks directory jobs list none (AskTasks r) is says = none r says
no_tasks directory jobs list none (AskNames file) is says = cc
no_tasks directory jobs list none (AskGen r) is says = cc

pub no_names : (directory jobs : Option (List ℕ)) (list : List (List ℕ)) → ((file : List ℕ) → Lists directory jobs list file → ⊥)
    → (r : Request) → form_of r ≡ Names → Says directory jobs list r → ⊥
no_names directory jobs list none (AskJudge r) is says = cc
no_names directory jobs list none (AskTasks r) is says = cc
no_names directory jobs list none (AskNames file) is says = none file says
no_names directory jobs list none (AskGen r) is says = cc

-- ---- one form

differ : (P : Type 0) → (IsTrue true ↔ P) → (IsTrue false ↔ P) → ⊥
differ P p q = true≢false (sym (q.1 (p.0 refl)))

pub form_is_one : (rows : List Row) (f g : Form) → HasForm rows f → HasForm rows g → f ≡ g
form_is_one rows Judge Judge a b = refl
form_is_one rows Judge Tasks a b = absurd (differ _ a.judge b.judge)
form_is_one rows Judge Names a b = absurd (differ _ a.judge b.judge)
form_is_one rows Judge Gen a b = absurd (differ _ a.judge b.judge)
form_is_one rows Tasks Judge a b = absurd (differ _ b.judge a.judge)
form_is_one rows Tasks Tasks a b = refl
form_is_one rows Tasks Names a b = absurd (differ _ b.dumptasks a.dumptasks)
form_is_one rows Tasks Gen a b = absurd (differ _ b.gen a.gen)
form_is_one rows Names Judge a b = absurd (differ _ b.judge a.judge)
form_is_one rows Names Tasks a b = absurd (differ _ a.dumptasks b.dumptasks)
form_is_one rows Names Names a b = refl
form_is_one rows Names Gen a b = absurd (differ _ a.dumptasks b.dumptasks)
form_is_one rows Gen Judge a b = absurd (differ _ b.judge a.judge)
form_is_one rows Gen Tasks a b = absurd (differ _ a.gen b.gen)
form_is_one rows Gen Names a b = absurd (differ _ a.gen b.gen)
form_is_one rows Gen Gen a b = refl

some_is : {X : Type 0} {s t : X} → Some s ≡ Some t → s ≡ t
some_is e = cc

-- ---- the answer by the matches

-- the list that `get_strs` gives
list_given : (m : ArgMatches) (given : Option (Bor (List (Bor (List ℕ))))) (list : Option (List (List ℕ))) → option_map (λ s. texts s.now) given ≡ list
    → option_map (λ s. texts s.now) given ≡ option_map raw_values (matched_of (found_of m) (codes "words")) → list ≡ all_of (codes "words") (rows_of (found_of m))
list_given m given list is says = sym is ∙ says ∙ raw_values-rows (found_of m) (codes "words")

pub no_list : (m : ArgMatches) (given : Option (Bor (List (Bor (List ℕ))))) → option_map (λ s. texts s.now) given ≡ None
    → option_map (λ s. texts s.now) given ≡ option_map raw_values (matched_of (found_of m) (codes "words")) → (r : Request) → Means (rows_of (found_of m)) r → ⊥
no_list m given none says r means = let words = list_given m given None none says ∙ means.words in cc

meant : (rows : List Row) (form : Form) (list : List (List ℕ)) (asked : Option Request) → HasForm rows form → all_of (codes "words") rows ≡ Some list
    → IsSaid form (first_of (codes "folder") rows) (first_of (codes "jobs") rows) list asked → IsMeant rows asked
meant rows form list None has words said = λ r means.
    said r (form_is_one rows (form_of r) form means.form has)
    (subst (λ (l : List (List ℕ)). Says (first_of (codes "folder") rows) (first_of (codes "jobs") rows) l r) (some_is (sym means.words ∙ words)) means.says)
meant rows form list (Some r) has words said = record { form = subst (HasForm rows) (sym said.0) has; list = list; words = words; says = said.1 }

pub by_form : (m : ArgMatches) (directory jobs : Option (Bor (List ℕ))) (given : Option (Bor (List (Bor (List ℕ))))) (xs : List (Bor (List ℕ))) (form : Form)
    → HasForm (rows_of (found_of m)) form → option_map (λ s. s.now) directory ≡ first_value (found_of m) (codes "folder") → option_map (λ s. s.now) jobs ≡ first_value (found_of m) (codes "jobs")
    → option_map (λ s. texts s.now) given ≡ option_map raw_values (matched_of (found_of m) (codes "words")) → option_map (λ s. texts s.now) given ≡ Some (texts xs)
    → (asked : Option Request) → IsSaid form (option_map (λ s. s.now) directory) (option_map (λ s. s.now) jobs) (texts xs) asked → IsMeant (rows_of (found_of m)) asked
by_form m directory jobs given xs form has folder limit says is asked said =
    let rows = rows_of (found_of m) in
    meant rows form (texts xs) asked has (sym (list_given m given (Some (texts xs)) is says))
    (subst (λ (d : Option (List ℕ)). IsSaid form d (first_of (codes "jobs") rows) (texts xs) asked) (folder ∙ first_value-rows (found_of m) (codes "folder"))
    (subst (λ (j : Option (List ℕ)). IsSaid form (option_map (λ s. s.now) directory) j (texts xs) asked) (limit ∙ first_value-rows (found_of m) (codes "jobs")) said))

-- ---- the answer by the words

pub taken_answer : (app : App) (words : List (List ℕ)) (rows : List Row) (Z : Type 0) → app ≡ command → fault_of app words ≡ [] → (is_simple app ≡ true → (rows ≡ matches_of app words) × Z)
    → (asked : Option Request) → IsMeant rows asked → IsAsked words asked
taken_answer app words rows Z is clear matched asked meant = go asked meant
  where
    same : rows ≡ matches_of command words
    same = (matched (ap is_simple is)).0 ∙ ap (λ (a : App). matches_of a words) is

    go : (o : Option Request) → IsMeant rows o → IsAsked words o
    go None none = λ r asks. none r (subst (λ (rs : List Row). Means rs r) (sym same) asks.means)
    go (Some r) some = record { taken = clear_is_taken words (ap (λ (a : App). fault_of a words) (sym is) ∙ clear); means = subst (λ (rs : List Row). Means rs r) same some }

pub not_taken : (app : App) (words : List (List ℕ)) → app ≡ command → (takes app words ≡ true → ⊥) → (r : Request) → Asks words r → ⊥
not_taken app words is refused r asks = refused (ap (λ (a : App). takes a words) is ∙ asks.taken)

-- ---- one request

judge_is_one : (directory jobs : Option (List ℕ)) (list : List (List ℕ)) (r s : JudgeRequest) → Judges directory jobs list r → Judges directory jobs list s → r ≡ s
judge_is_one directory jobs list r s j k =
    let parts : r.design ∷ mode_word r.mode ∷ j.word ∷ r.streams ≡ s.design ∷ mode_word s.mode ∷ k.word ∷ s.streams = sym j.parts ∙ k.parts in
    let design : r.design ≡ s.design = cc in
    let word : j.word ≡ k.word = cc in
    let streams : r.streams ≡ s.streams = cc in
    let word_is : mode_word r.mode ≡ mode_word s.mode = cc in
    let mode : r.mode ≡ s.mode = mode_is_one r.mode s.mode word_is in
    let small : 100000 < 2 ^ 64 = omega arith in
    let depth : r.depth ≡ s.depth = number_is_one 1 100000 k.word r.depth s.depth small (subst (λ (w : List ℕ). IsNumber 1 100000 w r.depth) word j.depth) k.depth in
    let stem : j.folder.stem ≡ k.folder.stem = design_stem_is_one s.design j.folder.stem k.folder.stem (subst (λ (d : List ℕ). IsDesignStem d j.folder.stem) design j.folder.is_stem) k.folder.is_stem in
    let folder : r.folder ≡ s.folder = j.folder.chosen ∙ ap (unwrap_or directory) stem ∙ sym k.folder.chosen in
    λ i. record { folder = folder i; design = design i; mode = mode i; depth = depth i; streams = streams i }

limit_is_one : (jobs : Option (List ℕ)) (m n : Option ℕ) → IsLimit jobs m → IsLimit jobs n → m ≡ n
limit_is_one None None None a b = refl
limit_is_one None None (Some n) a b = absurd b
limit_is_one None (Some m) n a b = absurd a
limit_is_one (Some word) None n a b = absurd a
limit_is_one (Some word) (Some m) None a b = absurd b
limit_is_one (Some word) (Some m) (Some n) a b = let small : 64 < 2 ^ 64 = omega arith in ap Some (number_is_one 1 64 word m n small a b)

tasks_are_one : (directory jobs : Option (List ℕ)) (list : List (List ℕ)) (r s : TaskRequest) → Runs directory jobs list r → Runs directory jobs list s → r ≡ s
tasks_are_one directory jobs list r s a b =
    let parts : r.file ∷ r.names ≡ s.file ∷ s.names = sym a.parts ∙ b.parts in
    let option : r.directory ≡ s.directory = a.option ∙ sym b.option in
    let file : r.file ≡ s.file = cc in
    let names : r.names ≡ s.names = cc in
    let limit : r.jobs ≡ s.jobs = limit_is_one jobs r.jobs s.jobs a.limit b.limit in
    λ i. record { directory = option i; jobs = limit i; file = file i; names = names i }

file_is_one : (directory jobs : Option (List ℕ)) (list : List (List ℕ)) (f g : List ℕ) → Lists directory jobs list f → Lists directory jobs list g → f ≡ g
file_is_one directory jobs list f g a b = let parts : f ∷ [] ≡ g ∷ [] = sym a.parts ∙ b.parts in cc

gen_is_one : (directory jobs : Option (List ℕ)) (list : List (List ℕ)) (r s : GenRequest) → Generates directory jobs list r → Generates directory jobs list s → r ≡ s
gen_is_one directory jobs list r s a b =
    let parts : a.word ∷ [] ≡ b.word ∷ [] = sym a.parts ∙ b.parts in
    let word : a.word ≡ b.word = cc in
    let option : r.directory ≡ s.directory = a.option ∙ sym b.option in
    let small : 10000 < 2 ^ 64 = omega arith in
    let size : r.size ≡ s.size = number_is_one 2 10000 b.word r.size s.size small (subst (λ (w : List ℕ). IsNumber 2 10000 w r.size) word a.size) b.size in
    λ i. record { directory = option i; size = size i }

said_is_one : (directory jobs : Option (List ℕ)) (list : List (List ℕ)) (r s : Request) → form_of r ≡ form_of s → Says directory jobs list r → Says directory jobs list s → r ≡ s
said_is_one directory jobs list (AskJudge r) (AskJudge s) e a b = ap AskJudge (judge_is_one directory jobs list r s a b)
said_is_one directory jobs list (AskJudge r) (AskTasks s) e a b = cc
said_is_one directory jobs list (AskJudge r) (AskNames s) e a b = cc
said_is_one directory jobs list (AskJudge r) (AskGen s) e a b = cc
said_is_one directory jobs list (AskTasks r) (AskJudge s) e a b = cc
said_is_one directory jobs list (AskTasks r) (AskTasks s) e a b = ap AskTasks (tasks_are_one directory jobs list r s a b)
said_is_one directory jobs list (AskTasks r) (AskNames s) e a b = cc
said_is_one directory jobs list (AskTasks r) (AskGen s) e a b = cc
said_is_one directory jobs list (AskNames r) (AskJudge s) e a b = cc
said_is_one directory jobs list (AskNames r) (AskTasks s) e a b = cc
said_is_one directory jobs list (AskNames r) (AskNames s) e a b = ap AskNames (file_is_one directory jobs list r s a b)
said_is_one directory jobs list (AskNames r) (AskGen s) e a b = cc
said_is_one directory jobs list (AskGen r) (AskJudge s) e a b = cc
said_is_one directory jobs list (AskGen r) (AskTasks s) e a b = cc
said_is_one directory jobs list (AskGen r) (AskNames s) e a b = cc
said_is_one directory jobs list (AskGen r) (AskGen s) e a b = ap AskGen (gen_is_one directory jobs list r s a b)

request_is_one : (rows : List Row) (r s : Request) → Means rows r → Means rows s → r ≡ s
request_is_one rows r s a b =
    let form : form_of r ≡ form_of s = form_is_one rows (form_of r) (form_of s) a.form b.form in
    let list : a.list ≡ b.list = some_is (sym a.words ∙ b.words) in
    let directory = first_of (codes "folder") rows in
    let jobs = first_of (codes "jobs") rows in
    said_is_one directory jobs b.list r s form (subst (λ (l : List (List ℕ)). Says directory jobs l r) list a.says) b.says

pub answer_is_one : (words : List (List ℕ)) (a b : Option Request) → IsAsked words a → IsAsked words b → a ≡ b
answer_is_one words None None p q = refl
answer_is_one words None (Some s) p q = absurd (p s q)
answer_is_one words (Some r) None p q = absurd (q r p)
answer_is_one words (Some r) (Some s) p q = ap Some (request_is_one (matches_of command words) r s p.means q.means)
