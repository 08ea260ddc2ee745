-- Answers by what they ask.
use Rattle.std.specs.Prelude.{◌≡◌, ℕ, List, Option, Some, None, string_bytes}
use Rattle.clap.specs.Walk.{Row}
use Rattle.sby_words.specs.declared.asked.Asked.{Asked}
use Rattle.sby_words.specs.declared.asked.Asked.TheVariants.{Judge, Tasks, Names, Gen}
use Rattle.sby_words.specs.declared.form.Form.{Form}
use Rattle.sby_words.specs.Requests.{AskGen, AskJudge, AskNames, AskTasks, Request}
use Rattle.sby_words.specs.Words.{Means, Says, form_of}

-- what an answer asks
abbrev pub request_of : Asked → Request
request_of (Judge r) = AskJudge r
request_of (Tasks r) = AskTasks r
request_of (Names file) = AskNames (string_bytes file)
request_of (Gen r) = AskGen r

-- the answer of one form: what DIR, M and the list say in it, and none where they say nothing
abbrev pub IsSaid : Form → Option (List ℕ) → Option (List ℕ) → List (List ℕ) → Option Request → Type 0
IsSaid form directory jobs list None = (r : Request) → form_of r ≡ form → Says directory jobs list r → ⊥
IsSaid form directory jobs list (Some r) = (form_of r ≡ form) × Says directory jobs list r

-- the answer by the matches: what they ask, and none where they ask nothing
abbrev pub IsMeant : List Row → Option Request → Type 0
IsMeant rows None = (r : Request) → Means rows r → ⊥
IsMeant rows (Some r) = Means rows r
