-- What comes after the text of a line: a line feed, or nothing.
use Rattle.std.proofs.Common.{◌≡◌, ℕ, ◌+◌, ◌-◌, ◌≤◌, Bool, true, false, cond, ◌&&◌, ◌||◌, eqb, List, [], ◌∷◌, ◌++◌, length, refl, ap, ◌∙◌, inl, inr, arith}
use Rattle.std.proofs.lemmas.Bool.{cases_Bool}
use Rattle.cnf_form.specs.Cnf.{LitOf}
use Rattle.cert_stream.specs.Text.{Word}
use Rattle.cert_stream.specs.Scan.{Scanned, Reads, Misfit}
use Rattle.cert_stream.specs.declared.mode.ParseFaultKind.TheVariants.{BadLine, BadLiteral}
use Rattle.cert_stream.specs.declared.mode.Part.{Part}
use Rattle.cert_stream.specs.declared.mode.Part.TheVariants.{Gap, Minus, Zero, Digits}
use Rattle.cert_stream.specs.LratTelling.{LratSaying, IsValuesEnd, IsUnknown}
use Rattle.cert_stream.specs.LratLines.{bad, after_says, heard_says, ids_ended, ids_say, lits_ended, lits_say}
use Rattle.cert_stream.specs.declared.lrat.mode.Hint.{Hint}
use Rattle.cert_stream.specs.declared.lrat.mode.LitList.{LitList}
use Rattle.cert_stream.specs.declared.lrat.mode.LitList.TheVariants.{Clause, Values}
use Rattle.cert_stream.specs.declared.lrat.mode.IdList.{IdList}
use Rattle.cert_stream.specs.declared.lrat.mode.IdList.TheVariants.{Hints, Deletion}
use Rattle.cert_stream.specs.declared.lrat.mode.IdPart.{IdPart}
use Rattle.cert_stream.specs.declared.lrat.mode.IdPart.TheVariants.{Gap as IdGap, Minus as IdMinus, Zero as IdZero, Digits as IdDigits}
use Rattle.cert_stream.specs.declared.lrat.mode.Mode.TheVariants.{Start, Skip, ValuesHead, StatusHead, StatusGap, Spelled, Whole, InId, AfterId, DeletionHead, InLits, InIds, Closed}
use Rattle.cert_stream.proofs.LratTurning.{Kept, kept, parser}
use Rattle.cert_stream.proofs.LratSpeaking.{speak, bad_ever, from_line, start_forgets}

-- what a word that is read says, and the words after it
abbrev pub lit_word_says : ℕ → LitList → Bool → List LratSaying → List LratSaying → List LratSaying → ℕ → ℕ → List LitOf → Scanned Part → Word → List Word → List LratSaying
lit_word_says vars kind counted broken going more place id lits s w ws =
    elim s [
      | Misfit k n ↦ bad k (w.place + n)
      | Reads part ↦ elim part [
        | Gap ↦ lits_say vars kind counted broken going more place id lits ws
        | Minus ↦ cond w.done (bad BadLiteral (w.place + length w.text)) []
        | Zero ↦ lits_ended kind w.done counted broken more place id lits ws
        | Digits l ↦ cond w.done (heard_says kind l ++ lits_say vars kind counted broken going more place id (lits ++ l ∷ []) ws) []
      ]
    ]

abbrev pub id_word_says : IdList → Bool → List LratSaying → List LratSaying → ℕ → ℕ → List LitOf → List Hint → Scanned IdPart → Word → List Word → List LratSaying
id_word_says kind counted broken more place id lits hints s w ws =
    elim s [
      | Misfit k n ↦ bad k (w.place + n)
      | Reads part ↦ elim part [
        | IdGap ↦ ids_say kind counted broken more place id lits hints ws
        | IdMinus at ↦ cond w.done (bad BadLiteral (w.place + length w.text)) []
        | IdZero ↦ cond (w.done || counted) (ids_ended kind place id lits hints ∷ after_says more ws) []
        | IdDigits h ↦ cond w.done (ids_say kind counted broken more place id lits (hints ++ h ∷ []) ws) []
      ]
    ]

pub record Tail (vars : ℕ) (ended fed counted : Bool) (broken going more : List LratSaying) (feed : ℕ) (tail : List ℕ) : Type 0 where
  pub start : (place : ℕ) (amid : Bool) (line : Kept) → speak ended (parser vars feed place (Start amid) line) tail ≡ cond amid going more
  pub skip : (place : ℕ) (amid : Bool) (line : Kept) → speak ended (parser vars feed place (Skip amid) line) tail ≡ cond amid going more
  pub values_head : (place : ℕ) (line : Kept) → speak ended (parser vars feed place ValuesHead line) tail ≡ going
  pub status_head : (place : ℕ) (line : Kept) → speak ended (parser vars feed place StatusHead line) tail ≡ more
  pub status_gap : (place : ℕ) (line : Kept) → speak ended (parser vars feed place StatusGap line) tail ≡ more
  pub spelled : (place n : ℕ) (line : Kept) → speak ended (parser vars feed place (Spelled n) line) tail ≡ cond (eqb n 7 && counted) (IsUnknown ∷ more) more
  pub whole : (place : ℕ) (line : Kept) → speak ended (parser vars feed place Whole line) tail ≡ cond counted (IsUnknown ∷ more) more
  pub in_id : (place n : ℕ) (line : Kept) → speak ended (parser vars feed place (InId n) line) tail ≡ cond fed broken []
  pub after_id : (place : ℕ) (line : Kept) → speak ended (parser vars feed place AfterId line) tail ≡ broken
  pub deletion_head : (place : ℕ) (line : Kept) → speak ended (parser vars feed place DeletionHead line) tail ≡ broken
  pub literals : (place : ℕ) (kind : LitList) (id : ℕ) (lits : List LitOf) (part : Part) (p : List ℕ) → length p ≤ feed → speak ended (parser vars feed place (InLits kind part) (kept id lits [])) tail
      ≡ lit_word_says vars kind counted broken going more place id lits (Reads part) (record { place = feed - length p; text = p; done = fed }) []
  pub ids : (place : ℕ) (kind : IdList) (id : ℕ) (lits : List LitOf) (hints : List Hint) (part : IdPart) (p : List ℕ) → length p ≤ feed
      → speak ended (parser vars feed place (InIds kind part) (kept id lits hints)) tail
      ≡ id_word_says kind counted broken more place id lits hints (Reads part) (record { place = feed - length p; text = p; done = fed }) []
  pub closed : (place : ℕ) (line : Kept) → speak ended (parser vars feed place Closed line) tail ≡ more

module _ (vars : ℕ) (ended : Bool) (feed : ℕ) (rest : List ℕ) where
  abbrev going : List LratSaying
  going = from_line vars ended (feed + 1) true rest

  abbrev more : List LratSaying
  more = from_line vars ended (feed + 1) false rest

  abbrev broken : List LratSaying
  broken = bad BadLine feed

  start_fed : (place : ℕ) (amid : Bool) (line : Kept) → speak ended (parser vars feed place (Start amid) line) (10 ∷ rest) ≡ cond amid going more
  start_fed place true line = start_forgets ended vars (feed + 1) place true line rest
  start_fed place false line = start_forgets ended vars (feed + 1) place false line rest

  skip_fed : (place : ℕ) (amid : Bool) (line : Kept) → speak ended (parser vars feed place (Skip amid) line) (10 ∷ rest) ≡ cond amid going more
  skip_fed place true line = start_forgets ended vars (feed + 1) place true line rest
  skip_fed place false line = start_forgets ended vars (feed + 1) place false line rest

  spelled_fed : (place n : ℕ) (line : Kept) → speak ended (parser vars feed place (Spelled n) line) (10 ∷ rest) ≡ cond (eqb n 7 && true) (IsUnknown ∷ more) more
  spelled_fed place n line =
      elim (cases_Bool (eqb n 7)) [
        | inl t ↦ rw t (ap (λ z. IsUnknown ∷ z) (start_forgets ended vars (feed + 1) place false line rest))
        | inr f ↦ rw f (start_forgets ended vars (feed + 1) place false line rest)
      ]

  literals_fed : (place : ℕ) (kind : LitList) (id : ℕ) (lits : List LitOf) (part : Part) (p : List ℕ) → length p ≤ feed → speak ended (parser vars feed place (InLits kind part) (kept id lits [])) (10 ∷ rest)
      ≡ lit_word_says vars kind true broken going more place id lits (Reads part) (record { place = feed - length p; text = p; done = true }) []
  literals_fed place Clause id lits Gap p n = bad_ever ended (record { kind = BadLine; byte = feed }) vars (feed + 1) place (kept id lits []) rest
  literals_fed place Values id lits Gap p n = start_forgets ended vars (feed + 1) place true (kept id lits []) rest
  literals_fed place kind id lits Minus p n = bad_ever ended (record { kind = BadLiteral; byte = feed }) vars (feed + 1) place (kept id lits []) rest ∙ ap (bad BadLiteral) (omega arith)
  literals_fed place Clause id lits Zero p n = bad_ever ended (record { kind = BadLine; byte = feed }) vars (feed + 1) place (kept id lits []) rest
  literals_fed place Values id lits Zero p n = ap (λ z. IsValuesEnd ∷ z) (start_forgets ended vars (feed + 1) place false (kept id lits []) rest)
  literals_fed place Clause id lits (Digits l) p n = bad_ever ended (record { kind = BadLine; byte = feed }) vars (feed + 1) place (kept id (lits ++ l ∷ []) []) rest
  literals_fed place Values id lits (Digits l) p n = ap (λ z. heard_says Values l ++ z) (start_forgets ended vars (feed + 1) place true (kept id (lits ++ l ∷ []) []) rest)

  ids_fed : (place : ℕ) (kind : IdList) (id : ℕ) (lits : List LitOf) (hints : List Hint) (part : IdPart) (p : List ℕ) → length p ≤ feed
      → speak ended (parser vars feed place (InIds kind part) (kept id lits hints)) (10 ∷ rest)
      ≡ id_word_says kind true broken more place id lits hints (Reads part) (record { place = feed - length p; text = p; done = true }) []
  ids_fed place kind id lits hints IdGap p n = bad_ever ended (record { kind = BadLine; byte = feed }) vars (feed + 1) place (kept id lits hints) rest
  ids_fed place kind id lits hints (IdMinus at) p n = bad_ever ended (record { kind = BadLiteral; byte = feed }) vars (feed + 1) place (kept id lits hints) rest ∙ ap (bad BadLiteral) (omega arith)
  ids_fed place Hints id lits hints IdZero p n = ap (λ z. ids_ended Hints place id lits hints ∷ z) (start_forgets ended vars (feed + 1) place false (kept id lits hints) rest)
  ids_fed place Deletion id lits hints IdZero p n = ap (λ z. ids_ended Deletion place id lits hints ∷ z) (start_forgets ended vars (feed + 1) place false (kept id lits hints) rest)
  ids_fed place kind id lits hints (IdDigits h) p n = bad_ever ended (record { kind = BadLine; byte = feed }) vars (feed + 1) place (kept id lits (hints ++ h ∷ [])) rest

  -- a line feed, and what comes then
  pub fed_tail : Tail vars ended true true (bad BadLine feed) (from_line vars ended (feed + 1) true rest) (from_line vars ended (feed + 1) false rest) feed (10 ∷ rest)
  fed_tail = record {
    start = start_fed;
    skip = skip_fed;
    values_head = λ place line. start_forgets ended vars (feed + 1) place true line rest;
    status_head = λ place line. start_forgets ended vars (feed + 1) place false line rest;
    status_gap = λ place line. start_forgets ended vars (feed + 1) place false line rest;
    spelled = spelled_fed;
    whole = λ place line. ap (λ z. IsUnknown ∷ z) (start_forgets ended vars (feed + 1) place false line rest);
    in_id = λ place n line. bad_ever ended (record { kind = BadLine; byte = feed }) vars (feed + 1) place (kept n line.lits line.hints) rest;
    after_id = λ place line. bad_ever ended (record { kind = BadLine; byte = feed }) vars (feed + 1) place line rest;
    deletion_head = λ place line. bad_ever ended (record { kind = BadLine; byte = feed }) vars (feed + 1) place line rest;
    literals = literals_fed;
    ids = ids_fed;
    closed = λ place line. start_forgets ended vars (feed + 1) place false line rest;
  }

none_says : (amid : Bool) → (let e : List LratSaying = [] in e) ≡ cond amid [] []
none_says true = refl
none_says false = refl

module _ (vars : ℕ) (ended : Bool) (feed : ℕ) where
  literals_last : (place : ℕ) (kind : LitList) (id : ℕ) (lits : List LitOf) (part : Part) (p : List ℕ) → length p ≤ feed → speak ended (parser vars feed place (InLits kind part) (kept id lits [])) []
      ≡ lit_word_says vars kind ended [] [] [] place id lits (Reads part) (record { place = feed - length p; text = p; done = false }) []
  literals_last place Clause id lits Gap p n = refl
  literals_last place Values id lits Gap p n = refl
  literals_last place Clause id lits Minus p n = refl
  literals_last place Values id lits Minus p n = refl
  literals_last place Clause id lits Zero p n = refl
  literals_last place Values id lits Zero p n = refl
  literals_last place Clause id lits (Digits l) p n = refl
  literals_last place Values id lits (Digits l) p n = refl

  ids_last : (place : ℕ) (kind : IdList) (id : ℕ) (lits : List LitOf) (hints : List Hint) (part : IdPart) (p : List ℕ) → length p ≤ feed → speak ended (parser vars feed place (InIds kind part) (kept id lits hints)) []
      ≡ id_word_says kind ended [] [] place id lits hints (Reads part) (record { place = feed - length p; text = p; done = false }) []
  ids_last place kind id lits hints IdGap p n = refl
  ids_last place kind id lits hints (IdMinus at) p n = refl
  ids_last place kind id lits hints IdZero p n = refl
  ids_last place kind id lits hints (IdDigits h) p n = refl

  -- nothing
  pub no_tail : Tail vars ended false ended [] [] [] feed []
  no_tail = record {
    start = λ place amid line. none_says amid;
    skip = λ place amid line. none_says amid;
    values_head = λ place line. refl;
    status_head = λ place line. refl;
    status_gap = λ place line. refl;
    spelled = λ place n line. refl;
    whole = λ place line. refl;
    in_id = λ place n line. refl;
    after_id = λ place line. refl;
    deletion_head = λ place line. refl;
    literals = literals_last;
    ids = ids_last;
    closed = λ place line. refl;
  }
