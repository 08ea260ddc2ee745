-- What comes after the text of a line: a line feed, or nothing.
use Rattle.std.proofs.Common.{◌≡◌, ℕ, ◌+◌, ◌-◌, ◌≤◌, Bool, true, false, cond, ◌&&◌, ◌||◌, eqb, List, [], ◌∷◌, ◌++◌, length, refl, ap, ◌∙◌, inl, inr, arith}
use Rattle.std.proofs.lemmas.Bool.{cases_Bool}
use Rattle.cnf_form.specs.Cnf.{LitOf}
use Rattle.cert_stream.specs.Text.{Word}
use Rattle.cert_stream.specs.Scan.{Scanned, Reads, Misfit}
use Rattle.cert_stream.specs.Telling.{Saying, IsUnknown}
use Rattle.cert_stream.specs.Stream.{bad, ended_says, heard_says, unended_says, after_says, list_says}
use Rattle.cert_stream.specs.declared.mode.ListKind.{ListKind}
use Rattle.cert_stream.specs.declared.mode.ListKind.TheVariants.{Clause, Deletion, Values}
use Rattle.cert_stream.specs.declared.mode.ParseFaultKind.TheVariants.{BadLine, BadLiteral}
use Rattle.cert_stream.specs.declared.mode.Part.{Part}
use Rattle.cert_stream.specs.declared.mode.Part.TheVariants.{Gap, Minus, Zero, Digits}
use Rattle.cert_stream.specs.declared.mode.Mode.TheVariants.{Start, Skip, Head, StatusHead, StatusGap, Spelled, Whole, InList, Closed}
use Rattle.cert_stream.proofs.Turning.{parser}
use Rattle.cert_stream.proofs.Speaking.{speak, bad_ever, from_line, start_forgets}

-- what a word that is read says, and the words after it
abbrev pub word_says : ℕ → ListKind → Bool → List Saying → List Saying → ℕ → List LitOf → Scanned Part → Word → List Word → List Saying
word_says vars kind counted unended more place lits s w ws =
    elim s [
      | Misfit k n ↦ bad k (w.place + n)
      | Reads part ↦ elim part [
        | Gap ↦ list_says vars kind counted unended more place lits ws
        | Minus ↦ cond w.done (bad BadLiteral (w.place + length w.text)) []
        | Zero ↦ cond (w.done || counted) (ended_says kind place lits ∷ after_says more ws) []
        | Digits l ↦ cond w.done (heard_says kind l ++ list_says vars kind counted unended more place (lits ++ l ∷ []) ws) []
      ]
    ]

pub record Tail (vars : ℕ) (ended fed counted : Bool) (broken going more : List Saying) (feed : ℕ) (tail : List ℕ) : Type 0 where
  pub start : (place : ℕ) (amid : Bool) (lits : List LitOf) → speak ended (parser vars feed place (Start amid) lits) tail ≡ cond amid going more
  pub skip : (place : ℕ) (amid : Bool) (lits : List LitOf) → speak ended (parser vars feed place (Skip amid) lits) tail ≡ cond amid going more
  pub head : (place : ℕ) (kind : ListKind) (lits : List LitOf) → speak ended (parser vars feed place (Head kind) lits) tail ≡ unended_says kind broken going
  pub status_head : (place : ℕ) (lits : List LitOf) → speak ended (parser vars feed place StatusHead lits) tail ≡ more
  pub status_gap : (place : ℕ) (lits : List LitOf) → speak ended (parser vars feed place StatusGap lits) tail ≡ more
  pub spelled : (place n : ℕ) (lits : List LitOf) → speak ended (parser vars feed place (Spelled n) lits) tail ≡ cond (eqb n 7 && counted) (IsUnknown ∷ more) more
  pub whole : (place : ℕ) (lits : List LitOf) → speak ended (parser vars feed place Whole lits) tail ≡ cond counted (IsUnknown ∷ more) more
  pub list : (place : ℕ) (kind : ListKind) (lits : List LitOf) (part : Part) (p : List ℕ) → length p ≤ feed → speak ended (parser vars feed place (InList kind part) lits) tail
      ≡ word_says vars kind counted (unended_says kind broken going) more place lits (Reads part) (record { place = feed - length p; text = p; done = fed }) []
  pub closed : (place : ℕ) (lits : List LitOf) → speak ended (parser vars feed place Closed lits) tail ≡ more

module _ (vars : ℕ) (ended : Bool) (feed : ℕ) (rest : List ℕ) where
  abbrev going : List Saying
  going = from_line vars ended (feed + 1) true rest

  abbrev more : List Saying
  more = from_line vars ended (feed + 1) false rest

  start_fed : (place : ℕ) (amid : Bool) (lits : List LitOf) → speak ended (parser vars feed place (Start amid) lits) (10 ∷ rest) ≡ cond amid going more
  start_fed place true lits = start_forgets ended vars (feed + 1) place true lits rest
  start_fed place false lits = start_forgets ended vars (feed + 1) place false lits rest

  skip_fed : (place : ℕ) (amid : Bool) (lits : List LitOf) → speak ended (parser vars feed place (Skip amid) lits) (10 ∷ rest) ≡ cond amid going more
  skip_fed place true lits = start_forgets ended vars (feed + 1) place true lits rest
  skip_fed place false lits = start_forgets ended vars (feed + 1) place false lits rest

  head_fed : (place : ℕ) (kind : ListKind) (lits : List LitOf) → speak ended (parser vars feed place (Head kind) lits) (10 ∷ rest) ≡ unended_says kind (bad BadLine feed) going
  head_fed place Clause lits = bad_ever ended (record { kind = BadLine; byte = feed }) vars (feed + 1) place lits rest
  head_fed place Deletion lits = bad_ever ended (record { kind = BadLine; byte = feed }) vars (feed + 1) place lits rest
  head_fed place Values lits = start_forgets ended vars (feed + 1) place true lits rest

  spelled_fed : (place n : ℕ) (lits : List LitOf) → speak ended (parser vars feed place (Spelled n) lits) (10 ∷ rest) ≡ cond (eqb n 7 && true) (IsUnknown ∷ more) more
  spelled_fed place n lits =
      elim (cases_Bool (eqb n 7)) [
        | inl t ↦ rw t (ap (λ z. IsUnknown ∷ z) (start_forgets ended vars (feed + 1) place false lits rest))
        | inr f ↦ rw f (start_forgets ended vars (feed + 1) place false lits rest)
      ]

  zero_fed : (place : ℕ) (kind : ListKind) (lits : List LitOf) → speak ended (parser vars feed place (InList kind Zero) lits) (10 ∷ rest) ≡ ended_says kind place lits ∷ more
  zero_fed place Clause lits = ap (λ z. ended_says Clause place lits ∷ z) (start_forgets ended vars (feed + 1) place false lits rest)
  zero_fed place Deletion lits = ap (λ z. ended_says Deletion place lits ∷ z) (start_forgets ended vars (feed + 1) place false lits rest)
  zero_fed place Values lits = ap (λ z. ended_says Values place lits ∷ z) (start_forgets ended vars (feed + 1) place false lits rest)

  digits_fed : (place : ℕ) (kind : ListKind) (lits : List LitOf) (l : LitOf)
      → speak ended (parser vars feed place (InList kind (Digits l)) lits) (10 ∷ rest) ≡ heard_says kind l ++ unended_says kind (bad BadLine feed) going
  digits_fed place Clause lits l = bad_ever ended (record { kind = BadLine; byte = feed }) vars (feed + 1) place (lits ++ l ∷ []) rest
  digits_fed place Deletion lits l = bad_ever ended (record { kind = BadLine; byte = feed }) vars (feed + 1) place (lits ++ l ∷ []) rest
  digits_fed place Values lits l = ap (λ z. heard_says Values l ++ z) (start_forgets ended vars (feed + 1) place true (lits ++ l ∷ []) rest)

  gap_fed : (place : ℕ) (kind : ListKind) (lits : List LitOf) → speak ended (parser vars feed place (InList kind Gap) lits) (10 ∷ rest) ≡ unended_says kind (bad BadLine feed) going
  gap_fed place Clause lits = bad_ever ended (record { kind = BadLine; byte = feed }) vars (feed + 1) place lits rest
  gap_fed place Deletion lits = bad_ever ended (record { kind = BadLine; byte = feed }) vars (feed + 1) place lits rest
  gap_fed place Values lits = start_forgets ended vars (feed + 1) place true lits rest

  list_fed : (place : ℕ) (kind : ListKind) (lits : List LitOf) (part : Part) (p : List ℕ) → length p ≤ feed → speak ended (parser vars feed place (InList kind part) lits) (10 ∷ rest)
      ≡ word_says vars kind true (unended_says kind (bad BadLine feed) going) more place lits (Reads part) (record { place = feed - length p; text = p; done = true }) []
  list_fed place kind lits Gap p n = gap_fed place kind lits
  list_fed place kind lits Minus p n = bad_ever ended (record { kind = BadLiteral; byte = feed }) vars (feed + 1) place lits rest ∙ ap (bad BadLiteral) (omega arith)
  list_fed place kind lits Zero p n = zero_fed place kind lits
  list_fed place kind lits (Digits l) p n = digits_fed place kind lits l

  -- a line feed, and what comes then
  pub fed_tail : Tail vars ended true true (bad BadLine feed) (from_line vars ended (feed + 1) true rest) (from_line vars ended (feed + 1) false rest) feed (10 ∷ rest)
  fed_tail = record {
    start = start_fed;
    skip = skip_fed;
    head = head_fed;
    status_head = λ place lits. start_forgets ended vars (feed + 1) place false lits rest;
    status_gap = λ place lits. start_forgets ended vars (feed + 1) place false lits rest;
    spelled = spelled_fed;
    whole = λ place lits. ap (λ z. IsUnknown ∷ z) (start_forgets ended vars (feed + 1) place false lits rest);
    list = list_fed;
    closed = λ place lits. start_forgets ended vars (feed + 1) place false lits rest;
  }

none_says : (amid : Bool) → (let e : List Saying = [] in e) ≡ cond amid [] []
none_says true = refl
none_says false = refl

none_ended : (kind : ListKind) → (let e : List Saying = [] in e) ≡ unended_says kind [] []
none_ended Clause = refl
none_ended Deletion = refl
none_ended Values = refl

module _ (vars : ℕ) (ended : Bool) (feed : ℕ) where
  list_last : (place : ℕ) (kind : ListKind) (lits : List LitOf) (part : Part) (p : List ℕ) → length p ≤ feed → speak ended (parser vars feed place (InList kind part) lits) []
      ≡ word_says vars kind ended (unended_says kind [] []) [] place lits (Reads part) (record { place = feed - length p; text = p; done = false }) []
  list_last place kind lits Gap p n = none_ended kind
  list_last place kind lits Minus p n = refl
  list_last place kind lits Zero p n = refl
  list_last place kind lits (Digits l) p n = refl

  -- nothing
  pub no_tail : Tail vars ended false ended [] [] [] feed []
  no_tail = record {
    start = λ place amid lits. none_says amid;
    skip = λ place amid lits. none_says amid;
    head = λ place kind lits. none_ended kind;
    status_head = λ place lits. refl;
    status_gap = λ place lits. refl;
    spelled = λ place n lits. refl;
    whole = λ place lits. refl;
    list = list_last;
    closed = λ place lits. refl;
  }
