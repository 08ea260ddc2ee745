-- What was said stays said.
use Rattle.std.proofs.Common.{◌≡◌, ◌⊎◌, ℕ, ◌+◌, Bool, true, false, cond, ◌&&◌, eqb, List, [], ◌∷◌, ◌++◌, Some, refl, ap, sym, ◌∙◌, inl, inr, subst}
use Rattle.std.proofs.lemmas.Bool.{cases_Bool}
use Rattle.std.proofs.lemmas.List.{append-nil}
use Rattle.cert_stream.specs.Text.{is_blank}
use Rattle.cert_stream.specs.declared.mode.Part.TheVariants.{Gap, Minus, Zero, Digits}
use Rattle.cert_stream.proofs.GoingOn.{Parted, Starts, blank_no_feed, maybe_unknown, parted_same, parted_told, starts_none, starts_told, no_end}
use Rattle.cert_stream.specs.LratMachine.{LratOf, ended, turn}
use Rattle.cert_stream.specs.LratTelling.{LratSaying, IsValuesEnd, IsUnknown, told_by, fresh}
use Rattle.cert_stream.specs.LratLines.{ids_ended, sayings}
use Rattle.cert_stream.specs.declared.lrat.mode.LitList.TheVariants.{Clause, Values}
use Rattle.cert_stream.specs.declared.lrat.mode.IdList.{IdList}
use Rattle.cert_stream.specs.declared.lrat.mode.IdList.TheVariants.{Hints, Deletion}
use Rattle.cert_stream.specs.declared.lrat.mode.IdPart.TheVariants.{Gap as IdGap, Minus as IdMinus, Zero as IdZero, Digits as IdDigits}
use Rattle.cert_stream.specs.declared.lrat.mode.Mode.{Mode}
use Rattle.cert_stream.specs.declared.lrat.mode.Mode.TheVariants.{Start, Skip, ValuesHead, StatusHead, StatusGap, Spelled, Whole, InId, AfterId, DeletionHead, InLits, InIds, Closed, Bad}
use Rattle.cert_stream.proofs.LratTurning.{Kept, kept, parser}
use Rattle.cert_stream.proofs.LratSpeaking.{speak, speak_is, last_of, bad_ever}
use Rattle.cert_stream.proofs.LratStreams.{stream_spoken}

-- whatever follows, and where the stream ends
module _ (ended : Bool) (vars taken place : ℕ) (line : Kept) (rest : List ℕ) where
  last_goes_on : (m : Mode) → Starts (last_of false place line m) (speak ended (parser vars taken place m line) rest)
  last_goes_on (Start amid) = starts_none _
  last_goes_on (Skip amid) = starts_none _
  last_goes_on ValuesHead = starts_none _
  last_goes_on StatusHead = starts_none _
  last_goes_on StatusGap = starts_none _
  last_goes_on (Spelled n) = subst (λ z. Starts z (speak ended (parser vars taken place (Spelled n) line) rest)) (sym (no_end (IsUnknown ∷ []) n)) (starts_none _)
  last_goes_on Whole = starts_none _
  last_goes_on (InId n) = starts_none _
  last_goes_on AfterId = starts_none _
  last_goes_on DeletionHead = starts_none _
  last_goes_on (InLits Clause part) = starts_none _
  last_goes_on (InLits Values Gap) = starts_none _
  last_goes_on (InLits Values Minus) = starts_none _
  last_goes_on (InLits Values Zero) = starts_none _
  last_goes_on (InLits Values (Digits l)) = starts_none _
  last_goes_on (InIds kind IdGap) = starts_none _
  last_goes_on (InIds kind (IdMinus at)) = starts_none _
  last_goes_on (InIds kind IdZero) = starts_none _
  last_goes_on (InIds kind (IdDigits h)) = starts_none _
  last_goes_on Closed = starts_none _
  last_goes_on (Bad f) = ([], bad_ever ended f vars taken place line rest)

goes_on : (ended : Bool) (bytes rest : List ℕ) (w : LratOf) → Starts (speak false w bytes) (speak ended w (bytes ++ rest))
goes_on ended [] rest w = last_goes_on ended w.vars w.taken w.place (kept w.id w.lits w.hints) rest w.mode
goes_on ended (b ∷ bs) rest w =
    starts_told (told_by (turn w b).to (turn w b).event) (speak false (turn w b).to bs) (speak ended (turn w b).to (bs ++ rest)) (goes_on ended bs rest (turn w b).to)

-- the end counts with a line feed too
module _ (vars taken place : ℕ) (line : Kept) (rest : List ℕ) where
  ids_fed : (kind : IdList) → Starts (ids_ended kind place line.id line.lits line.hints ∷ []) (speak false (parser vars taken place (InIds kind IdZero) line) (10 ∷ rest))
  ids_fed Hints = (_, refl)
  ids_fed Deletion = (_, refl)

  spelled_feed : (n : ℕ) → Starts (cond (eqb n 7 && true) (IsUnknown ∷ []) []) (speak false (parser vars taken place (Spelled n) line) (10 ∷ rest))
  spelled_feed n = elim (cases_Bool (eqb n 7)) [ inl t ↦ rw t (speak false (parser vars (taken + 1) place (Start false) line) rest, refl) | inr f ↦ rw f (starts_none _) ]

  last_fed : (m : Mode) → Starts (last_of true place line m) (speak false (parser vars taken place m line) (10 ∷ rest))
  last_fed (Start amid) = starts_none _
  last_fed (Skip amid) = starts_none _
  last_fed ValuesHead = starts_none _
  last_fed StatusHead = starts_none _
  last_fed StatusGap = starts_none _
  last_fed (Spelled n) = spelled_feed n
  last_fed Whole = (speak false (parser vars (taken + 1) place (Start false) line) rest, refl)
  last_fed (InId n) = starts_none _
  last_fed AfterId = starts_none _
  last_fed DeletionHead = starts_none _
  last_fed (InLits Clause part) = starts_none _
  last_fed (InLits Values Gap) = starts_none _
  last_fed (InLits Values Minus) = starts_none _
  last_fed (InLits Values Zero) = (_, refl)
  last_fed (InLits Values (Digits l)) = starts_none _
  last_fed (InIds kind IdGap) = starts_none _
  last_fed (InIds kind (IdMinus at)) = starts_none _
  last_fed (InIds kind IdZero) = ids_fed kind
  last_fed (InIds kind (IdDigits h)) = starts_none _
  last_fed Closed = starts_none _
  last_fed (Bad f) = ([], bad_ever false f vars taken place line (10 ∷ rest))

fed : (bytes rest : List ℕ) (w : LratOf) → Starts (speak true w bytes) (speak false w (bytes ++ 10 ∷ rest))
fed [] rest w = last_fed w.vars w.taken w.place (kept w.id w.lits w.hints) rest w.mode
fed (b ∷ bs) rest w =
    starts_told (told_by (turn w b).to (turn w b).event) (speak true (turn w b).to bs) (speak false (turn w b).to (bs ++ 10 ∷ rest)) (fed bs rest (turn w b).to)

-- and with white space, but for UNKNOWN
module _ (vars taken place : ℕ) (line : Kept) (b : ℕ) (rest : List ℕ) (h : eqb b 10 ≡ false) (g : is_blank b ≡ true) where
  ids_blank : (kind : IdList) → Starts (ids_ended kind place line.id line.lits line.hints ∷ []) (speak false (parser vars taken place (InIds kind IdZero) line) (b ∷ rest))
  ids_blank kind = rw (h, g) (of kind)
    where
      of : (kind : IdList) → Starts (ids_ended kind place line.id line.lits line.hints ∷ [])
          (told_by (parser vars (taken + 1) place Closed line) (Some (ended kind)) ++ speak false (parser vars (taken + 1) place Closed line) rest)
      of Hints = (_, refl)
      of Deletion = (_, refl)

  values_blank : Starts (IsValuesEnd ∷ []) (speak false (parser vars taken place (InLits Values Zero) line) (b ∷ rest))
  values_blank = rw (h, g) (_, refl)

  last_parted : (m : Mode) → Parted IsUnknown (last_of true place line m) (speak false (parser vars taken place m line) (b ∷ rest))
  last_parted (Start amid) = parted_same IsUnknown _ _ (starts_none _)
  last_parted (Skip amid) = parted_same IsUnknown _ _ (starts_none _)
  last_parted ValuesHead = parted_same IsUnknown _ _ (starts_none _)
  last_parted StatusHead = parted_same IsUnknown _ _ (starts_none _)
  last_parted StatusGap = parted_same IsUnknown _ _ (starts_none _)
  last_parted (Spelled n) = maybe_unknown IsUnknown (eqb n 7 && true) _
  last_parted Whole = maybe_unknown IsUnknown true _
  last_parted (InId n) = parted_same IsUnknown _ _ (starts_none _)
  last_parted AfterId = parted_same IsUnknown _ _ (starts_none _)
  last_parted DeletionHead = parted_same IsUnknown _ _ (starts_none _)
  last_parted (InLits Clause part) = parted_same IsUnknown _ _ (starts_none _)
  last_parted (InLits Values Gap) = parted_same IsUnknown _ _ (starts_none _)
  last_parted (InLits Values Minus) = parted_same IsUnknown _ _ (starts_none _)
  last_parted (InLits Values Zero) = parted_same IsUnknown _ _ values_blank
  last_parted (InLits Values (Digits l)) = parted_same IsUnknown _ _ (starts_none _)
  last_parted (InIds kind IdGap) = parted_same IsUnknown _ _ (starts_none _)
  last_parted (InIds kind (IdMinus at)) = parted_same IsUnknown _ _ (starts_none _)
  last_parted (InIds kind IdZero) = parted_same IsUnknown _ _ (ids_blank kind)
  last_parted (InIds kind (IdDigits i)) = parted_same IsUnknown _ _ (starts_none _)
  last_parted Closed = parted_same IsUnknown _ _ (starts_none _)
  last_parted (Bad f) = parted_same IsUnknown _ _ ([], bad_ever false f vars taken place line (b ∷ rest))

parted : (bytes : List ℕ) (b : ℕ) (rest : List ℕ) → eqb b 10 ≡ false → is_blank b ≡ true → (w : LratOf) → Parted IsUnknown (speak true w bytes) (speak false w (bytes ++ b ∷ rest))
parted [] b rest h g w = last_parted w.vars w.taken w.place (kept w.id w.lits w.hints) b rest h g w.mode
parted (c ∷ bs) b rest h g w =
    parted_told IsUnknown (told_by (turn w c).to (turn w c).event) (speak true (turn w c).to bs) (speak false (turn w c).to (bs ++ b ∷ rest)) (parted bs b rest h g (turn w c).to)

says : (vars : ℕ) (ended : Bool) (bytes : List ℕ) → speak ended (fresh vars) bytes ≡ sayings vars ended bytes
says vars ended bytes = speak_is ended (fresh vars) bytes ∙ stream_spoken vars ended bytes

pub sayings_more : (vars : ℕ) (ended : Bool) (bytes rest : List ℕ) → (more : List LratSaying) × (sayings vars ended (bytes ++ rest) ≡ sayings vars false bytes ++ more)
sayings_more vars ended bytes rest =
    let w = goes_on ended bytes rest (fresh vars) in
    (w.0, sym (says vars ended (bytes ++ rest)) ∙ w.1 ∙ ap (λ z. z ++ w.0) (says vars false bytes))

pub sayings_end : (vars : ℕ) (bytes : List ℕ) → (more : List LratSaying) × (sayings vars true bytes ≡ sayings vars false bytes ++ more)
sayings_end vars bytes =
    let w = sayings_more vars true bytes [] in
    (w.0, ap (sayings vars true) (sym (append-nil bytes)) ∙ w.1)

pub sayings_fed : (vars : ℕ) (bytes rest : List ℕ) → (more : List LratSaying) × (sayings vars false (bytes ++ 10 ∷ rest) ≡ sayings vars true bytes ++ more)
sayings_fed vars bytes rest = let w = fed bytes rest (fresh vars) in (w.0, sym (says vars false (bytes ++ 10 ∷ rest)) ∙ w.1 ∙ ap (λ z. z ++ w.0) (says vars true bytes))

pub sayings_parted : (vars : ℕ) (bytes rest : List ℕ) (b : ℕ) → is_blank b ≡ true
    → (said : List LratSaying) × (more : List LratSaying) × (sayings vars false (bytes ++ b ∷ rest) ≡ said ++ more)
    × ((sayings vars true bytes ≡ said) ⊎ (sayings vars true bytes ≡ said ++ IsUnknown ∷ []))
sayings_parted vars bytes rest b g =
    let w = parted bytes b rest (blank_no_feed b g) g (fresh vars) in
    let e = sym (says vars true bytes) in
    (w.said, w.starts.0, sym (says vars false (bytes ++ b ∷ rest)) ∙ w.starts.1, elim w.ends [ inl k ↦ inl (e ∙ k) | inr k ↦ inr (e ∙ k) ])
