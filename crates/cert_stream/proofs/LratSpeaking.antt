-- What bytes say, one after the other, and what is said at their end.
use Rattle.std.proofs.Common.{◌≡◌, ℕ, ◌+◌, Bool, cond, ◌&&◌, eqb, List, [], ◌∷◌, ◌++◌, refl, ap, sym, ◌∙◌, inl, inr, append_assoc}
use Rattle.std.proofs.lemmas.Bool.{cases_Bool}
use Rattle.std.proofs.lemmas.List.{append-nil}
use Rattle.cert_stream.specs.Text.{is_blank}
use Rattle.cert_stream.specs.declared.mode.ParseFault.{ParseFault}
use Rattle.cert_stream.specs.declared.mode.Part.{Part}
use Rattle.cert_stream.specs.declared.mode.Part.TheVariants.{Gap, Minus, Zero, Digits}
use Rattle.cert_stream.specs.LratMachine.{LratOf, turn, at_end, fault_of}
use Rattle.cert_stream.specs.LratTelling.{LratSaying, IsValuesEnd, IsUnknown, IsFault, told_by, after, said, fault_said, spoken}
use Rattle.cert_stream.specs.LratLines.{ids_ended}
use Rattle.cert_stream.specs.declared.lrat.mode.LitList.{LitList}
use Rattle.cert_stream.specs.declared.lrat.mode.LitList.TheVariants.{Clause, Values}
use Rattle.cert_stream.specs.declared.lrat.mode.IdList.{IdList}
use Rattle.cert_stream.specs.declared.lrat.mode.IdList.TheVariants.{Hints, Deletion}
use Rattle.cert_stream.specs.declared.lrat.mode.IdPart.{IdPart}
use Rattle.cert_stream.specs.declared.lrat.mode.IdPart.TheVariants.{Gap as IdGap, Minus as IdMinus, Zero as IdZero, Digits as IdDigits}
use Rattle.cert_stream.specs.declared.lrat.mode.Mode.{Mode}
use Rattle.cert_stream.specs.declared.lrat.mode.Mode.TheVariants.{Start, Skip, ValuesHead, StatusHead, StatusGap, Spelled, Whole, InId, AfterId, DeletionHead, InLits, InIds, Closed, Bad}
use Rattle.cert_stream.proofs.LratTurning.{Kept, kept, nothing, parser}
use Rattle.cert_stream.proofs.Speaking.{none_last}

-- what is said at the end, mode by mode
abbrev pub last_lits : Bool → LitList → Part → List LratSaying
last_lits ended Clause part = []
last_lits ended Values Gap = []
last_lits ended Values Minus = []
last_lits ended Values Zero = cond ended (IsValuesEnd ∷ []) []
last_lits ended Values (Digits l) = []

abbrev pub last_ids : Bool → ℕ → Kept → IdList → IdPart → List LratSaying
last_ids ended place line kind IdGap = []
last_ids ended place line kind (IdMinus at) = []
last_ids ended place line kind IdZero = cond ended (ids_ended kind place line.id line.lits line.hints ∷ []) []
last_ids ended place line kind (IdDigits h) = []

abbrev pub last_of : Bool → ℕ → Kept → Mode → List LratSaying
last_of ended place line (Start amid) = []
last_of ended place line (Skip amid) = []
last_of ended place line ValuesHead = []
last_of ended place line StatusHead = []
last_of ended place line StatusGap = []
last_of ended place line (Spelled n) = cond (eqb n 7 && ended) (IsUnknown ∷ []) []
last_of ended place line Whole = cond ended (IsUnknown ∷ []) []
last_of ended place line (InId n) = []
last_of ended place line AfterId = []
last_of ended place line DeletionHead = []
last_of ended place line (InLits kind part) = last_lits ended kind part
last_of ended place line (InIds kind part) = last_ids ended place line kind part
last_of ended place line Closed = []
last_of ended place line (Bad f) = IsFault f ∷ []

abbrev pub speak : Bool → LratOf → List ℕ → List LratSaying
speak ended w [] = last_of ended w.place (kept w.id w.lits w.hints) w.mode
speak ended w (b ∷ bs) = told_by (turn w b).to (turn w b).event ++ speak ended (turn w b).to bs

last_is : (ended : Bool) (vars taken place : ℕ) (line : Kept) (mode : Mode)
    → last_of ended place (kept line.id line.lits line.hints) mode ≡ cond ended (told_by (parser vars taken place mode line) (at_end mode)) [] ++ fault_said (fault_of mode)
last_is ended vars taken place line (Start amid) = none_last ended []
last_is ended vars taken place line (Skip amid) = none_last ended []
last_is ended vars taken place line ValuesHead = none_last ended []
last_is ended vars taken place line StatusHead = none_last ended []
last_is ended vars taken place line StatusGap = none_last ended []
last_is ended vars taken place line (Spelled n) = elim (cases_Bool (eqb n 7)) [ inl t ↦ rw t (sym (append-nil (cond ended (IsUnknown ∷ []) []))) | inr f ↦ rw f (none_last ended []) ]
last_is ended vars taken place line Whole = sym (append-nil _)
last_is ended vars taken place line (InId n) = none_last ended []
last_is ended vars taken place line AfterId = none_last ended []
last_is ended vars taken place line DeletionHead = none_last ended []
last_is ended vars taken place line (InLits Clause part) = none_last ended []
last_is ended vars taken place line (InLits Values Gap) = none_last ended []
last_is ended vars taken place line (InLits Values Minus) = none_last ended []
last_is ended vars taken place line (InLits Values Zero) = sym (append-nil _)
last_is ended vars taken place line (InLits Values (Digits l)) = none_last ended []
last_is ended vars taken place line (InIds kind IdGap) = none_last ended []
last_is ended vars taken place line (InIds kind (IdMinus at)) = none_last ended []
last_is ended vars taken place line (InIds Hints IdZero) = sym (append-nil _)
last_is ended vars taken place line (InIds Deletion IdZero) = sym (append-nil _)
last_is ended vars taken place line (InIds kind (IdDigits h)) = none_last ended []
last_is ended vars taken place line Closed = none_last ended []
last_is ended vars taken place line (Bad f) = none_last ended (IsFault f ∷ [])

pub speak_is : (ended : Bool) (w : LratOf) (bytes : List ℕ) → speak ended w bytes ≡ spoken ended w bytes
speak_is ended w [] = last_is ended w.vars w.taken w.place (kept w.id w.lits w.hints) w.mode
speak_is ended w (b ∷ bs) =
    let z = (turn w b).to in
    ap (λ x. told_by z (turn w b).event ++ x) (speak_is ended z bs)
    ∙ sym (append_assoc (told_by z (turn w b).event) (said z bs) (cond ended (told_by (after z bs) (at_end (after z bs).mode)) [] ++ fault_said (fault_of (after z bs).mode)))

-- after a fault nothing is said
pub bad_ever : (ended : Bool) (f : ParseFault) (vars taken place : ℕ) (line : Kept) (bs : List ℕ) → speak ended (parser vars taken place (Bad f) line) bs ≡ IsFault f ∷ []
bad_ever ended f vars taken place line [] = refl
bad_ever ended f vars taken place line (b ∷ bs) =
    elim (cases_Bool (eqb b 10)) [
      | inl t ↦ rw t (bad_ever ended f vars (taken + 1) place line bs)
      | inr h ↦ elim (cases_Bool (is_blank b)) [ inl t ↦ rw (h, t) (bad_ever ended f vars (taken + 1) place line bs) | inr g ↦ rw (h, g) (bad_ever ended f vars (taken + 1) place line bs) ]
    ]

-- what bytes say from the start of a line on
abbrev pub from_line : ℕ → Bool → ℕ → Bool → List ℕ → List LratSaying
from_line vars ended at amid bytes = speak ended (parser vars at 0 (Start amid) nothing) bytes

-- a new line knows nothing of the earlier one
pub start_forgets : (ended : Bool) (vars taken place : ℕ) (amid : Bool) (line : Kept) (bs : List ℕ) → speak ended (parser vars taken place (Start amid) line) bs ≡ from_line vars ended taken amid bs
start_forgets ended vars taken place amid line [] = refl
start_forgets ended vars taken place amid line (b ∷ bs) =
    elim (cases_Bool (eqb b 10)) [
      | inl t ↦ rw t (start_forgets ended vars (taken + 1) place amid line bs)
      | inr h ↦ elim (cases_Bool (is_blank b)) [ inl t ↦ rw (h, t) (start_forgets ended vars (taken + 1) place amid line bs) | inr g ↦ rw (h, g) refl ]
    ]
