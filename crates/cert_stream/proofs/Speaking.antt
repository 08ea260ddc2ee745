-- What bytes say, one after the other, and what is said at their end.
use Rattle.std.proofs.Common.{◌≡◌, ℕ, ◌+◌, Bool, true, false, cond, ◌&&◌, eqb, List, [], ◌∷◌, ◌++◌, refl, ap, sym, ◌∙◌, inl, inr, append_assoc}
use Rattle.std.proofs.lemmas.Bool.{cases_Bool}
use Rattle.std.proofs.lemmas.List.{append-nil}
use Rattle.cnf_form.specs.Cnf.{LitOf}
use Rattle.cert_stream.specs.Text.{is_blank}
use Rattle.cert_stream.specs.Machine.{DrupOf, turn, at_end, fault_of}
use Rattle.cert_stream.specs.Telling.{Saying, IsUnknown, IsFault, told_by, after, said, fault_said, spoken}
use Rattle.cert_stream.specs.Stream.{ended_says}
use Rattle.cert_stream.specs.declared.mode.ListKind.{ListKind}
use Rattle.cert_stream.specs.declared.mode.ListKind.TheVariants.{Clause, Deletion, Values}
use Rattle.cert_stream.specs.declared.mode.ParseFault.{ParseFault}
use Rattle.cert_stream.specs.declared.mode.Part.{Part}
use Rattle.cert_stream.specs.declared.mode.Part.TheVariants.{Gap, Minus, Zero, Digits}
use Rattle.cert_stream.specs.declared.mode.Mode.{Mode}
use Rattle.cert_stream.specs.declared.mode.Mode.TheVariants.{Start, Skip, Head, StatusHead, StatusGap, Spelled, Whole, InList, Closed, Bad, Lost}
use Rattle.cert_stream.proofs.Turning.{parser}

-- what is said at the end, mode by mode
abbrev pub last_part : Bool → ℕ → List LitOf → ListKind → Part → List Saying
last_part ended place lits kind Gap = []
last_part ended place lits kind Minus = []
last_part ended place lits kind Zero = cond ended (ended_says kind place lits ∷ []) []
last_part ended place lits kind (Digits l) = []

abbrev pub last_of : Bool → ℕ → List LitOf → Mode → List Saying
last_of ended place lits (Start amid) = []
last_of ended place lits (Skip amid) = []
last_of ended place lits (Head kind) = []
last_of ended place lits StatusHead = []
last_of ended place lits StatusGap = []
last_of ended place lits (Spelled n) = cond (eqb n 7 && ended) (IsUnknown ∷ []) []
last_of ended place lits Whole = cond ended (IsUnknown ∷ []) []
last_of ended place lits (InList kind part) = last_part ended place lits kind part
last_of ended place lits Closed = []
last_of ended place lits (Bad f) = IsFault f ∷ []
last_of ended place lits Lost = []

abbrev pub speak : Bool → DrupOf → List ℕ → List Saying
speak ended w [] = last_of ended w.place w.lits w.mode
speak ended w (b ∷ bs) = told_by (turn w b).to (turn w b).event ++ speak ended (turn w b).to bs

-- where nothing counts by the end, a fault alone is said
pub none_last : {S : Type 0} (ended : Bool) (fault : List S) → fault ≡ cond ended (let e : List S = [] in e) [] ++ fault
none_last true fault = refl
none_last false fault = refl

last_is : (ended : Bool) (vars taken place : ℕ) (lits : List LitOf) (mode : Mode)
    → last_of ended place lits mode ≡ cond ended (told_by (parser vars taken place mode lits) (at_end mode)) [] ++ fault_said (fault_of mode)
last_is ended vars taken place lits (Start amid) = none_last ended []
last_is ended vars taken place lits (Skip amid) = none_last ended []
last_is ended vars taken place lits (Head kind) = none_last ended []
last_is ended vars taken place lits StatusHead = none_last ended []
last_is ended vars taken place lits StatusGap = none_last ended []
last_is ended vars taken place lits (Spelled n) = elim (cases_Bool (eqb n 7)) [ inl t ↦ rw t (sym (append-nil (cond ended (IsUnknown ∷ []) []))) | inr f ↦ rw f (none_last ended []) ]
last_is ended vars taken place lits Whole = sym (append-nil _)
last_is ended vars taken place lits (InList kind Gap) = none_last ended []
last_is ended vars taken place lits (InList kind Minus) = none_last ended []
last_is ended vars taken place lits (InList Clause Zero) = sym (append-nil _)
last_is ended vars taken place lits (InList Deletion Zero) = sym (append-nil _)
last_is ended vars taken place lits (InList Values Zero) = sym (append-nil _)
last_is ended vars taken place lits (InList kind (Digits l)) = none_last ended []
last_is ended vars taken place lits Closed = none_last ended []
last_is ended vars taken place lits (Bad f) = none_last ended (IsFault f ∷ [])
last_is ended vars taken place lits Lost = none_last ended []

pub speak_is : (ended : Bool) (w : DrupOf) (bytes : List ℕ) → speak ended w bytes ≡ spoken ended w bytes
speak_is ended w [] = last_is ended w.vars w.taken w.place w.lits w.mode
speak_is ended w (b ∷ bs) =
    let z = (turn w b).to in
    ap (λ x. told_by z (turn w b).event ++ x) (speak_is ended z bs)
    ∙ sym (append_assoc (told_by z (turn w b).event) (said z bs) (cond ended (told_by (after z bs) (at_end (after z bs).mode)) [] ++ fault_said (fault_of (after z bs).mode)))

-- after a fault nothing is said
pub bad_ever : (ended : Bool) (f : ParseFault) (vars taken place : ℕ) (lits : List LitOf) (bs : List ℕ) → speak ended (parser vars taken place (Bad f) lits) bs ≡ IsFault f ∷ []
bad_ever ended f vars taken place lits [] = refl
bad_ever ended f vars taken place lits (b ∷ bs) =
    elim (cases_Bool (eqb b 10)) [
      | inl t ↦ rw t (bad_ever ended f vars (taken + 1) place lits bs)
      | inr h ↦ elim (cases_Bool (is_blank b)) [ inl t ↦ rw (h, t) (bad_ever ended f vars (taken + 1) place lits bs) | inr g ↦ rw (h, g) (bad_ever ended f vars (taken + 1) place lits bs) ]
    ]

-- what bytes say from the start of a line on
abbrev pub from_line : ℕ → Bool → ℕ → Bool → List ℕ → List Saying
from_line vars ended at amid bytes = speak ended (parser vars at 0 (Start amid) []) bytes

-- a new line knows nothing of the earlier one's literals
pub start_forgets : (ended : Bool) (vars taken place : ℕ) (amid : Bool) (lits : List LitOf) (bs : List ℕ) → speak ended (parser vars taken place (Start amid) lits) bs ≡ from_line vars ended taken amid bs
start_forgets ended vars taken place amid lits [] = refl
start_forgets ended vars taken place amid lits (b ∷ bs) =
    elim (cases_Bool (eqb b 10)) [
      | inl t ↦ rw t (start_forgets ended vars (taken + 1) place amid lits bs)
      | inr h ↦ elim (cases_Bool (is_blank b)) [ inl t ↦ rw (h, t) (start_forgets ended vars (taken + 1) place amid lits bs) | inr g ↦ rw (h, g) refl ]
    ]
