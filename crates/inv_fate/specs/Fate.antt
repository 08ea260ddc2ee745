-- The fate of a stream of an invariant: a certificate, or why it is none.
use Rattle.std.specs.Prelude.{◌≡◌, ◌≢◌, ◌⊎◌, ℕ, ◌<◌, ◌≤◌, Bool, true, false, List, [], ◌∷◌, ◌++◌, Option, Some, None, Contains, length, take}
use Rattle.cnf_form.specs.Cnf.{LitOf, IsAdmitted, Deletes}
use Rattle.cert_stream.specs.Telling.{IsClause, IsDelete, IsValue, IsValuesEnd, IsUnknown, IsFault as IsParseFault}
use Rattle.cert_judge.specs.Fate.{cert_kind}
use Rattle.cert_judge.specs.declared.stream.CertKind.{CertKind}
use Rattle.cert_judge.specs.declared.stream.CertKind.TheVariants.{BadLiteral, NotRup, TooLong, EarlyEnd, BadPart, NotInvariant}
use Rattle.pair_form.specs.Pair.{PairOf, bit_lits, clauses_over}
use Rattle.pair_form.specs.declared.pair.Frame.TheVariants.{First, Second}
use Rattle.inv_stream.specs.Machine.{InvSaying, IsNext, Says, IsFault}
use Rattle.inv_stream.specs.Telling.{sayings}
use Rattle.inv_stream.specs.declared.mode.InvFaultKind.{InvFaultKind}
use Rattle.inv_stream.specs.declared.mode.InvFaultKind.TheVariants.{BadPart as IsBadPart, Parse}
use Rattle.inv_stream.specs.declared.mode.Part.{Part}
use Rattle.inv_stream.specs.declared.mode.Part.TheVariants.{Head, Inv, Start, Step, Safe}

-- a certificate; the engine doesn't know; or a fault, by its kind and its byte
pub data InvFate : Type 0 where
  Found : InvFate
  Unknown : InvFate
  Bad : CertKind → ℕ → InvFate

-- the kind of a reader's fault
abbrev pub fault_kind : InvFaultKind → CertKind
fault_kind IsBadPart = BadPart
fault_kind (Parse kind) = cert_kind kind

-- the part that comes then
abbrev pub after : Part → Part
after Head = Inv
after Inv = Start
after Start = Step
after Step = Safe
after Safe = Safe

-- The clauses from which a part's proof goes: the formula with the unit `start`; the formula, the invariant in the first cycle and the unit
-- `next`; the formula, the invariant in the first cycle and the unit `bad`.
abbrev pub opened : PairOf → Part → List (List LitOf) → List (List LitOf)
opened p Head I = []
opened p Inv I = []
opened p Start I = p.formula.clauses ++ (p.start ∷ []) ∷ []
opened p Step I = p.formula.clauses ++ (clauses_over p First I ++ (p.next ∷ []) ∷ [])
opened p Safe I = p.formula.clauses ++ (clauses_over p First I ++ (p.bad ∷ []) ∷ [])

-- the clauses that the present ones have to admit where the part ends
abbrev pub owed : PairOf → Part → List (List LitOf) → List (List LitOf)
owed p Head I = []
owed p Inv I = []
owed p Start I = clauses_over p First I
owed p Step I = clauses_over p Second I
owed p Safe I = []

abbrev pub AreAdmitted : List (List LitOf) → List (List LitOf) → Type 0
AreAdmitted F cs = (c : List LitOf) → Contains cs c → IsAdmitted F c

-- each literal is of a state bit that has literals
abbrev pub IsOverBits : PairOf → List LitOf → Type 0
IsOverBits p c = (l : LitOf) → Contains c l → bit_lits p First l.var ≢ None

-- another part begins: what the one before it owes has to be admitted
abbrev pub NextFate : PairOf → Part → List (List LitOf) → List (List LitOf) → ℕ → Type 0 → Option InvFate → Type 0
NextFate p Head I F place rest fate = rest
NextFate p Inv I F place rest fate = rest
NextFate p Start I F place rest fate =
    (AreAdmitted F (owed p Start I) × rest) ⊎ ((AreAdmitted F (owed p Start I) → ⊥) × (fate ≡ Some (Bad NotInvariant place)))
NextFate p Step I F place rest fate =
    (AreAdmitted F (owed p Step I) × rest) ⊎ ((AreAdmitted F (owed p Step I) → ⊥) × (fate ≡ Some (Bad NotInvariant place)))
NextFate p Safe I F place rest fate = fate ≡ Some (Bad BadPart place)

-- a clause of a proof has to be admitted; after it what comes then counts
abbrev pub ProofFate : List (List LitOf) → List LitOf → ℕ → Type 0 → Option InvFate → Type 0
ProofFate F lits place rest fate = (IsAdmitted F lits × rest) ⊎ ((IsAdmitted F lits → ⊥) × (fate ≡ Some (Bad NotRup place)))

-- A clause of the invariant is over state bits that have literals, and is put after the others; one of a proof has to be admitted, and the empty
-- one completes the last part.
abbrev pub ClauseFate : PairOf → Part → List (List LitOf) → List LitOf → ℕ → Type 0 → Type 0 → Option InvFate → Type 0
ClauseFate p Head F lits place listed joined fate = fate ≡ Some (Bad BadPart place)
ClauseFate p Inv F lits place listed joined fate = (IsOverBits p lits × listed) ⊎ ((IsOverBits p lits → ⊥) × (fate ≡ Some (Bad BadLiteral place)))
ClauseFate p Start F lits place listed joined fate = ProofFate F lits place joined fate
ClauseFate p Step F lits place listed joined fate = ProofFate F lits place joined fate
ClauseFate p Safe F lits place listed joined fate =
    (IsAdmitted F lits × (lits ≡ []) × (fate ≡ Some Found)) ⊎ (IsAdmitted F lits × (lits ≢ []) × joined) ⊎ ((IsAdmitted F lits → ⊥) × (fate ≡ Some (Bad NotRup place)))

-- The fate of sayings, after the word of a part, where I are the clauses of the invariant so far and F those that are present. None
-- where they are undecided. No line of such a stream tells values.
abbrev pub SayingsFate : PairOf → Part → List (List LitOf) → List (List LitOf) → List InvSaying → Option InvFate → Type 0
SayingsFate p part I F [] fate = fate ≡ None
SayingsFate p part I F (IsNext place ∷ ss) fate = NextFate p part I F place (SayingsFate p (after part) I (opened p (after part) I) ss fate) fate
SayingsFate p part I F (Says (IsClause lits place) ∷ ss) fate =
    ClauseFate p part F lits place (SayingsFate p part (I ++ lits ∷ []) F ss fate) (SayingsFate p part I (F ++ lits ∷ []) ss fate) fate
SayingsFate p part I F (Says (IsDelete lits) ∷ ss) fate = (G : List (List LitOf)) × Deletes F lits G × SayingsFate p part I G ss fate
SayingsFate p part I F (Says (IsValue l) ∷ ss) fate = SayingsFate p part I F ss fate
SayingsFate p part I F (Says IsValuesEnd ∷ ss) fate = SayingsFate p part I F ss fate
SayingsFate p part I F (Says IsUnknown ∷ ss) fate = fate ≡ Some Unknown
SayingsFate p part I F (Says (IsParseFault f) ∷ ss) fate = fate ≡ Some (Bad (cert_kind f.kind) f.byte)
SayingsFate p part I F (IsFault f ∷ ss) fate = fate ≡ Some (Bad (fault_kind f.kind) f.byte)

-- the fate of a stream's sayings
abbrev pub StreamFate : PairOf → List InvSaying → Option InvFate → Type 0
StreamFate p ss fate = SayingsFate p Head [] [] ss fate

-- the fate of a stream's bytes, which are all where it ended
abbrev pub BytesFate : PairOf → Bool → List ℕ → Option InvFate → Type 0
BytesFate p ended bytes fate = StreamFate p (sayings p.formula.vars ended bytes) fate

-- the fate of bytes, `most` of them at most: where more may follow
pub record InvFateSoFar (p : PairOf) (bytes : List ℕ) (most : ℕ) (fate : Option InvFate) : Type 0 where
  pub within : length bytes ≤ most → BytesFate p false bytes fate
  pub beyond : most < length bytes →
      ((x : InvFate) × BytesFate p false (take most bytes) (Some x) × (fate ≡ Some x)) ⊎ (BytesFate p false (take most bytes) None × (fate ≡ Some (Bad TooLong most)))

-- and where they are all
pub record InvFateOf (p : PairOf) (bytes : List ℕ) (most : ℕ) (fate : InvFate) : Type 0 where
  pub within : length bytes ≤ most → BytesFate p true bytes (Some fate) ⊎ (BytesFate p true bytes None × (fate ≡ Bad EarlyEnd (length bytes)))
  pub beyond : most < length bytes → InvFateSoFar p bytes most (Some fate)
