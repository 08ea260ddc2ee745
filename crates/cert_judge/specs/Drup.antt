-- The fate of a stream of DRUP text.
use Rattle.std.specs.Prelude.{◌≡◌, ◌≢◌, ◌⊎◌, ℕ, Bool, List, [], ◌∷◌, ◌++◌, Option, Some, None}
use Rattle.cnf_form.specs.Cnf.{LitOf, FormulaOf, Assignment, IsAdmitted, Deletes}
use Rattle.cert_stream.specs.Stream.{sayings}
use Rattle.cert_stream.specs.Telling.{Saying, IsClause, IsDelete, IsValue, IsValuesEnd, IsUnknown, IsFault}
use Rattle.sby_terms.specs.declared.names.Answer.TheVariants.{Unsat}
use Rattle.cert_judge.specs.declared.stream.CertKind.TheVariants.{NotRup}
use Rattle.cert_judge.specs.Fate.{Fate, Found, Unknown, Bad, ValuesFate, cert_kind}
use Rattle.cert_judge.specs.Values.{named, named_from, unnamed}

-- the values, up to their end
abbrev pub value_lits : List Saying → List LitOf
value_lits [] = []
value_lits (IsClause lits place ∷ ss) = value_lits ss
value_lits (IsDelete lits ∷ ss) = value_lits ss
value_lits (IsValue l ∷ ss) = l ∷ value_lits ss
value_lits (IsValuesEnd ∷ ss) = []
value_lits (IsUnknown ∷ ss) = value_lits ss
value_lits (IsFault f ∷ ss) = value_lits ss

-- the values that sayings name
abbrev pub values_said : List Saying → Assignment
values_said ss = named_from unnamed (value_lits ss)

-- The fate of sayings, for a formula with the clauses C, where the clauses F are present and the values x were named: each clause
-- has to be admitted, and joins them; the empty one, or values that satisfy C, complete the certificate. None where they are
-- undecided.
abbrev pub SayingsFate : List (List LitOf) → List (List LitOf) → Assignment → List Saying → Option Fate → Type 0
SayingsFate C F x [] fate = fate ≡ None
SayingsFate C F x (IsClause lits place ∷ ss) fate =
    (IsAdmitted F lits × (lits ≡ []) × (fate ≡ Some (Found Unsat)))
    ⊎ (IsAdmitted F lits × (lits ≢ []) × SayingsFate C (F ++ lits ∷ []) x ss fate)
    ⊎ ((IsAdmitted F lits → ⊥) × (fate ≡ Some (Bad NotRup place)))
SayingsFate C F x (IsDelete lits ∷ ss) fate = (G : List (List LitOf)) × Deletes F lits G × SayingsFate C G x ss fate
SayingsFate C F x (IsValue l ∷ ss) fate = SayingsFate C F (named x l) ss fate
SayingsFate C F x (IsValuesEnd ∷ ss) fate = ValuesFate C x fate
SayingsFate C F x (IsUnknown ∷ ss) fate = fate ≡ Some Unknown
SayingsFate C F x (IsFault f ∷ ss) fate = fate ≡ Some (Bad (cert_kind f.kind) f.byte)

-- the fate of a stream's sayings, as a certificate of a formula
abbrev pub StreamFate : FormulaOf → List Saying → Option Fate → Type 0
StreamFate f ss fate = SayingsFate f.clauses f.clauses unnamed ss fate

-- the fate of a stream's bytes, which are all where it ended
abbrev pub BytesFate : FormulaOf → Bool → List ℕ → Option Fate → Type 0
BytesFate f ended bytes fate = StreamFate f (sayings f.vars ended bytes) fate

-- the values that they name
abbrev pub values_named : ℕ → Bool → List ℕ → Assignment
values_named vars ended bytes = values_said (sayings vars ended bytes)
