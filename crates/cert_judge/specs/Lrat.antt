-- The fate of a hinted stream.
use Rattle.std.specs.Prelude.{◌&&◌, cond, not, is_some, map, ◌≡◌, ◌≢◌, ◌⊎◌, ℕ, ◌<◌, ◌≤◌, Bool, List, [], ◌∷◌, length, Option, Some, None}
use Rattle.cnf_form.specs.Cnf.{LitOf, FormulaOf, Assignment}
use Rattle.cert_stream.specs.LratLines.{sayings}
use Rattle.cert_stream.specs.LratTelling.{LratSaying, IsClause, IsDelete, IsValue, IsValuesEnd, IsUnknown, IsFault}
use Rattle.sby_terms.specs.declared.names.Answer.TheVariants.{Unsat}
use Rattle.cert_judge.specs.Fate.{Fate, Found, Unknown, Bad, ValuesFate, cert_kind}
use Rattle.cert_judge.specs.Values.{named, named_from, unnamed}
use Rattle.cert_judge.specs.declared.stream.CertKind.TheVariants.{BadId, BadHint, NotHinted}
use Rattle.lrat_check.specs.Checking.{HintedOf, live_of}
use Rattle.lrat_check.specs.Hints.{IsHinted, Live, numbered, put}
use Rattle.cert_stream.specs.declared.lrat.mode.Hint.{Hint}

-- the values, up to their end
abbrev pub value_lits : List LratSaying → List LitOf
value_lits [] = []
value_lits (IsClause id lits hints place ∷ ss) = value_lits ss
value_lits (IsDelete ids ∷ ss) = value_lits ss
value_lits (IsValue l ∷ ss) = l ∷ value_lits ss
value_lits (IsValuesEnd ∷ ss) = []
value_lits (IsUnknown ∷ ss) = value_lits ss
value_lits (IsFault f ∷ ss) = value_lits ss

-- the values that sayings name
abbrev pub values_said : List LratSaying → Assignment
values_said ss = named_from unnamed (value_lits ss)

-- the live clauses with their ids, and the highest id so far
pub record Held : Type 0 where
  pub live : Live
  pub last : ℕ

-- what a checker holds
abbrev pub held : HintedOf → Held
held h = record { live = live_of h; last = h.last_id }

-- a hint of a live clause
abbrev pub is_good : Live → Hint → Bool
is_good live h = not h.negated && is_some (live h.id)

abbrev pub first_bad : Live → List Hint → Option Hint
first_bad live [] = None
first_bad live (h ∷ hs) = cond (is_good live h) (first_bad live hs) (Some h)

-- the clauses with these ids are live no more
abbrev pub without : Live → List Hint → Live
without live [] = live
without live (h ∷ hs) = without (put live h.id None) hs

abbrev pub ids_of : List Hint → List ℕ
ids_of hints = map (λ (h : Hint). h.id) hints

-- a clause is tried with its live hints: the empty one completes the certificate, after another one what comes then counts
abbrev pub HintsFate : Live → List LitOf → List Hint → ℕ → Type 0 → Option Fate → Type 0
HintsFate live lits hints place rest fate =
    (IsHinted live lits (ids_of hints) × (lits ≡ []) × (fate ≡ Some (Found Unsat)))
    ⊎ (IsHinted live lits (ids_of hints) × (lits ≢ []) × rest)
    ⊎ ((IsHinted live lits (ids_of hints) → ⊥) × (fate ≡ Some (Bad NotHinted place)))

-- a first bad hint is a fault
abbrev pub ByHints : Option Hint → Type 0 → Option Fate → Type 0
ByHints None rest fate = rest
ByHints (Some h) rest fate = fate ≡ Some (Bad BadHint h.place)

-- its id has to be above all earlier ones, then its hints have to be good, then they have to admit it
abbrev pub ClauseFate : Held → ℕ → List LitOf → List Hint → ℕ → Type 0 → Option Fate → Type 0
ClauseFate F id lits hints place rest fate =
    ((id ≤ F.last) × (fate ≡ Some (Bad BadId place)))
    ⊎ ((F.last < id) × ByHints (first_bad F.live hints) (HintsFate F.live lits hints place rest fate) fate)

abbrev pub added : Held → ℕ → List LitOf → Held
added F id lits = record { live = put F.live id (Some lits); last = id }

abbrev pub deleted : Held → List Hint → Held
deleted F ids = record { live = without F.live ids; last = F.last }

-- The fate of sayings, for a formula with the clauses C, where F is held and the values x were named: each clause has to be admitted by its
-- hints, and is live then; the empty one, or values that satisfy C, complete the certificate. None where they are undecided.
abbrev pub SayingsFate : List (List LitOf) → Held → Assignment → List LratSaying → Option Fate → Type 0
SayingsFate C F x [] fate = fate ≡ None
SayingsFate C F x (IsClause id lits hints place ∷ ss) fate = ClauseFate F id lits hints place (SayingsFate C (added F id lits) x ss fate) fate
SayingsFate C F x (IsDelete ids ∷ ss) fate = SayingsFate C (deleted F ids) x ss fate
SayingsFate C F x (IsValue l ∷ ss) fate = SayingsFate C F (named x l) ss fate
SayingsFate C F x (IsValuesEnd ∷ ss) fate = ValuesFate C x fate
SayingsFate C F x (IsUnknown ∷ ss) fate = fate ≡ Some Unknown
SayingsFate C F x (IsFault f ∷ ss) fate = fate ≡ Some (Bad (cert_kind f.kind) f.byte)

-- the formula's clauses have the ids from 1
abbrev pub held_first : List (List LitOf) → Held
held_first C = record { live = numbered C; last = length C }

-- the fate of a stream's sayings, as a certificate of a formula
abbrev pub StreamFate : FormulaOf → List LratSaying → Option Fate → Type 0
StreamFate f ss fate = SayingsFate f.clauses (held_first f.clauses) unnamed ss fate

-- the fate of a stream's bytes, which are all where it ended
abbrev pub BytesFate : FormulaOf → Bool → List ℕ → Option Fate → Type 0
BytesFate f ended bytes fate = StreamFate f (sayings f.vars ended bytes) fate

-- the values that they name
abbrev pub values_named : ℕ → Bool → List ℕ → Assignment
values_named vars ended bytes = values_said (sayings vars ended bytes)
