-- What is kept of a stream's sayings, and the fate of more from there.
use Rattle.std.specs.Prelude.{◌≡◌, ◌⊎◌, ℕ, Bool, true, false, List, [], ◌∷◌, ◌++◌, Option, Some, None, Result, Ok, Err}
use Rattle.cnf_form.specs.Cnf.{LitOf, IsAdmitted}
use Rattle.cert_stream.specs.declared.feeding.Fed.{Fed}
use Rattle.drup_check.specs.declared.Added.{Added}
use Rattle.drup_check.specs.declared.Added.TheVariants.{Admitted, NotRup}
use Rattle.pair_form.specs.Pair.{PairOf, clauses_over}
use Rattle.pair_form.specs.declared.pair.Frame.{Frame}
use Rattle.inv_stream.specs.Machine.{InvSaying, Says, IsNext}
use Rattle.cert_stream.specs.Telling.{Saying}
use Rattle.inv_stream.specs.declared.mode.InvFault.{InvFault}
use Rattle.inv_stream.specs.declared.mode.Part.{Part}
use Rattle.inv_stream.specs.declared.mode.Part.TheVariants.{Head, Inv, Start, Step, Safe}
use Rattle.inv_fate.specs.Fate.{AreAdmitted, SayingsFate, InvFate, Found, Unknown, Bad, fault_kind, opened}
use Rattle.cert_judge.specs.declared.stream.CertKind.TheVariants.{NotInvariant}
use Rattle.inv_judge.specs.declared.stage.Proof.{Proof}
use Rattle.inv_judge.specs.declared.stage.Proof.TheVariants as proof
use Rattle.inv_judge.specs.declared.stage.Stage.{Stage}
use Rattle.inv_judge.specs.declared.stage.Stage.TheVariants as stage
use Rattle.inv_judge.specs.declared.outcome.InvOutcome.{InvOutcome}
use Rattle.inv_judge.specs.declared.outcome.InvOutcome.TheVariants as outcome

-- the pair, the part, the clauses of the invariant so far, those that are present, and the outcome once there is one
pub record ClaimOf : Type 0 where
  pub pair : PairOf
  pub part : Part
  pub invariant : List (List LitOf)
  pub present : List (List LitOf)
  pub outcome : Option InvOutcome

abbrev pub part_of_proof : Proof → Part
part_of_proof proof.Start = Start
part_of_proof proof.Step = Step
part_of_proof proof.Safe = Safe

abbrev pub part_of : Stage → Part
part_of stage.Head = Head
part_of stage.Inv = Inv
part_of (stage.Proves p checker) = part_of_proof p

abbrev pub present_of : Stage → List (List LitOf)
present_of stage.Head = []
present_of stage.Inv = []
present_of (stage.Proves p checker) = checker.clauses

-- a checker has the formula's variables
abbrev pub IsStage : ℕ → Stage → Type 0
IsStage vars stage.Head = Unit {0}
IsStage vars stage.Inv = Unit {0}
IsStage vars (stage.Proves p checker) = checker.vars ≡ vars

-- the fate that an outcome is
abbrev pub fate_of : InvOutcome → InvFate
fate_of outcome.Found = Found
fate_of outcome.Unknown = Unknown
fate_of (outcome.Bad b) = Bad b.kind b.at

abbrev pub fate_told : Option InvOutcome → Option InvFate
fate_told None = None
fate_told (Some o) = Some (fate_of o)

-- the fate of more sayings, from the claim on
abbrev pub FateFrom : ClaimOf → Option InvOutcome → List InvSaying → Option InvFate → Type 0
FateFrom c None ss fate = SayingsFate c.pair c.part c.invariant c.present ss fate
FateFrom c (Some o) ss fate = fate ≡ Some (fate_of o)

-- The sayings lead from the one claim to the other: the fate of more sayings from there is the fate of all.
pub record Leads (old : ClaimOf) (ss : List InvSaying) (new : ClaimOf) : Type 0 where
  pub pair : new.pair ≡ old.pair
  pub fate : (rest : List InvSaying) (fate : Option InvFate) → FateFrom new new.outcome rest fate → SayingsFate old.pair old.part old.invariant old.present (ss ++ rest) fate

-- a claim without an outcome hears a saying
abbrev pub Hears : ClaimOf → InvSaying → ClaimOf → Type 0
Hears old s new = old.outcome ≡ None → Leads old (s ∷ []) new

abbrev pub HearsSaying : ClaimOf → Saying → ClaimOf → Type 0
HearsSaying old s new = Hears old (Says s) new

abbrev pub HearsPart : ClaimOf → ℕ → ClaimOf → Type 0
HearsPart old place new = Hears old (IsNext place) new

abbrev pub with_outcome : ClaimOf → InvOutcome → ClaimOf
with_outcome c o = record c { outcome = Some o }

-- a fault is an outcome
abbrev pub concluded : ClaimOf → Result Fed InvFault → ClaimOf
concluded c (Ok fed) = c
concluded c (Err f) = with_outcome c (outcome.Bad (record { kind = fault_kind f.kind; at = f.byte }))

-- before anything is said
abbrev pub start : PairOf → ClaimOf
start p = record { pair = p; part = Head; invariant = []; present = []; outcome = None }

-- whether the part is a proof
abbrev pub is_proof : Part → Bool
is_proof Head = false
is_proof Inv = false
is_proof Start = true
is_proof Step = true
is_proof Safe = true

-- a clause that is asked of the present ones in a proof, and joins them where it is admitted
pub record Adds (part : Part) (old : List (List LitOf)) (lits : List LitOf) (new : List (List LitOf)) (added : Option Added) : Type 0 where
  pub none : added ≡ None → (is_proof part ≡ false) × (new ≡ old)
  pub admitted : added ≡ Some Admitted → (is_proof part ≡ true) × IsAdmitted old lits × (new ≡ old ++ lits ∷ [])
  pub refused : added ≡ Some NotRup → (is_proof part ≡ true) × (IsAdmitted old lits → ⊥) × (new ≡ old)

-- a proof's part begins
abbrev pub begun : ClaimOf → Proof → ClaimOf
begun c q = record c { part = part_of_proof q; present = opened c.pair (part_of_proof q) c.invariant }

-- another proof's part begins, if the clauses F admit the invariant's as they are said of a cycle
abbrev pub Passes : ClaimOf → List (List LitOf) → Frame → Proof → ℕ → ClaimOf → Type 0
Passes c F t q place new =
    (AreAdmitted F (clauses_over c.pair t c.invariant) × (new ≡ begun c q))
    ⊎ ((AreAdmitted F (clauses_over c.pair t c.invariant) → ⊥) × (new ≡ with_outcome c (outcome.Bad (record { kind = NotInvariant; at = place }))))
