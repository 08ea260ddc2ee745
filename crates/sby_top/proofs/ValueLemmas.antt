-- The run that a stream names is that of its first bytes, where these show that the job can be solved.
use Rattle.std.proofs.Common.{◌≡◌, ℕ, ◌-◌, false, List, ◌++◌, Some, refl, ap, ◌∙◌, subst, inl, inr, length, take, append_assoc, arith}
use Rattle.std.proofs.lemmas.List.{take_all, take-append-le}
use Rattle.cnf_form.proofs.Reading.{IsDimacs-one}
use Rattle.cnf_form.specs.Cnf.{Assignment, FormulaOf}
use Rattle.cnf_form.specs.Dimacs.{IsDimacs}
use Rattle.btor_witness.specs.Grammar.{WitnessOf}
use Rattle.btor_witness.specs.Shape.{ShapeOf}
use Rattle.btor_witness.specs.Streams.{Holds, text_of}
use Rattle.cert_judge.proofs.Bounding.{sides, take_past}
use Rattle.cert_judge.proofs.KindFates.{values_stay as stay}
use Rattle.cert_judge.specs.Fate.{Found}
use Rattle.cert_judge.specs.Kinds.{FateSoFar, IsFateSoFar as IsCertFateSoFar, stream_values}
use Rattle.cert_judge.specs.declared.stream.Kind.{Kind}
use Rattle.cert_judge.specs.declared.stream.Kind.TheVariants.{Certificate, Witness, Invariant}
use Rattle.cert_judge.specs.declared.stream.StreamKind.{StreamKind}
use Rattle.design_meaning.specs.Runs.{CycleOf}
use Rattle.judge.proofs.Joining.{told_served}
use Rattle.judge.proofs.Problems.{formula_file, one_formula}
use Rattle.judge.proofs.StreamFates.{map_sought}
use Rattle.judge.specs.Fates.{IsFateSoFar, IsStreamsRun}
use Rattle.judge.specs.Played.{IsPlayed}
use Rattle.judge.specs.Problem.{AskedOf, IsJobFile}
use Rattle.judge.specs.Witness.{IsChosen, sought_in, witness_asked}
use Rattle.sby_terms.specs.declared.names.Answer.TheVariants.{Sat}
use Rattle.sby_terms.specs.declared.names.JobName.{JobName}
use Rattle.witness_judge.specs.Choosing.{shape_of}
use Rattle.witness_judge.specs.declared.sought.Sought.{Sought}

-- the values of bytes that were found to satisfy the formula of a file stay
values_stay : (kind : StreamKind) (file bytes rest : List ℕ) (most : ℕ) (f : FormulaOf) → IsDimacs file f → IsCertFateSoFar kind file bytes most (Some (Found Sat))
    → stream_values kind f.vars false bytes most ≡ stream_values kind f.vars false (bytes ++ rest) most
values_stay kind file bytes rest most f d (g, e, h) = stay kind f most bytes rest (subst (λ (x : FormulaOf). FateSoFar kind x bytes most (Some (Found Sat))) (IsDimacs-one file g f e d) h)

-- a witness stays, whatever follows
holds_more : (shape : ShapeOf) (bytes more : List ℕ) (x : WitnessOf) → Holds shape bytes x → Holds shape (bytes ++ more) x
holds_more shape bytes more x (lines, rest, cut, is) =
    (lines, rest ++ more, record { are = ap (λ (bs : List ℕ). bs ++ more) cut.are ∙ append_assoc (text_of lines) rest more; no_feed = cut.no_feed }, is)

witness_stays : (shape : ShapeOf) (bytes rest : List ℕ) (most : ℕ) (x : WitnessOf) → Holds shape (take most bytes) x → Holds shape (take most (bytes ++ rest)) x
witness_stays shape bytes rest most x h = elim (sides (length bytes) most) [
  | inl l ↦ rw (take_past most bytes rest l) (holds_more shape bytes (take (most - length bytes) rest) x (subst (λ (bs : List ℕ). Holds shape bs x) (take_all most bytes l) h))
  | inr l ↦ rw (take-append-le most bytes rest (omega (arith, l))) h
]

-- the job's run by a witness in these first bytes, for what is sought
abbrev IsRunFor : AskedOf → List ℕ → List CycleOf → Sought → Type 0
IsRunFor p bytes run s = (x : WitnessOf) × Holds (shape_of (witness_asked p s)) bytes x × IsChosen p s x run

pub run_stays : (p : AskedOf) (job : JobName) (kind : Kind) (bytes rest file : List ℕ) (most : ℕ) (run : List CycleOf) → IsJobFile p job file → IsFateSoFar p job kind file bytes most (Some (Found Sat))
    → IsStreamsRun p job kind false bytes most run → IsStreamsRun p job kind false (bytes ++ rest) most run
run_stays p job (Certificate kind) bytes rest file most run has (serves, fate) h =
    let is = formula_file p job file (told_served kind job serves) has in
    let same : is.0 ≡ h.0.formula = one_formula p job is.0 h.0.formula is.1 (h.0, h.1, refl) in
    let own : IsDimacs file h.0.formula = subst (IsDimacs file) same is.3 in
    (h.0, h.1, subst (λ (x : Assignment). IsPlayed p h.0 x run) (values_stay kind file bytes rest most h.0.formula own fate) h.2)
run_stays p job Witness bytes rest file most run is fate h =
    map_sought (sought_in p job) (IsRunFor p (take most bytes) run) (IsRunFor p (take most (bytes ++ rest)) run)
    (λ s found. (found.0, witness_stays (shape_of (witness_asked p s)) bytes rest most found.0 found.1, found.2)) h
run_stays p job Invariant bytes rest file most run has fate h = absurd h
