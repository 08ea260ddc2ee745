-- Fates of streams of every kind: one, some, and for good.
use Rattle.std.proofs.Common.{◌≡◌, ℕ, ◌-◌, ◌≤◌, Bool, true, false, List, [], ◌++◌, length, take, Some, None, sym, ap, ◌∙◌, subst, inl, inr, arith}
use Rattle.std.specs.Prelude.{Option}
use Rattle.std.proofs.lemmas.Bool.{le-leb, lt-leb}
use Rattle.std.proofs.lemmas.List.{append-nil, take_all, take-append-le}
use Rattle.cnf_form.specs.Cnf.{Assignment, FormulaOf, IsUnsatisfiable, Satisfies}
use Rattle.cnf_form.specs.Dimacs.{IsDimacs}
use Rattle.cnf_form.proofs.Reading.{IsDimacs-one}
use Rattle.proof_stream.specs.declared.spot.Form.TheVariants.{Text, Binary}
use Rattle.sby_terms.specs.declared.names.Answer.TheVariants.{Sat, Unsat}
use Rattle.cert_judge.specs.Fate.{Fate, Found}
use Rattle.cert_judge.specs.Kinds.{BytesFate, FateOf, FateSoFar, IsFate, IsFateSoFar, stream_values, values_named}
use Rattle.cert_judge.specs.declared.stream.StreamKind.{StreamKind}
use Rattle.cert_judge.specs.declared.stream.StreamKind.TheVariants.{Drup, Lrat, Proof, ProofBinary}
use Rattle.cert_judge.proofs.Bounding.{at_end_by, found_by, found_so_far_by, one_by, one_so_far_by, sides, somewhere_by, somewhere_so_far_by, stays_by, take_past, within_by}
use Rattle.cert_judge.proofs.DrupFates.{drup_laws}
use Rattle.cert_judge.proofs.FileFates.{file_laws, file_never}
use Rattle.cert_judge.proofs.KindLaws.{Laws}
use Rattle.cert_judge.proofs.LratFates.{lrat_laws}

-- the laws of each kind
pub laws : (kind : StreamKind) (f : FormulaOf) → Laws f (BytesFate kind f) (values_named kind f.vars)
laws Drup f = drup_laws f
laws Lrat f = lrat_laws f
laws Proof f = file_laws Text f
laws ProofBinary f = file_laws Binary f

module _ (kind : StreamKind) (f : FormulaOf) (most : ℕ) where
  abbrev come : Bool → List ℕ → Option Fate → Type 0
  come = BytesFate kind f

  comes_at_end : (bytes : List ℕ) (x : Fate) → come false bytes (Some x) → come true bytes (Some x)
  comes_at_end bytes x h = subst (λ z. come true z (Some x)) (append-nil bytes) ((laws kind f).on true bytes [] x h)

  pub fate_stays : (bytes rest : List ℕ) (x : Fate) → FateSoFar kind f bytes most (Some x) → FateSoFar kind f (bytes ++ rest) most (Some x)
  fate_stays = stays_by come most ((laws kind f).on false)

  pub fate_at_end : (bytes : List ℕ) (x : Fate) → FateSoFar kind f bytes most (Some x) → FateOf kind f bytes most x
  fate_at_end = at_end_by come most comes_at_end

  one_fate_so_far : (bytes : List ℕ) (x y : Option Fate) → FateSoFar kind f bytes most x → FateSoFar kind f bytes most y → x ≡ y
  one_fate_so_far = one_so_far_by come most (laws kind f).once

  one_fate : (bytes : List ℕ) (x y : Fate) → FateOf kind f bytes most x → FateOf kind f bytes most y → x ≡ y
  one_fate = one_by come most (laws kind f).once

  pub refuted_so_far : (bytes : List ℕ) → FateSoFar kind f bytes most (Some (Found Unsat)) → IsUnsatisfiable f.clauses
  refuted_so_far = found_so_far_by come most Unsat (laws kind f).refuted

  pub refuted_at_end : (bytes : List ℕ) → FateOf kind f bytes most (Found Unsat) → IsUnsatisfiable f.clauses
  refuted_at_end = found_by come most Unsat (laws kind f).refuted

  pub satisfied_at_end : (bytes : List ℕ) → FateOf kind f bytes most (Found Sat) → (x : Assignment) × Satisfies x f.clauses
  satisfied_at_end = found_by come most Sat (laws kind f).satisfied

  pub somewhere_so_far : (bytes : List ℕ) → ((x : Option Fate) → FateSoFar kind f bytes most x → ⊥) → ⊥
  somewhere_so_far = somewhere_so_far_by come most (laws kind f).somewhere

  pub somewhere_at_end : (bytes : List ℕ) → ((x : Fate) → FateOf kind f bytes most x → ⊥) → ⊥
  somewhere_at_end = somewhere_by come most (laws kind f).somewhere

  pub within_so_far : (bytes : List ℕ) → FateSoFar kind f bytes most None → length bytes ≤ most
  within_so_far = within_by come most

  -- the values of bytes that were found to satisfy the formula stay
  abbrev named : Bool → List ℕ → Assignment
  named = values_named kind f.vars

  pub values_stay : (bytes rest : List ℕ) → FateSoFar kind f bytes most (Some (Found Sat)) → stream_values kind f.vars false bytes most ≡ stream_values kind f.vars false (bytes ++ rest) most
  values_stay bytes rest h =
      elim (sides (length bytes) most) [
        | inl l ↦
            ap (named false) (take_all most bytes l) ∙ sym ((laws kind f).named false bytes (take (most - length bytes) rest) (h.within l)) ∙ ap (named false) (sym (take_past most bytes rest l))
        | inr l ↦ ap (named false) (sym (take-append-le most bytes rest (omega arith)))
      ]

  pub values_at_end : (bytes : List ℕ) → FateSoFar kind f bytes most (Some (Found Sat)) → stream_values kind f.vars false bytes most ≡ stream_values kind f.vars true bytes most
  values_at_end bytes h =
      elim (sides (length bytes) most) [
        | inl l ↦
            ap (named false) (take_all most bytes l)
            ∙ sym (ap (named true) (sym (append-nil bytes)) ∙ (laws kind f).named true bytes [] (h.within l))
            ∙ ap (named true) (sym (take_all most bytes l))
            ∙ ap (λ b. named b (take most bytes)) (sym (le-leb (length bytes) most l))
        | inr l ↦ ap (λ b. named b (take most bytes)) (sym (lt-leb (length bytes) most l))
      ]

-- of the formula that a job's file is
pub so_far_stays : (kind : StreamKind) (job bytes rest : List ℕ) (most : ℕ) (fate : Fate) → IsFateSoFar kind job bytes most (Some fate) → IsFateSoFar kind job (bytes ++ rest) most (Some fate)
so_far_stays kind job bytes rest most fate (f, d, h) = (f, d, fate_stays kind f most bytes rest fate h)

pub at_end : (kind : StreamKind) (job stream : List ℕ) (most : ℕ) (fate : Fate) → IsFateSoFar kind job stream most (Some fate) → IsFate kind job stream most fate
at_end kind job stream most fate (f, d, h) = (f, d, fate_at_end kind f most stream fate h)

pub stays : (kind : StreamKind) (job bytes rest : List ℕ) (most : ℕ) (fate : Fate) → IsFateSoFar kind job bytes most (Some fate) → IsFate kind job (bytes ++ rest) most fate
stays kind job bytes rest most fate h = at_end kind job (bytes ++ rest) most fate (so_far_stays kind job bytes rest most fate h)

pub one_whole : (kind : StreamKind) (job stream : List ℕ) (most : ℕ) (x y : Fate) → IsFate kind job stream most x → IsFate kind job stream most y → x ≡ y
one_whole kind job stream most x y (f, d, h) (g, e, k) =
    one_fate kind g most stream x y (subst (λ (z : FormulaOf). FateOf kind z stream most x) (IsDimacs-one job f g d e) h) k

pub one_so_far : (kind : StreamKind) (job bytes : List ℕ) (most : ℕ) (x y : Option Fate) → IsFateSoFar kind job bytes most x → IsFateSoFar kind job bytes most y → x ≡ y
one_so_far kind job bytes most x y (f, d, h) (g, e, k) =
    one_fate_so_far kind g most bytes x y (subst (λ (z : FormulaOf). FateSoFar kind z bytes most x) (IsDimacs-one job f g d e) h) k

pub found_refuted : (kind : StreamKind) (job stream : List ℕ) (most : ℕ) (f : FormulaOf) → IsDimacs job f → IsFate kind job stream most (Found Unsat) → IsUnsatisfiable f.clauses
found_refuted kind job stream most f d (g, e, h) =
    refuted_at_end kind f most stream (subst (λ (z : FormulaOf). FateOf kind z stream most (Found Unsat)) (IsDimacs-one job g f e d) h)

pub found_satisfied : (kind : StreamKind) (job stream : List ℕ) (most : ℕ) (f : FormulaOf) → IsDimacs job f → IsFate kind job stream most (Found Sat) → (x : Assignment) × Satisfies x f.clauses
found_satisfied kind job stream most f d (g, e, h) =
    satisfied_at_end kind f most stream (subst (λ (z : FormulaOf). FateOf kind z stream most (Found Sat)) (IsDimacs-one job g f e d) h)

pub within_most : (kind : StreamKind) (job bytes : List ℕ) (most : ℕ) → IsFateSoFar kind job bytes most None → length bytes ≤ most
within_most kind job bytes most (f, d, h) = within_so_far kind f most bytes h

pub proof_never_satisfied : (job stream : List ℕ) (most : ℕ) → IsFate Proof job stream most (Found Sat) → ⊥
proof_never_satisfied job stream most (f, d, h) = found_by (BytesFate Proof f) most Sat (file_never Text f) stream h

pub binary_never_satisfied : (job stream : List ℕ) (most : ℕ) → IsFate ProofBinary job stream most (Found Sat) → ⊥
binary_never_satisfied job stream most (f, d, h) = found_by (BytesFate ProofBinary f) most Sat (file_never Binary f) stream h
