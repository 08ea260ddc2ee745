-- Fates of outputs: one, and for good.
use Rattle.std.proofs.Common.{◌≡◌, ℕ, Bool, true, false, List, [], ◌∷◌, ◌++◌, length, take, Option, Some, refl, ap, sym, ◌∙◌, inl, inr, subst}
use Rattle.cnf_form.specs.Cnf.{Assignment, FormulaOf, IsUnsatisfiable, LitOf, Satisfies}
use Rattle.cnf_form.specs.Dimacs.{IsDimacs}
use Rattle.cert_stream.specs.Telling.{Saying, IsClause, IsDelete, IsValue, IsValuesEnd, IsUnknown, IsFault}
use Rattle.cert_stream.specs.Stream.{sayings}
use Rattle.cert_stream.specs.declared.mode.ParseFaultKind.{ParseFaultKind}
use Rattle.cert_stream.specs.declared.mode.ParseFaultKind.TheVariants.{BadLine as BadLineFault, BadLiteral as BadLiteralFault, LineTooLong as LineTooLongFault}
use Rattle.cert_judge.specs.Fate.{Fate, Found, Unknown, Bad, cert_kind}
use Rattle.cert_judge.specs.Drup.{SayingsFate}
use Rattle.cert_judge.specs.Kinds.{FateSoFar, IsFate}
use Rattle.cert_judge.specs.declared.stream.StreamKind.TheVariants.{Drup}
use Rattle.sby_terms.specs.declared.names.Answer.{Answer}
use Rattle.sby_terms.specs.declared.names.Answer.TheVariants.{Sat, Unsat}
use Rattle.cert_judge.specs.declared.stream.CertKind.TheVariants.{BadLine, BadLiteral, LineTooLong, NotRup, NotSatisfying, NotPlaying, TooLong, EarlyEnd, BadWitness, BadId, BadHint, NotHinted, BadPart, NotInvariant}
use Rattle.cert_judge.specs.Values.{named, unnamed}
use Rattle.cert_judge.proofs.Bounding.{some_same}
use Rattle.cert_judge.proofs.Bounding.{sides}
use Rattle.cert_judge.proofs.KindFates.{fate_at_end, fate_stays, found_refuted, found_satisfied, one_whole}
use Rattle.cert_judge.specs.OutputFate.{IsOutputFate, IsOutputFateSoFar, own_fate}
use Rattle.cert_judge.specs.Output.{has_values, stream_of}
use Rattle.cert_judge.specs.Spots.{given, given_at_end, spot_after}
use Rattle.cert_judge.specs.declared.spot.Spot.TheVariants.{Start}
use Rattle.cert_judge.proofs.OutputFeeding.{given_append}
use Rattle.cert_judge.proofs.OutputReading.{given_is, given_whole}

pub read_more : (bytes rest : List ℕ) → (more : List ℕ) × (stream_of false (bytes ++ rest) ≡ stream_of false bytes ++ more)
read_more bytes rest =
    (given (spot_after Start bytes) rest, sym (given_is (bytes ++ rest)) ∙ given_append Start bytes rest ∙ ap (λ z. z ++ given (spot_after Start bytes) rest) (given_is bytes))

pub read_end : (bytes : List ℕ) → (more : List ℕ) × (stream_of true bytes ≡ stream_of false bytes ++ more)
read_end bytes = (given_at_end (spot_after Start bytes), sym (given_whole bytes) ∙ ap (λ z. z ++ given_at_end (spot_after Start bytes)) (given_is bytes))

-- no stream ends early by what it says
abbrev pub IsLate : Fate → Type 0
IsLate x = (values : Bool) → own_fate values x ≡ Some x

found_late : (answer : Answer) → IsLate (Found answer)
found_late answer true = refl
found_late answer false = refl

unknown_late : IsLate Unknown
unknown_late true = refl
unknown_late false = refl

fault_late : (kind : ParseFaultKind) (n : ℕ) → IsLate (Bad (cert_kind kind) n)
fault_late BadLineFault n true = refl
fault_late BadLineFault n false = refl
fault_late BadLiteralFault n true = refl
fault_late BadLiteralFault n false = refl
fault_late LineTooLongFault n true = refl
fault_late LineTooLongFault n false = refl

not_rup_late : (n : ℕ) → IsLate (Bad NotRup n)
not_rup_late n true = refl
not_rup_late n false = refl

not_satisfying_late : (n : ℕ) → IsLate (Bad NotSatisfying n)
not_satisfying_late n true = refl
not_satisfying_late n false = refl

pub too_long_late : (n : ℕ) → IsLate (Bad TooLong n)
too_long_late n true = refl
too_long_late n false = refl

late : (x y : Fate) → (let o : Option Fate = Some x in o) ≡ Some y → IsLate y → IsLate x
late x y e h = subst IsLate (sym (some_same x y e)) h

pub comes_late : (C F : List (List LitOf)) (v : Assignment) (ss : List Saying) (x : Fate) → SayingsFate C F v ss (Some x) → IsLate x
comes_late C F v [] x e = absurd (let k = e in cc)
comes_late C F v (IsClause lits place ∷ ss) x (inl (a, n, e)) = late x (Found _) e (found_late _)
comes_late C F v (IsClause lits place ∷ ss) x (inr (inl (a, n, h))) = comes_late C (F ++ lits ∷ []) v ss x h
comes_late C F v (IsClause lits place ∷ ss) x (inr (inr (a, e))) = late x (Bad NotRup place) e (not_rup_late place)
comes_late C F v (IsDelete lits ∷ ss) x (G, d, h) = comes_late C G v ss x h
comes_late C F v (IsValue l ∷ ss) x h = comes_late C F (named v l) ss x h
comes_late C F v (IsValuesEnd ∷ ss) x (inl (s, e)) = late x (Found Sat) e (found_late Sat)
comes_late C F v (IsValuesEnd ∷ ss) x (inr (n, f, e)) = late x (Bad NotSatisfying n) e (not_satisfying_late n)
comes_late C F v (IsUnknown ∷ ss) x e = late x Unknown e unknown_late
comes_late C F v (IsFault f ∷ ss) x e = late x (Bad (cert_kind f.kind) f.byte) e (fault_late f.kind f.byte)

pub so_far_late : (f : FormulaOf) (bytes : List ℕ) (most : ℕ) (x : Fate) → FateSoFar Drup f bytes most (Some x) → IsLate x
so_far_late f bytes most x h =
    elim (sides (length bytes) most) [
      | inl l ↦ comes_late f.clauses f.clauses unnamed (sayings f.vars false bytes) x (h.within l)
      | inr l ↦ elim (h.beyond l) [
        | inl (y, c, e) ↦ late x y e (comes_late f.clauses f.clauses unnamed (sayings f.vars false (take most bytes)) y c)
        | inr (c, e) ↦ late x (Bad TooLong most) e (too_long_late most)
      ]
    ]

pub output_fate : (job bytes : List ℕ) (most : ℕ) (x y : Option Fate) → IsOutputFate job bytes most x → IsOutputFate job bytes most y → x ≡ y
output_fate job bytes most x y (v, h, e) (w, k, i) = e ∙ ap (own_fate (has_values bytes)) (one_whole Drup job (stream_of true bytes) most v w h k) ∙ sym i

pub output_stays : (job bytes rest : List ℕ) (most : ℕ) (x : Fate) → IsOutputFateSoFar job bytes most (Some x) → IsOutputFateSoFar job (bytes ++ rest) most (Some x)
output_stays job bytes rest most x (f, d, h) =
    let m = read_more bytes rest in
    (f, d, subst (λ t. FateSoFar Drup f t most (Some x)) (sym m.1) (fate_stays Drup f most (stream_of false bytes) m.0 x h))

pub output_at_end : (job bytes : List ℕ) (most : ℕ) (x : Fate) → IsOutputFateSoFar job bytes most (Some x) → IsOutputFate job bytes most (Some x)
output_at_end job bytes most x (f, d, h) =
    let m = read_end bytes in (
      x,
      (f, d, fate_at_end Drup f most (stream_of true bytes) x (subst (λ t. FateSoFar Drup f t most (Some x)) (sym m.1) (fate_stays Drup f most (stream_of false bytes) m.0 x h))),
      sym (so_far_late f (stream_of false bytes) most x h (has_values bytes)),
    )

-- an own fate is the stream's
pub own_same : (values : Bool) (x y : Fate) → Some y ≡ own_fate values x → x ≡ y
own_same true x y e = some_same x y (sym e)
own_same false (Found a) y e = some_same (Found a) y (sym e)
own_same false Unknown y e = some_same Unknown y (sym e)
own_same false (Bad BadLine n) y e = some_same (Bad BadLine n) y (sym e)
own_same false (Bad BadLiteral n) y e = some_same (Bad BadLiteral n) y (sym e)
own_same false (Bad LineTooLong n) y e = some_same (Bad LineTooLong n) y (sym e)
own_same false (Bad NotRup n) y e = some_same (Bad NotRup n) y (sym e)
own_same false (Bad NotSatisfying n) y e = some_same (Bad NotSatisfying n) y (sym e)
own_same false (Bad NotPlaying n) y e = some_same (Bad NotPlaying n) y (sym e)
own_same false (Bad TooLong n) y e = some_same (Bad TooLong n) y (sym e)
own_same false (Bad EarlyEnd n) y e = absurd (let k = e in cc)
own_same false (Bad BadWitness n) y e = some_same (Bad BadWitness n) y (sym e)
own_same false (Bad BadId n) y e = some_same (Bad BadId n) y (sym e)
own_same false (Bad BadHint n) y e = some_same (Bad BadHint n) y (sym e)
own_same false (Bad NotHinted n) y e = some_same (Bad NotHinted n) y (sym e)
own_same false (Bad BadPart n) y e = some_same (Bad BadPart n) y (sym e)
own_same false (Bad NotInvariant n) y e = some_same (Bad NotInvariant n) y (sym e)

pub output_satisfied : (job bytes : List ℕ) (most : ℕ) (f : FormulaOf) → IsDimacs job f → IsOutputFate job bytes most (Some (Found Sat)) → (x : Assignment) × Satisfies x f.clauses
output_satisfied job bytes most f d (x, h, e) =
    found_satisfied Drup job (stream_of true bytes) most f d (subst (IsFate Drup job (stream_of true bytes) most) (own_same (has_values bytes) x (Found Sat) e) h)

pub output_refuted : (job bytes : List ℕ) (most : ℕ) (f : FormulaOf) → IsDimacs job f → IsOutputFate job bytes most (Some (Found Unsat)) → IsUnsatisfiable f.clauses
output_refuted job bytes most f d (x, h, e) =
    found_refuted Drup job (stream_of true bytes) most f d (subst (IsFate Drup job (stream_of true bytes) most) (own_same (has_values bytes) x (Found Unsat) e) h)
