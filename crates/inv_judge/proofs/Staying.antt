-- The fate of bytes is their fate with more bytes after them.
use Rattle.std.proofs.Common.{◌≡◌, ◌⊎◌, ℕ, ◌+◌, ◌-◌, ◌<◌, ◌≤◌, false, List, [], ◌++◌, length, length-append, take, Option, Some, None, refl, sym, ap, ◌∙◌, subst, inl, inr, arith, append_assoc}
use Rattle.std.proofs.lemmas.Bool.{cases_lt}
use Rattle.std.proofs.lemmas.List.{append-nil, take-append-le}
use Rattle.std.proofs.Math.Seq.{take-append-add}
use Rattle.pair_form.specs.Pair.{PairOf}
use Rattle.inv_stream.specs.Machine.{InvSaying, fault}
use Rattle.inv_stream.specs.Telling.{after, fault_said, fresh, said}
use Rattle.inv_stream.specs.declared.mode.InvFault.{InvFault}
use Rattle.inv_stream.specs.declared.mode.Part.TheVariants.{Head}
use Rattle.inv_stream.proofs.Cutting.{said_append}
use Rattle.inv_stream.proofs.Faults.{fault_stays}
use Rattle.inv_fate.specs.Fate.{Bad, BytesFate, StreamFate, InvFate, InvFateSoFar}
use Rattle.cert_judge.specs.declared.stream.CertKind.TheVariants.{TooLong}
use Rattle.inv_fate.proofs.Fates.{comes_more}
use Rattle.inv_judge.proofs.Quiet.{quiet_after_fault}

pub cases_le : (a b : ℕ) → (a ≤ b) ⊎ (b < a)
cases_le a b = elim (cases_lt b a) [ inl l ↦ inr l | inr l ↦ inl l ]

pub take_short : (most : ℕ) (bytes piece : List ℕ) → length bytes ≤ most → take most (bytes ++ piece) ≡ bytes ++ take (most - length bytes) piece
take_short most bytes piece l = ap (λ (n : ℕ). take n (bytes ++ piece)) (let e : most ≡ length bytes + (most - length bytes) = omega arith in e) ∙ take-append-add bytes piece (most - length bytes)

-- where there are more bytes than are taken
abbrev IsCut : PairOf → ℕ → List ℕ → Option InvFate → Type 0
IsCut p most front fate = ((y : InvFate) × BytesFate p false front (Some y) × (fate ≡ Some y)) ⊎ (BytesFate p false front None × (fate ≡ Some (Bad TooLong most)))

module _ (p : PairOf) (bytes : List ℕ) (x : InvFate) where
  comes_on : (more : List ℕ) → BytesFate p false bytes (Some x) → BytesFate p false (bytes ++ more) (Some x)
  comes_on more h = by (fault (after (fresh p.formula.vars) bytes)) refl
    where
      parted : said (fresh p.formula.vars) (bytes ++ more) ≡ said (fresh p.formula.vars) bytes ++ said (after (fresh p.formula.vars) bytes) more
      parted = said_append (fresh p.formula.vars) bytes more

      by : (o : Option InvFault) → fault (after (fresh p.formula.vars) bytes) ≡ o → BytesFate p false (bytes ++ more) (Some x)
      by None e =
          let last : List InvSaying = fault_said (fault (after (fresh p.formula.vars) (bytes ++ more))) in
          subst (λ (ss : List InvSaying). StreamFate p ss (Some x))
          (sym (append_assoc (said (fresh p.formula.vars) bytes) (said (after (fresh p.formula.vars) bytes) more) last) ∙ ap (λ (ss : List InvSaying). ss ++ last) (sym parted))
          (comes_more p Head [] [] (said (fresh p.formula.vars) bytes) (said (after (fresh p.formula.vars) bytes) more ++ last) x
          (subst (λ (ss : List InvSaying). StreamFate p ss (Some x)) (ap (λ (o : Option InvFault). said (fresh p.formula.vars) bytes ++ fault_said o) e ∙ append-nil (said (fresh p.formula.vars) bytes)) h))
      by (Some f) e =
          subst (λ (ss : List InvSaying). StreamFate p ss (Some x))
          (ap (λ (o : Option InvFault). said (fresh p.formula.vars) bytes ++ fault_said o) (e ∙ sym (fault_stays p.formula.vars f bytes more e))
          ∙ ap (λ (ss : List InvSaying). ss ++ fault_said (fault (after (fresh p.formula.vars) (bytes ++ more))))
          (sym (parted ∙ ap (λ (ss : List InvSaying). said (fresh p.formula.vars) bytes ++ ss) (quiet_after_fault p.formula.vars f bytes more e) ∙ append-nil (said (fresh p.formula.vars) bytes)))) h

  pub so_far_stays : (more : List ℕ) (most : ℕ) → InvFateSoFar p bytes most (Some x) → InvFateSoFar p (bytes ++ more) most (Some x)
  so_far_stays more most h = record {
    within = λ l. comes_on more (h.within (let k = length-append bytes more in omega arith));
    beyond = λ l. elim (cases_le (length bytes) most) [
      | inl k ↦ inl (x, subst (λ (all : List ℕ). BytesFate p false all (Some x)) (sym (take_short most bytes more k)) (comes_on (take (most - length bytes) more) (h.within k)), refl)
      | inr k ↦ subst (λ (all : List ℕ). IsCut p most all (Some x)) (sym (take-append-le most bytes more (let m : most ≤ length bytes = omega arith in m))) (h.beyond k)
    ];
  }
