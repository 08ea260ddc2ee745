-- A certificate is found where white space or a line feed follows it.
use Rattle.std.proofs.Common.{◌≡◌, ℕ, suc, ◌+◌, ◌-◌, ◌<◌, Bool, true, false, List, [], ◌∷◌, ◌++◌, length, take, Option, Some, None, refl, sym, subst, inl, inr, arith, ◌⊎◌}
use Rattle.std.proofs.Math.Seq.{take-append-add}
use Rattle.cnf_form.specs.Cnf.{LitOf, FormulaOf, Assignment}
use Rattle.cert_stream.specs.Stream.{sayings}
use Rattle.cert_stream.specs.Telling.{Saying, IsClause, IsDelete, IsValue, IsValuesEnd, IsUnknown, IsFault}
use Rattle.cert_stream.proofs.GoingOn.{sayings_fed, sayings_parted}
use Rattle.sby_terms.specs.declared.names.Answer.{Answer}
use Rattle.cert_judge.specs.Values.{named, unnamed}
use Rattle.cert_judge.specs.Fate.{Fate, FateBy, FateSoFarBy, Found, Bad}
use Rattle.cert_judge.specs.Drup.{BytesFate, StreamFate, SayingsFate}
use Rattle.cert_judge.specs.KindCert.{IsSpace}
use Rattle.cert_judge.specs.Kinds.{FateSoFar, FateOf}
use Rattle.cert_judge.specs.declared.stream.StreamKind.TheVariants.{Drup}
use Rattle.cert_judge.specs.declared.stream.CertKind.TheVariants.{EarlyEnd}
use Rattle.cert_judge.proofs.DrupFates.{comes_more}

-- a certificate is found before UNKNOWN is said
pub found_before_unknown : (C F : List (List LitOf)) (x : Assignment) (answer : Answer) (ss : List Saying) → SayingsFate C F x (ss ++ IsUnknown ∷ []) (Some (Found answer)) → SayingsFate C F x ss (Some (Found answer))
found_before_unknown C F x answer [] h = absurd (let e = h in cc)
found_before_unknown C F x answer (IsClause c place ∷ ss) (inl h) = inl h
found_before_unknown C F x answer (IsClause c place ∷ ss) (inr (inl (a, n, h))) = inr (inl (a, n, found_before_unknown C (F ++ c ∷ []) x answer ss h))
found_before_unknown C F x answer (IsClause c place ∷ ss) (inr (inr h)) = inr (inr h)
found_before_unknown C F x answer (IsDelete c ∷ ss) (G, d, h) = (G, d, found_before_unknown C G x answer ss h)
found_before_unknown C F x answer (IsValue c ∷ ss) h = found_before_unknown C F (named x c) answer ss h
found_before_unknown C F x answer (IsValuesEnd ∷ ss) h = h
found_before_unknown C F x answer (IsUnknown ∷ ss) h = h
found_before_unknown C F x answer (IsFault f ∷ ss) h = h

take_followed : (bytes rest : List ℕ) (b most : ℕ) → length bytes < most → (n : ℕ) × (take most (bytes ++ b ∷ rest) ≡ bytes ++ b ∷ take n rest)
take_followed bytes rest b most l =
    let n = most - (length bytes + 1) in
    let e : length bytes + suc n ≡ most = omega (arith, l) in
    (n, subst (λ k. take k (bytes ++ b ∷ rest) ≡ bytes ++ b ∷ take n rest) e (take-append-add bytes (b ∷ rest) (suc n)))

-- whatever tells the fate of bytes
module _ (comes : Bool → List ℕ → Option Fate → Type 0) (answer : Answer)
    (followed : (bytes rest : List ℕ) (b : ℕ) → IsSpace b → comes true bytes (Some (Found answer)) → comes false (bytes ++ b ∷ rest) (Some (Found answer))) where
  pub followed_by : (bytes rest : List ℕ) (b most : ℕ) → IsSpace b → length bytes < most → FateBy comes bytes most (Found answer) → FateSoFarBy comes (bytes ++ b ∷ rest) most (Some (Found answer))
  followed_by bytes rest b most s l fate = found (fate.within (omega (arith, l)))
    where
      found : comes true bytes (Some (Found answer)) ⊎ (comes true bytes None × (Found answer ≡ Bad EarlyEnd (length bytes))) → FateSoFarBy comes (bytes ++ b ∷ rest) most (Some (Found answer))
      found (inr (h, e)) = absurd (let g = e in cc)
      found (inl h) =
          let w = take_followed bytes rest b most l in
          record {
            within = λ _. followed bytes rest b s h;
            beyond = λ _. inl (Found answer, subst (λ z. comes false z (Some (Found answer))) (sym w.1) (followed bytes (take w.0 rest) b s h), refl);
          }

module _ (f : FormulaOf) (answer : Answer) where
  abbrev Finds : List Saying → Type 0
  Finds ss = StreamFate f ss (Some (Found answer))

  found_followed : (bytes rest : List ℕ) (b : ℕ) → IsSpace b → Finds (sayings f.vars true bytes) → Finds (sayings f.vars false (bytes ++ b ∷ rest))
  found_followed bytes rest b (inr e) h =
      let w = sayings_fed f.vars bytes rest in
      let k : Finds (sayings f.vars false (bytes ++ 10 ∷ rest)) = subst Finds (sym w.1) (comes_more f.clauses f.clauses unnamed (sayings f.vars true bytes) w.0 (Found answer) h) in
      subst (λ k. Finds (sayings f.vars false (bytes ++ k ∷ rest))) (sym e) k
  found_followed bytes rest b (inl s) h = parted (sayings_parted f.vars bytes rest b s)
    where
      parted : ((said : List Saying) × (more : List Saying) × (sayings f.vars false (bytes ++ b ∷ rest) ≡ said ++ more) × ((sayings f.vars true bytes ≡ said) ⊎ (sayings f.vars true bytes ≡ said ++ IsUnknown ∷ [])))
          → Finds (sayings f.vars false (bytes ++ b ∷ rest))
      parted (said, more, e, inl q) = subst Finds (sym e) (comes_more f.clauses f.clauses unnamed said more (Found answer) (subst Finds q h))
      parted (said, more, e, inr q) = subst Finds (sym e) (comes_more f.clauses f.clauses unnamed said more (Found answer) (found_before_unknown f.clauses f.clauses unnamed answer said (subst Finds q h)))

  pub fate_followed : (bytes rest : List ℕ) (b most : ℕ) → IsSpace b → length bytes < most → FateOf Drup f bytes most (Found answer) → FateSoFar Drup f (bytes ++ b ∷ rest) most (Some (Found answer))
  fate_followed bytes rest b most s l fate = followed_by (BytesFate f) answer found_followed bytes rest b most s l fate
