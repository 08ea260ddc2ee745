-- A hinted certificate is found where white space or a line feed follows it.
use Rattle.std.proofs.Common.{◌≡◌, ℕ, ◌<◌, true, false, List, [], ◌∷◌, ◌++◌, length, Some, sym, subst, inl, inr, ◌⊎◌}
use Rattle.cnf_form.specs.Cnf.{LitOf, FormulaOf, Assignment}
use Rattle.cert_stream.specs.LratLines.{sayings}
use Rattle.cert_stream.specs.LratTelling.{LratSaying, IsClause, IsDelete, IsValue, IsValuesEnd, IsUnknown, IsFault}
use Rattle.cert_stream.proofs.LratGoingOn.{sayings_fed, sayings_parted}
use Rattle.sby_terms.specs.declared.names.Answer.{Answer}
use Rattle.cert_judge.specs.Values.{named, unnamed}
use Rattle.cert_judge.specs.Fate.{Found}
use Rattle.cert_judge.specs.Lrat.{BytesFate, StreamFate, SayingsFate, Held, added, deleted, first_bad, held_first}
use Rattle.cert_judge.specs.Kinds.{FateSoFar, FateOf}
use Rattle.cert_judge.specs.declared.stream.StreamKind.TheVariants.{Lrat}
use Rattle.cert_judge.specs.KindCert.{IsSpace}
use Rattle.cert_judge.proofs.DrupFollowing.{followed_by}
use Rattle.cert_judge.proofs.LratFates.{comes_more, hints_more, tried_more}

-- a certificate is found before UNKNOWN is said
found_before_unknown : (C : List (List LitOf)) (F : Held) (x : Assignment) (answer : Answer) (ss : List LratSaying) → SayingsFate C F x (ss ++ IsUnknown ∷ []) (Some (Found answer)) → SayingsFate C F x ss (Some (Found answer))
found_before_unknown C F x answer [] h = absurd (let e = h in cc)
found_before_unknown C F x answer (IsClause id c hints place ∷ ss) (inl h) = inl h
found_before_unknown C F x answer (IsClause id c hints place ∷ ss) (inr (l, b)) =
    inr (l, hints_more (first_bad F.live hints) _ _ (Some (Found answer)) (tried_more F.live c hints place _ _ (Some (Found answer)) (λ h. found_before_unknown C (added F id c) x answer ss h)) b)
found_before_unknown C F x answer (IsDelete ids ∷ ss) h = found_before_unknown C (deleted F ids) x answer ss h
found_before_unknown C F x answer (IsValue c ∷ ss) h = found_before_unknown C F (named x c) answer ss h
found_before_unknown C F x answer (IsValuesEnd ∷ ss) h = h
found_before_unknown C F x answer (IsUnknown ∷ ss) h = h
found_before_unknown C F x answer (IsFault f ∷ ss) h = h

module _ (f : FormulaOf) (answer : Answer) where
  abbrev Finds : List LratSaying → Type 0
  Finds ss = StreamFate f ss (Some (Found answer))

  found_followed : (bytes rest : List ℕ) (b : ℕ) → IsSpace b → Finds (sayings f.vars true bytes) → Finds (sayings f.vars false (bytes ++ b ∷ rest))
  found_followed bytes rest b (inr e) h =
      let w = sayings_fed f.vars bytes rest in
      let k : Finds (sayings f.vars false (bytes ++ 10 ∷ rest)) = subst Finds (sym w.1) (comes_more f.clauses (held_first f.clauses) unnamed (sayings f.vars true bytes) w.0 (Found answer) h) in
      subst (λ k. Finds (sayings f.vars false (bytes ++ k ∷ rest))) (sym e) k
  found_followed bytes rest b (inl s) h = parted (sayings_parted f.vars bytes rest b s)
    where
      parted : ((said : List LratSaying) × (more : List LratSaying) × (sayings f.vars false (bytes ++ b ∷ rest) ≡ said ++ more) × ((sayings f.vars true bytes ≡ said) ⊎ (sayings f.vars true bytes ≡ said ++ IsUnknown ∷ [])))
          → Finds (sayings f.vars false (bytes ++ b ∷ rest))
      parted (said, more, e, inl q) = subst Finds (sym e) (comes_more f.clauses (held_first f.clauses) unnamed said more (Found answer) (subst Finds q h))
      parted (said, more, e, inr q) =
          subst Finds (sym e) (comes_more f.clauses (held_first f.clauses) unnamed said more (Found answer) (found_before_unknown f.clauses (held_first f.clauses) unnamed answer said (subst Finds q h)))

  pub fate_followed : (bytes rest : List ℕ) (b most : ℕ) → IsSpace b → length bytes < most → FateOf Lrat f bytes most (Found answer) → FateSoFar Lrat f (bytes ++ b ∷ rest) most (Some (Found answer))
  fate_followed bytes rest b most s l fate = followed_by (BytesFate f) answer found_followed bytes rest b most s l fate
