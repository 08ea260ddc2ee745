-- Pairs of one text have the same answers.
use Rattle.std.proofs.Common.{◌≡◌, ℕ, zero, suc, true, List, [], ◌∷◌, ◌++◌, length, refl, ap, sym, ◌∙◌, subst, inl, inr, arith}
use Rattle.std.specs.Prelude.{Option}
use Rattle.cnf_form.specs.Cnf.{FormulaOf, LitOf, Satisfies, lit_in}
use Rattle.cert_stream.specs.Telling.{IsClause, IsDelete, IsValue, IsValuesEnd, IsUnknown, IsFault as IsParseFault}
use Rattle.pair_form.specs.Pair.{IsSamePair, PairOf, bit_lits, clause_over, clauses_over, lit_by, lits_by, lits_over}
use Rattle.pair_form.specs.declared.pair.Frame.{Frame}
use Rattle.pair_form.specs.declared.pair.Frame.TheVariants.{First, Second}
use Rattle.inv_stream.specs.Machine.{InvSaying, IsFault, IsNext, Says}
use Rattle.inv_stream.specs.Telling.{sayings}
use Rattle.inv_stream.specs.declared.mode.Part.{Part}
use Rattle.inv_stream.specs.declared.mode.Part.TheVariants.{Head, Inv, Start, Step, Safe}
use Rattle.inv_fate.specs.Fate.{AreAdmitted, BytesFate, StreamFate, SayingsFate, InvFate, IsOverBits, after, opened, owed}
use Rattle.inv_fate.proofs.Finding.{Clauses}
use Rattle.cdcl_run.specs.Run.{World}
use Rattle.pdr_run.specs.Answer.{IsAnswer, IsInvariantStream}
use Rattle.pdr_run.specs.Breaking.{Breaks}
use Rattle.pdr_run.specs.Run.{Answers}
use Rattle.pdr_run.proofs.Certificates.{found_whole, invariant_stream}

same_back : (p q : PairOf) → IsSamePair p q → IsSamePair q p
same_back p q s = record { formula = sym s.formula; start = sym s.start; next = sym s.next; bad = sym s.bad; bits = λ n. sym (s.bits n) }

module _ (p q : PairOf) (s : IsSamePair p q) where
  lits_same : (t : Frame) (n : ℕ) → bit_lits p t n ≡ bit_lits q t n
  lits_same t zero = refl
  lits_same t (suc place) = ap (lit_by t) (s.bits place)

  clause_same : (t : Frame) (c : List LitOf) → clause_over p t c ≡ clause_over q t c
  clause_same t [] = refl
  clause_same t (l ∷ c) = ap (λ (ls : List LitOf). ls ++ clause_over p t c) (ap (lits_by l.negated) (lits_same t l.var)) ∙ ap (λ (ls : List LitOf). lits_over q t l ++ ls) (clause_same t c)

  clauses_same : (t : Frame) (I : Clauses) → clauses_over p t I ≡ clauses_over q t I
  clauses_same t [] = refl
  clauses_same t (c ∷ I) = let a = clause_same t c in let b = clauses_same t I in cc

  over_same : (c : List LitOf) → IsOverBits p c → IsOverBits q c
  over_same c h l k e = h l k (lits_same First l.var ∙ e)

  formula_same : p.formula.clauses ≡ q.formula.clauses
  formula_same = ap (λ (f : FormulaOf). f.clauses) s.formula

  opened_same : (part : Part) (I : Clauses) → opened p part I ≡ opened q part I
  opened_same Head I = refl
  opened_same Inv I = refl
  opened_same Start I = let f = formula_same in let e = s.start in cc
  opened_same Step I = let f = formula_same in let c = clauses_same First I in let e = s.next in cc
  opened_same Safe I = let f = formula_same in let c = clauses_same First I in let e = s.bad in cc

  owed_same : (part : Part) (I : Clauses) → owed p part I ≡ owed q part I
  owed_same Head I = refl
  owed_same Inv I = refl
  owed_same Start I = clauses_same First I
  owed_same Step I = clauses_same Second I
  owed_same Safe I = refl

module _ (p q : PairOf) (s : IsSamePair p q) where
  abbrev b : IsSamePair q p
  b = same_back p q s

  -- where another part begins
  moved : (part : Part) (I : Clauses) (ss : List InvSaying) (fate : Option InvFate) → SayingsFate q part I (opened p part I) ss fate → SayingsFate q part I (opened q part I) ss fate
  moved part I ss fate h = subst (λ (G : Clauses). SayingsFate q part I G ss fate) (opened_same p q s part I) h

  owes : (part : Part) (I F : Clauses) → AreAdmitted F (owed p part I) → AreAdmitted F (owed q part I)
  owes part I F a = subst (AreAdmitted F) (owed_same p q s part I) a

  owes_not : (part : Part) (I F : Clauses) → (AreAdmitted F (owed p part I) → ⊥) → AreAdmitted F (owed q part I) → ⊥
  owes_not part I F n a = n (subst (AreAdmitted F) (owed_same q p b part I) a)

  comes_same : (part : Part) (I F : Clauses) (ss : List InvSaying) (fate : Option InvFate) → SayingsFate p part I F ss fate → SayingsFate q part I F ss fate
  comes_same part I F [] fate h = h
  comes_same Head I F (IsNext place ∷ ss) fate h = moved Inv I ss fate (comes_same Inv I (opened p Inv I) ss fate h)
  comes_same Inv I F (IsNext place ∷ ss) fate h = moved Start I ss fate (comes_same Start I (opened p Start I) ss fate h)
  comes_same Start I F (IsNext place ∷ ss) fate (inl (a, h)) = inl (owes Start I F a, moved Step I ss fate (comes_same Step I (opened p Step I) ss fate h))
  comes_same Start I F (IsNext place ∷ ss) fate (inr (n, e)) = inr (owes_not Start I F n, e)
  comes_same Step I F (IsNext place ∷ ss) fate (inl (a, h)) = inl (owes Step I F a, moved Safe I ss fate (comes_same Safe I (opened p Safe I) ss fate h))
  comes_same Step I F (IsNext place ∷ ss) fate (inr (n, e)) = inr (owes_not Step I F n, e)
  comes_same Safe I F (IsNext place ∷ ss) fate h = h
  comes_same Head I F (Says (IsClause c place) ∷ ss) fate h = h
  comes_same Inv I F (Says (IsClause c place) ∷ ss) fate (inl (o, h)) = inl (over_same p q s c o, comes_same Inv (I ++ c ∷ []) F ss fate h)
  comes_same Inv I F (Says (IsClause c place) ∷ ss) fate (inr (n, e)) = inr (λ o. n (over_same q p b c o), e)
  comes_same Start I F (Says (IsClause c place) ∷ ss) fate (inl (a, h)) = inl (a, comes_same Start I (F ++ c ∷ []) ss fate h)
  comes_same Start I F (Says (IsClause c place) ∷ ss) fate (inr h) = inr h
  comes_same Step I F (Says (IsClause c place) ∷ ss) fate (inl (a, h)) = inl (a, comes_same Step I (F ++ c ∷ []) ss fate h)
  comes_same Step I F (Says (IsClause c place) ∷ ss) fate (inr h) = inr h
  comes_same Safe I F (Says (IsClause c place) ∷ ss) fate (inl h) = inl h
  comes_same Safe I F (Says (IsClause c place) ∷ ss) fate (inr (inl (a, n, h))) = inr (inl (a, n, comes_same Safe I (F ++ c ∷ []) ss fate h))
  comes_same Safe I F (Says (IsClause c place) ∷ ss) fate (inr (inr h)) = inr (inr h)
  comes_same part I F (Says (IsDelete c) ∷ ss) fate (G, d, h) = (G, d, comes_same part I G ss fate h)
  comes_same part I F (Says (IsValue l) ∷ ss) fate h = comes_same part I F ss fate h
  comes_same part I F (Says IsValuesEnd ∷ ss) fate h = comes_same part I F ss fate h
  comes_same part I F (Says IsUnknown ∷ ss) fate h = h
  comes_same part I F (Says (IsParseFault f) ∷ ss) fate h = h
  comes_same part I F (IsFault f ∷ ss) fate h = h

  bytes_same : (stream : List ℕ) (fate : Option InvFate) → BytesFate p true stream fate → BytesFate q true stream fate
  bytes_same stream fate h = subst (λ (f : FormulaOf). StreamFate q (sayings f.vars true stream) fate) s.formula (comes_same Head [] [] (sayings p.formula.vars true stream) fate h)

  invariant_same : (stream : List ℕ) → IsInvariantStream p stream → IsInvariantStream q stream
  invariant_same stream i =
      let n = length stream in
      invariant_stream q stream (bytes_same stream _ (found_whole p stream n (omega arith) (i.found n (omega arith))))

  breaks_same : (n : ℕ) → Breaks p n → Breaks q n
  breaks_same n h = record {
    cycles = h.cycles;
    some = h.some;
    formula = λ i l. subst (λ (f : FormulaOf). Satisfies (h.cycles i) f.clauses) s.formula (h.formula i l);
    start = subst (λ (l : LitOf). lit_in (h.cycles 0) l ≡ true) s.start h.start;
    follows = λ i l. record {
      next = subst (λ (m : LitOf). lit_in (h.cycles i) m ≡ true) s.next (h.follows i l).next;
      bits = λ place o at. (h.follows i l).bits place o (s.bits place ∙ at);
    };
    bad = λ i l. subst (λ (m : LitOf). lit_in (h.cycles i) m ≡ true) s.bad (h.bad i l);
  }

  answer_same : (budget : ℕ) (stream : List ℕ) (exit : ℕ) → IsAnswer p budget stream exit → IsAnswer q budget stream exit
  answer_same budget stream exit (inl w) = inl (w.0, invariant_same stream w.1)
  answer_same budget stream exit (inr (inl w)) = inr (inl w)
  answer_same budget stream exit (inr (inr (e, (n, few, breaks, is)))) = inr (inr (e, (n, few, breaks_same n breaks, is)))

  pub answers_same : (before after : World) (budget exit : ℕ) → Answers before after p budget exit → Answers before after q budget exit
  answers_same before after budget exit (inl (stream, taken, still, a)) = inl (stream, taken, still, answer_same budget stream exit a)
  answers_same before after budget exit (inr (e, (rose, (stream, other, some, a)))) = inr (e, (rose, (stream, other, some, answer_same budget stream other a)))
