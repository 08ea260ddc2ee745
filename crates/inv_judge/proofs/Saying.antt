-- What clauses over state bits say, clause by clause.
use Rattle.std.proofs.Common.{◌≡◌, ℕ, zero, suc, ◌+◌, ◌<◌, Bool, true, false, List, [], ◌∷◌, ◌++◌, Some, None, refl, sym, ap, ◌∙◌, subst, inl, inr, arith, length, take, add-one, append_assoc}
use Rattle.std.specs.Prelude.{Contains, Option, slice_get, slice_index_or}
use Rattle.std.specs.List.{flat_map}
use Rattle.cnf_form.specs.Cnf.{ClauseWithin, IsAdmitted, LitOf, LitWithin, negate}
use Rattle.cnf_form.proofs.Members.{Contains-empty}
use Rattle.std.proofs.lemmas.List.Elements.{Contains-append_cases, Contains-append_left, Contains-append_right, Contains-push, Contains-push_cases}
use Rattle.pair_form.specs.Pair.{PairOf, bit_at, bit_lits, IsPair, clause_over, clauses_over, lit_by, lit_of, lits_by, lits_over, signed}
use Rattle.pair_form.specs.declared.pair.Frame.{Frame}
use Rattle.pair_form.specs.declared.pair.Frame.TheVariants.{First, Second}
use Rattle.pair_form.specs.declared.pair.BitLits.{BitLits}
use Rattle.inv_fate.specs.Fate.{AreAdmitted}

pub lits_none : (negated : Bool) (o : Option LitOf) → o ≡ None → lits_by negated o ≡ []
lits_none negated o e = ap (lits_by negated) e

pub lits_one : (negated : Bool) (o : Option LitOf) (own said : LitOf) → o ≡ Some own → said ≡ signed negated own → lits_by negated o ≡ said ∷ []
lits_one negated o own said e s = ap (lits_by negated) e ∙ ap (λ (l : LitOf). l ∷ []) (sym s)

take_suc : {A : Type 0} (xs : List A) (k : ℕ) (x : A) → slice_get xs k ≡ Some x → take (suc k) xs ≡ take k xs ++ x ∷ []
take_suc [] k x e = absurd (let z : None ≡ Some x = e in cc)
take_suc {A = A} (y ∷ xs) zero x e = let same : y ≡ x = cc in ap (λ (z : A). z ∷ []) same
take_suc {A = A} (y ∷ xs) (suc k) x e = ap (λ (zs : List A). y ∷ zs) (take_suc xs k x e)

pub take_one : {A : Type 0} (xs : List A) (k : ℕ) (x : A) → slice_get xs k ≡ Some x → take (k + 1) xs ≡ take k xs ++ x ∷ []
take_one xs k x e = ap (λ (n : ℕ). take n xs) (add-one k) ∙ take_suc xs k x e

same_at : (xs : List LitOf) (j : ℕ) (d e : LitOf) → j < length xs → slice_index_or xs j d ≡ slice_index_or xs j e
same_at [] j d e lt = absurd (omega arith)
same_at (x ∷ xs) zero d e lt = refl
same_at (x ∷ xs) (suc j) d e lt = same_at xs j d e (omega arith)

pub flat_push : (f : LitOf → List LitOf) (xs : List LitOf) (x : LitOf) → flat_map f (xs ++ x ∷ []) ≡ flat_map f xs ++ f x
flat_push f [] x = append_end (f x)
  where
    append_end : (ys : List LitOf) → ys ++ [] ≡ ys
    append_end [] = refl
    append_end (y ∷ ys) = ap (λ (zs : List LitOf). y ∷ zs) (append_end ys)
flat_push f (y ∷ xs) x = ap (λ (zs : List LitOf). f y ++ zs) (flat_push f xs x) ∙ sym (append_assoc (f y) (flat_map f xs) (f x))

map_push : (p : PairOf) (t : Frame) (I : List (List LitOf)) (c : List LitOf) → clauses_over p t (I ++ c ∷ []) ≡ clauses_over p t I ++ clause_over p t c ∷ []
map_push p t [] c = refl
map_push p t (d ∷ I) c = ap (λ (zs : List (List LitOf)). clause_over p t d ∷ zs) (map_push p t I c)

-- one clause more
pub over_step : (p : PairOf) (t : Frame) (I : List (List LitOf)) (k : ℕ) (c : List LitOf) → slice_get I k ≡ Some c →
    clauses_over p t (take (k + 1) I) ≡ clauses_over p t (take k I) ++ clause_over p t c ∷ []
over_step p t I k c e = ap (clauses_over p t) (take_one I k c e) ∙ map_push p t (take k I) c

pub assumed_step : (p : PairOf) (t : Frame) (I : List (List LitOf)) (k : ℕ) (c said : List LitOf) (F old new : List (List LitOf)) → slice_get I k ≡ Some c →
    said ≡ clause_over p t c → old ≡ F ++ clauses_over p t (take k I) → new ≡ old ++ said ∷ [] → new ≡ F ++ clauses_over p t (take (k + 1) I)
assumed_step p t I k c said F old new at s before step =
    step ∙ ap (λ (zs : List (List LitOf)). zs ++ said ∷ []) before ∙ append_assoc F (clauses_over p t (take k I)) (said ∷ [])
    ∙ ap (λ (zs : List (List LitOf)). F ++ zs) (ap (λ (l : List LitOf). clauses_over p t (take k I) ++ l ∷ []) s ∙ sym (over_step p t I k c at))

-- what is said is of the pair's variables
within_by : (p : PairOf) (negated : Bool) (t : Frame) (o : Option BitLits) → ((b : BitLits) → o ≡ Some b → LitWithin p.formula.vars (lit_of t b)) → (l : LitOf) →
    Contains (lits_by negated (lit_by t o)) l → LitWithin p.formula.vars l
within_by p negated t None h l k = absurd (Contains-empty l k)
within_by p true t (Some b) h l k = one (h b refl) k
  where
    one : LitWithin p.formula.vars (lit_of t b) → Contains (negate (lit_of t b) ∷ []) l → LitWithin p.formula.vars l
    one w k = elim (Contains-push_cases [] (negate (lit_of t b)) l k) as (λ _. LitWithin p.formula.vars l) [
      | inl e ↦ absurd (Contains-empty l e)
      | inr e ↦ subst (LitWithin p.formula.vars) e w
    ]
within_by p false t (Some b) h l k = elim (Contains-push_cases [] (lit_of t b) l k) as (λ _. LitWithin p.formula.vars l) [
  | inl e ↦ absurd (Contains-empty l e)
  | inr e ↦ subst (LitWithin p.formula.vars) e (h b refl)
]

bit_within : (p : PairOf) → IsPair p → (t : Frame) (n : ℕ) (b : BitLits) → bit_at p n ≡ Some b → LitWithin p.formula.vars (lit_of t b)
bit_within p w First n b e = w.first n b e
bit_within p w Second n b e = w.second n b e

lits_within : (p : PairOf) → IsPair p → (t : Frame) (negated : Bool) (v : ℕ) (l : LitOf) → Contains (lits_by negated (bit_lits p t v)) l → LitWithin p.formula.vars l
lits_within p w t negated zero l k = absurd (Contains-empty l k)
lits_within p w t negated (suc n) l k = within_by p negated t (bit_at p n) (bit_within p w t n) l k

each_within : (p : PairOf) → IsPair p → (t : Frame) (c : List LitOf) (l : LitOf) → Contains (clause_over p t c) l → LitWithin p.formula.vars l
each_within p w t [] l k = absurd (Contains-empty l k)
each_within p w t (d ∷ c) l k = elim (Contains-append_cases (lits_over p t d) (clause_over p t c) l k) as (λ _. LitWithin p.formula.vars l) [
  | inl h ↦ lits_within p w t d.negated d.var l h
  | inr h ↦ each_within p w t c l h
]

pub said_within : (p : PairOf) → IsPair p → (t : Frame) (c said : List LitOf) → said ≡ clause_over p t c → ClauseWithin p.formula.vars said
said_within p w t c said e =
    subst (ClauseWithin p.formula.vars) (sym e) (λ j d lt. each_within p w t c _ (at (clause_over p t c) j d lt))
  where
    at : (xs : List LitOf) (j : ℕ) (d : LitOf) → j < length xs → Contains xs (slice_index_or xs j d)
    at xs j d lt = (j, lt, same_at xs j (slice_index_or xs j d) d lt)

-- what is admitted so far
pub admitted_none : (F : List (List LitOf)) (p : PairOf) (t : Frame) (I : List (List LitOf)) → AreAdmitted F (clauses_over p t (take 0 I))
admitted_none F p t I c k = absurd (Contains-empty c k)

pub admitted_step : (F : List (List LitOf)) (p : PairOf) (t : Frame) (I : List (List LitOf)) (k : ℕ) (c said : List LitOf) → slice_get I k ≡ Some c → said ≡ clause_over p t c →
    AreAdmitted F (clauses_over p t (take k I)) → IsAdmitted F said → AreAdmitted F (clauses_over p t (take (k + 1) I))
admitted_step F p t I k c said at s before here =
    subst (AreAdmitted F) (sym (over_step p t I k c at)) (λ d h.
    elim (Contains-push_cases (clauses_over p t (take k I)) (clause_over p t c) d h) as (λ _. IsAdmitted F d) [
      | inl e ↦ before d e
      | inr e ↦ subst (IsAdmitted F) (s ∙ e) here
    ])

in_over : (p : PairOf) (t : Frame) (I : List (List LitOf)) (k : ℕ) (c : List LitOf) → slice_get I k ≡ Some c → Contains (clauses_over p t I) (clause_over p t c)
in_over p t [] k c e = absurd (let z : None ≡ Some c = e in cc)
in_over p t (d ∷ I) zero c e = let same : d ≡ c = cc in Contains-append_left (clause_over p t d ∷ []) (clauses_over p t I) (clause_over p t c) (subst (λ (z : List LitOf). Contains (clause_over p t d ∷ []) (clause_over p t z)) same (Contains-push [] (clause_over p t d)))
in_over p t (d ∷ I) (suc k) c e = there (in_over p t I k c e)
  where
    there : Contains (clauses_over p t I) (clause_over p t c) → Contains (clause_over p t d ∷ clauses_over p t I) (clause_over p t c)
    there h = Contains-append_right (clause_over p t d ∷ []) (clauses_over p t I) (clause_over p t c) h

pub refused : (F : List (List LitOf)) (p : PairOf) (t : Frame) (I : List (List LitOf)) (k : ℕ) (c said : List LitOf) → slice_get I k ≡ Some c → said ≡ clause_over p t c →
    (IsAdmitted F said → ⊥) → AreAdmitted F (clauses_over p t I) → ⊥
refused F p t I k c said at s none all = none (subst (IsAdmitted F) (sym s) (all (clause_over p t c) (in_over p t I k c at)))

pub no_both : (b : Bool) → b ≡ false → b ≡ true → ⊥
no_both true n t = cc
no_both false n t = cc
