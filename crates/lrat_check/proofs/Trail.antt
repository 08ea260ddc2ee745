-- A table of marks and the list of what is marked in it.
use Rattle.std.proofs.Common.{◌≡◌, ◌≢◌, ℕ, suc, ◌<◌, ◌≤◌, ◌+◌, ◌*◌, add-one, drop-cons, Bool, true, false, not, cond, List, [], ◌∷◌, ◌++◌, map, length, get_or, set, take, drop, refl, sym, ◌∙◌, ap, subst, inl, inr, arith}
use Rattle.std.specs.Prelude.{Contains, All}
use Rattle.std.proofs.lemmas.Bool.{both_ways, cases_Bool}
use Rattle.std.proofs.lemmas.List.{get_or-set_same, get_or-set_other, length-set, map-append, drop_all}
use Rattle.std.proofs.lemmas.List.Elements.{All-nil, All-push, All-contains, Contains-push, Contains-push_cases, Contains-append_left}
use Rattle.cnf_form.specs.Cnf.{LitOf, negate, index_of}
use Rattle.cnf_form.proofs.Literals.{index_of-injective, lit_cases, negate-negate}
use Rattle.cnf_form.proofs.Members.{Contains-empty, Contains-cases, Contains-map, Contains-map_from, take_one_more, Contains-read}
use Rattle.lrat_check.specs.Hints.{IsContradictory}
use Rattle.lrat_check.specs.Marks.{is_marked, HasPlaces, Marks, IsClear, IsConsistent}
use Rattle.lrat_check.proofs.Scan.{Contains-take}

sign_room : (v n : ℕ) (a : Bool) → 2 * v + 1 < n → 2 * v + cond a 1 0 < n
sign_room v n true h = omega arith
sign_room v n false h = omega arith

pub index_room : (l : LitOf) (n : ℕ) → 2 * l.var + 1 < n → index_of l < n
index_room l n h = sign_room l.var n l.negated h

not_same : (b : Bool) → not b ≡ b → ⊥
not_same true h = cc
not_same false h = cc

pub negate-differs : (l : LitOf) → negate l ≡ l → ⊥
negate-differs l h = not_same l.negated (ap (λ (m : LitOf). m.negated) h)

module _ (marks : List Bool) (l : LitOf) (v : Bool) (room : HasPlaces marks l) where
  pub marked_here : is_marked (set marks (index_of l) v) l ≡ v
  marked_here = get_or-set_same marks (index_of l) v false (index_room l (length marks) room)

  pub marked_other : (m : LitOf) → m ≢ l → is_marked (set marks (index_of l) v) m ≡ is_marked marks m
  marked_other m d = get_or-set_other marks (index_of l) (index_of m) v false (λ e. d (index_of-injective m l e))

pub places_kept : (marks : List Bool) (i : ℕ) (v : Bool) (L : List LitOf) → All (HasPlaces marks) L → All (HasPlaces (set marks i v)) L
places_kept marks i v L h k d in' = subst (λ n. 2 * (get_or L k d).var + 1 < n) (sym (length-set marks i v)) (h k d in')

-- one more literal is marked
pub Marks-push : (marks : List Bool) (L : List LitOf) (l : LitOf) → Marks marks L → HasPlaces marks l → Marks (set marks (index_of l) true) (L ++ l ∷ [])
Marks-push marks L l m room = record {
  marked = λ k h. elim (lit_cases k l) [
    | inl e ↦ subst (λ z. is_marked (set marks (index_of l) true) z ≡ true) (sym e) (marked_here marks l true room)
    | inr d ↦ marked_other marks l true room k d ∙ m.marked k (before k d h)
  ];
  only = λ k h. elim (lit_cases k l) [
    | inl e ↦ subst (Contains (L ++ l ∷ [])) (sym e) (Contains-push L l)
    | inr d ↦ Contains-append_left L (l ∷ []) k (m.only k (sym (marked_other marks l true room k d) ∙ h))
  ];
  places = places_kept marks (index_of l) true (L ++ l ∷ []) (All-push (HasPlaces marks) L l m.places room);
}
  where
    before : (k : LitOf) → k ≢ l → Contains (L ++ l ∷ []) k → Contains L k
    before k d h = elim (Contains-push_cases L l k h) [ inl h ↦ h | inr e ↦ absurd (d (sym e)) ]

pub Marks-none : (marks : List Bool) → IsClear marks → Marks marks []
Marks-none marks clear = record {
  marked = λ l h. absurd (Contains-empty l h);
  only = λ l h. absurd (both_ways _ (clear l) h);
  places = All-nil (HasPlaces marks);
}

-- what is still marked, after some of the list's marks went
pub record Unmarking (marks : List Bool) (L : List LitOf) (i : ℕ) : Type 0 where
  pub rest : (l : LitOf) → is_marked marks l ≡ true → Contains (drop i L) l
  pub places : All (HasPlaces marks) L

pub unmarking_all : (marks : List Bool) (L : List LitOf) → Marks marks L → Unmarking marks L 0
unmarking_all marks L m = record { rest = λ l h. m.only l h; places = m.places }

pub unmarking_more : (marks : List Bool) (L : List LitOf) (i : ℕ) (l : LitOf) → i < length L → l ≡ get_or L i l → Unmarking marks L i → Unmarking (set marks (index_of l) false) L (i + 1)
unmarking_more marks L i l h is u =
    let room : HasPlaces marks l = All-contains (HasPlaces marks) L l u.places (Contains-read L i l h is) in
    let split : drop i L ≡ l ∷ drop (i + 1) L = rw (add-one, drop-cons L i l h) (ap (λ z. z ∷ drop (suc i) L) (sym is)) in
    record {
      rest = λ k p. elim (lit_cases k l) [
        | inl e ↦ absurd (both_ways _ (subst (λ z. is_marked (set marks (index_of l) false) z ≡ false) (sym e) (marked_here marks l false room)) p)
        | inr d ↦ elim (Contains-cases l k (drop (i + 1) L) (subst (λ z. Contains z k) split (u.rest k (sym (marked_other marks l false room k d) ∙ p)))) [
          | inl e ↦ absurd (d (sym e))
          | inr h ↦ h
        ]
      ];
      places = places_kept marks (index_of l) false L u.places;
    }

pub unmarked_all : (marks : List Bool) (L : List LitOf) (i : ℕ) → length L ≤ i → Unmarking marks L i → IsClear marks
unmarked_all marks L i h u l = elim (cases_Bool (is_marked marks l)) [
  | inl t ↦ absurd (Contains-empty l (subst (λ z. Contains z l) (drop_all i L h) (u.rest l t)))
  | inr f ↦ f
]

-- no literal joins its own negation
pub consistent_push : (L : List LitOf) (l : LitOf) → IsConsistent L → (Contains L (negate l) → ⊥) → IsConsistent (L ++ l ∷ [])
consistent_push L l ok left = record {
  apart = λ k h n. elim (Contains-push_cases L l k h) [
    | inl h ↦ elim (Contains-push_cases L l (negate k) n) [
      | inl n ↦ ok.apart k h n
      | inr e ↦ left (subst (Contains L) (sym (ap negate e ∙ negate-negate k)) h)
    ]
    | inr e ↦ elim (Contains-push_cases L l (negate k) n) [
      | inl n ↦ left (subst (λ z. Contains L (negate z)) (sym e) n)
      | inr f ↦ negate-differs k (sym f ∙ e)
    ]
  ];
}

pub consistent_none : IsConsistent []
consistent_none = record { apart = λ l h n. Contains-empty l h }

-- the negations of the literals so far are marked
pub record Assuming (clause : List LitOf) (i : ℕ) (marks : List Bool) (L : List LitOf) : Type 0 where
  pub marked : Marks marks L
  pub negations : L ≡ map negate (take i clause)
  pub consistent : IsConsistent L

pub assuming_none : (clause : List LitOf) (marks : List Bool) (L : List LitOf) → IsClear marks → L ≡ [] → Assuming clause 0 marks L
assuming_none clause marks L clear e = subst (Assuming clause 0 marks) (sym e) (record { marked = Marks-none marks clear; negations = refl; consistent = consistent_none })

pub assuming_more : (clause : List LitOf) (i : ℕ) (marks marks' : List Bool) (L L' : List LitOf) (l : LitOf) → i < length clause → l ≡ get_or clause i l
    → Assuming clause i marks L → is_marked marks l ≡ false → Marks marks' L' → L' ≡ L ++ negate l ∷ [] → Assuming clause (i + 1) marks' L'
assuming_more clause i marks marks' L L' l h is a n m e =
    let before = a.marked in
    record {
      marked = m;
      negations = e ∙ ap (λ z. z ++ negate l ∷ []) a.negations ∙ sym (map-append negate (take i clause) (l ∷ [])) ∙ ap (map negate) (sym (take_one_more clause i l h is));
      consistent = subst IsConsistent (sym e) (consistent_push L (negate l) a.consistent (λ k. both_ways _ n (before.marked l (subst (Contains L) (negate-negate l) k))));
    }

pub assuming_contradiction : (clause : List LitOf) (i : ℕ) (marks : List Bool) (L : List LitOf) (l : LitOf) → i < length clause → l ≡ get_or clause i l
    → Assuming clause i marks L → is_marked marks l ≡ true → IsContradictory (map negate clause)
assuming_contradiction clause i marks L l h is a p =
    let before = a.marked in
    let w = Contains-map_from negate l (take i clause) (subst (λ z. Contains z l) a.negations (before.only l p)) in (
      l,
      subst (Contains (map negate clause)) w.2 (Contains-map negate w.0 clause (Contains-take i clause w.0 w.1)),
      Contains-map negate l clause (Contains-read clause i l h is),
    )
