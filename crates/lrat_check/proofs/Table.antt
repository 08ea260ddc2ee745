-- The table of clauses by their ids.
use Rattle.std.proofs.Common.{◌≡◌, ◌≢◌, ℕ, zero, suc, ◌<◌, ◌≤◌, ◌+◌, ◌-◌, Option, Some, Bool, true, false, eqb, cond, length-take-le, replicate, List, [], ◌∷◌, ◌++◌, length, take, drop, get_or, refl, sym, ◌∙◌, ap, subst, inl, inr, arith, Result, Ok, Err}
use Rattle.std.specs.Prelude.{slice_get, All, Contains, OnOk, OnErr, is_err}
use Rattle.std.proofs.lemmas.Bool.{false≢true, cases_Bool, cases_eq, cases_lt, eqb-true, eq-eqb}
use Rattle.std.proofs.lemmas.List.{get_or_append_left, get_or-append_right, append-nil, drop_all, get_or-replicate, get_or_past, length-replicate, take_all}
use Rattle.cnf_form.specs.Cnf.{LitOf, index_of}
use Rattle.cnf_form.proofs.Members.{take_one_more}
use Rattle.lrat_check.specs.Hints.{Live, numbered, put}
use Rattle.lrat_check.proofs.Admitting.{numbered_among}
use Rattle.lrat_check.specs.Marks.{HasPlaces, ClausesHavePlaces, IsClear, IsChecker}

slice_get_push_here : (F : List (List LitOf)) (c : List LitOf) → slice_get (F ++ c ∷ []) (length F) ≡ Some c
slice_get_push_here [] c = refl
slice_get_push_here (d ∷ F) c = slice_get_push_here F c

slice_get_push_other : (F : List (List LitOf)) (c : List LitOf) (n : ℕ) → n ≢ length F → slice_get (F ++ c ∷ []) n ≡ slice_get F n
slice_get_push_other [] c zero d = absurd (d refl)
slice_get_push_other [] c (suc n) d = refl
slice_get_push_other (x ∷ F) c zero d = refl
slice_get_push_other (x ∷ F) c (suc n) d = slice_get_push_other F c n (λ e. d (ap suc e))

put_here : (live : Live) (id : ℕ) (o : Option (List LitOf)) (n : ℕ) → id ≡ n → put live id o n ≡ o
put_here live id o n e = let t : (eqb id n) ≡ true = eq-eqb id n e in rw t refl

put_other : (live : Live) (id : ℕ) (o : Option (List LitOf)) (n : ℕ) → eqb id n ≡ false → put live id o n ≡ live n
put_other live id o n t = rw t refl

not_same : (a b : ℕ) → a ≢ b → eqb a b ≡ false
not_same a b d = elim (cases_Bool (eqb a b)) [ inl t ↦ absurd (d (eqb-true a b t)) | inr f ↦ f ]

-- the next clause has the next id
numbered-push : (F : List (List LitOf)) (c : List LitOf) (n : ℕ) → put (numbered F) (suc (length F)) (Some c) n ≡ numbered (F ++ c ∷ []) n
numbered-push F c zero = put_other (numbered F) (suc (length F)) (Some c) zero (not_same (suc (length F)) zero (λ e. omega (arith, e)))
numbered-push F c (suc n) = elim (cases_eq (length F) n) [
  | inl e ↦ put_here (numbered F) (suc (length F)) (Some c) (suc n) (ap suc e) ∙ sym (ap (slice_get (F ++ c ∷ [])) (sym e) ∙ slice_get_push_here F c)
  | inr d ↦ put_other (numbered F) (suc (length F)) (Some c) (suc n) (not_same (suc (length F)) (suc n) (λ e. d (omega (arith, e)))) ∙ sym (slice_get_push_other F c n (λ e. d (sym e)))
]

put_agree : (live live' : Live) (id id' : ℕ) (o : Option (List LitOf)) (n : ℕ) → live n ≡ live' n → id ≡ id' → put live id o n ≡ put live' id' o n
put_agree live live' id id' o n h e = ap (λ z. cond (eqb id n) o z) h ∙ ap (λ k. cond (eqb k n) o (live' n)) e

-- the table has the clauses so far
pub numbered_more : (live live' : Live) (F : List (List LitOf)) (i id : ℕ) (c : List LitOf) → i < length F → c ≡ get_or F i c → id ≡ i + 1
    → ((n : ℕ) → live n ≡ numbered (take i F) n) → ((n : ℕ) → live' n ≡ put live id (Some c) n) → (n : ℕ) → live' n ≡ numbered (take (i + 1) F) n
numbered_more live live' F i id c h is e so_far now n =
    let size : id ≡ suc (length (take i F)) = omega (arith, length-take-le i F) in
    now n ∙ put_agree live (numbered (take i F)) id (suc (length (take i F))) (Some c) n (so_far n) size ∙ numbered-push (take i F) c n ∙ ap (λ z. numbered z n) (sym (take_one_more F i c h is))

-- each live clause has places where each clause of the formula has
pub numbered_places : (live : Live) (F : List (List LitOf)) (marks : List Bool) → ((n : ℕ) → live n ≡ numbered F n) → ((c : List LitOf) → Contains F c → All (HasPlaces marks) c) → ClausesHavePlaces live marks
numbered_places live F marks same h id c at = h c (numbered_among F id c (sym (same id) ∙ at))

-- a longer table has the places too
pub places_up : (old new : List Bool) (c : List LitOf) → length old ≤ length new → All (HasPlaces old) c → All (HasPlaces new) c
places_up old new c le h k d in' = let p = h k d in' in omega (arith, p, le)

pub live_up : (live : Live) (old new : List Bool) → length old ≤ length new → ClausesHavePlaces live old → ClausesHavePlaces live new
live_up live old new le h id c at = places_up old new c le (h id c at)

-- a table that has one more clause, or one less
pub places_put : (live live' : Live) (id : ℕ) (o : Option (List LitOf)) (marks : List Bool) → ((n : ℕ) → live' n ≡ put live id o n) → ClausesHavePlaces live marks → ((c : List LitOf) → o ≡ Some c → All (HasPlaces marks) c) → ClausesHavePlaces live' marks
places_put live live' id o marks now h here n c at = elim (cases_Bool (eqb id n)) [
  | inl t ↦ here c (let e : put live id o n ≡ o = rw t refl in sym e ∙ sym (now n) ∙ at)
  | inr f ↦ h n c (let e : put live id o n ≡ live n = rw f refl in sym e ∙ sym (now n) ∙ at)
]

pub put_places : (live live' : Live) (id : ℕ) (c : List LitOf) (marks : List Bool) → ((n : ℕ) → live' n ≡ put live id (Some c) n) → ClausesHavePlaces live marks → All (HasPlaces marks) c → ClausesHavePlaces live' marks
put_places live live' id c marks now h w = places_put live live' id (Some c) marks now h (λ d e. let same : c ≡ d = cc in subst (All (HasPlaces marks)) same w)

-- marks that are added are off
pub clear_longer : (marks : List Bool) (n : ℕ) → IsClear marks → IsClear (marks ++ replicate n false)
clear_longer marks n s l = elim (cases_lt (index_of l) (length marks)) [
  | inl h ↦ get_or_append_left marks (replicate n false) false (index_of l) h ∙ s l
  | inr h ↦ get_or-append_right marks (replicate n false) (length marks) (index_of l) false refl h ∙ elim (cases_lt (index_of l - length marks) n) [
    | inl k ↦ get_or-replicate n (index_of l - length marks) false false k
    | inr k ↦ get_or_past (replicate n false) (index_of l - length marks) false (omega (arith, length-replicate n false, k))
  ]
]

-- a slice that was lent comes back in its place
lent_back : (old new : List Bool) (n : ℕ) → n ≡ length old → length new ≡ length old → take n (new ++ drop (length new) old) ≡ new
lent_back old new n e f =
    let none : drop (length new) old ≡ [] = drop_all (length new) old (omega (arith, f)) in
    ap (λ z. take n (new ++ z)) none ∙ ap (take n) (append-nil new) ∙ take_all n new (omega (arith, e, f))

pub checker_back : (live : Live) (old new : List Bool) (n : ℕ) → n ≡ length old → length new ≡ length old → IsClear new → ClausesHavePlaces live old → IsChecker live (take n (new ++ drop (length new) old))
checker_back live old new n e f clear places = rw (lent_back old new n e f) (record { clear = clear; places = live_up live old new (omega (arith, f)) places })

pub ok_of : {T E : Type 0} (r : Result T E) (P : Type 0) → false ≡ is_err r → OnOk r P → P
ok_of (Ok x) P e h = h
ok_of (Err x) P e h = absurd (false≢true e)

pub err_of : {T E : Type 0} (r : Result T E) (P : Type 0) → true ≡ is_err r → OnErr r P → P
err_of (Ok x) P e h = absurd (false≢true (sym e))
err_of (Err x) P e h = h
