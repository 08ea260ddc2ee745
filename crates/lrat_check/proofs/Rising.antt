-- Tables of clauses whose ids rise.
use Rattle.std.proofs.Common.{◌≡◌, ◌⊎◌, ◌≢◌, ℕ, zero, suc, ◌<◌, ◌≤◌, ◌+◌, take, Option, Some, None, Bool, true, false, eqb, List, [], ◌∷◌, ◌++◌, length, get_or, set, refl, sym, ◌∙◌, ap, subst, inl, inr, arith, nat_eq}
use Rattle.std.specs.Prelude.{Contains, is_some, cond}
use Rattle.std.specs.List.{filter}
use Rattle.std.specs.Map.{lookup}
use Rattle.std.proofs.lemmas.Bool.{cases_Bool, cases_eq, eqb-true, eq-eqb}
use Rattle.std.proofs.lemmas.List.{get_or_default, get_or-take, length-take, append-nil}
use Rattle.cnf_form.proofs.Members.{take_one_more}
use Rattle.std.proofs.lemmas.List.Elements.{Contains-get_or, Contains-push_cases, filter-append}
use Rattle.cnf_form.specs.Cnf.{LitOf}
use Rattle.cnf_form.proofs.Members.{Contains-cases, Contains-empty, Contains-head, Contains-tail}
use Rattle.lrat_check.specs.Hints.{put}
use Rattle.lrat_check.specs.Table.{Entry, IsPlaceOf, IsRising, IsUpto, found, held, present, with_entry}

apart_eqb : (a b : ℕ) → a ≢ b → eqb a b ≡ false
apart_eqb a b d = elim (cases_Bool (eqb a b)) [ inl t ↦ absurd (d (eqb-true a b t)) | inr f ↦ f ]

set_cases : (es : List Entry) (k : ℕ) (e f : Entry) → Contains (set es k e) f → (e ≡ f) ⊎ Contains es f
set_cases [] k e f h = inr h
set_cases (d ∷ es) zero e f h = elim (Contains-cases e f es h) [ inl s ↦ inl s | inr q ↦ inr (Contains-tail d f es q) ]
set_cases (d ∷ es) (suc k) e f h = elim (Contains-cases d f (set es k e) h) [
  | inl s ↦ inr (subst (Contains (d ∷ es)) s (Contains-head d es))
  | inr q ↦ elim (set_cases es k e f q) [ inl s ↦ inl s | inr r ↦ inr (Contains-tail d f es r) ]
]

-- an entry without a clause
abbrev pub blank : Entry
blank = record { id = 0; clause = None }

-- what the first entry with an id has, it has
found_here : (e : Entry) (es : List Entry) (id : ℕ) → e.id ≡ id → found (e ∷ es) id ≡ e.clause
found_here e es id h = let t : eqb e.id id ≡ true = eq-eqb e.id id h in rw t refl

found_past : (e : Entry) (es : List Entry) (id : ℕ) → e.id ≢ id → found (e ∷ es) id ≡ found es id
found_past e es id h = elim (cases_Bool (eqb e.id id)) [ inl t ↦ absurd (h (eqb-true e.id id t)) | inr f ↦ rw f refl ]

pub found_at : (es : List Entry) → IsRising es → (k : ℕ) (d : Entry) → k < length es → found es (get_or es k d).id ≡ (get_or es k d).clause
found_at [] r k d h = absurd (omega (arith, h))
found_at (e ∷ es) r zero d h = found_here e es e.id refl
found_at (e ∷ es) r (suc k) d h =
    let in' : k < length es = omega (arith, h) in
    let up = r.0 (get_or es k d) (Contains-get_or es k d in') in
    found_past e es (get_or es k d).id (λ same. omega (arith, up, same)) ∙ found_at es r.1 k d in'

pub found_none : (es : List Entry) (id : ℕ) (d : Entry) → ((k : ℕ) → k < length es → (get_or es k d).id ≢ id) → found es id ≡ None
found_none [] id d h = refl
found_none (e ∷ es) id d h = found_past e es id (h 0 (omega arith)) ∙ found_none es id d (λ k in'. h (suc k) (omega (arith, in')))

pub rises : (es : List Entry) → IsRising es → (d : Entry) (i j : ℕ) → i ≤ j → j < length es → (get_or es i d).id ≤ (get_or es j d).id
rises [] r d i j le h = absurd (omega (arith, h))
rises (e ∷ es) r d zero zero le h = omega arith
rises (e ∷ es) r d zero (suc j) le h =
    let in' : j < length es = omega (arith, h) in
    omega (arith, r.0 (get_or es j d) (Contains-get_or es j d in'))
rises (e ∷ es) r d (suc i) zero le h = absurd (omega (arith, le))
rises (e ∷ es) r d (suc i) (suc j) le h = rises es r.1 d i j (omega (arith, le)) (omega (arith, h))

-- what is looked up among the clauses that are there is what the table finds
lookup_entry : (m id : ℕ) (o : Option (List LitOf)) (rest : List (ℕ × List LitOf)) (r : Option (List LitOf)) → lookup (nat_eq id) rest ≡ r → (m ≡ id → r ≡ None)
    → lookup (nat_eq id) (with_entry m o rest) ≡ cond (eqb m id) o r
lookup_entry m id (Some c) rest r e past = elim (cases_eq m id) [
  | inl same ↦ let t : eqb m id ≡ true = eq-eqb m id same in let u : eqb id m ≡ true = eq-eqb id m (sym same) in rw (t, u) refl
  | inr d ↦ let t : eqb m id ≡ false = apart_eqb m id d in let u : eqb id m ≡ false = apart_eqb id m (λ h. d (sym h)) in rw (t, u) e
]
lookup_entry m id None rest r e past = elim (cases_eq m id) [
  | inl same ↦ let t : eqb m id ≡ true = eq-eqb m id same in rw t (e ∙ past same)
  | inr d ↦ let t : eqb m id ≡ false = apart_eqb m id d in rw t e
]

pub held_found : (es : List Entry) → IsRising es → (id : ℕ) → held es id ≡ found es id
held_found [] r id = refl
held_found (e ∷ es) r id =
    lookup_entry e.id id e.clause (present es) (found es id) (held_found es r.1 id) (λ same. found_none es id blank (λ k in' h. omega (arith, r.0 (get_or es k blank) (Contains-get_or es k blank in'), same, h)))

module _ (es : List Entry) (rising : IsRising es) (id : ℕ) where
  pub place_of : (k : ℕ) (d : Entry) → k < length es → (get_or es k d).id ≡ id → IsPlaceOf es id k
  place_of k d in' at = record {
    within = in';
    at = λ d'. ap (λ (e : Entry). e.id) (get_or_default es k d' d in') ∙ at;
    has = λ d'. held_found es rising id ∙ subst (λ n. found es n ≡ (get_or es k d').clause) (ap (λ (e : Entry). e.id) (get_or_default es k d' d in') ∙ at) (found_at es rising k d' in');
  }

-- an entry with an id above all others comes last
pub rising_push : (es : List Entry) (f : Entry) → IsRising es → ((e : Entry) → Contains es e → e.id < f.id) → IsRising (es ++ f ∷ [])
rising_push [] f r low = (λ e h. absurd (Contains-empty e h), tt)
rising_push (e ∷ es) f r low = (
  λ g h. elim (Contains-push_cases es f g h) [
    | inl k ↦ r.0 g k
    | inr same ↦ subst (λ (z : Entry). e.id < z.id) same (low e (Contains-head e es))
  ],
  rising_push es f r.1 (λ g h. low g (Contains-tail e g es h)),
)

pub found_push : (es : List Entry) (f : Entry) → ((e : Entry) → Contains es e → e.id < f.id) → (n : ℕ) → found (es ++ f ∷ []) n ≡ put (found es) f.id f.clause n
found_push [] f low n = refl
found_push (e ∷ es) f low n = elim (cases_Bool (eqb e.id n)) [
  | inl t ↦
      let same = eqb-true e.id n t in
      let apart : eqb f.id n ≡ false = apart_eqb f.id n (λ h. omega (arith, low e (Contains-head e es), same, h)) in
      rw (t, apart) refl
  | inr u ↦ rw u (found_push es f (λ g h. low g (Contains-tail e g es h)) n)
]

-- one entry loses its clause
pub cleared : (es : List Entry) (id k : ℕ) → IsRising es → IsPlaceOf es id k → IsRising (set es k (record { id = id; clause = None })) × ((n : ℕ) → found (set es k (record { id = id; clause = None })) n ≡ put (found es) id None n)
    × ((last : ℕ) → IsUpto es last → IsUpto (set es k (record { id = id; clause = None })) last)
cleared [] id k r p = absurd (omega (arith, p.within))
cleared (e ∷ es) id zero r p =
    let at : e.id ≡ id = p.at e in (
      (λ f h. subst (λ n. n < f.id) at (r.0 f h), r.1),
      λ n. elim (cases_Bool (eqb id n)) [
        | inl t ↦ rw t refl
        | inr u ↦ let v : eqb e.id n ≡ false = ap (λ m. eqb m n) at ∙ u in rw (u, v) refl
      ],
      λ last up f h. elim (Contains-cases (record { id = id; clause = None }) f es h) [
        | inl same ↦ subst (λ (z : Entry). z.id ≤ last) same (subst (λ n. n ≤ last) at (up e (Contains-head e es)))
        | inr k ↦ up f (Contains-tail e f es k)
      ],
    )
cleared (e ∷ es) id (suc k) r p =
    let in' : k < length es = omega (arith, p.within) in
    let inner = place_of es r.1 id k blank in' (p.at blank) in
    let rest = cleared es id k r.1 inner in
    let apart : e.id ≢ id = λ same. omega (arith, r.0 (get_or es k blank) (Contains-get_or es k blank in'), p.at blank, same) in (
      (λ f h. low f h, rest.0),
      λ n. elim (cases_Bool (eqb e.id n)) [
        | inl t ↦
            let same = eqb-true e.id n t in
            let u : eqb id n ≡ false = apart_eqb id n (λ h. apart (same ∙ sym h)) in
            rw (t, u) refl
        | inr u ↦ rw u (rest.1 n)
      ],
      λ last up f h. elim (Contains-cases e f (set es k (record { id = id; clause = None })) h) [
        | inl same ↦ subst (λ (z : Entry). z.id ≤ last) same (up e (Contains-head e es))
        | inr q ↦ rest.2 last (λ g w. up g (Contains-tail e g es w)) f q
      ],
    )
  where
    low : (f : Entry) → Contains (set es k (record { id = id; clause = None })) f → e.id < f.id
    low f h = elim (set_cases es k (record { id = id; clause = None }) f h) [
      | inl same ↦ subst (λ (z : Entry). e.id < z.id) same (subst (λ n. e.id < n) (p.at blank) (r.0 (get_or es k blank) (Contains-get_or es k blank (omega (arith, p.within)))))
      | inr q ↦ r.0 f q
    ]

abbrev pub has : Entry → Bool
has e = is_some e.clause

kept_by : (e : Entry) (es : List Entry) (f : Entry) (b : Bool) → has e ≡ b → (Contains (filter has es) f → Contains es f) → Contains (filter has (e ∷ es)) f → Contains (e ∷ es) f
kept_by e es f true t rest h = elim (Contains-cases e f (filter has es) (subst (λ z. Contains (cond z (e ∷ filter has es) (filter has es)) f) t h)) [
  | inl s ↦ subst (Contains (e ∷ es)) s (Contains-head e es)
  | inr q ↦ Contains-tail e f es (rest q)
]
kept_by e es f false t rest h = Contains-tail e f es (rest (subst (λ z. Contains (cond z (e ∷ filter has es) (filter has es)) f) t h))

kept_from : (es : List Entry) (f : Entry) → Contains (filter has es) f → Contains es f
kept_from [] f h = h
kept_from (e ∷ es) f h = kept_by e es f (has e) refl (kept_from es f) h

-- only entries without a clause go
abbrev IsThinned : List Entry → Type 0
IsThinned es = IsRising (filter has es) × ((n : ℕ) → found (filter has es) n ≡ found es n)

thinned_more : (e : Entry) (es : List Entry) → IsRising (e ∷ es) → IsThinned es → (o : Option (List LitOf)) → e.clause ≡ o → IsThinned (e ∷ es)
thinned_more e es r rest (Some c) at =
    let kept : has e ≡ true = ap is_some at in
    rw kept ((λ f h. r.0 f (kept_from es f h), rest.0), λ n. ap (λ o. cond (eqb e.id n) e.clause o) (rest.1 n))
thinned_more e es r rest None at =
    let gone : has e ≡ false = ap is_some at in
    rw gone (
      rest.0,
      λ n. rest.1 n ∙ elim (cases_Bool (eqb e.id n)) [
        | inl t ↦ rw (t, at) (found_none es n blank (λ k in' same. omega (arith, r.0 (get_or es k blank) (Contains-get_or es k blank in'), eqb-true e.id n t, same)))
        | inr u ↦ rw u refl
      ],
    )

pub thinned : (es : List Entry) → IsRising es → IsThinned es
thinned [] r = (tt, λ n. refl)
thinned (e ∷ es) r = thinned_more e es r (thinned es r.1) e.clause refl

pub upto_thinned : (es : List Entry) (last : ℕ) → IsUpto es last → IsUpto (filter has es) last
upto_thinned es last up e h = up e (kept_from es e h)

put_same : (live live' : ℕ → Option (List LitOf)) (id : ℕ) (o : Option (List LitOf)) (n : ℕ) → live n ≡ live' n → put live id o n ≡ put live' id o n
put_same live live' id o n h = ap (λ z. cond (eqb id n) o z) h

pub held_push : (es : List Entry) (f : Entry) → IsRising es → ((e : Entry) → Contains es e → e.id < f.id) → (n : ℕ) → held (es ++ f ∷ []) n ≡ put (held es) f.id f.clause n
held_push es f r low n =
    held_found (es ++ f ∷ []) (rising_push es f r low) n ∙ found_push es f low n ∙ put_same (found es) (held es) f.id f.clause n (sym (held_found es r n))

pub upto_push : (es : List Entry) (f : Entry) → ((e : Entry) → Contains es e → e.id < f.id) → IsUpto (es ++ f ∷ []) f.id
upto_push es f low e h = elim (Contains-push_cases es f e h) [ inl k ↦ omega (arith, low e k) | inr same ↦ subst (λ (z : Entry). z.id ≤ f.id) same (omega arith) ]

pub held_thinned : (es : List Entry) → IsRising es → (n : ℕ) → held (filter has es) n ≡ held es n
held_thinned es r n = let t = thinned es r in held_found (filter has es) t.0 n ∙ t.1 n ∙ sym (held_found es r n)

pub held_cleared : (es es' : List Entry) (id : ℕ) → IsRising es → IsRising es' → ((n : ℕ) → found es' n ≡ put (found es) id None n) → (n : ℕ) → held es' n ≡ put (held es) id None n
held_cleared es es' id r r' now n = held_found es' r' n ∙ now n ∙ put_same (found es) (held es) id None n (sym (held_found es r n))

-- an id that has no clause loses none
pub held_gone : (live : ℕ → Option (List LitOf)) (id : ℕ) → live id ≡ None → (n : ℕ) → live n ≡ put live id None n
held_gone live id e n = elim (cases_Bool (eqb id n)) [
  | inl t ↦ let f : live n ≡ None = ap live (sym (eqb-true id n t)) ∙ e in rw t f
  | inr u ↦ rw u refl
]

-- the next clause of a formula is above those before it
pub below_next : (es : List Entry) (last id : ℕ) → IsUpto es last → last < id → (e : Entry) → Contains es e → e.id < id
below_next es last id up lt e h = omega (arith, up e h, lt)

pub upto_more : (es : List Entry) (last id : ℕ) → IsUpto es last → last ≤ id → IsUpto es id
upto_more es last id up le e h = omega (arith, up e h, le)

-- the entries before a place have lower ids
pub below_place : (es : List Entry) → IsRising es → (i j : ℕ) (d : Entry) → i < j → j < length es → (get_or es i d).id < (get_or es j d).id
below_place [] r i j d lt h = absurd (omega (arith, h))
below_place (e ∷ es) r zero (suc j) d lt h = r.0 (get_or es j d) (Contains-get_or es j d (omega (arith, h)))
below_place (e ∷ es) r (suc i) (suc j) d lt h = below_place es r.1 i j d (omega (arith, lt)) (omega (arith, h))
below_place (e ∷ es) r i zero d lt h = absurd (omega (arith, lt))

-- the live entries before a place
module _ (es : List Entry) (k : ℕ) (e : Entry) (room : k < length es) (is : e ≡ get_or es k e) where
  pub live_before : IsRising es → (f : Entry) → Contains (filter has (take k es)) f → f.id < e.id
  live_before r f h =
      let w = kept_from (take k es) f h in
      let low : w.0 < k = omega (arith, w.1, length-take k es) in
      let here : get_or es w.0 f ≡ f = sym (get_or-take k es w.0 f low) ∙ w.2 in
      let lt : (get_or es w.0 f).id < (get_or es k f).id = below_place es r w.0 k f low room in
      omega (arith, lt, ap (λ (z : Entry). z.id) here, ap (λ (z : Entry). z.id) (is ∙ get_or_default es k e f room))

  pub live_more : (c : List LitOf) → e.clause ≡ Some c → filter has (take (k + 1) es) ≡ filter has (take k es) ++ e ∷ []
  live_more c at =
      let kept : has e ≡ true = ap is_some at in
      ap (filter has) (take_one_more es k e room is) ∙ filter-append has (take k es) (e ∷ []) ∙ ap (λ b. filter has (take k es) ++ cond b (e ∷ []) []) kept

  pub live_same : e.clause ≡ None → filter has (take (k + 1) es) ≡ filter has (take k es)
  live_same at =
      let gone : has e ≡ false = ap is_some at in
      ap (filter has) (take_one_more es k e room is) ∙ filter-append has (take k es) (e ∷ []) ∙ ap (λ b. filter has (take k es) ++ cond b (e ∷ []) []) gone ∙ append-nil (filter has (take k es))
