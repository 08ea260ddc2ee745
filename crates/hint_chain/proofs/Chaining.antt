-- One more hint of a chain.
use Rattle.std.proofs.Common.{◌≡◌, ◌≢◌, ◌⊎◌, ℕ, ◌+◌, ◌<◌, Bool, true, false, List, [], ◌∷◌, ◌++◌, length, map, take, refl, sym, ◌∙◌, subst, inl, inr, append_assoc, arith, length-append}
use Rattle.std.specs.Prelude.{Contains, MatchBool, Option, Some, None}
use Rattle.std.proofs.lemmas.Bool.{cases_Bool, both_ways}
use Rattle.std.proofs.lemmas.List.{get_or_default}
use Rattle.std.proofs.lemmas.List.Elements.{All-nil, All-push, Contains-append_left, Contains-append_cases}
use Rattle.cnf_form.specs.Cnf.{LitOf, negate, index_of, Closure, negated_units, IsAdmitted}
use Rattle.cnf_form.proofs.Literals.{lit_cases}
use Rattle.cnf_form.proofs.Members.{Contains-empty, Contains-head, Contains-one, Contains-map, Contains-map_from, Contains-cases, Contains-tail, take_one_more}
use Rattle.cnf_form.proofs.Rup.{Closure-least}
use Rattle.unit_propagation.specs.Propagation.{IsFixpoint, IsSettled}
use Rattle.unit_propagation.specs.Propagator.{slot_at, clauses_of}
use Rattle.lrat_check.specs.Hints.{Live, IsNegated, LeavesOne, Refutes, contradiction, conflict, joins, IsContradictory}
use Rattle.lrat_check.specs.Marks.{is_marked, Marks, IsConsistent}
use Rattle.lrat_check.proofs.Trail.{consistent_push}
use Rattle.hint_chain.specs.Ids.{IdsOf, IsNamed, id_at}
use Rattle.hint_chain.specs.Chains.{AreLive, Ends, Reaches, Goes}
use Rattle.hint_chain.specs.Standing.{Stands}
use Rattle.hint_chain.specs.declared.marks.Standing.{Standing}
use Rattle.hint_chain.specs.declared.marks.Standing.TheVariants.{Negated, OneLeft, MoreLeft}

-- the id is that of the clause, whatever is live where these clauses have these ids
abbrev pub IsIdOf : List (Option (List LitOf)) → IdsOf → ℕ → List LitOf → Type 0
IsIdOf slots ids id c = (live : Live) (zs : List (Option (List LitOf))) → IsNamed live slots zs ids → live id ≡ Some c

pub watched_id : (slots : List (Option (List LitOf))) (ids : IdsOf) (k : ℕ) (c : List LitOf) → slot_at slots k ≡ Some c → IsIdOf slots ids (id_at ids.watched k) c
watched_id slots ids k c at live zs n = (let w = n.watched k c at in w.0)

pub fact_id : (slots : List (Option (List LitOf))) (ids : IdsOf) (l : LitOf) (id : ℕ) → id ≡ id_at ids.facts (index_of l) → id ≢ 0 → IsIdOf slots ids id (l ∷ [])
fact_id slots ids l id e some live zs n = let w = n.facts l (λ q. some (e ∙ q)) in subst (λ z. live z ≡ Some (l ∷ [])) (sym e) w.0

module _ (slots : List (Option (List LitOf))) (ids : IdsOf) where
  pub reaches_none : (start : List LitOf) → Reaches slots ids start [] start
  reaches_none start = record { live = λ live zs n. All-nil (λ id. (c : List LitOf) × (live id ≡ Some c)); leads = λ live zs n rest r. r }

  pub goes_none : (hints : List ℕ) (t : List LitOf) → Goes slots ids hints hints t t
  goes_none hints t = record { reaches = λ start r. r; keeps = λ l h. h; consistent = λ w. w; longer = omega arith; same = λ e. refl }

  pub goes_both : (h1 h2 h3 : List ℕ) (t1 t2 t3 : List LitOf) → Goes slots ids h1 h2 t1 t2 → Goes slots ids h2 h3 t2 t3 → Goes slots ids h1 h3 t1 t3
  goes_both h1 h2 h3 t1 t2 t3 v w = record {
    reaches = λ start r. w.reaches start (v.reaches start r);
    keeps = λ l h. w.keeps l (v.keeps l h);
    consistent = λ k. w.consistent (v.consistent k);
    longer = (let a = v.longer in let b = w.longer in omega (arith, a, b));
    same = λ e. w.same (let a = v.longer in let b = w.longer in omega (arith, a, b, e)) ∙ v.same (let a = v.longer in let b = w.longer in omega (arith, a, b, e));
  }

  live_push : (live : Live) (hints : List ℕ) (id : ℕ) (c : List LitOf) → AreLive live hints → live id ≡ Some c → AreLive live (hints ++ id ∷ [])
  live_push live hints id c all e = All-push (λ id. (c : List LitOf) × (live id ≡ Some c)) hints id all (c, e)

  -- a hint's clause leaves one literal, which becomes true
  pub goes_joins : (hints hints' : List ℕ) (t t' : List LitOf) (id : ℕ) (c : List LitOf) (l : LitOf) → IsIdOf slots ids id c → LeavesOne (Contains t) c l → hints' ≡ hints ++ id ∷ [] → t' ≡ t ++ l ∷ [] → Goes slots ids hints hints' t t'
  goes_joins hints hints' t t' id c l is one e f = rw (e, f) (record {
    reaches = λ start r. record {
      live = λ live zs n. live_push live hints id c (r.live live zs n) (is live zs n);
      leads = λ live zs n rest k. subst (Refutes live start) (sym (append_assoc hints (id ∷ []) rest)) (r.leads live zs n (id ∷ rest) (joins t id rest c l (is live zs n) one k));
    };
    keeps = λ x h. Contains-append_left t (l ∷ []) x h;
    consistent = λ w. consistent_push t l w one.left;
    longer = omega (arith, length-append t (l ∷ []));
    same = λ q. absurd (omega (arith, q, length-append t (l ∷ [])));
  })

  -- a hint's clause is falsified
  pub ends_conflict : (start : List LitOf) (hints hints' : List ℕ) (t : List LitOf) (id : ℕ) (c : List LitOf) → IsIdOf slots ids id c → IsNegated (Contains t) c → hints' ≡ hints ++ id ∷ [] → Reaches slots ids start hints t → Ends slots ids start hints'
  ends_conflict start hints hints' t id c is all e r = rw e (record {
    live = λ live zs n. live_push live hints id c (r.live live zs n) (is live zs n);
    refutes = λ live zs n. r.leads live zs n (id ∷ []) (conflict t id [] c (is live zs n) all);
  })

  -- a literal stands among the first ones with its negation
  pub ends_contradiction : (start : List LitOf) → IsContradictory start → Ends slots ids start []
  ends_contradiction start w = record { live = λ live zs n. All-nil (λ id. (c : List LitOf) × (live id ≡ Some c)); refutes = λ live zs n. contradiction start [] w }

-- a fact's clause leaves its literal
pub leaves_fact : (t : List LitOf) (l : LitOf) → (Contains t (negate l) → ⊥) → LeavesOne (Contains t) (l ∷ []) l
leaves_fact t l off = record { contains = Contains-head l []; left = off; others = λ m h n. absurd (n (sym (Contains-one l m h))) }

-- the marks say what the list says
pub stands_as : (marks : List Bool) (L c : List LitOf) (s : Standing) → Marks marks L → Stands (λ l. is_marked marks l ≡ true) c s → Stands (Contains L) c s
stands_as marks L c Negated m w = λ k h. m.only (negate k) (w k h)
stands_as marks L c (OneLeft l) m w = record { contains = w.contains; left = λ h. w.left (m.marked (negate l) h); others = λ k h d. m.only (negate k) (w.others k h d) }
stands_as marks L c MoreLeft m w = (
  λ f. w.0 (λ k h. m.marked (negate k) (f k h)),
  λ l u. w.1 l (record { contains = u.contains; left = λ h. u.left (m.only (negate l) h); others = λ k h d. m.marked (negate k) (u.others k h d) }),
)

marked_or_not : (marks : List Bool) (L : List LitOf) (l : LitOf) → Marks marks L → Contains L l ⊎ (Contains L l → ⊥)
marked_or_not marks L l m = elim (cases_Bool (is_marked marks l)) [ inl t ↦ inl (m.only l t) | inr f ↦ inr (λ h. both_ways _ f (m.marked l h)) ]

-- where more than one literal is left, nothing is left to do
pub settled_more : (marks : List Bool) (t c : List LitOf) → Marks marks t → Stands (Contains t) c MoreLeft → IsSettled t c
settled_more marks t c m w = record {
  not_falsified = λ f. w.0 (λ k h. f.each k h);
  closed = λ l h f. elim (marked_or_not marks t (negate l) m) [
    | inl on ↦ absurd (w.0 (λ k j. elim (lit_cases k l) [ inl e ↦ subst (λ z. Contains t (negate z)) (sym e) on | inr n ↦ f.each k j n ]))
    | inr off ↦ absurd (w.1 l (record { contains = h; left = off; others = λ k j n. f.each k j n }))
  ];
}

-- or where the one that is left is true
pub settled_one : (t c : List LitOf) (l : LitOf) → LeavesOne (Contains t) c l → Contains t l → IsSettled t c
settled_one t c l w on = record {
  not_falsified = λ f. w.left (f.each l w.contains);
  closed = λ k h f. elim (lit_cases k l) [ inl e ↦ subst (Contains t) (sym e) on | inr n ↦ absurd (w.left (f.each l w.contains (λ e. n (sym e)))) ];
}

-- Literals at which nothing is left to do have a conflict that no literals have.
pub no_fixpoint : (F : List (List LitOf)) (c : List LitOf) → IsAdmitted F c → (t : List LitOf) → ((l : LitOf) → Contains (map negate c) l → Contains t l) → IsConsistent t → IsFixpoint t F → ⊥
no_fixpoint F c w t starts ok fix =
    let G = F ++ negated_units c in
    let closed : (d : List LitOf) (l : LitOf) → Contains G d → Contains d l → ((m : LitOf) → Contains d m → m ≢ l → Contains t (negate m)) → Contains t l = λ d l h i others. elim (Contains-append_cases F (negated_units c) d h) [
      | inl k ↦ let s = fix d k in s.closed l i (record { each = others })
      | inr k ↦ unit d l k i
    ] in
    let below : (l : LitOf) → Closure G l → Contains t l = λ l h. Closure-least (λ m. Contains t m) (λ d m g i others. closed d m g i others) h in
    elim (Contains-append_cases F (negated_units c) w.0 w.1) [
      | inl k ↦ let s = fix w.0 k in s.not_falsified (record { each = λ l h. below (negate l) (w.2 l h) })
      | inr k ↦
          let x = Contains-map_from (λ l. negate l ∷ []) w.0 c k in
          let here : Contains w.0 (negate x.0) = subst (λ z. Contains z (negate x.0)) x.2 (Contains-head (negate x.0) []) in
          ok.apart (negate x.0) (unit w.0 (negate x.0) k here) (below (negate (negate x.0)) (w.2 (negate x.0) here))
    ]
  where
    unit : (d : List LitOf) (l : LitOf) → Contains (negated_units c) d → Contains d l → Contains t l
    unit d l k i =
        let x = Contains-map_from (λ l. negate l ∷ []) d c k in
        let e : negate x.0 ≡ l = Contains-one (negate x.0) l (subst (λ z. Contains z l) (sym x.2) i) in
        subst (Contains t) e (starts (negate x.0) (Contains-map negate x.0 c x.1))

-- one more clause at which nothing is left to do
fixpoint_one : (t : List LitOf) (x : Option (List LitOf)) → ((c : List LitOf) → x ≡ Some c → IsSettled t c) → IsFixpoint t (clauses_of (x ∷ []))
fixpoint_one t (Some d) s = λ c i. subst (IsSettled t) (Contains-one d c i) (s d refl)
fixpoint_one t None s = λ c i. absurd (Contains-empty c i)

fixpoint_both : (t : List LitOf) (front : List (Option (List LitOf))) (x : Option (List LitOf)) → IsFixpoint t (clauses_of front) → ((c : List LitOf) → x ≡ Some c → IsSettled t c) → IsFixpoint t (clauses_of (front ++ x ∷ []))
fixpoint_both t [] x f s = fixpoint_one t x s
fixpoint_both t (None ∷ front) x f s = fixpoint_both t front x f s
fixpoint_both t (Some d ∷ front) x f s = λ c i. elim (Contains-cases d c (clauses_of (front ++ x ∷ [])) i) [
  | inl e ↦ f c (subst (λ z. Contains (d ∷ clauses_of front) z) e (Contains-head d (clauses_of front)))
  | inr j ↦ fixpoint_both t front x (λ e k. f e (Contains-tail d e (clauses_of front) k)) s c j
]

pub fixpoint_step : (t : List LitOf) (slots : List (Option (List LitOf))) (k : ℕ) → k < length slots → IsFixpoint t (clauses_of (take k slots)) → ((c : List LitOf) → slot_at slots k ≡ Some c → IsSettled t c) → IsFixpoint t (clauses_of (take (k + 1) slots))
fixpoint_step t slots k h f s =
    let x = slot_at slots k in
    subst (λ z. IsFixpoint t (clauses_of z)) (sym (take_one_more slots k x h (get_or_default slots k None x h))) (fixpoint_both t (take k slots) x f s)

pub if_true : (b : Bool) (P Q : Type 0) → b ≡ true → MatchBool b P Q → P
if_true true P Q e h = h
if_true false P Q e h = cc

pub otherwise : (b : Bool) (P Q : Type 0) → b ≡ false → MatchBool b P Q → Q
otherwise true P Q e h = cc
otherwise false P Q e h = h
