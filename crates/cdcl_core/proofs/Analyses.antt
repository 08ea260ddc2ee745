-- What a conflict rests on.
use Rattle.std.proofs.Common.{length-append, get_or-take, ◌≡◌, ◌≢◌, ◌⊎◌, ℕ, ◌+◌, ◌-◌, ◌<◌, ◌≤◌, Bool, true, false, not, eqb, List, [], ◌∷◌, ◌++◌, length, get_or, set, take, map, arith, refl, sym, ◌∙◌, ap, subst, inl, inr}
use Rattle.std.specs.Prelude.{Contains, All, Some}
use Rattle.std.proofs.lemmas.List.Elements.{Contains-append_left, Contains-append_right, Contains-push, Contains-push_cases, Contains-get_or}
use Rattle.std.specs.List.{list_any}
use Rattle.std.proofs.lemmas.List.{length-take-le, length-map, get_or-map}
use Rattle.std.proofs.lemmas.Bool.{cases_Bool, eqb-true}
use Rattle.std.proofs.lemmas.Map.Views.{Contains-from_any}
use Rattle.std.proofs.lemmas.Map.Steps.{length-le_from_distinct_below}
use Rattle.std.proofs.lemmas.Map.Keys.{IsDistinct-from_apart}
use Rattle.cnf_form.specs.Cnf.{LitOf, negate, index_of, LitWithin, Closure, propagated, negated_units}
use Rattle.cnf_form.proofs.Literals.{lit_cases, negate-negate}
use Rattle.cnf_form.proofs.Members.{Contains-empty, Contains-one, Contains-head, Contains-map, Contains-map_from, take_one_more}
use Rattle.unit_propagation.specs.Marks.{is_marked, IsDistinct}
use Rattle.std.proofs.lemmas.List.{take_all}
use Rattle.unit_propagation.proofs.Slots.{clauses_of-contains}
use Rattle.unit_propagation.specs.Propagation.{ContainsAll, IsConsistent, IsDerived}
use Rattle.unit_propagation.specs.Propagator.{PropagatorOf, clauses_of}
use Rattle.cdcl_core.specs.Levels.{IsJustified, IsPending, end_of, base_of}
use Rattle.cdcl_core.specs.Analysis.{AreMarksListed, IsSeenOrRoot, Supports, IsUip, IsBuilt, IsLearnt}
use Rattle.cdcl_core.proofs.Marks.{unmark_other, of_prefix}
use Rattle.cdcl_core.proofs.Justified.{end_inside, end_past}

-- what holds of each member
pub All-of : {X : Type 0} (xs : List X) (P : X → Type 0) → ((x : X) → Contains xs x → P x) → All P xs
All-of xs P h i d room = h (get_or xs i d) (Contains-get_or xs i d room)

-- what is noted is derived where the marked literals and level 0 are
noted_derived : (G : List (List LitOf)) (t : List LitOf) (root : ℕ) (seen : List Bool) (m : LitOf) → IsDerived G (take root t) → ((l : LitOf) → is_marked seen l ≡ true → Closure G l) → IsSeenOrRoot t root seen m → Closure G (negate m)
noted_derived G t root seen m d all n = elim n [ inl h ↦ all (negate m) h | inr h ↦ d.each (negate m) h ]

-- a conflict rests on the negations of its clause's literals
pub supports_clause : (F : List (List LitOf)) (t : List LitOf) (root : ℕ) (seen : List Bool) (c : List LitOf) → Contains F c → ((m : LitOf) → Contains c m → IsSeenOrRoot t root seen m) → Supports F t root seen
supports_clause F t root seen c h noted = record {
  conflict = λ G all d marked. (c, all.each c h, λ m k. noted_derived G t root seen m d marked (noted m k));
}

-- a literal of a clause whose others are noted may give way to them
pub supports_resolved : (F : List (List LitOf)) (t : List LitOf) (root : ℕ) (seen seen' : List Bool) (c : List LitOf) (l : LitOf) → Contains F c → Contains c l
    → ((m : LitOf) → Contains c m → m ≢ l → IsSeenOrRoot t root seen' m) → ((x : LitOf) → is_marked (set seen (index_of l) false) x ≡ true → is_marked seen' x ≡ true)
    → Supports F t root seen → Supports F t root seen'
supports_resolved F t root seen seen' c l h k noted keeps w = record {
  conflict = λ G all d marked. w.conflict G all d (λ x q. elim (lit_cases x l) [
    | inr n ↦ marked x (keeps x (unmark_other seen l x q n))
    | inl e ↦ subst (Closure G) (sym e) (propagated c l (all.each c h) k (λ m i n. noted_derived G t root seen' m d marked (noted m i n)))
  ]);
}

-- the negation of each literal of a clause is derived from its negated unit clauses
pub negated_derived : (F : List (List LitOf)) (c : List LitOf) (m : LitOf) → Contains c m → Closure (F ++ negated_units c) (negate m)
negated_derived F c m h =
    propagated (negate m ∷ []) (negate m) (Contains-append_right F (negated_units c) _ (Contains-map (λ x. negate x ∷ []) m c h)) (Contains-head (negate m) [])
    (λ x k d. absurd (d (sym (Contains-one (negate m) x k))))

-- a conflict rests on more literals too
pub supports_more : (F : List (List LitOf)) (t : List LitOf) (root : ℕ) (seen seen' : List Bool) → ((l : LitOf) → is_marked seen l ≡ true → is_marked seen' l ≡ true) → Supports F t root seen → Supports F t root seen'
supports_more F t root seen seen' keeps w = record { conflict = λ G all d marked. w.conflict G all d (λ x q. marked x (keeps x q)) }

-- the clause that an analysis ends with
pub learnt_built : (p : PropagatorOf) (base root : ℕ) (seen : List Bool) (lower current : List LitOf) (l : LitOf) (c : List LitOf) → IsJustified p → root ≡ end_of p 0 → AreMarksListed p.trail base seen lower current
    → Supports (clauses_of p.slots) p.trail root seen → IsUip p.trail base seen current l → IsBuilt seen lower l c → length c ≤ p.vars → IsLearnt p base c (negate l)
learnt_built p base root seen lower current l c v e listed w f built short =
    let F = clauses_of p.slots in
    let G = F ++ negated_units c in
    let all : ContainsAll F G = record { each = λ d k. Contains-append_left F (negated_units c) d k } in
    let r = v.root in
    let level0 : IsDerived G (take root p.trail) = subst (λ z. IsDerived G (take z p.trail)) (sym e) (r.derived G all (record { each = λ x k. absurd (Contains-empty x k) })) in
    let back : (x : LitOf) → Contains c (negate x) → Closure G x = λ x k. subst (Closure G) (negate-negate x) (negated_derived F c (negate x) k) in
    let false_one : (m : LitOf) → Contains lower m → LitWithin p.vars m = λ m k. let q = v.within (negate m) (of_prefix p.trail base (negate m) (listed.lower_false m k)) in (q.0, q.1) in
    record {
      admitted = w.conflict G all level0 (λ x k. elim (listed.listed x k) [
        | inl i ↦ back x (built.marked (negate x) i (subst (λ z. is_marked seen z ≡ true) (sym (negate-negate x)) k))
        | inr i ↦ back x (subst (λ z. Contains c (negate z)) (sym (f.only x i k)) built.first)
      ]);
      contains = built.first;
      others = λ m k n. elim (built.only m k) [ inl q ↦ absurd (n q) | inr q ↦ listed.lower_false m q ];
      on = subst (Contains p.trail) (sym (negate-negate l)) f.on;
      late = λ k. f.late (subst (Contains (take base p.trail)) (negate-negate l) k);
      within = All-of c (LitWithin p.vars) (λ m k. elim (built.only m k) [
        | inl q ↦ let s = v.within l f.on in subst (LitWithin p.vars) (sym q) (s.0, s.1)
        | inr q ↦ false_one m q
      ]);
      short = short;
    }

-- what is noted stays so while marks are only set
pub noted_keeps : (t : List LitOf) (root : ℕ) (seen seen' : List Bool) (m : LitOf) → ((l : LitOf) → is_marked seen l ≡ true → is_marked seen' l ≡ true) → IsSeenOrRoot t root seen m → IsSeenOrRoot t root seen' m
noted_keeps t root seen seen' m keeps n = elim n [ inl h ↦ inl (keeps (negate m) h) | inr h ↦ inr h ]

-- a variable counted from 0
place_of : LitOf → ℕ
place_of l = l.var - 1

same_var : (l m : LitOf) → l.var ≡ m.var → (l ≡ m) ⊎ (l ≡ negate m)
same_var l m e = var_cases l.var m.var l.negated m.negated e
  where
    var_cases : (v w : ℕ) (a b : Bool) → v ≡ w
        → ((let l : LitOf = record { var = v; negated = a } in l) ≡ record { var = w; negated = b }) ⊎ ((let l : LitOf = record { var = v; negated = a } in l) ≡ record { var = w; negated = not b })
    var_cases v w true true e = inl cc
    var_cases v w false false e = inl cc
    var_cases v w true false e = inr cc
    var_cases v w false true e = inr cc

no_literal : LitOf
no_literal = record { var = 0; negated = false }

-- literals at two places have two variables
places_apart : (vars : ℕ) (t : List LitOf) → ((l : LitOf) → Contains t l → LitWithin vars l) → IsDistinct t → IsConsistent t
    → (i j : ℕ) (d : ℕ) → i < j → j < length t → eqb (get_or (map place_of t) i d) (get_or (map place_of t) j d) ≡ false
unfolding place_of
places_apart vars t within distinct consistent i j d before room =
    let first : i < length t = omega (arith, before, room) in
    let a = get_or t i no_literal in
    let b = get_or t j no_literal in
    let has_a : Contains t a = Contains-get_or t i no_literal first in
    let has_b : Contains t b = Contains-get_or t j no_literal room in
    let wa = within a has_a in
    let wb = within b has_b in
    let front : Contains (take j t) a = subst (Contains (take j t)) (get_or-take j t i no_literal before) (Contains-get_or (take j t) i no_literal (let n = length-take-le j t (omega (arith, room)) in omega (arith, n, before))) in
    rw (get_or-map place_of t i no_literal d first, get_or-map place_of t j no_literal d room) (elim (cases_Bool (eqb (a.var - 1) (b.var - 1))) [
      | inr f ↦ f
      | inl e ↦ absurd (elim (same_var a b (let k = eqb-true (a.var - 1) (b.var - 1) e in omega (arith, k, wa.0, wb.0))) [
        | inl s ↦ distinct.once j no_literal room (subst (Contains (take j t)) s front)
        | inr s ↦ consistent.apart b has_b (subst (Contains t) s has_a)
      ])
    ])

-- a trail has at most as many literals as there are variables
trail_short : (vars : ℕ) (t : List LitOf) → ((l : LitOf) → Contains t l → LitWithin vars l) → IsDistinct t → IsConsistent t → length t ≤ vars
unfolding place_of
trail_short vars t within distinct consistent =
    let xs = map place_of t in
    let n : length xs ≡ length t = length-map t place_of in
    let below : (q : ℕ) → list_any (eqb q) xs ≡ true → q < vars = λ q h. let x = Contains-map_from place_of q t (Contains-from_any eqb-true q xs h) in let w = within x.0 x.1 in let e : x.0.var - 1 ≡ q = x.2 in omega (arith, w.0, w.1, e) in
    let h = length-le_from_distinct_below xs vars (IsDistinct-from_apart eqb xs (λ i j d before room. places_apart vars t within distinct consistent i j d before (omega (arith, room, n)))) below in
    omega (arith, h, n)

-- the clause of the negations of all that was true when the last level was decided
pub learnt_trail : (p : PropagatorOf) (k : ℕ) (c : List LitOf) (d : LitOf) → IsJustified p → 0 < length p.limits → base_of p < length p.trail → IsPending p (Some k) → IsDistinct p.trail → IsConsistent p.trail
    → d ≡ get_or p.trail (base_of p) d → c ≡ map negate (take (base_of p) p.trail) ++ negate d ∷ [] → IsLearnt p (base_of p) c (negate d)
learnt_trail p k c d v levels room pending distinct consistent read is =
    let F = clauses_of p.slots in
    let b = base_of p in
    let L = length p.limits in
    let G = F ++ negated_units c in
    let front = map negate (take b p.trail) in
    let all : ContainsAll F G = record { each = λ e h. Contains-append_left F (negated_units c) e h } in
    let back : (x : LitOf) → Contains c (negate x) → Closure G x = λ x h. subst (Closure G) (negate-negate x) (negated_derived F c (negate x) h) in
    let last : Contains c (negate d) = subst (λ z. Contains z (negate d)) (sym is) (Contains-push front (negate d)) in
    let one : take (b + 1) p.trail ≡ take b p.trail ++ d ∷ [] = take_one_more p.trail b d room read in
    let s : IsDerived G (take (b + 1) p.trail) = record {
      each = λ x h. elim (Contains-push_cases (take b p.trail) d x (subst (λ z. Contains z x) one h)) [
        | inl i ↦ back x (subst (λ z. Contains z (negate x)) (sym is) (Contains-append_left front (negate d ∷ []) (negate x) (Contains-map negate x (take b p.trail) i)))
        | inr e ↦ back x (subst (λ z. Contains c (negate z)) e last)
      ];
    } in
    let start : end_of p (L - 1) ≡ b = end_inside p.limits (L - 1) (length p.trail) 0 (omega (arith, levels)) in
    let whole : take (end_of p (L - 1 + 1)) p.trail ≡ p.trail = take_all (end_of p (L - 1 + 1)) p.trail (let e = end_past p.limits (L - 1 + 1) (length p.trail) (omega (arith, levels)) in omega (arith, e)) in
    let f = v.level (L - 1) (omega (arith, levels)) in
    let t : IsDerived G p.trail = subst (IsDerived G) whole (f.derived G all (subst (λ z. IsDerived G (take (z + 1) p.trail)) (sym start) s)) in
    let w = pending.1 in
    let g = w.2 in
    record {
      admitted = (w.0, all.each w.0 (clauses_of-contains p.slots k w.0 w.1), λ l h. t.each (negate l) (g.each l h));
      contains = last;
      others = λ m h n. elim (Contains-push_cases front (negate d) m (subst (λ z. Contains z m) is h)) [
        | inl i ↦ let x = Contains-map_from negate m (take b p.trail) i in subst (Contains (take b p.trail)) (sym (negate-negate x.0) ∙ ap negate x.2) x.1
        | inr e ↦ absurd (n (sym e))
      ];
      on = subst (Contains p.trail) (sym (negate-negate d)) (b, room, sym read);
      late = λ h. distinct.once b d room (subst (Contains (take b p.trail)) (negate-negate d ∙ read) h);
      within = All-of c (LitWithin p.vars) (λ m h. elim (Contains-push_cases front (negate d) m (subst (λ z. Contains z m) is h)) [
        | inl i ↦ let x = Contains-map_from negate m (take b p.trail) i in
            let y = v.within x.0 (of_prefix p.trail b x.0 x.1) in subst (LitWithin p.vars) x.2 (y.0, y.1)
        | inr e ↦ let y = v.within d (b, room, sym read) in subst (LitWithin p.vars) e (y.0, y.1)
      ]);
      short =
          let all_short = trail_short p.vars p.trail v.within distinct consistent in
          let upto : length (take b p.trail) ≡ b = length-take-le b p.trail (omega (arith, room)) in
          omega (arith, all_short, room, upto, ap length is, length-append front (negate d ∷ []), length-map (take b p.trail) negate);
    }

-- where the last level begins there is its decision
pub base_room : (p : PropagatorOf) → IsJustified p → 0 < length p.limits → base_of p < length p.trail
base_room p v levels =
    let L = length p.limits in
    let s = v.strict (L - 1) (omega (arith, levels)) in
    let start : end_of p (L - 1) ≡ base_of p = end_inside p.limits (L - 1) (length p.trail) 0 (omega (arith, levels)) in
    let last : end_of p (L - 1 + 1) ≡ length p.trail = end_past p.limits (L - 1 + 1) (length p.trail) (omega (arith, levels)) in
    omega (arith, s, start, last)

pub map_push : (t : List LitOf) (x : LitOf) → map negate (t ++ x ∷ []) ≡ map negate t ++ negate x ∷ []
map_push [] x = refl
map_push (y ∷ t) x = ap (λ z. negate y ∷ z) (map_push t x)
