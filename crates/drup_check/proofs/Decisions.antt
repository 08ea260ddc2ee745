-- What the clauses admit, and which are reasons, read off the trail.
use Rattle.std.proofs.Common.{◌≡◌, ℕ, Bool, true, false, List, [], ◌∷◌, ◌++◌, length, take, get_or, map, refl, sym, ◌∙◌, ap, subst, inl, inr}
use Rattle.std.specs.Prelude.{Contains, Option, IsTrue, ◌↔◌}
use Rattle.std.proofs.lemmas.Bool.{both_ways, cases_Bool}
use Rattle.std.proofs.lemmas.List.{take_at, append_assoc}
use Rattle.std.proofs.lemmas.List.Elements.{All-contains, Contains-get_or, Contains-append_cases, Contains-append_left, Contains-append_right}
use Rattle.cnf_form.specs.Cnf.{LitOf, negate, LitWithin, ClauseWithin, Closure, propagated, Conflict, negated_units, IsAdmitted, IsReason}
use Rattle.cnf_form.proofs.Members.{Contains-one, Contains-head, Contains-map, Contains-map_from}
use Rattle.cnf_form.proofs.Rup.{IsClosedUnder, Closure-least}
use Rattle.cnf_form.proofs.Removal.{Closure-monotone}
use Rattle.unit_propagation.specs.declared.outcome.Outcome.{Outcome}
use Rattle.unit_propagation.specs.declared.outcome.Outcome.TheVariants.{Complete, Falsified, Opposed}
use Rattle.unit_propagation.specs.Propagation.{IsConsistent, IsFalsifiedBut, IsFixpoint, HasFalsified, IsDerived, Propagates}
use Rattle.unit_propagation.specs.Propagator.{PropagatorOf, clauses_of, Assumes, IsAssumed, EndsAssumed, is_conflict}
use Rattle.unit_propagation.proofs.Slots.{clauses_of-contains}
use Rattle.drup_check.specs.Inside.{IsRoot}

module _ (F : List (List LitOf)) (t : List LitOf) where
  pub below : IsFixpoint t F → (l : LitOf) → Closure F l → Contains t l
  below fix l h = Closure-least (λ m. Contains t m) (λ c m g k others. let s = fix c g in s.closed m k (record { each = others })) h

  pub conflict_from : IsDerived F t → HasFalsified t F → Conflict F
  conflict_from d w = let f = w.2 in (w.0, w.1, λ l h. d.each (negate l) (f.each l h))

  pub no_conflict : IsFixpoint t F → Conflict F → ⊥
  no_conflict fix w = let s = fix w.0 w.1 in s.not_falsified (record { each = λ l h. below fix (negate l) (w.2 l h) })

  pub reason_from : IsDerived F t → (c : List LitOf) (l : LitOf) → Contains c l → Contains t l → IsFalsifiedBut t c l → IsReason F c
  reason_from d c l h k f = (l, h, d.each l k, λ m q n. d.each (negate m) (f.each m q n))

  pub reason_on : IsFixpoint t F → (c : List LitOf) → IsReason F c → (l : LitOf) × Contains c l × Contains t l × IsFalsifiedBut t c l
  reason_on fix c w = (w.0, w.1, below fix w.0 w.2, record { each = λ m q n. below fix (negate m) (w.3 m q n) })

-- at a conflict all is admitted
pub admitted_at_conflict : (F : List (List LitOf)) (c : List LitOf) → Conflict F → IsAdmitted F c
admitted_at_conflict F c w =
    (w.0, Contains-append_left F (negated_units c) w.0 w.1, λ l h. Closure-monotone (λ d k. Contains-append_left F (negated_units c) d k) (w.2 l h))

units_contain : (c : List LitOf) (l : LitOf) → Contains c l → Contains (negated_units c) (negate l ∷ [])
units_contain c l h = Contains-map (λ m. negate m ∷ []) l c h

module _ (F : List (List LitOf)) (c : List LitOf) where
  assumed : (l : LitOf) → Contains c l → Closure (F ++ negated_units c) (negate l)
  assumed l h =
      propagated (negate l ∷ []) (negate l) (Contains-append_right F (negated_units c) _ (units_contain c l h)) (Contains-head (negate l) [])
      (λ m k d. absurd (d (sym (Contains-one (negate l) m k))))

  derived_assumed : (s t : List LitOf) → IsDerived F s → Assumes (map negate c) s t → IsDerived (F ++ negated_units c) t
  derived_assumed s t d a = record {
    each = λ l h. elim (Contains-append_cases s a.added l (subst (λ z. Contains z l) a.grown h)) [
      | inl k ↦ Closure-monotone (λ e q. Contains-append_left F (negated_units c) e q) (d.each l k)
      | inr k ↦ let w = Contains-map_from negate l c (a.only l k) in subst (Closure (F ++ negated_units c)) w.2 (assumed w.0 w.1)
    ];
  }

  derived_then : (s t u : List LitOf) → IsDerived F s → Assumes (map negate c) s t → Propagates F t u → IsDerived (F ++ negated_units c) u
  derived_then s t u d a p = p.derived (F ++ negated_units c) (record { each = λ e h. Contains-append_left F (negated_units c) e h }) (derived_assumed s t d a)

  admitted_by_clause : (u d : List LitOf) → IsDerived (F ++ negated_units c) u → Contains F d → ((l : LitOf) → Contains d l → Contains u (negate l)) → IsAdmitted F c
  admitted_by_clause u d w h f = (d, Contains-append_left F (negated_units c) d h, λ l k. w.each (negate l) (f l k))

  admitted_by_unit : (u : List LitOf) (l : LitOf) → IsDerived (F ++ negated_units c) u → Contains (map negate c) l → Contains u (negate l) → IsAdmitted F c
  admitted_by_unit u l w h k =
      let m = Contains-map_from negate l c h in (
        negate m.0 ∷ [],
        Contains-append_right F (negated_units c) _ (units_contain c m.0 m.1),
        λ q r. subst (λ z. Closure (F ++ negated_units c) (negate z)) (sym m.2 ∙ Contains-one (negate m.0) q r) (w.each (negate l) k),
      )

  refused_at_fixpoint : (u : List LitOf) → IsConsistent u → IsFixpoint u F → ((l : LitOf) → Contains (map negate c) l → Contains u l) → IsAdmitted F c → ⊥
  refused_at_fixpoint u ok fix all a =
      let held : (l : LitOf) → Contains c l → Contains u (negate l) = λ l h. all (negate l) (Contains-map negate l c h) in
      let closed : IsClosedUnder (F ++ negated_units c) (λ l. Contains u l) = λ d l h k others. elim (Contains-append_cases F (negated_units c) d h) [
        | inl h ↦ let s = fix d h in s.closed l k (record { each = others })
        | inr h ↦ let w = Contains-map_from (λ m. negate m ∷ []) d c h in
            subst (Contains u) (Contains-one (negate w.0) l (subst (λ z. Contains z l) (sym w.2) k)) (held w.0 w.1)
      ] in
      let under : (l : LitOf) → Closure (F ++ negated_units c) l → Contains u l = λ l h. Closure-least (λ m. Contains u m) closed h in
      elim (Contains-append_cases F (negated_units c) a.0 a.1) [
        | inl h ↦ let s = fix a.0 h in s.not_falsified (record { each = λ l k. under (negate l) (a.2 l k) })
        | inr h ↦ let w = Contains-map_from (λ m. negate m ∷ []) a.0 c h in
            let k : Contains a.0 (negate w.0) = subst (λ z. Contains z (negate w.0)) w.2 (Contains-head (negate w.0) []) in
            ok.apart (negate w.0) (held w.0 w.1) (under (negate (negate w.0)) (a.2 (negate w.0) k))
      ]

ends_admitted : (old new : PropagatorOf) (c : List LitOf) (o : Outcome) → IsRoot old → IsAssumed old (map negate c) new → EndsAssumed new (map negate c) o → is_conflict o ≡ true → IsAdmitted (clauses_of old.slots) c
ends_admitted old new c Complete r a e h = absurd (both_ways false refl h)
ends_admitted old new c (Falsified k) r a e h =
    let f = e.2 in
    let d = derived_then (clauses_of old.slots) c old.trail a.assumed new.trail r.derived a.assumes a.propagated in
    admitted_by_clause (clauses_of old.slots) c new.trail e.0 d (subst (λ z. Contains (clauses_of z) e.0) a.slots (clauses_of-contains new.slots k e.0 e.1)) f.each
ends_admitted old new c Opposed r a e h =
    let d = derived_then (clauses_of old.slots) c old.trail a.assumed new.trail r.derived a.assumes a.propagated in
    admitted_by_unit (clauses_of old.slots) c new.trail e.0 d e.1 e.2

ends_refused : (old new : PropagatorOf) (c : List LitOf) (o : Outcome) → IsAssumed old (map negate c) new → EndsAssumed new (map negate c) o → is_conflict o ≡ false → IsConsistent new.trail → IsFixpoint new.trail (clauses_of new.slots) → IsAdmitted (clauses_of old.slots) c → ⊥
ends_refused old new c Complete a e h ok fix w =
    refused_at_fixpoint (clauses_of old.slots) c new.trail ok (subst (λ z. IsFixpoint new.trail (clauses_of z)) a.slots fix) e w
ends_refused old new c (Falsified k) a e h ok fix w = absurd (both_ways true h refl)
ends_refused old new c Opposed a e h ok fix w = absurd (both_ways true h refl)

-- a run of propagation from the negated literals decides
pub decides : (old new : PropagatorOf) (c : List LitOf) (o : Outcome) (b : Bool) → IsRoot old → IsAssumed old (map negate c) new → EndsAssumed new (map negate c) o → b ≡ is_conflict o → IsConsistent new.trail → (b ≡ false → IsFixpoint new.trail (clauses_of new.slots)) → (IsTrue b ↔ IsAdmitted (clauses_of old.slots) c)
decides old new c o b r a e is ok fix = (
  λ t. ends_admitted old new c o r a e (sym is ∙ t),
  λ w. elim (cases_Bool b) [
    | inl t ↦ t
    | inr f ↦ absurd (ends_refused old new c o a e (sym is ∙ f) ok (fix f) w)
  ],
)

cut : (s u added more : List LitOf) → u ≡ s ++ added → (t : List LitOf) → t ≡ u ++ more → take (length s) t ≡ s
cut s u added more e t f = ap (take (length s)) f ∙ ap (λ z. take (length s) (z ++ more)) e ∙ again s added more
  where
    again : (s added more : List LitOf) → take (length s) ((s ++ added) ++ more) ≡ s
    again s added more = rw append_assoc (take_at s (added ++ more) (length s) refl)

propagator_of : (p q : PropagatorOf) → p.vars ≡ q.vars → p.slots ≡ q.slots → p.trail ≡ q.trail → p.limits ≡ q.limits → p.conflict ≡ q.conflict → p ≡ q
propagator_of p q a b c d e =
    let mk : ℕ → List (Option (List LitOf)) → List LitOf → List ℕ → Bool → PropagatorOf = λ v ss t ls x. record { vars = v; slots = ss; trail = t; limits = ls; conflict = x } in
    ap (λ z. mk z p.slots p.trail p.limits p.conflict) a ∙ ap (λ z. mk q.vars z p.trail p.limits p.conflict) b ∙ ap (λ z. mk q.vars q.slots z p.limits p.conflict) c
    ∙ ap (λ z. mk q.vars q.slots q.trail z p.conflict) d ∙ ap (mk q.vars q.slots q.trail q.limits) e

-- the level that was opened is taken back
pub taken_back : (old new q : PropagatorOf) (lits : List LitOf) → old.limits ≡ [] → old.conflict ≡ false → IsAssumed old lits new
    → q ≡ record new { trail = take (get_or new.limits 0 0) new.trail; limits = take 0 new.limits; conflict = false } → q ≡ old
taken_back old new q lits none free a e =
    let s = a.assumes in
    let p = a.propagated in
    let limits : new.limits ≡ length old.trail ∷ [] = a.limits ∙ ap (λ z. z ++ length old.trail ∷ []) none in
    let first : get_or new.limits 0 0 ≡ length old.trail = ap (λ z. get_or z 0 0) limits in
    e ∙ propagator_of _ old a.vars a.slots
    (ap (λ n. take n new.trail) first ∙ cut old.trail a.assumed s.added p.added s.grown new.trail p.grown)
    (ap (take 0) limits ∙ sym none) (sym free)

pub within_negated : (vars : ℕ) (c : List LitOf) → ClauseWithin vars c → ClauseWithin vars (map negate c)
within_negated vars c w k d h =
    let m = Contains-map_from negate (get_or (map negate c) k d) c (Contains-get_or (map negate c) k d h) in
    subst (LitWithin vars) m.2 (All-contains (LitWithin vars) c m.0 w m.1)
