-- Resolvents, and indices of clauses.
use Rattle.std.proofs.Common.{◌≡◌, ◌≢◌, List, [], ◌∷◌, ◌++◌, sym, ap, subst, ◌∙◌, inl, inr}
use Rattle.std.specs.Prelude.{Contains, Some}
use Rattle.std.proofs.lemmas.List.Elements.{Contains-append_left, Contains-push, Contains-push_cases}
use Rattle.cnf_form.specs.Cnf.{LitOf, negate, Closure, propagated, negated_units, IsAdmitted}
use Rattle.cnf_form.proofs.Literals.{lit_cases, negate-negate}
use Rattle.unit_propagation.specs.Propagator.{PropagatorOf, clauses_of}
use Rattle.frozen_clauses.specs.Frozen.{FrozenOf}
use Rattle.cdcl_core.specs.Logged.{IsNew}
use Rattle.cdcl_core.specs.Searching.{IsIndexed}
use Rattle.cdcl_core.proofs.Analyses.{negated_derived}
use Rattle.cdcl_core.proofs.Justified.{clauses_push}

-- a clause that has all literals of two others but one and its negation
pub resolvent_admitted : (F : List (List LitOf)) (a b c : List LitOf) (v : LitOf) → Contains F a → Contains F b → Contains a v → ((m : LitOf) → Contains a m → m ≢ v → Contains c m) → ((m : LitOf) → Contains b m → m ≢ negate v → Contains c m) → IsAdmitted F c
resolvent_admitted F a b c v ha hb ia ra rb =
    let G = F ++ negated_units c in
    let on : Closure G v = propagated a v (Contains-append_left F (negated_units c) a ha) ia (λ m i n. negated_derived F c m (ra m i n)) in (
      b,
      Contains-append_left F (negated_units c) b hb,
      λ l h. elim (lit_cases l (negate v)) [
        | inl q ↦ subst (λ z. Closure G (negate z)) (sym q) (subst (Closure G) (sym (negate-negate v)) on)
        | inr n ↦ negated_derived F c l (rb l h n)
      ],
    )

-- what is new to an index is so to the watched clauses
pub new_indexed : (p : PropagatorOf) (z : FrozenOf) (c : List LitOf) → IsIndexed p z → ((e : List LitOf) → Contains (clauses_of z.slots) e → ((l : LitOf) → Contains e l → Contains c l) → ⊥) → IsNew (clauses_of p.slots) c
new_indexed p z c w none = record { apart = λ e h sub. (let a = w.all in none e (a.each e h) sub) }

-- a clause that the index has is added, or one is added to the index
pub indexed_added : (p q : PropagatorOf) (z : FrozenOf) (c : List LitOf) → q.vars ≡ p.vars → q.slots ≡ p.slots ++ Some c ∷ [] → Contains (clauses_of z.slots) c → IsIndexed p z → IsIndexed q z
indexed_added p q z c v s has w = record {
  vars = w.vars ∙ sym v;
  all = record {
    each = λ d h. elim (Contains-push_cases (clauses_of p.slots) c d (subst (λ x. Contains x d) (ap clauses_of s ∙ clauses_push p.slots c) h)) [
      | inl k ↦ (let a = w.all in a.each d k)
      | inr e ↦ subst (Contains (clauses_of z.slots)) e has
    ];
  };
}

pub indexed_more : (p : PropagatorOf) (z y : FrozenOf) (c : List LitOf) → y ≡ record z { slots = z.slots ++ Some c ∷ [] } → IsIndexed p z → IsIndexed p y
indexed_more p z y c e w = record {
  vars = ap (λ (x : FrozenOf). x.vars) e ∙ w.vars;
  all = record {
    each = λ d h. (let a = w.all in subst (λ x. Contains x d) (sym (ap (λ (x : FrozenOf). clauses_of x.slots) e ∙ clauses_push z.slots c)) (Contains-append_left (clauses_of z.slots) (c ∷ []) d (a.each d h)));
  };
}

pub indexed_has : (z y : FrozenOf) (c : List LitOf) → y ≡ record z { slots = z.slots ++ Some c ∷ [] } → Contains (clauses_of y.slots) c
indexed_has z y c e = subst (λ x. Contains x c) (sym (ap (λ (x : FrozenOf). clauses_of x.slots) e ∙ clauses_push z.slots c)) (Contains-push (clauses_of z.slots) c)
