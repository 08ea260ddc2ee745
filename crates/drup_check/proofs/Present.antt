-- The clauses that are present, after one came or went.
use Rattle.std.proofs.Common.{◌≡◌, ℕ, ◌+◌, ◌<◌, ◌≤◌, Bool, true, false, List, [], ◌∷◌, ◌++◌, length, set, take, refl, sym, ◌∙◌, ap, subst, inl, inr, arith, zero, suc}
use Rattle.std.specs.Prelude.{Contains, Option, Some, None}
use Rattle.std.proofs.lemmas.Bool.{cases_Bool, cases_eq, cases_lt}
use Rattle.std.proofs.lemmas.List.{get_or-set_same, get_or-set_other, get_or_past, get_or_default, get_or_append_left, get_or_push, length_push, length-set}
use Rattle.std.proofs.lemmas.List.Elements.{Contains-append_left}
use Rattle.cnf_form.specs.Cnf.{LitOf, SameClause, Conflict, IsReason, Removes, first, later, Deletes}
use Rattle.cnf_form.proofs.Members.{take_one_more, Contains-empty}
use Rattle.cnf_form.proofs.Removal.{Closure-monotone, Closure-without, Removes-cases}
use Rattle.unit_propagation.specs.Propagation.{HasFalsified, IsDerived}
use Rattle.unit_propagation.specs.Propagator.{PropagatorOf, clauses_of, present, slot_at, IsAdded, IsOutOfMemory}
use Rattle.drup_check.specs.Marks.{HasPlaces, Weighs, weight}
use Rattle.drup_check.specs.Copies.{CopiesOf, Holds, beginning, after}
use Rattle.drup_check.specs.Inside.{IsRoot, IsFree, IsFiled, Keeps}
use Rattle.drup_check.specs.Checking.{CheckerOf}
use Rattle.unit_propagation.specs.Marks.{Shows}
use Rattle.unit_propagation.proofs.Slots.{clauses_of-slot, clauses_of-contains}
use Rattle.drup_check.proofs.Weights.{weighs_same, free_push}

pub clauses_push : (slots : List (Option (List LitOf))) (c : List LitOf) → clauses_of (slots ++ Some c ∷ []) ≡ clauses_of slots ++ c ∷ []
clauses_push [] c = refl
clauses_push (Some d ∷ ss) c = ap (λ z. d ∷ z) (clauses_push ss c)
clauses_push (None ∷ ss) c = clauses_push ss c

clauses_none : (slots : List (Option (List LitOf))) → clauses_of (slots ++ None ∷ []) ≡ clauses_of slots
clauses_none [] = refl
clauses_none (Some d ∷ ss) = ap (λ z. d ∷ z) (clauses_none ss)
clauses_none (None ∷ ss) = clauses_none ss

pub removes_at : (slots : List (Option (List LitOf))) (k : ℕ) (c d : List LitOf) → slot_at slots k ≡ Some d → SameClause c d → Removes c (clauses_of slots) (clauses_of (set slots k None))
removes_at [] k c d e s = absurd (let f : None ≡ Some d = e in cc)
removes_at (Some x ∷ ss) zero c d e s = let f : x ≡ d = cc in first x (clauses_of ss) (subst (SameClause c) (sym f) s)
removes_at (None ∷ ss) zero c d e s = absurd (let f : None ≡ Some d = e in cc)
removes_at (Some x ∷ ss) (suc k) c d e s = later x (clauses_of ss) (clauses_of (set ss k None)) (removes_at ss k c d e s)
removes_at (None ∷ ss) (suc k) c d e s = removes_at ss k c d e s

pub slot_room : (slots : List (Option (List LitOf))) (k : ℕ) (d : List LitOf) → slot_at slots k ≡ Some d → k < length slots
slot_room slots k d e =
    elim (cases_lt k (length slots)) [
      | inl h ↦ h
      | inr h ↦ absurd (let f : slot_at slots k ≡ None = get_or_past slots k None (omega (arith, h)) in let g : None ≡ Some d = sym f ∙ e in cc)
    ]

module _ (F G : List (List LitOf)) (more : (c : List LitOf) → Contains F c → Contains G c) (t : List LitOf) where
  derived_more : IsDerived F t → IsDerived G t
  derived_more d = record { each = λ l h. Closure-monotone more (d.each l h) }

  falsified_more : HasFalsified t F → HasFalsified t G
  falsified_more w = (w.0, more w.0 w.1, w.2)

module _ (p q : PropagatorOf) (c : List LitOf) (r : IsRoot p) (w : IsAdded p c q) where
  more : (d : List LitOf) → Contains (clauses_of p.slots) d → Contains (clauses_of q.slots) d
  more d h = subst (λ z. Contains z d) (sym (ap clauses_of w.slots ∙ clauses_push p.slots c)) (Contains-append_left (clauses_of p.slots) (c ∷ []) d h)

  pub root_added : IsRoot q
  root_added = record { level = w.limits ∙ r.level; derived = derived; falsified = falsified }
    where
      derived : IsDerived (clauses_of q.slots) q.trail
      derived = elim (cases_Bool p.conflict) [
        | inl y ↦ let a = w.after y in subst (IsDerived (clauses_of q.slots)) (sym a.0) (derived_more _ _ more p.trail r.derived)
        | inr n ↦ let g = w.propagated n in g.derived (clauses_of q.slots) (record { each = λ d h. h }) (derived_more _ _ more p.trail r.derived)
      ]

      falsified : q.conflict ≡ true → HasFalsified q.trail (clauses_of q.slots)
      falsified e = elim (cases_Bool p.conflict) [
        | inl y ↦ let a = w.after y in subst (λ z. HasFalsified z (clauses_of q.slots)) (sym a.0) (falsified_more _ _ more p.trail (r.falsified y))
        | inr n ↦ w.falsified n e
      ]

  pub filed_added : (salt : ℕ) (t t' : CopiesOf) (h n : ℕ) → IsFiled p salt t → ((a k : ℕ) → Holds t a k → Holds t' a k) → n ≡ length p.slots
      → t'.count ≡ n + 1 → n < length t'.nexts → Weighs salt c h → Holds t' h n → IsFiled q salt t'
  filed_added salt t t' h n f keeps size count place weighs held = record { each = each; counted = omega (arith, size, count, grown); placed = omega (arith, size, place, grown) }
    where
      grown : length q.slots ≡ length p.slots + 1
      grown = ap length w.slots ∙ length_push p.slots (Some c)

      each : (k : ℕ) (d : List LitOf) → slot_at q.slots k ≡ Some d → (a : ℕ) × Weighs salt d a × Holds t' a k
      each k d e =
          let e' : slot_at (p.slots ++ Some c ∷ []) k ≡ Some d = subst (λ z. slot_at z k ≡ Some d) w.slots e in
          elim (cases_eq k (length p.slots)) [
            | inl s ↦ let g : Some c ≡ Some d = sym (get_or_push p.slots (Some c) None k (sym s)) ∙ e' in
                let same : c ≡ d = cc in
                (h, subst (λ z. Weighs salt z h) same weighs, subst (Holds t' h) (size ∙ sym s) held)
            | inr ne ↦ let inside : k < length p.slots = omega (arith, slot_room (p.slots ++ Some c ∷ []) k d e', length_push p.slots (Some c), ne) in
                let v = f.each k d (sym (get_or_append_left p.slots (Some c ∷ []) None k inside) ∙ e') in
                (v.0, v.1, keeps v.0 k v.2)
          ]

module _ (p q : PropagatorOf) (w : IsOutOfMemory p q) where
  pub clauses_out_of_memory : clauses_of q.slots ≡ clauses_of p.slots
  clauses_out_of_memory = elim w.0 [ inl e ↦ ap clauses_of e | inr e ↦ ap clauses_of e ∙ clauses_none p.slots ]

  slots_of_out_of_memory : (r : PropagatorOf) → r ≡ record p { slots = q.slots } → (r.vars ≡ p.vars) × (r.limits ≡ p.limits) × (r.trail ≡ p.trail) × (r.conflict ≡ p.conflict)
  slots_of_out_of_memory r e = (ap (λ (z : PropagatorOf). z.vars) e, ap (λ (z : PropagatorOf). z.limits) e, ap (λ (z : PropagatorOf). z.trail) e, ap (λ (z : PropagatorOf). z.conflict) e)

  pub root_out_of_memory : IsRoot p → IsRoot q
  root_out_of_memory r =
      let s = slots_of_out_of_memory q w.1 in
      record {
        level = s.1 ∙ r.level;
        derived = subst (λ z. IsDerived z q.trail) (sym clauses_out_of_memory) (subst (IsDerived (clauses_of p.slots)) (sym s.2) r.derived);
        falsified = λ e. subst (HasFalsified q.trail) (sym clauses_out_of_memory) (subst (λ z. HasFalsified z (clauses_of p.slots)) (sym s.2) (r.falsified (sym s.3 ∙ e)));
      }

  pub filed_out_of_memory : (salt : ℕ) (t t' : CopiesOf) → ((a k : ℕ) → Holds t a k → Holds t' a k) → t'.count ≡ t.count → length t'.nexts ≡ length t.nexts + 1 → IsFiled p salt t → IsFiled q salt t'
  filed_out_of_memory salt t t' keeps count place f = record { each = each; counted = omega (arith, count, f.counted, grown.0); placed = omega (arith, place, f.placed, grown.1) }
    where
      grown : (length p.slots ≤ length q.slots) × (length q.slots ≤ length p.slots + 1)
      grown = elim w.0 [
        | inl s ↦ let e = ap length s in (omega (arith, e), omega (arith, e))
        | inr s ↦ let e = ap length s ∙ length_push p.slots (let x : Option (List LitOf) = None in x) in (omega (arith, e), omega (arith, e))
      ]

      back : (k : ℕ) (d : List LitOf) → slot_at q.slots k ≡ Some d → slot_at p.slots k ≡ Some d
      back k d e = elim w.0 [
        | inl s ↦ subst (λ z. slot_at z k ≡ Some d) s e
        | inr s ↦ let e' : slot_at (p.slots ++ None ∷ []) k ≡ Some d = subst (λ z. slot_at z k ≡ Some d) s e in
            elim (cases_eq k (length p.slots)) [
              | inl a ↦ absurd (let g : None ≡ Some d = sym (get_or_push p.slots None None k (sym a)) ∙ e' in cc)
              | inr ne ↦ let inside : k < length p.slots = omega (arith, slot_room (p.slots ++ None ∷ []) k d e', length_push p.slots (let x : Option (List LitOf) = None in x), ne) in
                  sym (get_or_append_left p.slots (None ∷ []) None k inside) ∙ e'
            ]
      ]

      each : (k : ℕ) (d : List LitOf) → slot_at q.slots k ≡ Some d → (a : ℕ) × Weighs salt d a × Holds t' a k
      each k d e =
          let v = f.each k d (back k d e) in
          (v.0, v.1, keeps v.0 k v.2)

-- the slots up to one of them, as a loop reads it
module _ (slots : List (Option (List LitOf))) (k : ℕ) (room : k < length slots) where
  pub clauses_more : (c : List LitOf) → slot_at slots k ≡ Some c → clauses_of (take (k + 1) slots) ≡ clauses_of (take k slots) ++ c ∷ []
  clauses_more c e = ap clauses_of (take_one_more slots k (Some c) room (sym e ∙ get_or_default slots k None (Some c) room)) ∙ clauses_push (take k slots) c

  pub clauses_same : slot_at slots k ≡ None → clauses_of (take (k + 1) slots) ≡ clauses_of (take k slots)
  clauses_same e = ap clauses_of (take_one_more slots k None room (sym e)) ∙ clauses_none (take k slots)

-- a clause is removed that is no reason
module _ (p : PropagatorOf) (k : ℕ) (c d : List LitOf) (at : slot_at p.slots k ≡ Some d) (same : SameClause c d) where
  abbrev without : PropagatorOf
  without = record p { slots = set p.slots k None }

  pub root_without : IsRoot p → p.conflict ≡ false → (IsReason (clauses_of p.slots) c → ⊥) → IsRoot without
  root_without r free kept = record {
    level = r.level;
    derived = record {
      each = λ l h. let g = r.derived in
          Closure-without (clauses_of p.slots) (clauses_of (set p.slots k None)) c (λ e q. Removes-cases (removes_at p.slots k c d at same) e q) kept (g.each l h);
    };
    falsified = λ e. absurd (let f : true ≡ false = sym e ∙ free in cc);
  }

  pub filed_without : (salt : ℕ) (t : CopiesOf) → IsFiled p salt t → IsFiled without salt t
  filed_without salt t f = record { each = each; counted = omega (arith, f.counted, same_size); placed = omega (arith, f.placed, same_size) }
    where
      same_size : length (set p.slots k None) ≡ length p.slots
      same_size = length-set p.slots k None

      each : (j : ℕ) (x : List LitOf) → slot_at (set p.slots k None) j ≡ Some x → (a : ℕ) × Weighs salt x a × Holds t a j
      each j x e =
          elim (cases_eq j k) [
            | inl s ↦ absurd (let g : None ≡ Some x = sym (get_or-set_same p.slots k None None (slot_room p.slots k d at)) ∙ subst (λ n. slot_at (set p.slots k None) n ≡ Some x) s e in cc)
            | inr ne ↦ let v = f.each j x (sym (get_or-set_other p.slots k j None None ne) ∙ e) in (v.0, v.1, v.2)
          ]

  pub less_without : (x : List LitOf) → Contains (clauses_of (set p.slots k None)) x → Contains (clauses_of p.slots) x
  less_without x h =
      let j = clauses_of-slot (set p.slots k None) x h in
      elim (cases_eq j.0 k) [
        | inl s ↦ absurd (let g : None ≡ Some x = sym (get_or-set_same p.slots k None None (slot_room p.slots k d at)) ∙ subst (λ n. slot_at (set p.slots k None) n ≡ Some x) s j.2 in cc)
        | inr ne ↦ clauses_of-contains p.slots j.0 x (sym (get_or-set_other p.slots k j.0 None None ne) ∙ j.2)
      ]

  pub deletes_without : IsRoot p → p.conflict ≡ false → (Conflict (clauses_of p.slots) → ⊥) → (IsReason (clauses_of p.slots) c → ⊥) → Deletes (clauses_of p.slots) c (clauses_of (set p.slots k None))
  deletes_without r free calm kept = inl (removes_at p.slots k c d at same, calm, kept)

-- a search leaves what is present on its chain
pub filed_kept : (p : PropagatorOf) (salt : ℕ) (t t' : CopiesOf) → Keeps p.slots t t' → IsFiled p salt t → IsFiled p salt t'
filed_kept p salt t t' k f = record {
  each = λ j c e. let v = f.each j c e in (v.0, v.1, k.each v.0 j c e v.2);
  counted = omega (arith, k.count, f.counted);
  placed = omega (arith, k.places, f.placed);
}

-- the clauses below a number are on their chains
abbrev pub IsFiledTo : PropagatorOf → ℕ → CopiesOf → ℕ → Type 0
IsFiledTo p salt t k = (j : ℕ) (d : List LitOf) → j < k → slot_at p.slots j ≡ Some d → (h : ℕ) × Weighs salt d h × Holds t h j

pub filed_more : (p : PropagatorOf) (salt : ℕ) (t t' : CopiesOf) (k h : ℕ) (c : List LitOf) → slot_at p.slots k ≡ Some c → Weighs salt c h → Holds t' h k → ((a j : ℕ) → Holds t a j → Holds t' a j)
    → IsFiledTo p salt t k → IsFiledTo p salt t' (k + 1)
filed_more p salt t t' k h c at weighs held keeps f j d b e =
    elim (cases_eq j k) [
      | inl q ↦ let g : Some c ≡ Some d = sym at ∙ subst (λ z. slot_at p.slots z ≡ Some d) q e in
          let same : c ≡ d = cc in
          (h, subst (λ z. Weighs salt z h) same weighs, subst (Holds t' h) (sym q) held)
      | inr ne ↦ let v = f j d (omega (arith, b, ne)) e in (v.0, v.1, keeps v.0 j v.2)
    ]

pub filed_none : (p : PropagatorOf) (salt : ℕ) (t : CopiesOf) (k : ℕ) → slot_at p.slots k ≡ None → IsFiledTo p salt t k → IsFiledTo p salt t (k + 1)
filed_none p salt t k at f j d b e =
    elim (cases_eq j k) [
      | inl q ↦ absurd (let g : None ≡ Some d = sym at ∙ subst (λ z. slot_at p.slots z ≡ Some d) q e in cc)
      | inr ne ↦ f j d (omega (arith, b, ne)) e
    ]

pub checker_out_of_memory : (p q : PropagatorOf) (salt : ℕ) (t t' : CopiesOf) (marks others : List Bool) → IsOutOfMemory p q → ((a k : ℕ) → Holds t a k → Holds t' a k)
    → t'.count ≡ t.count → length t'.nexts ≡ length t.nexts + 1 → IsRoot p → IsFree (clauses_of p.slots) marks → IsFree (clauses_of p.slots) others → IsFiled p salt t
    → IsRoot q × IsFree (clauses_of q.slots) marks × IsFree (clauses_of q.slots) others × IsFiled q salt t'
checker_out_of_memory p q salt t t' marks others w keeps count place r m o f =
    let e = sym (clauses_out_of_memory p q w) in
    (root_out_of_memory p q w r, subst (λ F. IsFree F marks) e m, subst (λ F. IsFree F others) e o, filed_out_of_memory p q w salt t t' keeps count place f)

pub checker_added : (p q : PropagatorOf) (c : List LitOf) (salt : ℕ) (t t' : CopiesOf) (marks others : List Bool) (h n : ℕ) → IsAdded p c q → ((a k : ℕ) → Holds t a k → Holds t' a k)
    → n ≡ length p.slots → t'.count ≡ n + 1 → n < length t'.nexts → Weighs salt c h → Holds t' h n → IsRoot p → HasPlaces marks c → HasPlaces others c
    → IsFree (clauses_of p.slots) marks → IsFree (clauses_of p.slots) others → IsFiled p salt t → IsRoot q × IsFree (clauses_of q.slots) marks × IsFree (clauses_of q.slots) others × IsFiled q salt t'
checker_added p q c salt t t' marks others h n w keeps size count place weighs held r in_marks in_others m o f =
    let e = sym (ap clauses_of w.slots ∙ clauses_push p.slots c) in (
      root_added p q c r w,
      subst (λ F. IsFree F marks) e (free_push (clauses_of p.slots) c marks in_marks m),
      subst (λ F. IsFree F others) e (free_push (clauses_of p.slots) c others in_others o),
      filed_added p q c r w salt t t' h n f keeps size count place weighs held,
    )

pub checker_of : (v v' : ℕ) (F G : List (List LitOf)) (r o : Bool) → v ≡ v' → F ≡ G → (let k : CheckerOf = record { vars = v; clauses = F; refuted = r; out_of_memory = o } in k) ≡ record { vars = v'; clauses = G; refuted = r; out_of_memory = o }
checker_of v v' F G r o e f =
    let mk : ℕ → List (List LitOf) → CheckerOf = λ a b. record { vars = a; clauses = b; refuted = r; out_of_memory = o } in
    ap (λ a. mk a F) e ∙ ap (mk v') f

-- no copy is found where its chain has none
pub not_present : (p : PropagatorOf) (salt : ℕ) (t : CopiesOf) (marks : List Bool) (c : List LitOf) (w : ℕ) → w ≡ weight salt marks → Shows marks c
    → ((n k : ℕ) (d : List LitOf) → after t.nexts (beginning t.firsts w) n ≡ k + 1 → slot_at p.slots k ≡ Some d → SameClause c d → ⊥) → IsFiled p salt t → (d : List LitOf) → Contains (clauses_of p.slots) d → SameClause c d → ⊥
not_present p salt t marks c w e shows none f d h s =
    let k = clauses_of-slot p.slots d h in
    let v = f.each k.0 d k.2 in
    let same : w ≡ v.0 = e ∙ weighs_same salt v.0 marks c d v.1 shows s in
    let held = v.2 in
    none held.steps k.0 d (ap (λ a. after t.nexts (beginning t.firsts a) held.steps) same ∙ held.there) k.2 s

-- only the clauses that are present stay
clauses_present : (slots : List (Option (List LitOf))) → clauses_of (present slots) ≡ clauses_of slots
clauses_present [] = refl
clauses_present (Some c ∷ ss) = ap (λ z. c ∷ z) (clauses_present ss)
clauses_present (None ∷ ss) = clauses_present ss

length-present : (slots : List (Option (List LitOf))) → length (present slots) ≤ length slots
length-present [] = omega arith
length-present (Some c ∷ ss) = omega (arith, length-present ss)
length-present (None ∷ ss) = omega (arith, length-present ss)

module _ (p q : PropagatorOf) (e : q ≡ record p { slots = present p.slots }) where
  pub clauses_collected : clauses_of q.slots ≡ clauses_of p.slots
  clauses_collected = ap (λ (z : PropagatorOf). clauses_of z.slots) e ∙ clauses_present p.slots

  pub fewer_collected : length q.slots ≤ length p.slots
  fewer_collected = omega (arith, ap (λ (z : PropagatorOf). length z.slots) e, length-present p.slots)

  pub root_collected : IsRoot p → IsRoot q
  root_collected r = subst IsRoot (sym e) (record {
    level = r.level;
    derived = subst (λ F. IsDerived F p.trail) (sym (clauses_present p.slots)) r.derived;
    falsified = λ c. subst (HasFalsified p.trail) (sym (clauses_present p.slots)) (r.falsified c);
  })

-- what holds at the beginning, when there are no clauses
pub root_fresh : (p : PropagatorOf) → p.slots ≡ [] → p.trail ≡ [] → p.limits ≡ [] → p.conflict ≡ false → IsRoot p
root_fresh p s t l c = record {
  level = l;
  derived = record { each = λ m h. absurd (Contains-empty m (subst (λ z. Contains z m) t h)) };
  falsified = λ g. absurd (let f : false ≡ true = sym c ∙ g in cc);
}

pub filed_fresh : (p : PropagatorOf) (salt : ℕ) (t : CopiesOf) → p.slots ≡ [] → t.count ≡ 0 → IsFiled p salt t
filed_fresh p salt t s n = record {
  each = λ k c e. absurd (let f : None ≡ Some c = sym (ap (λ z. slot_at z k) s) ∙ e in cc);
  counted = omega (arith, n);
  placed = omega (arith, ap length s);
}
