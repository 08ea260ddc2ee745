-- What holds of a propagator's fields still, when a clause comes or goes and when levels are taken back.
use Rattle.std.proofs.Common.{◌≡◌, ◌≢◌, ℕ, ◌<◌, ◌≤◌, Bool, true, false, List, [], ◌∷◌, ◌++◌, length, get_or, set, take, refl, sym, ◌∙◌, ap, subst, inl, inr, arith}
use Rattle.std.specs.Prelude.{Contains, Option, Some, None, Ok, is_some}
use Rattle.std.proofs.lemmas.Bool.{cases_eq, cases_lt, false≢true}
use Rattle.std.proofs.lemmas.List.{get_or-take, length-take, take-take, get_or_default, length_push, get_or-set_same, get_or-set_other, length-set}
use Rattle.cnf_form.specs.Cnf.{LitOf, negate, ClauseWithin}
use Rattle.cnf_form.proofs.Members.{Contains-empty}
use Rattle.unit_propagation.specs.declared.watch.Head.{Head}
use Rattle.unit_propagation.specs.declared.watch.Watch.{Watch}
use Rattle.unit_propagation.specs.Propagation.{IsConsistent, IsFixpoint, HasFalsified}
use Rattle.unit_propagation.specs.Propagator.{slot_at, clauses_of}
use Rattle.unit_propagation.specs.Visit.{State, IsKept, AllKept, IsFiled, Walks, SettleFits}
use Rattle.unit_propagation.specs.Inside.{IsPropagator}
use Rattle.unit_propagation.proofs.Slots.{clauses_of-slot, clauses_of-contains}
use Rattle.unit_propagation.proofs.Watched.{kept_settled}
use Rattle.unit_propagation.proofs.Filing.{kept_push, slot_new, slot_before, some_below}

-- filing says nothing of the trail
pub filed_trail : (slots : List (Option (List LitOf))) (s : State) (pairs : List (List Watch)) (t : List LitOf) → IsFiled slots s pairs → IsFiled slots (record s { trail = t }) pairs
filed_trail slots s pairs t f = record { entries = f.entries; pair_entries = f.pair_entries; wide = f.wide; long = f.long; short = f.short }

-- a prefix of a trail
pub taken : (t : List LitOf) (n : ℕ) (l : LitOf) → Contains (take n t) l → Contains t l
taken t n l h = (h.0, omega (arith, h.1, length-take n t), sym (get_or-take n t h.0 l (omega (arith, h.1, length-take n t))) ∙ h.2)

pub consistent_prefix : (t : List LitOf) (n : ℕ) → IsConsistent t → IsConsistent (take n t)
consistent_prefix t n ok = record { apart = λ l h k. ok.apart l (taken t n l h) (taken t n (negate l) k) }

module _ (vars : ℕ) (slots : List (Option (List LitOf))) (s : State) (pairs : List (List Watch)) (limits : List ℕ) (conflict : Bool) (v : IsPropagator vars slots s pairs limits conflict) where
  pub fixpoint : conflict ≡ false → IsFixpoint s.trail (clauses_of slots)
  fixpoint e c h =
      let w = clauses_of-slot slots c h in
      let all = v.now e in
      elim (cases_lt w.0 (length s.heads)) [
        | inl i ↦ let d : Head = record { start = 0; from = 0; left = record { var = 0; negated = true }; right = record { var = 0; negated = true } } in
            kept_settled s.trail s.trail (slot_at slots w.0) (get_or s.heads w.0 d) (all w.0 d i) c w.2 v.consistent (λ l k. k)
        | inr i ↦ absurd (omega (arith, i, w.1, v.count))
      ]

  -- a clause came, at level 0
  pub with_clause : (c : List LitOf) (h : Head) (rows' pairs' : List (List Watch)) (conflict' : Bool) → limits ≡ [] → ClauseWithin vars c
      → IsFiled (slots ++ Some c ∷ []) (record { heads = s.heads ++ h ∷ []; rows = rows'; trail = s.trail }) pairs'
      → (conflict' ≡ false → (conflict ≡ false) × IsKept s.trail s.trail (Some c) h)
      → IsPropagator vars (slots ++ Some c ∷ []) (record { heads = s.heads ++ h ∷ []; rows = rows'; trail = s.trail }) pairs' limits conflict'
  with_clause c h rows' pairs' conflict' zero within filed kept = record {
    count = omega (arith, v.count, length_push slots (Some c), length_push s.heads h);
    filed = filed;
    within = λ j c' e. elim (cases_eq j (length slots)) [
      | inl g ↦ let f : Some c ≡ Some c' = sym (slot_new slots (Some c) j (sym g)) ∙ e in let same : c ≡ c' = cc in subst (ClauseWithin vars) same within
      | inr ne ↦ let inside = some_below (slots ++ Some c ∷ []) j c' e in v.within j c' (sym (slot_before slots (Some c) j (omega (arith, inside, ne, length_push slots (Some c)))) ∙ e)
    ];
    consistent = v.consistent;
    now = λ e. let k = kept e in kept_push slots s pairs (length slots) refl (sym v.count) s.trail s.trail (Some c) h (v.now k.0) k.1;
    levels = λ n k. absurd (Contains-empty n (subst (λ z. Contains z n) zero k));
    rising = λ i j d h k. absurd (omega (arith, k, ap length zero));
  }

  -- a clause went, at level 0
  pub less_clause : (n : ℕ) (slots' : List (Option (List LitOf))) (s' : State) (pairs' : List (List Watch)) → limits ≡ [] → s'.trail ≡ s.trail → n < length slots → slots' ≡ set slots n None → length s'.heads ≡ length s.heads → IsFiled slots' s' pairs'
      → ((p t : List LitOf) → ((j : ℕ) (d : Head) → j < length s.heads → j ≢ n → IsKept p t (slot_at slots j) (get_or s.heads j d)) → AllKept p t slots' s'.heads)
      → IsPropagator vars slots' s' pairs' limits conflict
  less_clause n slots' s' pairs' zero same_trail room e count filed kept = record {
    count = omega (arith, count, v.count, ap length e, length-set slots n None);
    filed = filed;
    within = λ j c k.
        let k' : slot_at (set slots n None) j ≡ Some c = subst (λ z. slot_at z j ≡ Some c) e k in
        let ne : j ≢ n = λ g. let f : None ≡ Some c = sym (get_or-set_same slots n None None room) ∙ subst (λ z. slot_at (set slots n None) z ≡ Some c) g k' in cc in
        v.within j c (sym (get_or-set_other slots n j None None ne) ∙ k');
    consistent = subst IsConsistent (sym same_trail) v.consistent;
    now = λ g. rw same_trail (kept s.trail s.trail (λ j d h ne. let all = v.now g in all j d h));
    levels = λ i k. absurd (Contains-empty i (subst (λ z. Contains z i) zero k));
    rising = λ i j d h k. absurd (omega (arith, k, ap length zero));
  }

  -- levels are taken back
  pub undone : (level limit : ℕ) → level < length limits → limit ≡ get_or limits level limit
      → IsPropagator vars slots (record s { trail = take limit s.trail }) pairs (take level limits) false
  undone level limit room read =
      let base = v.levels limit (level, room, sym read) in
      record {
        count = v.count;
        filed = filed_trail slots s pairs (take limit s.trail) v.filed;
        within = v.within;
        consistent = consistent_prefix s.trail limit v.consistent;
        now = λ e. base.1;
        levels = λ n k.
            let low : k.0 < level = omega (arith, k.1, length-take level limits) in
            let is : get_or limits k.0 n ≡ n = sym (get_or-take level limits k.0 n low) ∙ k.2 in
            let up : n ≤ limit = (let r = v.rising k.0 level n (omega (arith, low)) room in let a : get_or limits level n ≡ limit = get_or_default limits level n limit room ∙ sym read in omega (arith, r, is, a)) in
            let x = v.levels n (k.0, omega (arith, low, room), is) in (
              omega (arith, up, length-take limit s.trail, x.0),
              subst (λ z. AllKept z z slots s.heads) (sym (take-take n limit s.trail up)) x.1,
            );
        rising = λ i j d h k.
            let short = length-take level limits in
            let r = v.rising i j d h (omega (arith, k, short)) in
            let a = get_or-take level limits i d (omega (arith, h, k, short)) in
            let b = get_or-take level limits j d (omega (arith, k, short)) in
            omega (arith, r, a, b);
      }

-- what a run of propagation that ended leaves
pub settle_ok : (slots : List (Option (List LitOf))) (pairs : List (List Watch)) (old new : State) (base : List LitOf) (o : Option ℕ) → SettleFits slots pairs old new base (Ok o)
    → Walks slots pairs old new × (is_some o ≡ false → AllKept new.trail new.trail slots new.heads) × (is_some o ≡ true → HasFalsified new.trail (clauses_of slots))
settle_ok slots pairs old new base None f = (f.0, λ e. f.1, λ e. absurd (false≢true e))
settle_ok slots pairs old new base (Some k) f = (f.0, λ e. absurd (false≢true (sym e)), λ e. (f.1, clauses_of-contains slots k f.1 f.2, f.3))

-- the clauses are within bounds beside a new one
pub within_push : (vars : ℕ) (slots : List (Option (List LitOf))) (c : List LitOf) → ((j : ℕ) (c' : List LitOf) → slot_at slots j ≡ Some c' → ClauseWithin vars c') → ClauseWithin vars c
    → (j : ℕ) (c' : List LitOf) → slot_at (slots ++ Some c ∷ []) j ≡ Some c' → ClauseWithin vars c'
within_push vars slots c old new j c' e = elim (cases_eq j (length slots)) [
  | inl g ↦ let f : Some c ≡ Some c' = sym (slot_new slots (Some c) j (sym g)) ∙ e in let same : c ≡ c' = cc in subst (ClauseWithin vars) same new
  | inr ne ↦ let inside = some_below (slots ++ Some c ∷ []) j c' e in old j c' (sym (slot_before slots (Some c) j (omega (arith, inside, ne, length_push slots (Some c)))) ∙ e)
]
