-- Clauses that are added on a level, and levels that a decision opens.
use Rattle.std.proofs.Common.{◌≡◌, ◌≢◌, ℕ, ◌<◌, ◌≤◌, Bool, true, false, List, [], ◌∷◌, ◌++◌, length, get_or, take, refl, sym, ◌∙◌, ap, subst, inl, inr, arith, append_assoc}
use Rattle.std.specs.Prelude.{Contains, Option, Some, None, Result, Ok, is_some}
use Rattle.std.specs.declared.alloc.AllocError.{AllocError}
use Rattle.std.proofs.lemmas.Bool.{cases_eq, cases_lt}
use Rattle.std.proofs.lemmas.List.{take-append-le, length-append, length_push}
use Rattle.std.proofs.lemmas.List.Elements.{Contains-append_left, Contains-push}
use Rattle.cnf_form.specs.Cnf.{LitOf, negate, ClauseWithin}
use Rattle.unit_propagation.specs.declared.watch.Head.{Head}
use Rattle.unit_propagation.specs.declared.watch.Watch.{Watch}
use Rattle.unit_propagation.specs.Propagation.{IsConsistent, IsUnassigned, IsFixpoint, IsSatisfied, IsFalsified, IsFalsifiedBut, Propagates}
use Rattle.unit_propagation.specs.Propagator.{PropagatorOf, EndsDecided, slot_at, clauses_of, Same}
use Rattle.unit_propagation.specs.Visit.{State, IsKept, AllKept, IsFiled, Walks, SettleFits}
use Rattle.unit_propagation.specs.Assumption.{AssumeWalks}
use Rattle.unit_propagation.specs.Inside.{IsPropagator}
use Rattle.unit_propagation.proofs.Slots.{clauses_of-slot, clauses_of-contains}
use Rattle.unit_propagation.proofs.Trails.{consistent_push}
use Rattle.unit_propagation.proofs.Visits.{propagates_trans, propagates_unit}
use Rattle.unit_propagation.proofs.Walks.{kept_all_grown}
use Rattle.unit_propagation.proofs.Watched.{kept_settled}
use Rattle.unit_propagation.proofs.Filing.{kept_push, kept_before_last, slot_new, slot_before, some_below}
use Rattle.unit_propagation.proofs.States.{taken, consistent_prefix, within_push}

-- a decision as an assumption
pub decided : (slots : List (Option (List LitOf))) (pairs : List (List Watch)) (s new : State) (l : LitOf) → IsUnassigned s.trail l
    → Walks slots pairs (record s { trail = s.trail ++ l ∷ [] }) new → AssumeWalks slots pairs s new (l ∷ [])
decided slots pairs s new l o w = record {
  assumed = s.trail ++ l ∷ [];
  assumes = record { added = l ∷ []; grown = refl; only = λ m h. h; consistent = λ ok. consistent_push s.trail l ok o };
  walks = w;
}

-- before a literal that became true is dealt with
pub kept_before : (slots : List (Option (List LitOf))) (s : State) (l : LitOf) → AllKept s.trail s.trail slots s.heads → AllKept s.trail (s.trail ++ l ∷ []) slots s.heads
kept_before slots s l k = kept_all_grown s.trail s.trail (s.trail ++ l ∷ []) slots s.heads (λ m i. Contains-append_left s.trail (l ∷ []) m i) k

-- how propagation ended, of a propagator
pub ends_of_settle : (p : PropagatorOf) (slots : List (Option (List LitOf))) (pairs : List (List Watch)) (old new : State) (base : List LitOf) (o : Option ℕ) → p.slots ≡ slots → p.trail ≡ new.trail → p.conflict ≡ is_some o
    → SettleFits slots pairs old new base (Ok o) → EndsDecided p o
ends_of_settle p slots pairs old new base None e g h f = h
ends_of_settle p slots pairs old new base (Some k) e g h f = (h, (f.1, subst (λ z. slot_at z k ≡ Some f.1) (sym e) f.2, subst (λ z. IsFalsified z f.1) (sym g) f.3))

-- of two literals of a clause the first is unassigned, and the second false
pub kept_learnt : (t c : List LitOf) (h : Head) (first second : LitOf) → h.left ≡ first → h.right ≡ second → Contains c first → Contains c second → first ≢ second → (Contains t (negate first) → ⊥)
    → (p : List LitOf) → ((l : LitOf) → Contains p l → Contains t l) → ((Contains p (negate second)) → ⊥) → IsKept p p (Some c) h
kept_learnt t c h first second l r hf hs d opened p less none = record {
  watched = λ _. (
    c,
    refl,
    record {
      left_in = subst (Contains c) (sym l) hf;
      right_in = subst (Contains c) (sym r) hs;
      two = λ e. d (sym l ∙ e ∙ r);
      left_kept = λ k. absurd (opened (less (negate first) (subst (λ z. Contains p (negate z)) l k)));
      right_kept = λ k. absurd (none (subst (λ z. Contains p (negate z)) r k));
    },
  );
  loose = λ e c' f. absurd (d (sym l ∙ e ∙ r));
}

-- the same, once the first is true
pub kept_asserted : (t c : List LitOf) (h : Head) (first second : LitOf) → h.left ≡ first → h.right ≡ second → Contains c first → Contains c second → first ≢ second → IsKept t (t ++ first ∷ []) (Some c) h
kept_asserted t c h first second l r hf hs d =
    let on : IsSatisfied (t ++ first ∷ []) c = record { lit = first; contains = hf; on = Contains-push t first } in
    record {
      watched = λ _. (
        c,
        refl,
        record {
          left_in = subst (Contains c) (sym l) hf;
          right_in = subst (Contains c) (sym r) hs;
          two = λ e. d (sym l ∙ e ∙ r);
          left_kept = λ _. on;
          right_kept = λ _. on;
        },
      );
      loose = λ e c' f. absurd (d (sym l ∙ e ∙ r));
    }

module _ (vars : ℕ) (slots : List (Option (List LitOf))) (s : State) (pairs : List (List Watch)) (limits : List ℕ) (conflict : Bool) (v : IsPropagator vars slots s pairs limits conflict) where
  -- nothing is left to do where a level begins
  pub fixpoint_at : (n : ℕ) → Contains limits n → IsFixpoint (take n s.trail) (clauses_of slots)
  fixpoint_at n k c h =
      let w = clauses_of-slot slots c h in
      let y = v.levels n k in
      let all = y.1 in
      elim (cases_lt w.0 (length s.heads)) [
        | inl i ↦ let d : Head = record { start = 0; from = 0; left = record { var = 0; negated = true }; right = record { var = 0; negated = true } } in
            kept_settled (take n s.trail) (take n s.trail) (slot_at slots w.0) (get_or s.heads w.0 d) (all w.0 d i) c w.2 (consistent_prefix s.trail n v.consistent) (λ l k. k)
        | inr i ↦ absurd (omega (arith, i, w.1, v.count))
      ]

  -- a clause came, on the current level, and what follows from its first literal
  pub learnt : (c : List LitOf) (h : Head) (rows' pairs' : List (List Watch)) (l : LitOf) (new : State) (conflict' : Bool) → ClauseWithin vars c → IsUnassigned s.trail l
      → ((n : ℕ) → Contains limits n → IsKept (take n s.trail) (take n s.trail) (Some c) h)
      → Walks (slots ++ Some c ∷ []) pairs' (record { heads = s.heads ++ h ∷ []; rows = rows'; trail = s.trail ++ l ∷ [] }) new
      → (conflict' ≡ false → AllKept new.trail new.trail (slots ++ Some c ∷ []) new.heads)
      → IsPropagator vars (slots ++ Some c ∷ []) new pairs' limits conflict'
  learnt c h rows' pairs' l new conflict' within opened kept w now =
      let g = w.grown in
      let longer : new.trail ≡ s.trail ++ (l ∷ [] ++ g.added) = g.grown ∙ append_assoc s.trail (l ∷ []) g.added in
      let same : (n : ℕ) → n ≤ length s.trail → take n new.trail ≡ take n s.trail = λ n k. ap (take n) longer ∙ take-append-le n s.trail (l ∷ [] ++ g.added) k in
      record {
        count = omega (arith, v.count, length_push slots (Some c), length_push s.heads h, w.count);
        filed = w.filed;
        within = within_push vars slots c v.within within;
        consistent = g.consistent (consistent_push s.trail l v.consistent opened);
        now = now;
        levels = λ n k.
            let y = v.levels n k in
            let all = kept_push slots s pairs (length slots) refl (sym v.count) (take n s.trail) (take n s.trail) (Some c) h y.1 (kept n k) in (
              omega (arith, y.0, ap length longer, length-append s.trail (l ∷ [] ++ g.added)),
              subst (λ z. AllKept z z (slots ++ Some c ∷ []) new.heads) (sym (same n y.0))
                  (λ j d i. w.below (take n s.trail) j d (λ m q. Contains-append_left s.trail (l ∷ []) m (taken s.trail n m q)) i (all j d (omega (arith, i, w.count)))),
            );
        rising = v.rising;
      }

  -- a clause was filed, and its first literal is true: how propagation ended
  pub settled : (c : List LitOf) (h : Head) (l : LitOf) (rows' pairs' : List (List Watch)) (slots' : List (Option (List LitOf))) (heads' : List Head) (new : State) (r : Result (Option ℕ) AllocError)
      → conflict ≡ false → slots' ≡ slots ++ Some c ∷ [] → heads' ≡ s.heads ++ h ∷ [] → IsFiled slots' (record { heads = heads'; rows = rows'; trail = s.trail }) pairs' → IsKept s.trail (s.trail ++ l ∷ []) (Some c) h
      → (IsFiled slots' (record { heads = heads'; rows = rows'; trail = s.trail }) pairs' → AllKept s.trail (s.trail ++ l ∷ []) slots' heads'
      → SettleFits slots' pairs' (record { heads = heads'; rows = rows'; trail = s.trail ++ l ∷ [] }) new s.trail r)
      → SettleFits (slots ++ Some c ∷ []) pairs' (record { heads = s.heads ++ h ∷ []; rows = rows'; trail = s.trail ++ l ∷ [] }) new s.trail r
  settled c h l rows' pairs' slots' heads' new r free e w filed kept step =
      let all = kept_push slots s pairs (length slots) refl (sym v.count) s.trail (s.trail ++ l ∷ []) (Some c) h (kept_before slots s l (v.now free)) kept in
      subst (λ z. SettleFits (slots ++ Some c ∷ []) pairs' (record { heads = z; rows = rows'; trail = s.trail ++ l ∷ [] }) new s.trail r) w
      (subst (λ z. SettleFits z pairs' (record { heads = heads'; rows = rows'; trail = s.trail ++ l ∷ [] }) new s.trail r) e (step filed (rw (e, w) all)))

  -- no clause came, because memory ran out
  pub unlearnt : (slots' : List (Option (List LitOf))) (s' : State) (pairs' : List (List Watch)) → s'.trail ≡ s.trail → length slots' ≡ length s'.heads → Same slots slots' → IsFiled slots' s' pairs'
      → ((b : List LitOf) → ((l : LitOf) → Contains b l → Contains s.trail l) → AllKept b b slots s.heads → AllKept b b slots' s'.heads) → IsPropagator vars slots' s' pairs' limits conflict
  unlearnt slots' s' pairs' same_trail count same filed kept = record {
    count = count;
    filed = filed;
    within = λ j c e. elim same [
      | inl g ↦ v.within j c (subst (λ z. slot_at z j ≡ Some c) g e)
      | inr g ↦ let e' : slot_at (slots ++ None ∷ []) j ≡ Some c = subst (λ z. slot_at z j ≡ Some c) g e in
          let inside = some_below (slots ++ None ∷ []) j c e' in
          elim (cases_eq j (length slots)) [
            | inl i ↦ absurd (let f : None ≡ Some c = sym (slot_new slots None j (sym i)) ∙ e' in cc)
            | inr ne ↦ v.within j c (sym (slot_before slots None j (omega (arith, inside, ne, (let o : Option (List LitOf) = None in length_push slots o)))) ∙ e')
          ]
    ];
    consistent = subst IsConsistent (sym same_trail) v.consistent;
    now = λ e. rw same_trail (kept s.trail (λ l i. i) (v.now e));
    levels = λ n k. let y = v.levels n k in rw same_trail (y.0, kept (take n s.trail) (λ l i. taken s.trail n l i) y.1);
    rising = v.rising;
  }

  -- each clause but the new one is kept as before, where propagation kept what was kept
  pub kept_less : (c : List LitOf) (h : Head) (hs : List Head) (b : List LitOf) → length hs ≡ length (s.heads ++ h ∷ []) → AllKept b b slots s.heads
      → ((j : ℕ) (d : Head) → j < length hs → IsKept b b (slot_at (slots ++ Some c ∷ []) j) (get_or (s.heads ++ h ∷ []) j d) → IsKept b b (slot_at (slots ++ Some c ∷ []) j) (get_or hs j d))
      → (n : ℕ) → length slots ≡ n → (j : ℕ) (d : Head) → j < length hs → j ≢ n → IsKept b b (slot_at (slots ++ Some c ∷ []) j) (get_or hs j d)
  kept_less c h hs b size all below n e j d k ne = below j d k (kept_before_last b b slots s.heads (Some c) h n e (sym v.count ∙ e) all j d (omega (arith, k, size)) ne)

-- a clause with one unassigned literal, and what follows when that becomes true
pub learnt_grown : (slots : List (Option (List LitOf))) (s : State) (c : List LitOf) (l : LitOf) → Contains c l → IsFalsifiedBut s.trail c l → IsUnassigned s.trail l → (t : List LitOf)
    → Propagates (clauses_of (slots ++ Some c ∷ [])) (s.trail ++ l ∷ []) t → Propagates (clauses_of (slots ++ Some c ∷ [])) s.trail t
learnt_grown slots s c l contains unit o t p =
    propagates_trans (clauses_of (slots ++ Some c ∷ [])) s.trail (s.trail ++ l ∷ []) t
    (propagates_unit (clauses_of (slots ++ Some c ∷ [])) s.trail c l (clauses_of-contains (slots ++ Some c ∷ []) (length slots) c (slot_new slots (Some c) (length slots) refl)) contains unit o) p
