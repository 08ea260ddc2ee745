-- What each outcome of a visit of one clause leaves of the loop over the list.
use Rattle.std.proofs.Common.{◌≡◌, ◌≢◌, ◌⊎◌, ℕ, ◌+◌, ◌<◌, ◌≤◌, true, false, List, [], ◌∷◌, ◌++◌, length, get_or, set, refl, sym, ◌∙◌, ap, subst, inl, inr}
use Rattle.std.specs.Prelude.{Contains, Option, Some, None, is_some}
use Rattle.std.proofs.lemmas.Bool.{false≢true}
use Rattle.std.proofs.lemmas.List.{get_or_default}
use Rattle.std.proofs.lemmas.List.Elements.{All-get_or, Contains-append_left, Contains-push}
use Rattle.cnf_form.specs.Cnf.{LitOf, negate}
use Rattle.cnf_form.proofs.Literals.{lit_cases}
use Rattle.unit_propagation.specs.declared.watch.Head.{Head}
use Rattle.unit_propagation.specs.declared.watch.Watch.{Watch}
use Rattle.unit_propagation.specs.declared.visit.Stop.{Stop}
use Rattle.unit_propagation.specs.declared.visit.Visited.{Visited}
use Rattle.unit_propagation.specs.declared.visit.Visited.TheVariants.{Left, Moved, Satisfied, Assigned, Falsified, NoMemory}
use Rattle.unit_propagation.specs.declared.visit.Stop.TheVariants.{Conflict, Memory}
use Rattle.unit_propagation.specs.Propagation.{IsUnassigned, IsFalsifiedBut, Propagates}
use Rattle.unit_propagation.specs.Propagator.{slot_at, clauses_of}
use Rattle.unit_propagation.specs.Watch.{Watches, IsStale}
use Rattle.unit_propagation.specs.Visit.{State, IsKept, EntryFits, IsFiledAt, MovesWatch, Assigns, IsVisited, IsPending, StopFits, VisitedFits}
use Rattle.unit_propagation.proofs.Slots.{clauses_of-contains}
use Rattle.unit_propagation.proofs.Falsified.{falsified_by_all}
use Rattle.unit_propagation.proofs.Watched.{kept_satisfied, kept_stale, other_in}
use Rattle.unit_propagation.proofs.Visits.{propagates_none, propagates_unit, state_of, visited_kept, pending_kept, visited_left, pending_left, visited_moved, pending_moved, kept_before}

pub slot_cases : (o : Option (List LitOf)) → ((c : List LitOf) × (o ≡ Some c)) ⊎ (o ≡ None)
slot_cases (Some c) = inl (c, refl)
slot_cases None = inr refl

module _ (slots : List (Option (List LitOf))) (start s : State) (f : LitOf) (p : List LitOf) (list : List Watch) (kept k j₀ : ℕ)
    (low : kept ≤ k) (within : k < length list) (here : (e : Watch) → (get_or list k e).clause ≡ j₀) (room : j₀ < length s.heads)
    (v : IsVisited slots start s f list kept k) (q : IsPending p f slots s list k) where
  abbrev Goes : State → List Watch → ℕ → Option Stop → Type 0
  Goes s' list' kept' stop = IsVisited slots start s' f list' kept' (k + 1) × StopFits p f slots s' list' (k + 1) stop

  kept_now : (d : Head) → IsKept p s.trail (slot_at slots j₀) (get_or s.heads j₀ d)
  kept_now d = kept_before slots start s f p list kept k j₀ low within here q d room

  -- the blocker is true
  pub arm_blocked : (w : Watch) → w ≡ get_or list k w → w.clause ≡ j₀ → Contains s.trail w.blocker → Goes s (set list kept w) (kept + 1) None
  arm_blocked w read e on =
      let fit : EntryFits slots w = subst (EntryFits slots) (sym read) (All-get_or (EntryFits slots) list k w within v.list_entries) in (
        visited_kept slots start s f p list kept k j₀ low within here s.trail w e fit (propagates_none (clauses_of slots) s.trail) v,
        pending_kept slots start s f p list kept k j₀ low within here s.trail w (λ l h. h)
            (λ d. kept_satisfied p s.trail (slot_at slots j₀) (get_or s.heads j₀ d) (kept_now d) (p ++ negate f ∷ []) s.trail
            (λ c g. record { lit = w.blocker; contains = (fit c (ap (slot_at slots) e ∙ g)).0; on = on })) q,
      )

  pub arm_left : (s' : State) → ((c : List LitOf) (d : Head) → slot_at slots j₀ ≡ Some c → IsStale (get_or s.heads j₀ d) f × (s' ≡ s)) → (slot_at slots j₀ ≡ None → s' ≡ s) → Goes s' list kept None
  arm_left s' there gone =
      subst (λ z. Goes z list kept None) (sym same) (
        visited_left slots start s f p list kept k j₀ low within here stale v,
        pending_left slots start s f p list kept k j₀ low within here (λ d. kept_stale p s.trail (slot_at slots j₀) (get_or s.heads j₀ d) (kept_now d) f (stale d)) q,
      )
    where
      no_head : Head
      no_head = record { start = 0; from = 0; left = f; right = f }

      same : s' ≡ s
      same = elim (slot_cases (slot_at slots j₀)) [ inl w ↦ (there w.0 no_head w.1).1 | inr e ↦ gone e ]

      stale : (d : Head) → IsStale (get_or s.heads j₀ d) f
      stale d = elim (slot_cases (slot_at slots j₀)) [
        | inl w ↦ (there w.0 d w.1).0
        | inr e ↦ let h : Head = get_or s.heads j₀ d in
            elim (lit_cases h.left h.right) [
              | inl g ↦ inl g
              | inr ne ↦ let x = kept_now d in let w = x.watched ne in absurd (let g : None ≡ Some w.0 = sym e ∙ w.1 in cc)
            ]
      ]

  -- the clause watches f still, and is there
  module _ (c : List LitOf) (other : LitOf) (is : slot_at slots j₀ ≡ Some c)
      (at : (d : Head) → Watches (get_or s.heads j₀ d) f other) (two : (d : Head) → (get_or s.heads j₀ d).left ≢ (get_or s.heads j₀ d).right) where
    no_head : Head
    no_head = record { start = 0; from = 0; left = f; right = f }

    other_facts : Contains c other × (other ≢ f)
    other_facts = other_in p s.trail (slot_at slots j₀) (get_or s.heads j₀ no_head) (kept_now no_head) c f other (two no_head) (at no_head) is

    fit : EntryFits slots (record { clause = j₀; blocker = other })
    fit = λ c' g. let same : c ≡ c' = cc in
        (subst (λ z. Contains z other) same other_facts.0, (All-get_or (EntryFits slots) list k (record { clause = j₀; blocker = other }) within v.list_entries c' (ap (slot_at slots) (here _) ∙ g)).1)

    pub arm_moved : (s' : State) (m : LitOf) → Contains c m → m ≢ other → (Contains s.trail (negate m) → ⊥) → MovesWatch s s' j₀ other m → Goes s' list kept None
    arm_moved s' m h ne m_open w =
        subst (λ z. Goes z list kept None) (sym (state_of s' _ _ _ w.heads w.rows w.trail)) (
          visited_moved slots start s f p list kept k j₀ low within here c other m w.head room is at two h ne m_open w.left w.right q v,
          pending_moved slots start s f p list kept k j₀ low within here c other m w.head room is at two h ne m_open w.left w.right q,
        )

    -- the entry is kept with the other watch as its blocker
    kept_visit : (t : List LitOf) → Propagates (clauses_of slots) s.trail t → IsVisited slots start (record s { trail = t }) f (set list kept (record { clause = j₀; blocker = other })) (kept + 1) (k + 1)
    kept_visit t grown = visited_kept slots start s f p list kept k j₀ low within here t (record { clause = j₀; blocker = other }) refl fit grown v

    kept_pending : (t : List LitOf) → ((l : LitOf) → Contains s.trail l → Contains t l) → Contains t other → IsPending p f slots (record s { trail = t }) (set list kept (record { clause = j₀; blocker = other })) (k + 1)
    kept_pending t grows on =
        pending_kept slots start s f p list kept k j₀ low within here t (record { clause = j₀; blocker = other }) grows
        (λ d. kept_satisfied p s.trail (slot_at slots j₀) (get_or s.heads j₀ d) (kept_now d) (p ++ negate f ∷ []) t
        (λ c' g. let same : c ≡ c' = cc in record { lit = other; contains = subst (λ z. Contains z other) same other_facts.0; on = on })) q

    pub arm_satisfied : (s' : State) → Contains s.trail other → s' ≡ s → Goes s' (set list kept (record { clause = j₀; blocker = other })) (kept + 1) None
    arm_satisfied s' on e = subst (λ z. Goes z (set list kept (record { clause = j₀; blocker = other })) (kept + 1) None) (sym e)
        (kept_visit s.trail (propagates_none (clauses_of slots) s.trail), kept_pending s.trail (λ l h. h) on)

    pub arm_assigned : (s' : State) → IsFalsifiedBut s.trail c other → IsUnassigned s.trail other → Assigns s s' other → Goes s' (set list kept (record { clause = j₀; blocker = other })) (kept + 1) None
    arm_assigned s' unit o w = subst (λ z. Goes z (set list kept (record { clause = j₀; blocker = other })) (kept + 1) None) (sym (state_of s' _ _ _ w.heads w.rows w.trail)) (
      kept_visit (s.trail ++ other ∷ []) (propagates_unit (clauses_of slots) s.trail c other (clauses_of-contains slots j₀ c is) other_facts.0 unit o),
      kept_pending (s.trail ++ other ∷ []) (λ l h. Contains-append_left s.trail (other ∷ []) l h) (Contains-push s.trail other),
    )

    pub arm_falsified : (s' : State) → IsFalsifiedBut s.trail c other → Contains s.trail (negate other) → s' ≡ s → Goes s' (set list kept (record { clause = j₀; blocker = other })) (kept + 1) (Some (Conflict j₀))
    arm_falsified s' unit off e = subst (λ z. Goes z (set list kept (record { clause = j₀; blocker = other })) (kept + 1) (Some (Conflict j₀))) (sym e)
        (kept_visit s.trail (propagates_none (clauses_of slots) s.trail), (c, is, falsified_by_all s.trail c other unit off))

    pub arm_memory : (s' : State) → s' ≡ s → Goes s' (set list kept (record { clause = j₀; blocker = other })) (kept + 1) (Some Memory)
    arm_memory s' e = subst (λ z. Goes z (set list kept (record { clause = j₀; blocker = other })) (kept + 1) (Some Memory)) (sym e)
        (kept_visit s.trail (propagates_none (clauses_of slots) s.trail), tt)

  -- the clause is there, where the visit did something with it
  there : (x : Visited) → (x ≡ Left → ⊥) → (slot_at slots j₀ ≡ None → x ≡ Left) → (c : List LitOf) × (slot_at slots j₀ ≡ Some c)
  there x d gone = elim (slot_cases (slot_at slots j₀)) [ inl w ↦ w | inr g ↦ absurd (d (gone g)) ]

  no_clause : Head
  no_clause = record { start = 0; from = 0; left = f; right = f }

  -- what the loop is at after what was done with the clause
  abbrev AfterVisit : State → Visited → Type 0
  AfterVisit s' Left = Goes s' list kept None
  AfterVisit s' (Moved other m) = Goes s' list kept None
  AfterVisit s' (Satisfied other) = Goes s' (set list kept (record { clause = j₀; blocker = other })) (kept + 1) None
  AfterVisit s' (Assigned other) = Goes s' (set list kept (record { clause = j₀; blocker = other })) (kept + 1) None
  AfterVisit s' (Falsified other) = Goes s' (set list kept (record { clause = j₀; blocker = other })) (kept + 1) (Some (Conflict j₀))
  AfterVisit s' (NoMemory other) = Goes s' (set list kept (record { clause = j₀; blocker = other })) (kept + 1) (Some Memory)

  pub arm_visited : (s' : State) (x : Visited) → (slot_at slots j₀ ≡ None → (x ≡ Left) × (s' ≡ s)) → ((c : List LitOf) (d : Head) → slot_at slots j₀ ≡ Some c → VisitedFits s s' c j₀ (get_or s.heads j₀ d) f x) → AfterVisit s' x
  arm_visited s' Left gone fits = arm_left s' fits (λ e. (gone e).1)
  arm_visited s' (Moved other m) gone fits =
      let w = there (Moved other m) (λ e. cc) (λ e. (gone e).0) in
      let x = fits w.0 no_clause w.1 in
      arm_moved w.0 other w.1 (λ d. (fits w.0 d w.1).0) (λ d. (fits w.0 d w.1).1) s' m x.2 x.3 x.4 x.5
  arm_visited s' (Satisfied other) gone fits =
      let w = there (Satisfied other) (λ e. cc) (λ e. (gone e).0) in
      let x = fits w.0 no_clause w.1 in
      arm_satisfied w.0 other w.1 (λ d. (fits w.0 d w.1).0) (λ d. (fits w.0 d w.1).1) s' x.2 x.3
  arm_visited s' (Assigned other) gone fits =
      let w = there (Assigned other) (λ e. cc) (λ e. (gone e).0) in
      let x = fits w.0 no_clause w.1 in
      arm_assigned w.0 other w.1 (λ d. (fits w.0 d w.1).0) (λ d. (fits w.0 d w.1).1) s' x.2 x.3 x.4
  arm_visited s' (Falsified other) gone fits =
      let w = there (Falsified other) (λ e. cc) (λ e. (gone e).0) in
      let x = fits w.0 no_clause w.1 in
      arm_falsified w.0 other w.1 (λ d. (fits w.0 d w.1).0) (λ d. (fits w.0 d w.1).1) s' x.2 x.3 x.4
  arm_visited s' (NoMemory other) gone fits =
      let w = there (NoMemory other) (λ e. cc) (λ e. (gone e).0) in
      arm_memory w.0 other w.1 (λ d. (fits w.0 d w.1).0) (λ d. (fits w.0 d w.1).1) s' (fits w.0 no_clause w.1).2

-- the entry at k, as it was read
pub here_read : (list : List Watch) (k : ℕ) (w : Watch) → k < length list → (e : Watch) → (get_or list k e).clause ≡ (get_or list k w).clause
here_read list k w h e = ap (λ (z : Watch). z.clause) (get_or_default list k e w h)

pub entry_read : (list : List Watch) (k : ℕ) (w x : Watch) → k < length list
    → (let y : Watch = record { clause = (get_or list k w).clause; blocker = (get_or list k x).blocker } in y) ≡ get_or list k (record { clause = (get_or list k w).clause; blocker = (get_or list k x).blocker })
entry_read list k w x h =
    let y : Watch = record { clause = (get_or list k w).clause; blocker = (get_or list k x).blocker } in
    ap (λ (z : Watch). let r : Watch = record { clause = (get_or list k w).clause; blocker = z.blocker } in r) (get_or_default list k x w h) ∙ get_or_default list k w y h

-- an entry that is passed over once the visit has stopped
pub visited_rest : (slots : List (Option (List LitOf))) (start s : State) (f : LitOf) (list : List Watch) (kept k : ℕ) (w x : Watch) → kept ≤ k → k < length list
    → IsVisited slots start s f list kept k → IsVisited slots start s f (set list kept (record { clause = (get_or list k w).clause; blocker = (get_or list k x).blocker })) (kept + 1) (k + 1)
visited_rest slots start s f list kept k w x low within v =
    let y : Watch = record { clause = (get_or list k w).clause; blocker = (get_or list k x).blocker } in
    let fit : EntryFits slots y = subst (EntryFits slots) (sym (entry_read list k w x within)) (All-get_or (EntryFits slots) list k y within v.list_entries) in
    visited_kept slots start s f [] list kept k (get_or list k w).clause low within (here_read list k w within) s.trail y refl fit (propagates_none (clauses_of slots) s.trail) v

-- where no entry went all entries stand as they are
pub visited_whole : (slots : List (Option (List LitOf))) (start s : State) (f : LitOf) (list : List Watch) (k : ℕ) → IsVisited slots start s f list k k → IsVisited slots start s f list (length list) (length list)
visited_whole slots start s f list k v = record {
  entries = v.entries;
  list_entries = v.list_entries;
  wide = v.wide;
  filed = λ j d c h e n a. let x = v.filed j d c h e n a in (whole j _ x.0, whole j _ x.1);
  count = v.count;
  below = v.below;
  short = v.short;
  grown = v.grown;
}
  where
    whole : (j : ℕ) (u : LitOf) → IsFiledAt s.rows f list k k j u → IsFiledAt s.rows f list (length list) (length list) j u
    whole j u x = record {
      here = λ g. let y = x.here g in record { place = y.place; where_it_is = inl y.within; within = y.within; clause = y.clause };
      there = x.there;
    }

-- where a visit stopped nothing is said of the list any more
pub stop_some : (p : List LitOf) (f : LitOf) (slots : List (Option (List LitOf))) (s : State) (list list' : List Watch) (k k' : ℕ) (o : Option Stop) → is_some o ≡ true → StopFits p f slots s list k o → StopFits p f slots s list' k' o
stop_some p f slots s list list' k k' None e h = absurd (false≢true e)
stop_some p f slots s list list' k k' (Some (Conflict j)) e h = h
stop_some p f slots s list list' k k' (Some Memory) e h = tt

pub stop_none : (p : List LitOf) (f : LitOf) (slots : List (Option (List LitOf))) (s : State) (list : List Watch) (k : ℕ) (o : Option Stop) → is_some o ≡ false → StopFits p f slots s list k o → IsPending p f slots s list k
stop_none p f slots s list k None e h = h
stop_none p f slots s list k (Some x) e h = absurd (false≢true (sym e))
