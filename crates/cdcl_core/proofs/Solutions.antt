-- What was logged, and what answers it gives.
use Rattle.std.proofs.Common.{◌≡◌, inl, inr, ℕ, ◌+◌, ◌*◌, ◌<◌, ◌≤◌, Bool, List, [], ◌∷◌, ◌++◌, length, refl, sym, ◌∙◌, ap, append-nil, subst, arith}
use Rattle.std.specs.Prelude.{Contains, IsTrue}
use Rattle.std.proofs.lemmas.List.Elements.{All-nil, All-push, Contains-append_left, Contains-append_right, Contains-append_cases}
use Rattle.cnf_form.specs.Cnf.{LitOf, FormulaOf, Satisfies, IsAdmitted, negated_units, Deletes, Line, Addition, Deletion, Drup}
use Rattle.cnf_form.proofs.Removal.{Drup-refutes, Closure-monotone}
use Rattle.cdcl_core.specs.Lines.{LogLine, Adds, Notes, Drops, plain, IsProperLine, HeldOf, held_first, held_after, AreHinted, IsHintedLine, LineFollows}
use Rattle.cdcl_core.specs.Logged.{IsNew, IsContingent, Logged, none, added, deleted, additions, deletions}
use Rattle.cdcl_core.specs.Present.{Reorders}
use Rattle.cdcl_core.proofs.Orders.{reorders_same, reorders_add, reorders_forth, reorders_back}
use Rattle.cdcl_core.specs.Searching.{IsHeld}
use Rattle.cdcl_core.specs.Solving.{Takes, IsSearch, IsFound, IsRefuted, IsSpent, IsBroken, IsStopped, valued}

-- a line more is taken
pub takes_more : {A : Type 0} (takes : A → LogLine → A → Type 0) (a b c : A) (ls : List LogLine) (l : LogLine) → Takes takes a ls b → takes b l c → Takes takes a (ls ++ l ∷ []) c
takes_more takes a b c [] l e h = (c, subst (λ z. takes z l c) e h, refl)
takes_more takes a b c (m ∷ ls) l w h = (w.0, w.1, takes_more takes w.0 b c ls l w.2 h)

-- the lines of the search in a list with one line more
pub plain_push : (ls : List LogLine) (l : LogLine) → plain (ls ++ l ∷ []) ≡ plain ls ++ plain (l ∷ [])
plain_push [] l = refl
plain_push (Adds c id hints ∷ ls) l = ap (λ z. Addition c ∷ z) (plain_push ls l)
plain_push (Notes m id hints ∷ ls) l = plain_push ls l
plain_push (Drops c id ∷ ls) l = ap (λ z. Deletion c ∷ z) (plain_push ls l)

-- a hinted line more
pub hinted_push : (F G : HeldOf) (ls : List LogLine) (l : LogLine) → AreHinted F ls G → IsHintedLine G l → AreHinted F (ls ++ l ∷ []) (held_after G l)
hinted_push F G [] l e h = (subst (λ z. IsHintedLine z l) e h, ap (λ z. held_after z l) e)
hinted_push F G (m ∷ ls) l w h = (w.0, hinted_push (held_after F m) G ls l w.1 h)

-- a line more
drup_add : (F G : List (List LitOf)) (ls : List Line) (c : List LitOf) → Drup F ls G → IsAdmitted G c → Drup F (ls ++ Addition c ∷ []) (G ++ c ∷ [])
drup_add F G [] c e a = (subst (λ z. IsAdmitted z c) e a, ap (λ z. z ++ c ∷ []) e)
drup_add F G (Addition d ∷ ls) c w a = (w.0, drup_add (F ++ d ∷ []) G ls c w.1 a)
drup_add F G (Deletion d ∷ ls) c w a = (w.0, w.1, drup_add w.0 G ls c w.2 a)

drup_delete : (F G H : List (List LitOf)) (ls : List Line) (c : List LitOf) → Drup F ls G → Deletes G c H → Drup F (ls ++ Deletion c ∷ []) H
drup_delete F G H [] c e a = (H, subst (λ z. Deletes z c H) e a, refl)
drup_delete F G H (Addition d ∷ ls) c w a = (w.0, drup_delete (F ++ d ∷ []) G H ls c w.1 a)
drup_delete F G H (Deletion d ∷ ls) c w a = (w.0, w.1, drup_delete w.0 G H ls c w.2 a)

-- what is logged is a proof
pub logged_drup : {F : List (List LitOf)} {ls : List Line} {G : List (List LitOf)} {n d : ℕ} → Logged F ls G n d → Drup F ls G
logged_drup none = refl
logged_drup {F} (added ls G n d c w a new apart) = drup_add F G ls c (logged_drup w) a
logged_drup {F} (deleted ls G H n d c w a few) = drup_delete F G H ls c (logged_drup w) a

pub logged_half : {F : List (List LitOf)} {ls : List Line} {G : List (List LitOf)} {n d : ℕ} → Logged F ls G n d → 2 * d ≤ n
logged_half none = omega arith
logged_half (added ls G n d c w a new apart) = let h = logged_half w in omega (arith, h)
logged_half (deleted ls G H n d c w a few) = omega (arith, few)

additions_push : (ls : List Line) (c : List LitOf) → (additions (ls ++ Addition c ∷ []) ≡ additions ls + 1) × (deletions (ls ++ Addition c ∷ []) ≡ deletions ls)
additions_push [] c = (refl, refl)
additions_push (Addition d ∷ ls) c = let h = additions_push ls c in (ap (λ z. z + 1) h.0, h.1)
additions_push (Deletion d ∷ ls) c = let h = additions_push ls c in (h.0, ap (λ z. z + 1) h.1)

deletions_push : (ls : List Line) (c : List LitOf) → (additions (ls ++ Deletion c ∷ []) ≡ additions ls) × (deletions (ls ++ Deletion c ∷ []) ≡ deletions ls + 1)
deletions_push [] c = (refl, refl)
deletions_push (Addition d ∷ ls) c = let h = deletions_push ls c in (ap (λ z. z + 1) h.0, h.1)
deletions_push (Deletion d ∷ ls) c = let h = deletions_push ls c in (h.0, ap (λ z. z + 1) h.1)

pub logged_count : {F : List (List LitOf)} {ls : List Line} {G : List (List LitOf)} {n d : ℕ} → Logged F ls G n d → (additions ls ≡ n) × (deletions ls ≡ d)
logged_count none = (refl, refl)
logged_count (added ls G n d c w a new apart) = let h = logged_count w in let e = additions_push ls c in (e.0 ∙ ap (λ z. z + 1) h.0, e.1 ∙ h.1)
logged_count (deleted ls G H n d c w a few) = let h = logged_count w in let e = deletions_push ls c in (e.0 ∙ h.0, e.1 ∙ ap (λ z. z + 1) h.1)

-- what is admitted by clauses is by more
pub admitted_more : (F G : List (List LitOf)) (c : List LitOf) → ((d : List LitOf) → Contains F d → Contains G d) → IsAdmitted F c → IsAdmitted G c
admitted_more F G c all w =
    let more : (d : List LitOf) → Contains (F ++ negated_units c) d → Contains (G ++ negated_units c) d = λ d h. elim (Contains-append_cases F (negated_units c) d h) [
      | inl k ↦ Contains-append_left G (negated_units c) d (all d k)
      | inr k ↦ Contains-append_right G (negated_units c) d k
    ] in
    (w.0, more w.0 w.1, λ l h. Closure-monotone more (w.2 l h))

-- what the first part admits, all do, in any order
pub admitted_all : (F G O : List (List LitOf)) (c : List LitOf) → Reorders (F ++ G) O → IsAdmitted F c → IsAdmitted O c
admitted_all F G O c r w = admitted_more F O c (λ d h. reorders_forth r d (Contains-append_left F G d h)) w

-- what is new to clauses is so in any order
new_all : (F O : List (List LitOf)) (c : List LitOf) → Reorders F O → IsNew F c → IsNew O c
new_all F O c r new = record { apart = λ e m. new.apart e (reorders_back r e m) }

module _ {A : Type 0} (takes : A → LogLine → A → Type 0) (hinted : Bool) (f : FormulaOf) where
  pub held_none : (a : A) → IsHeld takes hinted f a a f.clauses 0 0 (held_first f.clauses)
  held_none a = record {
    order = f.clauses;
    reorders = reorders_same f.clauses;
    search = record { lines = []; deletions = 0; taken = refl; logged = none; proper = All-nil (IsProperLine f.vars); hints = λ h. refl };
    deletions = refl;
  }

  -- a clause was logged
  pub held_added : (first now next : A) (F G : List (List LitOf)) (n d : ℕ) (held : HeldOf) (c : List LitOf) (id : ℕ) (hints : List ℕ) → IsHeld takes hinted f first now (F ++ G) n d held → IsAdmitted F c → IsNew (F ++ G) c → IsContingent c
      → IsProperLine f.vars (Adds c id hints) → (IsTrue hinted → IsHintedLine held (Adds c id hints)) → takes now (Adds c id hints) next → IsHeld takes hinted f first next ((F ++ c ∷ []) ++ G) (n + 1) d (held_after held (Adds c id hints))
  held_added first now next F G n d held c id hints w h new apart fits by t =
      let s = w.search in
      let l = Adds c id hints in
      record {
        order = w.order ++ c ∷ [];
        reorders = reorders_add F G w.order c w.reorders;
        search = record {
          lines = s.lines ++ l ∷ [];
          deletions = s.deletions;
          taken = takes_more takes first now next s.lines l s.taken t;
          logged = subst (λ z. Logged f.clauses z (w.order ++ c ∷ []) (n + 1) s.deletions) (sym (plain_push s.lines l))
              (added (plain s.lines) w.order n s.deletions c s.logged (admitted_all F G w.order c w.reorders h) (new_all (F ++ G) w.order c w.reorders new) apart);
          proper = All-push (IsProperLine f.vars) s.lines l s.proper fits;
          hints = λ k. hinted_push (held_first f.clauses) held s.lines l (s.hints k) (by k);
        };
        deletions = w.deletions;
      }

  -- a fact was
  pub held_noted : (first now next : A) (F : List (List LitOf)) (n d : ℕ) (held : HeldOf) (x : LitOf) (id : ℕ) (hints : List ℕ) → IsHeld takes hinted f first now F n d held → IsProperLine f.vars (Notes x id hints)
      → (IsTrue hinted → IsHintedLine held (Notes x id hints)) → takes now (Notes x id hints) next → IsHeld takes hinted f first next F n d (held_after held (Notes x id hints))
  held_noted first now next F n d held x id hints w fits by t =
      let s = w.search in
      let l = Notes x id hints in
      record {
        order = w.order;
        reorders = w.reorders;
        search = record {
          lines = s.lines ++ l ∷ [];
          deletions = s.deletions;
          taken = takes_more takes first now next s.lines l s.taken t;
          logged = subst (λ z. Logged f.clauses z w.order n s.deletions) (sym (plain_push s.lines l ∙ append-nil (plain s.lines))) s.logged;
          proper = All-push (IsProperLine f.vars) s.lines l s.proper fits;
          hints = λ k. hinted_push (held_first f.clauses) held s.lines l (s.hints k) (by k);
        };
        deletions = w.deletions;
      }

  -- a clause was deleted
  pub held_deleted : (first now next : A) (F G H : List (List LitOf)) (n d : ℕ) (held : HeldOf) (c : List LitOf) (id : ℕ) → (w : IsHeld takes hinted f first now F n d held) → Deletes w.order c H → Reorders G H → IsProperLine f.vars (Drops c id) → 2 * (d + 1) ≤ n
      → (IsTrue hinted → IsHintedLine held (Drops c id)) → takes now (Drops c id) next → IsHeld takes hinted f first next G n (d + 1) (held_after held (Drops c id))
  held_deleted first now next F G H n d held c id w del r fits few by t =
      let s = w.search in
      let l = Drops c id in
      record {
        order = H;
        reorders = r;
        search = record {
          lines = s.lines ++ l ∷ [];
          deletions = s.deletions + 1;
          taken = takes_more takes first now next s.lines l s.taken t;
          logged = subst (λ z. Logged f.clauses z H n (s.deletions + 1)) (sym (plain_push s.lines l)) (deleted (plain s.lines) w.order H n s.deletions c s.logged del (omega (arith, few, w.deletions)));
          proper = All-push (IsProperLine f.vars) s.lines l s.proper fits;
          hints = λ k. hinted_push (held_first f.clauses) held s.lines l (s.hints k) (by k);
        };
        deletions = ap (λ z. z + 1) w.deletions;
      }

  -- a search that is broken off
  pub held_stops : (budget : ℕ) (first now : A) (F : List (List LitOf)) (n d : ℕ) (held : HeldOf) → n ≤ budget → IsHeld takes hinted f first now F n d held → IsStopped takes hinted f budget first now
  held_stops budget first now F n d held h w = record { present = w.order; count = n; held = held; search = w.search; within = h }

  -- the budget is spent
  pub held_spent : (budget : ℕ) (first now : A) (F : List (List LitOf)) (n d : ℕ) (held : HeldOf) → n ≡ budget → IsHeld takes hinted f first now F n d held → IsSpent takes hinted f budget first now
  held_spent budget first now F n d held e w = record { present = w.order; held = held; search = subst (λ z. IsSearch takes hinted f first now w.order z held) e w.search }

  -- values were found
  pub held_finds : (budget : ℕ) (first now : A) (F : List (List LitOf)) (n d : ℕ) (held : HeldOf) (values : List Bool) → n < budget → IsHeld takes hinted f first now F n d held → length values ≡ f.vars + 1 → Satisfies (valued values) f.clauses
      → IsFound takes hinted f budget first now values
  held_finds budget first now F n d held values h w sized sat = record { present = w.order; count = n; held = held; search = w.search; in_time = h; sized = sized; satisfies = sat }

  -- there are none
  pub held_refutes : (budget : ℕ) (first now next : A) (F G : List (List LitOf)) (n d : ℕ) (held : HeldOf) (id : ℕ) (hints : List ℕ) → n < budget → IsHeld takes hinted f first now (F ++ G) n d held → IsAdmitted F [] → IsProperLine f.vars (Adds [] id hints)
      → (IsTrue hinted → IsHintedLine held (Adds [] id hints)) → takes now (Adds [] id hints) next → IsRefuted takes hinted f budget first next
  held_refutes budget first now next F G n d held id hints h w admits fits by t =
      let s = w.search in
      let a = admitted_all F G w.order [] w.reorders admits in
      record {
        last = now;
        present = w.order;
        count = n;
        held = held;
        search = s;
        in_time = h;
        id = id;
        hints = hints;
        empty = t;
        proper = fits;
        admitted = a;
        is_hinted = by;
        unsatisfiable = Drup-refutes f.clauses w.order (plain s.lines) (logged_drup s.logged) a;
      }

  module _ (fails : A → LogLine → A → Type 0) where
    -- the log failed at a line
    held_breaks : (budget : ℕ) (first now next : A) (F : List (List LitOf)) (n d : ℕ) (held : HeldOf) (l : LogLine) → n < budget → (w : IsHeld takes hinted f first now F n d held) → (let s = w.search in LineFollows f.clauses (plain s.lines) w.order l)
        → IsProperLine f.vars l → (IsTrue hinted → IsHintedLine held l) → fails now l next → IsBroken takes fails hinted f budget first next
    held_breaks budget first now next F n d held l h w follows fits by e =
        record { last = now; present = w.order; count = n; held = held; search = w.search; in_time = h; line = l; follows = follows; proper = fits; is_hinted = by; failed = e }

    pub breaks_added : (budget : ℕ) (first now next : A) (F G : List (List LitOf)) (n d : ℕ) (held : HeldOf) (c : List LitOf) (id : ℕ) (hints : List ℕ) → n < budget → IsHeld takes hinted f first now (F ++ G) n d held → IsAdmitted F c → IsNew (F ++ G) c
        → IsContingent c → IsProperLine f.vars (Adds c id hints) → (IsTrue hinted → IsHintedLine held (Adds c id hints)) → fails now (Adds c id hints) next → IsBroken takes fails hinted f budget first next
    breaks_added budget first now next F G n d held c id hints h w admits new apart fits by e =
        let s = w.search in
        held_breaks budget first now next (F ++ G) n d held (Adds c id hints) h w
        (inl (w.order ++ c ∷ [], n + 1, s.deletions, added (plain s.lines) w.order n s.deletions c s.logged (admitted_all F G w.order c w.reorders admits) (new_all (F ++ G) w.order c w.reorders new) apart)) fits by e

    pub breaks_noted : (budget : ℕ) (first now next : A) (F : List (List LitOf)) (n d : ℕ) (held : HeldOf) (x : LitOf) (id : ℕ) (hints : List ℕ) → n < budget → IsHeld takes hinted f first now F n d held → IsProperLine f.vars (Notes x id hints)
        → (IsTrue hinted → IsHintedLine held (Notes x id hints)) → fails now (Notes x id hints) next → IsBroken takes fails hinted f budget first next
    breaks_noted budget first now next F n d held x id hints h w fits by e = held_breaks budget first now next F n d held (Notes x id hints) h w tt fits by e

    pub breaks_deleted : (budget : ℕ) (first now next : A) (F H : List (List LitOf)) (n d : ℕ) (held : HeldOf) (c : List LitOf) (id : ℕ) → n < budget → (w : IsHeld takes hinted f first now F n d held) → Deletes w.order c H → IsProperLine f.vars (Drops c id) → 2 * (d + 1) ≤ n
        → (IsTrue hinted → IsHintedLine held (Drops c id)) → fails now (Drops c id) next → IsBroken takes fails hinted f budget first next
    breaks_deleted budget first now next F H n d held c id h w del fits few by e =
        let s = w.search in
        held_breaks budget first now next F n d held (Drops c id) h w (inl (H, n, s.deletions + 1, deleted (plain s.lines) w.order H n s.deletions c s.logged del (omega (arith, few, w.deletions)))) fits by e

    pub breaks_empty : (budget : ℕ) (first now next : A) (F G : List (List LitOf)) (n d : ℕ) (held : HeldOf) (id : ℕ) (hints : List ℕ) → n < budget → IsHeld takes hinted f first now (F ++ G) n d held → IsAdmitted F [] → IsProperLine f.vars (Adds [] id hints)
        → (IsTrue hinted → IsHintedLine held (Adds [] id hints)) → fails now (Adds [] id hints) next → IsBroken takes fails hinted f budget first next
    breaks_empty budget first now next F G n d held id hints h w admits fits by e = held_breaks budget first now next (F ++ G) n d held (Adds [] id hints) h w (inr (refl, admitted_all F G w.order [] w.reorders admits)) fits by e
