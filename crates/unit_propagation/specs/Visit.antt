-- The clauses that watch a literal which became false.
use Rattle.std.specs.Prelude.{⊤, ◌≡◌, ◌≢◌, ◌⊎◌, ℕ, ◌<◌, ◌≤◌, List, [], ◌∷◌, ◌++◌, length, Option, Some, None, Result, Ok, Err, Contains, All, slice_index_or, slice_set}
use Rattle.std.specs.declared.alloc.AllocError.{AllocError}
use Rattle.cnf_form.specs.Cnf.{LitOf, negate, index_of}
use Rattle.unit_propagation.specs.declared.watch.Head.{Head}
use Rattle.unit_propagation.specs.declared.watch.Watch.{Watch}
use Rattle.unit_propagation.specs.declared.visit.Visit.{Visit}
use Rattle.unit_propagation.specs.declared.visit.Visit.TheVariants.{Stale, Keep, Move, Assign, Falsify}
use Rattle.unit_propagation.specs.declared.visit.Visited.{Visited}
use Rattle.unit_propagation.specs.declared.visit.Visited.TheVariants.{Left, Moved, Satisfied, Assigned, Falsified, NoMemory}
use Rattle.unit_propagation.specs.declared.visit.Stop.{Stop}
use Rattle.unit_propagation.specs.declared.visit.Stop.TheVariants.{Conflict, Memory}
use Rattle.unit_propagation.specs.Propagation.{IsUnassigned, IsSatisfied, IsFalsified, IsFalsifiedBut, Propagates}
use Rattle.unit_propagation.specs.Propagator.{slot_at, clauses_of}
use Rattle.unit_propagation.specs.Watch.{row, Watches, IsStale}

-- p: the literals that were dealt with, t: those that are true. Where the negation of a watch was dealt with, the clause is satisfied.
pub record IsWatched (p t : List LitOf) (c : List LitOf) (left right : LitOf) : Type 0 where
  pub left_in : Contains c left
  pub right_in : Contains c right
  pub two : left ≢ right
  pub left_kept : Contains p (negate left) → IsSatisfied t c
  pub right_kept : Contains p (negate right) → IsSatisfied t c

-- a clause is watched, or satisfied where it watches nothing
pub record IsKept (p t : List LitOf) (slot : Option (List LitOf)) (h : Head) : Type 0 where
  pub watched : h.left ≢ h.right → (c : List LitOf) × (slot ≡ Some c) × IsWatched p t c h.left h.right
  pub loose : h.left ≡ h.right → (c : List LitOf) → slot ≡ Some c → IsSatisfied t c

abbrev pub AllKept : List LitOf → List LitOf → List (Option (List LitOf)) → List Head → Type 0
AllKept p t slots heads = (j : ℕ) (d : Head) → j < length heads → IsKept p t (slot_at slots j) (slice_index_or heads j d)

-- the blocker of an entry is in its clause, which has not two literals
abbrev pub EntryFits : List (Option (List LitOf)) → Watch → Type 0
EntryFits slots w = (c : List LitOf) → slot_at slots w.clause ≡ Some c → Contains c w.blocker × (length c ≢ 2)

-- the list has an entry of the clause
pub record IsListed (list : List Watch) (j : ℕ) : Type 0 where
  pub entry : Watch
  pub contains : Contains list entry
  pub clause : entry.clause ≡ j

-- the list has an entry of the clause below kept, or at k or later
pub record StandsIn (list : List Watch) (kept k j : ℕ) : Type 0 where
  pub place : ℕ
  pub where_it_is : (place < kept) ⊎ (k ≤ place)
  pub within : place < length list
  pub clause : (e : Watch) → (slice_index_or list place e).clause ≡ j

-- an entry of a clause that watches u: in the list that is gone through, where u is its literal
pub record IsFiledAt (rows : List (List Watch)) (f : LitOf) (list : List Watch) (kept k j : ℕ) (u : LitOf) : Type 0 where
  pub here : u ≡ f → StandsIn list kept k j
  pub there : u ≢ f → IsListed (row rows u) j

-- what a visit changes
pub record State : Type 0 where
  pub heads : List Head
  pub rows : List (List Watch)
  pub trail : List LitOf

-- the clause at j watches other and m from now on
pub record MovesWatch (s s' : State) (j : ℕ) (other m : LitOf) : Type 0 where
  pub head : Head
  pub left : head.left ≡ other
  pub right : head.right ≡ m
  pub heads : s'.heads ≡ slice_set s.heads j head
  pub rows : s'.rows ≡ slice_set s.rows (index_of m) (row s.rows m ++ (record { clause = j; blocker = other }) ∷ [])
  pub trail : s'.trail ≡ s.trail

-- the literal became true
pub record Assigns (s s' : State) (l : LitOf) : Type 0 where
  pub heads : s'.heads ≡ s.heads
  pub rows : s'.rows ≡ s.rows
  pub trail : s'.trail ≡ s.trail ++ l ∷ []

-- what is to be done with a clause when l is false, if its literals end there
abbrev pub VisitFits : List LitOf → List LitOf → ℕ → Head → LitOf → Visit → Type 0
VisitFits t c end h l Stale = IsStale h l
VisitFits t c end h l (Keep other) = Watches h l other × (h.left ≢ h.right) × Contains t other
VisitFits t c end h l (Move from m other) = Watches h l other × (h.left ≢ h.right) × Contains c m × (m ≢ other) × (Contains t (negate m) → ⊥) × (h.start ≤ from) × (from ≤ end)
VisitFits t c end h l (Assign other) = Watches h l other × (h.left ≢ h.right) × IsFalsifiedBut t c other × IsUnassigned t other
VisitFits t c end h l (Falsify other) = Watches h l other × (h.left ≢ h.right) × IsFalsifiedBut t c other × Contains t (negate other)

-- what was done with the clause c at j, whose head is h
abbrev pub VisitedFits : State → State → List LitOf → ℕ → Head → LitOf → Visited → Type 0
VisitedFits s s' c j h l Left = IsStale h l × (s' ≡ s)
VisitedFits s s' c j h l (Moved other m) = Watches h l other × (h.left ≢ h.right) × Contains c m × (m ≢ other) × (Contains s.trail (negate m) → ⊥) × MovesWatch s s' j other m
VisitedFits s s' c j h l (Satisfied other) = Watches h l other × (h.left ≢ h.right) × Contains s.trail other × (s' ≡ s)
VisitedFits s s' c j h l (Assigned other) = Watches h l other × (h.left ≢ h.right) × IsFalsifiedBut s.trail c other × IsUnassigned s.trail other × Assigns s s' other
VisitedFits s s' c j h l (Falsified other) = Watches h l other × (h.left ≢ h.right) × IsFalsifiedBut s.trail c other × Contains s.trail (negate other) × (s' ≡ s)
VisitedFits s s' c j h l (NoMemory other) = Watches h l other × (h.left ≢ h.right) × (s' ≡ s)

-- the other literal that the clause watches still
abbrev pub watched_of : Visited → Option LitOf
watched_of Left = None
watched_of (Moved other m) = None
watched_of (Satisfied other) = Some other
watched_of (Assigned other) = Some other
watched_of (Falsified other) = Some other
watched_of (NoMemory other) = Some other

-- What is so after a part of the list of f was gone through: of its entries, those below kept and those from k on stand there still.
pub record IsVisited (slots : List (Option (List LitOf))) (start s : State) (f : LitOf) (list : List Watch) (kept k : ℕ) : Type 0 where
  pub entries : (u : LitOf) (w : Watch) → Contains (row s.rows u) w → EntryFits slots w
  pub list_entries : All (EntryFits slots) list
  pub wide : (j : ℕ) (c : List LitOf) (l : LitOf) → slot_at slots j ≡ Some c → Contains c l → index_of l < length s.rows
  pub filed : (j : ℕ) (d : Head) (c : List LitOf) → j < length s.heads → slot_at slots j ≡ Some c → length c ≢ 2
      → (slice_index_or s.heads j d).left ≢ (slice_index_or s.heads j d).right
      → IsFiledAt s.rows f list kept k j (slice_index_or s.heads j d).left × IsFiledAt s.rows f list kept k j (slice_index_or s.heads j d).right
  pub count : length s.heads ≡ length start.heads
  pub below : (b : List LitOf) (j : ℕ) (d : Head) → ((l : LitOf) → Contains b l → Contains start.trail l) → j < length s.heads
      → IsKept b b (slot_at slots j) (slice_index_or start.heads j d) → IsKept b b (slot_at slots j) (slice_index_or s.heads j d)
  pub short : (j : ℕ) (d : Head) (c : List LitOf) → slot_at slots j ≡ Some c → length c ≡ 2 → slice_index_or s.heads j d ≡ slice_index_or start.heads j d
  pub grown : Propagates (clauses_of slots) start.trail s.trail

-- the list has an entry of the clause at k or later
pub record StandsFrom (list : List Watch) (k j : ℕ) : Type 0 where
  pub place : ℕ
  pub from : k ≤ place
  pub within : place < length list
  pub clause : (e : Watch) → (slice_index_or list place e).clause ≡ j

-- Each clause is kept with the negation of f dealt with too, or is kept without it and has an entry at k or later.
pub record IsPending (p : List LitOf) (f : LitOf) (slots : List (Option (List LitOf))) (s : State) (list : List Watch) (k : ℕ) : Type 0 where
  pub dealt : (l : LitOf) → Contains (p ++ negate f ∷ []) l → Contains s.trail l
  pub each : (j : ℕ) (d : Head) → j < length s.heads → IsKept (p ++ negate f ∷ []) s.trail (slot_at slots j) (slice_index_or s.heads j d)
      ⊎ (IsKept p s.trail (slot_at slots j) (slice_index_or s.heads j d) × StandsFrom list k j)

-- how it stopped: not yet, at a falsified clause, or because memory ran out
abbrev pub StopFits : List LitOf → LitOf → List (Option (List LitOf)) → State → List Watch → ℕ → Option Stop → Type 0
StopFits p f slots s list k None = IsPending p f slots s list k
StopFits p f slots s list k (Some (Conflict j)) = (c : List LitOf) × (slot_at slots j ≡ Some c) × IsFalsified s.trail c
StopFits p f slots s list k (Some Memory) = ⊤

-- an entry in the list of u of the clause c, which is one of u and the blocker
pub record IsPairOf (heads : List Head) (u : LitOf) (w : Watch) (c : List LitOf) : Type 0 where
  pub short : length c ≡ 2
  pub blocker : Contains c w.blocker
  pub two : (m : LitOf) → Contains c m → (m ≡ u) ⊎ (m ≡ w.blocker)
  pub watches : (d : Head) → Watches (slice_index_or heads w.clause d) u w.blocker
  pub apart : (d : Head) → (slice_index_or heads w.clause d).left ≢ (slice_index_or heads w.clause d).right

-- an entry in the list of u is of a clause of two literals, if the clause wasn't removed
abbrev pub PairFits : List (Option (List LitOf)) → List Head → LitOf → Watch → Type 0
PairFits slots heads u w = (c : List LitOf) → slot_at slots w.clause ≡ Some c → IsPairOf heads u w c

-- the entries fit, and each clause that watches two literals has its entries: those of two literals in lists of their own
pub record IsFiled (slots : List (Option (List LitOf))) (s : State) (pairs : List (List Watch)) : Type 0 where
  pub entries : (u : LitOf) (w : Watch) → Contains (row s.rows u) w → EntryFits slots w
  pub pair_entries : (u : LitOf) (w : Watch) → Contains (row pairs u) w → PairFits slots s.heads u w
  pub wide : (j : ℕ) (c : List LitOf) (l : LitOf) → slot_at slots j ≡ Some c → Contains c l → index_of l < length s.rows
  pub long : (j : ℕ) (d : Head) (c : List LitOf) → j < length s.heads → slot_at slots j ≡ Some c → length c ≢ 2
      → (slice_index_or s.heads j d).left ≢ (slice_index_or s.heads j d).right
      → IsListed (row s.rows (slice_index_or s.heads j d).left) j × IsListed (row s.rows (slice_index_or s.heads j d).right) j
  pub short : (j : ℕ) (d : Head) (c : List LitOf) → j < length s.heads → slot_at slots j ≡ Some c → length c ≡ 2
      → (slice_index_or s.heads j d).left ≢ (slice_index_or s.heads j d).right
      → Contains (row pairs (slice_index_or s.heads j d).left) (record { clause = j; blocker = (slice_index_or s.heads j d).right })
      × Contains (row pairs (slice_index_or s.heads j d).right) (record { clause = j; blocker = (slice_index_or s.heads j d).left })

-- the trail grew by propagation, and what was kept below is kept still
pub record Walks (slots : List (Option (List LitOf))) (pairs : List (List Watch)) (old new : State) : Type 0 where
  pub filed : IsFiled slots new pairs
  pub grown : Propagates (clauses_of slots) old.trail new.trail
  pub count : length new.heads ≡ length old.heads
  pub below : (b : List LitOf) (j : ℕ) (d : Head) → ((l : LitOf) → Contains b l → Contains old.trail l) → j < length new.heads
      → IsKept b b (slot_at slots j) (slice_index_or old.heads j d) → IsKept b b (slot_at slots j) (slice_index_or new.heads j d)

-- how propagation ended after the literals p were dealt with
abbrev pub EndFits : List LitOf → List (Option (List LitOf)) → State → Option Stop → Type 0
EndFits p slots s None = AllKept p s.trail slots s.heads
EndFits p slots s (Some (Conflict j)) = (c : List LitOf) × (slot_at slots j ≡ Some c) × IsFalsified s.trail c
EndFits p slots s (Some Memory) = ⊤

-- the blocker of the clause k, of two literals, is true now, or false, or the clause was removed
abbrev pub ImpliedFits : List (Option (List LitOf)) → List LitOf → List LitOf → ℕ → LitOf → Option Stop → Type 0
ImpliedFits slots s t k b None = Contains t b ⊎ (slot_at slots k ≡ None)
ImpliedFits slots s t k b (Some (Conflict j)) = (j ≡ k) × ((c : List LitOf) × (slot_at slots k ≡ Some c)) × Contains s (negate b) × (t ≡ s)
ImpliedFits slots s t k b (Some Memory) = t ≡ s

-- the blocker of each clause that wasn't removed is true
abbrev pub AllImplied : List (Option (List LitOf)) → List Watch → List LitOf → Type 0
AllImplied slots list t = (w : Watch) (c : List LitOf) → Contains list w → slot_at slots w.clause ≡ Some c → Contains t w.blocker

-- the blockers of all entries are true, or a clause is falsified
abbrev pub PairsFit : List (Option (List LitOf)) → List Watch → List LitOf → Option Stop → Type 0
PairsFit slots list t None = AllImplied slots list t
PairsFit slots list t (Some (Conflict j)) = (c : List LitOf) × (slot_at slots j ≡ Some c) × IsFalsified t c
PairsFit slots list t (Some Memory) = ⊤

-- the same, but nothing is said of the entries of the clause n
pub record IsFiledBut (n : ℕ) (slots : List (Option (List LitOf))) (s : State) (pairs : List (List Watch)) : Type 0 where
  pub entries : (u : LitOf) (w : Watch) → Contains (row s.rows u) w → EntryFits slots w
  pub pair_entries : (u : LitOf) (w : Watch) → Contains (row pairs u) w → PairFits slots s.heads u w
  pub wide : (j : ℕ) (c : List LitOf) (l : LitOf) → slot_at slots j ≡ Some c → Contains c l → index_of l < length s.rows
  pub long : (j : ℕ) (d : Head) (c : List LitOf) → j < length s.heads → j ≢ n → slot_at slots j ≡ Some c → length c ≢ 2
      → (slice_index_or s.heads j d).left ≢ (slice_index_or s.heads j d).right
      → IsListed (row s.rows (slice_index_or s.heads j d).left) j × IsListed (row s.rows (slice_index_or s.heads j d).right) j
  pub short : (j : ℕ) (d : Head) (c : List LitOf) → j < length s.heads → j ≢ n → slot_at slots j ≡ Some c → length c ≡ 2
      → (slice_index_or s.heads j d).left ≢ (slice_index_or s.heads j d).right
      → Contains (row pairs (slice_index_or s.heads j d).left) (record { clause = j; blocker = (slice_index_or s.heads j d).right })
      × Contains (row pairs (slice_index_or s.heads j d).right) (record { clause = j; blocker = (slice_index_or s.heads j d).left })

-- How propagation from a trail that grew past base ended: with nothing left, at a falsified clause, or, because memory ran out, with
-- the trail cut to base.
abbrev pub SettleFits : List (Option (List LitOf)) → List (List Watch) → State → State → List LitOf → Result (Option ℕ) AllocError → Type 0
SettleFits slots pairs old new base (Ok None) = Walks slots pairs old new × AllKept new.trail new.trail slots new.heads
SettleFits slots pairs old new base (Ok (Some k)) = Walks slots pairs old new × (c : List LitOf) × (slot_at slots k ≡ Some c) × IsFalsified new.trail c
SettleFits slots pairs old new base (Err e) = IsFiled slots new pairs × (new.trail ≡ base)
    × ((j : ℕ) (d : Head) → j < length new.heads → (b : List LitOf) → ((l : LitOf) → Contains b l → Contains base l)
    → IsKept b b (slot_at slots j) (slice_index_or old.heads j d) → IsKept b b (slot_at slots j) (slice_index_or new.heads j d))
