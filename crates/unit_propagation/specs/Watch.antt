-- Watched literals: where clauses lie, and the lists of watches.
use Rattle.std.specs.Prelude.{◌≡◌, ◌≢◌, ◌⊎◌, ◌==◌, ℕ, ◌+◌, ◌-◌, ◌*◌, ◌<◌, ◌≤◌, if◌then◌else◌, List, [], ◌∷◌, ◌++◌, length, map, replicate, Option, Some, None, Contains, All, slice_range, slice_index_or}
use Rattle.std.specs.declared.vec.Vec.{Vec}
use Rattle.std.specs.declared.alloc.Global.{Global}
use Rattle.cnf_form.specs.Cnf.{LitOf, index_of}
use Rattle.unit_propagation.specs.declared.watch.Head.{Head}
use Rattle.unit_propagation.specs.declared.watch.Watch.{Watch}
use Rattle.unit_propagation.specs.declared.watch.TheConstants.{GONE}
use Rattle.unit_propagation.specs.Propagator.{slot_at}

-- where the literals of a clause end: where those of the next one begin, or at the end of them all
abbrev pub end_of : ℕ → List Head → ℕ → ℕ
end_of size heads k = slice_index_or (map (λ (h : Head). h.start) heads) (k + 1) size

-- the clause of a head whose literals end there, if it wasn't removed
abbrev pub slot_of : List LitOf → ℕ → Head → Option (List LitOf)
slot_of lits end h = if h.from == GONE then None else Some (slice_range lits h.start end)

abbrev pub slots_of : List LitOf → List Head → List (Option (List LitOf))
slots_of lits [] = []
slots_of lits (h ∷ hs) = slot_of lits (end_of (length lits) (h ∷ hs) 0) h ∷ slots_of lits hs

-- the watches and the place of the search lie within bounds
pub record WatchesFit (vars end : ℕ) (h : Head) : Type 0 where
  pub from : h.from ≤ end
  pub left : h.left.var ≤ vars
  pub right : h.right.var ≤ vars

-- where a clause lies whose literals end there, and what it watches, if anything
pub record HeadFits (vars end : ℕ) (h : Head) : Type 0 where
  pub start : h.start ≤ end
  pub from : h.start ≤ h.from
  pub watches : h.left ≢ h.right → WatchesFit vars end h

-- each clause lies before the next one
pub record HeadsFit (vars size : ℕ) (heads : List Head) : Type 0 where
  pub each : (k : ℕ) (d : Head) → k < length heads → HeadFits vars (end_of size heads k) (slice_index_or heads k d)
  pub within : (k : ℕ) → end_of size heads k ≤ size

pub record WatchFits (vars count : ℕ) (w : Watch) : Type 0 where
  pub clause : w.clause < count
  pub blocker : w.blocker.var ≤ vars

-- the entries fit
abbrev pub AreWatches : ℕ → ℕ → Vec Watch Global → Type 0
AreWatches vars count v = All (WatchFits vars count) v.items

-- the lists by the place of their literal; the literals over the variables after those that are there have empty ones
abbrev pub rows_of : ℕ → List (Vec Watch Global) → List (List Watch)
rows_of vars lists = map (λ (v : Vec Watch Global). v.items) lists ++ replicate (2 * vars + 2 - length lists) []

-- the list of a literal
abbrev pub row : List (List Watch) → LitOf → List Watch
row rows l = slice_index_or rows (index_of l) []

-- the clause watches the one and the other
abbrev pub Watches : Head → LitOf → LitOf → Type 0
Watches h l other = ((h.left ≡ l) × (h.right ≡ other)) ⊎ ((h.right ≡ l) × (h.left ≡ other))

-- the clause doesn't watch the literal
abbrev pub IsStale : Head → LitOf → Type 0
IsStale h l = (h.left ≡ h.right) ⊎ ((h.left ≢ l) × (h.right ≢ l))

-- the entry is one of the two of a clause k that watches left and right
abbrev pub IsEntryOf : ℕ → LitOf → LitOf → LitOf → Watch → Type 0
IsEntryOf k left right u w = (w.clause ≡ k) × (((u ≡ left) × (w.blocker ≡ right)) ⊎ ((u ≡ right) × (w.blocker ≡ left)))

-- no entry went, and only entries of the clause k came
pub record Enters (rows rows' : List (List Watch)) (k : ℕ) (left right : LitOf) : Type 0 where
  pub keeps : (u : LitOf) (w : Watch) → Contains (row rows u) w → Contains (row rows' u) w
  pub only : (u : LitOf) (w : Watch) → Contains (row rows' u) w → Contains (row rows u) w ⊎ IsEntryOf k left right u w

-- no entry came, and only entries of clauses that were removed went
pub record Sweeps (slots : List (Option (List LitOf))) (rows rows' : List (List Watch)) : Type 0 where
  pub keeps : (u : LitOf) (w : Watch) (c : List LitOf) → Contains (row rows u) w → slot_at slots w.clause ≡ Some c → Contains (row rows' u) w
  pub only : (u : LitOf) (w : Watch) → Contains (row rows' u) w → Contains (row rows u) w
