-- Entries whose literals stand in one list.
use Rattle.std.specs.Prelude.{ℕ, ◌<◌, ◌≤◌, Option, Some, None, List, length, map, slice_index_or, slice_range}
use Rattle.cnf_form.specs.Cnf.{LitOf}
use Rattle.lrat_check.specs.declared.entries.Slot.{Slot}
use Rattle.lrat_check.specs.declared.entries.Span.{Span}
use Rattle.lrat_check.specs.Table.{Entry, IsRising}

-- the literals of a clause that wasn't deleted
abbrev pub clause_of : List LitOf → Option Span → Option (List LitOf)
clause_of lits (Some s) = Some (slice_range lits s.start s.end)
clause_of lits None = None

abbrev pub entry_of : List LitOf → Slot → Entry
entry_of lits s = record { id = s.id; clause = clause_of lits s.span }

abbrev pub entries_of : List LitOf → List Slot → List Entry
entries_of lits slots = map (entry_of lits) slots

-- the literals lie in the list
abbrev pub Lies : ℕ → Option Span → Type 0
Lies size (Some s) = (s.start ≤ s.end) × (s.end ≤ size)
Lies size None = Unit {0}

-- the ids rise, and the literals of each clause lie in the list
pub record IsArena (lits : List LitOf) (slots : List Slot) : Type 0 where
  pub rising : IsRising (entries_of lits slots)
  pub lies : (k : ℕ) (d : Slot) → k < length slots → Lies (length lits) (slice_index_or slots k d).span
