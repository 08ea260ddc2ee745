-- Turns that wait in slots are raced.
use Rattle.std.proofs.Common.{◌≡◌, ℕ, zero, suc, ◌<◌, ◌+◌, List, [], ◌∷◌, length, sym, subst, ◌∙◌, arith}
use Rattle.std.specs.Prelude.{Option, Some, slice_index_or}
use Rattle.jobs_pool.specs.Places.{PoolOf}
use Rattle.sby_edge.specs.Child.{YardOf}
use Rattle.sby_lines.proofs.ShownLemmas.{some_same}
use Rattle.sby_top.specs.Turns.{Turn}
use Rattle.sby_top.specs.Waiting.{AreWaiting, Holds, IsAt}
use Rattle.sby_top.specs.World.{FilesOf}
use Rattle.sby_top.specs.declared.slot.Slot.{Slot}
use Rattle.sby_top.specs.declared.slot.Stage.{Stage}
use Rattle.task_race.specs.Bays.{BackOf}

-- what a slot holds is the stage that is taken out of it
pub held_is : {L : Type 0} (slot : Slot L) (P : Stage L → Type 0) (stage : Stage L) → slot.stage ≡ Some stage → Holds slot P → P stage
held_is slot P stage is holds = subst P (some_same holds.0 stage (sym holds.1 ∙ is)) holds.2

module _ {L : Type 0} (back : L → BackOf) (may_read : ℕ → Type 0) where
  -- a slot holds some turn
  abbrev pub HoldsTurn : Slot L → Type 0
  HoldsTurn slot = (pool : PoolOf) × (scripts : Option YardOf) × (got : FilesOf) × (put : FilesOf) × (turn : Turn) × Holds slot (IsAt back may_read pool scripts slot.number got put turn)

  -- a slot holds what it held before, under its number
  abbrev pub KeepsTurn : Slot L → Slot L → Type 0
  KeepsTurn old new = (new.number ≡ old.number) × ((pool : PoolOf) (scripts : Option YardOf) (got put : FilesOf) (turn : Turn)
      → Holds old (IsAt back may_read pool scripts old.number got put turn) → Holds new (IsAt back may_read pool scripts old.number got put turn))

  pub turn_held : (slot : Slot L) (stage : Stage L) → slot.stage ≡ Some stage → HoldsTurn slot
      → (pool : PoolOf) × (scripts : Option YardOf) × (got : FilesOf) × (put : FilesOf) × (turn : Turn) × IsAt back may_read pool scripts slot.number got put turn stage
  turn_held slot stage is (pool, scripts, got, put, turn, holds) = (pool, scripts, got, put, turn, held_is slot (IsAt back may_read pool scripts slot.number got put turn) stage is holds)

  pub each_turn : (pool : PoolOf) (scripts : Option YardOf) (number : ℕ) (got last : FilesOf) (turns : List Turn) (slots : List (Slot L)) → AreWaiting back may_read pool scripts number got turns last slots
      → (i : ℕ) (d : Slot L) → i < length slots → HoldsTurn (slice_index_or slots i d)
  each_turn pool scripts number got last [] [] w i d lt = absurd (omega (arith, lt))
  each_turn pool scripts number got last [] (slot ∷ slots) w i d lt = absurd w
  each_turn pool scripts number got last (turn ∷ turns) [] w i d lt = absurd w
  each_turn pool scripts number got last (turn ∷ turns) (slot ∷ slots) w zero d lt =
      (pool, scripts, got, w.0, turn, subst (λ n. Holds slot (IsAt back may_read pool scripts n got w.0 turn)) (sym w.1) w.2)
  each_turn pool scripts number got last (turn ∷ turns) (slot ∷ slots) w (suc i) d lt = each_turn pool scripts (number + 1) w.0 last turns slots w.3 i d (omega (arith, lt))

  pub waiting_kept : (pool : PoolOf) (scripts : Option YardOf) (number : ℕ) (got last : FilesOf) (turns : List Turn) (olds news : List (Slot L)) → AreWaiting back may_read pool scripts number got turns last olds
      → length news ≡ length olds → ((i : ℕ) (d : Slot L) → i < length olds → KeepsTurn (slice_index_or olds i d) (slice_index_or news i d))
      → AreWaiting back may_read pool scripts number got turns last news
  waiting_kept pool scripts number got last [] [] [] w same keeps = w
  waiting_kept pool scripts number got last [] [] (new ∷ news) w same keeps = absurd (omega (arith, same))
  waiting_kept pool scripts number got last [] (old ∷ olds) news w same keeps = absurd w
  waiting_kept pool scripts number got last (turn ∷ turns) [] news w same keeps = absurd w
  waiting_kept pool scripts number got last (turn ∷ turns) (old ∷ olds) [] w same keeps = absurd (omega (arith, same))
  waiting_kept pool scripts number got last (turn ∷ turns) (old ∷ olds) (new ∷ news) w same keeps =
      let first : KeepsTurn old new = keeps 0 old (omega arith) in
      let held = first.1 pool scripts got w.0 turn (subst (λ n. Holds old (IsAt back may_read pool scripts n got w.0 turn)) (sym w.1) w.2) in (
        w.0,
        first.0 ∙ w.1,
        subst (λ n. Holds new (IsAt back may_read pool scripts n got w.0 turn)) w.1 held,
        waiting_kept pool scripts (number + 1) w.0 last turns olds news w.3 (omega (arith, same)) (λ i d lt. keeps (suc i) d (omega (arith, lt))),
      )
