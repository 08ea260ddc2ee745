-- The turns that words ask wait in slots.
use Rattle.std.proofs.Common.{◌≡◌, ℕ, List, [], ◌∷◌, ◌++◌, refl, sym, ◌∙◌, subst, length, take, arith}
use Rattle.std.specs.Prelude.{Bool, true, false, Option, Some}
use Rattle.std.proofs.lemmas.List.{length-append, take-append-le, take_all}
use Rattle.jobs_pool.specs.Places.{PoolOf}
use Rattle.sby_file.specs.Config.{ConfigOf}
use Rattle.task_race.specs.Bays.{BackOf, NoneStarted}
use Rattle.sby_top.specs.Turns.{AreTurnsOf, Turn}
use Rattle.sby_top.specs.Waiting.{AreSlotted, AreSlottedFor, AreWaiting, Holds, IsAt, IsSlotted}
use Rattle.sby_top.specs.World.{World, files_of, with_files, with_yard}
use Rattle.sby_top.specs.declared.slot.Slot.{Slot}
use Rattle.sby_top.proofs.TogetherLemmas.{none_started_since, none_started_yet, silent_since, waiting_count, waiting_more}
use Rattle.sby_top.proofs.TurnLemmas.{turn_exists, turns_append, turns_exist}

-- the only turn waits in its slot
pub one_slotted : {L : Type 0} (back : L → BackOf) (may_read : ℕ → Type 0) (pool : PoolOf) (start now : World) (turn : Turn) (slot : Slot L) (slots : List (Slot L)) → slots ≡ slot ∷ [] → slot.number ≡ 0
    → Holds slot (IsAt back may_read pool start.yard.scripts 0 (files_of start) (files_of now) turn) → NoneStarted start.yard now.yard → now ≡ with_yard (with_files start (files_of now)) now.yard
    → AreSlotted back may_read pool start now (turn ∷ []) true slots
one_slotted back may_read pool start now turn slot slots is number holds spared silent = subst (λ ss. AreSlotted back may_read pool start now (turn ∷ []) true ss) (sym is) (record {
  waiting = (files_of now, number, holds, refl);
  all = λ _. refl;
  few = λ no. cc;
  spared = spared;
  silent = silent;
})

-- no turn was asked for yet
pub slotted_none : {L : Type 0} (back : L → BackOf) (may_read : ℕ → Type 0) (pool : PoolOf) (start : World) (stem : List ℕ) (directory : Option (List ℕ)) (c : ConfigOf) (slots : List (Slot L)) → slots ≡ []
    → AreSlottedFor back may_read pool start start stem directory c [] slots
slotted_none back may_read pool start stem directory c slots none = record {
  turns = [];
  are = refl;
  waiting = subst (λ ss. AreWaiting back may_read pool start.yard.scripts 0 (files_of start) [] (files_of start) ss) (sym none) refl;
  spared = none_started_yet start.yard;
  silent = refl;
}

slotted_more : {L : Type 0} (back : L → BackOf) (may_read : ℕ → Type 0) (pool : PoolOf) (start mid now : World) (stem : List ℕ) (directory : Option (List ℕ)) (c : ConfigOf) (asked : List (Option (List ℕ))) (a : Option (List ℕ)) (old new : List (Slot L))
    → AreSlottedFor back may_read pool start mid stem directory c asked old → IsSlotted back may_read pool mid now stem directory c a old new true → AreSlottedFor back may_read pool start now stem directory c (asked ++ a ∷ []) new
slotted_more back may_read pool start mid now stem directory c asked a old new had is = record {
  turns = had.turns ++ is.0 ∷ [];
  are = turns_append stem directory c asked (a ∷ []) had.turns (is.0 ∷ []) had.are (is.2, refl);
  waiting = subst (λ ss. AreWaiting back may_read pool start.yard.scripts 0 (files_of start) (had.turns ++ is.0 ∷ []) (files_of now) ss) (sym is.3)
      (waiting_more back may_read pool start.yard.scripts 0 (length old) (files_of start) (files_of mid) (files_of now) had.turns is.0 old is.1 (omega arith) had.waiting is.4
      (subst (λ s. Holds is.1 (IsAt back may_read pool s (length old) (files_of mid) (files_of now) is.0)) had.spared.scripts is.5));
  spared = none_started_since start.yard mid.yard now.yard had.spared is.6;
  silent = silent_since start mid now had.silent is.7;
}

-- all turns wait in slots, or, where memory ran out for a name, those before it
abbrev pub SlottedAsked : {L : Type 0} → (L → BackOf) → (ℕ → Type 0) → PoolOf → World → World → List ℕ → Option (List ℕ) → ConfigOf → List (Option (List ℕ)) → Bool → List (Slot L) → Type 0
SlottedAsked back may_read pool start now stem directory c asked is_all slots = (turns : List Turn) × AreTurnsOf stem directory c asked turns × AreSlotted back may_read pool start now turns is_all slots

-- the list in front, by its length
pub first_of : {X : Type 0} (xs ys : List X) (n : ℕ) → length xs ≡ n → take n (xs ++ ys) ≡ xs
first_of xs ys n is = take-append-le n xs ys (omega (arith, is)) ∙ take_all n xs (omega (arith, is))

slotted_last : {L : Type 0} (back : L → BackOf) (may_read : ℕ → Type 0) (pool : PoolOf) (start mid now : World) (stem : List ℕ) (directory : Option (List ℕ)) (c : ConfigOf) (asked more : List (Option (List ℕ))) (a : Option (List ℕ)) (old new : List (Slot L))
    → AreSlottedFor back may_read pool start mid stem directory c asked old → IsSlotted back may_read pool mid now stem directory c a old new false
    → SlottedAsked back may_read pool start now stem directory c (asked ++ a ∷ more) false new
slotted_last back may_read pool start mid now stem directory c asked more a old new had is =
    let first = turn_exists stem directory c a in
    let others = turns_exist stem directory c more in
    let turns = had.turns ++ first.0 ∷ others.0 in
    let count = waiting_count back may_read pool start.yard.scripts 0 (files_of start) (files_of mid) had.turns old had.waiting in
    let long = length-append had.turns (first.0 ∷ others.0) in
    let slotted : AreSlotted back may_read pool start mid turns false old = record {
      waiting = subst (λ ts. AreWaiting back may_read pool start.yard.scripts 0 (files_of start) ts (files_of mid) old) (sym (first_of had.turns (first.0 ∷ others.0) (length old) count)) had.waiting;
      all = λ no. cc;
      few = λ _. omega (arith, count, long);
      spared = had.spared;
      silent = had.silent;
    } in (
      turns,
      turns_append stem directory c asked (a ∷ more) had.turns (first.0 ∷ others.0) had.are (first.1, others.1),
      subst (λ ss. AreSlotted back may_read pool start now turns false ss) (sym is.1) (subst (λ w. AreSlotted back may_read pool start w turns false old) (sym is.0) slotted),
    )

slotted_all : {L : Type 0} (back : L → BackOf) (may_read : ℕ → Type 0) (pool : PoolOf) (start now : World) (stem : List ℕ) (directory : Option (List ℕ)) (c : ConfigOf) (asked : List (Option (List ℕ))) (slots : List (Slot L))
    → AreSlottedFor back may_read pool start now stem directory c asked slots → SlottedAsked back may_read pool start now stem directory c asked true slots
slotted_all back may_read pool start now stem directory c asked slots had =
    let count = waiting_count back may_read pool start.yard.scripts 0 (files_of start) (files_of now) had.turns slots had.waiting in (
      had.turns,
      had.are,
      record {
        waiting = subst (λ ts. AreWaiting back may_read pool start.yard.scripts 0 (files_of start) ts (files_of now) slots) (sym (take_all (length slots) had.turns (omega (arith, count)))) had.waiting;
        all = λ _. count;
        few = λ no. cc;
        spared = had.spared;
        silent = had.silent;
      },
    )

-- ---- the same, for lists of tasks that are written otherwise

-- the turn that was asked for, by the name and the answer
slot_at : {L : Type 0} (back : L → BackOf) (may_read : ℕ → Type 0) (pool : PoolOf) (before after : World) (stem : List ℕ) (directory : Option (List ℕ)) (c : ConfigOf) (x y : List ℕ) (old new : List (Slot L)) (b v : Bool) → b ≡ v → x ≡ y
    → IsSlotted back may_read pool before after stem directory c (Some x) old new b → IsSlotted back may_read pool before after stem directory c (Some y) old new v
slot_at back may_read pool before after stem directory c x y old new b v answer name is =
    subst (λ n. IsSlotted back may_read pool before after stem directory c (Some n) old new v) name (subst (IsSlotted back may_read pool before after stem directory c (Some x) old new) answer is)

pub slotted_more_at : {L : Type 0} (back : L → BackOf) (may_read : ℕ → Type 0) (pool : PoolOf) (start mid now : World) (stem : List ℕ) (directory : Option (List ℕ)) (c : ConfigOf) (asked next : List (Option (List ℕ))) (x y : List ℕ) (old new : List (Slot L)) (b : Bool)
    → next ≡ asked ++ Some y ∷ [] → b ≡ true → x ≡ y → AreSlottedFor back may_read pool start mid stem directory c asked old → IsSlotted back may_read pool mid now stem directory c (Some x) old new b
    → AreSlottedFor back may_read pool start now stem directory c next new
slotted_more_at back may_read pool start mid now stem directory c asked next x y old new b all answer name had is = subst (λ xs. AreSlottedFor back may_read pool start now stem directory c xs new) (sym all)
    (slotted_more back may_read pool start mid now stem directory c asked (Some y) old new had (slot_at back may_read pool mid now stem directory c x y old new b true answer name is))

pub slotted_last_at : {L : Type 0} (back : L → BackOf) (may_read : ℕ → Type 0) (pool : PoolOf) (start mid now : World) (stem : List ℕ) (directory : Option (List ℕ)) (c : ConfigOf) (asked more all : List (Option (List ℕ))) (x y : List ℕ) (old new : List (Slot L)) (b : Bool)
    → all ≡ asked ++ Some y ∷ more → b ≡ false → x ≡ y → AreSlottedFor back may_read pool start mid stem directory c asked old → IsSlotted back may_read pool mid now stem directory c (Some x) old new b
    → SlottedAsked back may_read pool start now stem directory c all false new
slotted_last_at back may_read pool start mid now stem directory c asked more all x y old new b is answer name had ask = subst (λ xs. SlottedAsked back may_read pool start now stem directory c xs false new) (sym is)
    (slotted_last back may_read pool start mid now stem directory c asked more (Some y) old new had (slot_at back may_read pool mid now stem directory c x y old new b false answer name ask))

pub slotted_all_at : {L : Type 0} (back : L → BackOf) (may_read : ℕ → Type 0) (pool : PoolOf) (start now : World) (stem : List ℕ) (directory : Option (List ℕ)) (c : ConfigOf) (asked all : List (Option (List ℕ))) (slots : List (Slot L))
    → asked ≡ all → AreSlottedFor back may_read pool start now stem directory c asked slots → SlottedAsked back may_read pool start now stem directory c all true slots
slotted_all_at back may_read pool start now stem directory c asked all slots is had = subst (λ xs. SlottedAsked back may_read pool start now stem directory c xs true slots) is (slotted_all back may_read pool start now stem directory c asked slots had)
