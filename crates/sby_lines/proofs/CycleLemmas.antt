-- The lines of a trace, cycle by cycle.
use Rattle.std.proofs.Common.{◌≡◌, ℕ, ◌+◌, ◌≤◌, List, [], ◌++◌, refl, subst, length, drop}
use Rattle.std.specs.Prelude.{Option, Some, Ok, Err, slice_get}
use Rattle.std.proofs.lemmas.List.{drop_all}
use Rattle.std.proofs.lemmas.List.Elements.{All-nil}
use Rattle.design_core.specs.Shape.{DesignOf}
use Rattle.design_meaning.specs.Runs.{CycleOf, shown_of}
use Rattle.design_trace.specs.Trace.{cycle_text, cycles_from}
use Rattle.sby_lines.specs.Broken.{AreLinesOf, IsLine}
use Rattle.sby_lines.specs.Telling.{Tells}
use Rattle.sby_lines.specs.declared.tell.Stop.{Stop}
use Rattle.sby_lines.proofs.BrokenLemmas.{cut_cycles, cut_text, lines_both}
use Rattle.sby_lines.proofs.OneLemmas.{one_trace}
use Rattle.sby_lines.proofs.PlaceLemmas.{drop_at}
use Rattle.sby_lines.proofs.TellLemmas.{ToldBefore, told_all, told_more, told_stopped}

-- those of the cycles before one were told
abbrev pub CyclesBefore : DesignOf → List CycleOf → Option (List ℕ) → Option (List ℕ) → ℕ → ℕ → ℕ → List (List ℕ) → Type 0
CyclesBefore d run b m f g number all = (rest : List (List ℕ)) × AreLinesOf (cycles_from d number (shown_of (drop number run))) rest × ToldBefore b m f g rest all

-- those of all cycles were
pub cycles_all : {e : Option ℕ} (d : DesignOf) (run : List CycleOf) (number : ℕ) (b m : Option (List ℕ)) (f g : ℕ) (all : List (List ℕ)) → length run ≤ number → CyclesBefore d run b m f g number all
    → Tells {T = Unit {0}} b m f g e all (Ok tt)
cycles_all {e} d run number b m f g all past before =
    let none = subst (λ cs. AreLinesOf (cycles_from d number (shown_of cs)) before.0) (drop_all number run past) before.1 in
    told_all {e = e} b m f g before.0 all (one_trace [] before.0 [] none (refl, All-nil IsLine)) before.2

module _ (d : DesignOf) (run : List CycleOf) (number : ℕ) (cycle : CycleOf) (at : slice_get run number ≡ Some cycle) where
  -- the lines of the cycles from this one on are its own, and then those of the others
  abbrev Next : List (List ℕ) → Type 0
  Next lines = (first : List (List ℕ)) × (rest : List (List ℕ)) × AreLinesOf (cycle_text d number cycle.wires) first × AreLinesOf (cycles_from d (number + 1) (shown_of (drop (number + 1) run))) rest
      × (lines ≡ first ++ rest)

  cycle_next : (lines : List (List ℕ)) → AreLinesOf (cycles_from d number (shown_of (drop number run))) lines → Next lines
  cycle_next lines are =
      let others = shown_of (drop (number + 1) run) in
      let first = cut_text d number cycle.wires in
      let rest = cut_cycles d (number + 1) others in
      let both = lines_both (cycle_text d number cycle.wires) (cycles_from d (number + 1) others) first.0 rest.0 first.1 rest.1 in
      let own = subst (λ cs. AreLinesOf (cycles_from d number (shown_of cs)) lines) (drop_at run number cycle at) are in
      (first.0, rest.0, first.1, rest.1, one_trace (cycle_text d number cycle.wires ++ cycles_from d (number + 1) others) lines (first.0 ++ rest.0) own both)

  pub cycles_more : {e : Option ℕ} (b m n : Option (List ℕ)) (f g h : ℕ) (all : List (List ℕ)) → CyclesBefore d run b m f g number all
      → ((lines : List (List ℕ)) → AreLinesOf (cycle_text d number cycle.wires) lines → Tells {T = Unit {0}} m n g h e lines (Ok tt)) → CyclesBefore d run b n f h (number + 1) all
  cycles_more {e} b m n f g h all before tells =
      let k = cycle_next before.0 before.1 in (k.1, k.3, told_more {e = e} b m n f g h k.0 k.1 before.0 all k.4 before.2 (tells k.0 k.2))

  pub cycles_stopped : {e : Option ℕ} (b m n : Option (List ℕ)) (f g h : ℕ) (all : List (List ℕ)) (s : Stop) → CyclesBefore d run b m f g number all
      → ((lines : List (List ℕ)) → AreLinesOf (cycle_text d number cycle.wires) lines → Tells {T = Unit {0}} m n g h e lines (Err s)) → Tells {T = Unit {0}} b n f h e all (Err s)
  cycles_stopped {e} b m n f g h all s before tells =
      let k = cycle_next before.0 before.1 in told_stopped {T = Unit {0}} {U = Unit {0}} {e = e} b m n f g h k.0 k.1 before.0 all s k.4 before.2 (tells k.0 k.2)
