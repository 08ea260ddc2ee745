-- What the wires have in a cycle of a run.
use Rattle.std.proofs.Common.{◌≡◌, ◌∙◌, ◌<◌, ℕ, List, [], get_or, length, ap, sym}
use Rattle.std.proofs.lemmas.List.{get_or-map}
use Rattle.design_meaning.specs.Runs.{CycleOf, shown_of}

pub shown_row : (run : List CycleOf) (k : ℕ) (c : CycleOf) → k < length run → c ≡ get_or run k c → get_or (shown_of run) k [] ≡ c.wires
shown_row run k c lt is = get_or-map (λ (x : CycleOf). x.wires) run k c [] lt ∙ ap (λ (x : CycleOf). x.wires) (sym is)
