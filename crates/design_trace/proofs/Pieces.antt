-- A text as its pieces, one after another.
use Rattle.std.proofs.Common.{◌≡◌, ◌+◌, List, [], ◌∷◌, ◌++◌, ℕ, length, refl, ap}
use Rattle.std.specs.List.{enumerate_from, flat_map}
use Rattle.sby_bits.specs.Rows.{Row}
use Rattle.design_core.specs.Shape.{DesignOf}
use Rattle.design_trace.specs.Trace.{cycle_text, cycles_from}
use Rattle.design_trace.specs.Changes.{time_line, vcd, vcd_cycle, vcd_cycles_from, vcd_head}

pub cycles_are_texts : (d : DesignOf) (k : ℕ) (rows : List Row) → cycles_from d k rows ≡ flat_map (λ p. cycle_text d p.0 p.1) (enumerate_from k rows)
cycles_are_texts d k [] = refl
cycles_are_texts d k (row ∷ rows) = ap (λ t. cycle_text d k row ++ t) (cycles_are_texts d (k + 1) rows)

changes_are_cycles : (d : DesignOf) (k : ℕ) (rows : List Row) → vcd_cycles_from d k rows ≡ flat_map (λ p. vcd_cycle d p.0 p.1) (enumerate_from k rows)
changes_are_cycles d k [] = refl
changes_are_cycles d k (row ∷ rows) = ap (λ t. vcd_cycle d k row ++ t) (changes_are_cycles d (k + 1) rows)

pub vcd_is_pieces : (d : DesignOf) (rows : List Row) → vcd d rows ≡ vcd_head d ++ (flat_map (λ p. vcd_cycle d p.0 p.1) (enumerate_from 0 rows) ++ time_line (length rows))
vcd_is_pieces d rows = ap (λ t. vcd_head d ++ (t ++ time_line (length rows))) (changes_are_cycles d 0 rows)
