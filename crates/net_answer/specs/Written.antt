-- What the writer of an answer that is known whole has written.
use Rattle.std.specs.Prelude.{◌≡◌, List, ℕ, Option}
use Rattle.net_link.specs.Frame.{AreFull, all_framed, joined}
use Rattle.net_link.specs.Link.{Grew}

-- such bytes were written after the others, where they are told
abbrev pub Wrote : Option (List ℕ) → Option (List ℕ) → (List ℕ → Type 0) → Type 0
Wrote before now such = (bytes : List ℕ) × such bytes × Grew before now bytes

-- whole pieces were written, of this front of a stream
pub record WroteWhole (before now : Option (List ℕ)) (front : List ℕ) : Type 0 where
  pub pieces : List (List ℕ)
  pub full : AreFull pieces
  pub front_is : front ≡ joined pieces
  pub grew : Grew before now (all_framed pieces)
