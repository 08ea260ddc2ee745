-- A shared text.
use Rattle.std.specs.Prelude.{ℕ, List, [], Option, Some, None}
use Rattle.std.specs.declared.sync.Arc.{Arc}
use Rattle.std.specs.declared.vec.Vec.{Vec}

-- the bytes; there are none where there is no owner
abbrev pub bytes_of : {Z W : Type 0} → Option (Arc (Vec ℕ W) Z) → List ℕ
bytes_of None = []
bytes_of (Some bytes) = bytes.value.items
