use Rattle.std.proofs.Common.{◌≡◌, ◌||◌, ℕ, List, map, take, string_bytes}
use Rattle.sby_file.specs.Names.{has}
use Rattle.sby_file.proofs.names.Names.insert_all.Given as goal

abbrev pub invariant-loop-name : goal.invariant-loop-name
invariant-loop-name l = (other : List ℕ) → has l.self other ≡ (has l.initial.self other || has (map string_bytes (take l.name-index l.names)) other)
