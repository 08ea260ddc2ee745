use Rattle.std.proofs.Common.{◌≡◌, ◌∷◌, ◌++◌, map, take, string_bytes}
use Rattle.std.specs.List.{flat_map}
use Rattle.sby_file.proofs.section.spaced.Given as goal

abbrev pub invariant-loop-next : goal.invariant-loop-next
invariant-loop-next l = string_bytes l.name ≡ string_bytes l.first ++ flat_map (λ next. 32 ∷ next) (map string_bytes (take l.next-index l.more))
