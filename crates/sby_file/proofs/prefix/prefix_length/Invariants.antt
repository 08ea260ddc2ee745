use Rattle.std.proofs.Common.{◌≡◌, map, drop, string_bytes}
use Rattle.sby_file.specs.Prefix.{prefix_length}
use Rattle.sby_file.proofs.Prefixes.{moved}
use Rattle.sby_file.proofs.prefix.prefix_length.Given as goal

abbrev pub invariant-loop-i : goal.invariant-loop-i
invariant-loop-i l = prefix_length (map string_bytes l.words) ≡ moved l.i (prefix_length (map string_bytes (drop l.i l.words)))
