use Rattle.std.proofs.Common.{◌≡◌, drop, bytes_eq}
use Rattle.std.specs.Map.{lookup}
use Rattle.design_reader.specs.Views.{kind_rows}
use Rattle.design_reader.proofs.kinds.kind_beside.Given as goal

abbrev pub invariant-loop-n : goal.invariant-loop-n
invariant-loop-n l = lookup (λ n. bytes_eq n l.name) (kind_rows (drop l.n-index l.rows)) ≡ lookup (λ n. bytes_eq n l.name) (kind_rows l.rows)
