use Rattle.std.proofs.Common.{◌≡◌, take}
use Rattle.model_cone.specs.Slice.{kept_at, kept_by}
use Rattle.model_cone.proofs.slice.keep.Given as goal

abbrev pub invariant-loop-k : goal.invariant-loop-k
invariant-loop-k g l = l.kept.items ≡ kept_at (kept_by l.marks) (take l.k l.places) l.row
