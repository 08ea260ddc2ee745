use Rattle.std.proofs.Common.{◌≡◌, drop}
use Rattle.model_cone.specs.Slice.{has_kept, kept_by}
use Rattle.model_cone.proofs.slice.has_kept.Given as goal

abbrev pub invariant-loop-place : goal.invariant-loop-place
invariant-loop-place l = has_kept (kept_by l.marks) (drop l.place-index l.places) ≡ has_kept (kept_by l.marks) l.places
