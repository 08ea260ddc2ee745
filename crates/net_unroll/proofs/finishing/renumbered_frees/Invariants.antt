use Rattle.std.proofs.Common.{◌≡◌, ℕ, Bool, take, map}
use Rattle.std.specs.List.{filter}
use Rattle.net_unroll.specs.Encoding.{renumbered_free}
use Rattle.net_unroll.specs.Finishing.{HasMarks, HasNumbers}
use Rattle.net_unroll.proofs.finishing.renumbered_frees.Given as goal

abbrev pub invariant-loop-one : goal.invariant-loop-one
invariant-loop-one l = (test : ℕ → Bool) → HasNumbers l.numbers test → HasMarks l.marks test → l.new.items ≡ map (renumbered_free test) (filter (λ f. test f.var) (take l.one-index l.free))
