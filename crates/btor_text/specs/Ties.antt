-- What a reader keeps beside its model.
use Rattle.std.specs.BTreeSet as tree
use Rattle.std.specs.Ordering.{nat_cmp}
use Rattle.btor_core.specs.Shape.{inits, nexts}
use Rattle.btor_text.specs.Steps.{AreTied}
use Rattle.btor_text.specs.declared.reading.Reader.{Reader}

-- the states that have an `init`, and those that have a `next`
pub record KeepsTies (r : Reader) : Type 0 where
  pub started : AreTied (tree.contains nat_cmp r.started) (inits r.model.lines)
  pub followed : AreTied (tree.contains nat_cmp r.followed) (nexts r.model.lines)
