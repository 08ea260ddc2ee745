-- What a child or a connection tells.
use Rattle.child_edge.specs.declared.either.Either.{Either}
use Rattle.child_edge.specs.declared.either.Either.TheVariants.{Child, Net}

-- what the one or the other tells
abbrev pub of_either : {C N A : Type 0} → (C → A) → (N → A) → Either C N → A
of_either of_child of_net (Child child) = of_child child
of_either of_child of_net (Net net) = of_net net
