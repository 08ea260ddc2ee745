use Rattle.std.proofs.Common.{string_bytes}
use Rattle.sby_terms.proofs.Copies.{map-clones}
use Rattle.sby_terms.proofs.engine.Words.copy.Goals as goal

pub returns : goal.returns
returns c = rw (← c.self.view_is) (map-clones string_bytes _ _ _ (λ x y same. same) c.in_ok-words.ensures.cases.0)
