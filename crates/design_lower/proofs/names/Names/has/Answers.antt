use Rattle.std.proofs.Common.{◌∙◌, ℕ, List, bytes_eq}
use Rattle.std.specs.Borrow.{Bor}
use Rattle.design_lower.proofs.Listed.{any_by, bytes_eq_comm}
use Rattle.design_lower.proofs.names.Names.has.Goals as goal

pub returns : goal.returns
returns c = rw (← c.self.view_is) (c.contains.ensures ∙ any_by (λ (n : Bor (List ℕ)). n.now) (λ n. bytes_eq n c.args.name.now) (λ n. bytes_eq c.args.name.now n.now) (λ n. bytes_eq_comm c.args.name.now n.now) c.self.inside.names.keys)
