use Rattle.std.proofs.Common.{sym, ◌∙◌, ap, arith}
use Rattle.hint_chain.specs.Ids.{id_at}
use Rattle.hint_chain.proofs.Naming.{named_first, zeros_at}
use Rattle.hint_chain.proofs.ids.Ids.new.Goals as goal

pub returns-clause-named : goal.returns-clause-named
returns-clause-named c F e t =
    let w = c.in_ok-watched.ensures in
    let k = c.in_ok-facts.ensures.items_if_clones_equal in
    named_first F _ (w.sized ∙ sym e) (λ n h. w.each n (omega (arith, h, e))) c.new-2.ensures.items (λ i. ap (λ z. id_at z i) (k (λ y q. q)) ∙ zeros_at _ i) (sym e)
