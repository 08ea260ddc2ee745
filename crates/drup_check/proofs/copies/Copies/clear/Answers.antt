use Rattle.std.proofs.Common.{◌≡◌, ◌<◌, ◌≤◌, length, get_or, refl, sym, ◌∙◌, subst, arith, rules}
use Rattle.std.proofs.lemmas.List.{length-set}
use Rattle.drup_check.proofs.Chains.{cleared_more, chains_cleared}
use Rattle.drup_check.proofs.copies.Copies.clear.Goals as goal

pub loop-chain-init : goal.loop-chain-init
loop-chain-init c = record { cleared = λ i h. absurd (omega (arith, h)); sized = refl; nexts = refl }

pub loop-chain-preserved : goal.loop-chain-preserved
loop-chain-preserved c =
    let v = c.loop-chain.invariant in
    let firsts = c.loop-chain.self-inside.firsts.items in
    let chain = c.loop-chain.chain in
    let end : c.len-chain-end.result ≡ length c.self.inside.firsts.items = search rules in
    let room : chain < length firsts = omega (arith, c.loop-chain-test.true, end, v.sized) in
    record { cleared = cleared_more firsts chain room v.cleared; sized = length-set firsts chain 0 ∙ v.sized; nexts = v.nexts }

pub invariant_of-self : goal.invariant_of-self
invariant_of-self c =
    let v = c.loop-chain.invariant in
    let firsts = c.loop-chain.self-inside.firsts.items in
    let end : c.len-chain-end.result ≡ length c.self.inside.firsts.items = search rules in
    let i = c.self.invariant in
    rw c.truncate.ensures.items (chains_cleared firsts c.loop-chain.self-inside.nexts.items c.loop-chain.chain c.args.clauses (omega (arith, i.some, v.sized))
    (omega (arith, c.loop-chain-test.false, end, v.sized)) v.cleared (λ k. subst (λ z. get_or z k 0 ≤ k) (sym v.nexts) (i.falls k)))
