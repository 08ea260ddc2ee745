use Rattle.std.proofs.Common.{◌≡◌, ◌<◌, ◌≤◌, ◌%◌, length, get_or, sym, ◌∙◌, subst, rules}
use Rattle.std.proofs.lemmas.List.{get_or_default}
use Rattle.drup_check.specs.Copies.{CopiesOf, Holds}
use Rattle.drup_check.proofs.Chains.{enter_keeps}
use Rattle.drup_check.proofs.copies.Copies.enter.Goals as goal

pub returns-clause-keeps : goal.returns-clause-keeps
returns-clause-keeps c = λ h j s.
    let t = c.self.inside in
    let firsts = t.firsts.items in
    let i = c.args.weight % c.len.result in
    let room : i < length firsts = search rules in
    let v = c.index.result.now in
    let is : v ≡ get_or firsts i 0 = c.index.ensures ∙ get_or_default firsts i v 0 room in
    let counted = subst (λ (z : CopiesOf). z.count ≤ c.args.k) (sym c.self.view_is) c.requires.count in
    let place = subst (λ (z : CopiesOf). c.args.k < length z.nexts) (sym c.self.view_is) c.requires.place in
    enter_keeps firsts t.nexts.items t.count c.args.k i c.self.invariant counted place room v is h j (subst (λ (z : CopiesOf). Holds z h j) (sym c.self.view_is) s)
