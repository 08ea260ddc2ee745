use Rattle.std.proofs.Common.{rules, ◌≡◌, ◌++◌, ◌∷◌, [], length, arith}
use Rattle.unit_propagation.specs.declared.watch.Head.{Head}
use Rattle.unit_propagation.proofs.Stores.{slots_of-push}
use Rattle.unit_propagation.proofs.store.ClauseStore.push.Goals as goal

pub returns-clause-slots : goal.returns-clause-slots
returns-clause-slots c =
    let s = c.args.self.now in
    let e = c.in_ok-extend_from_slice.ensures in
    let h : Head = record { start = c.len-start.result; from = c.len-start.result; left = c.args.left; right = c.args.right } in
    let at : c.len-start.result ≡ length s.lits.items = search rules in
    let pushed : c.push.new.self.items ≡ s.heads.items ++ h ∷ [] = search rules in
    rw (e.items, pushed) (slots_of-push s.lits.items c.args.clause.now s.heads.items h s.fit.within at (omega (arith, at, s.counted)))
