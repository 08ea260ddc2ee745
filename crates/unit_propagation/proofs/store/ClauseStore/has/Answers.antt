use Rattle.std.proofs.Common.{◌≡◌, ◌<◌, ◌≤◌, get_or, length, sym, rules}
use Rattle.unit_propagation.proofs.Stores.{has_there, has_past}
use Rattle.unit_propagation.proofs.store.ClauseStore.has.Goals as goal

pub returns-in-Some : goal.returns-in-Some
returns-in-Some c =
    let s = c.args.self.now in
    let h = c.in-Some.head.now in
    let room : c.args.k < length s.heads.items = search rules in
    let read : h ≡ get_or s.heads.items c.args.k h = search rules in
    sym (has_there s.lits.items s.heads.items c.args.k h room read)

pub returns-in-None : goal.returns-in-None
returns-in-None c =
    let s = c.args.self.now in
    let past : length s.heads.items ≤ c.args.k = search rules in
    sym (has_past s.lits.items s.heads.items c.args.k past)
