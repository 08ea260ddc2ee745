use Rattle.std.proofs.Common.{Bool, ap, sym, subst, ◌∙◌, rules}
use Rattle.std.proofs.lemmas.Fn.{filter_same}
use Rattle.std.specs.Prelude.{filter, is_some}
use Rattle.unit_propagation.specs.declared.watch.Watch.{Watch}
use Rattle.unit_propagation.specs.Propagator.{slot_at}
use Rattle.unit_propagation.specs.Watch.{Sweeps, slots_of, rows_of}
use Rattle.unit_propagation.proofs.Entries.{sweeps_one, sweeps_none}
use Rattle.unit_propagation.proofs.Rows.{row_written, row_was}
use Rattle.unit_propagation.proofs.lists.WatchLists.sweep.Goals as goal

pub returns-then-place-len-clause-rows : goal.returns-then-place-len-clause-rows
returns-then-place-len-clause-rows c =
    let s = c.args.self.now in
    let slots = slots_of c.args.store.now.lits.items c.args.store.now.heads.items in
    let was = c.index_mut.ensures in
    let r = c.retain.ensures in
    let old = row_was s.vars s.lists.items c.index-place.result c.args.l c.index-place.ensures c.index_mut.result.now (search rules) was.value in
    let test : Watch → Bool = λ w. is_some (slot_at slots w.clause) in
    let kept = filter_same _ test _ (λ x b q h. search rules) _ _ r.filtered in
    let e = row_written s.vars s.lists.items c.index-place.result c.args.l c.index-place.ensures c.retain.new.self _ (search rules) (kept ∙ ap (filter test) (sym old)) in
    subst (Sweeps slots (rows_of s.vars s.lists.items)) (sym e) (sweeps_one slots (rows_of s.vars s.lists.items) c.args.l)

pub returns-else-place-len-clause-rows : goal.returns-else-place-len-clause-rows
returns-else-place-len-clause-rows c = sweeps_none _ _
