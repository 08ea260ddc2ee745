use Rattle.unit_propagation.specs.Watch.{slots_of, rows_of}
use Rattle.unit_propagation.specs.Visit.{State}
use Rattle.unit_propagation.specs.Watch.{Sweeps}
use Rattle.std.proofs.Common.{subst}
use Rattle.unit_propagation.proofs.Stores.{length-slots}
use Rattle.unit_propagation.proofs.Filing.{filed_out, kept_out}
use Rattle.unit_propagation.proofs.file.remove_clause.Goals as goal

pub returns-clause-filed : goal.returns-clause-filed
returns-clause-filed c = λ rows t but.
    let s = c.args.store.now in
    let l = c.leave_pair.ensures in
    let f = c.forget.ensures in
    let w = f.heads in
    let st : State = record { heads = s.heads.items; rows = rows; trail = t } in
    let old = rows_of c.args.pairs.now.vars c.args.pairs.now.lists.items in
    let new = rows_of c.leave_pair.new.pairs.vars c.leave_pair.new.pairs.lists.items in
    let x = filed_out (slots_of s.lits.items s.heads.items) st old new c.args.k w.0 w.2 (length-slots s.lits.items s.heads.items) c.requires.clause but (subst (λ z. Sweeps z old new) f.slots l.sweeps) in
    rw (f.slots, w.1) x

pub returns-clause-kept : goal.returns-clause-kept
returns-clause-kept c = λ p t all.
    let s = c.args.store.now in
    let f = c.forget.ensures in
    let w = f.heads in
    let st : State = record { heads = s.heads.items; rows = rows_of c.args.pairs.now.vars c.args.pairs.now.lists.items; trail = t } in
    let x = kept_out (slots_of s.lits.items s.heads.items) st (rows_of c.args.pairs.now.vars c.args.pairs.now.lists.items) (rows_of c.args.pairs.now.vars c.args.pairs.now.lists.items) c.args.k w.0 w.2 (length-slots s.lits.items s.heads.items) c.requires.clause p t all in
    rw (f.slots, w.1) x
