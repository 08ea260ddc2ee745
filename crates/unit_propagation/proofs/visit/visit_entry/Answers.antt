use Rattle.std.proofs.Common.{get_or, refl, rules}
use Rattle.std.specs.Prelude.{Contains}
use Rattle.unit_propagation.specs.declared.visit.Visited.TheVariants.{Left, Moved, Satisfied, Assigned, Falsified, NoMemory}
use Rattle.unit_propagation.proofs.Arms.{here_read, entry_read, arm_blocked, arm_visited}
use Rattle.unit_propagation.proofs.Visits.{state_of}
use Rattle.unit_propagation.proofs.visit.visit_entry.Goals as goal

pub returns-then-is_true-clause-step : goal.returns-then-is_true-clause-step
returns-then-is_true-clause-step c = λ p start v q.
    let here = here_read c.args.list.now c.args.k c.index-list-k.result c.requires.place in
    let on : Contains c.args.trail.now.lits (get_or c.args.list.now c.args.k c.index-list-k-2.result).blocker = c.is_true.ensures.0 c.if-is_true.true in
    rw c.keep.ensures.list (arm_blocked _ start _ _ p _ _ _ (get_or c.args.list.now c.args.k c.index-list-k.result).clause c.requires.kept c.requires.place here (search rules) v q _ (entry_read c.args.list.now c.args.k c.index-list-k.result c.index-list-k-2.result c.requires.place) refl on)

pub returns-in-Left-clause-step : goal.returns-in-Left-clause-step
returns-in-Left-clause-step c = λ p start v q.
    let here = here_read c.args.list.now c.args.k c.index-list-k.result c.requires.place in
    let e = c.in-Left.ensures in
    arm_visited _ start _ _ p _ _ _ (get_or c.args.list.now c.args.k c.index-list-k.result).clause c.requires.kept c.requires.place here (search rules) v q _ Left (λ g. let x = e.gone g in (x.0, state_of _ _ _ _ (cc (x.1)) (cc (x.2)) (cc (x.3)))) e.visited

pub returns-in-Moved-clause-step : goal.returns-in-Moved-clause-step
returns-in-Moved-clause-step c = λ p start v q.
    let here = here_read c.args.list.now c.args.k c.index-list-k.result c.requires.place in
    let e = c.in-Moved.ensures in
    arm_visited _ start _ _ p _ _ _ (get_or c.args.list.now c.args.k c.index-list-k.result).clause c.requires.kept c.requires.place here (search rules) v q _ (Moved c.in-Moved.field-0 c.in-Moved.field-1) (λ g. let x = e.gone g in (x.0, state_of _ _ _ _ (cc (x.1)) (cc (x.2)) (cc (x.3)))) e.visited

pub returns-in-Satisfied-clause-step : goal.returns-in-Satisfied-clause-step
returns-in-Satisfied-clause-step c = λ p start v q.
    let here = here_read c.args.list.now c.args.k c.index-list-k.result c.requires.place in
    let e = c.in-Satisfied.ensures in
    rw c.keep-in-Satisfied.ensures.list (arm_visited _ start _ _ p _ _ _ (get_or c.args.list.now c.args.k c.index-list-k.result).clause c.requires.kept c.requires.place here (search rules) v q _ (Satisfied c.in-Satisfied.other) (λ g. let x = e.gone g in (x.0, state_of _ _ _ _ (cc (x.1)) (cc (x.2)) (cc (x.3)))) e.visited)

pub returns-in-Assigned-clause-step : goal.returns-in-Assigned-clause-step
returns-in-Assigned-clause-step c = λ p start v q.
    let here = here_read c.args.list.now c.args.k c.index-list-k.result c.requires.place in
    let e = c.in-Assigned.ensures in
    rw c.keep-in-Assigned.ensures.list (arm_visited _ start _ _ p _ _ _ (get_or c.args.list.now c.args.k c.index-list-k.result).clause c.requires.kept c.requires.place here (search rules) v q _ (Assigned c.in-Assigned.other) (λ g. let x = e.gone g in (x.0, state_of _ _ _ _ (cc (x.1)) (cc (x.2)) (cc (x.3)))) e.visited)

pub returns-in-Falsified-clause-step : goal.returns-in-Falsified-clause-step
returns-in-Falsified-clause-step c = λ p start v q.
    let here = here_read c.args.list.now c.args.k c.index-list-k.result c.requires.place in
    let e = c.in-Falsified.ensures in
    rw c.keep-in-Falsified.ensures.list (arm_visited _ start _ _ p _ _ _ (get_or c.args.list.now c.args.k c.index-list-k.result).clause c.requires.kept c.requires.place here (search rules) v q _ (Falsified c.in-Falsified.other) (λ g. let x = e.gone g in (x.0, state_of _ _ _ _ (cc (x.1)) (cc (x.2)) (cc (x.3)))) e.visited)

pub returns-in-NoMemory-clause-step : goal.returns-in-NoMemory-clause-step
returns-in-NoMemory-clause-step c = λ p start v q.
    let here = here_read c.args.list.now c.args.k c.index-list-k.result c.requires.place in
    let e = c.in-NoMemory.ensures in
    rw c.keep-in-NoMemory.ensures.list (arm_visited _ start _ _ p _ _ _ (get_or c.args.list.now c.args.k c.index-list-k.result).clause c.requires.kept c.requires.place here (search rules) v q _ (NoMemory c.in-NoMemory.other) (λ g. let x = e.gone g in (x.0, state_of _ _ _ _ (cc (x.1)) (cc (x.2)) (cc (x.3)))) e.visited)
