use Rattle.std.proofs.Common.{◌∙◌, ℕ, List, length, sym, subst}
use Rattle.std.specs.Prelude.{All}
use Rattle.std.specs.List.{concat}
use Rattle.btor_core.specs.Shape.{bads, constraints}
use Rattle.btor_core.proofs.Growing.{grows_on}
use Rattle.btor_emit.specs.Nexts.{AreNexts, AreStateLines}
use Rattle.btor_emit.specs.Said.{AreSaid, is_held}
use Rattle.btor_emit.specs.declared.shape.State.{State}
use Rattle.btor_emit.proofs.Assembling.{emission, state_lines}
use Rattle.btor_emit.proofs.Rowing.{read_rows_of, rows_below}
use Rattle.btor_emit.proofs.emit.draw.Goals as goal
use Rattle.model_core.specs.Shape.{AreBelow, IsStatement}
use Rattle.model_core.specs.declared.model.Statement.{Statement}

pub push_states-requires-clause-none : goal.push_states-requires-clause-none
push_states-requires-clause-none c = c.requires.none

pub push_inputs-requires-clause-inside : goal.push_inputs-requires-clause-inside
push_inputs-requires-clause-inside c =
    let m = c.args.model.now in
    let of = read_rows_of m c.requires.model c.args.rows.now c.requires.rows c.in_ok-inputs.inputs c.in_ok-inputs.ensures in
    subst (λ (n : ℕ). AreBelow n (concat c.in_ok-inputs.inputs)) (sym c.in_ok-states.ensures.size) (rows_below m c.requires.model c.in_ok-inputs.inputs of)

pub push_inputs-requires-clause-distinct : goal.push_inputs-requires-clause-distinct
push_inputs-requires-clause-distinct c = (read_rows_of c.args.model.now c.requires.model c.args.rows.now c.requires.rows c.in_ok-inputs.inputs c.in_ok-inputs.ensures).once

pub push_inputs-requires-clause-widths : goal.push_inputs-requires-clause-widths
push_inputs-requires-clause-widths c = (read_rows_of c.args.model.now c.requires.model c.args.rows.now c.requires.rows c.in_ok-inputs.inputs c.in_ok-inputs.ensures).wide

pub push_inputs-requires-clause-btor : goal.push_inputs-requires-clause-btor
push_inputs-requires-clause-btor c = c.in_ok-states.ensures.btor

pub push_inputs-requires-clause-seats : goal.push_inputs-requires-clause-seats
push_inputs-requires-clause-seats c = c.in_ok-states.ensures.seats

pub push_nodes-requires-clause-btor : goal.push_nodes-requires-clause-btor
push_nodes-requires-clause-btor c = c.in_ok-push_inputs.ensures.btor

pub push_nodes-requires-clause-seats : goal.push_nodes-requires-clause-seats
push_nodes-requires-clause-seats c = c.in_ok-push_inputs.ensures.seats

pub push_nodes-requires-clause-size : goal.push_nodes-requires-clause-size
push_nodes-requires-clause-size c = c.in_ok-push_inputs.ensures.size ∙ c.in_ok-states.ensures.size

pub push_nexts-requires-clause-btor : goal.push_nexts-requires-clause-btor
push_nexts-requires-clause-btor c = c.in_ok-push_nodes.ensures.adds.btor

pub push_nexts-requires-clause-seats : goal.push_nexts-requires-clause-seats
push_nexts-requires-clause-seats c = c.in_ok-push_nodes.ensures.seats

pub push_nexts-requires-clause-size : goal.push_nexts-requires-clause-size
push_nexts-requires-clause-size c = c.in_ok-push_nodes.ensures.size ∙ c.in_ok-push_inputs.ensures.size ∙ c.in_ok-states.ensures.size

pub push_nexts-requires-clause-states : goal.push_nexts-requires-clause-states
push_nexts-requires-clause-states c =
    subst (λ (ss : List State). AreStateLines c.args.model.now c.push_nodes.new.draft ss) (sym c.deref.ensures.value)
    (state_lines c.args.model.now c.push_states.new.draft c.push_nodes.new.draft c.push_states.new.table c.in_ok-states.states.items c.in_ok-states.ensures
    (grows_on c.push_states.new.draft c.push_inputs.new.draft c.push_nodes.new.draft c.in_ok-push_inputs.ensures.grows c.in_ok-push_nodes.ensures.adds.grows))

pub push_nexts-requires-clause-none : goal.push_nexts-requires-clause-none
push_nexts-requires-clause-none c = c.in_ok-push_nodes.ensures.adds.lists.nexts ∙ c.in_ok-push_inputs.ensures.lists.nexts ∙ c.in_ok-states.ensures.nexts

pub push_assumes-requires-clause-btor : goal.push_assumes-requires-clause-btor
push_assumes-requires-clause-btor c = c.in_ok-push_nexts.ensures.only.btor

pub push_assumes-requires-clause-seats : goal.push_assumes-requires-clause-seats
push_assumes-requires-clause-seats c = c.in_ok-push_nexts.ensures.seats

pub push_assumes-requires-clause-inside : goal.push_assumes-requires-clause-inside
push_assumes-requires-clause-inside c =
    let z = c.in_ok-push_nexts.ensures.size ∙ c.in_ok-push_nodes.ensures.size ∙ c.in_ok-push_inputs.ensures.size ∙ c.in_ok-states.ensures.size in
    subst (λ (n : ℕ). All (IsStatement n) c.assumes.result.now) (sym z) (subst (λ (ss : List Statement). All (IsStatement c.args.model.now.size) ss) (sym c.assumes.ensures) c.requires.model.assumes)

pub push_goal-requires-clause-btor : goal.push_goal-requires-clause-btor
push_goal-requires-clause-btor c = c.in_ok-push_assumes.ensures.only.btor

pub push_goal-requires-clause-seats : goal.push_goal-requires-clause-seats
push_goal-requires-clause-seats c = c.in_ok-push_assumes.ensures.only.seats

pub push_goal-requires-clause-size : goal.push_goal-requires-clause-size
push_goal-requires-clause-size c =
    c.in_ok-push_assumes.ensures.only.size ∙ c.in_ok-push_nexts.ensures.size ∙ c.in_ok-push_nodes.ensures.size ∙ c.in_ok-push_inputs.ensures.size ∙ c.in_ok-states.ensures.size

pub returns : goal.returns
returns c =
    let m = c.args.model.now in
    let ss = c.in_ok-states.states.items in
    let read = c.in_ok-inputs.inputs in
    let e1 = c.push_states.new.draft in
    let e2 = c.push_inputs.new.draft in
    let e3 = c.push_nodes.new.draft in
    let e4 = c.push_nexts.new.draft in
    let e5 = c.push_assumes.new.draft in
    let e6 = c.push_goal.new.draft in
    let t1 = c.push_states.new.table in
    let t2 = c.push_inputs.new.table in
    let t3 = c.push_nodes.new.table in
    let t4 = c.push_nexts.new.table in
    let t5 = c.push_assumes.new.table in
    let t6 = c.push_goal.new.table in
    let nexts : AreNexts m e3 e4 t3 t4 ss (length ss) = subst (λ (us : List State). AreNexts m e3 e4 t3 t4 us (length us)) c.deref.ensures.value c.in_ok-push_nexts.ensures in
    let assumes : AreSaid constraints bads e4 e5 t4 t5 m.assumes is_held = subst (λ (us : List Statement). AreSaid constraints bads e4 e5 t4 t5 us is_held) c.assumes.ensures c.in_ok-push_assumes.ensures in
    emission m c.args.goal c.requires.model ss c.args.rows.now c.requires.rows read c.in_ok-inputs.ensures e1 e2 e3 e4 e5 e6 t1 t2 t3 t4 t5 t6 c.in_ok-states.ensures c.in_ok-push_inputs.ensures c.in_ok-push_nodes.ensures nexts assumes c.in_ok-push_goal.ensures
