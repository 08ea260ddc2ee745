use Rattle.std.proofs.Common.{◌≡◌, ◌<◌, ◌≤◌, false, get_or, length, sym, subst, ◌∙◌, arith}
use Rattle.std.proofs.lemmas.Option.{slice_get-get_or, slice_get_within}
use Rattle.std.specs.Prelude.{Some}
use Rattle.btor_core.specs.Shape.{state_at}
use Rattle.btor_core.proofs.Fitting.{state_stays}
use Rattle.btor_emit.proofs.Leaves.{word_grows}
use Rattle.btor_emit.proofs.Nexting.{parts_all, parts_more, parts_none, untied_yet}
use Rattle.btor_emit.proofs.registers.push_parts.Goals as goal
use Rattle.btor_emit.specs.declared.shape.State.{State}
use Rattle.model_core.proofs.Lists.{all_at}

abbrev none : State
none = record { word = record { nid = 0; width = 0 }; first = 0; has_start = false }

pub loop-done-init : goal.loop-done-init
loop-done-init c = parts_none c.args.draft.now c.args.states.now c.args.from c.args.row c.args.first c.args.end c.requires.row.btor c.requires.parts.inside

pub returns-then-state-end : goal.returns-then-state-end
returns-then-state-end c =
    let ss = c.args.states.now in
    let k = c.loop-done.done in
    let l : k < length ss = omega arith in
    let there = slice_get-get_or ss k none l in
    let t = c.if-state-end.true in
    parts_all c.args.draft.now c.loop-done.draft ss c.args.from k c.args.row c.args.first c.args.end c.loop-done.invariant (λ s at. let e : Some (get_or ss k none) ≡ Some s = sym there ∙ at in let same : get_or ss k none ≡ s = cc in subst (λ (u : State). c.args.end ≤ u.first) same t)

pub overflow_sub-state : goal.overflow_sub-state
overflow_sub-state c =
    let ss = c.args.states.now in
    let k = c.loop-done.done in
    let l : k < length ss = omega arith in
    let long = c.loop-done.invariant.long in
    (c.requires.parts.parts k (get_or ss k none) (omega arith) (slice_get-get_or ss k none l) c.if-state-end.false).0

pub overflow_cast-state : goal.overflow_cast-state
overflow_cast-state c =
    let ss = c.args.states.now in
    let k = c.loop-done.done in
    let l : k < length ss = omega arith in
    let long = c.loop-done.invariant.long in
    let p = (c.requires.parts.parts k (get_or ss k none) (omega arith) (slice_get-get_or ss k none l) c.if-state-end.false).1 in
    let w = c.requires.row.size.1 in
    omega arith

pub push_part-requires-clause-row : goal.push_part-requires-clause-row
push_part-requires-clause-row c = word_grows c.args.draft.now c.loop-done.draft c.args.row c.loop-done.invariant.only.btor c.loop-done.invariant.only.grows c.requires.row

pub push_part-requires-clause-inside : goal.push_part-requires-clause-inside
push_part-requires-clause-inside c =
    let ss = c.args.states.now in
    let k = c.loop-done.done in
    let l : k < length ss = omega arith in
    let long = c.loop-done.invariant.long in
    let p = c.requires.parts.parts k (get_or ss k none) (omega arith) (slice_get-get_or ss k none l) c.if-state-end.false in
    let a = p.0 in
    let b = p.1 in
    omega arith

pub push_part-requires-clause-state : goal.push_part-requires-clause-state
push_part-requires-clause-state c =
    let ss = c.args.states.now in
    let k = c.loop-done.done in
    let l : k < length ss = omega arith in
    let there = slice_get-get_or ss k none l in
    let s = get_or ss k none in
    state_stays c.args.draft.now c.loop-done.draft c.loop-done.invariant.only.grows s.word.nid s.word.width (all_at (λ (u : State). state_at c.args.draft.now.lines u.word.nid ≡ u.word.width) ss k s c.requires.parts.lines there) (all_at (λ (u : State). 1 ≤ u.word.width) ss k s c.requires.parts.some there)

pub push_part-requires-clause-first : goal.push_part-requires-clause-first
push_part-requires-clause-first c =
    let ss = c.args.states.now in
    let k = c.loop-done.done in
    let l : k < length ss = omega arith in
    untied_yet c.args.draft.now c.loop-done.draft c.loop-done.draft ss c.args.from k c.args.row c.args.first c.args.end (get_or ss k none) c.loop-done.invariant (slice_get-get_or ss k none l) c.requires.parts

pub loop-done-preserved : goal.loop-done-preserved
loop-done-preserved c =
    let ss = c.args.states.now in
    let k = c.loop-done.done in
    let l : k < length ss = omega arith in
    parts_more c.args.draft.now c.loop-done.draft c.push_part.new.draft ss c.args.from k c.args.row c.args.first c.args.end (get_or ss k none) c.loop-done.invariant (slice_get-get_or ss k none l) c.in_ok-push_part.ensures c.if-state-end.false

pub returns : goal.returns
returns c =
    parts_all c.args.draft.now c.loop-done.draft c.args.states.now c.args.from c.loop-done.done c.args.row c.args.first c.args.end c.loop-done.invariant
    (λ s at. let b = slice_get_within c.args.states.now c.loop-done.done s at in let t = c.loop-done-test.false in absurd (omega arith))
