use Rattle.std.proofs.Common.{◌-◌, ◌∙◌, ℕ, List, Option, Bool, take, drop, ap, sym, subst}
use Rattle.btor_emit.specs.States.{is_known}
use Rattle.btor_emit.specs.Table.{AreIn}
use Rattle.btor_emit.proofs.Stating.{part_below, state_pushed, untied_past}
use Rattle.btor_emit.proofs.states.push_state.Goals as goal

pub state_word-requires-clause-untied : goal.state_word-requires-clause-untied
state_word-requires-clause-untied c = untied_past c.args.model.now c.args.draft.now c.args.table.now c.args.made.now.items c.args.first c.promise.ensures.numbered c.requires.states

pub give-requires-clause-inside : goal.give-requires-clause-inside
give-requires-clause-inside c =
    subst (λ (ps : List ℕ). AreIn c.args.table.now (take (c.args.end - c.args.first) (drop c.args.first ps))) (sym c.states.ensures)
    (part_below c.args.model.now c.requires.model c.args.first (c.args.end - c.args.first) c.args.table.now c.requires.states.size)

pub returns : goal.returns
returns c =
    let first = c.args.first in
    let n : ℕ = c.args.end - first in
    state_pushed c.args.model.now c.args.draft.now c.state_word.new.draft c.args.table.now c.give.new.table c.args.made.now.items c.keep.new.made.items c.in_ok-word.word first c.args.end c.is_known-has_start.result
    (take n (drop first c.starts-2.result.now)) (take n (drop first c.states.result.now)) c.requires.model c.promise.ensures.numbered c.requires.states c.requires.some c.requires.inside c.requires.stretch
    (ap (λ (ds : List (Option Bool)). take n (drop first ds)) c.starts-2.ensures) (ap (λ (ps : List ℕ). take n (drop first ps)) c.states.ensures) (c.is_known-has_start.ensures ∙ ap (λ (ds : List (Option Bool)). is_known ds first) c.starts.ensures) c.in_ok-word.ensures c.give.ensures
    c.in_ok-keep.ensures
