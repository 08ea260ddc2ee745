use Rattle.std.proofs.Common.{◌≡◌, ◌∙◌, map, subst, sym, refl}
use Rattle.std.specs.Prelude.{Contains, false, true, string_bytes}
use Rattle.std.proofs.lemmas.List.{take_all}
use Rattle.std.proofs.lemmas.Slice.Eq.{bytes_eq-Decides}
use Rattle.design_core.proofs.Lists.{item_at}
use Rattle.sby_top.proofs.TurnLemmas.{named_at, none_more}
use Rattle.sby_top.proofs.turns.is_task.Goals as goal

pub returns-then-eq : goal.returns-then-eq
returns-then-eq c =
    let at = item_at c.tasks-task-items.result.now c.loop-task.task-index c.task-item.result c.task-item.is c.loop-task-test.true in
    let same : string_bytes c.task-item.result ≡ c.args.name.now = sym c.as_str.ensures.value ∙ (bytes_eq-Decides _ _).0 (sym c.eq.ensures ∙ c.if-eq.true) in
    ((λ yes. subst (λ xs. Contains xs c.args.name.now) c.loop-task.invariant.items (named_at c.tasks-task-items.result.now c.loop-task.task-index c.task-item.result c.args.name.now at same)), (λ among. refl))

pub loop-task-preserved : goal.loop-task-preserved
loop-task-preserved c =
    let at = item_at c.tasks-task-items.result.now c.loop-task.task-index c.task-item.result c.task-item.is c.loop-task-test.true in
    record {
      none = none_more c.tasks-task-items.result.now c.loop-task.task-index c.task-item.result c.args.name.now at
          (λ same. let yes : true ≡ false = sym ((bytes_eq-Decides _ _).1 (c.as_str.ensures.value ∙ same)) ∙ sym c.eq.ensures ∙ c.if-eq.false in cc) c.loop-task.invariant.none;
      items = c.loop-task.invariant.items;
    }

pub returns : goal.returns
returns c = (
  (λ yes. let no : ⊥ = cc in absurd no),
  (λ among. absurd (c.loop-task.invariant.none (subst (λ xs. Contains (map string_bytes xs) c.args.name.now) (sym (take_all c.loop-task.task-index c.tasks-task-items.result.now c.loop-task-test.false)) (subst (λ xs. Contains xs c.args.name.now) (sym c.loop-task.invariant.items) among)))),
)
