use Rattle.std.proofs.Common.{arith, ◌≡◌, false, get_or, string_bytes, sym, ◌∙◌, ap}
use Rattle.std.specs.Prelude.{bytes_eq}
use Rattle.sby_task.proofs.Tasks.{tags_more}
use Rattle.sby_task.proofs.expansion.tags_of.Goals as goal

pub loop-i-preserved : goal.loop-i-preserved
loop-i-preserved c =
    let item = c.index-tasks-i.result in
    let other : bytes_eq (string_bytes (get_or c.args.tasks.now c.loop-i.i item)) c.args.name.now ≡ false =
    ap (λ s. bytes_eq (string_bytes s) c.args.name.now) (sym c.index-tasks-i.is) ∙ ap (λ t. bytes_eq t c.args.name.now) (sym c.as_str.ensures.value) ∙ sym c.eq.ensures ∙ c.if-eq.false in
    sym (tags_more string_bytes c.args.tasks.now c.args.tags.now c.args.name.now c.loop-i.i item (omega arith) (omega arith) other) ∙ c.loop-i.invariant
