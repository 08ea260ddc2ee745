use Rattle.std.proofs.Common.{◌≡◌, ◌∷◌, ◌++◌, [], sym, rules, arith}
use Rattle.std.proofs.lemmas.List.{append-nil}
use Rattle.sby_lines.specs.Told.{asked_by}
use Rattle.sby_top.specs.Shown.{trace_seen}
use Rattle.sby_top.proofs.TraceLemmas.{one_put, one_unput}
use Rattle.sby_top.proofs.traces.put_listed.Goals as goal

pub returns-then-branch-clause-put : goal.returns-then-branch-clause-put
returns-then-branch-clause-put g c = (
  [],
  λ expect. one_put (asked_by c.args.heading.now expect) c.args.flat.now (trace_seen c.args.shown.now) _ _ _ c.if-branch.true (c.in_ok-put_trace.ensures.put expect),
  sym (append-nil c.args.unput.now.items),
  omega arith,
)

pub returns-else-branch-clause-put : goal.returns-else-branch-clause-put
returns-else-branch-clause-put g c =
    let pushed : c.push.new.self.items ≡ c.args.unput.now.items ++ c.args.shown.now.number ∷ [] = search rules in (
      c.args.shown.now.number ∷ [],
      λ expect. one_unput (asked_by c.args.heading.now expect) c.args.flat.now (trace_seen c.args.shown.now) _ _ _ c.if-branch.false (c.in_ok-put_trace.ensures.put expect),
      pushed,
      omega arith,
    )
