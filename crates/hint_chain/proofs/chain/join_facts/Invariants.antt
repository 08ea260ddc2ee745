use Rattle.std.specs.Prelude.{List, Option}
use Rattle.std.proofs.Common.{◌≡◌, ◌≤◌, ◌^◌, length}
use Rattle.cnf_form.specs.Cnf.{LitOf}
use Rattle.lrat_check.specs.Marks.{Marks}
use Rattle.hint_chain.specs.Chains.{Goes}
use Rattle.hint_chain.proofs.chain.join_facts.Given as goal

abbrev pub invariant-loop-l : goal.invariant-loop-l
invariant-loop-l l = record {
  marked : Marks l.marked.marks.items l.marked.trail.items;
  sized : length l.marked.marks.items ≡ length l.fn.marked.marks.items;
  few : length l.hints.items ≤ 2 ^ 27;
  goes : (slots : List (Option (List LitOf))) → Goes slots l.ids l.fn.hints.items l.hints.items l.fn.marked.trail.items l.marked.trail.items;
}
