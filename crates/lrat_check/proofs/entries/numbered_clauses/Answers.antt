use Rattle.std.proofs.Common.{◌≡◌, ◌<◌, ◌+◌, List, length, get_or, arith, sym}
use Rattle.std.proofs.lemmas.Option.{get_or_from_slice_get}
use Rattle.clause_source.specs.Given.{lits_of}
use Rattle.cnf_form.specs.Cnf.{LitOf}
use Rattle.lrat_check.specs.Table.{held}
use Rattle.lrat_check.proofs.Table.{numbered_more}
use Rattle.lrat_check.proofs.entries.numbered_clauses.Goals as goal

pub next-requires : goal.next-requires
next-requires g c = (c.loop-number.number, c.loop-number.invariant.place, omega arith)

pub loop-number-preserved : goal.loop-number-preserved
loop-number-preserved g c =
    let F : List (List LitOf) = (g.S.ClauseSource.formula c.args.source.now).clauses in
    let i = c.loop-number.number in
    let d : List LitOf = lits_of c.next.result in
    let h : i < length F = omega arith in
    let is : d ≡ get_or F i d = sym (get_or_from_slice_get F i d d (c.next.ensures.clause i c.loop-number.invariant.place h)) in
    let so_far = c.loop-number.invariant in
    record {
      numbered = numbered_more (held c.loop-number.table) (held c.push_given.new.table) F i (i + 1) d h is (omega arith) so_far.numbered c.in_ok-push_given.ensures.held;
      upto = c.in_ok-push_given.ensures.ids;
      place = c.next.ensures.place i so_far.place h;
    }
