use Rattle.std.proofs.Common.{subst, sym}
use Rattle.unit_propagation.specs.Watch.{rows_of, row}
use Rattle.std.specs.Prelude.{◌≡◌, []}
use Rattle.unit_propagation.proofs.Rows.{rows_empty}
use Rattle.unit_propagation.proofs.lists.WatchLists.new.Goals as goal

pub returns-clause-rows : goal.returns-clause-rows
returns-clause-rows c = λ l. subst (λ z. row (rows_of c.args.vars z) l ≡ []) (sym c.new.ensures.items) (rows_empty c.args.vars l)
