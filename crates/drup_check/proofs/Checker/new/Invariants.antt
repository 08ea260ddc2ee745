use Rattle.std.proofs.Common.{◌≡◌, take}
use Rattle.drup_check.specs.Checking.{start}
use Rattle.drup_check.proofs.Checker.new.Given as goal

abbrev pub invariant-loop-number : goal.invariant-loop-number
invariant-loop-number g l =
    let source = g.S.ClauseSource in
    record {
      kept : l.checker ≡ record (start (source.formula l.source)) { clauses = take l.number (source.formula l.source).clauses };
      place : source.at l.source l.place l.number;
    }
