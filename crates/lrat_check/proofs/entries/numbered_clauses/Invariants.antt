use Rattle.std.proofs.Common.{◌≡◌, ℕ, take}
use Rattle.lrat_check.specs.Hints.{numbered}
use Rattle.lrat_check.specs.Table.{IsUpto, held}
use Rattle.lrat_check.proofs.entries.numbered_clauses.Given as goal

abbrev pub invariant-loop-number : goal.invariant-loop-number
invariant-loop-number g l =
    let source = g.S.ClauseSource in
    record {
      numbered : (n : ℕ) → held l.table n ≡ numbered (take l.number (source.formula l.source).clauses) n;
      upto : IsUpto l.table l.number;
      place : source.at l.source l.place l.number;
    }
