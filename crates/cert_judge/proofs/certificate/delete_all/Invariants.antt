use Rattle.std.proofs.Common.{◌≡◌, drop}
use Rattle.lrat_check.specs.Checking.{live_of}
use Rattle.cert_judge.specs.Lrat.{without}
use Rattle.cert_judge.proofs.certificate.delete_all.Given as goal

abbrev pub invariant-loop-id : goal.invariant-loop-id
invariant-loop-id l = record {
  live : without (live_of l.initial.checker) l.ids ≡ without (live_of l.checker) (drop l.id-index l.ids);
  rest : l.checker ≡ record l.initial.checker { clauses = l.checker.clauses };
}
