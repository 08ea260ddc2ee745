use Rattle.std.proofs.Common.{◌≡◌, ℕ, ◌-◌, ◌≤◌, List, length}
use Rattle.judge.specs.Judging.{IsSameJudge, Took}
use Rattle.sby_top.specs.Served.{most_stream}
use Rattle.sby_top.proofs.JudgeLemmas.{IsNext}
use Rattle.sby_top.proofs.judge_stream.feed_all.Given as goal

abbrev pub invariant-pieces : goal.invariant-pieces
invariant-pieces g l = record {
  same : IsSameJudge l.fn.judge l.judge;
  next : (before : List ℕ) × Took l.judge before × (length before ≡ l.place) × IsNext (g.F.Files.told l.fn.files) l.path before l.piece.items 65536;
  few : l.place ≤ most_stream;
  told : g.F.Files.told l.files ≡ g.F.Files.told l.fn.files;
  still : g.F.Files.faults l.files ≡ g.F.Files.faults l.fn.files;
  blamed : g.F.Files.blamed l.files ≡ g.F.Files.blamed l.fn.files;
}

abbrev pub decreases-pieces : goal.decreases-pieces
decreases-pieces g l = most_stream - l.place
