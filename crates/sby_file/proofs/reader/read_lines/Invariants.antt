use Rattle.std.proofs.Common.{◌≡◌, length}
use Rattle.sby_file.specs.Placed.{placed}
use Rattle.sby_file.specs.Meant.{meant}
use Rattle.sby_file.specs.Faults.{faults_from, nothing_seen}
use Rattle.sby_file.specs.Config.{with_lines, nothing}
use Rattle.sby_file.proofs.reader.read_lines.Given as goal

abbrev pub invariant-lines : goal.invariant-lines
invariant-lines l = record {
  faults : faults_from (meant l.declared) l.seen l.walk ≡ faults_from (meant l.declared) nothing_seen (placed l.bytes);
  config : with_lines l.config l.walk ≡ with_lines nothing (placed l.bytes);
}

abbrev pub decreases-lines : goal.decreases-lines
decreases-lines l = length l.walk
