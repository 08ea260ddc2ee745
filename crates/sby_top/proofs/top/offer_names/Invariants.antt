use Rattle.std.proofs.Common.{drop, map}
use Rattle.std.specs.Prelude.{string_bytes}
use Rattle.sby_lines.proofs.TellLemmas.{ToldBefore}
use Rattle.sby_top.specs.Run.{name_lines}
use Rattle.sby_top.proofs.top.offer_names.Given as goal

abbrev pub invariant-loop-name : goal.invariant-loop-name
invariant-loop-name g l = record {
  told : ToldBefore (g.S.Sink.taken l.fn.out) (g.S.Sink.taken l.out) (g.S.Sink.faults l.fn.out) (g.S.Sink.faults l.out) (name_lines (map string_bytes (drop l.name-index l.names))) (name_lines (map string_bytes l.names));
}
