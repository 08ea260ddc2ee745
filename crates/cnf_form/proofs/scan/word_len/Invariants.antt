use Rattle.std.proofs.Common.{take}
use Rattle.std.specs.Prelude.{All}
use Rattle.cnf_form.specs.Dimacs.{IsWordByte}
use Rattle.cnf_form.proofs.scan.word_len.Given as goal

abbrev pub invariant-loop-len : goal.invariant-loop-len
invariant-loop-len l = All IsWordByte (take l.len l.bytes)
