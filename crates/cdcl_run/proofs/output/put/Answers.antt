use Rattle.std.proofs.Common.{◌++◌, [], take, drop, arith, ap, append_assoc, sym, subst, ◌∙◌}
use Rattle.std.proofs.Math.Seq.{take-add}
use Rattle.std.proofs.lemmas.List.{take-append-drop}
use Rattle.cdcl_run.specs.Output.{Breaks, OutputOf, Puts}
use Rattle.cdcl_run.proofs.Putting.{breaks_more, on_err, puts_both, puts_breaks, puts_gathered}
use Rattle.cdcl_run.proofs.output.put.Goals as goal

pub loop-at-preserved : goal.loop-at-preserved
loop-at-preserved g c =
    let i = c.loop-at.invariant in
    let text = c.args.text.now in
    let at = c.loop-at.at in
    let n = c.gather-at-in-loop-at.result in
    let e = c.gather-at-in-loop-at.ensures in
    let new = c.gather-at-in-loop-at.new.self in
    let taken = g.S.Sink.taken c.flush.new.sink in
    let faults = g.S.Sink.faults c.flush.new.sink in
    let first : OutputOf = record { taken = g.S.Sink.taken c.args.sink.now; faults = g.S.Sink.faults c.args.sink.now; gathered = c.args.piece.now } in
    let here : OutputOf = record { taken = g.S.Sink.taken c.loop-at.sink; faults = g.S.Sink.faults c.loop-at.sink; gathered = c.loop-at.piece } in
    let flushed : OutputOf = record { taken = taken; faults = faults; gathered = c.flush.new.piece } in
    let last : OutputOf = record { taken = taken; faults = faults; gathered = new } in
    let rest = drop at text in
    let q : Puts flushed last (take n rest) = puts_gathered taken faults c.flush.new.piece new (take n rest) (e.gathered ∙ ap (λ z. c.flush.new.piece ++ take n z) c.split_at.ensures.back) in
    record {
      within = omega (arith, i.within, e.fits, c.split_at.ensures.back_len);
      puts = subst (Puts first last) (sym (take-add at n text)) (puts_both first here last (take at text) (take n rest) i.puts (puts_both here flushed last [] (take n rest) c.in_ok-flush.ensures.ok q));
    }

pub returns-in_err-flush-clause-failed : goal.returns-in_err-flush-clause-failed
returns-in_err-flush-clause-failed g c =
    let text = c.args.text.now in
    let at = c.loop-at.at in
    let first : OutputOf = record { taken = g.S.Sink.taken c.args.sink.now; faults = g.S.Sink.faults c.args.sink.now; gathered = c.args.piece.now } in
    let here : OutputOf = record { taken = g.S.Sink.taken c.loop-at.sink; faults = g.S.Sink.faults c.loop-at.sink; gathered = c.loop-at.piece } in
    let last : OutputOf = record { taken = g.S.Sink.taken c.flush.new.sink; faults = g.S.Sink.faults c.flush.new.sink; gathered = c.flush.new.piece } in
    let broken = puts_breaks first here last (take at text) [] c.loop-at.invariant.puts c.in_err-flush.ensures.failed in
    on_err c.from_residual.result (subst (Breaks first last) (append_assoc (take at text) [] (drop at text) ∙ take-append-drop at text) (breaks_more first last (take at text ++ []) (drop at text) broken))
