use Rattle.std.proofs.Common.{◌+◌, [], ◌∷◌, ◌++◌, get_or, take, drop, subst}
use Rattle.std.proofs.lemmas.Result.{on_err_weaker, on_ok_weaker}
use Rattle.std.specs.Prelude.{decimal}
use Rattle.cdcl_run.specs.HintedText.{ids_text}
use Rattle.cdcl_run.specs.Output.{Breaks, OutputOf, Puts}
use Rattle.cdcl_run.proofs.HintedClauses.{ids_end, ids_more, ids_then, ids_words}
use Rattle.cdcl_run.proofs.Putting.{breaks_more, on_err, puts_both, puts_breaks}
use Rattle.cdcl_run.proofs.hinted.put_ids.Goals as goal

pub loop-id-preserved : goal.loop-id-preserved
loop-id-preserved g c =
    let first : OutputOf = record { taken = g.S.Sink.taken c.args.sink.now; faults = g.S.Sink.faults c.args.sink.now; gathered = c.args.piece.now } in
    let here : OutputOf = record { taken = g.S.Sink.taken c.loop-id.sink; faults = g.S.Sink.faults c.loop-id.sink; gathered = c.loop-id.piece } in
    let last : OutputOf = record { taken = g.S.Sink.taken c.put_id.new.sink; faults = g.S.Sink.faults c.put_id.new.sink; gathered = c.put_id.new.piece } in
    let ids = c.args.ids.now in
    let i = c.loop-id.id-index in
    let p = c.in_ok-put_id.ensures.ok in
    subst (Puts first last) (ids_more ids i 0 c.loop-id-test.true) (puts_both first here last (ids_words (take i ids)) (decimal (get_or ids i 0) ++ 32 ∷ []) c.loop-id.invariant p)

pub returns-in_err-put_id-clause-failed : goal.returns-in_err-put_id-clause-failed
returns-in_err-put_id-clause-failed g c =
    let first : OutputOf = record { taken = g.S.Sink.taken c.args.sink.now; faults = g.S.Sink.faults c.args.sink.now; gathered = c.args.piece.now } in
    let here : OutputOf = record { taken = g.S.Sink.taken c.loop-id.sink; faults = g.S.Sink.faults c.loop-id.sink; gathered = c.loop-id.piece } in
    let last : OutputOf = record { taken = g.S.Sink.taken c.put_id.new.sink; faults = g.S.Sink.faults c.put_id.new.sink; gathered = c.put_id.new.piece } in
    let ids = c.args.ids.now in
    let i = c.loop-id.id-index in
    let had = ids_words (take i ids) in
    let word = decimal (get_or ids i 0) ++ 32 ∷ [] in
    let p = c.in_err-put_id.ensures.failed in
    on_err c.from_residual.result (subst (Breaks first last) (ids_then ids i 0 c.loop-id-test.true) (breaks_more first last (had ++ word) (ids_text (drop (i + 1) ids)) (puts_breaks first here last had word c.loop-id.invariant p)))

pub returns-clause-ok : goal.returns-clause-ok
returns-clause-ok g c =
    let first : OutputOf = record { taken = g.S.Sink.taken c.args.sink.now; faults = g.S.Sink.faults c.args.sink.now; gathered = c.args.piece.now } in
    let here : OutputOf = record { taken = g.S.Sink.taken c.loop-id.sink; faults = g.S.Sink.faults c.loop-id.sink; gathered = c.loop-id.piece } in
    let last : OutputOf = record { taken = g.S.Sink.taken c.put.new.sink; faults = g.S.Sink.faults c.put.new.sink; gathered = c.put.new.piece } in
    let ids = c.args.ids.now in
    let i = c.loop-id.id-index in
    on_ok_weaker c.put.result (λ p. subst (Puts first last) (ids_end ids i c.loop-id-test.false) (puts_both first here last (ids_words (take i ids)) (48 ∷ 10 ∷ []) c.loop-id.invariant p)) c.put.ensures.ok

pub returns-clause-failed : goal.returns-clause-failed
returns-clause-failed g c =
    let first : OutputOf = record { taken = g.S.Sink.taken c.args.sink.now; faults = g.S.Sink.faults c.args.sink.now; gathered = c.args.piece.now } in
    let here : OutputOf = record { taken = g.S.Sink.taken c.loop-id.sink; faults = g.S.Sink.faults c.loop-id.sink; gathered = c.loop-id.piece } in
    let last : OutputOf = record { taken = g.S.Sink.taken c.put.new.sink; faults = g.S.Sink.faults c.put.new.sink; gathered = c.put.new.piece } in
    let ids = c.args.ids.now in
    let i = c.loop-id.id-index in
    on_err_weaker c.put.result (λ p. subst (Breaks first last) (ids_end ids i c.loop-id-test.false) (puts_breaks first here last (ids_words (take i ids)) (48 ∷ 10 ∷ []) c.loop-id.invariant p)) c.put.ensures.failed
