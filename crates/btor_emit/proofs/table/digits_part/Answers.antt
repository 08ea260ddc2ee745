use Rattle.std.proofs.Common.{◌≤◌, length, arith}
use Rattle.std.proofs.lemmas.List.{length-take-le}
use Rattle.btor_words.proofs.Emitting.{same_as, sized}
use Rattle.btor_emit.specs.Table.{cycle_of}
use Rattle.btor_emit.proofs.Gathering.{digits_row}
use Rattle.btor_emit.proofs.table.digits_part.Goals as goal
use Rattle.model_core.specs.Meaning.{row_at}

pub returns : goal.returns
returns c =
    let ps = c.args.places.now in
    let bits = c.loop-k.bits in
    let inv = c.loop-k.invariant in
    let t = c.loop-k-test.false in
    let few = c.requires.width.1 in
    let l : length ps ≤ length bits = (let z = inv.long in omega arith) in
    record {
      row = sized (same_as (λ vs. row_at (cycle_of c.args.table.now vs) ps) c.in_ok-word.ensures.row (λ vs. digits_row c.args.table.now ps bits vs l c.requires.digits (λ k p below at. inv.each k p (omega arith) at))) (length-take-le (length ps) bits l);
    }
