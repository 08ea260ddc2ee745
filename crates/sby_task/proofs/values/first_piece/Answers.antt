use Rattle.std.proofs.Common.{arith, add-one, eqb, true, ◌≡◌, take}
use Rattle.std.proofs.lemmas.Grind.{common_steps}
use Rattle.std.specs.Prelude.{slice_index}
use Rattle.std.proofs.lemmas.Str.{IsCharBoundary-after_ascii}
use Rattle.sby_task.proofs.Pieces.{first_cut, one_piece, comma_is_ascii}
use Rattle.sby_task.proofs.values.first_piece.Goals as goal

pub range_from-requires : goal.range_from-requires
range_from-requires c =
    let same = c.as_bytes.ensures.value in
    let byte : eqb (slice_index c.args.text.now c.in-Some.end) 44 ≡ true = rw same at c.in-Some.ensures.1 in
    λ _. IsCharBoundary-after_ascii c.args.text.now c.in-Some.end c.utf8.text (omega (arith, rw same at c.in-Some.ensures.0.high)) (comma_is_ascii c.args.text.now c.in-Some.end byte)

pub returns-in-Some-clause-pieces : goal.returns-in-Some-clause-pieces
returns-in-Some-clause-pieces c =
    let same = c.as_bytes.ensures.value in
    let cut = first_cut c.args.text.now c.in-Some.end (rw same at c.in-Some.ensures.0.high) (rw same at c.in-Some.ensures.1) (rw same at c.in-Some.ensures.0.before) in
    let front : c.range.result.now ≡ take c.in-Some.end c.args.text.now = grind (arith, common_steps) in
    rw (front, c.range_from.ensures.value, add-one) cut

pub returns-in-None-clause-pieces : goal.returns-in-None-clause-pieces
returns-in-None-clause-pieces c = let same = c.as_bytes.ensures.value in one_piece c.args.text.now (rw same at c.in-None.ensures)
