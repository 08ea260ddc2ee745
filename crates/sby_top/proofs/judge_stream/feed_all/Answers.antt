use Rattle.std.proofs.Common.{◌≡◌, ◌+◌, ◌-◌, ◌<◌, ◌≤◌, ◌∙◌, [], List, ◌++◌, arith, length, refl, subst, sym}
use Rattle.std.specs.Prelude.{ℕ, Some}
use Rattle.std.proofs.lemmas.List.{length-append}
use Rattle.judge.specs.Judging.{Took}
use Rattle.sby_edge.specs.Files.{PieceFrom}
use Rattle.sby_top.specs.Served.{most_stream}
use Rattle.sby_top.specs.Steps.{PieceEnds}
use Rattle.sby_top.proofs.JudgeLemmas.{ended_behind, ended_within, first_next, next_behind, same_file, same_judge, same_still}
use Rattle.sby_top.proofs.judge_stream.feed_all.Goals as goal

pub pieces-init : goal.pieces-init
pieces-init g c = record {
  same = (refl, refl, refl, refl);
  next = ([], c.requires.took, refl, first_next (g.F.Files.told c.args.files.now) c.args.path.now c.args.first.items 65536 c.requires.first);
  few = omega arith;
  told = refl;
  still = refl;
  blamed = refl;
}

pub feed_piece-requires-clause-file : goal.feed_piece-requires-clause-file
feed_piece-requires-clause-file g c =
    let same = c.pieces.invariant.same in same_file c.args.judge.now.asked c.pieces.judge.asked c.args.judge.now.job c.pieces.judge.job same.0 same.1 c.requires.file

pub returns-in-Some-clause-ok : goal.returns-in-Some-clause-ok
returns-in-Some-clause-ok g c =
    let inv = c.pieces.invariant in
    let told = g.F.Files.told c.args.files.now in
    same_judge told c.args.path.now c.args.judge.now c.pieces.judge c.in-Some.end inv.same
    (ended_within told c.args.path.now inv.next.0 c.pieces.piece.items 65536 c.pieces.judge c.feed_piece.new.judge c.in-Some.end inv.next.3
    (subst (λ (p : List ℕ). PieceEnds c.pieces.judge c.feed_piece.new.judge (c.pieces.invariant.next.0 ++ p) (Some c.in-Some.end)) c.deref.ensures.value (c.in-Some.ensures inv.next.0 inv.next.1)))

pub returns-then-len-lt-PIECE-clause-ok : goal.returns-then-len-lt-PIECE-clause-ok
returns-then-len-lt-PIECE-clause-ok g c =
    let inv = c.pieces.invariant in
    let told = g.F.Files.told c.args.files.now in
    let fed = c.in_default.ensures inv.next.0 inv.next.1 in
    let took = subst (λ (p : List ℕ). Took c.feed_piece.new.judge (c.pieces.invariant.next.0 ++ p)) c.deref.ensures.value fed.1 in
    let short : length c.pieces.piece.items < 65536 = omega (arith, c.len.ensures, c.if-len-lt-PIECE.true) in
    same_judge told c.args.path.now c.args.judge.now c.feed_piece.new.judge c.end_stream.result (same_still c.args.judge.now c.pieces.judge c.feed_piece.new.judge inv.same fed.0)
    (ended_behind told c.args.path.now inv.next.0 c.pieces.piece.items 65536 c.feed_piece.new.judge c.end_stream.result inv.next.3 short (c.end_stream.ensures (inv.next.0 ++ c.pieces.piece.items) took))

pub pieces-preserved : goal.pieces-preserved
pieces-preserved g c =
    let inv = c.pieces.invariant in
    let told = g.F.Files.told c.args.files.now in
    let fed = c.in_default.ensures inv.next.0 inv.next.1 in
    let took = subst (λ (p : List ℕ). Took c.feed_piece.new.judge (c.pieces.invariant.next.0 ++ p)) c.deref.ensures.value fed.1 in
    let fits = subst (λ (p : List ℕ). length (c.pieces.invariant.next.0 ++ p) ≤ most_stream) c.deref.ensures.value fed.2 in
    let count : length (c.pieces.invariant.next.0 ++ c.pieces.piece.items) ≡ c.pieces.place + c.len-in-pieces.result =
    omega (arith, length-append inv.next.0 c.pieces.piece.items, inv.next.2, c.len-in-pieces.ensures) in
    record {
      same = same_still c.args.judge.now c.pieces.judge c.feed_piece.new.judge inv.same fed.0;
      next = (
        inv.next.0 ++ c.pieces.piece.items,
        took,
        count,
        next_behind told c.args.path.now inv.next.0 c.pieces.piece.items c.in_ok-piece.piece.items (c.pieces.place + c.len-in-pieces.result) 65536 inv.next.3 (sym count)
            (subst (λ t. PieceFrom t c.args.path.now (c.pieces.place + c.len-in-pieces.result) 65536 c.in_ok-piece.piece.items) inv.told c.in_ok-piece.ensures.got),
      );
      few = omega (arith, count, fits);
      told = c.in_ok-piece.ensures.told ∙ inv.told;
      still = c.in_ok-piece.ensures.still ∙ inv.still;
      blamed = c.in_ok-piece.ensures.blamed ∙ inv.blamed;
    }

pub end_stream-requires : goal.end_stream-requires
end_stream-requires g c = (c.in_default.ensures c.pieces.invariant.next.0 c.pieces.invariant.next.1).0.2 ∙ c.pieces.invariant.same.2 ∙ c.requires.most

shrinks : (most place len : ℕ) → 1 ≤ len → place + len ≤ most → most - (place + len) < most - place
shrinks most place len some fits = omega (arith, some, fits)

pub pieces-smaller : goal.pieces-smaller
pieces-smaller g c =
    let inv = c.pieces.invariant in
    let fed = c.in_default.ensures inv.next.0 inv.next.1 in
    let fits = subst (λ (p : List ℕ). length (c.pieces.invariant.next.0 ++ p) ≤ most_stream) c.deref.ensures.value fed.2 in
    let count : length (c.pieces.invariant.next.0 ++ c.pieces.piece.items) ≡ c.pieces.place + c.len-in-pieces.result =
    omega (arith, length-append inv.next.0 c.pieces.piece.items, inv.next.2, c.len-in-pieces.ensures) in
    let some : 1 ≤ c.len-in-pieces.result = omega (arith, c.len.ensures, c.if-len-lt-PIECE.false, c.len-in-pieces.ensures) in
    shrinks most_stream c.pieces.place c.len-in-pieces.result some (subst (λ n. n ≤ most_stream) count fits)
