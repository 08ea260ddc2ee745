use Rattle.std.proofs.Common.{◌≡◌, ◌+◌, ◌-◌, ◌≤◌, ◌++◌, ◌∙◌, ap, sym, arith, take, drop, length, append_assoc}
use Rattle.std.proofs.lemmas.List.{length-drop, length-take-le, take-append-le}
use Rattle.std.proofs.Math.Seq.{take-append-add}
use borrow.Rule.Slice.PartMut.{put_mid, post_of, same_len_mid}
use Rattle.sby_edge.proofs.source.fill.Goals as goal

pub loop-filled-preserved : goal.loop-filled-preserved
loop-filled-preserved g c =
    let at = c.loop-filled.filled in
    let count = c.next-count.result in
    let before = c.loop-filled.buffer in
    let part = c.next-count.new.buffer in
    let room = length before - at in
    let front : take (at + count) (put_mid at room before part) ≡ take at before ++ take count part =
    ap (λ n. take (n + count) (put_mid at room before part)) (sym (length-take-le at before c.loop-filled.invariant.within))
    ∙ take-append-add (take at before) (part ++ post_of at room before) count
    ∙ ap (λ xs. take at before ++ xs) (take-append-le count part (post_of at room before) c.next-count.ensures.fits) in
    let same : length (put_mid at room before part) ≡ length before = same_len_mid at room before part c.next-count.auto.buffer in
    let fits : count ≤ length part = c.next-count.ensures.fits in
    let put : length part ≡ room = c.next-count.auto.buffer ∙ length-take-le room (drop at before) (omega (arith, length-drop at before)) in
    record {
      told = c.loop-filled.invariant.told ∙ ap (λ xs. take at before ++ xs) c.next-count.ensures.piece
          ∙ sym (append_assoc (take at before) (take count part) (g.S.Source.rest c.next-count.new.self)) ∙ ap (λ xs. xs ++ g.S.Source.rest c.next-count.new.self) (sym front);
      within = omega arith;
    }
