use Rattle.std.proofs.Common.{◌++◌, ◌∙◌, [], refl, ap, sym, take, append_assoc}
use Rattle.std.proofs.KnownBytes.{Appends-nil, Appends-trans}
use Rattle.child_edge.proofs.files.write_from.Goals as goal

pub loop-filled-init : goal.loop-filled-init
loop-filled-init g c = ([], Appends-nil _, refl, c.requires.fits, c.requires.ends)

pub loop-filled-preserved : goal.loop-filled-preserved
loop-filled-preserved g c =
    let given = c.loop-filled.invariant.0 in
    let front = take c.loop-filled.filled c.loop-filled.buffer in
    let later = take c.fill-filled.result c.fill-filled.new.buffer ++ g.S.Source.rest c.fill-filled.new.source in (
      given ++ front,
      Appends-trans _ _ _ given front c.loop-filled.invariant.1 c.in-Ok.ensures.bytes,
      c.loop-filled.invariant.2 ∙ ap (λ xs. given ++ (front ++ xs)) c.fill-filled.ensures.piece ∙ sym (append_assoc given front later),
      c.fill-filled.ensures.fits,
      c.fill-filled.ensures.ends,
    )
