use Rattle.std.proofs.Common.{◌<◌, get_or, length, arith}
use Rattle.std.proofs.lemmas.Option.{slice_get-get_or}
use Rattle.btor_emit.proofs.Marking.{copied_all, copied_more, copied_none}
use Rattle.btor_emit.proofs.reads.mark_copied.Goals as goal

pub loop-k-init : goal.loop-k-init
loop-k-init c = copied_none c.args.marks.now c.args.places.now c.args.copies.now

pub mark_original-requires-clause-place : goal.mark_original-requires-clause-place
mark_original-requires-clause-place c =
    let l : c.loop-k.k < length c.args.places.now = omega arith in
    let b = c.requires.places c.loop-k.k 0 l in
    let s = c.loop-k.invariant.size in
    omega arith

pub mark_original-requires-clause-copy : goal.mark_original-requires-clause-copy
mark_original-requires-clause-copy c =
    let l : c.loop-k.k < length c.args.copies.now = (let s = c.requires.same in omega arith) in
    let b = c.requires.copies c.loop-k.k 0 l in
    let s = c.loop-k.invariant.size in
    omega arith

pub loop-k-preserved : goal.loop-k-preserved
loop-k-preserved c =
    let ps = c.args.places.now in
    let qs = c.args.copies.now in
    let i = c.loop-k.k in
    let l : i < length ps = omega arith in
    let h : i < length qs = (let s = c.requires.same in omega arith) in
    copied_more c.args.marks.now c.loop-k.marks c.mark_original.new.marks ps qs i (get_or ps i 0) (get_or qs i 0) (slice_get-get_or ps i 0 l) (slice_get-get_or qs i 0 h) c.requires.apart c.loop-k.invariant c.mark_original.ensures

pub returns : goal.returns
returns c = copied_all c.args.marks.now c.loop-k.marks c.args.places.now c.args.copies.now c.loop-k.k (let t = c.loop-k-test.false in let b = c.loop-k.auto.k-end in omega arith) c.loop-k.invariant
