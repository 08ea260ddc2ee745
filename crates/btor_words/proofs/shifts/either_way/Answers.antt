use Rattle.std.proofs.Common.{◌≡◌, ◌∙◌, suc, ◌-◌, ◌*◌, ◌^◌, cond, sym, arith, length}
use Rattle.std.specs.Prelude.{pos, ◌-ℤ◌}
use Rattle.sby_bits.specs.Rows.{fit, num, top_bit}
use Rattle.btor_words.proofs.Emitting.{both, last, sized, still, word_long}
use Rattle.btor_words.proofs.Rows.{top_slice}
use Rattle.btor_words.proofs.CellRows.{chosen_way}
use Rattle.btor_words.proofs.shifts.either_way.Goals as goal

pub slice-requires-clause-a : goal.slice-requires-clause-a
slice-requires-clause-a c = still c.in_ok-high.ensures.row.adds c.requires.by

pub mux-requires-clause-a : goal.mux-requires-clause-a
mux-requires-clause-a c = still (both c.in_ok-high.ensures.row.adds c.in_ok-sign.ensures.row.adds) c.requires.low

pub mux-requires-clause-b : goal.mux-requires-clause-b
mux-requires-clause-b c = still c.in_ok-sign.ensures.row.adds c.in_ok-high.ensures.row.word

pub mux-requires-clause-widths : goal.mux-requires-clause-widths
mux-requires-clause-widths c = c.in_ok-high.ensures.row.size ∙ sym c.requires.size

pub returns-clause-row : goal.returns-clause-row
returns-clause-row c =
    let w = c.args.word.width in
    let v = c.args.by.width in
    last 10 (λ vs. cond (top_bit (vs c.args.by.nid)) (fit w (pos (num (vs c.args.word.nid) * 2 ^ num (fit v (pos 0 -ℤ pos (num (vs c.args.by.nid))))))) (vs c.args.low.nid)) c.requires.word.btor
    (both c.in_ok-high.ensures.row.adds c.in_ok-sign.ensures.row.adds) (sized c.in_ok-chosen.ensures.row c.requires.size) (omega arith)
    (λ vs h p.
    let long : length (vs c.args.by.nid) ≡ v = word_long vs c.requires.by h in
    let top : suc (v - 1) ≡ length (vs c.args.by.nid) = (let s = c.requires.by.size.0 in omega arith) in
    chosen_way (top_bit (vs c.args.by.nid)) (vs c.args.low.nid) (vs c.in_ok-high.high.nid) (fit w (pos (num (vs c.args.word.nid) * 2 ^ num (fit v (pos 0 -ℤ pos (num (vs c.args.by.nid))))))) (vs c.in_ok-sign.sign.nid) (p.1 ∙ top_slice (vs c.args.by.nid) (v - 1) top) p.0)
