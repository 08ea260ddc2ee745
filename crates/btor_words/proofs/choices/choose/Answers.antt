use Rattle.std.proofs.Common.{arith, refl, ◌*◌}
use Rattle.sby_bits.specs.Words.{some_bit}
use Rattle.cell_table.specs.Cells.{mux_fn, slice_fn}
use Rattle.btor_words.proofs.Emitting.{both, last, still}
use Rattle.btor_words.proofs.choices.choose.Goals as goal

pub slice-requires-2-clause-a : goal.slice-requires-2-clause-a
slice-requires-2-clause-a c = still c.in_ok-select.ensures.row.adds c.requires.b

pub mux-requires-clause-a : goal.mux-requires-clause-a
mux-requires-clause-a c = still (both c.in_ok-select.ensures.row.adds c.in_ok-part.ensures.row.adds) c.requires.chosen

pub mux-requires-clause-s : goal.mux-requires-clause-s
mux-requires-clause-s c = still c.in_ok-part.ensures.row.adds c.in_ok-select.ensures.row.word

pub returns-clause-row : goal.returns-clause-row
returns-clause-row c =
    let w = c.args.chosen.width in
    last 6 (λ vs. mux_fn (vs c.args.chosen.nid) (slice_fn w (w * c.args.place) (vs c.args.b.nid)) (some_bit (slice_fn 1 c.args.place (vs c.args.s.nid)))) c.requires.chosen.btor
    (both c.in_ok-select.ensures.row.adds c.in_ok-part.ensures.row.adds) c.in_ok-next.ensures.row (omega arith) (λ vs h p. rw (p.0, p.1) refl)
