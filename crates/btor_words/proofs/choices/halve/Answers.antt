use Rattle.std.proofs.Common.{◌∙◌, arith, refl, sym}
use Rattle.sby_bits.specs.Words.{some_bit}
use Rattle.cell_table.specs.Cells.{mux_fn, slice_fn}
use Rattle.btor_words.proofs.Emitting.{both, last, sized, still}
use Rattle.btor_words.proofs.choices.halve.Goals as goal

pub slice-requires-2-clause-a : goal.slice-requires-2-clause-a
slice-requires-2-clause-a c = still c.in_ok-select.ensures.row.adds c.requires.word

pub slice-requires-3-clause-a : goal.slice-requires-3-clause-a
slice-requires-3-clause-a c = still (both c.in_ok-select.ensures.row.adds c.in_ok-low.ensures.row.adds) c.requires.word

pub mux-requires-clause-a : goal.mux-requires-clause-a
mux-requires-clause-a c = still c.in_ok-high.ensures.row.adds c.in_ok-low.ensures.row.word

pub mux-requires-clause-s : goal.mux-requires-clause-s
mux-requires-clause-s c = still (both c.in_ok-low.ensures.row.adds c.in_ok-high.ensures.row.adds) c.in_ok-select.ensures.row.word

pub mux-requires-clause-widths : goal.mux-requires-clause-widths
mux-requires-clause-widths c = c.in_ok-high.ensures.row.size ∙ sym c.in_ok-low.ensures.row.size

pub returns-clause-row : goal.returns-clause-row
returns-clause-row c =
    let h = c.args.half in
    last 8 (λ vs. mux_fn (slice_fn h 0 (vs c.args.word.nid)) (slice_fn h h (vs c.args.word.nid)) (some_bit (slice_fn 1 c.args.place (vs c.args.s.nid)))) c.requires.word.btor
    (both (both c.in_ok-select.ensures.row.adds c.in_ok-low.ensures.row.adds) c.in_ok-high.ensures.row.adds) (sized c.in_ok-next.ensures.row c.in_ok-low.ensures.row.size) (omega arith) (λ vs i p. rw (p.0.0, p.0.1, p.1) refl)
