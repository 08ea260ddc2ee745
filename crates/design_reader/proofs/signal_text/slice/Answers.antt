use Rattle.std.proofs.Common.{sym, refl}
use Rattle.design_reader.proofs.SliceLemmas.{slice_no, slice_yes}
use Rattle.design_reader.proofs.signal_text.slice.Goals as goal

pub returns-in-Some-slice_fault : goal.returns-in-Some-slice_fault
returns-in-Some-slice_fault c = λ row rows e.
    let s = c.in-Some.ensures in
    slice_no row rows c.args.word.now s.0 s.1 _ c.in-Some-slice_fault.kind s.2 (c.in_ok-width.ensures row rows e) (sym (c.in-Some-slice_fault.ensures.fault s.0 s.1 s.3 s.4))

pub returns : goal.returns
returns c = λ row rows e.
    let s = c.in-Some.ensures in
    let f = c.in_default-slice_fault in
    let w = f.ensures.within refl in
    rw (c.in_ok-slice.ensures row rows e)
    (slice_yes row rows c.args.word.now s.0 s.1 _ c.in-Some.high c.in-Some.low s.2 (c.in_ok-width.ensures row rows e) (sym (f.ensures.fault s.0 s.1 s.3 s.4)) s.3 s.4 w.0 w.2)
