use Rattle.std.proofs.Common.{◌+◌, ◌-◌, drop, take, refl, sym, ◌∙◌, arith, length-drop}
use Rattle.std.proofs.lemmas.List.{length-take-le}
use Rattle.btor_words.proofs.Emitting.{renamed, sized}
use Rattle.btor_emit.specs.Table.{cycle_of}
use Rattle.btor_emit.specs.declared.table.Seat.TheVariants.{Bit}
use Rattle.btor_emit.proofs.Gathering.{first_digit, first_seat, part_in, part_there, place_in_part, stretch_row}
use Rattle.btor_emit.proofs.table.part_at.Goals as goal
use Rattle.model_core.specs.Meaning.{row_at}

pub digits_end-end-requires-clause-digit : goal.digits_end-end-requires-clause-digit
digits_end-end-requires-clause-digit c = λ p at. first_digit c.args.table.now c.args.places.now c.args.first p c.seat_at-seat.result _ c.seat_at-seat.ensures c.in-Digit.is at

pub digits_part-requires-clause-inside : goal.digits_part-requires-clause-inside
digits_part-requires-clause-inside c = part_in c.args.table.now c.args.places.now (c.digits_end-end.result - c.args.first) c.args.first c.requires.inside

pub digits_part-requires-clause-digits : goal.digits_part-requires-clause-digits
digits_part-requires-clause-digits c = λ k p at.
    let some = c.digits_end-end.ensures.some in
    let r = place_in_part c.args.first c.args.places.now (c.digits_end-end.result - c.args.first) k (c.args.first + k) p refl at in
    let below = r.0 in
    c.digits_end-end.ensures.each (c.args.first + k) p (omega arith) (omega arith) r.1

pub returns-in_ok-part-in-Digit-clause-row : goal.returns-in_ok-part-in-Digit-clause-row
returns-in_ok-part-in-Digit-clause-row c =
    let n = c.digits_end-end.result - c.args.first in
    let most = c.digits_end-end.ensures.most in
    let some = c.digits_end-end.ensures.some in
    sized c.in_ok-part-in-Digit.ensures.row (length-take-le n (drop c.args.first c.args.places.now) (let d = length-drop c.args.first c.args.places.now in omega arith))

pub stretch-end-requires-clause-seat : goal.stretch-end-requires-clause-seat
stretch-end-requires-clause-seat c p at = first_seat c.args.table.now c.args.places.now c.args.first p (Bit c.in-Bit.word c.in-Bit.bit) (sym c.in-Bit.is ∙ c.seat_at-seat.ensures) at

pub slice-requires-clause-a : goal.slice-requires-clause-a
slice-requires-clause-a c =
    let each = c.stretch-end.ensures.each in
    (part_there c.args.draft.now c.args.table.now c.args.places.now c.args.first c.stretch-end.result c.in-Bit.word c.in-Bit.bit c.requires.seats c.requires.inside each c.stretch-end.ensures.some c.stretch-end.ensures.most).0

pub slice-requires-clause-inside : goal.slice-requires-clause-inside
slice-requires-clause-inside c =
    let each = c.stretch-end.ensures.each in
    (part_there c.args.draft.now c.args.table.now c.args.places.now c.args.first c.stretch-end.result c.in-Bit.word c.in-Bit.bit c.requires.seats c.requires.inside each c.stretch-end.ensures.some c.stretch-end.ensures.most).1

pub returns-in_ok-part-in-Bit-clause-row : goal.returns-in_ok-part-in-Bit-clause-row
returns-in_ok-part-in-Bit-clause-row c =
    let n = c.stretch-end.result - c.args.first in
    let each = c.stretch-end.ensures.each in
    let part = part_there c.args.draft.now c.args.table.now c.args.places.now c.args.first c.stretch-end.result c.in-Bit.word c.in-Bit.bit c.requires.seats c.requires.inside each c.stretch-end.ensures.some c.stretch-end.ensures.most in
    renamed 2 (λ vs. row_at (cycle_of c.args.table.now vs) (take n (drop c.args.first c.args.places.now))) c.requires.btor c.in_ok-part-in-Bit.ensures.row (omega arith)
    (λ vs h. stretch_row c.args.draft.now c.args.table.now c.args.places.now c.args.first c.stretch-end.result c.in-Bit.word c.in-Bit.bit vs each c.stretch-end.ensures.some c.stretch-end.ensures.most part h)
