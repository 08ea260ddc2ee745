use Rattle.std.proofs.Common.{◌≡◌, ◌+◌, ◌<◌, ◌∙◌, ℕ, Bool, true, false, Some, drop, length, get_or, ap, sym, subst, arith}
use Rattle.std.specs.Prelude.{slice_get}
use Rattle.std.proofs.lemmas.Bool.{true≢false}
use Rattle.std.proofs.lemmas.Option.{slice_get-get_or, get_or_from_slice_get}
use Rattle.std.proofs.lemmas.List.Elements.{All-contains}
use Rattle.design_core.specs.Places.{place_of}
use Rattle.design_core.specs.Shape.{IsDeclared}
use Rattle.design_core.proofs.Lists.{Contains-from_place}
use Rattle.design_signals.specs.Chunks.{bits_of}
use Rattle.design_graph.specs.Items.{IsFirstBad}
use Rattle.design_graph.proofs.Driving.{drop-front, drop-nothing, taken-next, taken-all, bad-marked, bad-other, first-bad}
use Rattle.design_graph.proofs.drivers.take_bits.Goals as goal
use Rattle.design_graph.proofs.drivers.take_bits.Goals.{In-Some, After-place-place, then-taken-place-via-then-taken-place, then-taken-place-via-else-taken-place+then-not-is_drivable}

here : (c : In-Some) → (slice_get (bits_of c.args.bits.now) c.bits.invariant.0 ≡ Some c.in-Some.bit) × (drop (c.bits.invariant.0 + 1) (bits_of c.args.bits.now) ≡ c.next.new.self)
here c = drop-front (bits_of c.args.bits.now) c.bits.invariant.0 c.in-Some.bit c.next.new.self (c.bits.invariant.1 ∙ c.in-Some.ensures.some)

declared : (c : In-Some) → IsDeclared c.args.design.now.wires c.args.design.now.free c.in-Some.bit
declared c =
    All-contains (IsDeclared c.args.design.now.wires c.args.design.now.free) (bits_of c.args.bits.now) c.in-Some.bit c.requires.declared
    (Contains-from_place (bits_of c.args.bits.now) c.bits.invariant.0 c.in-Some.bit (here c).0)

within : (c : After-place-place) → c.place-place.result < length c.bits.taken
within c = omega (arith, c.place-place.ensures.within, c.requires.size, c.bits.invariant.2.marks.size)

pub place-place-requires : goal.place-place-requires
place-place-requires c = declared (goal.at.place-place-requires c).In-Some

pub is_drivable-requires : goal.is_drivable-requires
is_drivable-requires c = declared (goal.at.is_drivable-requires c).In-Some

pub returns-then-taken-place-clause-some : goal.returns-then-taken-place-clause-some
returns-then-taken-place-clause-some c =
    let x = (goal.at.returns-then-taken-place-clause-some c).In-Some in
    let y = (goal.at.returns-then-taken-place-clause-some c).After-place-place in
    let d = c.args.design.now in
    let bits = bits_of c.args.bits.now in
    let i = c.bits.invariant.0 in
    let t = c.bits.invariant.2 in
    let at = (here x).0 in
    elim c.then-taken-place.branch as (λ _. IsFirstBad d c.args.taken.now bits c.in-Some.bit) [
      | then-taken-place-via-then-taken-place w ↦
          let mark : slice_get c.bits.taken (place_of d c.in-Some.bit) ≡ Some true =
          subst (λ (n : ℕ). slice_get c.bits.taken n ≡ Some true) c.place-place.ensures.place
          (slice_get-get_or c.bits.taken c.place-place.result false (within y) ∙ ap (λ (b : Bool). Some b) w.if-taken-place.true) in
          first-bad d c.args.taken.now bits c.requires.declared i c.bits.taken t c.in-Some.bit at (bad-marked d c.args.taken.now bits c.requires.declared i c.bits.taken t c.in-Some.bit at mark)
      | then-taken-place-via-else-taken-place+then-not-is_drivable w ↦
          first-bad d c.args.taken.now bits c.requires.declared i c.bits.taken t c.in-Some.bit at
          (bad-other d c.args.taken.now bits c.requires.declared i c.bits.taken t c.in-Some.bit at w.if-not-is_drivable.ensures)
    ]

pub bits-preserved : goal.bits-preserved
bits-preserved c =
    let x = (goal.at.bits-preserved c).In-Some in
    let y = (goal.at.bits-preserved c).After-place-place in
    let d = c.args.design.now in
    let bits = bits_of c.args.bits.now in
    let i = c.bits.invariant.0 in
    let e = c.place-place.ensures.place in (
      i + 1,
      (here x).1,
      taken-next d c.args.taken.now bits c.requires.declared i c.bits.taken c.bits.invariant.2 c.in-Some.bit (here x).0
          (λ h. true≢false (sym (get_or_from_slice_get c.bits.taken (place_of d c.in-Some.bit) true false h) ∙ (ap (λ (n : ℕ). get_or c.bits.taken n false) (sym e) ∙ c.if-taken-place.false)))
          c.if-not-is_drivable.ensures c.place-place.result e (within y),
    )

pub returns-clause-none : goal.returns-clause-none
returns-clause-none c =
    let bits = bits_of c.args.bits.now in
    let i = c.bits.invariant.0 in
    taken-all c.args.design.now c.args.taken.now bits i c.bits.taken c.bits.invariant.2 (drop-nothing bits i (c.bits.invariant.1 ∙ c.in_default.ensures.none.0))
