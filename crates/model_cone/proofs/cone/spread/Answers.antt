use Rattle.std.proofs.Common.{◌≡◌, ◌<◌, [], ℕ, List, length, subst, sym, arith}
use Rattle.std.proofs.lemmas.List.{nil_from_length}
use Rattle.std.proofs.lemmas.Option.{slice_get-get_or}
use Rattle.model_cone.specs.Marking.{IsSpread, work}
use Rattle.model_cone.proofs.Coning.{giver-of, place-below, place-visited, work-falls}
use Rattle.model_cone.proofs.cone.spread.Goals as goal

pub places-init : goal.places-init
places-init c = c.requires.begun

pub bounds-givers-place : goal.bounds-givers-place
bounds-givers-place c =
    let h = subst (λ (stack : List ℕ). IsSpread c.args.model.now c.args.asked c.places.marking.marks.items stack) c.in-Some.ensures.items c.places.invariant in
    let b = place-below c.args.model.now c.args.asked _ _ c.in-Some.place h in
    let s = c.requires.givers.size in
    omega arith

pub mark_reads-requires : goal.mark_reads-requires
mark_reads-requires c =
    let h = subst (λ (stack : List ℕ). IsSpread c.args.model.now c.args.asked c.places.marking.marks.items stack) c.in-Some.ensures.items c.places.invariant in
    let b = place-below c.args.model.now c.args.asked _ _ c.in-Some.place h in
    let s = c.requires.givers.size in
    record {
      model = c.requires.model;
      giver = giver-of c.args.model.now c.args.givers.now c.in-Some.place _ c.requires.givers (slice_get-get_or c.args.givers.now c.in-Some.place _ (omega arith));
      size = c.places.invariant.size;
    }

pub places-preserved : goal.places-preserved
places-preserved c =
    let h = subst (λ (stack : List ℕ). IsSpread c.args.model.now c.args.asked c.places.marking.marks.items stack) c.in-Some.ensures.items c.places.invariant in
    let b = place-below c.args.model.now c.args.asked _ _ c.in-Some.place h in
    let s = c.requires.givers.size in
    let l : c.in-Some.place < length c.args.givers.now = omega arith in
    place-visited c.args.model.now c.args.asked c.places.marking.marks.items _ c.in-Some.place h c.args.givers.now c.requires.givers _ (slice_get-get_or c.args.givers.now c.in-Some.place _ l) _ _ c.in_ok-mark_reads.ensures

pub places-smaller : goal.places-smaller
places-smaller c =
    let h = subst (λ (stack : List ℕ). IsSpread c.args.model.now c.args.asked c.places.marking.marks.items stack) c.in-Some.ensures.items c.places.invariant in
    let b = place-below c.args.model.now c.args.asked _ _ c.in-Some.place h in
    let s = c.requires.givers.size in
    let l : c.in-Some.place < length c.args.givers.now = omega arith in
    subst (λ (stack : List ℕ). work c.mark_reads.new.marking.marks.items c.mark_reads.new.marking.stack.items < work c.places.marking.marks.items stack) (sym c.in-Some.ensures.items)
    (work-falls c.args.model.now c.args.asked c.places.marking.marks.items _ c.in-Some.place h c.args.givers.now c.requires.givers _ (slice_get-get_or c.args.givers.now c.in-Some.place _ l) _ _ c.in_ok-mark_reads.ensures)

pub returns : goal.returns
returns c =
    let empty : c.places.marking.stack.items ≡ [] = nil_from_length c.places.marking.stack.items (omega (arith, c.places.marking.stack.ok.0, c.in_default.ensures.cases.0)) in
    subst (λ (stack : List ℕ). IsSpread c.args.model.now c.args.asked c.places.marking.marks.items stack) empty c.places.invariant
