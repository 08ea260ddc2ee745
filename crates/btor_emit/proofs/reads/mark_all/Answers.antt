use Rattle.std.proofs.Common.{◌≡◌, ◌<◌, ℕ, Some, get_or, length, refl, sym, subst, arith}
use Rattle.std.specs.Prelude.{Contains, slice_get}
use Rattle.std.proofs.lemmas.Option.{slice_get-get_or}
use Rattle.btor_emit.proofs.Marking.{among_all, among_more, among_none}
use Rattle.btor_emit.proofs.reads.mark_all.Goals as goal
use Rattle.model_core.proofs.Lists.{contained_at, place_of_contained}

pub loop-k-init : goal.loop-k-init
loop-k-init c = among_none c.args.places.now (λ (x p : ℕ). p ≡ x) c.args.marks.now

pub mark-requires : goal.mark-requires
mark-requires c =
    let l : c.loop-k.k < length c.args.places.now = omega arith in
    let b = c.requires c.loop-k.k 0 l in
    let s = c.loop-k.invariant.size in
    omega arith

pub loop-k-preserved : goal.loop-k-preserved
loop-k-preserved c =
    let ps = c.args.places.now in
    let i = c.loop-k.k in
    let l : i < length ps = omega arith in
    among_more ps (λ (x p : ℕ). p ≡ x) c.args.marks.now c.loop-k.marks c.mark.new.marks i (get_or ps i 0) (slice_get-get_or ps i 0 l) c.loop-k.invariant c.mark.ensures

pub returns : goal.returns
returns c =
    let ps = c.args.places.now in
    among_all ps (λ (x p : ℕ). p ≡ x) (Contains ps) c.args.marks.now c.loop-k.marks c.loop-k.k (let t = c.loop-k-test.false in let b = c.loop-k.auto.k-end in omega arith) (λ p k x at e. contained_at ps p k (subst (λ (z : ℕ). slice_get ps k ≡ Some z) (sym e) at))
    (λ p h. let at = place_of_contained ps p h in (at.0, p, at.1, refl)) c.loop-k.invariant
