use Rattle.std.proofs.Common.{◌≡◌, ◌<◌, ℕ, Bool, List, Option, Some, None, length, get_or, ap, subst, arith}
use Rattle.std.specs.Prelude.{slice_get}
use Rattle.std.proofs.lemmas.Option.{slice_get-get_or}
use Rattle.model_core.specs.Shape.{states}
use Rattle.model_core.proofs.Frames.{open_source, source_below}
use Rattle.model_core.proofs.Lists.{contained_at, contains_left}
use Rattle.model_cone.specs.Slice.{kept_by}
use Rattle.task_net.proofs.Spreads.{starts-next}
use Rattle.task_net.proofs.kept.kept_starts.Goals as goal

pub push_start-requires : goal.push_start-requires
push_start-requires c =
    let m = c.args.model.now in
    let l = c.loop-k-test.true in
    let at : slice_get (states m) c.loop-k.k ≡ Some (get_or c.states-places.result.now c.loop-k.k 0) =
    subst (λ (xs : List ℕ). slice_get xs c.loop-k.k ≡ Some (get_or c.states-places.result.now c.loop-k.k 0)) c.states-places.ensures (slice_get-get_or c.states-places.result.now c.loop-k.k 0 l) in
    let p : ℕ = get_or c.states-places.result.now c.loop-k.k 0 in
    let b = source_below m c.requires.model p (open_source m c.requires.model p (contains_left (states m) m.inputs p (contained_at (states m) p c.loop-k.k at))) in
    let s = c.requires.marks in
    omega arith

pub loop-k-preserved : goal.loop-k-preserved
loop-k-preserved c =
    let l = c.loop-k-test.true in
    let s = c.requires.model.starts in
    let a : length c.states-places.result.now ≡ length (states c.args.model.now) = ap (λ (xs : List ℕ). length xs) c.states-places.ensures in
    let b : length c.starts-digits.result.now ≡ length c.args.model.now.starts = ap (λ (xs : List (Option Bool)). length xs) c.starts-digits.ensures in
    let w : c.loop-k.k < length c.starts-digits.result.now = omega arith in
    starts-next (kept_by c.args.marks.now) c.states-places.result.now c.starts-digits.result.now c.loop-k.k _ _ c.loop-k.kept.items _ _ (slice_get-get_or c.states-places.result.now c.loop-k.k 0 l)
    (slice_get-get_or c.starts-digits.result.now c.loop-k.k None w) c.loop-k.invariant c.in_ok-push_start.ensures
