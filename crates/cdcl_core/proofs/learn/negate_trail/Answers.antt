use Rattle.std.proofs.Common.{◌≡◌, ◌+◌, ◌++◌, ◌∷◌, [], length, get_or, take, map, arith, sym, ◌∙◌, ap, subst}
use Rattle.cnf_form.specs.Cnf.{negate}
use Rattle.cnf_form.proofs.Members.{take_one_more}
use Rattle.cdcl_core.specs.Levels.{base_of}
use Rattle.cdcl_core.specs.Analysis.{IsLearnt}
use Rattle.cdcl_core.proofs.Analyses.{base_room, learnt_trail, map_push}
use Rattle.cdcl_core.proofs.learn.negate_trail.Goals as goal

pub loop-place-preserved : goal.loop-place-preserved
loop-place-preserved c =
    let t = c.args.core.now.trail in
    let i = c.loop-place.place in
    let b = base_room c.args.core.now c.requires.justified c.requires.levels in
    let x = c.index-trail-place.result in
    let read : x ≡ get_or t i x = c.index-trail-place.is ∙ ap (λ z. get_or z i x) c.trail-trail.ensures.trail in
    let one : take (i + 1) t ≡ take i t ++ x ∷ [] = take_one_more t i x (omega (arith, b, c.requires.base, c.loop-place-test.true)) read in
    let e = c.in_ok-push.ensures in
    e.items ∙ ap (λ z. z ++ c.negate.result ∷ []) c.loop-place.invariant ∙ ap (λ z. map negate (take i t) ++ z ∷ []) c.negate.ensures ∙ sym (map_push (take i t) x) ∙ sym (ap (map negate) one)

pub offset_bounds-trail-base : goal.offset_bounds-trail-base
offset_bounds-trail-base c =
    let b = base_room c.args.core.now c.requires.justified c.requires.levels in
    omega (arith, b, c.requires.base, c.trail-trail.ensures.room, c.vars-limit.ensures.limit)

pub bounds-trail-base : goal.bounds-trail-base
bounds-trail-base c =
    let b = base_room c.args.core.now c.requires.justified c.requires.levels in
    omega (arith, b, c.requires.base, ap length c.trail-trail.ensures.trail)

pub returns : goal.returns
returns c =
    let core = c.args.core.now in
    let r = c.requires in
    let b = base_room core r.justified r.levels in
    let d = c.index-trail-base.result in
    let read : d ≡ get_or core.trail (base_of core) d = c.index-trail-base.is ∙ ap (λ z. get_or z c.args.base d) c.trail-trail.ensures.trail ∙ ap (λ z. get_or core.trail z d) r.base in
    let e = c.in_ok-push-2.ensures in
    let upto : take c.loop-place.place core.trail ≡ take (base_of core) core.trail = ap (λ z. take z core.trail) (let h : c.loop-place.place ≡ base_of core = omega (arith, r.base, c.loop-place-test.false, c.loop-place.auto) in h) in
    let is : c.push-2.new.self.items ≡ map negate (take (base_of core) core.trail) ++ negate d ∷ [] =
    e.items ∙ ap (λ z. z ++ c.negate-first.result ∷ []) (c.loop-place.invariant ∙ ap (map negate) upto) ∙ ap (λ z. map negate (take (base_of core) core.trail) ++ z ∷ []) c.negate-first.ensures in
    subst (λ z. IsLearnt core z c.push-2.new.self.items c.negate-first.result) (sym r.base) (subst (IsLearnt core (base_of core) c.push-2.new.self.items) (sym c.negate-first.ensures)
    (learnt_trail core c.args.k c.push-2.new.self.items d r.justified r.levels b r.conflict c.trail-trail.ensures.distinct c.trail-trail.ensures.consistent read is))
