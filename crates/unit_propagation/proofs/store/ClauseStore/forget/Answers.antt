use Rattle.std.proofs.Common.{length, refl, ap, ◌∙◌, arith}
use Rattle.std.proofs.lemmas.List.{get_or_default, length-set}
use Rattle.unit_propagation.specs.declared.watch.Head.{Head}
use Rattle.unit_propagation.specs.declared.watch.TheConstants.{GONE}
use Rattle.unit_propagation.proofs.Stores.{heads_set, slots_of-gone}
use Rattle.unit_propagation.proofs.store.ClauseStore.forget.Goals as goal

pub invariant_of-self-clause-few : goal.invariant_of-self-clause-few
invariant_of-self-clause-few c =
    let s = c.args.self.now in
    let h : Head = record { start = c.head-start.result.start; from = GONE; left = c.head-start.result.left; right = c.head-start.result.left } in
    omega (arith, length-set s.heads.items c.args.k h, s.few)

pub invariant_of-self-clause-fit : goal.invariant_of-self-clause-fit
invariant_of-self-clause-fit c =
    let s = c.args.self.now in
    let r = c.head-start.ensures in
    let at = ap (λ (z : Head). z.start) r.head ∙ ap (λ (z : Head). z.start) (get_or_default s.heads.items c.args.k _ _ c.requires) in
    heads_set s.vars (length s.lits.items) s.heads.items c.args.k _ c.requires at (record {
      start = r.fits.start;
      from = omega (arith, r.fits.start, s.fit.within c.args.k, s.counted);
      watches = λ d. absurd (d refl);
    }) s.fit

pub returns-clause-slots : goal.returns-clause-slots
returns-clause-slots c =
    let s = c.args.self.now in
    let at = ap (λ (z : Head). z.start) c.head-start.ensures.head ∙ ap (λ (z : Head). z.start) (get_or_default s.heads.items c.args.k _ _ c.requires) in
    slots_of-gone s.lits.items s.heads.items c.args.k _ c.requires at refl
