use Rattle.std.proofs.Common.{◌≡◌, ℕ, List, Some, get_or, subst, sym}
use Rattle.std.specs.Prelude.{slice_get}
use Rattle.std.proofs.lemmas.Option.{slice_get-get_or}
use Rattle.sby_terms.specs.declared.names.JobName.{JobName}
use Rattle.sby_terms.specs.declared.names.JobName.TheVariants.{Base}
use Rattle.judge.proofs.Encodes.{fit_more, told_or_not, refused_next}
use Rattle.judge.specs.Jobs.{jobs_in}
use Rattle.judge.specs.Stored.{FitUpTo, IsRefusedAmong}
use Rattle.judge.proofs.encoding.first_unfit.Goals as goal

-- the name at a place of a list that is another
at-same : (names jobs : List JobName) (i : ℕ) (job : JobName) → names ≡ jobs → slice_get names i ≡ Some job → slice_get jobs i ≡ Some job
at-same names jobs i job same at = subst (λ (js : List JobName). slice_get js i ≡ Some job) same at

pub fits-requires-clause-job : goal.fits-requires-clause-job
fits-requires-clause-job c =
    let names = c.args.names.now in
    let i = c.loop-name.name-index in
    let at = slice_get-get_or names i (Base 0) c.loop-name-test.true in
    told_or_not c.args.flat.now c.args.model.now c.requires.built.design c.requires.built.model c.args.mode c.args.span i (get_or names i (Base 0))
    (at-same names (jobs_in c.args.mode c.args.span c.args.flat.now) i (get_or names i (Base 0)) c.requires.names at)

pub returns-then-not-branch-clause-some : goal.returns-then-not-branch-clause-some
returns-then-not-branch-clause-some c =
    let names = c.args.names.now in
    let i = c.loop-name.name-index in
    let job = get_or names i (Base 0) in
    let at = slice_get-get_or names i (Base 0) c.loop-name-test.true in
    subst (λ (js : List JobName). IsRefusedAmong c.args.flat.now c.args.model.now c.args.span js job) (sym c.requires.names)
    (refused_next c.args.flat.now c.args.model.now c.requires.built c.args.mode c.args.span c.args.net.now c.args.bits.now c.requires.net c.requires.bits i job
    (at-same names (jobs_in c.args.mode c.args.span c.args.flat.now) i job c.requires.names at) (c.in_ok-fits.ensures.no c.if-not-branch.true)
    (subst (λ (js : List JobName). FitUpTo c.args.net.now c.args.bits.now c.args.span js i) c.requires.names c.loop-name.invariant))

pub loop-name-preserved : goal.loop-name-preserved
loop-name-preserved c =
    let names = c.args.names.now in
    let i = c.loop-name.name-index in
    let at = slice_get-get_or names i (Base 0) c.loop-name-test.true in
    fit_more c.args.net.now c.args.bits.now c.args.span names i (get_or names i (Base 0)) at (c.in_ok-fits.ensures.yes c.if-not-branch.false) c.loop-name.invariant
