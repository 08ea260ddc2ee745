use Rattle.std.proofs.Common.{◌≡◌, ◌∙◌, ◌<◌, ℕ, Bool, List, Some, length, Option, refl, ap, subst, arith}
use Rattle.std.specs.Prelude.{slice_get}
use Rattle.std.proofs.lemmas.Option.{slice_get_read}
use Rattle.design_core.specs.Shape.{DesignOf}
use Rattle.design_core.specs.Places.{place_of}
use Rattle.design_graph.specs.Starts.{IsStarts}
use Rattle.design_check.proofs.Conflicting.{start-at, register-at}
use Rattle.design_check.proofs.flat.Flat.start.Goals as goal

pub returns-clause-bit : goal.returns-clause-bit
returns-clause-bit c = λ x.
    let table : List (Option Bool) = c.self.inside.starts.items in
    let kept = c.self.invariant.1.1.0 in
    let s : IsStarts c.args.self.now c.self.inside.starts.items = subst (λ (d : DesignOf). IsStarts d c.self.inside.starts.items) c.self.view_is kept in
    let within : c.place.result < length c.self.inside.starts.items = omega (arith, kept.size, c.place.ensures.within) in
    let at : slice_get c.self.inside.starts.items c.place.result ≡ Some c.index.result.now = slice_get_read table (length table) c.place.result c.index.result.now refl within c.index.ensures in
    let place : c.place.result ≡ place_of c.args.self.now c.args.bit = c.place.ensures.place ∙ ap (λ (d : DesignOf). place_of d c.args.bit) c.self.view_is in
    let there : slice_get c.self.inside.starts.items (place_of c.args.self.now c.args.bit) ≡ Some c.index.result.now = subst (λ (p : ℕ). slice_get c.self.inside.starts.items p ≡ Some c.index.result.now) place at in
    start-at c.args.self.now table s c.args.bit c.requires c.index.result.now there x

pub returns-clause-register : goal.returns-clause-register
returns-clause-register c = λ i k x bit.
    let table : List (Option Bool) = c.self.inside.starts.items in
    let kept = c.self.invariant.1.1.0 in
    let s : IsStarts c.args.self.now c.self.inside.starts.items = subst (λ (d : DesignOf). IsStarts d c.self.inside.starts.items) c.self.view_is kept in
    let within : c.place.result < length c.self.inside.starts.items = omega (arith, kept.size, c.place.ensures.within) in
    let at : slice_get c.self.inside.starts.items c.place.result ≡ Some c.index.result.now = slice_get_read table (length table) c.place.result c.index.result.now refl within c.index.ensures in
    let place : c.place.result ≡ place_of c.args.self.now c.args.bit = c.place.ensures.place ∙ ap (λ (d : DesignOf). place_of d c.args.bit) c.self.view_is in
    let there : slice_get c.self.inside.starts.items (place_of c.args.self.now c.args.bit) ≡ Some c.index.result.now = subst (λ (p : ℕ). slice_get c.self.inside.starts.items p ≡ Some c.index.result.now) place at in
    register-at c.args.self.now i k c.args.bit c.index.result.now x bit (start-at c.args.self.now table s c.args.bit c.requires c.index.result.now there x)
