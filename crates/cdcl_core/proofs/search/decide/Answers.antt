use Rattle.std.proofs.Common.{◌∷◌, [], ◌++◌, length, arith, ap}
use Rattle.std.proofs.lemmas.List.{length-append, length_push}
use Rattle.cdcl_core.proofs.Justified.{justified_decided}
use Rattle.cdcl_core.proofs.search.decide.Goals as goal

pub returns-clause-justified : goal.returns-clause-justified
returns-clause-justified c =
    let f = c.levels_are_complete.ensures in
    let e = c.in_ok-falsified.ensures in
    justified_decided c.args.core.now c.requires.justified f.within c.decide.new.self c.args.l e.decided c.clauses_are_within.ensures c.requires.lit

pub returns-clause-levels : goal.returns-clause-levels
returns-clause-levels c =
    let e = c.in_ok-falsified.ensures in
    let d = e.decided in
    omega (arith, ap length d.limits, length_push c.args.core.now.limits (length c.args.core.now.trail))

pub returns-clause-grown : goal.returns-clause-grown
returns-clause-grown c =
    let e = c.in_ok-falsified.ensures in
    let d = e.decided in
    let g = d.propagated in
    let t = c.args.core.now.trail in
    omega (arith, ap length g.grown, length-append (t ++ c.args.l ∷ []) g.added, length_push t c.args.l)
