use Rattle.std.proofs.Common.{◌<◌, ◌≤◌, ◌∷◌, [], ℕ, All, sym, subst, ◌∙◌, arith}
use Rattle.bit_net.specs.Net.{vars}
use Rattle.net_unroll.proofs.Stepping.{levels_within}
use Rattle.net_unroll.proofs.cycles.early_of.Goals as goal

pub nexts_of-requires : goal.nexts_of-requires
nexts_of-requires c =
    let some = c.if-cycles-eq0-2.false in
    let inside : 1 ≤ c.args.cycles.count = omega arith in
    subst (All (λ (v : ℕ). (1 < v) × (v ≤ vars c.args.net.now))) (sym (c.prefix.ensures ∙ c.requires.late 1 inside)) (levels_within c.args.net.now (c.args.goal ∷ c.args.net.now.assumed ∷ []) [] 1)
