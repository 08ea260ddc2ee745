use Rattle.std.proofs.Common.{◌≡◌, ◌+◌, ◌<◌, ℕ, List, All, ap, sym, subst, ◌∙◌, arith}
use Rattle.std.proofs.lemmas.List.{take_all}
use Rattle.cnf_form.specs.Cnf.{LitOf}
use Rattle.bit_net.specs.Net.{vars}
use Rattle.net_unroll.specs.Program.{moves}
use Rattle.net_unroll.proofs.Stepping.{moves_lits, moves_places}
use Rattle.net_unroll.proofs.cycles.moves_of.Goals as goal

pub returns-clause-places : goal.returns-clause-places
returns-clause-places c =
    let end = c.loop-var-test.false in
    let all : c.loop-var.moves.items ≡ moves c.args.net.now c.args.places.now = c.loop-var.invariant ∙ ap (moves c.args.net.now) (take_all c.loop-var.var-index c.args.places.now (omega arith)) in
    subst (λ (ms : List (ℕ × LitOf)). All (λ (m : ℕ × LitOf). m.0 < vars c.args.net.now + 1) ms) (sym all) (moves_places c.args.net.now c.args.places.now c.promise.ensures c.requires)

pub returns-clause-lits : goal.returns-clause-lits
returns-clause-lits c =
    let end = c.loop-var-test.false in
    let all : c.loop-var.moves.items ≡ moves c.args.net.now c.args.places.now = c.loop-var.invariant ∙ ap (moves c.args.net.now) (take_all c.loop-var.var-index c.args.places.now (omega arith)) in
    subst (λ (ms : List (ℕ × LitOf)). All (λ (m : ℕ × LitOf). m.1.var < vars c.args.net.now + 1) ms) (sym all) (moves_lits c.args.net.now c.args.places.now c.promise.ensures c.requires)
