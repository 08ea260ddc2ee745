use Rattle.std.proofs.Common.{◌≡◌, ◌∙◌, ◌≤◌, ◌^◌, List, ℕ, ap, subst, sym}
use Rattle.std.specs.Prelude.{IfOk, Option}
use Rattle.bit_net.specs.Net.{NetOf}
use Rattle.net_pair.specs.Pairing.{made, pair_of}
use Rattle.pair_form.specs.Pair.{PairOf}
use Rattle.task_net.specs.Net.{TaskNetOf}
use Rattle.judge.specs.Basis.{BasisOf}
use Rattle.judge.specs.Problem.{AskedOf, pair_in}
use Rattle.judge.proofs.problem.Problem.pair.Goals as goal

pub pair_again-requires : goal.pair_again-requires
pair_again-requires c =
    let basis = c.self.inside.basis.value in
    let net = c.net-2.ensures ∙ ap (λ (t : TaskNetOf). t.net) (c.net.ensures ∙ ap (λ (b : BasisOf). b.net) c.deref.ensures) in
    let bits = c.bits.ensures ∙ ap (λ (b : BasisOf). b.bits) c.deref-2.ensures in
    let few = subst (λ (q : AskedOf). made q.net.net q.bits ≤ 2 ^ 27) (sym c.self.view_is) (c.flat-flat.ensures.problem.fits _ c.requires) in record {
      fits = subst (λ (n : NetOf). made n c.bits.result.now ≤ 2 ^ 27) (sym net) (subst (λ (held : List (Option ℕ)). made basis.net.net held ≤ 2 ^ 27) (sym bits) few);
    }

pub returns : goal.returns
returns c =
    let basis = c.self.inside.basis.value in
    let net = c.net-2.ensures ∙ ap (λ (t : TaskNetOf). t.net) (c.net.ensures ∙ ap (λ (b : BasisOf). b.net) c.deref.ensures) in
    let bits = c.bits.ensures ∙ ap (λ (b : BasisOf). b.bits) c.deref-2.ensures in
    let same = ap (λ (n : NetOf). pair_of n c.bits.result.now) net ∙ (ap (λ (held : List (Option ℕ)). pair_of basis.net.net held) bits ∙ ap pair_in c.self.view_is) in
    subst (λ (q : PairOf). IfOk c.pair_again.result (λ p. p ≡ q)) same c.pair_again.ensures
