use Rattle.std.proofs.Common.{◌≡◌, ◌+◌, ◌<◌, ◌-◌, ◌^◌, ℕ, suc, List, ◌++◌, arith, ap, refl, sym, subst, length}
use Rattle.std.specs.Prelude.{All}
use Rattle.btor_core.specs.Shape.{BtorOf}
use Rattle.btor_core.specs.declared.line.Line.{Line}
use Rattle.btor_core.specs.declared.line.Node.TheVariants as node
use Rattle.btor_core.specs.declared.line.Body.TheVariants as body
use Rattle.btor_core.proofs.Numbering.{kept_body, numbers_below}
use Rattle.btor_core.proofs.draft.Draft.push_bits.Goals as goal

pub push_constant-requires-clause-rises : goal.push_constant-requires-clause-rises
push_constant-requires-clause-rises c =
    let m = c.self.inside.model in
    let e : suc (length m.lines) ≡ length c.lines.result.now + 1 = let h = ap (λ (ls : List Line). length ls) c.lines.ensures in omega arith in
    subst (λ (n : ℕ). All (λ (l : Line). l.nid < n) m.lines) e (numbers_below m.lines c.self.invariant.numbered)

pub invariant_of-self-2 : goal.invariant_of-self-2
invariant_of-self-2 c =
    let m = c.self.inside.model in
    let bits = c.args.bits.now in
    let room : suc (length m.lines) < 2 ^ 32 - 1 = subst (λ (n : BtorOf). suc (length n.lines) < 2 ^ 32 - 1) (sym c.self.view_is) (omega arith) in
    let e : length c.lines.result.now ≡ length m.lines = ap (λ (ls : List Line). length ls) c.lines.ensures in
    rw c.in_ok-push_constant.ensures.ok
    (kept_body m c.self.inside.sorts.items (m.constants ++ bits) (body.Value c.args.sort (length bits) (node.Const (length m.constants))) (length c.lines.result.now + 1) c.self.invariant room (omega arith) refl)
