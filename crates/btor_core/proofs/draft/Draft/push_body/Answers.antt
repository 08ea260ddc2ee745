use Rattle.std.proofs.Common.{◌≡◌, ◌+◌, ◌<◌, ◌-◌, ◌^◌, suc, List, arith, ap, sym, subst, length}
use Rattle.btor_core.specs.Shape.{BtorOf}
use Rattle.btor_core.specs.Fits.{BodyFits}
use Rattle.btor_core.specs.declared.line.Line.{Line}
use Rattle.btor_core.proofs.Numbering.{kept_body, line_fits}
use Rattle.btor_core.proofs.draft.Draft.push_body.Goals as goal

pub push-requires : goal.push-requires
push-requires c =
    let m = c.self.inside.model in
    let room : suc (length m.lines) < 2 ^ 32 - 1 = subst (λ (n : BtorOf). suc (length n.lines) < 2 ^ 32 - 1) (sym c.self.view_is) (omega arith) in
    let fits = subst (λ (n : BtorOf). BodyFits n.constants n.lines c.args.body) (sym c.self.view_is) c.requires.fits in
    let e : length c.lines.result.now ≡ length m.lines = ap (λ (ls : List Line). length ls) c.lines.ensures in
    line_fits m c.self.inside.sorts.items c.args.body (length c.lines.result.now + 1) c.self.invariant room (omega arith) fits

pub invariant_of-self-2 : goal.invariant_of-self-2
invariant_of-self-2 c =
    let m = c.self.inside.model in
    let room : suc (length m.lines) < 2 ^ 32 - 1 = subst (λ (n : BtorOf). suc (length n.lines) < 2 ^ 32 - 1) (sym c.self.view_is) (omega arith) in
    let e : length c.lines.result.now ≡ length m.lines = ap (λ (ls : List Line). length ls) c.lines.ensures in
    rw c.in_ok-push.ensures.ok (kept_body m c.self.inside.sorts.items m.constants c.args.body (length c.lines.result.now + 1) c.self.invariant room (omega arith) c.requires.plain)
