use Rattle.std.proofs.Common.{◌≡◌, ◌+◌, ◌<◌, ◌-◌, ◌^◌, suc, List, arith, ap, refl, sym, subst, length}
use Rattle.btor_core.specs.Shape.{BtorOf}
use Rattle.btor_core.specs.Growth.{sort_nid}
use Rattle.btor_core.specs.declared.line.Line.{Line}
use Rattle.btor_core.specs.declared.line.Body.TheVariants as body
use Rattle.btor_core.proofs.Numbering.{kept_sort, line_fits, sort_new}
use Rattle.btor_core.proofs.draft.Draft.push_sort.Goals as goal

pub push-requires : goal.push-requires
push-requires c =
    let m = c.self.inside.model in
    let room : suc (length m.lines) < 2 ^ 32 - 1 = subst (λ (n : BtorOf). suc (length n.lines) < 2 ^ 32 - 1) (sym c.self.view_is) (omega arith) in
    let e : length c.lines.result.now ≡ length m.lines = ap (λ (ls : List Line). length ls) c.lines.ensures in
    line_fits m c.self.inside.sorts.items (body.Sort c.args.width) (length c.lines.result.now + 1) c.self.invariant room (omega arith) c.requires.width

pub invariant_of-self-2 : goal.invariant_of-self-2
invariant_of-self-2 c =
    let m = c.self.inside.model in
    let room : suc (length m.lines) < 2 ^ 32 - 1 = subst (λ (n : BtorOf). suc (length n.lines) < 2 ^ 32 - 1) (sym c.self.view_is) (omega arith) in
    let none : sort_nid m.lines c.args.width ≡ 0 = subst (λ (n : BtorOf). sort_nid n.lines c.args.width ≡ 0) (sym c.self.view_is) c.requires.new in
    let e : length c.lines.result.now ≡ length m.lines = ap (λ (ls : List Line). length ls) c.lines.ensures in
    rw c.in_ok-push.ensures.ok
    (kept_sort m c.self.inside.sorts.items c.args.width (length c.lines.result.now + 1) c.self.invariant room (omega arith) c.requires.width.0 c.requires.width.1 none)

pub returns-clause-nid : goal.returns-clause-nid
returns-clause-nid c =
    let m = c.self.inside.model in
    let none : sort_nid m.lines c.args.width ≡ 0 = subst (λ (n : BtorOf). sort_nid n.lines c.args.width ≡ 0) (sym c.self.view_is) c.requires.new in
    let x : Line = record { nid = length c.lines.result.now + 1; body = body.Sort c.args.width } in
    rw c.in_ok-push.ensures.ok (sym (sort_new m.lines x c.args.width c.self.invariant.numbered none refl))
