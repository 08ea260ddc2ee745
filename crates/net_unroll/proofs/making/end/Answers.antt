use Rattle.std.proofs.Common.{rules, ◌≡◌, ◌<◌, ◌≤◌, ℕ, sym, subst, ◌∙◌, ap, arith, Err, All, length}
use Rattle.std.proofs.lemmas.List.Elements.{All-push}
use Rattle.cnf_form.specs.Cnf.{LitOf, LitWithin}
use Rattle.cnf_form.specs.declared.literal.TheConstants.{MAX_VARS}
use Rattle.gate_graph.specs.declared.gates.GateFault.{GateFault}
use Rattle.net_unroll.specs.Making.{both, core_of, over}
use Rattle.net_unroll.proofs.Stepping.{both_grows, raise}
use Rattle.net_unroll.proofs.making.end.Goals as goal

pub returns-in-Err-clause-too_many : goal.returns-in-Err-clause-too_many
returns-in-Err-clause-too_many c h =
    let m = c.args.made.now in
    let here : c.over-here.result ≡ over c.args.made.now.table.items c.args.lit = search rules in
    let f : c.in-Err.fault ≡ GateFault.TooMany = cc in
    let p = c.in-Err.ensures.too_many (ap Err f) in
    let q = subst (λ (n : ℕ). n < (both (core_of m.gates) m.ok c.over-here.result).0.vars) c.requires.making.most p in
    let r : MAX_VARS < (both (core_of c.args.made.now.gates) c.args.made.now.ok (over c.args.made.now.table.items c.args.lit)).0.vars = subst (λ (l : LitOf). MAX_VARS < (both (core_of m.gates) m.ok l).0.vars) here q in
    let first = both (core_of m.gates) m.ok (over m.table.items c.args.lit) in
    let g = both_grows first.0 m.assumed first.1 in
    omega arith

pub returns-clause-making : goal.returns-clause-making
returns-clause-making c =
    let w = c.requires.making in
    let m = c.args.made.now in
    let a = c.in-Ok.ensures in
    let b = c.in-Ok-settle_both.ensures in
    let one = a.grows in
    let two = b.grows in
    let up : c.args.made.now.gates.formula.vars ≤ c.settle_both-2.new.gates.formula.vars = omega arith in
    let r = raise (length m.table.items) m c.settle_both-2.new.gates w up (b.most ∙ a.most) in
    record {
      most = r.most;
      size = r.size;
      table = r.table;
      assumed = r.assumed;
      ok = r.ok;
      goals = subst (All (LitWithin c.settle_both-2.new.gates.formula.vars)) (sym c.in_ok-push_lit.ensures) (All-push (LitWithin c.settle_both-2.new.gates.formula.vars) m.goals.items c.in-Ok-settle_both.goal r.goals b.within);
      free = r.free;
    }
