use Rattle.std.proofs.Common.{rules, ◌≡◌, All, length, sym, subst, ◌∙◌, ap}
use Rattle.cnf_form.specs.Cnf.{LitWithin}
use Rattle.net_unroll.specs.Making.{moved}
use Rattle.net_unroll.proofs.Stepping.{moved_size, moved_within}
use Rattle.net_unroll.proofs.making.move_all.Goals as goal

pub returns-clause-making : goal.returns-clause-making
returns-clause-making c =
    let w = c.requires.making in
    let t = c.args.made.now.table.items in
    let e : c.write.new.table.items ≡ moved c.args.made.now.table.items c.args.moves.now c.args.made.now.table.items = search rules in
    record {
      most = w.most;
      size = ap length e ∙ moved_size t t c.args.moves.now;
      table = subst (All (LitWithin c.args.made.now.gates.formula.vars)) (sym e) (moved_within c.args.made.now.gates.formula.vars t t c.args.moves.now w.table w.table c.requires.lits);
      assumed = w.assumed;
      ok = w.ok;
      goals = w.goals;
      free = w.free;
    }
