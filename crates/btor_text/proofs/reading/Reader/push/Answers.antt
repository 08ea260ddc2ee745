use Rattle.std.proofs.Common.{Ok, Err}
use Rattle.std.specs.Prelude.{OnOk}
use Rattle.std.specs.BTreeSet as tree
use Rattle.std.specs.Ordering.{nat_cmp}
use Rattle.std.specs.declared.result.Result.{Result}
use Rattle.btor_text.specs.Form.{saying}
use Rattle.btor_text.proofs.Tying.{init_no_next, inits_grow, inits_keep, next_no_init, nexts_grow, nexts_keep, no_init, no_next}
use Rattle.btor_text.proofs.reading.Reader.push.Goals as goal

on_ok : {A E P Q : Type 0} → (r : Result A E) → (P → Q) → OnOk r P → OnOk r Q
on_ok (Ok x) f h = f h
on_ok (Err e) f h = tt

pub returns-in-Init-clause-ties : goal.returns-in-Init-clause-ties
returns-in-Init-clause-ties c =
    let old = c.args.self.now in
    let x = saying c.args.said.now in
    on_ok c.insert.result (λ adds. record {
      started = rw c.in_ok-push_line.ensures (inits_grow old.model x (tree.contains nat_cmp old.started) (tree.contains nat_cmp c.insert.new.states) c.in-Init.field-0 c.in-Init.state c.in-Init.field-2 c.in-Init.is c.requires.ties.started adds);
      followed = rw c.in_ok-push_line.ensures (nexts_keep old.model x (tree.contains nat_cmp old.followed) (init_no_next x.body c.in-Init.field-0 c.in-Init.state c.in-Init.field-2 c.in-Init.is) c.requires.ties.followed);
    }) c.insert.ensures

pub returns-in-Next-clause-ties : goal.returns-in-Next-clause-ties
returns-in-Next-clause-ties c =
    let old = c.args.self.now in
    let x = saying c.args.said.now in
    on_ok c.insert-in-Next.result (λ adds. record {
      started = rw c.in_ok-push_line.ensures (inits_keep old.model x (tree.contains nat_cmp old.started) (next_no_init x.body c.in-Next.field-0 c.in-Next.state c.in-Next.field-2 c.in-Next.is) c.requires.ties.started);
      followed = rw c.in_ok-push_line.ensures (nexts_grow old.model x (tree.contains nat_cmp old.followed) (tree.contains nat_cmp c.insert-in-Next.new.states) c.in-Next.field-0 c.in-Next.state c.in-Next.field-2 c.in-Next.is c.requires.ties.followed adds);
    }) c.insert-in-Next.ensures

pub returns-in_default : goal.returns-in_default
returns-in_default c =
    let old = c.args.self.now in
    let x = saying c.args.said.now in
    record {
      model = c.in_ok-push_line.ensures;
      ties = record {
        started = rw c.in_ok-push_line.ensures (inits_keep old.model x (tree.contains nat_cmp old.started) (no_init x.body c.in_default.not-Init) c.requires.ties.started);
        followed = rw c.in_ok-push_line.ensures (nexts_keep old.model x (tree.contains nat_cmp old.followed) (no_next x.body c.in_default.not-Next) c.requires.ties.followed);
      };
    }
