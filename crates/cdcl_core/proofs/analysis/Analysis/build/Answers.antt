use Rattle.std.proofs.Common.{◌≡◌, ◌<◌, true, length, get_or, rules, arith, sym, ◌∙◌, subst, inl, inr}
use Rattle.std.specs.Prelude.{Contains}
use Rattle.std.proofs.lemmas.Bool.{cases_eq}
use Rattle.std.proofs.lemmas.List.{get_or_default}
use Rattle.cnf_form.specs.Cnf.{negate}
use Rattle.unit_propagation.specs.Marks.{is_marked}
use Rattle.cdcl_core.proofs.analysis.Analysis.build.Goals as goal

pub loop-k-preserved : goal.loop-k-preserved
loop-k-preserved c =
    let i = c.loop-k.invariant in
    let e = c.in_ok-push_marked.ensures in
    let L = c.args.self.now.lower.items in
    let S = c.args.self.now.seen.items in
    let C = c.push_marked.new.self.clause.items in
    let m = c.index-m.result.now in
    let k = c.loop-k.k in
    let read : m ≡ get_or L k m = search rules in
    let room : k < length L = search rules in
    record {
      seen = e.seen ∙ i.seen;
      lower = e.lower ∙ i.lower;
      current = e.current ∙ i.current;
      first = e.keeps (negate c.args.l) i.first;
      marked = λ j d h q. elim (cases_eq j k) [
        | inl s ↦
            let same : get_or L j d ≡ m = subst (λ z. get_or L z d ≡ m) (sym s) (get_or_default L k d m room ∙ sym read) in
            let on : is_marked S (negate m) ≡ true = subst (λ z. is_marked S (negate z) ≡ true) same q in
            subst (Contains C) (sym same) (e.marked (rw i.seen on))
        | inr ne ↦ e.keeps (get_or L j d) (i.marked j d (omega (arith, h, ne)) q)
      ];
      only = λ x h. elim (e.only x h) [ inl a ↦ i.only x a | inr b ↦ inr (subst (Contains L) b (k, room, sym read)) ];
    }
