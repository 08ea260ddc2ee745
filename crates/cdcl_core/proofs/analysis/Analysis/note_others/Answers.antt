use Rattle.std.proofs.Common.{◌≡◌, true, get_or, rules, arith, sym, ◌∙◌, subst, inl, inr}
use Rattle.std.specs.Prelude.{Contains, Ok}
use Rattle.std.proofs.lemmas.Bool.{cases_eq}
use Rattle.std.proofs.lemmas.List.{get_or_default}
use Rattle.cnf_form.proofs.Literals.{same_by_eq}
use Rattle.cnf_form.proofs.Members.{Contains-read}
use Rattle.cdcl_core.specs.Analysis.{IsSeenOrRoot}
use Rattle.cdcl_core.proofs.Analyses.{noted_keeps}
use Rattle.cdcl_core.proofs.analysis.Analysis.note_others.Goals.{then-eq, else-eq}
use Rattle.cdcl_core.proofs.analysis.Analysis.note_others.Goals as goal

pub loop-m-preserved : goal.loop-m-preserved
loop-m-preserved c =
    let i = c.loop-m.invariant in
    let b = c.note_but.ensures in
    let clause = c.args.clause.now in
    let m = c.m-item.result in
    let ok : c.note_but.result ≡ Ok true = search rules in
    let room = c.loop-m-test.true in
    record {
      sized = b.sized;
      listed = λ w. b.listed (i.listed w);
      keeps = λ x h. b.keeps x (i.keeps x h);
      found = elim c.if-eq.branch [
        | then-eq w ↦ (λ h. subst (Contains clause) (same_by_eq m c.args.but (sym c.eq.ensures ∙ w.if-eq.true)) (Contains-read clause c.loop-m.m-index m room c.m-item.is))
        | else-eq w ↦ (λ h. i.found (sym w.found-is ∙ h))
      ];
      noted = λ j d h n. elim (cases_eq j c.loop-m.m-index) [
        | inl e ↦
            let read : get_or clause j d ≡ m = subst (λ z. get_or clause z d ≡ m) (sym e) (get_or_default clause c.loop-m.m-index d m room ∙ sym c.m-item.is) in
            subst (IsSeenOrRoot c.args.core.now.trail c.args.root c.note_but.new.self.seen.items) (sym read) (b.noted ok (λ q. n (read ∙ q)))
        | inr ne ↦ noted_keeps c.args.core.now.trail c.args.root c.loop-m.self.seen.items c.note_but.new.self.seen.items (get_or clause j d) b.keeps (i.noted j d (omega (arith, h, ne)) n)
      ];
    }
