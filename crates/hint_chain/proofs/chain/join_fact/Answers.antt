use Rattle.std.proofs.Common.{◌≡◌, true, ◌∷◌, [], sym, ◌∙◌, subst}
use Rattle.std.proofs.lemmas.Bool.{both_ways}
use Rattle.std.proofs.lemmas.Result.{on_ok_weaker}
use Rattle.std.specs.Prelude.{Contains}
use Rattle.cnf_form.specs.Cnf.{negate}
use Rattle.lrat_check.specs.Marks.{is_marked}
use Rattle.hint_chain.proofs.Chaining.{fact_id, goes_joins, leaves_fact}
use Rattle.hint_chain.proofs.chain.join_fact.Goals as goal

pub returns-clause-goes : goal.returns-clause-goes
returns-clause-goes c =
    let l = c.args.l in
    let t = c.args.marked.now.trail.items in
    let m = c.requires.marked in
    let off : Contains t (negate l) → ⊥ = λ h. both_ways _ (sym c.has-else-has.ensures ∙ c.if-has-2.false) (subst (λ z. is_marked c.args.marked.now.marks.items z ≡ true) (sym c.negate.ensures) (m.marked (negate l) h)) in
    on_ok_weaker c.push.result (λ e slots. goes_joins slots c.args.ids.now c.args.hints.now.items c.push_hint.new.hints.items t c.push.new.self.trail.items c.fact-id.result (l ∷ []) l
    (fact_id slots c.args.ids.now l c.fact-id.result c.fact-id.ensures c.if-id-eq0.false) (leaves_fact t l off) c.in_ok-push_hint.ensures.ok e) c.push.ensures.trail
