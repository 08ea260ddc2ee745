use Rattle.std.proofs.Common.{◌∙◌}
use Rattle.lrat_check.proofs.Arena.{match_map}
use Rattle.lrat_check.proofs.Rising.{blank}
use Rattle.lrat_check.proofs.entries.Table.get.Goals as goal

pub returns-in-Some : goal.returns-in-Some
returns-in-Some c =
    let p = c.in-Some.ensures.some in
    match_map c.clause.result _ _ _ _ (λ f. p.has blank ∙ f blank) (λ a f. p.has blank ∙ f blank) c.clause.ensures
