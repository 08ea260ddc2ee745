use Rattle.std.proofs.Common.{List, [], ◌∷◌, ◌++◌, ◌∙◌, ap, arith, sym}
use Rattle.std.proofs.lemmas.List.FromFn.{map-range_with_len_more}
use Rattle.sby_terms.specs.declared.names.JobName.{JobName}
use Rattle.sby_terms.specs.declared.names.JobName.TheVariants.{Base, Cover}
use Rattle.judge.proofs.encoding.names_of.Goals as goal

pub loop-i-preserved : goal.loop-i-preserved
loop-i-preserved c =
    c.in_ok-push-in-Bmc.ensures.items
    ∙ (ap (λ (names : List JobName). names ++ Base c.loop-i.i ∷ []) c.loop-i.invariant ∙ sym (map-range_with_len_more Base 0 c.loop-i.i c.loop-i.i (omega arith)))

pub loop-k-preserved : goal.loop-k-preserved
loop-k-preserved c =
    c.in_ok-push-in-Cover.ensures.items
    ∙ (ap (λ (names : List JobName). names ++ Cover c.loop-k.k ∷ []) c.loop-k.invariant ∙ sym (map-range_with_len_more Cover 0 c.loop-k.k c.loop-k.k (omega arith)))
