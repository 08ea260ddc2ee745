use Rattle.std.proofs.Common.{List, ℕ, length, take, refl, ap, ◌∙◌}
use Rattle.std.specs.Cmp.Lexicographic.{other_text}
use Rattle.std.proofs.lemmas.List.{take_at}
use Rattle.pair_reader.proofs.scan.after.Goals as goal

pub returns-else-eq-clause-none : goal.returns-else-eq-clause-none
returns-else-eq-clause-none c =
    λ rest e. other_text c.split_at.result.0.now c.args.text.now c.if-eq.ensures
    (c.split_at.ensures.front ∙ ap (λ (bs : List ℕ). take (length c.args.text.now) bs) e ∙ take_at c.args.text.now rest (length c.args.text.now) refl)
