use Rattle.std.proofs.Common.{◌≡◌, List, ℕ, false, true, set, sym, subst}
use Rattle.std.proofs.lemmas.List.{get_or_read}
use Rattle.model_cone.specs.Marking.{Spreads}
use Rattle.model_cone.proofs.Marks.{spread-one}
use Rattle.model_cone.proofs.marking.mark.Goals as goal

pub returns-in_ok-push : goal.returns-in_ok-push
returns-in_ok-push c =
    let marks = c.args.marking.now.marks.items in
    subst (λ (stack : List ℕ). Spreads (λ p. p ≡ c.args.place) marks c.args.marking.now.stack.items (set marks c.args.place true) stack)
    (sym c.in_ok-push.ensures.items) (spread-one marks c.args.marking.now.stack.items c.args.place c.requires (let e = get_or_read marks c.args.place _ c.requires c.index.ensures false in cc))
