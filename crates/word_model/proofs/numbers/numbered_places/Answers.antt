use Rattle.std.proofs.Common.{◌≡◌, ◌∙◌, ◌++◌, ℕ, List, ap, append_assoc, sym}
use Rattle.std.proofs.lemmas.List.{map-append}
use Rattle.word_model.specs.Layout.{state_place}
use Rattle.word_model.specs.Numbers.{group_bits, group_places}
use Rattle.word_model.specs.declared.numbers.Group.TheVariants.{Registers, Constants, Initials}
use Rattle.word_model.proofs.numbers.numbered_places.Goals as goal

pub returns : goal.returns
returns c =
    let d = c.args.flat.now in
    let place = state_place d in
    let all : c.push_group-3.new.numbers.items ≡ group_places d Registers ++ (group_places d Constants ++ group_places d Initials) =
    c.in_ok-push_group-3.ensures ∙ ap (λ (l : List ℕ). l ++ group_places d Initials) (c.in_ok-push_group-2.ensures ∙ ap (λ (l : List ℕ). l ++ group_places d Constants) (c.in_ok-push_group.ensures ∙ ap (λ (l : List ℕ). l ++ group_places d Registers) c.new-numbers.ensures.items))
    ∙ append_assoc (group_places d Registers) (group_places d Constants) (group_places d Initials) in
    all ∙ ap (λ (l : List ℕ). group_places d Registers ++ l) (sym (map-append place (group_bits d Constants) (group_bits d Initials)))
    ∙ sym (map-append place (group_bits d Registers) (group_bits d Constants ++ group_bits d Initials))
