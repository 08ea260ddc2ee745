use Rattle.model_cone.specs.declared.asked.Asked.TheVariants.{Asserts}
use Rattle.inv_law.proofs.Carrying.{shown_in}
use Rattle.inv_law.proofs.laws.invariants_of_slices_rule_out_breaks.Goals as goal

pub returns : goal.returns
returns c m s places p I ism iss slice pair inv n cs a lt shows =
    let r = shown_in m s (λ k ds w. c.slices_have_windows.ensures.run m Asserts s ism iss slice k ds w)
    (λ x y same. c.slices_say_the_same.ensures.assumed m Asserts s slice x y same) (λ x y same k. c.slices_say_the_same.ensures.broken m s slice x y same k) n cs a shows in
    c.invariants_rule_out_breaks.ensures s places p I pair inv n r.0 a lt r.1
