use Rattle.inv_stream.specs.Telling.{sayings}
use Rattle.inv_law.proofs.laws.found_rules_out_breaks.Goals as goal

pub returns : goal.returns
returns c m s places p ended bytes ism iss slice pair found n cs a lt shows =
    let r = c.found_is_a_certificate.ensures p (sayings p.formula.vars ended bytes) found in
    c.invariants_of_slices_rule_out_breaks.ensures m s places p r.0 ism iss slice pair (c.certificates_are_sound.ensures p r.0 r.1) n cs a lt shows
