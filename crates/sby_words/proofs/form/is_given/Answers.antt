use Rattle.std.proofs.Common.{◌∙◌, ap, sym, codes, option_map}
use Rattle.clap.specs.Matches.{found_of}
use Rattle.clap.proofs.WalkLemmas.{first_value-rows}
use Rattle.sby_words.proofs.ListLemmas.{none_given, text_given}
use Rattle.sby_words.proofs.form.is_given.Goals as goal

pub returns-in-Some : goal.returns-in-Some
returns-in-Some c =
    text_given _ _ (codes "true") _ (ap (option_map (λ s. s.now)) (sym c.in-Some.is) ∙ c.get_str.ensures ∙ first_value-rows (found_of c.args.matches.now) c.args.id.now) c.eq.ensures

pub returns-in-None : goal.returns-in-None
returns-in-None c =
    none_given _ (codes "true") (ap (option_map (λ s. s.now)) (sym c.in-None.is) ∙ c.get_str.ensures ∙ first_value-rows (found_of c.args.matches.now) c.args.id.now)
