use Rattle.std.proofs.Common.{rules, string_bytes}
use Rattle.std.specs.Prelude.{codes}
use Rattle.cdcl_words.proofs.Words.{four_words}
use Rattle.cdcl_words.proofs.serving.read_parts.Goals as goal

pub returns-in-len4-clause-some : goal.returns-in-len4-clause-some
returns-in-len4-clause-some c =
    four_words string_bytes c.args.words.now c.serve-item.result c.address-item.result c.count-item.result c.number-item.result (codes "--serve") (codes "--count") c.in-len4.len_at_least c.in-len4.len_below c.serve-item.is c.address-item.is c.count-item.is c.number-item.is (search rules) (search rules)
