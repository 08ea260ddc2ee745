use Rattle.std.proofs.Common.{sym, ◌∙◌}
use Rattle.std.proofs.lemmas.Str.{IsCharBoundary-after_ascii}
use Rattle.sby_file.proofs.Prefixes.{tilde_in_front}
use Rattle.sby_file.proofs.prefix.without_tilde.Goals as goal

pub range_from-requires : goal.range_from-requires
range_from-requires c =
    let front = tilde_in_front c.args.word.now (sym c.is_negated.ensures ∙ c.if-is_negated.true) in
    λ _. IsCharBoundary-after_ascii c.args.word.now 0 c.utf8.word front.0 front.1
