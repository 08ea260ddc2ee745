use Rattle.std.proofs.Common.{rules, ◌≡◌, ◌∙◌, ap₂}
use Rattle.std.proofs.lemmas.Result.{IfOk-weaker}
use Rattle.clap.specs.Walk.{rule_of}
use Rattle.clap.specs.Simple.{with_rule}
use Rattle.sby_words.specs.Command.{word_list}
use Rattle.sby_words.proofs.command.command.Goals as goal

pub returns : goal.returns
returns c =
    let words : rule_of c.action-words.result ≡ word_list = search rules in
    IfOk-weaker c.arg-7.result _ _ (λ built last. last.shape (search rules)
    ∙ ap₂ with_rule (c.in_ok-arg-6.ensures.shape c.long_flag-3.ensures.local
    ∙ ap₂ with_rule (c.in_ok-arg-5.ensures.shape c.long_flag-2.ensures.local
    ∙ ap₂ with_rule (c.in_ok-arg-4.ensures.shape c.long_flag.ensures.local
    ∙ ap₂ with_rule (c.in_ok-arg-3.ensures.shape c.short_option-2.ensures.local
    ∙ ap₂ with_rule (c.in_ok-arg-2.ensures.shape c.short_option.ensures.local
    ∙ ap₂ with_rule (c.in_ok-arg.ensures.shape c.short_flag.ensures.local
    ∙ ap₂ with_rule c.bare.ensures c.short_flag.ensures.rule) c.short_option.ensures.rule) c.short_option-2.ensures.rule) c.long_flag.ensures.rule) c.long_flag-2.ensures.rule) c.long_flag-3.ensures.rule) words) c.arg-7.ensures
