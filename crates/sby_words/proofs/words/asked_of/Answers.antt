use Rattle.std.proofs.Common.{◌∙◌, ap}
use Rattle.std.specs.Prelude.{option_map}
use Rattle.std.proofs.lemmas.Result.{IfOk-weaker}
use Rattle.clap.specs.Faults.{is_simple_and_free}
use Rattle.sby_words.specs.Answers.{request_of}
use Rattle.sby_words.proofs.AskedLemmas.{not_taken, taken_answer}
use Rattle.sby_words.proofs.words.asked_of.Goals as goal

pub returns-in-Ok : goal.returns-in-Ok
returns-in-Ok c =
    let is = c.in_ok-command.ensures in
    IfOk-weaker c.asked_by.result _ _
    (λ asked. taken_answer _ _ _ _ is (c.in-Ok.ensures.kinds (ap is_simple_and_free is)) c.in-Ok.ensures.matches (option_map request_of asked)) c.asked_by.ensures

pub returns : goal.returns
returns c = not_taken _ _ c.in_ok-command.ensures (λ taken. c.in_default.not-OutOfMemory (c.kind.ensures ∙ c.in-Err.ensures.passes taken))
