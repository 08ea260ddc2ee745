use Rattle.std.proofs.Common.{◌≡◌, ◌∙◌, Bool, List, ap, refl, sym, subst}
use Rattle.model_core.specs.Choices.{ChoicesOf}
use Rattle.job_terms.specs.Decoding.{values_of}
use Rattle.job_terms.specs.Encoding.{decoded}
use Rattle.net_jobs.specs.Reading.{encoded_of}
use Rattle.task_net.specs.Net.{TaskNetOf, task_encoded}
use Rattle.task_net.specs.Spreading.{spread_choices}
use Rattle.task_net.proofs.Playing.{spread-decoded}
use Rattle.task_net.proofs.net.TaskNet.decode.Goals as goal

same : {a b c d : List Bool} {x y : ChoicesOf} → a ≡ b → c ≡ d → x ≡ y → spread_choices a c x ≡ spread_choices b d y
same e f g = rw (e, f, g) refl

pub returns : goal.returns
returns c =
    let x = values_of c.args.values.now in
    let t = c.self.inside in
    c.in_ok-spread.ensures
    ∙ same c.deref.ensures.value c.deref-2.ensures.value c.in_ok-choices.ensures
    ∙ sym (spread-decoded t.starts.items t.inputs.items (encoded_of t.net c.args.job c.args.span).decoding x)
    ∙ ap (λ (n : TaskNetOf). decoded (task_encoded n c.args.job c.args.span) x) c.self.view_is
