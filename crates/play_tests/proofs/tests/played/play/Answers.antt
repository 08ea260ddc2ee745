use Rattle.std.proofs.Common.{rules, ap, length, subst, sym, ◌∙◌}
use Rattle.std.specs.Prelude.{All, IsSome}
use Rattle.model_core.specs.Shape.{ModelOf, states}
use Rattle.play_tests.proofs.Starting.{none_open}
use Rattle.play_tests.proofs.tests.played.play.Goals as goal

pub begin-requires : goal.begin-requires
begin-requires c =
    let m = c.in_ok-player.player.model in
    let same = c.starts.ensures ∙ sym (ap (λ (m : ModelOf). m.starts) c.in_ok-player.ensures.model) in
    let all : All IsSome m.starts = subst (All IsSome) same (c.all_start.ensures (search rules)) in
    sym (ap length (none_open (states m) m.starts all))
