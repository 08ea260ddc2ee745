use Rattle.std.proofs.Common.{◌≡◌, ◌∙◌, [], ◌∷◌, ◌++◌, ap, map, refl, rules, subst}
use Rattle.std.proofs.lemmas.List.{map-append}
use Rattle.sby_top.specs.Shown.{trace_seen}
use Rattle.sby_top.specs.Traces.{HasTrace}
use Rattle.sby_top.specs.declared.traces.Shown.{Shown}
use Rattle.sby_top.proofs.traces.push_run.Goals as goal

pub returns-in_ok-push : goal.returns-in_ok-push
returns-in_ok-push c =
    let value : Shown = record { number = c.args.number; run = c.in-Some.run' } in
    let pushed : c.push.new.self.items ≡ c.args.shown.now.items ++ value ∷ [] = search rules in (
      c.in-Some.ensures.0,
      trace_seen value ∷ [],
      c.in-Some.ensures.1,
      subst (λ o. HasTrace c.args.number o (trace_seen value ∷ [])) c.in-Some.ensures.2 refl,
      ap (map trace_seen) pushed ∙ map-append trace_seen c.args.shown.now.items (value ∷ []),
    )
