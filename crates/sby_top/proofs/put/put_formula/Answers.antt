use Rattle.std.proofs.Common.{◌∙◌, ap₂, List, ℕ}
use Rattle.std.specs.Prelude.{option_map}
use Rattle.design_signals.proofs.RowLemmas.{on_ok}
use Rattle.sby_edge.specs.Files.{put_at}
use Rattle.sby_top.proofs.put.put_formula.Goals as goal

pub returns-clause-ok : goal.returns-clause-ok
returns-clause-ok g c =
    let path = c.as_str.ensures.value ∙ c.in-Ok.ensures in
    on_ok c.put_from.result _ _ (λ put. (
      c.in-Ok-job_file.file,
      c.in-Ok-job_file.ensures,
      put ∙ ap₂ (λ (at text : List ℕ). option_map (put_at at text) (g.F.Files.told c.args.files.now)) path (c.new-text.ensures ∙ c.text.ensures),
    )) c.put_from.ensures.ok
