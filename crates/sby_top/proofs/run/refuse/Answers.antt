use Rattle.std.proofs.Common.{refl, rules}
use Rattle.std.specs.Prelude.{string_bytes}
use Rattle.sby_top.specs.Run.{refused_request}
use Rattle.sby_top.proofs.RunLemmas.{fault_refused}
use Rattle.sby_top.proofs.run.refuse.Goals as goal

pub returns : goal.returns
returns g c = λ told faults blamed yard got pool. let h = c.finish_fault.ensures in
    fault_refused _ (string_bytes c.args.name) c.args.early c.finish_fault.result.0 _ h.end h.unput (h.told (refused_request (string_bytes c.args.name)) refl refl (search rules)) (refl, refl) refl h.later
