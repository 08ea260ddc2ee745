use Rattle.sby_top.proofs.StoredLemmas.{event_stored}
use Rattle.sby_top.proofs.claims.files_change_by_job_and_trace_files.Goals as goal

pub returns : goal.returns
returns g c = λ before after moments words done task end is. event_stored (g.C.Clock.may_read c.args.clock.now) is.place moments task end is.ran.named
