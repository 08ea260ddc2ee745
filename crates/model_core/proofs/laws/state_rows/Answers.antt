use Rattle.model_core.proofs.Runs.{follows_row, row_follows, row_starts, starts_row}
use Rattle.model_core.proofs.laws.state_rows.Goals as goal

pub returns : goal.returns
returns c = record {
  start = λ m is u row w. ((λ h. starts_row m is u row h.0 h.1), (λ h. row_starts m is u row w h));
  next = λ m is u v. ((λ h. follows_row m is u v h), (λ h. row_follows m is u v h));
}
