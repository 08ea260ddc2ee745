use Rattle.std.proofs.Common.{[], ◌∷◌, ℕ, List, Some, map, subst}
use Rattle.design_trace.specs.Reading.{Reads, Stops}
use Rattle.design_trace.proofs.Patterns.{matches_literal}
use Rattle.design_trace.proofs.Readings.{goes_on, handed_on, stops_first}
use Rattle.design_trace.proofs.reading.wire_head.Goals as goal

pub returns-in_err-at : goal.returns-in_err-at
returns-in_err-at c = handed_on c.from_residual.result c.in_err-at.field-0.0 _ _ _ c.from_residual.ensures.1
    (λ byte stops. stops_first c.args.bytes.now c.args.at byte (map Some c.args.name.now) (Some 32 ∷ [])
    (subst (λ (t : List ℕ). Stops c.args.bytes.now c.args.at (map Some t) byte) c.as_bytes.ensures.value stops)) c.in_err-at.ensures

pub returns : goal.returns
returns c = goes_on c.args.bytes.now c.args.at c.in_ok-at.at c.args.name.now (32 ∷ []) (map Some c.args.name.now) (Some 32 ∷ []) c.literal-2.result
    (subst (λ (t : List ℕ). Reads c.args.bytes.now c.args.at t c.in_ok-at.at) c.as_bytes.ensures.value c.in_ok-at.ensures) (matches_literal c.args.name.now) c.literal-2.ensures
