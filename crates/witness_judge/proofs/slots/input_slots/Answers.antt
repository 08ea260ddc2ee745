use Rattle.std.proofs.Common.{◌≡◌, ◌∙◌, ◌<◌, ◌∷◌, [], ◌++◌, ℕ, List, true, ap, sym, arith, get_or, length}
use Rattle.std.proofs.lemmas.List.{map_more}
use Rattle.std.proofs.lemmas.Option.{slice_get-get_or}
use Rattle.btor_witness.specs.declared.shape.Slot.{Slot}
use Rattle.witness_judge.specs.Choosing.{input_slot}
use Rattle.witness_judge.proofs.slots.input_slots.Goals as goal

pub loop-row-preserved : goal.loop-row-preserved
loop-row-preserved c =
    let k = c.loop-row.row in
    let rows = c.args.inputs.now in
    let within : k < length rows = omega arith in
    let wide : c.width.result ≡ length (get_or rows k []) = c.width.ensures (get_or rows k []) (slice_get-get_or rows k [] within) in
    let more = map_more input_slot rows k [] within in
    c.in_ok-push.ensures.ok ∙ ap (λ (n : ℕ). c.loop-row.slots ++ record { width = n; is_open = true } ∷ []) wide
    ∙ ap (λ (ss : List Slot). ss ++ input_slot (get_or rows k []) ∷ []) c.loop-row.invariant ∙ sym more
