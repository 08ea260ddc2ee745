use Rattle.std.proofs.Common.{◌++◌, ◌∙◌, List, ℕ, ap, sym, take}
use Rattle.std.proofs.lemmas.List.{append_cancel_left}
use Rattle.pair_reader.proofs.reader.is_text.Goals as goal

pub pieces-preserved : goal.pieces-preserved
pieces-preserved c =
    let w = c.pieces.invariant in
    let piece = take c.next-count.result c.next-count.new.buffer in (
      λ e. append_cancel_left piece c.next-count.new.self c.in-Some.more.now (sym c.next-count.ensures.piece ∙ w.0 e ∙ c.in-Some.ensures.some),
      λ e. w.1 (c.next-count.ensures.piece ∙ ap (λ (t : List ℕ). piece ++ t) e ∙ sym c.in-Some.ensures.some),
    )
