use Rattle.std.proofs.Common.{ap, sym, ◌∙◌, Some}
use Rattle.std.proofs.lemmas.List.{append-nil}
use Rattle.sby_task.specs.Values.{statuses_from, pieces_of, later_pieces}
use Rattle.sby_task.proofs.Statuses.{prepended, nothing_prepended, status_more, status_none}
use Rattle.sby_task.proofs.values.statuses_of.Goals as goal

pub pieces-init : goal.pieces-init
pieces-init c =
    ap (λ front. prepended front (statuses_from (pieces_of c.as_str.result.now))) c.new-statuses.ensures.items
    ∙ nothing_prepended (statuses_from (pieces_of c.as_str.result.now))
    ∙ ap (λ text. statuses_from (pieces_of text)) (c.as_str.ensures.value ∙ c.in_ok-text.ensures)

pub returns-in_default-2 : goal.returns-in_default-2
returns-in_default-2 c =
    let front = c.pieces.statuses.items in
    let first = c.first_piece.result in
    let open_pieces = ap (λ r. prepended front (statuses_from (later_pieces r))) c.in-Some.is in
    let none = status_none front first.0.now (later_pieces first.1) (pieces_of c.in-Some.pieces.now) c.first_piece.ensures.pieces (sym c.in_default-2.is ∙ c.in_ok-status.ensures) in
    sym (sym c.pieces.invariant ∙ open_pieces ∙ none)

pub pieces-preserved : goal.pieces-preserved
pieces-preserved c =
    let front = c.pieces.statuses.items in
    let first = c.first_piece.result in
    let open_pieces = ap (λ r. prepended front (statuses_from (later_pieces r))) c.in-Some.is in
    let more = status_more front c.push.new.self.items c.in-Some-2.status first.0.now (later_pieces first.1) (pieces_of c.in-Some.pieces.now) c.first_piece.ensures.pieces
    (sym c.in-Some-2.is ∙ c.in_ok-status.ensures) c.in_ok-push.ensures.items in
    sym more ∙ sym open_pieces ∙ c.pieces.invariant

pub returns : goal.returns
returns c =
    let front = c.pieces.statuses.items in
    let over = ap (λ r. prepended front (statuses_from (later_pieces r))) c.in_default.is in
    ap Some (c.new.ensures ∙ sym (append-nil front)) ∙ sym over ∙ c.pieces.invariant
