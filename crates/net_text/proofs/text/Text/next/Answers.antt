use Rattle.std.proofs.Common.{◌≡◌, ◌+◌, ◌++◌, ◌∙◌, ℕ, List, ap, sym, arith, length, take, drop}
use Rattle.std.proofs.lemmas.List.{length-drop}
use Rattle.net_text.specs.Text.{text_from}
use Rattle.net_text.proofs.Writing.{given_text, slice_left}
use Rattle.net_text.proofs.text.Text.next.Goals as goal

pub returns-clause-piece : goal.returns-clause-piece
returns-clause-piece c =
    let f = c.refill.new.front in
    let count = c.min-count.result in
    let buffer = c.args.buffer.now in
    let rest = text_from c.self.inside.encoded.now f.next in
    let bytes : c.as_bytes.result.now ≡ c.refill.new.front.piece.bytes = c.as_bytes.ensures.value ∙ c.as_str.ensures.value in
    let after : c.copy_from_slice.new.self ≡ take c.min-count.result (drop c.refill.new.front.given c.refill.new.front.piece.bytes) =
    c.copy_from_slice.ensures.after ∙ ap (take count) (slice_left c.as_bytes.result.now f.given) ∙ ap (λ (bs : List ℕ). take count (drop f.given bs)) bytes in
    let left = length-drop f.given c.as_bytes.result.now in
    let whole = ap length (slice_left c.as_bytes.result.now f.given) in
    let long = ap (λ (bs : List ℕ). length (drop f.given bs)) bytes in
    let few = c.min-count.ensures in
    sym c.self.view_is ∙ sym c.refill.ensures.rest ∙ given_text f.piece.bytes rest buffer f.given count (omega arith)
    ∙ ap (λ (xs : List ℕ). take count (xs ++ drop count buffer) ++ (drop (f.given + count) f.piece.bytes ++ rest)) (sym after)
