use Rattle.std.proofs.Common.{◌≡◌, string_bytes, drop, ap, sym, ◌∙◌}
use Rattle.std.proofs.lemmas.List.{take_rest, drop-map}
use Rattle.sby_file.specs.Prefix.{prefix_length}
use Rattle.sby_task.proofs.scope.rest_of.Goals as goal

pub returns : goal.returns
returns c =
    let row = c.args.row.now in
    let n = c.prefix_length-length.result in
    let words = c.as_slice-words.result.now in
    let count : n ≡ prefix_length row.words = c.prefix_length-length.ensures.count ∙ ap prefix_length c.as_slice-words.ensures in
    let behind : c.in_ok-copied_words.field-0 ≡ drop (prefix_length row.words) row.words =
    rw take_rest at c.in_ok-copied_words.ensures ∙ sym (drop-map string_bytes n words) ∙ ap (drop n) c.as_slice-words.ensures ∙ ap (λ k. drop k row.words) count in
    ap (λ ws. record row { words = ws }) behind
