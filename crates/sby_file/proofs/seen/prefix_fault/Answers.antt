use Rattle.std.proofs.Common.{ap, cond, ◌∙◌, map, string_bytes, sym, take, Some, None}
use Rattle.std.proofs.lemmas.List.{take-map}
use Rattle.sby_file.specs.Meant.{meant}
use Rattle.sby_file.specs.declared.fault.SbyKind.TheVariants.{UnknownTask}
use Rattle.sby_file.proofs.Prefixes.{prefix_verdict}
use Rattle.sby_file.proofs.seen.prefix_fault.Goals as goal

pub returns-then-are_known : goal.returns-then-are_known
returns-then-are_known c =
    let length = c.prefix_length-length in
    let words = c.args.words.now in
    let known = prefix_verdict (meant c.args.declared.now) (map string_bytes words) (map string_bytes (take length.result words)) length.result c.are_known.result length.ensures.count
    c.if-length-eq0.false c.if-not-declared.false c.are_known.ensures (take-map string_bytes length.result words) in
    sym (known ∙ ap (λ b. cond b None (Some UnknownTask)) c.if-are_known.true)

pub returns-else-are_known : goal.returns-else-are_known
returns-else-are_known c =
    let length = c.prefix_length-length in
    let words = c.args.words.now in
    let known = prefix_verdict (meant c.args.declared.now) (map string_bytes words) (map string_bytes (take length.result words)) length.result c.are_known.result length.ensures.count
    c.if-length-eq0.false c.if-not-declared.false c.are_known.ensures (take-map string_bytes length.result words) in
    sym (known ∙ ap (λ b. cond b None (Some UnknownTask)) c.if-are_known.false)
