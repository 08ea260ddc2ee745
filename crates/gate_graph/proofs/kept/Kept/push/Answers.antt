use Rattle.std.proofs.Common.{◌≡◌, ◌+◌, ◌∷◌, [], drop, length, ap, sym, ◌∙◌, arith}
use Rattle.std.proofs.lemmas.List.{length-append}
use Rattle.gate_graph.specs.Places.{IsTable}
use Rattle.gate_graph.proofs.Linking.{table_more, table_push, take_front}
use Rattle.gate_graph.proofs.kept.Kept.push.Goals as goal

pub invariant_of-self-in_err-push-2 : goal.invariant_of-self-in_err-push-2
invariant_of-self-in_err-push-2 c =
    let s = c.self-2 in
    rw (c.in_ok-push.ensures.items, c.in_err-push-2.ensures.items) (table_more s.inside.heads.items s.inside.links.items s.inside.entries.items s.invariant 0)

pub link-requires : goal.link-requires
link-requires c =
    let s = c.self-2 in
    let p = s.invariant.places in
    let f = c.if-count-len.false in
    let m = p.many in
    let h : c.len-3.result ≡ length s.inside.heads.items = c.len-3.ensures ∙ s.inside.heads.ok.0 in
    let n : c.len-count.result ≡ length s.inside.entries.items = c.len-count.ensures ∙ s.inside.entries.ok.0 in
    let k : length c.push.new.self.items ≡ length s.inside.links.items + 1 = ap length c.in_ok-push.ensures.items ∙ length-append s.inside.links.items (0 ∷ []) in
    record { places = rw (c.deref_mut.ensures.value, c.deref_mut-2.ensures.value) (record { some = p.some; few = p.few; room = omega arith; many = omega arith }) }

pub invariant_of-self-2 : goal.invariant_of-self-2
invariant_of-self-2 c =
    let s = c.self-2 in
    let heads = s.inside.heads in
    let links = c.push.new.self in
    let entries = s.inside.entries in
    let n : c.len-count.result ≡ length entries.items = c.len-count.ensures ∙ entries.ok.0 in
    let size : length c.link.new.heads ≡ length heads.items = c.link.ensures.size ∙ ap length c.deref_mut.ensures.value in
    let chains : length c.link.new.links ≡ length links.items = c.link.ensures.chains ∙ ap length c.deref_mut-2.ensures.value in
    let h = take_front c.link.new.heads (drop (length c.link.new.heads) heads.items) heads.len (heads.ok.0 ∙ sym size) in
    let l = take_front c.link.new.links (drop (length c.link.new.links) links.items) links.len (links.ok.0 ∙ sym chains) in
    let table : IsTable heads.items links.items entries.items = rw c.in_ok-push.ensures.items (table_more heads.items s.inside.links.items entries.items s.invariant 0) in
    rw (h, l, c.in_ok-push-2.ensures.items)
    (table_push heads.items links.items entries.items table c.link.new.heads c.link.new.links c.args.gate c.args.l (rw n at c.link.ensures.places) size
    (rw (c.deref_mut.ensures.value, c.deref_mut-2.ensures.value, n) at c.link.ensures.linked))
