use Rattle.std.proofs.Common.{rules, ◌≡◌, ◌*◌, ◌+◌, ◌/◌, ◌%◌, ◌^◌, ◌<◌, ◌≤◌, nat_eq, sym, ◌∙◌, ap, arith, length, get_or, List, [], false, ℕ}
use Rattle.sby_bits.specs.Rows.{Row}
use Rattle.model_play.specs.Packed.{words_of}
use Rattle.model_play.proofs.Packing.{length-packed_row, length-packed_rows, packed_row-at, packed_rows-at, word_inside, any_default}
use Rattle.model_play.proofs.kept.Kept.get.Goals as goal

pub overflow_mul-first : goal.overflow_mul-first
overflow_mul-first c =
    let ws = c.self.inside.words.items in
    let n = length-packed_rows ws c.self.inside.width c.self.inside.cycles in
    let v = ap (λ (a : List Row). length a) c.self.view_is in
    let lt : c.args.cycle < c.self.inside.cycles = let r = c.requires.cycle in omega (arith, n, v, r) in
    let row = packed_rows-at ws c.self.inside.width c.self.inside.cycles c.args.cycle [] lt in
    let long = length-packed_row ws c.self.inside.width (c.args.cycle * words_of c.self.inside.width) in
    let seen = ap (λ (a : List Row). length (get_or a c.args.cycle [])) c.self.view_is in
    let same = ap (λ (r : Row). length r) row in
    let below : c.args.place < c.self.inside.width = let r = c.requires.place in omega (arith, r, seen, same, long) in
    let w = c.words_of.ensures in
    let z = ap (λ (x : ℕ). c.args.cycle * x) w in
    let inside = word_inside c.self.inside.width c.self.inside.cycles c.args.cycle c.args.place (length ws) lt below c.self.invariant in
    let most : c.args.cycle * c.words_of.result ≤ length ws = omega (arith, inside, z) in
    search rules

pub overflow_add-first : goal.overflow_add-first
overflow_add-first c =
    let ws = c.self.inside.words.items in
    let n = length-packed_rows ws c.self.inside.width c.self.inside.cycles in
    let v = ap (λ (a : List Row). length a) c.self.view_is in
    let lt : c.args.cycle < c.self.inside.cycles = let r = c.requires.cycle in omega (arith, n, v, r) in
    let row = packed_rows-at ws c.self.inside.width c.self.inside.cycles c.args.cycle [] lt in
    let long = length-packed_row ws c.self.inside.width (c.args.cycle * words_of c.self.inside.width) in
    let seen = ap (λ (a : List Row). length (get_or a c.args.cycle [])) c.self.view_is in
    let same = ap (λ (r : Row). length r) row in
    let below : c.args.place < c.self.inside.width = let r = c.requires.place in omega (arith, r, seen, same, long) in
    let w = c.words_of.ensures in
    let z = ap (λ (x : ℕ). c.args.cycle * x) w in
    let inside = word_inside c.self.inside.width c.self.inside.cycles c.args.cycle c.args.place (length ws) lt below c.self.invariant in
    let most : c.args.cycle * c.words_of.result + c.args.place / 64 ≤ length ws = omega (arith, inside, z) in
    search rules

pub index-requires : goal.index-requires
index-requires c =
    let ws = c.self.inside.words.items in
    let n = length-packed_rows ws c.self.inside.width c.self.inside.cycles in
    let v = ap (λ (a : List Row). length a) c.self.view_is in
    let lt : c.args.cycle < c.self.inside.cycles = let r = c.requires.cycle in omega (arith, n, v, r) in
    let row = packed_rows-at ws c.self.inside.width c.self.inside.cycles c.args.cycle [] lt in
    let long = length-packed_row ws c.self.inside.width (c.args.cycle * words_of c.self.inside.width) in
    let seen = ap (λ (a : List Row). length (get_or a c.args.cycle [])) c.self.view_is in
    let same = ap (λ (r : Row). length r) row in
    let below : c.args.place < c.self.inside.width = let r = c.requires.place in omega (arith, r, seen, same, long) in
    let w = c.words_of.ensures in
    let z = ap (λ (x : ℕ). c.args.cycle * x) w in
    let inside = word_inside c.self.inside.width c.self.inside.cycles c.args.cycle c.args.place (length ws) lt below c.self.invariant in
    let k = c.self.inside.words.ok.0 in
    omega (arith, inside, z, k)

pub returns : goal.returns
returns c =
    let ws = c.self.inside.words.items in
    let n = length-packed_rows ws c.self.inside.width c.self.inside.cycles in
    let v = ap (λ (a : List Row). length a) c.self.view_is in
    let lt : c.args.cycle < c.self.inside.cycles = let r = c.requires.cycle in omega (arith, n, v, r) in
    let row = packed_rows-at ws c.self.inside.width c.self.inside.cycles c.args.cycle [] lt in
    let long = length-packed_row ws c.self.inside.width (c.args.cycle * words_of c.self.inside.width) in
    let seen = ap (λ (a : List Row). length (get_or a c.args.cycle [])) c.self.view_is in
    let same = ap (λ (r : Row). length r) row in
    let below : c.args.place < c.self.inside.width = let r = c.requires.place in omega (arith, r, seen, same, long) in
    let w = c.words_of.ensures in
    let z = ap (λ (x : ℕ). c.args.cycle * x) w in
    let inside = word_inside c.self.inside.width c.self.inside.cycles c.args.cycle c.args.place (length ws) lt below c.self.invariant in
    let e : c.index.result.now ≡ get_or ws (c.args.cycle * words_of c.self.inside.width + c.args.place / 64) 0 =
    c.index.ensures ∙ ap (λ (x : ℕ). get_or ws (x + c.args.place / 64) c.index.result.now) z ∙ any_default ws _ c.index.result.now 0 inside in
    ap (λ (x : ℕ). nat_eq (x / 2 ^ (c.args.place % 64) % 2) 1) e ∙ sym (packed_row-at ws c.self.inside.width (c.args.cycle * words_of c.self.inside.width) c.args.place below)
    ∙ ap (λ (r : Row). get_or r c.args.place false) (sym row) ∙ ap (λ (a : List Row). get_or (get_or a c.args.cycle []) c.args.place false) c.self.view_is
