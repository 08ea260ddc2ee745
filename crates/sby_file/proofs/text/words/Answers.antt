use Rattle.std.proofs.Common.{arith, rules, ◌≡◌, ◌∷◌, ◌++◌, [], false, eqb, length, refl, map, string_bytes}
use Rattle.std.proofs.lemmas.List.{map-append}
use Rattle.sby_file.proofs.Runs.{words_begin, word_more, word_less}
use Rattle.sby_file.proofs.text.words.Goals as goal

pub loop-rest-init : goal.loop-rest-init
loop-rest-init c =
    let b = words_begin c.args.text.now c.front_trimmed-rest.result.now c.front_trimmed-rest.ensures in
    (c.front_trimmed-rest.utf8, rw c.new-words.ensures.items b.0, b.1)

pub loop-rest-smaller : goal.loop-rest-smaller
loop-rest-smaller c =
    let some : eqb (length c.loop-rest.rest.now) 0 ≡ false = search rules in
    let r = c.front_trimmed-rest-in-loop-rest in
    word_less c.loop-rest.rest.now c.split_at.result.1.now r.result.now c.visible_before.result c.loop-rest.invariant.2 some c.visible_before.ensures.count c.visible_before.ensures.within (omega arith) r.ensures

pub loop-rest-preserved : goal.loop-rest-preserved
loop-rest-preserved c =
    let some : eqb (length c.loop-rest.rest.now) 0 ≡ false = search rules in
    let r = c.front_trimmed-rest-in-loop-rest in
    let grown : map string_bytes c.push.new.self.items ≡ map string_bytes c.loop-rest.words.items ++ c.split_at.result.0.now ∷ [] = rw (c.in_ok-push.ensures.items, map-append, c.in_ok-from_str.ensures.ok) refl in (
      r.utf8,
      word_more _ _ _ c.loop-rest.rest.now c.split_at.result.0.now c.split_at.result.1.now r.result.now c.visible_before.result c.loop-rest.invariant.1 c.loop-rest.invariant.2 some
          c.visible_before.ensures.count c.split_at.ensures.front c.split_at.ensures.back r.ensures grown,
      (words_begin c.split_at.result.1.now r.result.now r.ensures).1,
    )
