use Rattle.std.proofs.Common.{◌≡◌, ◌<◌, ◌+◌, ◌++◌, ◌∷◌, [], List, length, take, get_or, sym, ◌∙◌, ap, subst, rules, arith}
use Rattle.std.specs.Prelude.{Contains, Some, None, filter}
use Rattle.std.proofs.lemmas.List.{get_or_default}
use Rattle.lrat_check.specs.declared.entries.Slot.{Slot}
use Rattle.lrat_check.specs.Table.{Entry}
use Rattle.lrat_check.specs.Arena.{entries_of}
use Rattle.lrat_check.proofs.Arena.{size_entries, read_entry, entry_is}
use Rattle.lrat_check.proofs.Rising.{blank, has, live_before, live_more, live_same}
use Rattle.lrat_check.proofs.entries.Table.live.Goals.{in-Some+in_ok-push, in_default}
use Rattle.lrat_check.proofs.entries.Table.live.Goals as goal

pub push-requires : goal.push-requires
push-requires c = λ f h.
    let lits = c.self.inside.lits.items in
    let slots = c.self.inside.slots.items in
    let i = c.self.invariant in
    let es : List Entry = entries_of lits slots in
    let k = c.loop-place.place in
    let room : k < length slots = search rules in
    let wide : k < length es = omega (arith, room, size_entries lits slots) in
    let e : Entry = get_or es k blank in
    let is : e ≡ get_or es k e = get_or_default es k blank e wide in
    let so_far : c.loop-place.live ≡ filter has (take k es) = c.loop-place.invariant ∙ ap (λ z. filter has (take k z)) (sym c.self.view_is) in
    let s = c.index.result.now in
    let same : e.id ≡ s.id = ap (λ (z : Entry). z.id) (read_entry lits slots k s blank room) ∙ ap (λ (z : Slot). z.id) (sym c.index.ensures) in
    let lt = live_before es k e wide is i.rising f (subst (λ z. Contains z f) so_far h) in
    omega (arith, lt, same)

pub loop-place-preserved : goal.loop-place-preserved
loop-place-preserved c =
    let lits = c.self.inside.lits.items in
    let slots = c.self.inside.slots.items in
    let i = c.self.invariant in
    let es : List Entry = entries_of lits slots in
    let k = c.loop-place.place in
    let room : k < length slots = search rules in
    let wide : k < length es = omega (arith, room, size_entries lits slots) in
    let e : Entry = get_or es k blank in
    let is : e ≡ get_or es k e = get_or_default es k blank e wide in
    let so_far : c.loop-place.live ≡ filter has (take k es) = c.loop-place.invariant ∙ ap (λ z. filter has (take k z)) (sym c.self.view_is) in
    elim c.match-clause.branch [
      | in-Some+in_ok-push w ↦
          let s = w.index.result.now in
          let cl = w.in-Some.clause.now in
          let x : Entry = record { id = s.id; clause = Some cl } in
          let here : e.clause ≡ Some cl = subst (λ (z : List Entry). (get_or z k blank).clause ≡ Some cl) (sym c.self.view_is) (w.in-Some.ensures blank) in
          let same : e.id ≡ s.id = ap (λ (z : Entry). z.id) (read_entry lits slots k s blank room) ∙ ap (λ (z : Slot). z.id) (sym w.index.ensures) in
          rw w.live-is (w.in_ok-push.ensures.entries ∙ ap (λ z. z ++ x ∷ []) so_far ∙ ap (λ (z : Entry). filter has (take k es) ++ z ∷ []) (sym (entry_is e s.id (Some cl) same here))
          ∙ sym (live_more es k e wide is cl here) ∙ ap (λ z. filter has (take (k + 1) z)) c.self.view_is)
      | in_default w ↦
          let none : e.clause ≡ None = subst (λ (z : List Entry). (get_or z k blank).clause ≡ None) (sym c.self.view_is) (w.in_default.ensures blank) in
          rw w.live-is (so_far ∙ sym (live_same es k e wide is none) ∙ ap (λ z. filter has (take (k + 1) z)) c.self.view_is)
    ]
