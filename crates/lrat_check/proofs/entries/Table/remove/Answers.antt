use Rattle.std.proofs.Common.{◌≡◌, ◌<◌, ℕ, List, length, set, sym, ◌∙◌, ap, subst, arith}
use Rattle.std.specs.Prelude.{None}
use Rattle.lrat_check.specs.declared.entries.Slot.{Slot}
use Rattle.lrat_check.specs.Hints.{put}
use Rattle.lrat_check.specs.Table.{Entry, IsPlaceOf, IsRising, IsUpto, found, held}
use Rattle.lrat_check.specs.Arena.{entries_of}
use Rattle.lrat_check.proofs.Arena.{size_entries, read_entry, entries_set, arena_set}
use Rattle.lrat_check.proofs.Rising.{blank, cleared, held_cleared, held_gone}
use Rattle.lrat_check.proofs.entries.Table.remove.Goals as goal

-- what is known of the entries once the one at a place has lost its clause
abbrev IsCleared : List Entry → ℕ → ℕ → ℕ → Type 0
IsCleared es id k n = IsRising (set es k (record { id = n; clause = None })) × ((m : ℕ) → found (set es k (record { id = n; clause = None })) m ≡ put (found es) id None m)
    × ((last : ℕ) → IsUpto es last → IsUpto (set es k (record { id = n; clause = None })) last)

pub invariant_of-self : goal.invariant_of-self
invariant_of-self c =
    let lits = c.self.inside.lits.items in
    let slots = c.self.inside.slots.items in
    let i = c.self.invariant in
    let es : List Entry = entries_of lits slots in
    let k = c.in-Some.place in
    let s = c.index_mut.result.now in
    let p : IsPlaceOf es c.args.id k = subst (λ z. IsPlaceOf z c.args.id k) (sym c.self.view_is) c.in-Some.ensures.some in
    let room : k < length slots = omega (arith, p.within, size_entries lits slots) in
    let same : s.id ≡ c.args.id = ap (λ (z : Slot). z.id) c.index_mut.ensures.value ∙ sym (ap (λ (z : Entry). z.id) (read_entry lits slots k s blank room)) ∙ p.at blank in
    let w = subst (IsCleared es c.args.id k) (sym same) (cleared es c.args.id k i.rising p) in
    arena_set lits slots i k s.id w.0 room

pub returns-clause-held : goal.returns-clause-held
returns-clause-held c = λ n.
    let lits = c.self.inside.lits.items in
    let slots = c.self.inside.slots.items in
    let i = c.self.invariant in
    let es : List Entry = entries_of lits slots in
    let k = c.in-Some.place in
    let s = c.index_mut.result.now in
    let p : IsPlaceOf es c.args.id k = subst (λ z. IsPlaceOf z c.args.id k) (sym c.self.view_is) c.in-Some.ensures.some in
    let room : k < length slots = omega (arith, p.within, size_entries lits slots) in
    let same : s.id ≡ c.args.id = ap (λ (z : Slot). z.id) c.index_mut.ensures.value ∙ sym (ap (λ (z : Entry). z.id) (read_entry lits slots k s blank room)) ∙ p.at blank in
    let w = subst (IsCleared es c.args.id k) (sym same) (cleared es c.args.id k i.rising p) in
    c.collect.ensures.held n ∙ ap (λ z. held z n) (entries_set lits slots i k s.id) ∙ held_cleared es (set es k (record { id = s.id; clause = None })) c.args.id i.rising w.0 w.1 n ∙ ap (λ z. put (held z) c.args.id None n) c.self.view_is

pub returns-clause-ids : goal.returns-clause-ids
returns-clause-ids c = λ last up.
    let lits = c.self.inside.lits.items in
    let slots = c.self.inside.slots.items in
    let i = c.self.invariant in
    let es : List Entry = entries_of lits slots in
    let k = c.in-Some.place in
    let s = c.index_mut.result.now in
    let p : IsPlaceOf es c.args.id k = subst (λ z. IsPlaceOf z c.args.id k) (sym c.self.view_is) c.in-Some.ensures.some in
    let room : k < length slots = omega (arith, p.within, size_entries lits slots) in
    let same : s.id ≡ c.args.id = ap (λ (z : Slot). z.id) c.index_mut.ensures.value ∙ sym (ap (λ (z : Entry). z.id) (read_entry lits slots k s blank room)) ∙ p.at blank in
    let w = subst (IsCleared es c.args.id k) (sym same) (cleared es c.args.id k i.rising p) in
    c.collect.ensures.ids last (subst (λ z. IsUpto z last) (sym (entries_set lits slots i k s.id)) (w.2 last (subst (λ z. IsUpto z last) (sym c.self.view_is) up)))

pub returns-in_default-clause-held : goal.returns-in_default-clause-held
returns-in_default-clause-held c = held_gone (held c.args.self.now) c.args.id c.in_default.ensures.none
