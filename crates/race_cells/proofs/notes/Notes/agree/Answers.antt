use Rattle.std.proofs.Common.{◌≡◌, ◌<◌, ℕ, List, length, set, subst, ap, sym, ◌∙◌, arith}
use Rattle.std.proofs.lemmas.List.{set-get_or}
use Rattle.std.specs.Prelude.{slice_index_or}
use Rattle.race_cells.specs.Notes.{NoteOf, Agree}
use Rattle.race_cells.proofs.Lists.{AgreeBelow, cells, cells-length, cell-at, agree-more, agree-all}
use Rattle.race_cells.proofs.notes.Notes.agree.Goals as goal

pub agree-requires : goal.agree-requires
agree-requires g c =
    let inv = c.loop-place.invariant in
    let e : cells c.loop-place.other-inside.notes.items ≡ cells c.loop-place.self-inside.notes.items =
    ap cells (inv.1 ∙ c.other.view_is) ∙ (c.requires ∙ sym (ap cells (inv.0 ∙ c.self.view_is))) in
    let p : c.loop-place.place < length c.loop-place.self-inside.notes.items = omega (arith, ap length inv.0) in
    ap (λ n. n.cell) c.index_mut-in-loop-place.ensures.value
    ∙ (cell-at c.loop-place.self-inside.notes.items c.loop-place.other-inside.notes.items c.loop-place.place c.index_mut.result.now c.index_mut-in-loop-place.result.now e p
    ∙ sym (ap (λ n. n.cell) c.index_mut.ensures.value))

pub loop-place-preserved : goal.loop-place-preserved
loop-place-preserved g c =
    let inv = c.loop-place.invariant in
    let i = c.loop-place.place in
    let ns = c.self.inside.notes.items in
    let ms = c.other.inside.notes.items in
    let e : cells ms ≡ cells ns = ap cells c.other.view_is ∙ (c.requires ∙ sym (ap cells c.self.view_is)) in
    let p : i < length ns = omega (arith, ap length inv.0) in
    let q : i < length ms = omega (arith, cells-length ns ms e) in (
      ap (λ n. set c.loop-place.self-inside.notes.items i n) (c.agree.ensures.same.0 ∙ c.index_mut.ensures.value)
          ∙ (set-get_or c.loop-place.self-inside.notes.items i c.index_mut.result.now ∙ inv.0),
      ap (λ n. set c.loop-place.other-inside.notes.items i n) (c.agree.ensures.same.1 ∙ c.index_mut-in-loop-place.ensures.value)
          ∙ (set-get_or c.loop-place.other-inside.notes.items i c.index_mut-in-loop-place.result.now ∙ inv.1),
      agree-more i ns ms c.index_mut.result.now c.index_mut-in-loop-place.result.now p q
          (subst (λ (l : List (NoteOf g.row.T.Denot)). c.index_mut.result.now ≡ slice_index_or l i c.index_mut.result.now) inv.0 c.index_mut.ensures.value)
          (subst (λ (l : List (NoteOf g.row.T.Denot)). c.index_mut-in-loop-place.result.now ≡ slice_index_or l i c.index_mut-in-loop-place.result.now) inv.1 c.index_mut-in-loop-place.ensures.value)
          inv.2 c.agree.ensures.agree,
    )

pub returns-clause-agree : goal.returns-clause-agree
returns-clause-agree g c =
    let inv = c.loop-place.invariant in
    let ns = c.self.inside.notes.items in
    let ms = c.other.inside.notes.items in
    let e : c.loop-place.place ≡ length ns = omega (arith, ap length inv.0) in
    let all : Agree ns ms = agree-all ns ms (subst (λ (n : ℕ). AgreeBelow n ns ms) e inv.2) in
    subst (λ (l : List (NoteOf g.row.T.Denot)). Agree l c.args.other.now) c.self.view_is (subst (λ (l : List (NoteOf g.row.T.Denot)). Agree ns l) c.other.view_is all)
