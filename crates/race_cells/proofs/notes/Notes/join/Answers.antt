use Rattle.std.proofs.Common.{◌≡◌, ◌<◌, ℕ, List, length, set, subst, ap, sym, ◌∙◌, arith}
use Rattle.std.specs.Prelude.{slice_index_or}
use Rattle.std.proofs.lemmas.List.{set-get_or}
use Rattle.race_cells.specs.Notes.{NoteOf, Agree, joined}
use Rattle.race_cells.proofs.Lists.{AgreeBelow, cells, cells-length, cell-at, agree-more, agree-all, get_or-upto, join-step, joined-cells, length-upto, upto, upto-all}
use Rattle.race_cells.proofs.notes.Notes.join.Goals as goal

pub index_mut-requires : goal.index_mut-requires
index_mut-requires g c =
    omega (arith, ap length c.loop-place.invariant.0, length-upto c.loop-place.place c.self.inside.notes.items c.other.inside.notes.items)

pub join-requires : goal.join-requires
join-requires g c =
    let inv = c.loop-place.invariant in
    let i = c.loop-place.place in
    let ns = c.self.inside.notes.items in
    let ms = c.other.inside.notes.items in
    let e : cells ms ≡ cells ns = ap cells c.other.view_is ∙ (c.requires ∙ sym (ap cells c.self.view_is)) in
    let p : i < length ns = omega arith in
    let q : i < length ms = omega (arith, cells-length ns ms e) in
    let a = c.index_mut.result.now in
    let b = c.index_mut-in-loop-place.result.now in
    ap (λ n. n.cell) (c.again.ensures.result ∙ c.index_mut-in-loop-place.ensures.value)
    ∙ (ap (λ (l : List (NoteOf g.row.T.Denot)). (slice_index_or l i b).cell) inv.1
    ∙ (cell-at ns ms i a b e p
    ∙ sym (ap (λ n. n.cell) c.index_mut.ensures.value ∙ (ap (λ (l : List (NoteOf g.row.T.Denot)). (slice_index_or l i a).cell) inv.0 ∙ ap (λ n. n.cell) (get_or-upto i ns ms a)))))

pub loop-place-preserved : goal.loop-place-preserved
loop-place-preserved g c =
    let inv = c.loop-place.invariant in
    let i = c.loop-place.place in
    let ns = c.self.inside.notes.items in
    let ms = c.other.inside.notes.items in
    let e : cells ms ≡ cells ns = ap cells c.other.view_is ∙ (c.requires ∙ sym (ap cells c.self.view_is)) in
    let p : i < length ns = omega arith in
    let q : i < length ms = omega (arith, cells-length ns ms e) in
    let a = c.index_mut.result.now in
    let b = c.again.result in
    let ha = c.index_mut.ensures.value in
    let hb : b ≡ slice_index_or ms i b =
    c.again.ensures.result ∙ (subst (λ (l : List (NoteOf g.row.T.Denot)). c.index_mut-in-loop-place.result.now ≡ slice_index_or l i c.index_mut-in-loop-place.result.now) inv.1 c.index_mut-in-loop-place.ensures.value
    ∙ ap (λ n. slice_index_or ms i n) (sym c.again.ensures.result)) in
    let hn : a ≡ slice_index_or ns i a = ha ∙ (ap (λ (l : List (NoteOf g.row.T.Denot)). slice_index_or l i a) inv.0 ∙ get_or-upto i ns ms a) in (
      join-step i ns ms c.loop-place.self-inside.notes.items a b c.join.new.self inv.0 p q ha hb c.join.ensures.joined,
      ap (λ n. set c.loop-place.other-inside.notes.items i n) (c.again.ensures.same ∙ c.index_mut-in-loop-place.ensures.value)
          ∙ (set-get_or c.loop-place.other-inside.notes.items i c.index_mut-in-loop-place.result.now ∙ inv.1),
      agree-more i ns ms a b p q hn hb inv.2 c.join.ensures.agree,
    )

pub returns-clause-joined : goal.returns-clause-joined
returns-clause-joined g c =
    let inv = c.loop-place.invariant in
    let ns = c.self.inside.notes.items in
    let ms = c.other.inside.notes.items in
    let m : cells ms ≡ cells ns = ap cells c.other.view_is ∙ (c.requires ∙ sym (ap cells c.self.view_is)) in
    let e : c.loop-place.place ≡ length ns = omega arith in
    inv.0 ∙ (ap (λ n. upto n ns ms) e ∙ (upto-all ns ms (cells-length ns ms m) ∙ (ap (λ l. joined l ms) c.self.view_is ∙ ap (λ l. joined c.args.self.now l) c.other.view_is)))

pub returns-clause-cells : goal.returns-clause-cells
returns-clause-cells g c =
    let inv = c.loop-place.invariant in
    let ns = c.self.inside.notes.items in
    let ms = c.other.inside.notes.items in
    let m : cells ms ≡ cells ns = ap cells c.other.view_is ∙ (c.requires ∙ sym (ap cells c.self.view_is)) in
    let e : c.loop-place.place ≡ length ns = omega arith in
    ap cells (inv.0 ∙ (ap (λ n. upto n ns ms) e ∙ upto-all ns ms (cells-length ns ms m))) ∙ (joined-cells ns ms ∙ ap cells c.self.view_is)

pub returns-clause-agree : goal.returns-clause-agree
returns-clause-agree g c =
    let inv = c.loop-place.invariant in
    let ns = c.self.inside.notes.items in
    let ms = c.other.inside.notes.items in
    let e : c.loop-place.place ≡ length ns = omega arith in
    let all : Agree ns ms = agree-all ns ms (subst (λ (n : ℕ). AgreeBelow n ns ms) e inv.2) in
    subst (λ (l : List (NoteOf g.row.T.Denot)). Agree l c.args.other) c.self.view_is (subst (λ (l : List (NoteOf g.row.T.Denot)). Agree ns l) c.other.view_is all)
