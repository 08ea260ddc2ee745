use Rattle.std.proofs.Common.{◌≡◌, ◌+◌, ◌++◌, ◌∷◌, [], ◌∙◌, List, All, length, reverse, refl, ap, sym, subst, arith, append_assoc}
use Rattle.std.proofs.lemmas.List.{length-append, length-reverse, length_push}
use Rattle.design_core.specs.Shape.{CellOf, DesignOf, IsCellOf}
use Rattle.design_lower.proofs.Turning.{All-last, All-reversed, all-but-last, none-left, reverse-last, reverse-twice}
use Rattle.design_lower.proofs.lowering.add_cells.Goals as goal

pub cells-init : goal.cells-init
cells-init c =
    let is : c.reverse.new.self.items ≡ reverse c.args.cells.items = c.reverse.ensures.items in
    record {
      others = refl;
      whole = ap (λ (l : List CellOf). c.args.low.now.cells ++ l) (ap (λ (l : List CellOf). reverse l) is ∙ reverse-twice c.args.cells.items);
      each = subst (λ (l : List CellOf). All (IsCellOf c.args.low.now.wires c.args.low.now.free) l) (sym is) (All-reversed (IsCellOf c.args.low.now.wires c.args.low.now.free) c.args.cells.items c.requires.cells);
    }

pub push_cell-requires-clause-cell : goal.push_cell-requires-clause-cell
push_cell-requires-clause-cell c =
    let last = All-last (IsCellOf c.args.low.now.wires c.args.low.now.free) c.pop.new.self.items c.in-Some.cell
    (subst (λ (l : List CellOf). All (IsCellOf c.args.low.now.wires c.args.low.now.free) l) c.in-Some.ensures.items c.cells.invariant.each) in
    subst (λ (x : DesignOf). IsCellOf x.wires x.free c.in-Some.cell) (sym c.cells.invariant.others) last

pub push_cell-requires-clause-few : goal.push_cell-requires-clause-few
push_cell-requires-clause-few c =
    let split : c.cells.rest.items ≡ c.pop.new.self.items ++ c.in-Some.cell ∷ [] = c.in-Some.ensures.items in
    let long : length c.cells.rest.items ≡ length c.pop.new.self.items + 1 = ap (λ (l : List CellOf). length l) split ∙ length_push c.pop.new.self.items c.in-Some.cell in
    let whole : length (c.cells.low.cells ++ reverse c.cells.rest.items) ≡ length (c.args.low.now.cells ++ c.args.cells.items) = ap (λ (l : List CellOf). length l) c.cells.invariant.whole in
    let left = length-append c.cells.low.cells (reverse c.cells.rest.items) in
    let right = length-append c.args.low.now.cells c.args.cells.items in
    let same = length-reverse c.cells.rest.items in
    omega (arith, long, whole, left, right, same, c.requires.few)

pub cells-preserved : goal.cells-preserved
cells-preserved c =
    let split : c.cells.rest.items ≡ c.pop.new.self.items ++ c.in-Some.cell ∷ [] = c.in-Some.ensures.items in
    let added : c.push_cell.new.self ≡ record c.cells.low { cells = c.cells.low.cells ++ c.in-Some.cell ∷ [] } = c.in_ok-push_cell.ensures.ok in
    let cells : c.push_cell.new.self.cells ≡ c.cells.low.cells ++ c.in-Some.cell ∷ [] = ap (λ (x : DesignOf). x.cells) added in
    record {
      others = added
          ∙ (ap (λ (x : DesignOf). record x { cells = c.cells.low.cells ++ c.in-Some.cell ∷ [] }) c.cells.invariant.others
          ∙ ap (λ (l : List CellOf). record c.args.low.now { cells = l }) (sym cells));
      whole = ap (λ (l : List CellOf). l ++ reverse c.pop.new.self.items) cells
          ∙ (append_assoc c.cells.low.cells (c.in-Some.cell ∷ []) (reverse c.pop.new.self.items)
          ∙ (ap (λ (l : List CellOf). c.cells.low.cells ++ l) (sym (ap (λ (l : List CellOf). reverse l) split ∙ reverse-last c.pop.new.self.items c.in-Some.cell))
          ∙ c.cells.invariant.whole));
      each = all-but-last (IsCellOf c.args.low.now.wires c.args.low.now.free) c.pop.new.self.items c.in-Some.cell
          (subst (λ (l : List CellOf). All (IsCellOf c.args.low.now.wires c.args.low.now.free) l) split c.cells.invariant.each);
    }

pub returns : goal.returns
returns c =
    let empty : length c.cells.rest.items ≡ 0 = omega (arith, c.cells.rest.ok.0, c.in_default.ensures.cases.0) in
    c.cells.invariant.others
    ∙ ap (λ (l : List CellOf). record c.args.low.now { cells = l }) (none-left c.cells.low.cells c.cells.rest.items empty ∙ c.cells.invariant.whole)
