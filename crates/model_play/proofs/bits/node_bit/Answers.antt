use Rattle.std.proofs.Common.{◌≡◌, ℕ, [], ◌∷◌, List, Bool, arith, refl, sym, subst, length, get_or}
use Rattle.sby_bits.specs.Rows.{Row, value}
use Rattle.cell_table.specs.Cells.{binary_fn}
use Rattle.cell_table.specs.declared.kind.Binary.{Binary}
use Rattle.model_core.specs.Meaning.{Cycle, node_fn, row_at}
use Rattle.model_core.specs.declared.op.Op.{Op}
use Rattle.model_play.specs.Playing.{cycle_of}
use Rattle.model_play.proofs.bits.node_bit.Goals as goal

one : (c : Cycle) (ps : List ℕ) → length ps ≡ 1 → row_at c ps ≡ c (get_or ps 0 0) ∷ []
one c [] e = absurd (omega arith)
one c (p ∷ []) e = refl
one c (p ∷ q ∷ ps) e = absurd (omega arith)

both : (k : Binary) (signed : Bool) (r s : Row) (a b x : Bool) → r ≡ a ∷ [] → s ≡ b ∷ [] → binary_fn k 1 (value signed (a ∷ [])) (value signed (b ∷ [])) ≡ x ∷ [] → binary_fn k 1 (value signed r) (value signed s) ≡ x ∷ []
both k signed r s a b x e f h = rw (e, f) h

pub returns-in-Binary : goal.returns-in-Binary
returns-in-Binary c = λ x e.
    let v = cycle_of c.args.table.now in
    subst (λ (o : Op). node_fn o 1 (row_at v c.args.a.now) (row_at v c.args.b.now) (row_at v c.args.s.now) ≡ x ∷ []) (sym c.in-Binary.is)
    (both c.in-Binary.kind c.in-Binary.field-1 (row_at v c.args.a.now) (row_at v c.args.b.now) _ _ x (one v c.args.a.now c.if-a-eq1-2.true) (one v c.args.b.now c.if-b-eq1.true) (c.binary_bit.ensures x c.in-Binary.field-1 e))
