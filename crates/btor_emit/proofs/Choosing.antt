-- Rows that controls choose.
use Rattle.std.proofs.Common.{◌≡◌, ℕ, ◌+◌, ◌≤◌, Bool, true, false, cond, [], ◌∷◌, refl, sym, ap, ◌∙◌, arith}
use Rattle.std.specs.Prelude.{not}
use Rattle.sby_bits.specs.Rows.{Row}
use Rattle.sby_bits.specs.Words.{some_bit}
use Rattle.cell_table.specs.Cells.{mux_fn, same_bit}
use Rattle.btor_core.specs.Meaning.{Values}
use Rattle.btor_core.specs.Shape.{BtorOf}
use Rattle.btor_core.specs.declared.line.Word.{Word}
use Rattle.btor_core.proofs.Choosing.{front_holds}
use Rattle.btor_words.specs.Emitting.{Emits}
use Rattle.btor_emit.specs.Table.{Puts, Table, Turns, cycle_of}
use Rattle.btor_emit.proofs.OperandRows.{turned_on, two_turns, weaker}
use Rattle.model_core.specs.Meaning.{Cycle, is_active, next_row, row_at}
use Rattle.model_core.specs.Shape.{RegisterOf}
use Rattle.model_core.specs.declared.model.Control.{Control}

-- another name of a word's row
pub puts_row : (m0 m1 : BtorOf) (t0 t1 : Table) (a : Word) (v w j k : ℕ) (f g : Values → Row) → Puts m0 m1 t0 t1 a v j f → v ≡ w → j ≤ k → ((vs : Values) → f vs ≡ g vs) → Puts m0 m1 t0 t1 a w k g
puts_row m0 m1 t0 t1 a v w j k f g x e fits is = record { turns = weaker m0 m1 t0 t1 j k _ _ x.turns fits (λ vs h p. p ∙ is vs); word = x.word; size = x.size ∙ e }

-- a word after a turn, of which something is known
pub turn_then : (m0 m1 m2 : BtorOf) (t0 t1 t2 : Table) (a : Word) (w j k most : ℕ) (P : Values → Type 0) (g f : Values → Row) → Turns m0 m1 t0 t1 j P → Puts m1 m2 t1 t2 a w k g → j + k ≤ most
    → ((vs : Values) → P vs → ((p : ℕ) → cycle_of t1 vs p ≡ cycle_of t0 vs p) → g vs ≡ f vs) → Turns m0 m2 t0 t2 most (λ vs. P vs × (vs a.nid ≡ f vs))
turn_then m0 m1 m2 t0 t1 t2 a w j k most P g f t x fits is =
    weaker m0 m2 t0 t2 (j + k) most _ _ (two_turns m0 m1 m2 t0 t1 t2 j k P _ t x.turns) fits
    (λ vs h p. (p.0, p.1 ∙ is vs p.0 (λ q. t.same vs (front_holds m1 m2 t.adds.btor x.turns.adds.grows vs h) q)))

pub puts_then : (m0 m1 m2 : BtorOf) (t0 t1 t2 : Table) (a : Word) (w v j k most : ℕ) (P : Values → Type 0) (g f : Values → Row) → Turns m0 m1 t0 t1 j P → Puts m1 m2 t1 t2 a w k g → w ≡ v → j + k ≤ most
    → ((vs : Values) → P vs → ((p : ℕ) → cycle_of t1 vs p ≡ cycle_of t0 vs p) → g vs ≡ f vs) → Puts m0 m2 t0 t2 a v most f
puts_then m0 m1 m2 t0 t1 t2 a w v j k most P g f t x e fits is = record {
  turns = weaker m0 m2 t0 t2 most most _ _ (turn_then m0 m1 m2 t0 t1 t2 a w j k most P g f t x fits is) (omega arith) (λ vs h p. p.1);
  word = x.word;
  size = x.size ∙ e;
}

-- the bit at a level
high_choice : (b : Bool) (then other : Row) → mux_fn other then (some_bit (b ∷ [])) ≡ cond (same_bit b true) then other
high_choice true then other = refl
high_choice false then other = refl

low_choice : (b : Bool) (then other : Row) → mux_fn then other (some_bit (b ∷ [])) ≡ cond (same_bit b false) then other
low_choice true then other = refl
low_choice false then other = refl

module _ (m0 m1 m2 : BtorOf) (t0 t1 : Table) (bit then other word : Word) (control : Control) (w : ℕ) (put : Puts m0 m1 t0 t1 bit 1 4 (λ vs. row_at (cycle_of t0 vs) (control.place ∷ []))) where
  pub chosen_high : control.level ≡ true → Emits m1 m2 word w 2 (λ vs. mux_fn (vs other.nid) (vs then.nid) (some_bit (vs bit.nid))) → Puts m0 m2 t0 t1 word w 6 (λ vs. cond (is_active (cycle_of t0 vs) control) (vs then.nid) (vs other.nid))
  chosen_high e x = record {
    turns = turned_on m0 m1 m2 t0 t1 4 2 6 _ _ (λ vs. vs word.nid ≡ cond (is_active (cycle_of t0 vs) control) (vs then.nid) (vs other.nid)) put.turns x.adds (omega arith)
        (λ vs p q.
        q ∙ ap (λ (r : Row). mux_fn (vs other.nid) (vs then.nid) (some_bit r)) p ∙ high_choice (cycle_of t0 vs control.place) (vs then.nid) (vs other.nid)
        ∙ ap (λ (l : Bool). cond (same_bit (cycle_of t0 vs control.place) l) (vs then.nid) (vs other.nid)) (sym e));
    word = x.word;
    size = x.size;
  }

  pub chosen_low : control.level ≡ false → Emits m1 m2 word w 2 (λ vs. mux_fn (vs then.nid) (vs other.nid) (some_bit (vs bit.nid))) → Puts m0 m2 t0 t1 word w 6 (λ vs. cond (is_active (cycle_of t0 vs) control) (vs then.nid) (vs other.nid))
  chosen_low e x = record {
    turns = turned_on m0 m1 m2 t0 t1 4 2 6 _ _ (λ vs. vs word.nid ≡ cond (is_active (cycle_of t0 vs) control) (vs then.nid) (vs other.nid)) put.turns x.adds (omega arith)
        (λ vs p q.
        q ∙ ap (λ (r : Row). mux_fn (vs then.nid) (vs other.nid) (some_bit r)) p ∙ low_choice (cycle_of t0 vs control.place) (vs then.nid) (vs other.nid)
        ∙ ap (λ (l : Bool). cond (same_bit (cycle_of t0 vs control.place) l) (vs then.nid) (vs other.nid)) (sym e));
    word = x.word;
    size = x.size;
  }

pub active_same : (c d : Cycle) (control : Control) → ((p : ℕ) → d p ≡ c p) → is_active d control ≡ is_active c control
active_same c d control same = ap (λ (b : Bool). same_bit b control.level) (same control.place)

-- the choice of two rows, in another cycle
pub choice_same : (c d : Cycle) (control : Control) (then other x y : Row) → ((p : ℕ) → d p ≡ c p) → x ≡ then → y ≡ other → cond (is_active d control) x y ≡ cond (is_active c control) then other
choice_same c d control then other x y same e f =
    ap (λ (b : Bool). cond b x y) (active_same c d control same) ∙ ap (λ (r : Row). cond (is_active c control) r y) e ∙ ap (λ (r : Row). cond (is_active c control) then r) f

pub on : (c : Cycle) (control : Control) (x y : Row) → is_active c control ≡ true → x ≡ cond (is_active c control) x y
on c control x y e = ap (λ (b : Bool). cond b x y) (sym e)

pub off : (c : Cycle) (control : Control) (x y : Row) → is_active c control ≡ false → y ≡ cond (is_active c control) x y
off c control x y e = ap (λ (b : Bool). cond b x y) (sym e)

-- the next row by the control that decides
turned : (b level : Bool) (x y : Row) → cond (same_bit b (not level)) x y ≡ cond (same_bit b level) y x
turned true true x y = refl
turned true false x y = refl
turned false true x y = refl
turned false false x y = refl

pub reset_decides : (c : Cycle) (r : RegisterOf) → r.reset_first ≡ true → cond (is_active c r.reset) (row_at c r.value) (cond (is_active c r.enable) (row_at c r.d) (row_at c r.q)) ≡ next_row c r
reset_decides c r e = ap (λ (b : Bool). cond b (cond (is_active c r.reset) (row_at c r.value) (cond (is_active c r.enable) (row_at c r.d) (row_at c r.q))) (cond (is_active c r.enable) (cond (is_active c r.reset) (row_at c r.value) (row_at c r.d)) (row_at c r.q))) (sym e)

pub enable_decides : (c : Cycle) (r : RegisterOf) (place : ℕ) (level : Bool) → r.reset_first ≡ false → place ≡ r.enable.place → level ≡ not r.enable.level
    → cond (same_bit (c place) level) (row_at c r.q) (cond (is_active c r.reset) (row_at c r.value) (row_at c r.d)) ≡ next_row c r
enable_decides c r place level e p l =
    ap (λ (b : Bool). cond (same_bit (c place) b) (row_at c r.q) (cond (is_active c r.reset) (row_at c r.value) (row_at c r.d))) l
    ∙ ap (λ (k : ℕ). cond (same_bit (c k) (not r.enable.level)) (row_at c r.q) (cond (is_active c r.reset) (row_at c r.value) (row_at c r.d))) p
    ∙ turned (c r.enable.place) r.enable.level (row_at c r.q) (cond (is_active c r.reset) (row_at c r.value) (row_at c r.d))
    ∙ ap (λ (b : Bool). cond b (cond (is_active c r.reset) (row_at c r.value) (cond (is_active c r.enable) (row_at c r.d) (row_at c r.q))) (cond (is_active c r.enable) (cond (is_active c r.reset) (row_at c r.value) (row_at c r.d)) (row_at c r.q))) (sym e)
