-- Rows of nodes by those of their operands.
use Rattle.std.proofs.Common.{◌≡◌, ℕ, ◌+◌, ◌*◌, ◌≤◌, List, [], length, sym, ◌∙◌, ap, arith}
use Rattle.std.specs.Prelude.{IfOk, Result, Ok, Err}
use Rattle.sby_bits.specs.Rows.{Row}
use Rattle.btor_core.specs.Meaning.{Values, Holds}
use Rattle.btor_core.specs.Shape.{BtorOf}
use Rattle.btor_core.specs.declared.draft.DraftFault.{DraftFault}
use Rattle.btor_core.specs.declared.line.Word.{Word}
use Rattle.btor_core.proofs.Choosing.{front_holds}
use Rattle.btor_words.specs.Emitting.{Adds, Emits}
use Rattle.btor_words.proofs.Emitting.{both, still}
use Rattle.btor_emit.specs.Nodes.{ArePut}
use Rattle.btor_emit.specs.Table.{AreIn, Puts, Table, Turns, cycle_of}
use Rattle.btor_emit.proofs.Gathering.{seats_stay}
use Rattle.model_core.specs.Meaning.{node_fn, row_at}
use Rattle.model_core.specs.declared.op.Op.{Op}
use Rattle.model_core.proofs.Fitting.{length-row_at}
use Rattle.model_core.proofs.Writing.{row_same}

-- lines that were added after a turn
pub turned_on : (m0 m1 m2 : BtorOf) (t0 t1 : Table) (j k most : ℕ) (P Q R : Values → Type 0) → Turns m0 m1 t0 t1 j P → Adds m1 m2 k Q → j + k ≤ most → ((vs : Values) → P vs → Q vs → R vs) → Turns m0 m2 t0 t1 most R
turned_on m0 m1 m2 t0 t1 j k most P Q R t a fits is =
    let s = both t.adds a in
    record {
      adds = record { btor = s.btor; grows = s.grows; lists = s.lists; opened = s.opened; few = (let f = s.few in omega arith); holds = λ vs h. let p = s.holds vs h in is vs p.0 p.1 };
      size = t.size;
      seats = seats_stay m1 m2 k Q t1 a t.seats;
      same = λ vs h p. t.same vs (front_holds m1 m2 t.adds.btor a.grows vs h) p;
    }

-- one turn after the other
pub two_turns : (m0 m1 m2 : BtorOf) (t0 t1 t2 : Table) (j k : ℕ) (P Q : Values → Type 0) → Turns m0 m1 t0 t1 j P → Turns m1 m2 t1 t2 k Q → Turns m0 m2 t0 t2 (j + k) (λ vs. P vs × Q vs)
two_turns m0 m1 m2 t0 t1 t2 j k P Q t u = record {
  adds = both t.adds u.adds;
  size = u.size ∙ t.size;
  seats = u.seats;
  same = λ vs h p. u.same vs h p ∙ t.same vs (front_holds m1 m2 t.adds.btor u.adds.grows vs h) p;
}

pub weaker : (m0 m1 : BtorOf) (t0 t1 : Table) (j k : ℕ) (P Q : Values → Type 0) → Turns m0 m1 t0 t1 j P → j ≤ k → ((vs : Values) → Holds m1 vs → P vs → Q vs) → Turns m0 m1 t0 t1 k Q
weaker m0 m1 t0 t1 j k P Q t fits is =
    let s = t.adds in
    record { adds = record { btor = s.btor; grows = s.grows; lists = s.lists; opened = s.opened; few = (let f = s.few in omega arith); holds = λ vs h. is vs h (s.holds vs h) }; size = t.size; seats = t.seats; same = t.same }

pub still_in : (t0 t1 : Table) (ps : List ℕ) → length t1 ≡ length t0 → AreIn t0 ps → AreIn t1 ps
still_in t0 t1 ps e h i d l = let b = h i d l in omega arith

-- the second row of two, gathered after the first
pub put_two : (m0 m1 m2 : BtorOf) (t0 t1 t2 : Table) (a b : List ℕ) (left right : Word) → Puts m0 m1 t0 t1 left (length a) (4 * length a) (λ vs. row_at (cycle_of t0 vs) a) → Puts m1 m2 t1 t2 right (length b) (4 * length b) (λ vs. row_at (cycle_of t1 vs) b)
    → ArePut m0 m2 t0 t2 a b left right
put_two m0 m1 m2 t0 t1 t2 a b left right x y = record {
  turns = weaker m0 m2 t0 t2 (4 * length a + 4 * length b) (4 * length a + 4 * length b) _ (λ vs. (vs left.nid ≡ row_at (cycle_of t0 vs) a) × (vs right.nid ≡ row_at (cycle_of t0 vs) b))
      (two_turns m0 m1 m2 t0 t1 t2 (4 * length a) (4 * length b) _ _ x.turns y.turns) (omega arith)
      (λ vs h p. (p.0, p.1 ∙ row_same (cycle_of t1 vs) (cycle_of t0 vs) b (λ q i. x.turns.same vs (front_holds m1 m2 x.turns.adds.btor y.turns.adds.grows vs h) q)));
  left_word = still y.turns.adds x.word;
  right_word = y.word;
  left_size = x.size;
  right_size = y.size;
}

-- a word of one row, or of two
pub put_by_one : (m0 m1 m2 : BtorOf) (t0 t1 : Table) (a : List ℕ) (l x : Word) (n j k most w : ℕ) (F : Row → Row) → Puts m0 m1 t0 t1 l n j (λ vs. row_at (cycle_of t0 vs) a) → Emits m1 m2 x w k (λ vs. F (vs l.nid)) → j + k ≤ most
    → Puts m0 m2 t0 t1 x w most (λ vs. F (row_at (cycle_of t0 vs) a))
put_by_one m0 m1 m2 t0 t1 a l x n j k most w F p e fits = record {
  turns = turned_on m0 m1 m2 t0 t1 j k most _ _ (λ vs. vs x.nid ≡ F (row_at (cycle_of t0 vs) a)) p.turns e.adds fits (λ vs u v. v ∙ ap F u);
  word = e.word;
  size = e.size;
}

pub put_by_two : (m0 m1 m2 : BtorOf) (t0 t1 : Table) (a b : List ℕ) (l r x : Word) (k most w : ℕ) (F : Row → Row → Row) → ArePut m0 m1 t0 t1 a b l r → Emits m1 m2 x w k (λ vs. F (vs l.nid) (vs r.nid)) → 4 * length a + 4 * length b + k ≤ most
    → Puts m0 m2 t0 t1 x w most (λ vs. F (row_at (cycle_of t0 vs) a) (row_at (cycle_of t0 vs) b))
put_by_two m0 m1 m2 t0 t1 a b l r x k most w F p e fits = record {
  turns = turned_on m0 m1 m2 t0 t1 (4 * length a + 4 * length b) k most _ _ (λ vs. vs x.nid ≡ F (row_at (cycle_of t0 vs) a) (row_at (cycle_of t0 vs) b)) p.turns e.adds fits
      (λ vs u v. v ∙ ap (λ (z : Row). F z (vs r.nid)) u.0 ∙ ap (λ (z : Row). F (row_at (cycle_of t0 vs) a) z) u.1);
  word = e.word;
  size = e.size;
}

-- a word of two rows that depends on how wide these are
pub put_by_sizes : (m0 m1 m2 : BtorOf) (t0 t1 : Table) (a b : List ℕ) (l r x : Word) (k most w : ℕ) (F : ℕ → ℕ → Row → Row → Row) → ArePut m0 m1 t0 t1 a b l r → Emits m1 m2 x w k (λ vs. F l.width r.width (vs l.nid) (vs r.nid)) → 4 * length a + 4 * length b + k ≤ most
    → Puts m0 m2 t0 t1 x w most (λ vs. F (length (row_at (cycle_of t0 vs) a)) (length (row_at (cycle_of t0 vs) b)) (row_at (cycle_of t0 vs) a) (row_at (cycle_of t0 vs) b))
put_by_sizes m0 m1 m2 t0 t1 a b l r x k most w F p e fits =
    let q = put_by_two m0 m1 m2 t0 t1 a b l r x k most w (F l.width r.width) p e fits in
    record {
      turns = weaker m0 m2 t0 t1 most most _ (λ vs. vs x.nid ≡ F (length (row_at (cycle_of t0 vs) a)) (length (row_at (cycle_of t0 vs) b)) (row_at (cycle_of t0 vs) a) (row_at (cycle_of t0 vs) b)) q.turns (omega arith)
          (λ vs h u.
          let la : l.width ≡ length (row_at (cycle_of t0 vs) a) = p.left_size ∙ sym (length-row_at (cycle_of t0 vs) a) in
          let lb : r.width ≡ length (row_at (cycle_of t0 vs) b) = p.right_size ∙ sym (length-row_at (cycle_of t0 vs) b) in
          u ∙ ap (λ (n : ℕ). F n r.width (row_at (cycle_of t0 vs) a) (row_at (cycle_of t0 vs) b)) la ∙ ap (λ (n : ℕ). F (length (row_at (cycle_of t0 vs) a)) n (row_at (cycle_of t0 vs) a) (row_at (cycle_of t0 vs) b)) lb);
      word = q.word;
      size = q.size;
    }

-- what comes of a cell of two operands
pub of_two : (m0 m1 m2 : BtorOf) (t0 t1 : Table) (a b : List ℕ) (l r : Word) (result : Result Word DraftFault) (k w : ℕ) (o : Op) (F : ℕ → ℕ → Row → Row → Row) → ArePut m0 m1 t0 t1 a b l r → IfOk result (λ x. Emits m1 m2 x w k (λ vs. F l.width r.width (vs l.nid) (vs r.nid))) → k ≤ 20
    → ((y z : Row) → F (length y) (length z) y z ≡ node_fn o w y z []) → IfOk result (λ x. Puts m0 m2 t0 t1 x w (4 * length a + 4 * length b + 20) (λ vs. node_fn o w (row_at (cycle_of t0 vs) a) (row_at (cycle_of t0 vs) b) []))
of_two m0 m1 m2 t0 t1 a b l r (Err e) k w o F p h fits is = tt
of_two m0 m1 m2 t0 t1 a b l r (Ok x) k w o F p h fits is =
    let q = put_by_sizes m0 m1 m2 t0 t1 a b l r x k (4 * length a + 4 * length b + 20) w F p h (omega (arith, fits)) in
    record {
      turns = weaker m0 m2 t0 t1 (4 * length a + 4 * length b + 20) (4 * length a + 4 * length b + 20) _ (λ vs. vs x.nid ≡ node_fn o w (row_at (cycle_of t0 vs) a) (row_at (cycle_of t0 vs) b) []) q.turns (omega arith) (λ vs g u. u ∙ is (row_at (cycle_of t0 vs) a) (row_at (cycle_of t0 vs) b));
      word = q.word;
      size = q.size;
    }

-- a word of three rows
pub put_by_three : (m0 m1 m2 m3 : BtorOf) (t0 t1 t2 : Table) (a b c : List ℕ) (l r s x : Word) (n i k most w : ℕ) (F : Row → Row → Row → Row) → ArePut m0 m1 t0 t1 a b l r → Puts m1 m2 t1 t2 s n i (λ vs. row_at (cycle_of t1 vs) c)
    → Emits m2 m3 x w k (λ vs. F (vs l.nid) (vs r.nid) (vs s.nid)) → 4 * length a + 4 * length b + i + k ≤ most → Puts m0 m3 t0 t2 x w most (λ vs. F (row_at (cycle_of t0 vs) a) (row_at (cycle_of t0 vs) b) (row_at (cycle_of t0 vs) c))
put_by_three m0 m1 m2 m3 t0 t1 t2 a b c l r s x n i k most w F p q e fits =
    let j : ℕ = 4 * length a + 4 * length b in
    let t = weaker m0 m2 t0 t2 (j + i) (j + i) _ (λ vs. ((vs l.nid ≡ row_at (cycle_of t0 vs) a) × (vs r.nid ≡ row_at (cycle_of t0 vs) b)) × (vs s.nid ≡ row_at (cycle_of t0 vs) c))
    (two_turns m0 m1 m2 t0 t1 t2 j i _ _ p.turns q.turns) (omega arith)
    (λ vs h u. (u.0, u.1 ∙ row_same (cycle_of t1 vs) (cycle_of t0 vs) c (λ y z. p.turns.same vs (front_holds m1 m2 p.turns.adds.btor q.turns.adds.grows vs h) y))) in
    record {
      turns = turned_on m0 m2 m3 t0 t2 (j + i) k most _ _ (λ vs. vs x.nid ≡ F (row_at (cycle_of t0 vs) a) (row_at (cycle_of t0 vs) b) (row_at (cycle_of t0 vs) c)) t e.adds fits
          (λ vs u v. v ∙ ap (λ (y : Row). F y (vs r.nid) (vs s.nid)) u.0.0 ∙ ap (λ (y : Row). F (row_at (cycle_of t0 vs) a) y (vs s.nid)) u.0.1 ∙ ap (λ (y : Row). F (row_at (cycle_of t0 vs) a) (row_at (cycle_of t0 vs) b) y) u.1);
      word = e.word;
      size = e.size;
    }
