-- The gates of a cycle, part after part.
use Rattle.std.proofs.Common.{◌≡◌, ℕ, suc, true, ◌+◌, ◌≤◌, List, [], ◌++◌, Option, Some, None, sym, ap, ◌∙◌, subst, arith, length}
use Rattle.std.specs.Prelude.{All}
use Rattle.cnf_form.specs.Cnf.{LitOf, LitWithin, negate}
use Rattle.gate_graph.specs.Circuit.{Continues, GatesOf}
use Rattle.gate_graph.specs.Kept.{lit_of}
use Rattle.gate_graph.specs.Laws.{Continues-trans, keeps}
use Rattle.gate_rows.specs.Literals.{Builds, MeansRow}
use Rattle.model_core.specs.Shape.{ModelOf, states}
use Rattle.model_core.specs.Meaning.{Assumed, Broken, next_states}
use Rattle.bit_net.specs.Reaching.{numbers}
use Rattle.frame_gates.specs.Frames.{IsFrameOver, Tells, cycle_of}
use Rattle.model_core.proofs.Lists.{all_from}
use Rattle.frame_gates.proofs.Lists.{one_at}
use Rattle.std.proofs.lemmas.Option.{slice_get_within}
use Rattle.frame_gates.proofs.Reading.{all_more, table_later}
use Rattle.frame_net.specs.Making.{IsCycle, IsFreeRow, TellCovers, TellsAsserted, row_from}
use Rattle.frame_net.proofs.Rows.{length-row_from, numbers_append, row_from-at}
use Rattle.frame_net.proofs.Telling.{tells_later}

pub row_within : (first n vars : ℕ) → 1 ≤ first → first + n ≤ vars + 1 → All (LitWithin vars) (row_from first n)
row_within first n vars lo hi = all_from (LitWithin vars) (row_from first n) (λ k l at.
    (let i = slice_get_within (row_from first n) k l at in
    let s = length-row_from first n in
    let e = one_at (row_from first n) k (lit_of (first + k) true) l (row_from-at first n k (omega arith)) at in
    subst (LitWithin vars) e (omega arith, omega arith)))

-- rows of inputs as they are made
pub free_within : (f g h : GatesOf) (n : ℕ) (lits : List LitOf) → IsFreeRow f g n lits → g.formula.vars ≤ h.formula.vars → All (LitWithin h.formula.vars) lits
free_within f g h n lits r up = subst (All (LitWithin h.formula.vars)) (sym r.row) (row_within (suc f.formula.vars) n h.formula.vars (omega arith) (let e = r.vars in omega arith))

pub free_long : (f g : GatesOf) (n : ℕ) (lits : List LitOf) → IsFreeRow f g n lits → length lits ≡ n
free_long f g n lits r = ap length r.row ∙ length-row_from (suc f.formula.vars) n

row_later : (g h : GatesOf) (row : _) (word : List LitOf) → Continues g h → MeansRow g row word → MeansRow h row word
row_later g h row word k r = record { as_many = r.as_many; within = all_more g.formula.vars h.formula.vars word k.vars r.within; means = λ x s. r.means x (keeps g h k x s) }

asserted_later : (m : ModelOf) (g h : GatesOf) (table : List LitOf) (o : Option LitOf) → Continues g h → TellsAsserted m g table o → TellsAsserted m h table o
asserted_later m g h table None k t = t
asserted_later m g h table (Some l) k t = (t.0, tells_later g h (λ x. (i : ℕ) × Broken m (cycle_of table x) i) (negate l) k t.1)

module _ (m : ModelOf) (g0 g1 g2 g3 g4 g5 g6 g7 : GatesOf) (ns ni : ℕ) (bits ins table next : List LitOf) (asserted : Option LitOf) (assumed : LitOf) (covers : List LitOf)
    (one : g0.formula.vars ≡ 1) (none : g0.inputs ≡ []) (es : ns ≡ length (states m)) (ei : ni ≡ length m.inputs) (first : IsFreeRow g0 g1 ns bits) (second : IsFreeRow g1 g2 ni ins)
    (a b c d e : ℕ) (over : Builds g2 g3 a) (takes : Builds g3 g4 b) (breaks : Builds g4 g5 c) (assumes : Builds g5 g6 d) (reaches : Builds g6 g7 e) where
  from3 : Continues g3 g7
  from3 = Continues-trans g3 g4 g7 takes.continues (Continues-trans g4 g5 g7 breaks.continues (Continues-trans g5 g6 g7 assumes.continues reaches.continues))

  bits_are : bits ≡ row_from 2 (length (states m))
  bits_are = first.row ∙ ap (λ (v : ℕ). row_from (suc v) ns) one ∙ ap (row_from 2) es

  low : suc g1.formula.vars ≡ 2 + length (states m)
  low = let v = first.vars in omega arith

  ins_are : ins ≡ row_from (2 + length (states m)) (length m.inputs)
  ins_are = second.row ∙ ap (λ (v : ℕ). row_from v ni) low ∙ ap (row_from (2 + length (states m))) ei

  inputs_are : g7.inputs ≡ numbers 2 (length (states m) + length m.inputs)
  inputs_are =
      reaches.inputs ∙ assumes.inputs ∙ breaks.inputs ∙ takes.inputs ∙ over.inputs ∙ second.inputs
      ∙ ap (λ (vs : List ℕ). vs ++ numbers (suc g1.formula.vars) ni) (first.inputs ∙ ap (λ (vs : List ℕ). vs ++ numbers (suc g0.formula.vars) ns) none ∙ ap (λ (v : ℕ). numbers (suc v) ns) one ∙ ap (numbers 2) es)
      ∙ ap (λ (v : ℕ). numbers 2 (length (states m)) ++ numbers v ni) low
      ∙ ap (λ (k : ℕ). numbers 2 (length (states m)) ++ numbers (2 + length (states m)) k) ei
      ∙ sym (numbers_append 2 (length (states m)) (length m.inputs))

  pub cycle_made : IsFrameOver m g3 bits ins table → MeansRow g4 (λ x. next_states m (cycle_of table x)) next → TellsAsserted m g5 table asserted → Tells g6 (λ x. Assumed m (cycle_of table x)) assumed →
      TellCovers m g7 table (length m.covers) covers → IsCycle m g7 next asserted assumed covers
  cycle_made f t br asm re = record {
    table = table;
    inputs = inputs_are;
    frame = record {
      is_table = table_later m g3 g7 table from3 f.is_table;
      states = f.states ∙ bits_are;
      inputs = f.inputs ∙ ins_are;
      frame = λ x s. f.frame x (keeps g3 g7 from3 x s);
    };
    takes = row_later g4 g7 (λ x. next_states m (cycle_of table x)) next (Continues-trans g4 g5 g7 breaks.continues (Continues-trans g5 g6 g7 assumes.continues reaches.continues)) t;
    breaks = asserted_later m g5 g7 table asserted (Continues-trans g5 g6 g7 assumes.continues reaches.continues) br;
    assumes = tells_later g6 g7 (λ x. Assumed m (cycle_of table x)) assumed reaches.continues asm;
    reaches = re;
  }
