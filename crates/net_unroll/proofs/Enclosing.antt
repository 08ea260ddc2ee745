-- Each literal of an encoding is of one of its variables.
use Rattle.std.proofs.Common.{◌≡◌, ℕ, ◌<◌, ◌≤◌, Bool, true, List, [], ◌∷◌, Some, refl, arith, length}
use Rattle.std.specs.Prelude.{All, slice_get}
use Rattle.std.specs.List.{filter}
use Rattle.std.proofs.lemmas.List.Elements.{All-contains, All-filter, All-from_recursion, All-map, All-weaker}
use Rattle.cnf_form.specs.Cnf.{ClauseWithin, LitOf, LitWithin, negate}
use Rattle.gate_graph.specs.declared.gate.Gate.{Gate}
use Rattle.gate_graph.specs.declared.gate.Gate.TheVariants.{And, Xor, Mux, Maj}
use Rattle.gate_graph.specs.Folding.{clauses_of, operands}
use Rattle.gate_graph.specs.Kept.{AreKept, HasRoom, OthersWithin}
use Rattle.bit_net.proofs.Lists.{get_in}
use Rattle.net_unroll.specs.Clauses.{IsEncoding}
use Rattle.net_unroll.specs.Encoding.{EncodedOf, finished, is_kept, number, renumbered, renumbered_entry, renumbered_gate}
use Rattle.net_unroll.specs.Making.{IsMaking, made_of}
use Rattle.net_unroll.specs.declared.encoded.Free.{Free}
use Rattle.net_unroll.specs.declared.making.Making.{Making}
use Rattle.net_unroll.proofs.Finished.{number_up, renumbered_within}
use Rattle.net_unroll.proofs.Numbering.{number_few, number_some, truth_kept}
use Rattle.net_unroll.proofs.Stepping.{all_in}

module _ (n : ℕ) where
  two : (a b : LitOf) → LitWithin n a → LitWithin n b → ClauseWithin n (a ∷ b ∷ [])
  two a b p q = All-from_recursion (LitWithin n) (a ∷ b ∷ []) (p, (q, tt))

  three : (a b c : LitOf) → LitWithin n a → LitWithin n b → LitWithin n c → ClauseWithin n (a ∷ b ∷ c ∷ [])
  three a b c p q r = All-from_recursion (LitWithin n) (a ∷ b ∷ c ∷ []) (p, (q, (r, tt)))

  pub clauses_within : (y : LitOf) (g : Gate) → LitWithin n y → OthersWithin n (operands g) → All (ClauseWithin n) (clauses_of y g)
  clauses_within y (And a b) w (p, (q, t)) =
      All-from_recursion (ClauseWithin n) (clauses_of y (And a b)) (two (negate y) a w p, (two (negate y) b w q, (three y (negate a) (negate b) w p q, tt)))
  clauses_within y (Xor a b) w (p, (q, t)) =
      All-from_recursion (ClauseWithin n) (clauses_of y (Xor a b))
      (three (negate y) a b w p q, (three (negate y) (negate a) (negate b) w p q, (three y a (negate b) w p q, (three y (negate a) b w p q, tt))))
  clauses_within y (Mux s a b) w (o, (p, (q, t))) =
      All-from_recursion (ClauseWithin n) (clauses_of y (Mux s a b))
      (three (negate y) s a w o p, (three y s (negate a) w o p, (three (negate y) (negate s) b w o q, (three y (negate s) (negate b) w o q, tt))))
  clauses_within y (Maj a b c) w (o, (p, (q, t))) =
      All-from_recursion (ClauseWithin n) (clauses_of y (Maj a b c)) (
        three (negate y) a b w o p,
        (
          three (negate y) a c w o q,
          (
            three (negate y) b c w p q,
            (three y (negate a) (negate b) w o p, (three y (negate a) (negate c) w o q, (three y (negate b) (negate c) w p q, tt))),
          ),
        ),
      )

pub element_within : {A : Type 0} (P : A → Type 0) (xs : List A) (k : ℕ) (x : A) → All P xs → slice_get xs k ≡ Some x → P x
element_within P xs k x all at = All-contains P xs x all (get_in xs k x at)

pub by_fields : {v w : ℕ} {g h : List (Gate × LitOf)} {f e : List Free} {l m : List LitOf} → v ≡ w → g ≡ h → f ≡ e → l ≡ m
    → ◌≡◌ {A = EncodedOf} (record { asks = true; vars = v; gates = g; free = f; goals = l }) (record { asks = true; vars = w; gates = h; free = e; goals = m })
by_fields p q r s = rw (p, q, r, s) refl

-- what is made of all is within
module _ (made : Making) (is : IsMaking (length made.table.items) made) (kept : AreKept made.gates) (room : HasRoom made.gates) where
  abbrev keeps : ℕ → Bool
  keeps = is_kept (made_of made)

  abbrev most : ℕ
  most = number keeps made.gates.formula.vars

  numbers : (v : ℕ) → 0 < v → v ≤ made.gates.formula.vars → (0 < number keeps v) × (number keeps v ≤ most)
  numbers v lo hi = (number_some keeps v (truth_kept made.gates.kept made.goals.items) lo, number_up keeps v made.gates.formula.vars hi)

  entries : All (λ (e : Gate × LitOf). OthersWithin most (operands e.0) × LitWithin most e.1) (finished (made_of made)).gates
  entries =
      All-map (λ (e : Gate × LitOf). OthersWithin most (operands e.0) × LitWithin most e.1) (renumbered_entry keeps) (filter (λ e. keeps e.1.var) made.gates.kept)
      (All-filter (λ (e : Gate × LitOf). keeps e.1.var) (λ (e : Gate × LitOf). OthersWithin most (operands (renumbered_gate keeps e.0)) × LitWithin most (renumbered keeps e.1)) made.gates.kept
      (all_in (λ (e : Gate × LitOf). OthersWithin most (operands (renumbered_gate keeps e.0)) × LitWithin most (renumbered keeps e.1)) made.gates.kept
      (λ e c. (let of = kept.all e.0 e.1 c in let (a, b) = of.within in (renumbered_within keeps made.gates.formula.vars most e.0 numbers of.operands, numbers e.1.var a b)))))

  goals_in : All (LitWithin most) (finished (made_of made)).goals
  goals_in = All-map (LitWithin most) (renumbered keeps) made.goals.items (All-weaker (LitWithin made.gates.formula.vars) (λ l. LitWithin most (renumbered keeps l)) (λ l w. numbers l.var w.0 w.1) made.goals.items is.goals)

  pub finished_within : IsEncoding (finished (made_of made))
  finished_within =
      let few = number_few keeps made.gates.formula.vars in
      let some = numbers made.gates.formula.vars room.some (omega arith) in
      let a = some.0 in
      let b = room.below in
      let c = room.limit in
      record { some = omega arith; limit = omega arith; gates = entries; goals = goals_in }
