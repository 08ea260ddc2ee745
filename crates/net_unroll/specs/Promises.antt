-- What is promised of encodings.
use Rattle.std.specs.Prelude.{◌≡◌, ◌≢◌, ◌⊎◌, ℕ, suc, ◌+◌, ◌*◌, ◌<◌, ◌≤◌, max, Bool, true, false, cond, List, [], ◌∷◌, ◌++◌, length, Some, None, slice_get, Contains, map, eqb, ◌&&◌}
use Rattle.cnf_form.specs.Cnf.{Assignment, Conflict, FormulaOf, LitOf, Satisfies, lit_in}
use Rattle.bit_net.specs.Net.{NetOf, input_var, state_var}
use Rattle.bit_net.specs.declared.node.State.{State}
use Rattle.gate_graph.specs.declared.gate.Gate.{Gate}
use Rattle.gate_graph.specs.declared.gate.Gate.TheVariants.{And, Xor, Mux, Maj}
use Rattle.gate_graph.specs.Circuit.{IsFixed}
use Rattle.gate_graph.specs.Folding.{majority}
use Rattle.net_unroll.specs.Asking.{goal_of}
use Rattle.net_unroll.specs.Encoding.{EncodedOf, formula_of}
use Rattle.net_unroll.specs.Program.{needed}
use Rattle.net_unroll.specs.declared.asking.Asked.{Asked}
use Rattle.net_unroll.specs.declared.asking.Cycles.{Cycles}
use Rattle.net_unroll.specs.declared.encoded.Free.{Free}

abbrev pub CanBeSatisfied : FormulaOf → Type 0
CanBeSatisfied f = (x : Assignment) × Satisfies x f.clauses

-- what is open in a cycle, by its variable
pub data IsOpenAt (n : NetOf) (start : Bool) (t v : ℕ) : Type 0 where
  -- each input
  an_input : (k : ℕ) → k < n.inputs → v ≡ input_var n k → IsOpenAt n start t v
  -- in the first cycle each state, but for those with a start digit where it is a start
  a_state : (k : ℕ) (s : State) → slice_get n.states k ≡ Some s → v ≡ state_var k → t ≡ 0 → (start ≡ true → s.start ≡ None) → IsOpenAt n start t v

-- the bit that an assignment gives what is open at a variable in a cycle: 0 where it has no free variable
abbrev pub told_by : Assignment → List Free → ℕ → ℕ → Bool
told_by x [] t v = false
told_by x (f ∷ fs) t v = cond (eqb f.cycle t && eqb f.place v) (x f.var) (told_by x fs t v)

-- the place of the first literal that is true
abbrev pub first_true : Assignment → List LitOf → ℕ
first_true x [] = 0
first_true x (l ∷ ls) = cond (lit_in x l) 0 (suc (first_true x ls))

-- how many cycles an assignment tells: those up to the first that may be the last and whose goal is true
abbrev pub cycles_told : Cycles → EncodedOf → Assignment → ℕ
cycles_told c e x = suc (max c.first c.end + first_true x e.goals)

-- In the cycles that are told, what is open has the bit of its free variable, and 0 where it has none.
pub record IsTold (n : NetOf) (c : Cycles) (e : EncodedOf) (x : Assignment) (xs : ℕ → Assignment) : Type 0 where
  pub bits : (f : Free) → Contains e.free f → f.cycle < cycles_told c e x → xs f.cycle f.place ≡ x f.var
  pub rest : (t v : ℕ) → t < cycles_told c e x → IsOpenAt n c.start t v → ((f : Free) → Contains e.free f → f.cycle ≡ t → f.place ≡ v → ⊥) → xs t v ≡ false

abbrev pub AreDistinct : {A : Type 0} → List A → Type 0
AreDistinct xs = (i j : ℕ) (x : _) → slice_get xs i ≡ Some x → slice_get xs j ≡ Some x → i ≡ j

-- Each free variable is of the formula and stands for a bit that is open in a cycle, on which rests what is asked there and later; no two
-- for one bit.
pub record HasOrigins (n : NetOf) (a : Asked) (c : Cycles) (e : EncodedOf) : Type 0 where
  pub within : (f : Free) → Contains e.free f → (0 < f.var) × (f.var ≤ e.vars)
  pub distinct : AreDistinct (map (λ (f : Free). f.var) e.free)
  pub apart : AreDistinct (map (λ (f : Free). let p : ℕ × ℕ = (f.cycle, f.place) in p) e.free)
  pub open_bits : (f : Free) → Contains e.free f → (f.cycle < c.count) × IsOpenAt n c.start f.cycle f.place
  pub needed : (f : Free) → Contains e.free f → (goal : LitOf) → goal_of n a ≡ Some goal → Contains (needed n goal c f.cycle) f.place

-- a unit clause among these fixes the variable
abbrev pub IsFixedByUnit : List (List LitOf) → ℕ → Type 0
IsFixedByUnit F v = (b : Bool) × Contains F (record { var = v; negated = b } ∷ [])

-- Where every free variable is fixed by a unit clause, whatever else is added, unit propagation finds a conflict or fixes every
-- variable.
pub record Propagates (e : EncodedOf) : Type 0 where
  pub rule : (more : List (List LitOf)) → ((f : Free) → Contains e.free f → IsFixedByUnit ((formula_of e).clauses ++ more) f.var)
      → Conflict ((formula_of e).clauses ++ more) ⊎ ((v : ℕ) → 0 < v → v ≤ e.vars → IsFixed ((formula_of e).clauses ++ more) v)

-- v is the greatest variable of some clause, in which w stands
abbrev pub IsBelow : List (List LitOf) → ℕ → ℕ → Type 0
IsBelow F v w = (k : List LitOf) × Contains F k × ((l : LitOf) × Contains k l × (l.var ≡ v)) × ((l : LitOf) → Contains k l → l.var ≤ v) × ((l : LitOf) × Contains k l × (l.var ≡ w))

-- Each variable but the first is one of the last clause, or stands below one of those: none is idle. The clauses are at most six for each
-- variable and two.
pub record Tight (f : FormulaOf) : Type 0 where
  pub gates : List (List LitOf)
  pub goal : List LitOf
  pub last : f.clauses ≡ gates ++ goal ∷ []
  pub least : (test : ℕ → Bool) → ((l : LitOf) → Contains goal l → test l.var ≡ true) → ((v w : ℕ) → test v ≡ true → IsBelow gates v w → test w ≡ true)
      → (v : ℕ) → 1 < v → v ≤ f.vars → test v ≡ true
  pub few : length f.clauses ≤ 6 * f.vars + 2

-- No gate is kept twice, and no variable is that of two gates.
pub record Shared (e : EncodedOf) : Type 0 where
  pub gates : AreDistinct (map (λ (d : Gate × LitOf). d.0) e.gates)
  pub vars : AreDistinct (map (λ (d : Gate × LitOf). d.1.var) e.gates)

-- In normal form: no operand is constant, as variable 1 is, no two are of one variable, operands whose order is free rise, and no sign
-- stands that the gate's literal can take.
abbrev pub IsFolded : Gate → Type 0
IsFolded (And a b) = (1 < a.var) × (a.var < b.var)
IsFolded (Xor a b) = (1 < a.var) × (a.var < b.var) × (a.negated ≡ false) × (b.negated ≡ false)
IsFolded (Mux s a b) = (1 < s.var) × (1 < a.var) × (1 < b.var) × (s.var ≢ a.var) × (s.var ≢ b.var) × (a.var ≢ b.var) × (s.negated ≡ false) × (a.negated ≡ false)
IsFolded (Maj a b c) = (1 < a.var) × (a.var < b.var) × (b.var < c.var) × (majority a.negated b.negated c.negated ≡ false)

-- each gate is folded
abbrev pub Folded : EncodedOf → Type 0
Folded e = (d : Gate × LitOf) → Contains e.gates d → IsFolded d.0
