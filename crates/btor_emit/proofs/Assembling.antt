-- The parts of an emission, put together.
use Rattle.std.proofs.Common.{◌≡◌, ℕ, zero, suc, ◌+◌, ◌-◌, ◌<◌, Bool, true, false, List, [], ◌∷◌, ◌++◌, Some, None, length, map, take, refl, sym, ap, subst, ◌∙◌, arith, length-append}
use Rattle.std.specs.Prelude.{◌&&◌, not, eqb, All, Contains, slice_get, sum_by}
use Rattle.std.specs.List.{concat, flat_map}
use Rattle.std.proofs.Math.Seq.{take-length}
use Rattle.std.proofs.lemmas.Bool.Decides.{nat_tests}
use Rattle.std.proofs.lemmas.Grind.{flat_map-append}
use Rattle.std.proofs.lemmas.List.Elements.{All-contains}
use Rattle.std.proofs.lemmas.List.Sums.{sum_by-append, sum_by-cons}
use Rattle.std.proofs.lemmas.Option.{slice_get_within}
use Rattle.sby_bits.specs.Rows.{Row}
use Rattle.cell_table.specs.Cells.{slice_fn}
use Rattle.btor_core.specs.Fits.{IsUntied}
use Rattle.btor_core.specs.Growth.{Grows}
use Rattle.btor_core.specs.Meaning.{GoesOn, Holds, IsBad, IsMet, Starts as LinesStart, Values}
use Rattle.btor_core.specs.Shape.{BtorOf, TieOf, bads, constraints, inits, nexts, open_words, state_at}
use Rattle.btor_core.specs.declared.line.Word.{Word}
use Rattle.btor_core.proofs.Choosing.{front_holds}
use Rattle.btor_core.proofs.Fitting.{state_stays}
use Rattle.btor_core.proofs.Growing.{grows_on}
use Rattle.btor_words.proofs.Emitting.{word_long}
use Rattle.btor_emit.specs.Drawing.{IsCycle, IsDrawn}
use Rattle.btor_emit.specs.Emission.{IsEmission, open_row}
use Rattle.btor_emit.specs.Emitting.{AreInputs, AreStates, IsStart, IsStateWord}
use Rattle.btor_emit.specs.Goals.{IsGoal, goals}
use Rattle.btor_emit.specs.Nexts.{AreNexts, AreStateLines}
use Rattle.btor_emit.specs.Nodes.{AreNodes}
use Rattle.btor_emit.specs.Reads.{AreReadInputs, IsRead}
use Rattle.btor_emit.specs.Said.{AreSaid, goal_bit, is_held}
use Rattle.btor_emit.specs.States.{AreStretches, IsInputLine, IsShape, IsStateLine, IsStretchOf, bits_of, places_of, start_of}
use Rattle.btor_emit.specs.Table.{Table, bit_in, cycle_of}
use Rattle.btor_emit.specs.declared.goal.Goal.{Goal}
use Rattle.btor_emit.specs.declared.goal.Goal.TheVariants as goal
use Rattle.btor_emit.specs.declared.shape.State.{State}
use Rattle.btor_emit.proofs.Agreeing.{assumed_goes, follows_go, goal_goes, starts_go}
use Rattle.btor_emit.proofs.Bits.{input_row, known_start, part_comes, part_there, same_widths, start_bit, start_row, state_of_bit, whole_width}
use Rattle.btor_emit.proofs.Covering.{cover_all, same_parts_same}
use Rattle.btor_emit.proofs.Gathering.{row_by_bits}
use Rattle.btor_emit.proofs.Kept.{joined_there}
use Rattle.btor_emit.proofs.Leaves.{state_width_stays}
use Rattle.btor_emit.proofs.Moving.{slice_row}
use Rattle.btor_emit.proofs.Opening.{Rising, rising}
use Rattle.btor_emit.proofs.Rowing.{read_few, read_input, read_rows_of}
use Rattle.btor_emit.proofs.Running.{runs_from, runs_to}
use Rattle.place_rows.specs.Rows.{AreRowsOf}
use Rattle.model_core.specs.Meaning.{Assumed, Cycle, Follows, Frame, Starts, next_states, row_at}
use Rattle.model_core.specs.Served.{IsModel}
use Rattle.model_core.specs.Shape.{ModelOf, NodeOf, reads, sources, states}
use Rattle.model_core.specs.declared.model.Statement.{Statement}
use Rattle.model_core.proofs.Fitting.{length-row_at}
use Rattle.model_core.proofs.Lists.{all_at, all_from, app_left, app_right, at_place, contained_at, contains_left, contains_right, place_of_contained}
use Rattle.model_core.proofs.Runs.{follows_row, next_states_wide, row_follows}
use Rattle.model_core.proofs.Writing.{row_append, row_same}

both_set : (a b : Bool) → (a && b) ≡ true → (a ≡ true) × (b ≡ true)
both_set true b e = (refl, e)
both_set false b e = absurd (cc)

turned_off : (a : Bool) → not a ≡ true → a ≡ false
turned_off true e = absurd (cc)
turned_off false e = refl

-- what is asked of a cycle, by its statement
goal_is : (m : ModelOf) (g : Goal) (c : Cycle) (k : ℕ) (s : Statement) → slice_get (goals m g) k ≡ Some s → goal_bit g c s ≡ true → IsGoal m g c k
goal_is m goal.Asserts c k s at e = let b = both_set (c s.en) (not (c s.a)) e in (s, at, b.0, turned_off (c s.a) b.1)
goal_is m (goal.Cover j) c k s at e =
    let b = both_set (c s.en) (c s.a) e in
    let p = part_comes j 1 k (j + k) m.covers s refl at in
    let l = p.0 in
    let zero_th : k ≡ 0 = omega arith in
    let here : j + k ≡ j = omega arith in
    (zero_th, (s, ap (λ (n : ℕ). slice_get m.covers n) (sym here) ∙ p.1, b.0, b.1))

goal_of : (m : ModelOf) (g : Goal) (c : Cycle) (k : ℕ) → IsGoal m g c k → (s : Statement) × (slice_get (goals m g) k ≡ Some s) × (goal_bit g c s ≡ true)
goal_of m goal.Asserts c k (s, at, en, a) = (s, at, rw (en, a) refl)
goal_of m (goal.Cover j) c k (e, (s, at, en, a)) = (s, part_there j 1 k j m.covers s (omega arith) (omega arith) at, rw (en, a) refl)

-- states are different lines
rising_apart : (ws : List Word) → Rising ws → (i j : ℕ) (a b : Word) → slice_get ws i ≡ Some a → slice_get ws j ≡ Some b → a.nid ≡ b.nid → i ≡ j
rising_apart [] r i j a b x y e = absurd (let n : None ≡ Some a = x in cc)
rising_apart (w ∷ ws) r zero zero a b x y e = refl
rising_apart (w ∷ ws) r zero (suc j) a b x y e =
    let same : w ≡ a = cc in
    let l : w.nid < b.nid = all_at (λ (u : Word). w.nid < u.nid) ws j b r.0 y in
    let z : w.nid ≡ b.nid = ap (λ (u : Word). u.nid) same ∙ e in
    absurd (omega arith)
rising_apart (w ∷ ws) r (suc i) zero a b x y e =
    let same : w ≡ b = cc in
    let l : w.nid < a.nid = all_at (λ (u : Word). w.nid < u.nid) ws i a r.0 x in
    let z : w.nid ≡ a.nid = ap (λ (u : Word). u.nid) same ∙ sym e in
    absurd (omega arith)
rising_apart (w ∷ ws) r (suc i) (suc j) a b x y e = ap suc (rising_apart ws r.1 i j a b x y e)

word_at : (ss : List State) (i : ℕ) (s : State) → slice_get ss i ≡ Some s → slice_get (map (λ s. s.word) ss) i ≡ Some s.word
word_at [] i s h = absurd (let n : None ≡ Some s = h in cc)
word_at (x ∷ ss) zero s h = let e : x ≡ s = cc in ap (λ (u : State). Some u.word) e
word_at (x ∷ ss) (suc i) s h = word_at ss i s h

pub states_apart : (m : ModelOf) (e : BtorOf) (t : Table) (ss : List State) (n : ℕ) → AreStates m e t ss n → (i j : ℕ) (s u : State) → slice_get ss i ≡ Some s → slice_get ss j ≡ Some u → s.word.nid ≡ u.word.nid → i ≡ j
states_apart m e t ss n p i j s u a b same =
    rising_apart (map (λ (v : State). v.word) ss) (subst Rising p.opened (rising e p.btor)) i j s.word u.word (word_at ss i s a) (word_at ss j u b) same

-- states' lines, as the next rows need them
pub state_lines : (m : ModelOf) (e1 e2 : BtorOf) (t : Table) (ss : List State) → AreStates m e1 t ss (length (states m)) → Grows e1 e2 → AreStateLines m e2 ss
state_lines m e1 e2 t ss p g = record {
  stretches = record { each = all_from (IsStretchOf m) ss (λ k s at. (all_at (IsStateWord m e1 t) ss k s p.each at).stretch); joined = p.joined; whole = p.whole };
  lines = all_from (λ (s : State). state_at e2.lines s.word.nid ≡ s.word.width) ss (λ k s at. let w = all_at (IsStateWord m e1 t) ss k s p.each at in state_stays e1 e2 g s.word.nid s.word.width w.line.state w.stretch.some);
  apart = states_apart m e1 t ss (length (states m)) p;
}

module _ (m : ModelOf) (g : Goal) (is : IsModel m) (ss : List State) (rows : List (List ℕ)) (ok : AreRowsOf m.inputs rows) (read : List (List ℕ)) (is_read : AreReadInputs m rows read) (e1 e2 e3 e4 e5 e6 : BtorOf) (t1 t2 t3 t4 t5 t6 : Table) (p1 : AreStates m e1 t1 ss (length (states m))) (p2 : AreInputs e1 e2 t1 t2 read)
    (p3 : AreNodes m e2 e3 t2 t3 (length m.nodes)) (p4 : AreNexts m e3 e4 t3 t4 ss (length ss)) (p5 : AreSaid constraints bads e4 e5 t4 t5 m.assumes is_held) (p6 : AreSaid bads constraints e5 e6 t5 t6 (goals m g) (goal_bit g)) where
  -- the places of all inputs of the lines
  abbrev inputs : List ℕ
  inputs = concat read

  read_there : (p : ℕ) → Contains m.inputs p → IsRead m p → Contains inputs p
  read_there = read_input m is rows ok read is_read

  -- values of all lines are values of each part's
  holds5 : (vs : Values) → Holds e6 vs → Holds e5 vs
  holds5 vs h = front_holds e5 e6 p5.only.btor p6.only.grows vs h

  holds4 : (vs : Values) → Holds e6 vs → Holds e4 vs
  holds4 vs h = front_holds e4 e5 p4.only.btor p5.only.grows vs (holds5 vs h)

  holds3 : (vs : Values) → Holds e6 vs → Holds e3 vs
  holds3 vs h = front_holds e3 e4 p3.adds.btor p4.only.grows vs (holds4 vs h)

  holds2 : (vs : Values) → Holds e6 vs → Holds e2 vs
  holds2 vs h = front_holds e2 e3 p2.btor p3.adds.grows vs (holds3 vs h)

  holds1 : (vs : Values) → Holds e6 vs → Holds e1 vs
  holds1 vs h = front_holds e1 e2 p1.btor p2.grows vs (holds2 vs h)

  grows26 : Grows e2 e6
  grows26 = grows_on e2 e5 e6 (grows_on e2 e4 e5 (grows_on e2 e3 e4 p3.adds.grows p4.only.grows) p5.only.grows) p6.only.grows

  abbrev cycle : Values → Cycle
  cycle vs = cycle_of t3 vs

  stretches : AreStretches m ss
  stretches = record { each = all_from (IsStretchOf m) ss (λ k s at. (all_at (IsStateWord m e1 t1) ss k s p1.each at).stretch); joined = p1.joined; whole = p1.whole }

  long : length m.starts ≡ length (states m)
  long = is.starts

  -- the constants are no state bits and no inputs
  source_at : (k p : ℕ) → slice_get (states m ++ m.inputs) k ≡ Some p → slice_get (sources m) (suc (suc k)) ≡ Some p
  source_at k p h = h

  constant_apart : (i p : ℕ) → i < 2 → slice_get (sources m) i ≡ Some p → Contains (states m ++ m.inputs) p → ⊥
  constant_apart i p l a c =
      let at = place_of_contained (states m ++ m.inputs) p c in
      let same = is.once i (suc (suc at.0)) p (app_left (sources m) _ i p a) (app_left (sources m) _ (suc (suc at.0)) p at.1) in
      omega arith

  read_inside : (p : ℕ) → Contains inputs p → Contains m.inputs p
  read_inside p c = (read_rows_of m is rows ok read is_read).inside p c

  state_apart : (p : ℕ) → Contains (states m) p → Contains inputs p → ⊥
  state_apart p a b =
      let x = place_of_contained (states m) p a in
      let y = place_of_contained m.inputs p (read_inside p b) in
      let l = slice_get_within (states m) x.0 p x.1 in
      let first : slice_get (states m ++ m.inputs) x.0 ≡ Some p = app_left (states m) m.inputs x.0 p x.1 in
      let second : slice_get (states m ++ m.inputs) (length (states m) + y.0) ≡ Some p = app_right (states m) m.inputs y.0 (length (states m) + y.0) refl ∙ y.1 in
      let same = is.once (suc (suc x.0)) (suc (suc (length (states m) + y.0))) p (app_left (sources m) _ (suc (suc x.0)) p first) (app_left (sources m) _ (suc (suc (length (states m) + y.0))) p second) in
      omega arith

  constant_bit : (vs : Values) → Holds e6 vs → (i p : ℕ) → i < 2 → slice_get (sources m) i ≡ Some p → cycle vs p ≡ eqb p (suc m.zero)
  constant_bit vs h i p l at =
      let none = constant_apart i p l at in
      p3.same vs (holds3 vs h) p (contained_at (sources m) p i at) ∙ ap (bit_in vs) (p2.else p (λ c. none (contains_right (states m) m.inputs p (read_inside p c))) ∙ p1.else p (λ c. none (contains_left (states m) m.inputs p (all_of c))))
    where
      all_of : Contains (take (length (states m)) (states m)) p → Contains (states m) p
      all_of c = subst (λ (ps : List ℕ). Contains ps p) (take-length (states m)) c

  frame : (vs : Values) → Holds e6 vs → Frame m (cycle vs)
  frame vs h =
      let z : eqb m.zero (suc m.zero) ≡ false = grind (arith, nat_tests) in
      let o : eqb (suc m.zero) (suc m.zero) ≡ true = grind (arith, nat_tests) in
      record {
        zero = constant_bit vs h 0 m.zero (omega arith) refl ∙ z;
        one = constant_bit vs h 1 (suc m.zero) (omega arith) refl ∙ o;
        nodes = λ i n at. p3.adds.holds vs (holds3 vs h) i n (slice_get_within m.nodes i n at) at;
      }

  -- a state's row is that of its places
  state_source : (p : ℕ) → Contains (states m) p → Contains (sources m) p
  state_source p c = let at = place_of_contained (states m) p c in contained_at (sources m) p (suc (suc at.0)) (app_left (states m) m.inputs at.0 p at.1)

  state_bit : (vs : Values) → Holds e6 vs → (p : ℕ) → Contains (states m) p → cycle_of t1 vs p ≡ cycle vs p
  state_bit vs h p c = sym (p3.same vs (holds3 vs h) p (state_source p c) ∙ ap (bit_in vs) (p2.else p (state_apart p c)))

  state_row : (vs : Values) → Holds e6 vs → (k : ℕ) (s : State) → slice_get ss k ≡ Some s → vs s.word.nid ≡ row_at (cycle vs) (places_of m s)
  state_row vs h k s at =
      (all_at (IsStateWord m e1 t1) ss k s p1.each at).bits vs (holds1 vs h)
      ∙ row_same (cycle_of t1 vs) (cycle vs) (places_of m s)
      (λ p c. let x = place_of_contained (places_of m s) p c in state_bit vs h p (contained_at (states m) p (s.first + x.0) (part_comes s.first s.word.width x.0 (s.first + x.0) (states m) p refl x.1).1))

  state_part : (vs : Values) → Holds e6 vs → (k : ℕ) (s : State) → slice_get ss k ≡ Some s → vs s.word.nid ≡ slice_fn s.word.width s.first (row_at (cycle vs) (states m))
  state_part vs h k s at = state_row vs h k s at ∙ slice_row (cycle vs) s.word.width s.first (states m)

  states_row : (vs : Values) → Holds e6 vs → flat_map (λ s. vs s.word.nid) ss ≡ row_at (cycle vs) (states m)
  states_row vs h = cover_all ss stretches.joined (λ (s : State). vs s.word.nid) (row_at (cycle vs) (states m)) (λ k s at. state_part vs h k s at) (stretches.whole ∙ sym (length-row_at (cycle vs) (states m)))

  inputs_row : (vs : Values) → Holds e6 vs → flat_map (λ a. vs a.nid) p2.ws ≡ row_at (cycle vs) inputs
  inputs_row vs h = input_row vs (cycle vs) read p2.ws p2.long (λ k row a x y.
      let each = p2.each k row a x y in
      row_by_bits (cycle vs) row (vs a.nid) (word_long vs each.word (holds2 vs h) ∙ each.width) (λ j p at.
      let inside = read_inside p (joined_there read row p (contained_at read row k x) (contained_at row p j at)) in
      let place = place_of_contained m.inputs p inside in
      let source : Contains (sources m) p = contained_at (sources m) p (suc (suc (length (states m) + place.0))) (app_right (states m) m.inputs place.0 (length (states m) + place.0) refl ∙ place.1) in
      sym (p3.same vs (holds3 vs h) p source ∙ ap (bit_in vs) (each.bits j p at))))

  opened : open_words e6.lines ≡ map (λ s. s.word) ss ++ p2.ws
  opened = p6.only.opened ∙ p5.only.opened ∙ p4.only.opened ∙ p3.adds.opened ∙ p2.opened ∙ ap (λ (ws : List Word). ws ++ p2.ws) p1.opened

  flat_words : (vs : Values) (us : List State) → flat_map (λ a. vs a.nid) (map (λ s. s.word) us) ≡ flat_map (λ s. vs s.word.nid) us
  flat_words vs [] = refl
  flat_words vs (u ∷ us) = ap (λ (r : Row). vs u.word.nid ++ r) (flat_words vs us)

  pub bits : (vs : Values) → Holds e6 vs → open_row e6 vs ≡ row_at (cycle vs) (states m ++ inputs)
  bits vs h =
      ap (flat_map (λ (a : Word). vs a.nid)) opened ∙ flat_map-append (λ (a : Word). vs a.nid) (map (λ (s : State). s.word) ss) p2.ws ∙ ap (λ (r : Row). r ++ flat_map (λ (a : Word). vs a.nid) p2.ws) (flat_words vs ss ∙ states_row vs h)
      ∙ ap (λ (r : Row). row_at (cycle vs) (states m) ++ r) (inputs_row vs h) ∙ sym (row_append (cycle vs) (states m) inputs)

  sum_words : (us : List State) → sum_by (λ a. a.width) (map (λ s. s.word) us) ≡ bits_of us
  sum_words [] = refl
  sum_words (u ∷ us) = sum_by-cons (λ (a : Word). a.width) u.word (map (λ (s : State). s.word) us) ∙ ap (λ (n : ℕ). u.word.width + n) (sum_words us) ∙ sym (sum_by-cons (λ (s : State). s.word.width) u us)

  total : sum_by (λ a. a.width) (open_words e6.lines) ≡ length (states m ++ inputs)
  total =
      ap (sum_by (λ (a : Word). a.width)) opened ∙ sum_by-append (λ (a : Word). a.width) (map (λ (s : State). s.word) ss) p2.ws
      ∙ (let a = sum_words ss in let w = stretches.whole in let b = whole_width p2.ws read p2.long (λ k row a x y. (p2.each k row a x y).width) in let c = length-append (states m) inputs in omega arith)

  here : (vs : Values) → Holds e6 vs → IsCycle m e6 inputs vs (cycle vs)
  here vs h = record { holds = h; frame = frame vs h; bits = bits vs h }

  -- rows of open bits of a cycle of the model and of the table's
  same_row : (vs : Values) (c : Cycle) → IsCycle m e6 inputs vs c → row_at c (states m ++ inputs) ≡ row_at (cycle vs) (states m ++ inputs)
  same_row vs c i = sym i.bits ∙ bits vs i.holds

  -- starts
  inits_are : inits e6.lines ≡ inits e1.lines
  inits_are = p6.only.inits ∙ p5.only.inits ∙ p4.only.inits ∙ p3.adds.lists.inits ∙ p2.lists.inits

  state_line : (k : ℕ) (s : State) → slice_get ss k ≡ Some s → IsStateWord m e1 t1 s
  state_line k s at = all_at (IsStateWord m e1 t1) ss k s p1.each at

  start_there : (vs : Values) → Holds e6 vs → (t : TieOf) → Contains (inits e1.lines) t → IsStart m e1 ss t
  start_there vs h t c = All-contains (IsStart m e1 ss) (inits e1.lines) t p1.starts c

  begins : (apart : (i j : ℕ) (s u : State) → slice_get ss i ≡ Some s → slice_get ss j ≡ Some u → s.word.nid ≡ u.word.nid → i ≡ j) (vs : Values) → Holds e6 vs → LinesStart e6 vs → Starts m (cycle vs)
  begins apart vs h starts k p x there digit =
      let f = state_of_bit m ss stretches long k (slice_get_within (states m) k p there) in
      let s : State = f.1 in
      let has = known_start m ss stretches long f.0 k s x f.2 f.3 f.4 digit in
      let tie = (state_line f.0 s f.2).line.started has in
      let t : TieOf = record { state = s.word.nid; value = tie.0 } in
      let start = start_there vs h t tie.1 in
      let at = place_of_contained ss start.s start.of in
      let place : f.0 ≡ at.0 = apart f.0 at.0 s start.s f.2 at.1 start.state in
      let e : Some s ≡ Some start.s = sym f.2 ∙ ap (λ (n : ℕ). slice_get ss n) place ∙ at.1 in
      let same : start.s ≡ s = (let z : s ≡ start.s = cc in sym z) in
      let line : vs s.word.nid ≡ vs tie.0 = All-contains (λ (u : TieOf). vs u.state ≡ vs u.value) (inits e6.lines) t starts (subst (λ (us : List TieOf). Contains us t) (sym inits_are) tie.1) in
      let row : row_at (cycle vs) (places_of m s) ≡ start_of m s = sym (state_row vs h f.0 s f.2) ∙ line ∙ start.value vs (holds1 vs h) ∙ ap (start_of m) same in
      start_bit m ss stretches long (cycle vs) f.0 k p s x f.2 f.3 f.4 there digit row

  begins_back : (vs : Values) → Holds e6 vs → Starts m (cycle vs) → LinesStart e6 vs
  begins_back vs h starts =
      all_from (λ (u : TieOf). vs u.state ≡ vs u.value) (inits e6.lines) (λ j t at.
      let start = start_there vs h t (subst (λ (us : List TieOf). Contains us t) inits_are (contained_at (inits e6.lines) t j at)) in
      let k = place_of_contained ss start.s start.of in
      ap vs start.state ∙ state_row vs h k.0 start.s k.1 ∙ start_row m ss stretches long (cycle vs) k.0 start.s k.1 start.has starts ∙ sym (start.value vs (holds1 vs h)))

  -- next rows
  nexts_are : nexts e6.lines ≡ p4.ties
  nexts_are = p6.only.nexts ∙ p5.only.nexts ∙ p4.only.nexts ∙ ap (λ (us : List TieOf). us ++ p4.ties) (p3.adds.lists.nexts ∙ p2.lists.nexts ∙ p1.nexts)

  tie_part : (vs us : Values) → Holds e6 vs → Holds e6 us → (k : ℕ) (s : State) (t : TieOf) → slice_get ss k ≡ Some s → slice_get p4.ties k ≡ Some t → (us t.state ≡ slice_fn s.word.width s.first (row_at (cycle us) (states m))) × (vs t.value ≡ slice_fn s.word.width s.first (next_states m (cycle vs)))
  tie_part vs us h g k s t at there =
      let p = p4.each k s t at there in
      let n : s.first - 0 ≡ s.first = omega arith in
      (ap us p.state ∙ state_part us g k s at, p.value vs (holds4 vs h) ∙ ap (λ (o : ℕ). slice_fn s.word.width o (next_states m (cycle vs))) n)

  goes : (vs us : Values) → Holds e6 vs → Holds e6 us → GoesOn e6 vs us → Follows m (cycle vs) (cycle us)
  goes vs us h g on =
      row_follows m is (cycle vs) (cycle us)
      (same_parts_same ss stretches.joined (row_at (cycle us) (states m)) (next_states m (cycle vs)) (stretches.whole ∙ sym (length-row_at (cycle us) (states m))) (stretches.whole ∙ sym (next_states_wide m is (cycle vs)))
      (λ k s at.
      let t = at_place p4.ties k (let l = slice_get_within ss k s at in let e = p4.long in omega arith) in
      let p = tie_part vs us h g k s t.0 at t.1 in
      let tie : us t.0.state ≡ vs t.0.value = All-contains (λ (u : TieOf). us u.state ≡ vs u.value) (nexts e6.lines) t.0 on (subst (λ (ts : List TieOf). Contains ts t.0) (sym nexts_are) (contained_at p4.ties t.0 k t.1)) in
      sym p.0 ∙ tie ∙ p.1))

  goes_back : (vs us : Values) → Holds e6 vs → Holds e6 us → Follows m (cycle vs) (cycle us) → GoesOn e6 vs us
  goes_back vs us h g follows =
      let row = follows_row m is (cycle vs) (cycle us) follows in
      subst (λ (ts : List TieOf). All (λ (u : TieOf). us u.state ≡ vs u.value) ts) (sym nexts_are)
      (all_from (λ (u : TieOf). us u.state ≡ vs u.value) p4.ties (λ k t there.
      let s = at_place ss k (let l = slice_get_within p4.ties k t there in let e = p4.long in omega arith) in
      let p = tie_part vs us h g k s.0 t s.1 there in
      p.0 ∙ ap (λ (r : Row). slice_fn s.0.word.width s.0.first r) row ∙ sym p.1))

  -- constraints
  constraints_are : constraints e6.lines ≡ p5.said
  constraints_are = p6.only.kept ∙ p5.only.more ∙ ap (λ (ns : List ℕ). ns ++ p5.said) (p4.only.constraints ∙ p3.adds.lists.constraints ∙ p2.lists.constraints ∙ p1.constraints)

  bads_are : bads e6.lines ≡ p6.said
  bads_are = p6.only.more ∙ ap (λ (ns : List ℕ). ns ++ p6.said) (p5.only.kept ∙ p4.only.bads ∙ p3.adds.lists.bads ∙ p2.lists.bads ∙ p1.bads)

  local_held : (c d : Cycle) (s : Statement) → ((p : ℕ) → d p ≡ c p) → is_held d s ≡ is_held c s
  local_held c d s h = rw (h s.a, h s.en) refl

  local_goal : (c d : Cycle) (k : Goal) (s : Statement) → ((p : ℕ) → d p ≡ c p) → goal_bit k d s ≡ goal_bit k c s
  local_goal c d goal.Asserts s h = rw (h s.a, h s.en) refl
  local_goal c d (goal.Cover j) s h = rw (h s.a, h s.en) refl

  said_held : (vs : Values) → Holds e6 vs → (k n : ℕ) (s : Statement) → slice_get m.assumes k ≡ Some s → slice_get p5.said k ≡ Some n → vs n ≡ is_held (cycle vs) s ∷ []
  said_held vs h k n s at there = p5.each k n s at there vs (holds5 vs h) ∙ ap (λ (b : Bool). b ∷ []) (local_held (cycle vs) (cycle_of t4 vs) s (λ p. p4.same vs (holds4 vs h) p))

  said_goal : (vs : Values) → Holds e6 vs → (k n : ℕ) (s : Statement) → slice_get (goals m g) k ≡ Some s → slice_get p6.said k ≡ Some n → vs n ≡ goal_bit g (cycle vs) s ∷ []
  said_goal vs h k n s at there = p6.each k n s at there vs h ∙ ap (λ (b : Bool). b ∷ []) (local_goal (cycle vs) (cycle_of t5 vs) g s (λ p. p5.only.same vs (holds5 vs h) p ∙ p4.same vs (holds4 vs h) p))

  one_bit : (b : Bool) → b ∷ [] ≡ true ∷ [] → b ≡ true
  one_bit b e = cc

  meets : (vs : Values) → Holds e6 vs → IsMet e6 vs → Assumed m (cycle vs)
  meets vs h met i s at =
      let n = at_place p5.said i (let l = slice_get_within m.assumes i s at in let e = p5.long in omega arith) in
      let set : vs n.0 ≡ true ∷ [] = All-contains (λ (k : ℕ). vs k ≡ true ∷ []) (constraints e6.lines) n.0 met (subst (λ (ns : List ℕ). Contains ns n.0) (sym constraints_are) (contained_at p5.said n.0 i n.1)) in
      one_bit (is_held (cycle vs) s) (sym (said_held vs h i n.0 s at n.1) ∙ set)

  meets_back : (vs : Values) → Holds e6 vs → Assumed m (cycle vs) → IsMet e6 vs
  meets_back vs h assumed =
      subst (λ (ns : List ℕ). All (λ (k : ℕ). vs k ≡ true ∷ []) ns) (sym constraints_are)
      (all_from (λ (k : ℕ). vs k ≡ true ∷ []) p5.said (λ i n there.
      let s = at_place m.assumes i (let l = slice_get_within p5.said i n there in let e = p5.long in omega arith) in
      said_held vs h i n s.0 s.1 there ∙ ap (λ (b : Bool). b ∷ []) (assumed i s.0 s.1)))

  said_goals : (vs : Values) → Holds e6 vs → (k : ℕ) → IsBad e6 vs k → IsGoal m g (cycle vs) k
  said_goals vs h k (n, at, set) =
      let there : slice_get p6.said k ≡ Some n = ap (λ (ns : List ℕ). slice_get ns k) (sym bads_are) ∙ at in
      let s = at_place (goals m g) k (let l = slice_get_within p6.said k n there in let e = p6.long in omega arith) in
      goal_is m g (cycle vs) k s.0 s.1 (one_bit (goal_bit g (cycle vs) s.0) (sym (said_goal vs h k n s.0 s.1 there) ∙ set))

  said_goals_back : (vs : Values) → Holds e6 vs → (k : ℕ) → IsGoal m g (cycle vs) k → IsBad e6 vs k
  said_goals_back vs h k b =
      let s = goal_of m g (cycle vs) k b in
      let n = at_place p6.said k (let l = slice_get_within (goals m g) k s.0 s.1 in let e = p6.long in omega arith) in
      (n.0, ap (λ (ns : List ℕ). slice_get ns k) bads_are ∙ n.1, said_goal vs h k n.0 s.0 s.1 n.1 ∙ ap (λ (x : Bool). x ∷ []) s.2)

  apart : (i j : ℕ) (s u : State) → slice_get ss i ≡ Some s → slice_get ss j ≡ Some u → s.word.nid ≡ u.word.nid → i ≡ j
  apart = states_apart m e1 t1 ss (length (states m)) p1

  pub drawn : IsDrawn m g e6 inputs
  drawn = record {
    btor = p6.only.btor;
    total = total;
    cycle = λ vs h. (cycle vs, here vs h);
    starts = λ vs c i. (
      (λ s. starts_go m is inputs read_there (cycle vs) c (frame vs i.holds) i.frame (sym (same_row vs c i)) (begins apart vs i.holds s)),
      (λ s. begins_back vs i.holds (starts_go m is inputs read_there c (cycle vs) i.frame (frame vs i.holds) (same_row vs c i) s)),
    );
    goes_on = λ vs us c d i j. (
      (λ s. follows_go m is inputs read_there (cycle vs) c (cycle us) d (frame vs i.holds) i.frame (frame us j.holds) j.frame (sym (same_row vs c i)) (sym (same_row us d j)) (goes vs us i.holds j.holds s)),
      (λ s. goes_back vs us i.holds j.holds (follows_go m is inputs read_there c (cycle vs) d (cycle us) i.frame (frame vs i.holds) j.frame (frame us j.holds) (same_row vs c i) (same_row us d j) s)),
    );
    met = λ vs c i. (
      (λ s. assumed_goes m is inputs read_there (cycle vs) c (frame vs i.holds) i.frame (sym (same_row vs c i)) (meets vs i.holds s)),
      (λ s. meets_back vs i.holds (assumed_goes m is inputs read_there c (cycle vs) i.frame (frame vs i.holds) (same_row vs c i) s)),
    );
    bad = λ vs c i k. (
      (λ s. goal_goes m is inputs read_there (cycle vs) c (frame vs i.holds) i.frame (sym (same_row vs c i)) g k (said_goals vs i.holds k s)),
      (λ s. said_goals_back vs i.holds k (goal_goes m is inputs read_there c (cycle vs) i.frame (frame vs i.holds) (same_row vs c i) g k s)),
    );
  }

  grows16 : Grows e1 e6
  grows16 = grows_on e1 e2 e6 p2.grows grows26

  shape : IsShape m rows e6 ss read
  shape = record {
    stretches = stretches;
    state_lines = all_from (IsStateLine e6) ss (λ k s at.
        let w = state_line k s at in record {
          state = state_width_stays e1 e6 s.word grows16 w.word ∙ w.line.state;
          started = λ h. let t = w.line.started h in (t.0, subst (λ (us : List TieOf). Contains us (record { state = s.word.nid; value = t.0 })) (sym inits_are) t.1);
          free = λ h. subst (λ (us : List TieOf). IsUntied us s.word.nid) (sym inits_are) (w.line.free h);
        });
    read_rows = is_read;
    words = (
      p2.ws,
      opened,
      same_widths p2.ws read p2.long (λ k row a x y. (p2.each k row a x y).width),
      all_from (IsInputLine e6) p2.ws (λ k a at.
          let row = at_place read k (let l = slice_get_within p2.ws k a at in let e = p2.long in omega arith) in
          let x = p2.each k row.0 a row.1 at in
          state_width_stays e2 e6 a grows26 x.word ∙ x.line),
    );
  }

  pub emission : IsEmission m rows g e6 ss read
  emission = record {
    btor = p6.only.btor;
    shape = shape;
    from = λ n vss run. runs_from m g e6 inputs drawn n vss run;
    to = λ n cs run. runs_to m g e6 inputs drawn n cs run;
    constraints = ap (λ (ns : List ℕ). length ns) constraints_are ∙ p5.long;
    bads = ap (λ (ns : List ℕ). length ns) bads_are ∙ p6.long;
    few =
        let a = p1.few in
        let b = p2.few in
        let c = p3.adds.few in
        let d = p4.only.few in
        let e = p5.only.few in
        let f = p6.only.few in
        let nodes : length (flat_map reads (take (length m.nodes) m.nodes)) ≡ length (flat_map reads m.nodes) = ap (λ (ns : List NodeOf). length (flat_map reads ns)) (take-length m.nodes) in
        let all : bits_of (take (length ss) ss) ≡ length (states m) = ap bits_of (take-length ss) ∙ stretches.whole in
        let short = read_few m is rows ok read is_read in
        omega arith;
  }
