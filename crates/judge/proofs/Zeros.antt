-- What a played run has where nothing reads: what is open and stands in no cone is 0.
use Rattle.std.proofs.Common.{◌≡◌, ℕ, zero, suc, ◌<◌, Bool, true, false, List, [], ◌∷◌, ◌++◌, length, map, get_or, Option, Some, None, Contains, refl, ap, sym, subst, ◌∙◌, arith}
use Rattle.std.specs.Prelude.{slice_get}
use Rattle.std.specs.List.{enumerate_from, flat_map, range_with_len}
use Rattle.std.proofs.lemmas.List.{length-map, map-append}
use Rattle.std.proofs.lemmas.List.Elements.{All-contains, Contains-append_left, Contains-append_right}
use Rattle.std.proofs.lemmas.Option.{slice_get-get_or, slice_get_within}
use Rattle.cnf_form.specs.Cnf.{Assignment}
use Rattle.task_net.specs.Asking.{HasOriginsInCone, asked_of, place_of as origin_place}
use Rattle.design_core.specs.Asked.{output_of}
use Rattle.design_core.specs.Places.{place_of}
use Rattle.design_core.specs.Shape.{CellOf, DesignOf, IsDesign}
use Rattle.design_core.specs.Table.{role_of}
use Rattle.design_core.specs.declared.table.Role.{Role}
use Rattle.design_core.specs.declared.table.Role.TheVariants.{Combinational, Register, AsyncResetRegister, Constant, Initial, Source, Statement, Unsupported}
use Rattle.design_core.proofs.Lists.{Contains-from_place, place-from_Contains}
use Rattle.design_graph.proofs.Declared.{output-declared}
use Rattle.design_meaning.specs.Meaning.{IsCell, Valuation, bit_in}
use Rattle.design_meaning.specs.Runs.{CycleOf, kept_by_role, kept_width, valuations}
use Rattle.design_meaning.specs.States.{Kept, Signal, StateBit, input_bits, state_bits, state_in, state_of, state_of_role}
use Rattle.design_signals.specs.declared.sig_bit.SigBit.{SigBit}
use Rattle.design_states.proofs.Giving.{in-lists}
use Rattle.job_terms.specs.Encoding.{EncodedOf, HasValue, IsOpenIn, Origin, decoded}
use Rattle.job_terms.specs.Encoding.Origin.{First, Input}
use Rattle.model_cone.specs.Cone.{IsInCone}
use Rattle.model_core.specs.Choices.{Plays, open_states, without_digit}
use Rattle.model_core.specs.Meaning.{Cycle}
use Rattle.model_core.specs.Shape.{ModelOf}
use Rattle.model_laws.specs.Reads.{IsReadOtherwise, IsStateRead}
use Rattle.model_laws.proofs.Coned.{input-read, state-read}
use Rattle.sby_terms.specs.declared.names.JobName.{JobName}
use Rattle.sby_terms.specs.declared.names.JobName.TheVariants.{Step}
use Rattle.word_model.specs.Layout.{IsAlike, state_place, valued, zero_place}
use Rattle.word_model.specs.Model.{IsModelOf}
use Rattle.word_model.specs.Registers.{AreDigits, AreStarts, BeginsWith}
use Rattle.word_model.proofs.Following.{enumerated}
use Rattle.word_model.proofs.Owning.{in-range, input-declared, map-member}
use Rattle.word_model.proofs.Reading.{bit-read}
use Rattle.word_model.proofs.Stating.{mapped-at}
use Rattle.judge.proofs.Encodes.{encodes}
use Rattle.judge.proofs.Carrying.{constants}
use Rattle.judge.specs.Jobs.{span_of}
use Rattle.judge.specs.Played.{IsPlayed}
use Rattle.judge.specs.Problem.{AskedOf, IsEncodedOf, IsProblem}

-- of places put together those without a digit are those of each part
without-join : (ps qs : List ℕ) (xs ys : List (Option Bool)) → length xs ≡ length ps → without_digit (ps ++ qs) (xs ++ ys) ≡ without_digit ps xs ++ without_digit qs ys
without-join [] qs [] ys e = refl
without-join [] qs (x ∷ xs) ys e = absurd (omega (arith, e))
without-join (p ∷ ps) qs [] ys e = absurd (omega (arith, e))
without-join (p ∷ ps) qs (Some x ∷ xs) ys e = without-join ps qs xs ys (omega (arith, e))
without-join (p ∷ ps) qs (None ∷ xs) ys e = ap (λ (l : List ℕ). p ∷ l) (without-join ps qs xs ys (omega (arith, e)))

-- a place whose digit is none is among them
without-at : (ps : List ℕ) (xs : List (Option Bool)) (k p : ℕ) → slice_get ps k ≡ Some p → slice_get xs k ≡ Some None → Contains (without_digit ps xs) p
without-at [] xs k p at none = absurd cc
without-at (q ∷ ps) [] k p at none = absurd cc
without-at (q ∷ ps) (Some x ∷ xs) zero p at none = absurd cc
without-at (q ∷ ps) (Some x ∷ xs) (suc k) p at none = without-at ps xs k p at none
without-at (q ∷ ps) (None ∷ xs) zero p at none = let same : q ≡ p = cc in (0, omega arith, same)
without-at (q ∷ ps) (None ∷ xs) (suc k) p at none = Contains-append_right (q ∷ []) (without_digit ps xs) p (without-at ps xs k p at none)

no-digit : (o : Option Bool) → ((x : Bool) → o ≡ Some x → ⊥) → o ≡ None
no-digit None h = refl
no-digit (Some x) h = absurd (h x refl)

module _ (d : DesignOf) where
  abbrev IsWithoutDigit : ℕ → ℕ → CellOf → Type 0
  IsWithoutDigit i k c = (x : Bool) → BeginsWith (role_of c.kind) d i k x → ⊥

  -- a state bit of a cell that begins with no digit has none
  cell-open : (i k : ℕ) (c : CellOf) (s : StateBit) (digits : List (Option Bool)) → AreDigits d i c digits → slice_get (state_of (i, c)) k ≡ Some s → IsWithoutDigit i k c
      → Contains (without_digit (map (state_place d) (state_of (i, c))) digits) (state_place d s)
  cell-open i k c s digits are at free =
      let lt : k < length digits = omega (arith, are.size, slice_get_within (state_of (i, c)) k s at) in
      let here : slice_get digits k ≡ Some (get_or digits k None) = slice_get-get_or digits k None lt in
      let none : get_or digits k None ≡ None = no-digit (get_or digits k None) (λ x e. free x ((are.each k x lt).0 (here ∙ ap (λ (o : Option Bool). Some o) e))) in
      without-at (map (state_place d) (state_of (i, c))) digits k (state_place d s) (mapped-at (state_place d) (state_of (i, c)) k s at) (here ∙ ap (λ (o : Option Bool). Some o) none)

  -- and so among the state bits of these cells
  open-among : (es : List (ℕ × CellOf)) (starts : List (Option Bool)) → AreStarts d es starts → (n i k : ℕ) (c : CellOf) (s : StateBit) → slice_get es n ≡ Some (i, c) → slice_get (state_of (i, c)) k ≡ Some s
      → IsWithoutDigit i k c → Contains (without_digit (map (state_place d) (flat_map state_of es)) starts) (state_place d s)
  open-among [] starts are n i k c s here at free = absurd cc
  open-among ((j, e) ∷ es) starts are n i k c s here at free =
      let first : List ℕ = map (state_place d) (state_of (j, e)) in
      let rest : List ℕ = map (state_place d) (flat_map state_of es) in
      let whole : without_digit (map (state_place d) (flat_map state_of ((j, e) ∷ es))) starts ≡ without_digit first are.0 ++ without_digit rest are.1 =
      ap (λ (ps : List ℕ). without_digit ps starts) (map-append (state_place d) (state_of (j, e)) (flat_map state_of es))
      ∙ (ap (λ (xs : List (Option Bool)). without_digit (first ++ rest) xs) are.2
      ∙ without-join first rest are.0 are.1 (are.3.size ∙ sym (length-map (state_of (j, e)) (state_place d)))) in
      subst (λ (ps : List ℕ). Contains ps (state_place d s)) (sym whole) (by n here (λ m g. open-among es are.1 are.4 m i k c s g at free))
    where
      by : (m : ℕ) → slice_get ((j, e) ∷ es) m ≡ Some (i, c)
          → ((l : ℕ) → slice_get es l ≡ Some (i, c) → Contains (without_digit (map (state_place d) (flat_map state_of es)) are.1) (state_place d s))
          → Contains (without_digit (map (state_place d) (state_of (j, e))) are.0 ++ without_digit (map (state_place d) (flat_map state_of es)) are.1) (state_place d s)
      by zero g later =
          let same : ◌≡◌ {A = ℕ × CellOf} (j, e) (i, c) = cc in
          let digits : AreDigits d i c are.0 = subst (λ (q : ℕ × CellOf). AreDigits d q.0 q.1 are.0) same are.3 in
          Contains-append_left (without_digit (map (state_place d) (state_of (j, e))) are.0) (without_digit (map (state_place d) (flat_map state_of es)) are.1) (state_place d s)
          (subst (λ (q : ℕ × CellOf). Contains (without_digit (map (state_place d) (state_of q)) are.0) (state_place d s)) (sym same) (cell-open i k c s are.0 digits at free))
      by (suc m) g later =
          Contains-append_right (without_digit (map (state_place d) (state_of (j, e))) are.0) (without_digit (map (state_place d) (flat_map state_of es)) are.1) (state_place d s)
          (later m g)

  -- a state bit that begins with no digit is open in the design's model
  state-open : (m : ModelOf) → IsModelOf d m → (i k : ℕ) (c : CellOf) (s : StateBit) → IsCell d i c → slice_get (state_of (i, c)) k ≡ Some s → IsWithoutDigit i k c → Contains (open_states m) (state_place d s)
  state-open m is i k c s cell at free =
      subst (λ (ps : List ℕ). Contains (without_digit ps m.starts) (state_place d s)) (sym is.states)
      (open-among (enumerate_from 0 d.cells) m.starts is.starts i i k c s (enumerated 0 d.cells i i c (omega arith) cell) at free)

  -- an input bit's place is an input of the design's model
  input-open : (m : ModelOf) → IsModelOf d m → (b : SigBit) → Contains (input_bits d) b → Contains m.inputs (place_of d b)
  input-open m is b has =
      let at = place-from_Contains (input_bits d) b has in
      subst (λ (ps : List ℕ). Contains ps (place_of d b)) (sym is.inputs)
      (Contains-from_place (map (place_of d) (input_bits d)) at.0 (place_of d b) (mapped-at (place_of d) (input_bits d) at.0 b at.1))

  state-listed : (i k : ℕ) (c : CellOf) (s : StateBit) → IsCell d i c → slice_get (state_of (i, c)) k ≡ Some s → Contains (state_bits d) s
  state-listed i k c s cell at =
      in-lists state_of (enumerate_from 0 d.cells) i (i, c) s (enumerated 0 d.cells i i c (omega arith) cell) (Contains-from_place (state_of (i, c)) k s at)

  -- a state bit has in a cycle of the model what is at its place
  module _ (c : Cycle) (low : c (zero_place d) ≡ false) (high : c (suc (zero_place d)) ≡ true) where
    state-read-at : (s : StateBit) → state_in (valued d c) s ≡ c (state_place d s)
    state-read-at (Signal b) = bit-read d c low high b
    state-read-at (Kept i k) = refl

  -- valuations that are alike have the same at each state bit
  state-alike : IsDesign d → (v w : Valuation) → IsAlike d v w → (i k : ℕ) (c : CellOf) (s : StateBit) → IsCell d i c → slice_get (state_of (i, c)) k ≡ Some s → state_in v s ≡ state_in w s
  state-alike shape v w same i k c s cell at = by (role_of c.kind) refl (Contains-from_place (state_of (i, c)) k s at)
    where
      none : Contains (let xs : List StateBit = [] in xs) s → state_in v s ≡ state_in w s
      none g = let lt = g.1 in absurd (omega (arith, lt))

      shown : Contains (map (λ b. Signal b) (output_of c)) s → state_in v s ≡ state_in w s
      shown g =
          let b = map-member (λ x. Signal x) (output_of c) s g in
          subst (λ (t : StateBit). state_in v t ≡ state_in w t) b.2 (same.bits b.0 (output-declared d shape i c b.0 cell b.1))

      kept : role_of c.kind ≡ AsyncResetRegister → Contains (map (λ n. Kept i n) (range_with_len 0 (length (output_of c)))) s → state_in v s ≡ state_in w s
      kept role g =
          let n = map-member (λ x. Kept i x) (range_with_len 0 (length (output_of c))) s g in
          let wide : kept_width c ≡ length (output_of c) = ap (λ (r : Role). kept_by_role r (length (output_of c))) role in
          let within : n.0 < length (output_of c) = in-range (length (output_of c)) n.0 n.1 in
          subst (λ (t : StateBit). state_in v t ≡ state_in w t) n.2 (same.kept i n.0 c cell (omega (arith, wide, within)))

      by : (r : Role) → role_of c.kind ≡ r → Contains (state_of_role r (map (λ b. Signal b) (output_of c)) (map (λ n. Kept i n) (range_with_len 0 (length (output_of c))))) s → state_in v s ≡ state_in w s
      by Combinational e g = none g
      by Register e g = shown g
      by AsyncResetRegister e g = kept e g
      by Constant e g = shown g
      by Initial e g = shown g
      by Source e g = none g
      by Statement e g = none g
      by Unsupported e g = none g

module _ (p : AskedOf) (h : IsProblem p) (job : JobName) (apart : job ≡ Step → ⊥) (e : EncodedOf) (is : IsEncodedOf p job e) (x : Assignment) (run : List CycleOf) (played : IsPlayed p e x run) where
  abbrev cycles : ℕ → Cycle
  cycles = played.plays.0

  plays : Plays p.model (decoded e x) cycles
  plays = played.plays.1

  -- what is open and isn't in the cone of what the job asks is 0
  open-zero : (o : Origin) → IsOpenIn p.model (length (decoded e x).inputs) o → (IsInCone p.model (asked_of job) (origin_place o) → ⊥) → HasValue cycles (length (decoded e x).inputs) o false
  open-zero o free outside =
      let origins : HasOriginsInCone p.model job (span_of p.problem) e = (encodes p h job e is).origins in
      origins.has.rest apart x played.satisfies cycles plays o free
      (λ c. outside (All-contains (λ (a : Origin). IsInCone p.model (asked_of job) (origin_place a)) origins.has.origins o origins.cone c))

  pub input-zero : (t : ℕ) (b : SigBit) → t < length run → Contains (input_bits p.design) b → ¬ IsReadOtherwise p.design b → bit_in (valuations p.design run t) b ≡ false
  input-zero t b lt has unread =
      let built = h.built in
      let inside : t < length (decoded e x).inputs = subst (λ (n : ℕ). t < n) played.cycles lt in
      let known = constants p.design p.model h.model (cycles t) (plays.run.window.frames t inside) in
      let low = subst (λ (n : ℕ). cycles t n ≡ false) h.model.zero known.zero in
      let high = subst (λ (n : ℕ). cycles t (suc n) ≡ true) h.model.zero known.one in
      let value : cycles t (place_of p.design b) ≡ false =
      open-zero (Input t (place_of p.design b)) (inside, input-open p.design p.model h.model b has)
      (λ cone. unread (input-read p.design h.design h.flat built.0 built.1 p.model built.2 (asked_of job) b has cone)) inside in
      (played.plays.2 t lt).bits b (input-declared p.design b has) ∙ (bit-read p.design (cycles t) low high b ∙ value)

  pub start-zero : (i k : ℕ) (c : CellOf) (s : StateBit) → IsCell p.design i c → slice_get (state_of (i, c)) k ≡ Some s → ((x : Bool) → BeginsWith (role_of c.kind) p.design i k x → ⊥)
      → (IsStateRead p.design s → ⊥) → state_in (valuations p.design run 0) s ≡ false
  start-zero i k c s cell at free unread =
      let built = h.built in
      let inside : 0 < length (decoded e x).inputs = plays.run.window.some in
      let lt : 0 < length run = subst (λ (n : ℕ). 0 < n) (sym played.cycles) inside in
      let known = constants p.design p.model h.model (cycles 0) (plays.run.window.frames 0 inside) in
      let low = subst (λ (n : ℕ). cycles 0 n ≡ false) h.model.zero known.zero in
      let high = subst (λ (n : ℕ). cycles 0 (suc n) ≡ true) h.model.zero known.one in
      let value : cycles 0 (state_place p.design s) ≡ false =
      open-zero (First (state_place p.design s)) (state-open p.design p.model h.model i k c s cell at free)
      (λ cone. unread (state-read p.design h.design h.flat built.0 built.1 p.model built.2 (asked_of job) s (state-listed p.design i k c s cell at) cone)) in
      state-alike p.design h.design (valuations p.design run 0) (valued p.design (cycles 0)) (played.plays.2 0 lt) i k c s cell at
      ∙ (state-read-at p.design (cycles 0) low high s ∙ value)
