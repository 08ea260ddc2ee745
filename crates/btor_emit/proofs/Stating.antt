-- States, one after the other.
use Rattle.std.proofs.Common.{◌≡◌, inl, inr, ℕ, zero, suc, ◌+◌, ◌-◌, ◌<◌, ◌≤◌, ◌≢◌, Bool, true, false, List, [], ◌∷◌, ◌++◌, Some, length, map, take, drop, refl, sym, ap, subst, ◌∙◌, arith, length-drop}
use Rattle.std.specs.Prelude.{All, Contains, Option, None, slice_get}
use Rattle.std.specs.Option.{unwrap_or}
use Rattle.std.proofs.lemmas.List.{length-map, length-take-le, map-append, take-append-le}
use Rattle.std.proofs.Math.Seq.{take-length}
use Rattle.std.proofs.lemmas.List.Elements.{All-append, All-cons, All-contains, All-nil}
use Rattle.std.proofs.lemmas.List.Sums.{sum_by-append}
use Rattle.std.proofs.lemmas.Option.{slice_get_within}
use Rattle.btor_core.specs.Fits.{IsUntied}
use Rattle.btor_core.specs.Growth.{IsNumbered}
use Rattle.btor_core.specs.Meaning.{Holds, Values}
use Rattle.btor_core.specs.Shape.{BtorOf, TieOf, inits}
use Rattle.btor_core.specs.declared.line.Node.TheVariants as node
use Rattle.btor_core.specs.declared.line.Word.{Word}
use Rattle.btor_core.proofs.Choosing.{front_holds}
use Rattle.btor_words.specs.Emitting.{IsWord}
use Rattle.btor_words.proofs.Emitting.{word_long}
use Rattle.btor_emit.specs.Emitting.{AreStates, IsOpened, IsStart, IsStateOf, IsStateWord}
use Rattle.btor_emit.specs.States.{IsStretchOf, bits_of, is_known, places_of, start_of}
use Rattle.btor_emit.specs.Stretching.{IsSeated}
use Rattle.btor_emit.specs.Table.{AreIn, Table, bit_in, cycle_of}
use Rattle.btor_emit.specs.declared.shape.State.{State}
use Rattle.btor_emit.proofs.Gathering.{place_in_front, place_in_part}
use Rattle.btor_emit.proofs.Giving.{seated_else, seated_row, seated_seats}
use Rattle.btor_emit.proofs.Leaves.{seats_grow, state_width_stays, word_below, word_grows}
use Rattle.model_core.specs.Served.{IsModel}
use Rattle.model_core.specs.Shape.{IsDistinct, ModelOf, given, states}
use Rattle.model_core.proofs.Frames.{open_source, source_below}
use Rattle.model_core.proofs.Lists.{all_at, all_from, app_left, contained_at, contains_left, contains_right, place_of_contained, push-either, push-new}
use Rattle.model_core.proofs.Writing.{row_same}

-- what a state's line says of its start
pub record Started (m : ModelOf) (e0 e1 : BtorOf) (s : State) : Type 0 where
  pub ties : List TieOf
  pub opened : IsOpened e0 e1 s.word s.word.width node.State ties
  pub some : s.has_start ≡ true → (v : ℕ) × Contains ties (record { state = s.word.nid; value = v })
  pub none : s.has_start ≡ false → ties ≡ []
  pub each : (t : TieOf) → Contains ties t → (s.has_start ≡ true) × (t.state ≡ s.word.nid) × ((vs : Values) → Holds e1 vs → vs t.value ≡ start_of m s)
  pub few : length ties ≤ 1

only_one : (t u : TieOf) → Contains (u ∷ []) t → u ≡ t
only_one t u c = let at = place_of_contained (u ∷ []) t c in by at.0 at.1
  where
    by : (k : ℕ) → slice_get (u ∷ []) k ≡ Some t → u ≡ t
    by zero h = cc
    by (suc k) h = absurd (let n : None ≡ Some t = h in cc)

pub started_as : (m : ModelOf) (e0 e1 : BtorOf) (a : Word) (first : ℕ) (b : Bool) (starts : List (Option Bool)) → starts ≡ take a.width (drop first m.starts) → length starts ≡ a.width → IsStateOf e0 e1 a starts b → Started m e0 e1 (record { word = a; first = first; has_start = b })
started_as m e0 e1 a first true starts is long x =
    let wide : length (map (λ (d : Option Bool). unwrap_or d false) starts) ≡ a.width = length-map starts (λ (d : Option Bool). unwrap_or d false) ∙ long in
    record {
      ties = record { state = a.nid; value = x.0 } ∷ [];
      opened = subst (λ (w : ℕ). IsOpened e0 e1 a w node.State (record { state = a.nid; value = x.0 } ∷ [])) wide x.1;
      some = λ h. (x.0, contained_at (record { state = a.nid; value = x.0 } ∷ []) (record { state = a.nid; value = x.0 }) 0 refl);
      none = λ h. absurd (cc);
      each = λ t c.
          let e : record { state = a.nid; value = x.0 } ≡ t = only_one t (record { state = a.nid; value = x.0 }) c in
          (refl, sym (ap (λ (u : TieOf). u.state) e), λ vs h. ap (λ (u : TieOf). vs u.value) (sym e) ∙ x.2 vs h ∙ ap (λ (ds : List (Option Bool)). map (λ d. unwrap_or d false) ds) is);
      few = omega arith;
    }
started_as m e0 e1 a first false starts is long x = record {
  ties = [];
  opened = subst (λ (w : ℕ). IsOpened e0 e1 a w node.State []) long x;
  some = λ h. absurd (cc);
  none = λ h. refl;
  each = λ t c. absurd (let at = place_of_contained [] t c in let n : None ≡ Some t = at.1 in cc);
  few = omega arith;
}

-- no line past these is the state of a tie
pub untied_past : (m : ModelOf) (e : BtorOf) (table : Table) (ss : List State) (n : ℕ) → IsNumbered e.lines → AreStates m e table ss n → (k : ℕ) → length e.lines < k → IsUntied (inits e.lines) k
untied_past m e table ss n numbered is k l =
    all_from (λ (t : TieOf). t.state ≢ k) (inits e.lines) (λ j t at.
    let s = all_at (IsStart m e ss) (inits e.lines) j t is.starts at in
    let w = All-contains (IsStateWord m e table) ss s.s is.each s.of in
    let b = word_below e s.s.word numbered w.word in
    let same : t.state ≡ s.s.word.nid = s.state in
    λ q. absurd (omega arith))

module _ (m : ModelOf) (e0 e1 : BtorOf) (t0 t1 : Table) (ss : List State) (s : State) (end : ℕ) (numbered : IsNumbered e0.lines) (distinct : IsDistinct (states m)) (old : AreStates m e0 t0 ss s.first) (new : Started m e0 e1 s) (end_is : s.first + s.word.width ≡ end) (inside : end ≤ length (states m)) (stretch : IsStretchOf m s) (seated : IsSeated t0 t1 (places_of m s) s.word) where
  o : IsOpened e0 e1 s.word s.word.width node.State new.ties
  o = new.opened

  places_wide : length (places_of m s) ≡ s.word.width
  places_wide = length-take-le s.word.width (drop s.first (states m)) (let d = length-drop s.first (states m) in omega arith)

  -- where a place of the state stands among all state bits
  state_place : (u : State) (j p : ℕ) → slice_get (places_of m u) j ≡ Some p → (j < u.word.width) × (slice_get (states m) (u.first + j) ≡ Some p)
  state_place u j p h = place_in_part u.first (states m) u.word.width j (u.first + j) p refl h

  places_distinct : IsDistinct (places_of m s)
  places_distinct i j p a b =
      let x = state_place s i p a in
      let y = state_place s j p b in
      let same = distinct (s.first + i) (s.first + j) p x.1 y.1 in
      omega arith

  -- states before it have other places
  apart : (u : State) → u.first + u.word.width ≤ s.first → (p : ℕ) → Contains (places_of m u) p → Contains (places_of m s) p → ⊥
  apart u l p a b =
      let x = place_of_contained (places_of m u) p a in
      let y = place_of_contained (places_of m s) p b in
      let c = state_place u x.0 p x.1 in
      let d = state_place s y.0 p y.1 in
      let same = distinct (u.first + x.0) (s.first + y.0) p c.1 d.1 in
      let below = c.0 in
      omega arith

  tie_goes : (t : TieOf) → Contains (inits e0.lines) t → Contains (inits e1.lines) t
  tie_goes t c = subst (λ (ts : List TieOf). Contains ts t) (sym o.inits) (contains_left (inits e0.lines) new.ties t c)

  tie_comes : (t : TieOf) → Contains new.ties t → Contains (inits e1.lines) t
  tie_comes t c = subst (λ (ts : List TieOf). Contains ts t) (sym o.inits) (contains_right (inits e0.lines) new.ties t c)

  all_inits : (P : TieOf → Type 0) → All P (inits e0.lines) → All P new.ties → All P (inits e1.lines)
  all_inits P a b = subst (λ (ts : List TieOf). All P ts) (sym o.inits) (All-append P (inits e0.lines) new.ties a b)

  holds_before : (vs : Values) → Holds e1 vs → Holds e0 vs
  holds_before vs h = front_holds e0 e1 old.btor o.grows vs h

  stays : (u : State) → Contains ss u → IsStateWord m e1 t1 u
  stays u c =
      let w = All-contains (IsStateWord m e0 t0) ss u old.each c in
      let l = All-contains (λ (z : State). z.first + z.word.width ≤ s.first) ss u old.before c in
      let b = word_below e0 u.word numbered w.word in
      let later = o.later in
      record {
        stretch = w.stretch;
        word = word_grows e0 e1 u.word o.btor o.grows w.word;
        line = record {
          state = state_width_stays e0 e1 u.word o.grows w.word ∙ w.line.state;
          started = λ h. let t = w.line.started h in (t.0, tie_goes (record { state = u.word.nid; value = t.0 }) t.1);
          free = λ h. all_inits (λ (t : TieOf). t.state ≢ u.word.nid) (w.line.free h)
              (all_from (λ (t : TieOf). t.state ≢ u.word.nid) new.ties (λ j t at q. let x : t.state ≡ s.word.nid = (new.each t (contained_at new.ties t j at)).1 in absurd (omega arith)));
        };
        bits = λ vs h. w.bits vs (holds_before vs h) ∙ row_same (cycle_of t0 vs) (cycle_of t1 vs) (places_of m u) (λ p i. ap (bit_in vs) (sym (seated_else t0 t1 (places_of m s) s.word seated p (λ j. apart u l p i j))));
      }

  here : IsStateWord m e1 t1 s
  here = record {
    stretch = stretch;
    word = o.word;
    line = record {
      state = o.kind;
      started = λ h. let t = new.some h in (t.0, tie_comes (record { state = s.word.nid; value = t.0 }) t.1);
      free = λ h. all_inits (λ (t : TieOf). t.state ≢ s.word.nid) (untied_past m e0 t0 ss s.first numbered old s.word.nid o.later)
          (subst (λ (ts : List TieOf). All (λ (t : TieOf). t.state ≢ s.word.nid) ts) (sym (new.none h)) (All-nil (λ (t : TieOf). t.state ≢ s.word.nid)));
    };
    bits = λ vs h. sym (seated_row t0 t1 (places_of m s) s.word seated places_distinct vs (word_long vs o.word h ∙ sym places_wide));
  }

  push_all : (P : State → Type 0) → ((u : State) → Contains ss u → P u) → P s → All P (ss ++ s ∷ [])
  push_all P a b = All-append P ss (s ∷ []) (all_from P ss (λ j u at. a u (contained_at ss u j at))) (All-cons P s [] b (All-nil P))

  whole : bits_of (ss ++ s ∷ []) ≡ end
  whole = sum_by-append (λ (u : State). u.word.width) ss (s ∷ []) ∙ (let w = old.whole in omega arith)

  joined : (j : ℕ) (u : State) → slice_get (ss ++ s ∷ []) j ≡ Some u → u.first ≡ bits_of (take j (ss ++ s ∷ []))
  joined j u at =
      elim (push-either ss s u j at) as (λ _. u.first ≡ bits_of (take j (ss ++ s ∷ []))) [
        | inl h ↦ let l = slice_get_within ss j u h in old.joined j u h ∙ ap bits_of (sym (take-append-le j ss (s ∷ []) (omega arith)))
        | inr h ↦
            let l : length ss ≤ length ss = omega arith in
            ap (λ (z : State). z.first) h.1 ∙ sym old.whole ∙ ap bits_of (sym (take-length ss) ∙ sym (take-append-le (length ss) ss (s ∷ []) l) ∙ ap (λ (k : ℕ). take k (ss ++ s ∷ [])) (sym h.0))
      ]

  in_end : (p : ℕ) → (Contains (take end (states m)) p → ⊥) → (Contains (take s.first (states m)) p → ⊥) × (Contains (places_of m s) p → ⊥)
  in_end p n = (
    (λ c. let at = place_of_contained (take s.first (states m)) p c in let b = place_in_front (states m) s.first at.0 p at.1 in let l = b.0 in n (in_take (states m) end at.0 p (omega arith) b.1)),
    (λ c. let at = place_of_contained (places_of m s) p c in let b = state_place s at.0 p at.1 in let l = b.0 in n (in_take (states m) end (s.first + at.0) p (omega arith) b.1)),
  )
    where
      in_take : (xs : List ℕ) (n k p : ℕ) → k < n → slice_get xs k ≡ Some p → Contains (take n xs) p
      in_take [] n k p l h = absurd (let c : None ≡ Some p = h in cc)
      in_take (x ∷ xs) zero k p l h = absurd (omega arith)
      in_take (x ∷ xs) (suc n) zero p l h = contained_at (x ∷ take n xs) p 0 h
      in_take (x ∷ xs) (suc n) (suc k) p l h = let at = place_of_contained (take n xs) p (in_take xs n k p (omega arith) h) in contained_at (x ∷ take n xs) p (suc at.0) at.1

  start_goes : (t : TieOf) → IsStart m e0 ss t → IsStart m e1 (ss ++ s ∷ []) t
  start_goes t i = record { s = i.s; of = contains_left ss (s ∷ []) i.s i.of; has = i.has; state = i.state; value = λ vs h. i.value vs (holds_before vs h) }

  start_comes : (t : TieOf) → Contains new.ties t → IsStart m e1 (ss ++ s ∷ []) t
  start_comes t c = let x = new.each t c in record { s = s; of = contained_at (ss ++ s ∷ []) s (length ss) (push-new ss s); has = x.0; state = x.1; value = x.2 }

  pub states_more : AreStates m e1 t1 (ss ++ s ∷ []) end
  states_more = record {
    btor = o.btor;
    size = seated.size ∙ old.size;
    seats = seated_seats t0 t1 (places_of m s) s.word seated e1 (seats_grow e0 e1 t0 o.btor o.grows old.seats) o.word places_wide;
    opened = o.opened ∙ ap (λ (ws : List Word). ws ++ s.word ∷ []) old.opened ∙ sym (map-append (λ (u : State). u.word) ss (s ∷ []));
    joined = joined;
    whole = whole;
    before = push_all (λ (u : State). u.first + u.word.width ≤ end) (λ u c. let l = All-contains (λ (z : State). z.first + z.word.width ≤ s.first) ss u old.before c in omega arith) (omega arith);
    each = push_all (IsStateWord m e1 t1) stays here;
    starts = all_inits (IsStart m e1 (ss ++ s ∷ [])) (all_from (IsStart m e1 (ss ++ s ∷ [])) (inits e0.lines) (λ j t at. start_goes t (all_at (IsStart m e0 ss) (inits e0.lines) j t old.starts at)))
        (all_from (IsStart m e1 (ss ++ s ∷ [])) new.ties (λ j t at. start_comes t (contained_at new.ties t j at)));
    nexts = o.nexts ∙ old.nexts;
    constraints = o.constraints ∙ old.constraints;
    bads = o.bads ∙ old.bads;
    else = λ p n. let q = in_end p n in seated_else t0 t1 (places_of m s) s.word seated p q.1 ∙ old.else p q.0;
    few = (let f = o.few in let g = old.few in let one = new.few in let w = stretch.some in omega arith);
  }

pub state_wide : (e0 e1 : BtorOf) (a : Word) (starts : List (Option Bool)) (b : Bool) → IsStateOf e0 e1 a starts b → a.width ≡ length starts
state_wide e0 e1 a starts true x = x.1.size ∙ length-map starts (λ (d : Option Bool). unwrap_or d false)
state_wide e0 e1 a starts false x = x.size

pub state_word_of : (e0 e1 : BtorOf) (a : Word) (starts : List (Option Bool)) (b : Bool) → IsStateOf e0 e1 a starts b → IsWord e1 a
state_word_of e0 e1 a starts true x = x.1.word
state_word_of e0 e1 a starts false x = x.word

-- a part of the lists of state bits
pub part_long : {A : Type 0} (xs : List A) (first end : ℕ) → first < end → end ≤ length xs → length (take (end - first) (drop first xs)) ≡ end - first
part_long xs first end l h = length-take-le (end - first) (drop first xs) (let d = length-drop first xs in omega arith)

pub states_distinct : (m : ModelOf) → IsModel m → IsDistinct (states m)
states_distinct m is i j p a b =
    let x = app_left (states m) m.inputs i p a in
    let y = app_left (states m) m.inputs j p b in
    let same : suc (suc i) ≡ suc (suc j) = is.once (suc (suc i)) (suc (suc j)) p (app_left (states m ++ m.inputs) (given m.nodes) i p x) (app_left (states m ++ m.inputs) (given m.nodes) j p y) in
    omega arith

pub states_below : (m : ModelOf) → IsModel m → (p : ℕ) → Contains (states m) p → p < m.size
states_below m is p h = source_below m is p (open_source m is p (contains_left (states m) m.inputs p h))

pub state_pushed : (m : ModelOf) (e0 e1 : BtorOf) (t0 t1 : Table) (ss now : List State) (a : Word) (first end : ℕ) (b : Bool) (starts : List (Option Bool)) (places : List ℕ) → IsModel m → IsNumbered e0.lines → AreStates m e0 t0 ss first → first < end → end ≤ length (states m)
    → ((z : Word) → z.width + first ≡ end → IsStretchOf m (record { word = z; first = first; has_start = is_known m.starts first })) → starts ≡ take (end - first) (drop first m.starts) → places ≡ take (end - first) (drop first (states m)) → b ≡ is_known m.starts first
    → IsStateOf e0 e1 a starts b → IsSeated t0 t1 places a → now ≡ ss ++ record { word = a; first = first; has_start = b } ∷ [] → AreStates m e1 t1 now end
state_pushed m e0 e1 t0 t1 ss now a first end b starts places is numbered old some inside stretch es ep eb x seated kept =
    let long : length starts ≡ end - first = ap (λ (ds : List (Option Bool)). length ds) es ∙ part_long m.starts first end some (let q = is.starts in omega arith) in
    let wide : a.width ≡ end - first = state_wide e0 e1 a starts b x ∙ long in
    let s : State = record { word = a; first = first; has_start = b } in
    let digits : starts ≡ take a.width (drop first m.starts) = es ∙ ap (λ (k : ℕ). take k (drop first m.starts)) (sym wide) in
    let row : places ≡ places_of m s = ep ∙ ap (λ (k : ℕ). take k (drop first (states m))) (sym wide) in
    let st : IsStretchOf m s = subst (λ (h : Bool). IsStretchOf m (record { word = a; first = first; has_start = h })) (sym eb) (stretch a (omega arith)) in
    subst (λ (us : List State). AreStates m e1 t1 us end) (sym kept)
    (states_more m e0 e1 t0 t1 ss s end numbered (states_distinct m is) old (started_as m e0 e1 a first b starts digits (long ∙ sym wide) x) (omega arith) inside st (subst (λ (ps : List ℕ). IsSeated t0 t1 ps a) row seated))

pub part_below : (m : ModelOf) → IsModel m → (first n : ℕ) (table : Table) → length table ≡ m.size → AreIn table (take n (drop first (states m)))
part_below m is first n table size =
    all_from (λ (p : ℕ). p < length table) (take n (drop first (states m)))
    (λ j p at. let b = states_below m is p (contained_at (states m) p (first + j) (place_in_part first (states m) n j (first + j) p refl at).1) in omega arith)
