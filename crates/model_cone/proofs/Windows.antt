-- Windows and runs of a model and of its slice.
use Rattle.std.proofs.Common.{◌≡◌, ◌⊎◌, inl, inr, ℕ, zero, suc, ◌+◌, ◌<◌, ◌≤◌, Bool, true, false, not, cond, List, [], ◌++◌, Option, Some, None, length, map, refl, sym, ap, subst, ◌∙◌, arith}
use Rattle.std.specs.Prelude.{Contains, slice_get}
use Rattle.std.specs.List.{filter}
use Rattle.std.proofs.lemmas.List.{length-map}
use Rattle.std.proofs.lemmas.List.Elements.{All-contains, Contains-append_left, Contains-append_right}
use Rattle.sby_bits.specs.Rows.{Row}
use Rattle.model_core.specs.Choices.{open_states}
use Rattle.model_core.specs.Served.{IsModel}
use Rattle.model_core.specs.Shape.{IsDistinct, IsRegister, IsStatement, ModelOf, RegisterOf, sources, states}
use Rattle.model_core.specs.declared.model.Statement.{Statement}
use Rattle.model_core.specs.Meaning.{Cycle, Follows, Frame, Run, Starts, Window, next_row, next_states, row_at}
use Rattle.model_core.proofs.Frames.{all_known, node_same, reads_below, settled, settled_frame, settled_open, source_below}
use Rattle.std.proofs.lemmas.Option.{same_Some, slice_get_within}
use Rattle.model_core.proofs.Lists.{all_at, app_left, app_right, at_place, contained_at, contains_either, place_of_contained}
use Rattle.model_core.proofs.Runs.{next_states_wide, next_wide, open_distinct, row_follows}
use Rattle.model_core.proofs.Writing.{bit_same, known, known_more, row_same, written, written_other, written_row}
use Rattle.model_cone.specs.declared.asked.Asked.{Asked}
use Rattle.model_cone.specs.declared.asked.Asked.TheVariants.{Asserts, Covers}
use Rattle.model_cone.specs.Cone.{AgreeInCone, Decides, IsCone, IsInCone, IsRoot, RestsIn, RestsOn}
use Rattle.model_cone.specs.Slice.{has_kept, kept_at, narrowed, sliced}
use Rattle.model_cone.proofs.Closing.{bit-closed, constants-kept, kept-place, node-closed}
use Rattle.model_cone.proofs.Digits.{digit-at, digit-bit, filter-contained, filter-from, filter-to, kept-from, kept-to, row-bit, without-digit}
use Rattle.model_cone.proofs.Growing.{kept-none, kept-some}
use Rattle.model_cone.proofs.Narrowing.{halves-same, kept-nothing, next-narrowed, row-narrowed}
use Rattle.model_cone.proofs.Reading.{in-states, register-is}
use Rattle.model_cone.proofs.Slicing.{kept-open, mapped, mapped-at, slice-node, slice-states}

-- a register keeps the same of what is the same where it reads
next-same : (c e : Cycle) (r : RegisterOf) → ((p : ℕ) → Contains r.q p → c p ≡ e p) → ((p : ℕ) → Contains r.d p → c p ≡ e p) → ((p : ℕ) → Contains r.value p → c p ≡ e p)
    → c r.enable.place ≡ e r.enable.place → c r.reset.place ≡ e r.reset.place → next_row c r ≡ next_row e r
next-same c e r q d v x y = rw (x, y, row_same c e r.q q, row_same c e r.d d, row_same c e r.value v) refl

module _ (m : ModelOf) (is : IsModel m) (asked : Asked) (keep : ℕ → Bool) (cone : IsCone m asked keep) where
  -- the cone is of the model
  decides-below : (i k : ℕ) (r : RegisterOf) → slice_get m.registers i ≡ Some r → (p : ℕ) → Decides r k p → p < m.size
  decides-below i k r e p d = by (register-is m is i r e) d
    where
      by : IsRegister m.size r → Decides r k p → p < m.size
      by w (inl a) = all_at (λ q. q < m.size) r.d k p w.d_below a
      by w (inr (inl a)) = all_at (λ q. q < m.size) r.value k p w.value_below a
      by w (inr (inr (inl a))) = subst (λ (q : ℕ). q < m.size) (sym a) w.enable
      by w (inr (inr (inr a))) = subst (λ (q : ℕ). q < m.size) (sym a) w.reset

  statement-below : (s : Statement) → IsStatement m.size s → (p : ℕ) → (p ≡ s.a) ⊎ (p ≡ s.en) → p < m.size
  statement-below s w p (inl e) = subst (λ (k : ℕ). k < m.size) (sym e) w.0
  statement-below s w p (inr e) = subst (λ (k : ℕ). k < m.size) (sym e) w.1

  root-below : (asked : Asked) (p : ℕ) → IsRoot m asked p → p < m.size
  root-below asked p (inr (inl e)) = subst (λ (k : ℕ). k < m.size) (sym e) (source_below m is m.zero (contained_at (sources m) m.zero 0 refl))
  root-below asked p (inr (inr e)) = subst (λ (k : ℕ). k < m.size) (sym e) (source_below m is (suc m.zero) (contained_at (sources m) (suc m.zero) 1 refl))
  root-below asked p (inl (s, inr c, e)) = statement-below s (All-contains (IsStatement m.size) m.assumes s is.assumes c) p e
  root-below Asserts p (inl (s, inl c, e)) = statement-below s (All-contains (IsStatement m.size) m.asserts s is.asserts c) p e
  root-below Covers p (inl (s, inl c, e)) = statement-below s (All-contains (IsStatement m.size) m.covers s is.covers c) p e

  rests-below : (p q : ℕ) → RestsOn m p q → q < m.size
  rests-below p q (inl r) = reads_below m is r.0 r.1 r.2 q r.4
  rests-below p q (inr r) = decides-below r.0 r.1 r.2 r.3 q r.5

  chain-below : (n p q : ℕ) → p < m.size → RestsIn m n p q → q < m.size
  chain-below zero p q l e = subst (λ (k : ℕ). k < m.size) e l
  chain-below (suc n) p q l r = rests-below r.0 q r.2

  kept-below : (p : ℕ) → keep p ≡ true → p < m.size
  kept-below p k = let c = (cone p).0 k in chain-below c.1 c.0 p (root-below asked c.0 c.2) c.3

  not-kept : (p : ℕ) → (IsInCone m asked p → ⊥) → keep p ≡ false
  not-kept p n = by (keep p) refl
    where
      by : (b : Bool) → keep p ≡ b → b ≡ false
      by true e = absurd (n ((cone p).0 e))
      by false e = refl

  -- two cycles that are the same at the open places of the cone are the same in the cone
  module _ (c e : Cycle) (fc : Frame m c) (fe : Frame (sliced keep m) e) (h : (p : ℕ) → Contains (states m ++ m.inputs) p → keep p ≡ true → c p ≡ e p) where
    source-same : (p : ℕ) → Contains (sources m) p → keep p ≡ true → c p ≡ e p
    source-same p g k = let at = place_of_contained (sources m) p g in by at.0 at.1
      where
        by : (i : ℕ) → slice_get (sources m) i ≡ Some p → c p ≡ e p
        by zero z = let q : m.zero ≡ p = cc in subst (λ (x : ℕ). c x ≡ e x) q (fc.zero ∙ sym fe.zero)
        by (suc zero) z = let q : suc m.zero ≡ p = cc in subst (λ (x : ℕ). c x ≡ e x) q (fc.one ∙ sym fe.one)
        by (suc (suc i)) z = h p (contained_at (states m ++ m.inputs) p i z) k

    known-same : (i : ℕ) → i ≤ length m.nodes → (p : ℕ) → Contains (known m is i) p → keep p ≡ true → c p ≡ e p
    known-same zero l p g k = elim (contains_either (sources m) [] p g) as (λ _. c p ≡ e p) [
      | inl a ↦ source-same p a k
      | inr a ↦ absurd (let b = a.1 in omega arith)
    ]
    known-same (suc i) l p g k =
        let n = at_place m.nodes i (omega arith) in
        elim (contains_either (known m is i) n.0.y p (subst (λ (ps : List ℕ). Contains ps p) (known_more m is i n.0 n.1) g)) as (λ _. c p ≡ e p) [
          | inl a ↦ known-same i (omega arith) p a k
          | inr a ↦
              let some = kept-some keep n.0.y p a k in
              bit_same c e n.0.y p
              (fc.nodes i n.0 n.1
              ∙ node_same c e n.0 (λ q r. known-same i (omega arith) q (is.order i n.0 n.1 q r) (node-closed m asked keep cone i n.0 q n.1 some r))
              ∙ sym (fe.nodes i n.0 (slice-node m is keep (constants-kept m asked keep cone) (node-closed m asked keep cone) i n.0 n.1 some))) a
        ]

    pub kept-same : (p : ℕ) → keep p ≡ true → c p ≡ e p
    kept-same p k = known-same (length m.nodes) (omega arith) p (all_known m is p (kept-below p k)) k

  slice-open : (p : ℕ) → Contains (states m ++ m.inputs) p → keep p ≡ true → Contains (states (sliced keep m) ++ (sliced keep m).inputs) p
  slice-open = kept-open m is keep (constants-kept m asked keep cone) (node-closed m asked keep cone)

  abbrev out : ℕ → Bool
  out = λ p. not (keep p)

  -- what a register of the slice reads is kept
  beside-kept : (i : ℕ) (r : RegisterOf) → slice_get m.registers i ≡ Some r → (row : List ℕ) → ((k p : ℕ) → slice_get row k ≡ Some p → Decides r k p) → (p : ℕ) → Contains (kept_at keep r.q row) p → keep p ≡ true
  beside-kept i r at row reads p c =
      let k = place_of_contained (kept_at keep r.q row) p c in
      let b = kept-from keep r.q row k.0 p k.1 in
      bit-closed m asked keep cone i b.0 r b.1 p at b.2 b.4 (reads b.0 p b.3)

  control-kept : (i : ℕ) (r : RegisterOf) → slice_get m.registers i ≡ Some r → has_kept keep r.q ≡ true → (p : ℕ) → ((k : ℕ) → Decides r k p) → keep p ≡ true
  control-kept i r at h p reads =
      let k = kept-place keep r.q h in
      let b = place_of_contained r.q k.0 k.1 in
      bit-closed m asked keep cone i b.0 r k.0 p at b.1 k.2 (reads b.0)

  -- what follows in the one follows in the other
  row-kept : (c e : Cycle) → ((p : ℕ) → keep p ≡ true → c p ≡ e p) → (ps : List ℕ) → row_at c (filter keep ps) ≡ row_at e (filter keep ps)
  row-kept c e h ps = row_same c e (filter keep ps) (λ p g. h p (filter-contained keep ps p g).1)

  next-kept : (c e : Cycle) → ((p : ℕ) → keep p ≡ true → c p ≡ e p) → (i : ℕ) (r : RegisterOf) → slice_get m.registers i ≡ Some r → has_kept keep r.q ≡ true
      → next_row c (narrowed keep r) ≡ next_row e (narrowed keep r)
  next-kept c e h i r at k =
      next-same c e (narrowed keep r)
      (λ p g. h p (filter-contained keep r.q p g).1)
      (λ p g. h p (beside-kept i r at r.d (λ j q f. inl f) p g))
      (λ p g. h p (beside-kept i r at r.value (λ j q f. inr (inl f)) p g))
      (h r.enable.place (control-kept i r at k r.enable.place (λ j. inr (inr (inl refl)))))
      (h r.reset.place (control-kept i r at k r.reset.place (λ j. inr (inr (inr refl)))))

  -- from the model to the slice
  module _ (iss : IsModel (sliced keep m)) (cs : ℕ → Cycle) where
    pub down : ℕ → Cycle
    down t = settled (sliced keep m) iss (cs t)

    down-same : (t : ℕ) → Frame m (cs t) → (p : ℕ) → keep p ≡ true → cs t p ≡ down t p
    unfolding down
    down-same t f = kept-same (cs t) (settled (sliced keep m) iss (cs t)) f (settled_frame (sliced keep m) iss (cs t))
        (λ p o k. sym (settled_open (sliced keep m) iss (cs t) p (slice-open p o k)))

    down-frame : (t : ℕ) → Frame (sliced keep m) (down t)
    unfolding down
    down-frame t = settled_frame (sliced keep m) iss (cs t)

    down-follows : (t : ℕ) → Frame m (cs t) → Frame m (cs (suc t)) → Follows m (cs t) (cs (suc t)) → Follows (sliced keep m) (down t) (down (suc t))
    down-follows t f g h j r e =
        let kept = mapped (narrowed keep) (filter (λ (k : RegisterOf). has_kept keep k.q) m.registers) j r e in
        let x = filter-from (λ (k : RegisterOf). has_kept keep k.q) m.registers j kept.0 kept.1 in
        subst (λ (z : RegisterOf). row_at (down (suc t)) z.q ≡ next_row (down t) z) kept.2
        (sym (row-kept (cs (suc t)) (down (suc t)) (down-same (suc t) g) kept.0.q)
        ∙ row-narrowed (cs (suc t)) keep kept.0.q
        ∙ ap (λ (row : Row). kept_at keep kept.0.q row) (h x.0 kept.0 x.1)
        ∙ sym (next-narrowed (cs t) keep kept.0)
        ∙ next-kept (cs t) (down t) (down-same t f) x.0 kept.0 x.1 x.2)

    down-starts : Frame m (cs 0) → Starts m (cs 0) → Starts (sliced keep m) (down 0)
    down-starts f h k p x a b =
        let r = kept-from keep (states m) m.starts k (Some x) b in
        let same : r.1 ≡ p = same_Some r.1 p (sym r.5 ∙ subst (λ (ps : List ℕ). slice_get ps k ≡ Some p) (slice-states keep m) a) in
        subst (λ (q : ℕ). down 0 q ≡ x) same (sym (down-same 0 f r.1 r.4) ∙ h r.0 r.1 x r.2 r.3)

    pub down-window : (n : ℕ) → Window m n cs → Window (sliced keep m) n down
    down-window n w = record {
      some = w.some;
      frames = λ t l. down-frame t;
      follows = λ t l. down-follows t (w.frames t (omega arith)) (w.frames (suc t) l) (w.follows t l);
    }

    pub down-run : (n : ℕ) → Run m n cs → Run (sliced keep m) n down
    down-run n r = record { window = down-window n r.window; starts = down-starts (r.window.frames 0 r.window.some) r.starts }

    pub down-agrees : (n : ℕ) → Window m n cs → (t : ℕ) → t < n → AgreeInCone m asked (cs t) (down t)
    down-agrees n w t l p c = down-same t (w.frames t l) p ((cone p).1 c)

  -- from the slice to the model: outside the cone first what `first` has, then what registers keep, and inputs 0
  module _ (es : ℕ → Cycle) (first : Cycle) where
    abbrev mixed : Cycle → Cycle → Cycle
    mixed e w p = cond (keep p) (e p) (w p)

    abbrev held : Cycle → Cycle
    held c = written (λ p. false) (states m) (next_states m c)

    pub up : ℕ → Cycle
    up zero = settled m is (mixed (es 0) first)
    up (suc t) = settled m is (mixed (es (suc t)) (held (up t)))

    up-frame : (t : ℕ) → Frame m (up t)
    unfolding up
    up-frame zero = settled_frame m is (mixed (es 0) first)
    up-frame (suc t) = settled_frame m is (mixed (es (suc t)) (held (up t)))

    mixed-in : (e w : Cycle) (p : ℕ) → keep p ≡ true → mixed e w p ≡ e p
    mixed-in e w p k = rw k refl

    mixed-out : (e w : Cycle) (p : ℕ) → keep p ≡ false → mixed e w p ≡ w p
    mixed-out e w p k = rw k refl

    up-in : (t p : ℕ) → Contains (states m ++ m.inputs) p → keep p ≡ true → up t p ≡ es t p
    unfolding up
    up-in zero p o k = settled_open m is (mixed (es 0) first) p o ∙ mixed-in (es 0) first p k
    up-in (suc t) p o k = settled_open m is (mixed (es (suc t)) (held (up t))) p o ∙ mixed-in (es (suc t)) (held (up t)) p k

    up-first : (p : ℕ) → Contains (states m ++ m.inputs) p → keep p ≡ false → up 0 p ≡ first p
    unfolding up
    up-first p o k = settled_open m is (mixed (es 0) first) p o ∙ mixed-out (es 0) first p k

    up-next : (t p : ℕ) → Contains (states m ++ m.inputs) p → keep p ≡ false → up (suc t) p ≡ held (up t) p
    unfolding up
    up-next t p o k = settled_open m is (mixed (es (suc t)) (held (up t))) p o ∙ mixed-out (es (suc t)) (held (up t)) p k

    up-same : (t : ℕ) → Frame (sliced keep m) (es t) → (p : ℕ) → keep p ≡ true → up t p ≡ es t p
    up-same t f = kept-same (up t) (es t) (up-frame t) f (λ p o k. up-in t p o k)

    state-open : (p : ℕ) → Contains (states m) p → Contains (states m ++ m.inputs) p
    state-open p c = Contains-append_left (states m) m.inputs p c

    states-distinct : IsDistinct (states m)
    states-distinct i j p a b = open_distinct m is i j p (app_left (states m) m.inputs i p a) (app_left (states m) m.inputs j p b)

    held-follows : (c : Cycle) → Follows m c (held c)
    held-follows c = row_follows m is c (held c) (written_row (λ p. false) (states m) (next_states m c) states-distinct (next_states_wide m is c))

    input-apart : (p : ℕ) → Contains m.inputs p → Contains (states m) p → ⊥
    input-apart p a b =
        let i = place_of_contained m.inputs p a in
        let s = place_of_contained (states m) p b in
        let l = slice_get_within (states m) s.0 p s.1 in
        let same = open_distinct m is (length (states m) + i.0) s.0 p (app_right (states m) m.inputs i.0 (length (states m) + i.0) refl ∙ i.1) (app_left (states m) m.inputs s.0 p s.1) in
        omega arith

    up-follows : (t : ℕ) → Frame (sliced keep m) (es t) → Frame (sliced keep m) (es (suc t)) → Follows (sliced keep m) (es t) (es (suc t)) → Follows m (up t) (up (suc t))
    up-follows t f g h i r e =
        halves-same keep r.q (row_at (up (suc t)) r.q) (next_row (up t) r) (length-map r.q (up (suc t))) (next_wide (up t) m.size r (register-is m is i r e)) (kept (has_kept keep r.q) refl) left
      where
        kept : (b : Bool) → has_kept keep r.q ≡ b → kept_at keep r.q (row_at (up (suc t)) r.q) ≡ kept_at keep r.q (next_row (up t) r)
        kept true k =
            let j = filter-to (λ (x : RegisterOf). has_kept keep x.q) m.registers i r e k in
            sym (row-narrowed (up (suc t)) keep r.q)
            ∙ row-kept (up (suc t)) (es (suc t)) (up-same (suc t) g) r.q
            ∙ h j.0 (narrowed keep r) (mapped-at (narrowed keep) (filter (λ (x : RegisterOf). has_kept keep x.q) m.registers) j.0 r j.1)
            ∙ sym (next-kept (up t) (es t) (up-same t f) i r e k)
            ∙ next-narrowed (up t) keep r
        kept false k = kept-nothing keep r.q (row_at (up (suc t)) r.q) (kept-none keep r.q k) ∙ sym (kept-nothing keep r.q (next_row (up t) r) (kept-none keep r.q k))

        is-out : (p : ℕ) → (b : Bool) → keep p ≡ b → not b ≡ true → keep p ≡ false
        is-out p true e o = absurd (let z : false ≡ true = o in cc)
        is-out p false e o = e

        left : kept_at out r.q (row_at (up (suc t)) r.q) ≡ kept_at out r.q (next_row (up t) r)
        left =
            sym (row-narrowed (up (suc t)) out r.q)
            ∙ row_same (up (suc t)) (held (up t)) (filter out r.q)
            (λ p c. let o = filter-contained out r.q p c in up-next t p (state-open p (in-states m is i r p e o.0)) (is-out p (keep p) refl o.1))
            ∙ row-narrowed (held (up t)) out r.q
            ∙ ap (λ (row : Row). kept_at out r.q row) (held-follows (up t) i r e)

    pub up-window : (n : ℕ) → Window (sliced keep m) n es → Window m n up
    up-window n w = record {
      some = w.some;
      frames = λ t l. up-frame t;
      follows = λ t l. up-follows t (w.frames t (omega arith)) (w.frames (suc t) l) (w.follows t l);
    }

    pub up-agrees : (n : ℕ) → Window (sliced keep m) n es → (t : ℕ) → t < n → AgreeInCone m asked (up t) (es t)
    up-agrees n w t l p c = up-same t (w.frames t l) p ((cone p).1 c)

    pub up-inputs : ((p : ℕ) → Contains m.inputs p → first p ≡ false) → (t p : ℕ) → Contains m.inputs p → (IsInCone m asked p → ⊥) → up t p ≡ false
    up-inputs h zero p c n = up-first p (Contains-append_right (states m) m.inputs p c) (not-kept p n) ∙ h p c
    up-inputs h (suc t) p c n =
        up-next t p (Contains-append_right (states m) m.inputs p c) (not-kept p n) ∙ written_other (λ p. false) (states m) (next_states m (up t)) p (λ s. input-apart p c s)

    pub up-states : (p : ℕ) → Contains (states m) p → (IsInCone m asked p → ⊥) → up 0 p ≡ first p
    up-states p c n = up-first p (state-open p c) (not-kept p n)

  -- the state bits start with their digits, and with 0 where they have none
  abbrev pub digits-first : Cycle
  digits-first = written (λ p. false) (states m) (map digit-bit m.starts)

  first-digit : (k p : ℕ) (x : Option Bool) → slice_get (states m) k ≡ Some p → slice_get m.starts k ≡ Some x → digits-first p ≡ digit-bit x
  first-digit k p x a b =
      row-bit digits-first (states m) (map digit-bit m.starts) k p (digit-bit x)
      (written_row (λ p. false) (states m) (map digit-bit m.starts) distinct (length-map m.starts digit-bit ∙ is.starts)) a (digit-at m.starts k x b)
    where
      distinct : IsDistinct (states m)
      distinct i j p a b = open_distinct m is i j p (app_left (states m) m.inputs i p a) (app_left (states m) m.inputs j p b)

  pub first-inputs : (p : ℕ) → Contains m.inputs p → digits-first p ≡ false
  first-inputs p c = written_other (λ p. false) (states m) (map digit-bit m.starts) p (λ s. apart s)
    where
      apart : Contains (states m) p → ⊥
      apart b =
          let i = place_of_contained m.inputs p c in
          let s = place_of_contained (states m) p b in
          let l = slice_get_within (states m) s.0 p s.1 in
          let same = open_distinct m is (length (states m) + i.0) s.0 p (app_right (states m) m.inputs i.0 (length (states m) + i.0) refl ∙ i.1) (app_left (states m) m.inputs s.0 p s.1) in
          omega arith

  module _ (es : ℕ → Cycle) where
    up-starts : Frame (sliced keep m) (es 0) → Starts (sliced keep m) (es 0) → Starts m (up es digits-first 0)
    up-starts f h k p x a b = by (keep p) refl
      where
        by : (t : Bool) → keep p ≡ t → up es digits-first 0 p ≡ x
        by true t =
            let r = kept-to keep (states m) m.starts k p (Some x) a b t in
            up-same es digits-first 0 f p t ∙ h r.0 p x (subst (λ (ps : List ℕ). slice_get ps r.0 ≡ Some p) (sym (slice-states keep m)) r.1) r.2
        by false t = up-first es digits-first p (state-open es digits-first p (contained_at (states m) p k a)) t ∙ first-digit k p (Some x) a b

    pub up-run : (n : ℕ) → Run (sliced keep m) n es → Run m n (up es digits-first)
    up-run n r = record { window = up-window es digits-first n r.window; starts = up-starts (r.window.frames 0 r.window.some) r.starts }

    pub up-open : (p : ℕ) → Contains (open_states m) p → (IsInCone m asked p → ⊥) → up es digits-first 0 p ≡ false
    up-open p c n =
        let r = without-digit (states m) m.starts p c in
        up-states es digits-first p (contained_at (states m) p r.0 r.1) n ∙ first-digit r.0 p None r.1 r.2
