-- What states have next, register by register.
use Rattle.std.proofs.Common.{◌≡◌, inl, inr, ℕ, zero, suc, ◌+◌, ◌*◌, ◌-◌, ◌<◌, ◌≤◌, ◌≢◌, List, [], ◌∷◌, ◌++◌, Some, None, length, take, drop, refl, sym, ap, subst, ◌∙◌, arith, append_assoc, length-append}
use Rattle.std.specs.Prelude.{slice_get}
use Rattle.std.specs.List.{flat_map}
use Rattle.std.proofs.Math.Seq.{take-length}
use Rattle.std.proofs.lemmas.Bool.{cases_lt}
use Rattle.std.proofs.lemmas.List.{append-nil}
use Rattle.std.proofs.lemmas.Option.{slice_get_within}
use Rattle.sby_bits.specs.Rows.{Row}
use Rattle.cell_table.specs.Cells.{slice_fn}
use Rattle.btor_core.specs.Fits.{IsBtor, IsUntied}
use Rattle.btor_core.specs.Growth.{Grows}
use Rattle.btor_core.specs.Meaning.{Holds, Values}
use Rattle.btor_core.specs.Shape.{BtorOf, TieOf, nexts, state_at}
use Rattle.btor_core.specs.declared.line.Word.{Word}
use Rattle.btor_core.proofs.Choosing.{front_holds}
use Rattle.btor_core.proofs.Fitting.{state_stays}
use Rattle.btor_core.proofs.Growing.{grows_on, grows_same}
use Rattle.btor_emit.specs.Nexts.{AreNexts, AreParts, AreStateLines, IsPartOf, MayHaveParts}
use Rattle.btor_emit.specs.States.{IsEdge, IsStretchOf, bits_of}
use Rattle.btor_emit.specs.Table.{AreSeats, Puts, Table, cycle_of}
use Rattle.btor_emit.specs.declared.shape.State.{State}
use Rattle.btor_emit.proofs.Agreeing.{next_local}
use Rattle.btor_emit.proofs.Covering.{bits_step, flat_long, flat_part, slice_slice}
use Rattle.btor_emit.proofs.Leaves.{seats_grow}
use Rattle.model_core.specs.Meaning.{Cycle, next_row, next_states}
use Rattle.model_core.specs.Served.{IsModel}
use Rattle.model_core.specs.Shape.{IsRegister, ModelOf, RegisterOf, states}
use Rattle.model_core.proofs.Lists.{all_at, all_from, app_cases, at_place, flat_more, flat_rest}
use Rattle.model_core.proofs.Runs.{next_wide}

pub nexts_none : (m : ModelOf) (e : BtorOf) (t : Table) (ss : List State) → IsBtor e → AreSeats e t → AreNexts m e e t t ss 0
nexts_none m e t ss btor seats = record {
  ties = [];
  only = record { btor = btor; grows = grows_same e; opened = refl; inits = refl; nexts = sym (append-nil (nexts e.lines)); constraints = refl; bads = refl; few = omega arith };
  long = refl;
  each = λ j s u a b. absurd (let c : None ≡ Some u = b in cc);
  size = refl;
  seats = seats;
  same = λ vs h p. refl;
}

module _ (m : ModelOf) (is : IsModel m) (e0 : BtorOf) (ss : List State) (lines : AreStateLines m e0 ss) (none : nexts e0.lines ≡ []) where
  stretch : (k : ℕ) (s : State) → slice_get ss k ≡ Some s → IsStretchOf m s
  stretch k s there = all_at (IsStretchOf m) ss k s lines.stretches.each there

  step : (k : ℕ) (s : State) → slice_get ss k ≡ Some s → bits_of (take (suc k) ss) ≡ bits_of (take k ss) + s.word.width
  step k s there = bits_step ss lines.stretches.joined k s there

  -- bits up to a state, and up to one after it
  more_bits : (k d j : ℕ) → j ≡ k + d → j ≤ length ss → bits_of (take k ss) + d ≤ bits_of (take j ss)
  more_bits k zero j e l = let z : k ≡ j = omega arith in let b : bits_of (take k ss) ≡ bits_of (take j ss) = ap (λ (n : ℕ). bits_of (take n ss)) z in omega arith
  more_bits k (suc d) zero e l = absurd (omega arith)
  more_bits k (suc d) (suc j) e l =
      let s = at_place ss j (omega arith) in
      let before = more_bits k d j (omega arith) (omega arith) in
      let here = step j s.0 s.1 in
      let w = (stretch j s.0 s.1).some in
      omega arith

  -- states that have all bits are all of them
  pub all_done : (k : ℕ) → k ≤ length ss → bits_of (take k ss) ≡ length (states m) → k ≡ length ss
  all_done k l e =
      let whole : bits_of (take (length ss) ss) ≡ length (states m) = ap bits_of (take-length ss) ∙ lines.stretches.whole in
      let b = more_bits k (length ss - k) (length ss) (omega arith) (omega arith) in
      omega arith

  module _ (i : ℕ) (r : RegisterOf) (at : slice_get m.registers i ≡ Some r) where
    abbrev first : ℕ
    first = length (flat_map (λ (u : RegisterOf). u.q) (take i m.registers))

    abbrev end : ℕ
    end = length (flat_map (λ (u : RegisterOf). u.q) (take (suc i) m.registers))

    register : IsRegister m.size r
    register = all_at (IsRegister m.size) m.registers i r is.registers at

    pub end_is : end ≡ first + length r.q
    end_is = ap (λ (ps : List ℕ). length ps) (flat_more (λ (u : RegisterOf). u.q) m.registers i r at) ∙ length-append (flat_map (λ (u : RegisterOf). u.q) (take i m.registers)) r.q

    end_inside : end ≤ length (states m)
    end_inside =
        let e = ap (λ (ps : List ℕ). length ps) (flat_rest (λ (u : RegisterOf). u.q) m.registers (suc i)) ∙ length-append (flat_map (λ (u : RegisterOf). u.q) (take (suc i) m.registers)) (flat_map (λ (u : RegisterOf). u.q) (drop (suc i) m.registers)) in
        omega arith

    edge : IsEdge m end
    edge = (suc i, refl)

    module _ (e1 : BtorOf) (t0 t1 : Table) (k : ℕ) (old : AreNexts m e0 e1 t0 t1 ss k) (begins : bits_of (take k ss) ≡ first) (inside : k ≤ length ss) where
      pub may_have : (e2 : BtorOf) (t2 : Table) (row : Word) (most : ℕ) → Puts e1 e2 t1 t2 row (length r.q) most (λ vs. next_row (cycle_of t1 vs) r) → MayHaveParts e2 ss k row first end
      may_have e2 t2 row most put =
          let grows : Grows e0 e2 = grows_on e0 e1 e2 old.only.grows put.turns.adds.grows in
          let same : nexts e2.lines ≡ old.ties = put.turns.adds.lists.nexts ∙ old.only.nexts ∙ ap (λ (us : List TieOf). us ++ old.ties) none in
          record {
            inside = inside;
            lines = all_from (λ (s : State). state_at e2.lines s.word.nid ≡ s.word.width) ss (λ j s there. state_stays e0 e2 grows s.word.nid s.word.width (all_at (λ (u : State). state_at e0.lines u.word.nid ≡ u.word.width) ss j s lines.lines there) (stretch j s there).some);
            some = all_from (λ (s : State). 1 ≤ s.word.width) ss (λ j s there. (stretch j s there).some);
            apart = lines.apart;
            untied = λ j s l there.
                subst (λ (us : List TieOf). IsUntied us s.word.nid) (sym same)
                (all_from (λ (u : TieOf). u.state ≢ s.word.nid) old.ties (λ n u tied q.
                let b = slice_get_within old.ties n u tied in
                let long = old.long in
                let v = at_place ss n (omega arith) in
                let z : v.0.word.nid ≡ s.word.nid = sym (old.each n v.0 u v.1 tied).state ∙ q in
                let x = lines.apart n j v.0 s v.1 there z in
                absurd (omega arith)));
            parts = λ j s l there below.
                let b = lines.stretches.joined j s there in
                let in_list = slice_get_within ss j s there in
                let bits = more_bits k (j - k) j (omega arith) (omega arith) in
                let from = begins in
                let size = put.size in
                let e = end_is in
                let w = (stretch j s there).within end edge below in
                let stop : s.first + s.word.width ≤ end = not_less end (s.first + s.word.width) w in
                (omega arith, omega arith);
          }
        where
          not_less : (a b : ℕ) → (a < b → ⊥) → b ≤ a
          not_less a b n = elim (cases_lt a b) as (λ _. b ≤ a) [ inl l ↦ absurd (n l) | inr l ↦ l ]

      module _ (e2 e3 : BtorOf) (t2 : Table) (row : Word) (to : ℕ) (put : Puts e1 e2 t1 t2 row (length r.q) (12 * length r.q + 12) (λ vs. next_row (cycle_of t1 vs) r)) (parts : AreParts e2 e3 ss k to row first end) where
        -- the states done end where the register does
        pub ends : bits_of (take to ss) ≡ end
        ends =
            let long = parts.long in
            let size = end_is in
            let some = register.some in
            elim (cases_lt k to) as (λ _. bits_of (take to ss) ≡ end) [
              | inl above ↦ by above
              | inr none_done ↦
                  let z : to ≡ k = omega arith in
                  let here : bits_of (take to ss) ≡ first = ap (λ (n : ℕ). bits_of (take n ss)) z ∙ begins in
                  absurd (elim (cases_lt to (length ss)) as (λ _. ⊥) [
                    | inl l ↦
                        let s = at_place ss to l in
                        let p = parts.past s.0 s.1 in
                        let j = lines.stretches.joined to s.0 s.1 in
                        omega arith
                    | inr l ↦
                        let all : to ≡ length ss = (let b = parts.inside in omega arith) in
                        let whole : bits_of (take to ss) ≡ length (states m) = ap (λ (n : ℕ). bits_of (take n ss)) all ∙ ap bits_of (take-length ss) ∙ lines.stretches.whole in
                        let room = end_inside in
                        omega arith
                  ])
            ]
          where
            by : k < to → bits_of (take to ss) ≡ end
            by above =
                let p : ℕ = to - 1 in
                let s = at_place ss p (let b = parts.inside in omega arith) in
                let below = parts.before p s.0 (omega arith) (omega arith) s.1 in
                let w = (stretch p s.0 s.1).within end edge below in
                let joined = lines.stretches.joined p s.0 s.1 in
                let z : suc p ≡ to = omega arith in
                let last : bits_of (take to ss) ≡ bits_of (take p ss) + s.0.word.width = ap (λ (n : ℕ). bits_of (take n ss)) (sym z) ∙ step p s.0 s.1 in
                let most : bits_of (take to ss) ≤ end = elim (cases_lt end (s.0.first + s.0.word.width)) as (λ _. bits_of (take to ss) ≤ end) [ inl l ↦ absurd (w l) | inr l ↦ omega arith ] in
                let least : end ≤ bits_of (take to ss) =
                elim (cases_lt to (length ss)) as (λ _. end ≤ bits_of (take to ss)) [
                  | inl l ↦
                      let u = at_place ss to l in
                      let q = parts.past u.0 u.1 in
                      let j = lines.stretches.joined to u.0 u.1 in
                      omega arith
                  | inr l ↦
                      let all : to ≡ length ss = (let b = parts.inside in omega arith) in
                      let whole : bits_of (take to ss) ≡ length (states m) = ap (λ (n : ℕ). bits_of (take n ss)) all ∙ ap bits_of (take-length ss) ∙ lines.stretches.whole in
                      let room = end_inside in
                      omega arith
                ] in
                omega arith

        -- the register's row is a part of what all state bits have next
        row_part : (vs : Values) → Holds e3 vs → vs row.nid ≡ slice_fn (length r.q) first (next_states m (cycle_of t0 vs))
        row_part vs h =
            let h2 : Holds e2 vs = front_holds e2 e3 put.turns.adds.btor parts.only.grows vs h in
            let h1 : Holds e1 vs = front_holds e1 e2 old.only.btor put.turns.adds.grows vs h2 in
            let c : Cycle = cycle_of t0 vs in
            let wide : length (next_row c r) ≡ length r.q = next_wide c m.size r register in
            let front : length (flat_map (next_row c) (take i m.registers)) ≡ first = flat_long (next_row c) (take i m.registers) (λ j u g. next_wide c m.size u (all_at (IsRegister m.size) m.registers j u is.registers (in_front m.registers i j u g))) in
            put.turns.adds.holds vs h2 ∙ next_local (cycle_of t1 vs) c r (λ p. old.same vs h1 p) ∙ sym (flat_part (next_row c) m.registers i r at) ∙ ap (λ (n : ℕ). slice_fn n (length (flat_map (next_row c) (take i m.registers))) (next_states m c)) wide
            ∙ ap (λ (n : ℕ). slice_fn (length r.q) n (next_states m c)) front
          where
            in_front : (rs : List RegisterOf) (n j : ℕ) (u : RegisterOf) → slice_get (take n rs) j ≡ Some u → slice_get rs j ≡ Some u
            in_front rs zero j u g = absurd (let c : None ≡ Some u = g in cc)
            in_front [] (suc n) j u g = absurd (let c : None ≡ Some u = g in cc)
            in_front (x ∷ rs) (suc n) zero u g = g
            in_front (x ∷ rs) (suc n) (suc j) u g = in_front rs n j u g

        new_part : (j : ℕ) (s : State) (u : TieOf) → k ≤ j → slice_get ss j ≡ Some s → IsPartOf e3 first (λ vs. vs row.nid) s u → s.first < end → IsPartOf e3 0 (λ vs. next_states m (cycle_of t0 vs)) s u
        new_part j s u l there p below = record {
          state = p.state;
          value = λ vs h.
              let b = lines.stretches.joined j s there in
              let in_list = slice_get_within ss j s there in
              let bits = more_bits k (j - k) j (omega arith) (omega arith) in
              let from = begins in
              let size = end_is in
              let w = (stretch j s there).within end edge below in
              let stop : s.first + s.word.width ≤ end = elim (cases_lt end (s.first + s.word.width)) as (λ _. s.first + s.word.width ≤ end) [ inl g ↦ absurd (w g) | inr g ↦ g ] in
              let n : s.first ≡ s.first - 0 = omega arith in
              p.value vs h ∙ ap (λ (x : Row). slice_fn s.word.width (s.first - first) x) (row_part vs h) ∙ slice_slice s.word.width (s.first - first) (length r.q) first (s.first - 0) (next_states m (cycle_of t0 vs)) (omega arith) (omega arith);
        }

        pub nexts_more : AreNexts m e0 e3 t0 t2 ss to
        nexts_more =
            let o = old.only in
            let a = put.turns.adds in
            let n = parts.only in
            record {
              ties = old.ties ++ parts.ties;
              only = record {
                btor = n.btor;
                grows = grows_on e0 e2 e3 (grows_on e0 e1 e2 o.grows a.grows) n.grows;
                opened = n.opened ∙ a.opened ∙ o.opened;
                inits = n.inits ∙ a.lists.inits ∙ o.inits;
                nexts = n.nexts ∙ ap (λ (us : List TieOf). us ++ parts.ties) (a.lists.nexts ∙ o.nexts) ∙ append_assoc (nexts e0.lines) old.ties parts.ties;
                constraints = n.constraints ∙ a.lists.constraints ∙ o.constraints;
                bads = n.bads ∙ a.lists.bads ∙ o.bads;
                few =
                    let f = o.few in
                    let g = a.few in
                    let h = n.few in
                    let bits = more_bits k (to - k) to (let l = parts.long in omega arith) parts.inside in
                    let stop = ends in
                    let size = end_is in
                    let some = register.some in
                    let l = parts.long in
                    omega arith;
              };
              long = length-append old.ties parts.ties ∙ (let l = old.long in let x = parts.long in omega arith);
              each = λ j s u there tied.
                  elim (app_cases old.ties parts.ties j u tied) as (λ _. IsPartOf e3 0 (λ vs. next_states m (cycle_of t0 vs)) s u) [
                    | inl x ↦
                        let p = old.each j s u there x in
                        record { state = p.state; value = λ vs h. p.value vs (front_holds e1 e2 o.btor a.grows vs (front_holds e2 e3 a.btor n.grows vs h)) }
                    | inr x ↦
                        let l = old.long in
                        let long = parts.long in
                        let b = slice_get_within parts.ties x.0 u x.2 in
                        let place : k + x.0 ≡ j = (let q = x.1 in omega arith) in
                        new_part j s u (omega arith) there (parts.each j x.0 s u place there x.2) (parts.before j s (omega arith) (omega arith) there)
                  ];
              size = put.turns.size ∙ old.size;
              seats = seats_grow e2 e3 t2 n.btor n.grows put.turns.seats;
              same = λ vs h p. let h2 = front_holds e2 e3 a.btor n.grows vs h in put.turns.same vs h2 p ∙ old.same vs (front_holds e1 e2 o.btor a.grows vs h2) p;
            }
