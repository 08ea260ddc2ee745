-- Cycles and runs of a model and of its net.
use Rattle.std.proofs.Common.{◌≡◌, ℕ, suc, ◌+◌, ◌-◌, ◌<◌, Bool, false, List, ◌++◌, Some, refl, sym, ap, ◌∙◌, subst, arith, length, map, length-append}
use Rattle.std.specs.Prelude.{slice_get, slice_index_or}
use Rattle.std.proofs.lemmas.Option.{get_or_from_slice_get, slice_get_within}
use Rattle.cnf_form.specs.Cnf.{Assignment, lit_in}
use Rattle.model_core.specs.Shape.{IsDistinct, ModelOf, given, states}
use Rattle.model_core.specs.Meaning as model
use Rattle.model_core.specs.Meaning.{Cycle, next_states, row_at}
use Rattle.model_core.specs.Served.{IsModel}
use Rattle.model_core.proofs.Frames.{some_frame}
use Rattle.model_core.proofs.Lists.{app_left, app_right, at_place, contained_at}
use Rattle.model_core.proofs.Runs.{follows_row, next_states_wide, row_follows}
use Rattle.model_core.proofs.Writing.{written, written_row}
use Rattle.bit_net.specs.Net as net
use Rattle.bit_net.specs.Net.{IsNet, NetOf, gate_var, input_var, state_var}
use Rattle.bit_net.specs.Reaching.{numbers}
use Rattle.bit_net.specs.declared.node.State.{State}
use Rattle.bit_net.proofs.Extending.{some_frame as some_net_frame}
use Rattle.frame_gates.proofs.Lists.{length_map, map_at, one_at, same_list}
use Rattle.frame_net.specs.NetOf.{AreAlike, IsAlike, IsNetOf}
use Rattle.frame_net.proofs.Rows.{length-numbers, numbers-at}

module _ (m : ModelOf) (n : NetOf) (is : IsModel m) (served : IsNet n) (of : IsNetOf m n) where
  many : length n.states ≡ length (states m)
  many = sym (length_map (λ (s : State). s.start) n.states) ∙ ap length of.starts ∙ is.starts

  open_distinct : IsDistinct (states m ++ m.inputs)
  open_distinct i j p a b =
      let x = app_left (states m ++ m.inputs) (given m.nodes) i p a in
      let y = app_left (states m ++ m.inputs) (given m.nodes) j p b in
      let z : suc (suc i) ≡ suc (suc j) = is.once (suc (suc i)) (suc (suc j)) p x y in
      omega arith

  -- a cycle of the net with a cycle's bits, and back
  pub near : (c : Cycle) → (x : Assignment) × net.Frame n x × IsAlike m n c x
  near c =
      let start : Assignment = λ v. c (slice_index_or (states m ++ m.inputs) (v - 2) 0) in
      let (y, f, a) = some_net_frame n start served in
      let here : (k p : ℕ) → slice_get (states m ++ m.inputs) k ≡ Some p → (v : ℕ) → v - 2 ≡ k → start v ≡ c p =
      λ k p at v e. ap (λ (j : ℕ). c (slice_index_or (states m ++ m.inputs) j 0)) e ∙ ap c (get_or_from_slice_get (states m ++ m.inputs) k p 0 at) in
      let q = many in
      let r = of.inputs in (
        y,
        f,
        record {
          states = λ k p at.
              let l = slice_get_within (states m) k p at in
              a (state_var k) (omega arith) (omega arith) ∙ here k p (app_left (states m) m.inputs k p at) (state_var k) (omega arith);
          inputs = λ k p at.
              let l = slice_get_within m.inputs k p at in
              a (input_var n k) (omega arith) (omega arith) ∙ here (length (states m) + k) p (app_right (states m) m.inputs k (length (states m) + k) refl ∙ at) (input_var n k) (omega arith);
        },
      )

  pub near_back : (x : Assignment) → (c : Cycle) × model.Frame m c × IsAlike m n c x
  near_back x =
      let row : List Bool = map x (numbers 2 (length (states m) + length m.inputs)) in
      let start : Cycle = written (λ p. false) (states m ++ m.inputs) row in
      let wide : length row ≡ length (states m ++ m.inputs) =
      length_map x (numbers 2 (length (states m) + length m.inputs)) ∙ length-numbers 2 (length (states m) + length m.inputs) ∙ sym (length-append (states m) m.inputs) in
      let rows = written_row (λ p. false) (states m ++ m.inputs) row open_distinct wide in
      let (e, f, a) = some_frame m is start in
      let here : (k p : ℕ) → slice_get (states m ++ m.inputs) k ≡ Some p → k < length (states m) + length m.inputs → x (2 + k) ≡ e p =
      λ k p at l.
      let s = map_at start (states m ++ m.inputs) k p at in
      let t : slice_get row k ≡ Some (start p) = subst (λ (r : List Bool). slice_get r k ≡ Some (start p)) rows s in
      one_at row k (x (2 + k)) (start p) (map_at x (numbers 2 (length (states m) + length m.inputs)) k (2 + k) (numbers-at 2 (length (states m) + length m.inputs) k l)) t
      ∙ sym (a p (contained_at (states m ++ m.inputs) p k at)) in
      let q = many in (
        e,
        f,
        record {
          states = λ k p at.
              let l = slice_get_within (states m) k p at in
              ap x (let z : state_var k ≡ 2 + k = omega arith in z) ∙ here k p (app_left (states m) m.inputs k p at) (omega arith);
          inputs = λ k p at.
              let l = slice_get_within m.inputs k p at in
              ap x (let z : input_var n k ≡ 2 + (length (states m) + k) = omega arith in z) ∙ here (length (states m) + k) p (app_right (states m) m.inputs k (length (states m) + k) refl ∙ at) (omega arith);
        },
      )

  follow : (c e : Cycle) (x y : Assignment) → model.Frame m c → net.Frame n x → IsAlike m n c x → IsAlike m n e y → model.Follows m c e → net.Follows n x y
  follow c e x y f g same next h k s at =
      let b = many in
      let l = slice_get_within n.states k s at in
      let (p, here) = at_place (states m) k (omega arith) in
      let old = map_at (λ (t : State). lit_in x t.next) n.states k s at in
      let says = of.says c x f g same in
      let row = follows_row m is c e h in
      let new : slice_get (map (λ (t : State). lit_in x t.next) n.states) k ≡ Some (e p) = subst (λ (r : List Bool). slice_get r k ≡ Some (e p)) (row ∙ sym says.next) (map_at e (states m) k p here) in
      next.states k p here ∙ one_at (map (λ (t : State). lit_in x t.next) n.states) k (e p) (lit_in x s.next) new old

  follow_back : (c e : Cycle) (x y : Assignment) → model.Frame m c → net.Frame n x → IsAlike m n c x → IsAlike m n e y → net.Follows n x y → model.Follows m c e
  follow_back c e x y f g same next h =
      let says = of.says c x f g same in
      let b = many in
      row_follows m is c e (same_list e (states m) (next_states m c) (sym (next_states_wide m is c)) (λ k p z at here.
      (let l = slice_get_within (states m) k p at in
      let (s, place) = at_place n.states k (omega arith) in
      let old = map_at (λ (t : State). lit_in x t.next) n.states k s place in
      let new : slice_get (map (λ (t : State). lit_in x t.next) n.states) k ≡ Some z = subst (λ (r : List Bool). slice_get r k ≡ Some z) (sym says.next) here in
      sym (next.states k p at) ∙ h k s place ∙ one_at (map (λ (t : State). lit_in x t.next) n.states) k (lit_in x s.next) z old new)))

  start : (c : Cycle) (x : Assignment) → IsAlike m n c x → model.Starts m c → net.Starts n x
  start c x same h k s b at digit =
      let q = many in
      let l = slice_get_within n.states k s at in
      let (p, here) = at_place (states m) k (omega arith) in
      let d : slice_get m.starts k ≡ Some s.start = subst (λ ds. slice_get ds k ≡ Some s.start) of.starts (map_at (λ (t : State). t.start) n.states k s at) in
      same.states k p here ∙ h k p b here (d ∙ ap Some digit)

  start_back : (c : Cycle) (x : Assignment) → IsAlike m n c x → net.Starts n x → model.Starts m c
  start_back c x same h k p b here digit =
      let q = many in
      let l = slice_get_within (states m) k p here in
      let (s, at) = at_place n.states k (omega arith) in
      let d : slice_get m.starts k ≡ Some s.start = subst (λ ds. slice_get ds k ≡ Some s.start) of.starts (map_at (λ (t : State). t.start) n.states k s at) in
      sym (same.states k p here) ∙ h k s b at (one_at m.starts k s.start (Some b) d digit)

  pub window : (count : ℕ) (cs : ℕ → Cycle) → model.Window m count cs → net.Window n count (λ t. (near (cs t)).0) × AreAlike m n count cs (λ t. (near (cs t)).0)
  window count cs w = (
    record {
      frames = λ t l. (near (cs t)).1;
      follows = λ t l. follow (cs t) (cs (suc t)) (near (cs t)).0 (near (cs (suc t))).0 (w.frames t (omega arith)) (near (cs t)).1 (near (cs t)).2 (near (cs (suc t))).2 (w.follows t l);
    },
    λ t l. (near (cs t)).2,
  )

  pub window_back : (count : ℕ) (xs : ℕ → Assignment) → 0 < count → net.Window n count xs → model.Window m count (λ t. (near_back (xs t)).0) × AreAlike m n count (λ t. (near_back (xs t)).0) xs
  window_back count xs some w = (
    record {
      some = some;
      frames = λ t l. (near_back (xs t)).1;
      follows = λ t l. follow_back (near_back (xs t)).0 (near_back (xs (suc t))).0 (xs t) (xs (suc t)) (near_back (xs t)).1 (w.frames t (omega arith)) (near_back (xs t)).2 (near_back (xs (suc t))).2 (w.follows t l);
    },
    λ t l. (near_back (xs t)).2,
  )

  pub run : (count : ℕ) (cs : ℕ → Cycle) → model.Run m count cs → net.Run n count (λ t. (near (cs t)).0) × AreAlike m n count cs (λ t. (near (cs t)).0)
  run count cs r = let (w, a) = window count cs r.window in (record { window = w; starts = λ l. start (cs 0) (near (cs 0)).0 (near (cs 0)).2 r.starts }, a)

  pub run_back : (count : ℕ) (xs : ℕ → Assignment) → 0 < count → net.Run n count xs → model.Run m count (λ t. (near_back (xs t)).0) × AreAlike m n count (λ t. (near_back (xs t)).0) xs
  run_back count xs some r = let (w, a) = window_back count xs some r.window in (record { window = w; starts = start_back (near_back (xs 0)).0 (xs 0) (near_back (xs 0)).2 (r.starts some) }, a)
