-- A register's rows and controls stand in the table.
use Rattle.std.proofs.Common.{◌≡◌, ◌+◌, ◌*◌, ◌<◌, ℕ, true, false, cond, List, [], ◌∷◌, Some, length, refl, sym, ap, ◌∙◌, subst, arith}
use Rattle.std.specs.Prelude.{Contains, not, slice_get}
use Rattle.std.proofs.lemmas.List.Elements.{All-contains}
use Rattle.btor_core.specs.Fits.{IsBtor}
use Rattle.btor_core.specs.Shape.{BtorOf}
use Rattle.btor_core.specs.declared.line.Word.{Word}
use Rattle.btor_emit.specs.Nodes.{IsReady}
use Rattle.btor_emit.specs.Table.{AreSeats, Puts, Table, cycle_of}
use Rattle.btor_emit.proofs.Agreeing.{of_register}
use Rattle.btor_emit.proofs.Choosing.{enable_decides, puts_row, reset_decides}
use Rattle.btor_emit.proofs.Saying.{ready_one}
use Rattle.btor_emit.proofs.Stating.{states_below}
use Rattle.model_core.specs.Meaning.{is_active, next_row, row_at}
use Rattle.model_core.specs.Served.{IsModel}
use Rattle.model_core.specs.declared.model.Control.{Control}
use Rattle.model_core.specs.Shape.{IsRegister, ModelOf, RegisterOf}
use Rattle.model_core.proofs.Lists.{all_at, all_from, at_place, contained_at}

-- the rows and controls of a register
pub record RegisterReady (e : BtorOf) (t : Table) (qs ds vs : List ℕ) (en re : Control) : Type 0 where
  pub q : IsReady e t qs
  pub d : IsReady e t ds
  pub value : IsReady e t vs
  pub enable : IsReady e t (en.place ∷ [])
  pub reset : IsReady e t (re.place ∷ [])
  pub d_wide : length ds ≡ length qs
  pub value_wide : length vs ≡ length qs

module _ (m : ModelOf) (is : IsModel m) (e : BtorOf) (t : Table) (i : ℕ) (btor : IsBtor e) (seats : AreSeats e t) (size : length t ≡ m.size) where
  own_ready : (r : RegisterOf) → slice_get m.registers i ≡ Some r → RegisterReady e t r.q r.d r.value r.enable r.reset
  own_ready r at =
      let w = all_at (IsRegister m.size) m.registers i r is.registers at in
      let some = w.some in
      let narrow = w.narrow in
      let dw = w.d in
      let vw = w.value in
      let row : (ps : List ℕ) → length ps ≡ length r.q → ((p : ℕ) → Contains ps p → p < m.size) → IsReady e t ps = λ ps wide below. record {
        btor = btor;
        seats = seats;
        inside = all_from (λ (p : ℕ). p < length t) ps (λ k p h. let b = below p (contained_at ps p k h) in omega arith);
        width = (omega arith, omega arith);
      } in
      record {
        q = row r.q refl (λ p h. states_below m is p (of_register m.registers i r p at h));
        d = row r.d w.d (λ p h. All-contains (λ (k : ℕ). k < m.size) r.d p w.d_below h);
        value = row r.value w.value (λ p h. All-contains (λ (k : ℕ). k < m.size) r.value p w.value_below h);
        enable = ready_one e t r.enable.place btor seats (let b = w.enable in omega arith);
        reset = ready_one e t r.reset.place btor seats (let b = w.reset in omega arith);
        d_wide = w.d;
        value_wide = w.value;
      }

  -- the same of the parts as they were read
  pub register_ready : i < length m.registers → (q d v : List ℕ) (en re : Control) → ((r : RegisterOf) → slice_get m.registers i ≡ Some r → q ≡ r.q) → ((r : RegisterOf) → slice_get m.registers i ≡ Some r → d ≡ r.d)
      → ((r : RegisterOf) → slice_get m.registers i ≡ Some r → v ≡ r.value) → ((r : RegisterOf) → slice_get m.registers i ≡ Some r → en ≡ r.enable) → ((r : RegisterOf) → slice_get m.registers i ≡ Some r → re ≡ r.reset) → RegisterReady e t q d v en re
  register_ready below q d v en re eq ed ev een ere =
      let k = at_place m.registers i below in
      let r = k.0 in
      let at = k.1 in
      subst (λ (z : List ℕ). RegisterReady e t z d v en re) (sym (eq r at))
      (subst (λ (z : List ℕ). RegisterReady e t r.q z v en re) (sym (ed r at))
      (subst (λ (z : List ℕ). RegisterReady e t r.q r.d z en re) (sym (ev r at)) (subst (λ (z : Control). RegisterReady e t r.q r.d r.value z re) (sym (een r at)) (subst (λ (z : Control). RegisterReady e t r.q r.d r.value r.enable z) (sym (ere r at)) (own_ready r at)))))

-- the row that a register has next, by its parts
module _ (e0 e1 : BtorOf) (t0 t1 : Table) (word : Word) (r : RegisterOf) where
  abbrev pub ResetPut : List ℕ → List ℕ → List ℕ → Control → Control → Type 0
  ResetPut q d v en re = Puts e0 e1 t0 t1 word (length v) (12 * length v + 12) (λ vs. cond (is_active (cycle_of t0 vs) re) (row_at (cycle_of t0 vs) v) (cond (is_active (cycle_of t0 vs) en) (row_at (cycle_of t0 vs) d) (row_at (cycle_of t0 vs) q)))

  pub reset_put : (q d v : List ℕ) (en re : Control) → q ≡ r.q → d ≡ r.d → v ≡ r.value → en ≡ r.enable → re ≡ r.reset → length v ≡ length q → r.reset_first ≡ true → ResetPut q d v en re → Puts e0 e1 t0 t1 word (length r.q) (12 * length r.q + 12) (λ vs. next_row (cycle_of t0 vs) r)
  reset_put q d v en re eq ed ev een ere wide first put =
      let own : ResetPut r.q r.d r.value r.enable r.reset =
      subst (λ (z : Control). ResetPut r.q r.d r.value r.enable z) ere
      (subst (λ (z : Control). ResetPut r.q r.d r.value z re) een (subst (λ (z : List ℕ). ResetPut r.q r.d z en re) ev (subst (λ (z : List ℕ). ResetPut r.q z v en re) ed (subst (λ (z : List ℕ). ResetPut z d v en re) eq put)))) in
      let own_wide : length r.value ≡ length r.q = sym (ap (λ (ps : List ℕ). length ps) ev) ∙ wide ∙ ap (λ (ps : List ℕ). length ps) eq in
      puts_row e0 e1 t0 t1 word (length r.value) (length r.q) (12 * length r.value + 12) (12 * length r.q + 12) _ (λ vs. next_row (cycle_of t0 vs) r) own own_wide (omega arith) (λ vs. reset_decides (cycle_of t0 vs) r first)

  abbrev pub EnablePut : List ℕ → List ℕ → List ℕ → Control → Control → Type 0
  EnablePut q d v off re = Puts e0 e1 t0 t1 word (length q) (12 * length q + 12) (λ vs. cond (is_active (cycle_of t0 vs) off) (row_at (cycle_of t0 vs) q) (cond (is_active (cycle_of t0 vs) re) (row_at (cycle_of t0 vs) v) (row_at (cycle_of t0 vs) d)))

  pub enable_put : (q d v : List ℕ) (off re : Control) → q ≡ r.q → d ≡ r.d → v ≡ r.value → off.place ≡ r.enable.place → off.level ≡ not r.enable.level → re ≡ r.reset → r.reset_first ≡ false → EnablePut q d v off re → Puts e0 e1 t0 t1 word (length r.q) (12 * length r.q + 12) (λ vs. next_row (cycle_of t0 vs) r)
  enable_put q d v off re eq ed ev ep el ere first put =
      let own : EnablePut r.q r.d r.value off r.reset =
      subst (λ (z : Control). EnablePut r.q r.d r.value off z) ere (subst (λ (z : List ℕ). EnablePut r.q r.d z off re) ev (subst (λ (z : List ℕ). EnablePut r.q z v off re) ed (subst (λ (z : List ℕ). EnablePut z d v off re) eq put))) in
      puts_row e0 e1 t0 t1 word (length r.q) (length r.q) (12 * length r.q + 12) (12 * length r.q + 12) _ (λ vs. next_row (cycle_of t0 vs) r) own refl (omega arith) (λ vs. enable_decides (cycle_of t0 vs) r off.place off.level first ep el)
