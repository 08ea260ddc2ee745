-- Encodings are shared and folded.
use Rattle.std.proofs.Common.{◌≡◌, ℕ, suc, ◌-◌, ◌<◌, ◌≤◌, Bool, true, List, [], ◌∷◌, Option, Some, None, refl, sym, ap, ◌∙◌, subst, arith, map}
use Rattle.std.specs.Prelude.{◌≢◌, Contains, option_map, slice_get}
use Rattle.std.specs.List.{filter}
use Rattle.std.proofs.lemmas.Option.{slice_get-map}
use Rattle.cnf_form.specs.Cnf.{LitOf}
use Rattle.cnf_form.specs.declared.literal.TheConstants.{MAX_VARS}
use Rattle.gate_graph.specs.declared.gate.Gate.{Gate}
use Rattle.gate_graph.specs.declared.gate.Gate.TheVariants.{And, Xor, Mux, Maj}
use Rattle.gate_graph.specs.Folding.{operands}
use Rattle.bit_net.specs.Net.{IsNet, NetOf, vars}
use Rattle.bit_net.proofs.Lists.{IsRisingFrom, filter_in, get_in, head_in, map_in, none_in, others_in, rising_above, tail_in}
use Rattle.net_unroll.specs.Asking.{goal_of}
use Rattle.net_unroll.specs.Encoding.{encoding, encoding_for, finished, is_kept, made, made_for, number, renumbered, renumbered_entry, renumbered_gate, vars_for}
use Rattle.net_unroll.specs.Making.{MadeOf, nothing_made}
use Rattle.net_unroll.specs.Program.{program}
use Rattle.net_unroll.specs.Promises.{AreDistinct, Folded, IsFolded, Shared}
use Rattle.net_unroll.specs.declared.asking.Asked.{Asked}
use Rattle.net_unroll.specs.declared.asking.Cycles.{Cycles}
use Rattle.net_unroll.proofs.Deciding.{goal_within}
use Rattle.net_unroll.proofs.Finished.{back, back_number, closed, number_apart, number_less}
use Rattle.net_unroll.proofs.Folding.{AreFolded, run_folded}
use Rattle.net_unroll.proofs.Means.{IsWell, gate_vars}
use Rattle.net_unroll.proofs.Opening.{AreApart}
use Rattle.net_unroll.proofs.Solving.{begun_well, program_placed, well}
use Rattle.net_unroll.proofs.Tightening.{apart_places, filter_rising, one_is}

rising_apart : (low : ℕ) (xs : List ℕ) → IsRisingFrom low xs → AreApart xs
rising_apart low [] r = tt
rising_apart low (x ∷ xs) r = ((λ c. let a = rising_above (suc x) xs x r.1 c in omega arith), rising_apart (suc x) xs r.1)

-- a mapped list has the same places
get_back : {A B : Type 0} (f : A → B) (xs : List A) (i : ℕ) (y : B) → slice_get (map f xs) i ≡ Some y → (x : A) × (slice_get xs i ≡ Some x) × (f x ≡ y)
get_back {A} {B} f xs i y h = by (slice_get xs i) refl (sym (slice_get-map f xs i) ∙ h)
  where
    by : (o : Option A) → slice_get xs i ≡ o → option_map f o ≡ Some y → (x : A) × (slice_get xs i ≡ Some x) × (f x ≡ y)
    by None e g = absurd (let z : None ≡ Some y = g in cc)
    by (Some x) e g = (x, e, (let z : Some (f x) ≡ Some y = g in cc))

get_map : {A B : Type 0} (f : A → B) (xs : List A) (i : ℕ) (x : A) → slice_get xs i ≡ Some x → slice_get (map f xs) i ≡ Some (f x)
get_map f xs i x h = slice_get-map f xs i ∙ ap (option_map f) h

-- the gate over the old numbers
abbrev back_lit : (ℕ → Bool) → ℕ → LitOf → LitOf
back_lit k top l = record { var = back k top l.var; negated = l.negated }

abbrev back_gate : (ℕ → Bool) → ℕ → Gate → Gate
back_gate k top (And a b) = And (back_lit k top a) (back_lit k top b)
back_gate k top (Xor a b) = Xor (back_lit k top a) (back_lit k top b)
back_gate k top (Mux s a b) = Mux (back_lit k top s) (back_lit k top a) (back_lit k top b)
back_gate k top (Maj a b c) = Maj (back_lit k top a) (back_lit k top b) (back_lit k top c)

-- the literal's variable is kept
abbrev Stays : (ℕ → Bool) → ℕ → LitOf → Type 0
Stays k top l = (k l.var ≡ true) × (0 < l.var) × (l.var ≤ top)

same_lit : (k : ℕ → Bool) (top : ℕ) (l : LitOf) → Stays k top l → back_lit k top (renumbered k l) ≡ l
same_lit k top l (t, lo, hi) = ap (λ (v : ℕ). let m : LitOf = record { var = v; negated = l.negated } in m) (back_number k top l.var t lo hi)

two : {A : Type 0} (f : A → A → Gate) (a b c d : A) → a ≡ c → b ≡ d → f a b ≡ f c d
two f a b c d e g = ap (λ x. f x b) e ∙ ap (f c) g

three : {A : Type 0} (f : A → A → A → Gate) (s a b t c d : A) → s ≡ t → a ≡ c → b ≡ d → f s a b ≡ f t c d
three f s a b t c d h e g = ap (λ x. f x a b) h ∙ two (f t) a b c d e g

same_gate_back : (k : ℕ → Bool) (top : ℕ) (g : Gate) → ((l : LitOf) → Contains (operands g) l → Stays k top l) → back_gate k top (renumbered_gate k g) ≡ g
same_gate_back k top (And a b) h = two And _ _ a b (same_lit k top a (h a (head_in a (b ∷ [])))) (same_lit k top b (h b (tail_in a b (b ∷ []) (head_in b []))))
same_gate_back k top (Xor a b) h = two Xor _ _ a b (same_lit k top a (h a (head_in a (b ∷ [])))) (same_lit k top b (h b (tail_in a b (b ∷ []) (head_in b []))))
same_gate_back k top (Mux s a b) h =
    three Mux _ _ _ s a b (same_lit k top s (h s (head_in s (a ∷ b ∷ [])))) (same_lit k top a (h a (tail_in s a (a ∷ b ∷ []) (head_in a (b ∷ [])))))
    (same_lit k top b (h b (tail_in s b (a ∷ b ∷ []) (tail_in a b (b ∷ []) (head_in b [])))))
same_gate_back k top (Maj a b c) h =
    three Maj _ _ _ a b c (same_lit k top a (h a (head_in a (b ∷ c ∷ [])))) (same_lit k top b (h b (tail_in a b (b ∷ c ∷ []) (head_in b (c ∷ [])))))
    (same_lit k top c (h c (tail_in a c (b ∷ c ∷ []) (tail_in b c (c ∷ []) (head_in c [])))))

module _ (long : ℕ) (m : MadeOf) (w : IsWell long m) where
  abbrev keeps : ℕ → Bool
  keeps = is_kept m

  stays : (e : Gate × LitOf) → Contains m.core.kept e → keeps e.1.var ≡ true → (l : LitOf) → Contains (operands e.0) l → Stays keeps m.core.vars l
  stays e c t l i = let (lo, hi) = others_in m.core.vars (operands e.0) l (w.kept.all e.0 e.1 c).operands i in (closed long m w e l c t i, lo, hi)

  -- what an entry was
  was : (d : Gate × LitOf) → Contains (finished m).gates d → (e : Gate × LitOf) × Contains m.core.kept e × (keeps e.1.var ≡ true) × (renumbered_entry keeps e ≡ d)
  was d c =
      let (e, i, z) = map_in (renumbered_entry keeps) (filter (λ e. keeps e.1.var) m.core.kept) d c in
      let (j, t) = filter_in (λ (e : Gate × LitOf). keeps e.1.var) m.core.kept e i in
      (e, j, t, z)

  one : (d e : Gate × LitOf) → Contains (finished m).gates d → Contains (finished m).gates e → d.0 ≡ e.0 → d.1 ≡ e.1
  one d e c i h =
      let (x, p, t, y) = was d c in
      let (u, q, s, z) = was e i in
      let g : renumbered_gate keeps x.0 ≡ renumbered_gate keeps u.0 = ap (λ (k : Gate × LitOf). k.0) y ∙ h ∙ sym (ap (λ (k : Gate × LitOf). k.0) z) in
      let f : x.0 ≡ u.0 = sym (same_gate_back keeps m.core.vars x.0 (stays x p t)) ∙ ap (back_gate keeps m.core.vars) g ∙ same_gate_back keeps m.core.vars u.0 (stays u q s) in
      let l : x.1 ≡ u.1 = w.kept.one x.0 x.1 u.1 p (subst (λ (k : Gate). Contains m.core.kept (k, u.1)) (sym f) q) in
      sym (ap (λ (k : Gate × LitOf). k.1) y) ∙ ap (renumbered keeps) l ∙ ap (λ (k : Gate × LitOf). k.1) z

  vars_once : AreDistinct (map (λ (d : Gate × LitOf). d.1.var) (finished m).gates)
  vars_once = apart_places (gate_vars (finished m).gates) (rising_apart (suc (number keeps (2 - 1))) (gate_vars (finished m).gates) (filter_rising keeps m.core.kept 2 w.order (omega arith)))

  pub shared : Shared (finished m)
  shared = record {
    gates = λ i j k p q.
        let (d, a, e) = get_back (λ (d : Gate × LitOf). d.0) (finished m).gates i k p in
        let (f, b, g) = get_back (λ (d : Gate × LitOf). d.0) (finished m).gates j k q in
        let l = one d f (get_in (finished m).gates i d a) (get_in (finished m).gates j f b) (e ∙ sym g) in
        vars_once i j d.1.var (get_map (λ (d : Gate × LitOf). d.1.var) (finished m).gates i d a)
        (get_map (λ (d : Gate × LitOf). d.1.var) (finished m).gates j f b ∙ ap (λ (x : LitOf). Some x.var) (sym l));
    vars = vars_once;
  }

  above : (v : ℕ) → keeps v ≡ true → 1 < v → 1 < number keeps v
  above v t h =
      let e : number keeps 1 ≡ 1 = one_is long m w in
      let less = number_less keeps 1 v h t in
      omega arith

  apart : (u v : ℕ) → keeps u ≡ true → keeps v ≡ true → u ≢ v → number keeps u ≢ number keeps v
  apart u v s t d e = d (number_apart keeps u v s t e)

  -- gates over new numbers stay folded
  folded_still : (g : Gate) → ((l : LitOf) → Contains (operands g) l → Stays keeps m.core.vars l) → IsFolded g → IsFolded (renumbered_gate keeps g)
  folded_still (And a b) h f =
      let p = (h a (head_in a (b ∷ []))).0 in
      let q = (h b (tail_in a b (b ∷ []) (head_in b []))).0 in
      (above a.var p f.0, number_less keeps a.var b.var f.1 q)
  folded_still (Xor a b) h f =
      let p = (h a (head_in a (b ∷ []))).0 in
      let q = (h b (tail_in a b (b ∷ []) (head_in b []))).0 in
      (above a.var p f.0, number_less keeps a.var b.var f.1 q, f.2, f.3)
  folded_still (Mux s a b) h f =
      let r = (h s (head_in s (a ∷ b ∷ []))).0 in
      let p = (h a (tail_in s a (a ∷ b ∷ []) (head_in a (b ∷ [])))).0 in
      let q = (h b (tail_in s b (a ∷ b ∷ []) (tail_in a b (b ∷ []) (head_in b [])))).0 in
      (above s.var r f.0, above a.var p f.1, above b.var q f.2, apart s.var a.var r p f.3, apart s.var b.var r q f.4, apart a.var b.var p q f.5, f.6, f.7)
  folded_still (Maj a b c) h f =
      let p = (h a (head_in a (b ∷ c ∷ []))).0 in
      let q = (h b (tail_in a b (b ∷ c ∷ []) (head_in b (c ∷ [])))).0 in
      let r = (h c (tail_in a c (b ∷ c ∷ []) (tail_in b c (c ∷ []) (head_in c [])))).0 in
      (above a.var p f.0, number_less keeps a.var b.var f.1 q, number_less keeps b.var c.var f.2 r, f.3)

  pub folded : AreFolded m.core.kept → Folded (finished m)
  folded all d c = let (e, i, t, z) = was d c in subst (λ (k : Gate × LitOf). IsFolded k.0) z (folded_still e.0 (stays e i t) (all e i))

-- the laws
pub shared_law : (n : NetOf) (a : Asked) (c : Cycles) → IsNet n → made n a c ≤ MAX_VARS → Shared (encoding n a c)
shared_law n a c net few = by (goal_of n a) refl few
  where
    by : (o : Option LitOf) → goal_of n a ≡ o → vars_for n c o ≤ MAX_VARS → Shared (encoding_for n c o)
    by None e l = record {
      gates = λ i j x p q. absurd (let z : None ≡ Some x = p in cc);
      vars = λ i j x p q. absurd (let z : None ≡ Some x = p in cc);
    }
    by (Some goal) e l = shared (suc (vars n)) (made_for n goal c) (well n net goal (goal_within n a goal net e) c l)

pub folded_law : (n : NetOf) (a : Asked) (c : Cycles) → IsNet n → made n a c ≤ MAX_VARS → Folded (encoding n a c)
folded_law n a c net few = by (goal_of n a) refl few
  where
    by : (o : Option LitOf) → goal_of n a ≡ o → vars_for n c o ≤ MAX_VARS → Folded (encoding_for n c o)
    by None e l = λ d h. absurd (none_in d h)
    by (Some goal) e l =
        let within = goal_within n a goal net e in
        folded (suc (vars n)) (made_for n goal c) (well n net goal within c l)
        (run_folded (suc (vars n)) (nothing_made n) (program n goal c) (begun_well n) (program_placed n net goal within c) l (λ d i. absurd (none_in d i)))
