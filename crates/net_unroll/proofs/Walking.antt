-- What the variables of a cycle are given, one after the other.
use Rattle.std.proofs.Common.{◌≡◌, ◌⊎◌, ℕ, ◌<◌, Bool, true, false, List, [], ◌∷◌, ◌++◌, Option, Some, None, refl, sym, ap, ◌∙◌, subst, inl, inr, arith}
use Rattle.std.specs.Prelude.{Contains}
use Rattle.std.specs.List.{flat_map}
use Rattle.std.proofs.lemmas.Bool.{cases_eq}
use Rattle.cnf_form.specs.Cnf.{LitOf, lit_in}
use Rattle.gate_graph.specs.declared.gate.Gate.{Gate}
use Rattle.gate_graph.specs.Folding.{bit, operands}
use Rattle.bit_net.specs.Net.{NetOf, node_at}
use Rattle.bit_net.specs.declared.node.State.{State}
use Rattle.bit_net.specs.declared.node.Node.{Node}
use Rattle.bit_net.specs.declared.node.Node.TheVariants as node
use Rattle.bit_net.proofs.Extending.{bit_same}
use Rattle.bit_net.proofs.Lists.{cases_in, head_in, none_in, tail_in}
use Rattle.net_unroll.specs.Program.{Step, first_steps, later_steps, move_of, moves, state_step}
use Rattle.net_unroll.specs.Program.Step.{Input, Constant, Copy}
use Rattle.net_unroll.proofs.Means.{SaidOf, moved_bits, put, put_here, put_there, said_all}
use Rattle.net_unroll.proofs.Ordered.{IsOrdered}

-- what is done at a variable
pub data Act : Type 0 where
  keep : Act
  open_at : ℕ → Act
  fix : Bool → Act
  gated : Gate → Act

abbrev pub steps_of : ℕ → Act → List Step
steps_of v keep = []
steps_of v (open_at t) = Input t v ∷ []
steps_of v (fix b) = Constant v b ∷ []
steps_of v (gated g) = Copy v g ∷ []

abbrev pub state_act : Bool → Option Bool → Act
state_act true (Some b) = fix b
state_act true None = open_at 0
state_act false d = open_at 0

abbrev pub first_act : Bool → Node → Act
first_act start (node.State s) = state_act start s.start
first_act start node.Input = open_at 0
first_act start (node.Gate g) = gated g

abbrev pub later_act : ℕ → Node → Act
later_act t (node.State s) = keep
later_act t node.Input = open_at t
later_act t (node.Gate g) = gated g

pub first_is : (start : Bool) (v : ℕ) (m : Node) → first_steps start v m ≡ steps_of v (first_act start m)
first_is start v (node.State s) = by start s.start
  where
    by : (b : Bool) (d : Option Bool) → state_step b v d ∷ [] ≡ steps_of v (state_act b d)
    by true (Some x) = refl
    by true None = refl
    by false d = refl
first_is start v node.Input = refl
first_is start v (node.Gate g) = refl

pub later_is : (t v : ℕ) (m : Node) → later_steps t v m ≡ steps_of v (later_act t m)
later_is t v (node.State s) = refl
later_is t v node.Input = refl
later_is t v (node.Gate g) = refl

-- the value that it has, from those before
abbrev pub IsGiven : (ℕ → ℕ → Bool) → (ℕ → Bool) → (ℕ → Bool) → ℕ → Act → Type 0
IsGiven i old f v keep = f v ≡ old v
IsGiven i old f v (open_at t) = f v ≡ i t v
IsGiven i old f v (fix b) = f v ≡ b
IsGiven i old f v (gated g) = f v ≡ bit g f

abbrev value_of : (ℕ → ℕ → Bool) → (ℕ → Bool) → ℕ → Act → Bool
value_of i f v keep = f v
value_of i f v (open_at t) = i t v
value_of i f v (fix b) = b
value_of i f v (gated g) = bit g f

-- nothing but values is changed
pub record IsSame (a b : SaidOf) : Type 0 where
  pub assumed : b.assumed ≡ a.assumed
  pub ok : b.ok ≡ a.ok
  pub goals : b.goals ≡ a.goals

module _ (n : NetOf) (i : ℕ → ℕ → Bool) (act : ℕ → Act) (gates : (v : ℕ) (g : Gate) → act v ≡ gated g → node_at n v ≡ node.Gate g) (old : ℕ → Bool) where
  -- those that have been given have their values, and what gates read has been given
  pub record AreGiven (P : ℕ → Type 0) (f : ℕ → Bool) : Type 0 where
    pub each : (v : ℕ) → P v → IsGiven i old f v (act v)
    pub reads : (v : ℕ) (g : Gate) (o : LitOf) → P v → act v ≡ gated g → Contains (operands g) o → (o.var ≡ 1) ⊎ P o.var
    pub others : (v : ℕ) → (P v → ⊥) → f v ≡ old v

  stays : (P : ℕ → Type 0) (f : ℕ → Bool) (v u : ℕ) (b : Bool) → AreGiven P f → (P v → ⊥) → 1 < v → P u → (a : Act) → act u ≡ a → IsGiven i old f u a → IsGiven i old (put f v b) u a
  stays P f v u b has new lo p a e h = by a e h
    where
      apart : (u ≡ v → ⊥)
      apart q = new (subst P q p)

      by : (a : Act) → act u ≡ a → IsGiven i old f u a → IsGiven i old (put f v b) u a
      by keep e h = put_there f v b u apart ∙ h
      by (open_at t) e h = put_there f v b u apart ∙ h
      by (fix c) e h = put_there f v b u apart ∙ h
      by (gated g) e h =
          put_there f v b u apart ∙ h
          ∙ bit_same f (put f v b) g (λ o c. elim (has.reads u g o p e c) as (λ _. f o.var ≡ put f v b o.var) [
            | inl one ↦ sym (put_there f v b o.var (λ q. (let z : 1 ≡ v = sym one ∙ q in omega arith)))
            | inr q ↦ sym (put_there f v b o.var (λ r. new (subst P r q)))
          ])

  one_more : (P : ℕ → Type 0) (f : ℕ → Bool) (v : ℕ) → AreGiven P f → (P v → ⊥) → 1 < v → ((g : Gate) (o : LitOf) → node_at n v ≡ node.Gate g → Contains (operands g) o → (o.var ≡ 1) ⊎ P o.var) →
      (b : Bool) → b ≡ value_of i f v (act v) → AreGiven (λ u. P u ⊎ (u ≡ v)) (put f v b)
  one_more P f v has new lo below b value = record {
    each = λ u h. elim h as (λ _. IsGiven i old (put f v b) u (act u)) [
      | inl p ↦ stays P f v u b has new lo p (act u) refl (has.each u p)
      | inr q ↦ subst (λ (w : ℕ). IsGiven i old (put f v b) w (act w)) (sym q) (here (act v) refl value)
    ];
    reads = λ u g o h e c. elim h as (λ _. (o.var ≡ 1) ⊎ (P o.var ⊎ (o.var ≡ v))) [
      | inl p ↦ up o (has.reads u g o p e c)
      | inr q ↦ up o (below g o (gates v g (ap act (sym q) ∙ e)) c)
    ];
    others = λ u h. put_there f v b u (λ q. h (inr q)) ∙ has.others u (λ p. h (inl p));
  }
    where
      up : (o : LitOf) → (o.var ≡ 1) ⊎ P o.var → (o.var ≡ 1) ⊎ (P o.var ⊎ (o.var ≡ v))
      up o h = elim h as (λ _. (o.var ≡ 1) ⊎ (P o.var ⊎ (o.var ≡ v))) [ inl a ↦ inl a | inr p ↦ inr (inl p) ]

      here : (a : Act) → act v ≡ a → b ≡ value_of i f v a → IsGiven i old (put f v b) v a
      here keep e h = put_here f v b ∙ h ∙ has.others v new
      here (open_at t) e h = put_here f v b ∙ h
      here (fix c) e h = put_here f v b ∙ h
      here (gated g) e h =
          put_here f v b ∙ h
          ∙ bit_same f (put f v b) g (λ o c. elim (below g o (gates v g e) c) as (λ _. f o.var ≡ put f v b o.var) [
            | inl one ↦ sym (put_there f v b o.var (λ q. (let z : 1 ≡ v = sym one ∙ q in omega arith)))
            | inr p ↦ sym (put_there f v b o.var (λ r. new (subst P r p)))
          ])

  given_same : (P : ℕ → Type 0) (f g : ℕ → Bool) → ((u : ℕ) → f u ≡ g u) → AreGiven P f → AreGiven P g
  given_same P f g same has = record {
    each = λ v p. by v (act v) (has.each v p);
    reads = has.reads;
    others = λ v h. sym (same v) ∙ has.others v h;
  }
    where
      by : (v : ℕ) (a : Act) → IsGiven i old f v a → IsGiven i old g v a
      by v keep h = sym (same v) ∙ h
      by v (open_at t) h = sym (same v) ∙ h
      by v (fix b) h = sym (same v) ∙ h
      by v (gated k) h = sym (same v) ∙ h ∙ bit_same f g k (λ o c. same o.var)

  -- a step at a variable puts its value, or leaves it
  put_own : (f : ℕ → Bool) (v u : ℕ) → put f v (f v) u ≡ f u
  put_own f v u = elim (cases_eq u v) as (λ _. put f v (f v) u ≡ f u) [
    | inl e ↦ subst (λ (w : ℕ). put f v (f v) w ≡ f w) (sym e) (put_here f v (f v))
    | inr e ↦ put_there f v (f v) u e
  ]

  pub record Walked (P : ℕ → Type 0) (vs : List ℕ) (a b : SaidOf) : Type 0 where
    pub same : IsSame a b
    pub given : AreGiven (λ u. P u ⊎ Contains vs u) b.values

  shift : (P : ℕ → Type 0) (v : ℕ) (vs : List ℕ) (f : ℕ → Bool) → AreGiven (λ u. (P u ⊎ (u ≡ v)) ⊎ Contains vs u) f → AreGiven (λ u. P u ⊎ Contains (v ∷ vs) u) f
  shift P v vs f has = record {
    each = λ u h. has.each u (back u h);
    reads = λ u g o h e c. elim (has.reads u g o (back u h) e c) as (λ _. (o.var ≡ 1) ⊎ (P o.var ⊎ Contains (v ∷ vs) o.var)) [ inl a ↦ inl a | inr q ↦ inr (on o.var q) ];
    others = λ u h. has.others u (λ q. h (on u q));
  }
    where
      back : (u : ℕ) → P u ⊎ Contains (v ∷ vs) u → (P u ⊎ (u ≡ v)) ⊎ Contains vs u
      back u h = elim h as (λ _. (P u ⊎ (u ≡ v)) ⊎ Contains vs u) [
        | inl p ↦ inl (inl p)
        | inr c ↦ elim (cases_in v vs u c) as (λ _. (P u ⊎ (u ≡ v)) ⊎ Contains vs u) [ inl e ↦ inl (inr (sym e)) | inr d ↦ inr d ]
      ]

      on : (u : ℕ) → (P u ⊎ (u ≡ v)) ⊎ Contains vs u → P u ⊎ Contains (v ∷ vs) u
      on u h = elim h as (λ _. P u ⊎ Contains (v ∷ vs) u) [
        | inl w ↦ elim w as (λ _. P u ⊎ Contains (v ∷ vs) u) [ inl p ↦ inl p | inr e ↦ inr (subst (Contains (v ∷ vs)) (sym e) (head_in v vs)) ]
        | inr d ↦ inr (tail_in v u vs d)
      ]

  pub walk : (P : ℕ → Type 0) (vs : List ℕ) (s : SaidOf) → IsOrdered n P vs → AreGiven P s.values → Walked P vs s (said_all i s (flat_map (λ v. steps_of v (act v)) vs))
  walk P [] s o has = record {
    same = record { assumed = refl; ok = refl; goals = refl };
    given = record {
      each = λ u h. elim h as (λ _. IsGiven i old s.values u (act u)) [ inl p ↦ has.each u p | inr c ↦ absurd (none_in u c) ];
      reads = λ u g l h e c. elim h as (λ _. (l.var ≡ 1) ⊎ (P l.var ⊎ Contains [] l.var)) [
        | inl p ↦ elim (has.reads u g l p e c) as (λ _. (l.var ≡ 1) ⊎ (P l.var ⊎ Contains [] l.var)) [ inl a ↦ inl a | inr q ↦ inr (inl q) ]
        | inr d ↦ absurd (none_in u d)
      ];
      others = λ u h. has.others u (λ p. h (inl p));
    };
  }
  walk P (v ∷ vs) s o has = by (λ t h. walk (λ u. P u ⊎ (u ≡ v)) vs t o.3 h) (act v) refl
    where
      next : (b : Bool) → b ≡ value_of i s.values v (act v) → AreGiven (λ u. P u ⊎ (u ≡ v)) (put s.values v b)
      next b e = one_more P s.values v has o.0 o.1 o.2 b e

      on : ((t : SaidOf) → AreGiven (λ u. P u ⊎ (u ≡ v)) t.values → Walked (λ u. P u ⊎ (u ≡ v)) vs t (said_all i t (flat_map (λ w. steps_of w (act w)) vs))) → (t : SaidOf) → IsSame s t → AreGiven (λ u. P u ⊎ (u ≡ v)) t.values → Walked P (v ∷ vs) s (said_all i t (flat_map (λ w. steps_of w (act w)) vs))
      on rest t same there =
          let w = rest t there in
          record {
            same = record { assumed = w.same.assumed ∙ same.assumed; ok = w.same.ok ∙ same.ok; goals = w.same.goals ∙ same.goals };
            given = shift P v vs _ w.given;
          }

      by : ((t : SaidOf) → AreGiven (λ u. P u ⊎ (u ≡ v)) t.values → Walked (λ u. P u ⊎ (u ≡ v)) vs t (said_all i t (flat_map (λ w. steps_of w (act w)) vs))) → (a : Act) → act v ≡ a → Walked P (v ∷ vs) s (said_all i s (steps_of v a ++ flat_map (λ w. steps_of w (act w)) vs))
      by rest keep e = on rest s (record { assumed = refl; ok = refl; goals = refl })
          (given_same (λ u. P u ⊎ (u ≡ v)) (put s.values v (s.values v)) s.values (put_own s.values v) (next (s.values v) (ap (value_of i s.values v) (sym e))))
      by rest (open_at t) e = on rest (record s { values = put s.values v (i t v) }) (record { assumed = refl; ok = refl; goals = refl }) (next (i t v) (ap (value_of i s.values v) (sym e)))
      by rest (fix b) e = on rest (record s { values = put s.values v b }) (record { assumed = refl; ok = refl; goals = refl }) (next b (ap (value_of i s.values v) (sym e)))
      by rest (gated g) e = on rest (record s { values = put s.values v (bit g s.values) }) (record { assumed = refl; ok = refl; goals = refl }) (next (bit g s.values) (ap (value_of i s.values v) (sym e)))

-- moves
pub moved_state : (n : NetOf) (old : ℕ → Bool) (vs : List ℕ) (f : ℕ → Bool) (v : ℕ) (s : State) → node_at n v ≡ node.State s → Contains vs v ⊎ (f v ≡ lit_in old s.next) → moved_bits old (moves n vs) f v ≡ lit_in old s.next
moved_state n old [] f v s at h = elim h as (λ _. f v ≡ lit_in old s.next) [ inl c ↦ absurd (none_in v c) | inr e ↦ e ]
moved_state n old (u ∷ vs) f v s at h = by (node_at n u) refl (λ g k. moved_state n old vs g v s at k)
  where
    other : ((r : State) → node_at n u ≡ node.State r → ⊥) → Contains vs v ⊎ (f v ≡ lit_in old s.next)
    other nope = elim h as (λ _. Contains vs v ⊎ (f v ≡ lit_in old s.next)) [
      | inl c ↦ elim (cases_in u vs v c) as (λ _. Contains vs v ⊎ (f v ≡ lit_in old s.next)) [ inl d ↦ absurd (nope s (ap (node_at n) d ∙ at)) | inr d ↦ inl d ]
      | inr d ↦ inr d
    ]

    by : (m : Node) → node_at n u ≡ m → ((g : ℕ → Bool) → Contains vs v ⊎ (g v ≡ lit_in old s.next) → moved_bits old (moves n vs) g v ≡ lit_in old s.next) → moved_bits old (move_of u m ++ moves n vs) f v ≡ lit_in old s.next
    by (node.State r) e rest = rest (put f u (lit_in old r.next)) (elim (cases_eq v u) as (λ _. Contains vs v ⊎ (put f u (lit_in old r.next) v ≡ lit_in old s.next)) [
      | inl q ↦
          let z : node.State r ≡ node.State s = sym e ∙ ap (node_at n) (sym q) ∙ at in
          let w : r ≡ s = cc in
          inr (subst (λ (k : ℕ). put f u (lit_in old r.next) k ≡ lit_in old s.next) (sym q) (put_here f u (lit_in old r.next) ∙ ap (λ (k : State). lit_in old k.next) w))
      | inr q ↦ elim h as (λ _. Contains vs v ⊎ (put f u (lit_in old r.next) v ≡ lit_in old s.next)) [
        | inl c ↦ elim (cases_in u vs v c) as (λ _. Contains vs v ⊎ (put f u (lit_in old r.next) v ≡ lit_in old s.next)) [ inl d ↦ absurd (q (sym d)) | inr d ↦ inl d ]
        | inr d ↦ inr (put_there f u (lit_in old r.next) v q ∙ d)
      ]
    ])
    by node.Input e rest = rest f (other (λ r q. (let z : node.Input ≡ node.State r = sym e ∙ q in cc)))
    by (node.Gate g) e rest = rest f (other (λ r q. (let z : node.Gate g ≡ node.State r = sym e ∙ q in cc)))

pub moved_other : (n : NetOf) (old : ℕ → Bool) (vs : List ℕ) (f : ℕ → Bool) (v : ℕ) → ((w : ℕ) → Contains vs w → w ≡ v → ⊥) → moved_bits old (moves n vs) f v ≡ f v
moved_other n old [] f v nope = refl
moved_other n old (u ∷ vs) f v nope = by (node_at n u) (λ g. moved_other n old vs g v (λ w c. nope w (tail_in u w vs c)))
  where
    by : (m : Node) → ((g : ℕ → Bool) → moved_bits old (moves n vs) g v ≡ g v) → moved_bits old (move_of u m ++ moves n vs) f v ≡ f v
    by (node.State r) rest = rest (put f u (lit_in old r.next)) ∙ put_there f u (lit_in old r.next) v (λ e. nope u (head_in u vs) (sym e))
    by node.Input rest = rest f
    by (node.Gate g) rest = rest f
