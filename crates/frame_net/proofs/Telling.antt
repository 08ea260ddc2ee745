-- What literals tell stays as gates are added.
use Rattle.std.proofs.Common.{◌≡◌, ℕ, ◌+◌, List, [], ◌∷◌, ◌++◌, Some, None, refl, sym, ◌∙◌, subst, inl, inr, arith}
use Rattle.cnf_form.specs.Cnf.{Assignment, LitOf}
use Rattle.gate_graph.specs.Circuit.{Continues, GatesOf}
use Rattle.gate_graph.specs.Laws.{keeps}
use Rattle.model_core.specs.Shape.{ModelOf}
use Rattle.model_core.specs.Meaning.{Reached}
use Rattle.frame_gates.specs.Frames.{Tells, cycle_of}
use Rattle.model_core.proofs.Lists.{length-push, push-either}
use Rattle.frame_net.specs.Making.{TellCovers}

pub tells_later : (g h : GatesOf) (holds : Assignment → Type 0) (l : LitOf) → Continues g h → Tells g holds l → Tells h holds l
tells_later g h holds l k t = record { within = let (a, b) = t.within in let v = k.vars in (a, omega arith); means = λ x s. t.means x (keeps g h k x s) }

pub covers_none : (m : ModelOf) (g : GatesOf) (table : List LitOf) → TellCovers m g table 0 []
covers_none m g table = record { size = refl; each = λ k l at. absurd (let z : None ≡ Some l = at in cc) }

pub covers_later : (m : ModelOf) (g h : GatesOf) (table : List LitOf) (count : ℕ) (covers : List LitOf) → Continues g h → TellCovers m g table count covers → TellCovers m h table count covers
covers_later m g h table count covers k t = record { size = t.size; each = λ i l at. tells_later g h (λ x. Reached m (cycle_of table x) i) l k (t.each i l at) }

pub covers_more : (m : ModelOf) (g h : GatesOf) (table : List LitOf) (count : ℕ) (covers : List LitOf) (l : LitOf) → Continues g h → TellCovers m g table count covers → Tells h (λ x. Reached m (cycle_of table x) count) l →
    TellCovers m h table (count + 1) (covers ++ l ∷ [])
covers_more m g h table count covers l k t new = record {
  size = let n = length-push covers l in let s = t.size in omega arith;
  each = λ i j at. elim (push-either covers l j i at) as (λ _. Tells h (λ x. Reached m (cycle_of table x) i) j) [
    | inl old ↦ tells_later g h (λ x. Reached m (cycle_of table x) i) j k (t.each i j old)
    | inr here ↦
        let place : count ≡ i = sym (here.0 ∙ t.size) in
        subst (λ (a : ℕ). Tells h (λ x. Reached m (cycle_of table x) a) j) place (subst (Tells h (λ x. Reached m (cycle_of table x) count)) (sym here.1) new)
  ];
}
