-- The same reports in another order have the same outcome.
use Rattle.race_core.specs.Asking.{name_at}
use Rattle.race_core.specs.Told.{Decided}
use Rattle.std.proofs.Common.{◌≡◌, ◌⊎◌, ℕ, List, Option, Some, None, refl, sym, ap, ◌∙◌, subst, inl, inr, arith}
use Rattle.std.specs.Prelude.{Contains}
use Rattle.sby_terms.specs.Problem.{ProblemOf}
use Rattle.sby_terms.specs.Decide.{Decides}
use Rattle.sby_terms.specs.Status.{HasStatus}
use Rattle.sby_terms.specs.declared.names.Mode.{Mode}
use Rattle.sby_terms.specs.declared.names.JobName.{JobName}
use Rattle.sby_terms.specs.declared.names.Answer.{Answer}
use Rattle.sby_terms.specs.declared.names.Verdict.{Verdict}
use Rattle.sby_terms.specs.declared.names.Event.{Event}
use Rattle.sby_terms.specs.declared.names.Status.{Status}
use Rattle.race_core.specs.Report.{ReportOf}
use Rattle.race_core.specs.Collect.{SettledIn, IsAnswer, HasWon, HasFinding, IsLowest, IsPrinting, IsStatus, AreCollected, ArePrinting, IsOutcome, SameMembers, AreTrue}
use Rattle.race_law.proofs.Deciding.{compare, verdict-status, quiet-status}

none-some : {X : Type 0} (x : X) → None ≡ Some x → ⊥
none-some x e = cc

module _ {T : Type 0} (problem : T → ProblemOf) (job : T → JobName) (answer : T → Answer) (is_true : T → Type 0)
    (one_answer : (a b : T) → is_true a → is_true b → problem a ≡ problem b → job a ≡ job b → answer a ≡ answer b)
    (mode : Mode) (one_verdict : (answers : List (Option Answer)) (v u : Verdict) → Decides mode answers v → Decides mode answers u → v ≡ u)
    (jobs : ℕ) (p : ProblemOf) (xs ys : List (ReportOf T)) (same : SameMembers xs ys) (true_xs : AreTrue problem is_true p xs) where
  over : (name : JobName) (f : T) → SettledIn job xs name f → SettledIn job ys name f
  over name f s = (s.0, same.0 s.0 s.1, s.2, s.3)

  back : (name : JobName) (f : T) → SettledIn job ys name f → SettledIn job xs name f
  back name f s = (s.0, same.1 s.0 s.1, s.2, s.3)

  one : (name : JobName) (a b : Option Answer) → IsAnswer answer (λ f. SettledIn job xs name f) a → IsAnswer answer (λ f. SettledIn job ys name f) b → (a ≡ b) ⊎ ⊥
  one name (Some a) (Some b) d e =
      let t = true_xs d.1.0 d.0 d.1.1 d.1.2 in
      let back_e = back name e.0 e.1 in
      let u = true_xs back_e.0 e.0 back_e.1 back_e.2 in
      inl (ap (λ (x : Answer). Some x) (sym d.2 ∙ one_answer d.0 e.0 t.0 u.0 (t.1 ∙ sym u.1) (d.1.3 ∙ sym e.1.3) ∙ e.2))
  one name (Some a) None d e = inr (e d.0 (over name d.0 d.1))
  one name None (Some b) d e = inr (d e.0 (back name e.0 e.1))
  one name None None d e = inl refl

  no-other : {X : Type 0} (x y : X) → (x ≡ y) ⊎ ⊥ → x ≡ y
  no-other x y h = elim h [ inl e ↦ e | inr n ↦ absurd n ]

  same-answers : (cs bs : List (Option Answer)) → AreCollected job answer mode jobs xs cs → AreCollected job answer mode jobs ys bs → cs ≡ bs
  same-answers cs bs a b = no-other cs bs (compare (λ k. IsAnswer answer (λ f. SettledIn job xs (name_at mode k) f)) (λ k. IsAnswer answer (λ f. SettledIn job ys (name_at mode k) f)) ⊥ cs bs
      (a.size ∙ sym b.size) a.entry b.entry (λ k x y d e. one (name_at mode k) x y d e))

  one-lowest : (P : ReportOf T → Type 0) (a b : Option ℕ) → IsLowest P xs a → IsLowest P ys b → a ≡ b
  one-lowest P (Some x) (Some y) d e =
      let le = d.1 e.0.0 (same.1 e.0.0 e.0.1) e.0.3 in
      let ge = e.1 d.0.0 (same.0 d.0.0 d.0.1) d.0.3 in
      let at_x = d.0.2 in let at_y = e.0.2 in
      let eq : x ≡ y = omega arith in ap (λ (n : ℕ). Some n) eq
  one-lowest P (Some x) None d e = absurd (e d.0.0 (same.0 d.0.0 d.0.1) d.0.3)
  one-lowest P None (Some y) d e = absurd (d e.0.0 (same.1 e.0.0 e.0.1) e.0.3)
  one-lowest P None None d e = refl

  one-printing : (k : ℕ) (name : JobName) (a b : Option ℕ) → IsPrinting job xs k name a → IsPrinting job ys k name b → (a ≡ b) ⊎ ⊥
  one-printing k name a b d e = elim d [
    | inl x ↦ elim e [
      | inl y ↦ inl (one-lowest (λ r. HasWon r k) a b x.0 y.0)
      | inr y ↦ inr (x.1 (one-lowest (λ r. HasWon r k) a None x.0 y.0))
    ]
    | inr x ↦ elim e [
      | inl y ↦ inr (y.1 (sym (one-lowest (λ r. HasWon r k) None b x.0 y.0)))
      | inr y ↦ inl (one-lowest (HasFinding job name) a b x.1 y.1)
    ]
  ]

  same-lanes : (cs bs : List (Option ℕ)) → ArePrinting job mode jobs xs cs → ArePrinting job mode jobs ys bs → cs ≡ bs
  same-lanes cs bs a b = no-other cs bs (compare (λ k. IsPrinting job xs k (name_at mode k)) (λ k. IsPrinting job ys k (name_at mode k)) ⊥ cs bs
      (a.size ∙ sym b.size) a.each b.each (λ k x y d e. one-printing k (name_at mode k) x y d e))

  module _ (cs : List (Option Answer)) where
    by-verdict : (d e : Option Verdict) (es fs : List Event) (s t : Status) → Decided mode cs d → Decided mode cs e → HasStatus d es s → HasStatus e fs t
        → ((x : Event) → Contains es x → Contains fs x) → ((x : Event) → Contains fs x → Contains es x) → s ≡ t
    by-verdict (Some v) (Some u) es fs s t d e h k to from = verdict-status v es fs s t h (subst (λ x. HasStatus (Some x) fs t) (one_verdict cs u v e d) k)
    by-verdict (Some v) None es fs s t d e h k to from = absurd (e v d)
    by-verdict None (Some u) es fs s t d e h k to from = absurd (d u e)
    by-verdict None None es fs s t d e h k to from = quiet-status es fs to from s t h k

    same-status : (s t : Status) → IsStatus job mode xs cs s → IsStatus job mode ys cs t → s ≡ t
    same-status s t a b = by-verdict a.decided b.decided a.events b.events s t a.decides b.decides a.has_status b.has_status
        (λ x c. let o = a.come x c in subst (λ y. Contains b.events y) o.4 (b.all o.0 o.1 (same.0 o.0 o.2) o.3))
        (λ x c. let o = b.come x c in subst (λ y. Contains a.events y) o.4 (a.all o.0 o.1 (same.1 o.0 o.2) o.3))

  pub same-outcome : (cs bs : List (Option Answer)) (ls ms : List (Option ℕ)) (s t : Status) → IsOutcome job answer mode jobs xs cs ls s → IsOutcome job answer mode jobs ys bs ms t
      → (cs ≡ bs) × (ls ≡ ms) × (s ≡ t)
  same-outcome cs bs ls ms s t a b =
      let e = same-answers cs bs a.are_answers b.are_answers in
      (e, same-lanes ls ms a.are_printing b.are_printing, same-status cs s t a.has_status (subst (λ zs. IsStatus job mode ys zs t) (sym e) b.has_status))
