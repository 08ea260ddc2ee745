-- Two ways to end that settle the same jobs, but for those that a finding decides away, have one status.
use Rattle.race_core.specs.Told.{told_by, Decided}
use Rattle.std.proofs.Common.{◌≡◌, ◌⊎◌, ℕ, zero, suc, ◌<◌, List, [], ◌∷◌, length, Option, Some, None, refl, sym, ap, ◌∙◌, subst, inl, inr, arith}
use Rattle.std.specs.Prelude.{slice_get, Contains}
use Rattle.std.proofs.lemmas.Option.{slice_get-get_or}
use Rattle.std.proofs.Common.{get_or}
use Rattle.sby_terms.specs.Decide.{Decides}
use Rattle.sby_terms.specs.Status.{HasStatus}
use Rattle.sby_terms.specs.declared.names.Mode.{Mode}
use Rattle.sby_terms.specs.declared.names.Answer.{Answer}
use Rattle.sby_terms.specs.declared.names.Verdict.{Verdict}
use Rattle.sby_terms.specs.declared.names.Verdict.TheVariants as verdict
use Rattle.sby_terms.specs.declared.names.Event.{Event}
use Rattle.sby_terms.specs.declared.names.Event.TheVariants as told
use Rattle.sby_terms.specs.declared.names.Status.{Status}
use Rattle.sby_terms.specs.declared.names.Status.TheVariants as status
use Rattle.race_core.specs.declared.end.JobEnd.{JobEnd}
use Rattle.race_law.specs.Status.{IsEntry, AreAnswers, AreEvents}

pub compare : {X : Type 0} (D E : ℕ → X → Type 0) (F : Type 0) (xs ys : List X) → length xs ≡ length ys
    → ((k : ℕ) (o : X) → slice_get xs k ≡ Some o → D k o) → ((k : ℕ) (o : X) → slice_get ys k ≡ Some o → E k o)
    → ((k : ℕ) (a b : X) → D k a → E k b → (a ≡ b) ⊎ F) → (xs ≡ ys) ⊎ F
compare D E F [] [] size d e pair = inl refl
compare D E F [] (y ∷ ys) size d e pair = absurd (omega arith)
compare D E F (x ∷ xs) [] size d e pair = absurd (omega arith)
compare D E F (x ∷ xs) (y ∷ ys) size d e pair =
    elim (pair zero x y (d zero x refl) (e zero y refl)) [
      | inl head ↦ elim (compare (λ k. D (suc k)) (λ k. E (suc k)) F xs ys (omega arith) (λ k o h. d (suc k) o h) (λ k o h. e (suc k) o h) (λ k a b. pair (suc k) a b)) [
        | inl tail ↦ inl (cc)
        | inr f ↦ inr f
      ]
      | inr f ↦ inr f
    ]

fail-status : (v : Verdict) (events : List Event) (s : Status) → v ≡ verdict.Fail → HasStatus (Some v) events s → s ≡ status.Fail
fail-status v events status.Pass e h = absurd (pass-fail v h e)
  where
    pass-fail : (v : Verdict) → v ≡ verdict.Pass → v ≡ verdict.Fail → ⊥
    pass-fail v d e = cc
fail-status v events status.Fail e h = refl
fail-status v events s e h = absurd h

pub verdict-status : (v : Verdict) (es fs : List Event) (s t : Status) → HasStatus (Some v) es s → HasStatus (Some v) fs t → s ≡ t
verdict-status v es fs status.Pass status.Pass h k = refl
verdict-status v es fs status.Fail status.Fail h k = refl
verdict-status v es fs status.Pass status.Fail h k = absurd (let a : v ≡ verdict.Pass = h in let b : v ≡ verdict.Fail = k in cc)
verdict-status v es fs status.Fail status.Pass h k = absurd (let a : v ≡ verdict.Pass = k in let b : v ≡ verdict.Fail = h in cc)
verdict-status v es fs status.Pass t h k = absurd k
verdict-status v es fs status.Fail t h k = absurd k
verdict-status v es fs s t h k = absurd h

pub quiet-status : (es fs : List Event) → ((e : Event) → Contains es e → Contains fs e) → ((e : Event) → Contains fs e → Contains es e)
    → (s t : Status) → HasStatus None es s → HasStatus None fs t → s ≡ t
quiet-status es fs to from status.Memory status.Memory h k = refl
quiet-status es fs to from status.Timeout status.Timeout h k = refl
quiet-status es fs to from status.Error status.Error h k = refl
quiet-status es fs to from status.Unknown status.Unknown h k = refl
quiet-status es fs to from status.Memory status.Timeout h k = absurd (k.0 (to told.Memory h))
quiet-status es fs to from status.Memory status.Error h k = absurd (k.0 (to told.Memory h))
quiet-status es fs to from status.Memory status.Unknown h k = absurd (k.0 (to told.Memory h))
quiet-status es fs to from status.Timeout status.Memory h k = absurd (h.0 (from told.Memory k))
quiet-status es fs to from status.Error status.Memory h k = absurd (h.0 (from told.Memory k))
quiet-status es fs to from status.Unknown status.Memory h k = absurd (h.0 (from told.Memory k))
quiet-status es fs to from status.Timeout status.Error h k = absurd (k.1 (to told.Stopped h.1))
quiet-status es fs to from status.Timeout status.Unknown h k = absurd (k.1 (to told.Stopped h.1))
quiet-status es fs to from status.Error status.Timeout h k = absurd (h.1 (from told.Stopped k.1))
quiet-status es fs to from status.Unknown status.Timeout h k = absurd (h.1 (from told.Stopped k.1))
quiet-status es fs to from status.Error status.Unknown h k = absurd (k.2 (to told.Fault h.2))
quiet-status es fs to from status.Unknown status.Error h k = absurd (h.2 (from told.Fault k.2))
quiet-status es fs to from status.Pass t h k = absurd h
quiet-status es fs to from status.Fail t h k = absurd h
quiet-status es fs to from s status.Pass h k = absurd k
quiet-status es fs to from s status.Fail h k = absurd k

-- some finding settles the job, or decides it away
abbrev pub Has : {T : Type 0} → (ℕ → T → Type 0) → (ℕ → T → Type 0) → ℕ → Type 0
Has {T} Fatal S k = ((f : T) × S k f) ⊎ ((l : ℕ) × (f : T) × S l f × Fatal k f)

module _ {T : Type 0} (mode : Mode) (answer : T → Answer) (IsFor : ℕ → T → Type 0) (Fatal : ℕ → T → Type 0) (jobs : ℕ)
    (one_answer : (k : ℕ) (f g : T) → IsFor k f → IsFor k g → answer f ≡ answer g)
    (for_job : (k : ℕ) (f : T) → IsFor k f → k < jobs)
    (alike : (j c : ℕ) (f g : T) → IsFor c f → IsFor c g → Fatal j g → Fatal j f)
    (decides : (k l : ℕ) (f : T) → IsFor l f → Fatal k f → (answers : List (Option Answer)) → slice_get answers l ≡ Some (Some (answer f)) → Decides mode answers verdict.Fail) where
  entry-of : (S : T → Type 0) (k : ℕ) → ((f : T) → S f → IsFor k f) → (o : Option Answer) (f : T) → S f → IsEntry answer S o → o ≡ Some (answer f)
  entry-of S k for (Some a) f s e = ap (λ (x : Answer). Some x) (sym e.2 ∙ one_answer k e.0 f (for e.0 e.1) (for f s))
  entry-of S k for None f s e = absurd (e f s)

  -- what decides a job away decides the answers
  fails : (S : ℕ → T → Type 0) → ((k : ℕ) (f : T) → S k f → IsFor k f) → (answers : List (Option Answer)) → AreAnswers answer S jobs answers
      → (k l : ℕ) (f : T) → S l f → Fatal k f → Decides mode answers verdict.Fail
  fails S for answers are k l f s fatal =
      let at = slice_get-get_or answers l None (omega (arith, are.size, for_job l f (for l f s))) in
      decides k l f (for l f s) fatal answers (at ∙ ap (λ (o : Option Answer). Some o) (entry-of (S l) l (for l) (get_or answers l None) f s (are.entry l (get_or answers l None) at)))

  module _ (S R : ℕ → T → Type 0) (for_s : (k : ℕ) (f : T) → S k f → IsFor k f) (for_r : (k : ℕ) (f : T) → R k f → IsFor k f)
      (over : (k : ℕ) → Has Fatal S k → Has Fatal R k) (answers : List (Option Answer)) (are : AreAnswers answer R jobs answers) where
    -- .. and those of the other way
    fails-over : (k l : ℕ) (f : T) → S l f → Fatal k f → Decides mode answers verdict.Fail
    fails-over k l f s fatal = elim (over l (inl (f, s))) [
      | inl own ↦ fails R for_r answers are k l own.0 own.1 (alike k l own.0 f (for_r l own.0 own.1) (for_s l f s) fatal)
      | inr far ↦ fails R for_r answers are l far.0 far.1 far.2 far.3
    ]

  module _ (S R : ℕ → T → Type 0) (for_s : (k : ℕ) (f : T) → S k f → IsFor k f) (for_r : (k : ℕ) (f : T) → R k f → IsFor k f)
      (over : (k : ℕ) → Has Fatal S k → Has Fatal R k) (back : (k : ℕ) → Has Fatal R k → Has Fatal S k)
      (xs ys : List (Option Answer)) (are_s : AreAnswers answer S jobs xs) (are_r : AreAnswers answer R jobs ys) where
    Both : Type 0
    Both = Decides mode xs verdict.Fail × Decides mode ys verdict.Fail

    pair : (k : ℕ) (a b : Option Answer) → IsEntry answer (S k) a → IsEntry answer (R k) b → (a ≡ b) ⊎ Both
    unfolding Both
    pair k (Some a) (Some b) d e = inl (ap (λ (x : Answer). Some x) (sym d.2 ∙ one_answer k d.0 e.0 (for_s k d.0 d.1) (for_r k e.0 e.1) ∙ e.2))
    pair k (Some a) None d e = elim (over k (inl (d.0, d.1))) [
      | inl own ↦ absurd (e own.0 own.1)
      | inr far ↦ inr (fails-over R S for_r for_s back xs are_s k far.0 far.1 far.2 far.3, fails R for_r ys are_r k far.0 far.1 far.2 far.3)
    ]
    pair k None (Some b) d e = elim (back k (inl (e.0, e.1))) [
      | inl own ↦ absurd (d own.0 own.1)
      | inr far ↦ inr (fails S for_s xs are_s k far.0 far.1 far.2 far.3, fails-over S R for_s for_r over ys are_r k far.0 far.1 far.2 far.3)
    ]
    pair k None None d e = inl refl

    same-answers : (xs ≡ ys) ⊎ Both
    same-answers = compare (λ k. IsEntry answer (S k)) (λ k. IsEntry answer (R k)) Both xs ys (are_s.size ∙ sym are_r.size) are_s.entry are_r.entry pair

    module _ (one_verdict : (answers : List (Option Answer)) (v u : Verdict) → Decides mode answers v → Decides mode answers u → v ≡ u)
        (lanes : ℕ) (ends other : ℕ → ℕ → JobEnd T)
        (same_ends : (i k : ℕ) → i < lanes → k < jobs → (ends i k ≡ other i k) ⊎ Has Fatal S k) where
      failed : (zs : List (Option Answer)) (d : Option Verdict) (events : List Event) (s : Status) → Decided mode zs d → Decides mode zs verdict.Fail → HasStatus d events s → s ≡ status.Fail
      failed zs (Some v) events s d fail h = fail-status v events s (one_verdict zs v verdict.Fail d fail) h
      failed zs None events s d fail h = absurd (d verdict.Fail fail)

      -- no verdict: no finding decides a job away
      undecided : Decided mode xs None → (k l : ℕ) (f : T) → S l f → Fatal k f → ⊥
      undecided d k l f s fatal = d verdict.Fail (fails S for_s xs are_s k l f s fatal)

      still-s : Decided mode xs None → (k : ℕ) → ((f : T) → R k f → ⊥) → Has Fatal S k → ⊥
      still-s d k none h = elim h [
        | inl own ↦ elim (over k (inl (own.0, own.1))) [
          | inl x ↦ none x.0 x.1
          | inr x ↦ elim (back x.0 (inl (x.1, x.2))) [
            | inl y ↦ undecided d k x.0 y.0 y.1 (alike k x.0 y.0 x.1 (for_s x.0 y.0 y.1) (for_r x.0 x.1 x.2) x.3)
            | inr y ↦ undecided d x.0 y.0 y.1 y.2 y.3
          ]
        ]
        | inr far ↦ undecided d k far.0 far.1 far.2 far.3
      ]

      still-r : Decided mode xs None → (k : ℕ) → ((f : T) → S k f → ⊥) → Has Fatal R k → ⊥
      still-r d k none h = elim (back k h) [
        | inl own ↦ none own.0 own.1
        | inr far ↦ undecided d k far.0 far.1 far.2 far.3
      ]

      module _ (es fs : List Event) (are_es : AreEvents lanes jobs S ends es) (are_fs : AreEvents lanes jobs R other fs) (none : Decided mode xs None) where
        to : (e : Event) → Contains es e → Contains fs e
        to e c =
            let x = are_es.come e c in
            elim (same_ends x.0 x.1 x.2 x.3) [
              | inl same ↦ subst (λ e. Contains fs e) (ap (λ y. told_by y) (sym same) ∙ x.5) (are_fs.all x.0 x.1 x.2 x.3 (λ f r. still-r none x.1 x.4 (inl (f, r))))
              | inr has ↦ absurd (elim has [ inl own ↦ x.4 own.0 own.1 | inr far ↦ undecided none x.1 far.0 far.1 far.2 far.3 ])
            ]

        from : (e : Event) → Contains fs e → Contains es e
        from e c =
            let x = are_fs.come e c in
            elim (same_ends x.0 x.1 x.2 x.3) [
              | inl same ↦ subst (λ e. Contains es e) (ap (λ y. told_by y) same ∙ x.5) (are_es.all x.0 x.1 x.2 x.3 (λ f s. still-s none x.1 x.4 (inl (f, s))))
              | inr has ↦ absurd (still-s none x.1 x.4 has)
            ]

      by-verdict : (d e : Option Verdict) (es fs : List Event) (s t : Status) → AreEvents lanes jobs S ends es → AreEvents lanes jobs R other fs
          → Decided mode xs d → Decided mode xs e → HasStatus d es s → HasStatus e fs t → s ≡ t
      by-verdict (Some v) (Some u) es fs s t a b d e h k = verdict-status v es fs s t h (subst (λ x. HasStatus (Some x) fs t) (one_verdict xs u v e d) k)
      by-verdict (Some v) None es fs s t a b d e h k = absurd (e v d)
      by-verdict None (Some u) es fs s t a b d e h k = absurd (d u e)
      by-verdict None None es fs s t a b d e h k = quiet-status es fs (to es fs a b d) (from es fs a b d) s t h k

      pub same-status : (d e : Option Verdict) (es fs : List Event) (s t : Status) → AreEvents lanes jobs S ends es → AreEvents lanes jobs R other fs
          → Decided mode xs d → Decided mode ys e → HasStatus d es s → HasStatus e fs t → s ≡ t
      unfolding Both
      same-status d e es fs s t a b dx ey h k = elim same-answers [
        | inl same ↦ by-verdict d e es fs s t a b dx (subst (λ zs. Decided mode zs e) (sym same) ey) h k
        | inr both ↦ failed xs d es s dx both.0 h ∙ sym (failed ys e fs t ey both.1 k)
      ]
