-- What a byte makes of what a parser keeps, and what is said with it, whatever it reads.
use Rattle.std.proofs.Common.{◌≡◌, ◌⊎◌, ℕ, Bool, true, false, cond, not, Option, Some, None, refl, ap, sym, ◌∙◌, subst}
use Rattle.cert_stream.specs.Machine.{IsEventWithin, first_of_both}
use Rattle.cert_stream.specs.declared.mode.Event.{Event}
use Rattle.cert_stream.specs.declared.mode.ParseFault.{ParseFault}

-- what is kept, W, with its mode, M, and what a byte makes of it, T; whether a mode goes on, and the one at a fault
pub record Machine (W M T : Type 0) : Type 1 where
  pub to : T → W
  pub event : T → Option Event
  pub vars : W → ℕ
  pub taken : W → ℕ
  pub mode : W → M
  pub Goes : ℕ → M → Type 0
  pub bad : ParseFault → M

-- of both, what was said first
first_within : (vars : ℕ) (d e : Option Event) → IsEventWithin vars d → IsEventWithin vars e → IsEventWithin vars (first_of_both d e)
first_within vars None e h k = k
first_within vars (Some d) e h k = h

pub not_false : (c : Bool) → not c ≡ false → c ≡ true
not_false true h = refl
not_false false h = cc

module _ {W M T : Type 0} (r : Machine W M T) where
  -- a mode goes on, or is at a fault at byte number `taken`
  abbrev pub Next : ℕ → ℕ → M → Type 0
  Next vars taken m = r.Goes vars m ⊎ ((f : ParseFault) × (m ≡ r.bad f) × (f.byte ≡ taken))

  -- The variables and the count stay. Where N, it goes on or is at a fault; where I, what is said is within the variables.
  pub record Moves (N I : Type 0) (vars taken : ℕ) (t : T) : Type 0 where
    pub keeps : r.vars (r.to t) ≡ vars
    pub counts : r.taken (r.to t) ≡ taken
    pub next : N → Next vars taken (r.mode (r.to t))
    pub said : I → IsEventWithin vars (r.event t)

  pub by_case : {N I : Type 0} {vars taken : ℕ} (c : Bool) (s t : T) → (c ≡ true → Moves N I vars taken s) → (c ≡ false → Moves N I vars taken t) → Moves N I vars taken (cond c s t)
  by_case true s t h k = h refl
  by_case false s t h k = k refl

  pub either : {N I : Type 0} {vars taken : ℕ} (c : Bool) (s t : T) → Moves N I vars taken s → Moves N I vars taken t → Moves N I vars taken (cond c s t)
  either true s t h k = h
  either false s t h k = k

  -- the end of a word, s, and that of a line after it, t
  pub in_turn : {N I : Type 0} {vars taken : ℕ} (s t u : T) → r.to u ≡ r.to t → r.event u ≡ first_of_both (r.event s) (r.event t) → Moves N I vars taken s
      → Moves (Next (r.vars (r.to s)) (r.taken (r.to s)) (r.mode (r.to s))) (Unit {0}) (r.vars (r.to s)) (r.taken (r.to s)) t → Moves N I vars taken u
  in_turn {vars = vars} {taken = taken} s t u e f h k =
      record {
        keeps = ap r.vars e ∙ k.keeps ∙ h.keeps;
        counts = ap r.taken e ∙ k.counts ∙ h.counts;
        next = λ n.
            let at : Next (r.vars (r.to s)) (r.taken (r.to s)) (r.mode (r.to s)) =
            subst (λ z. Next z (r.taken (r.to s)) (r.mode (r.to s))) (sym h.keeps) (subst (λ z. Next vars z (r.mode (r.to s))) (sym h.counts) (h.next n)) in
            subst (λ z. Next vars taken (r.mode z)) (sym e) (subst (λ z. Next z taken (r.mode (r.to t))) h.keeps (subst (λ z. Next (r.vars (r.to s)) z (r.mode (r.to t))) h.counts (k.next at)));
        said = λ i. subst (IsEventWithin vars) (sym f) (first_within vars (r.event s) (r.event t) (h.said i) (subst (λ z. IsEventWithin z (r.event t)) h.keeps (k.said tt)));
      }

  pub kept_within : {N I : Type 0} {vars taken : ℕ} (t u : T) → u ≡ t → Moves N I vars taken t → I → (r.vars (r.to u) ≡ vars) × IsEventWithin vars (r.event u)
  kept_within {vars = vars} t u e h i = (ap (λ z. r.vars (r.to z)) e ∙ h.keeps, subst (λ z. IsEventWithin vars (r.event z)) (sym e) (h.said i))
