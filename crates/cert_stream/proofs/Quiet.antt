-- Comments and status lines take no memory.
use Rattle.std.proofs.Common.{◌≡◌, ◌⊎◌, ℕ, ◌+◌, Bool, true, false, cond, not, ◌&&◌, eqb, leb, List, [], ◌∷◌, ◌++◌, Option, Some, None, refl, ap, sym, ◌∙◌, inl, inr, subst}
use Rattle.std.proofs.lemmas.Bool.{cases_Bool}
use Rattle.cnf_form.specs.Cnf.{LitOf}
use Rattle.cert_stream.specs.Text.{NoFeed, AreBlank, is_blank}
use Rattle.cert_stream.specs.Machine.{DrupOf, Turn, turn, spelling, is_in_literal}
use Rattle.cert_stream.specs.Telling.{TakesMemory}
use Rattle.cert_stream.specs.declared.mode.Event.{Event}
use Rattle.cert_stream.specs.declared.mode.Mode.{Mode}
use Rattle.cert_stream.specs.declared.mode.Mode.TheVariants.{Start, Skip, Head, StatusHead, StatusGap, Spelled, Whole, InList, Closed, Bad, Lost}
use Rattle.cert_stream.proofs.Turning.{parser}
use Rattle.cert_stream.proofs.GoingOn.{blank_no_feed}

-- in a comment or a status line, or after its fault
abbrev Still : Mode → Type 0
Still (Start amid) = ⊥
Still (Skip amid) = Unit {0}
Still (Head kind) = ⊥
Still StatusHead = Unit {0}
Still StatusGap = Unit {0}
Still (Spelled n) = Unit {0}
Still Whole = Unit {0}
Still (InList kind part) = ⊥
Still Closed = ⊥
Still (Bad f) = Unit {0}
Still Lost = ⊥

abbrev Stays : Turn → Type 0
Stays t = Still t.to.mode × (t.event ≡ None)

still_either : (c : Bool) (m n : Mode) → Still m → Still n → Still (cond c m n)
still_either true m n h k = h
still_either false m n h k = k

module _ (vars taken place : ℕ) (lits : List LitOf) (b : ℕ) (h : eqb b 10 ≡ false) where
  by_blank : (m : Mode) → (is_blank b ≡ true → Stays (turn (parser vars taken place m lits) b)) → (is_blank b ≡ false → Stays (turn (parser vars taken place m lits) b)) → Stays (turn (parser vars taken place m lits) b)
  by_blank m x y = elim (cases_Bool (is_blank b)) [ inl t ↦ x t | inr f ↦ y f ]

  spelled_stays : (n : ℕ) → Still (cond (not (leb 7 n) && eqb b (spelling n)) (Spelled (n + 1)) (Skip false))
  spelled_stays n = still_either (not (leb 7 n) && eqb b (spelling n)) (Spelled (n + 1)) (Skip false) tt tt

  -- such a mode stays, says nothing and takes no memory
  still_turn : (m : Mode) → Still m → Stays (turn (parser vars taken place m lits) b) × (is_in_literal m ≡ false)
  still_turn (Start amid) s = absurd s
  still_turn (Skip amid) s = (by_blank (Skip amid) (λ t. rw (h, t) (tt, refl)) (λ f. rw (h, f) (tt, refl)), refl)
  still_turn (Head kind) s = absurd s
  still_turn StatusHead s = (by_blank StatusHead (λ t. rw (h, t) (tt, refl)) (λ f. rw (h, f) (tt, refl)), refl)
  still_turn StatusGap s = (by_blank StatusGap (λ t. rw (h, t) (tt, refl)) (λ f. rw (h, f) (spelled_stays 0, refl)), refl)
  still_turn (Spelled n) s = (by_blank (Spelled n) (λ t. rw (h, t) (still_either (eqb n 7) Whole (Skip false) tt tt, refl)) (λ f. rw (h, f) (spelled_stays n, refl)), refl)
  still_turn Whole s = (by_blank Whole (λ t. rw (h, t) (tt, refl)) (λ f. rw (h, f) (tt, refl)), refl)
  still_turn (InList kind part) s = absurd s
  still_turn Closed s = absurd s
  still_turn (Bad f) s = (by_blank (Bad f) (λ t. rw (h, t) (tt, refl)) (λ g. rw (h, g) (tt, refl)), refl)
  still_turn Lost s = absurd s

not_told : (o : Option Event) → o ≡ None → (e : Event) × (o ≡ Some e) → ⊥
not_told o n (e, k) = let q : None ≡ Some e = sym n ∙ k in cc

still_text : (t : List ℕ) (w : DrupOf) → NoFeed t → Still w.mode → TakesMemory w t → ⊥
still_text [] w n s k = k
still_text (b ∷ bs) w (n, ns) s (inl k) = let q : true ≡ false = sym k ∙ (still_turn w.vars w.taken w.place w.lits b n w.mode s).1 in cc
still_text (b ∷ bs) w (n, ns) s (inr (inl k)) = not_told (turn w b).event (still_turn w.vars w.taken w.place w.lits b n w.mode s).0.1 k
still_text (b ∷ bs) w (n, ns) s (inr (inr k)) = still_text bs (turn w b).to ns (still_turn w.vars w.taken w.place w.lits b n w.mode s).0.0 k

-- c or s
first_still : (vars taken place : ℕ) (lits : List LitOf) (amid : Bool) (b : ℕ) → (b ≡ 99) ⊎ (b ≡ 115) → Stays (turn (parser vars taken place (Start amid) lits) b)
first_still vars taken place lits amid b (inl e) = subst (λ z. Stays (turn (parser vars taken place (Start amid) lits) z)) (sym e) (tt, refl)
first_still vars taken place lits true b (inr e) = subst (λ z. Stays (turn (parser vars taken place (Start true) lits) z)) (sym e) (tt, refl)
first_still vars taken place lits false b (inr e) = subst (λ z. Stays (turn (parser vars taken place (Start false) lits) z)) (sym e) (tt, refl)

start_text : (vars place : ℕ) (lits : List LitOf) (amid : Bool) (blanks : List ℕ) (b : ℕ) (text : List ℕ) (taken : ℕ) → AreBlank blanks → (b ≡ 99) ⊎ (b ≡ 115) → NoFeed text
    → TakesMemory (parser vars taken place (Start amid) lits) (blanks ++ b ∷ text) → ⊥
start_text vars place lits amid [] b text taken a c n (inl k) = cc
start_text vars place lits amid [] b text taken a c n (inr (inl k)) = not_told (turn (parser vars taken place (Start amid) lits) b).event (first_still vars taken place lits amid b c).1 k
start_text vars place lits amid [] b text taken a c n (inr (inr k)) = still_text text (turn (parser vars taken place (Start amid) lits) b).to n (first_still vars taken place lits amid b c).0 k
start_text vars place lits amid (x ∷ blanks) b text taken (a, others) c n k = blank (λ j. start_text vars place lits amid blanks b text (taken + 1) others c n j) k
  where
    step : turn (parser vars taken place (Start amid) lits) x ≡ (let t : Turn = record { to = parser vars (taken + 1) place (Start amid) lits; event = None } in t)
    step = let h = blank_no_feed x a in rw (h, a) refl

    blank : (TakesMemory (parser vars (taken + 1) place (Start amid) lits) (blanks ++ b ∷ text) → ⊥) → TakesMemory (parser vars taken place (Start amid) lits) (x ∷ blanks ++ b ∷ text) → ⊥
    blank again (inl k) = cc
    blank again (inr (inl k)) = not_told (turn (parser vars taken place (Start amid) lits) x).event (ap (λ (t : Turn). t.event) step) k
    blank again (inr (inr k)) = again (subst (λ (t : Turn). TakesMemory t.to (blanks ++ b ∷ text)) step k)

pub quiet_line : (w : DrupOf) (amid : Bool) (blanks : List ℕ) (b : ℕ) (text : List ℕ) → w.mode ≡ Start amid → AreBlank blanks → (b ≡ 99) ⊎ (b ≡ 115) → NoFeed text
    → TakesMemory w (blanks ++ b ∷ text) → ⊥
quiet_line w amid blanks b text m a c n k =
    start_text w.vars w.place w.lits amid blanks b text w.taken a c n (subst (λ z. TakesMemory (parser w.vars w.taken w.place z w.lits) (blanks ++ b ∷ text)) m k)
