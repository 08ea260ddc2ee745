-- Where a stream is cut, and what a receiver gets.
use Rattle.std.proofs.Common.{◌≡◌, ℕ, Bool, true, List, [], ◌∷◌, ◌++◌, map, refl, ap, sym, ◌∙◌, inl, inr, append_assoc}
use Rattle.cert_stream.specs.Telling.{Gets, Saying}
use Rattle.inv_stream.specs.Machine.{InvOf, InvSaying, Says, turn}
use Rattle.inv_stream.specs.Telling.{Hears, StandsFor, after, fresh, said}

pub after_append : (w : InvOf) (a b : List ℕ) → after w (a ++ b) ≡ after (after w a) b
after_append w [] b = refl
after_append w (x ∷ a) b = after_append (turn w x).to a b

pub said_append : (w : InvOf) (a b : List ℕ) → said w (a ++ b) ≡ said w a ++ said (after w a) b
said_append w [] b = refl
said_append w (x ∷ a) b =
    ap (λ (z : List InvSaying). (turn w x).says ++ z) (said_append (turn w x).to a b) ∙ sym (append_assoc (turn w x).says (said (turn w x).to a) (said (after (turn w x).to a) b))

pub stands_append : (vars : ℕ) (w : InvOf) (a b : List ℕ) → StandsFor vars w a → StandsFor vars (after w b) (a ++ b)
stands_append vars w a b h = ap (λ (v : InvOf). after v b) h ∙ sym (after_append (fresh vars) a b)

module _ {A : Type 0} (gets : A → Saying → A → Type 0) (parts : A → ℕ → A → Type 0) (stops : A → Bool) where
  -- what lines of DRUP text say
  pub gets_says : (x y : A) (ss : List Saying) (stopped : Bool) → Gets gets stops x ss y stopped → Gets (Hears gets parts) stops x (map Says ss) y stopped
  gets_says x y [] stopped h = h
  gets_says x y (s ∷ ss) stopped (z, g, inl t) = (z, g, inl t)
  gets_says x y (s ∷ ss) stopped (z, g, inr (f, h)) = (z, g, inr (f, gets_says z y ss stopped h))

-- a receiver that stopped gets no more
pub gets_stopped : {A S : Type 0} (gets : A → S → A → Type 0) (stops : A → Bool) (x y : A) (ss ts : List S) → Gets gets stops x ss y true → Gets gets stops x (ss ++ ts) y true
gets_stopped gets stops x y [] ts (e, f) = cc
gets_stopped gets stops x y (s ∷ ss) ts (z, g, inl t) = (z, g, inl t)
gets_stopped gets stops x y (s ∷ ss) ts (z, g, inr (f, h)) = (z, g, inr (f, gets_stopped gets stops z y ss ts h))
