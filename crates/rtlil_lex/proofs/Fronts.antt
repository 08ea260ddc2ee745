-- The first tokens of a text.
use Rattle.std.proofs.Common.{◌≡◌, ◌⊎◌, ℕ, ◌+◌, List, [], ◌∷◌, ◌++◌, length, refl, sym, ap, ◌∙◌, subst, inl, inr, arith}
use Rattle.std.proofs.lemmas.List.{length-append, length-drop}
use Rattle.rtlil_lex.specs.Tokens.{Gap, IsToken, TokenOf, Lexes, LexerOf, left, IsNext, Front, IsStart}
use Rattle.rtlil_lex.specs.Tokens.Lexes.{last_gap, token as lexes_token}
use Rattle.rtlil_lex.specs.Tokens.Front.{none_yet, token}
use Rattle.rtlil_lex.proofs.Runs.{token_again}
use Rattle.rtlil_lex.proofs.Lexing.{one_gap, one_token, token_same, first_is}

-- one more token after the first ones
pub front_push : (n : ℕ) (mid rest bytes : List ℕ) (ts : List TokenOf) (t : TokenOf) → Front n mid bytes ts → Gap (t.text ++ rest) mid → IsToken t.text rest → t.start + length (t.text ++ rest) ≡ n
    → Front n rest bytes (ts ++ t ∷ [])
front_push n mid rest bytes ts t none_yet g p e = token t [] mid rest g p e none_yet
front_push n mid rest bytes ts t (token u us all more h q d f) g p e = token u (us ++ t ∷ []) all more h q d (front_push n mid rest more us t f g p e)

-- the lexer's next token
pub front_next : (old new : LexerOf) (t : TokenOf) (bytes : List ℕ) (ts : List TokenOf) → IsNext old new t → Front (length old.bytes) (left old) bytes ts → Front (length old.bytes) (left new) bytes (ts ++ t ∷ [])
front_next old new t bytes ts n f =
    let len : length new.bytes ≡ length old.bytes = ap (λ (x : List ℕ). length x) n.bytes in
    let whole : t.start + length (t.text ++ left new) ≡ length old.bytes = omega (arith, length-append t.text (left new), length-drop new.place new.bytes, n.span, n.within) in
    front_push (length old.bytes) (left old) (left new) bytes ts t f n.gap n.token whole

-- tokens after the first ones
pub front_then : (n : ℕ) (mid bytes : List ℕ) (ts us : List TokenOf) → Front n mid bytes ts → Lexes n mid us → Lexes n bytes (ts ++ us)
front_then n mid bytes ts us none_yet l = l
front_then n mid bytes ts us (token t others all rest g p e f) l = lexes_token t (others ++ us) all rest g p e (front_then n mid rest others us f l)

-- all tokens of a text as its first ones
pub front_of : (n : ℕ) (bytes : List ℕ) (ts : List TokenOf) → Lexes n bytes ts → (rest : List ℕ) × Front n rest bytes ts × Gap [] rest
front_of n bytes ts (last_gap all g) = (bytes, none_yet, g)
front_of n bytes ts (lexes_token t others all rest g p e l) = let r = front_of n rest others l in (r.0, token t others all rest g p e r.1, r.2)

-- of two lists of first tokens one goes on where the other ends
abbrev pub GoesOn : ℕ → List ℕ → List TokenOf → List ℕ → List TokenOf → Type 0
GoesOn n left ts more us = (c : List TokenOf) × (us ≡ ts ++ c) × Front n more left c

pub one_front : (n : ℕ) (a b bytes : List ℕ) (ts us : List TokenOf) → Front n a bytes ts → Front n b bytes us → GoesOn n a ts b us ⊎ GoesOn n b us a ts
one_front n a b bytes ts us none_yet f = inl (us, refl, f)
one_front n a b bytes ts us (token t others all rest g p e f) none_yet = inr (t ∷ others, refl, token t others all rest g p e f)
one_front n a b bytes ts us (token t others all rest g p e f) (token u words same more h q d k) =
    let whole = one_gap (t.text ++ rest) (u.text ++ more) bytes (token_again t.text rest p).1 (token_again u.text more q).1 g h in
    let both = one_token t.text rest u.text more p q whole in
    let start : t.start ≡ u.start = omega (arith, ap (λ (z : List ℕ). length z) whole) in
    let first : t ≡ u = token_same t u start both.0 in
    elim (one_front n a b rest others words f (subst (λ (z : List ℕ). Front n b z words) (sym both.1) k)) as (λ _. GoesOn n a (t ∷ others) b (u ∷ words) ⊎ GoesOn n b (u ∷ words) a (t ∷ others)) [
      | inl w ↦ inl (w.0, ap (λ (z : List TokenOf). u ∷ z) w.1 ∙ ap (λ (z : TokenOf). z ∷ (others ++ w.0)) (sym first), w.2)
      | inr w ↦ inr (w.0, ap (λ (z : List TokenOf). t ∷ z) w.1 ∙ ap (λ (z : TokenOf). z ∷ (words ++ w.0)) first, w.2)
    ]

pub starts_agree : (n : ℕ) (a b bytes : List ℕ) (ts us : List TokenOf) → Front n a bytes ts → Front n b bytes us → IsStart ts us ⊎ IsStart us ts
starts_agree n a b bytes ts us f g =
    elim (one_front n a b bytes ts us f g) as (λ _. IsStart ts us ⊎ IsStart us ts) [
      | inl w ↦ inl (w.0, w.1)
      | inr w ↦ inr (w.0, w.1)
    ]

-- all tokens of a text go on from its first ones
pub front_lexes : (n : ℕ) (left bytes : List ℕ) (ts us : List TokenOf) → Front n left bytes ts → Lexes n bytes us → (c : List TokenOf) × (us ≡ ts ++ c) × Lexes n left c
front_lexes n left bytes ts us none_yet l = (us, refl, l)
front_lexes n left bytes ts us (token t others all rest g p e f) l =
    let r = first_is n bytes rest t us g p e l in
    let w = front_lexes n left rest others r.others f r.left in
    (w.0, r.first ∙ ap (λ (z : List TokenOf). t ∷ z) w.1, w.2)

-- where no token comes, no tokens go on
pub break_ends : (n : ℕ) (more left rest : List ℕ) (c : List TokenOf) → Gap (34 ∷ more) left → ((text after : List ℕ) → 34 ∷ more ≡ text ++ after → IsToken text after → ⊥) → Front n rest left c → (c ≡ []) × (rest ≡ left)
break_ends n more left rest c g h none_yet = (refl, refl)
break_ends n more left rest c g h (token t others all after q p e f) =
    absurd (h t.text after (one_gap (34 ∷ more) (t.text ++ after) left refl (token_again t.text after p).1 g q) p)

-- the place after a gap
pub break_place : (n : ℕ) (a b : List ℕ) (left : List ℕ) (x y : ℕ) → Gap (34 ∷ a) left → Gap (34 ∷ b) left → x + length (34 ∷ a) ≡ n → y + length (34 ∷ b) ≡ n → x ≡ y
break_place n a b left x y g h e f =
    let same = one_gap (34 ∷ a) (34 ∷ b) left refl refl g h in
    omega (arith, ap (λ (z : List ℕ). length z) same)
