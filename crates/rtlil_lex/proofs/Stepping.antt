-- One step of the lexer, by places in the text.
use Rattle.std.proofs.Common.{◌≡◌, ℕ, zero, suc, true, false, ◌+◌, ◌-◌, ◌<◌, ◌≤◌, ◌↔◌, List, [], ◌∷◌, ◌++◌, length, take, drop, Some, None, refl, sym, ap, ◌∙◌, subst, arith, append_assoc}
use Rattle.std.specs.Prelude.{slice_range, ◌==◌}
use Rattle.std.proofs.lemmas.Bool.{eqb-true}
use Rattle.std.proofs.lemmas.List.{take_at, take-append-drop, length-append, length-drop}
use Rattle.std.proofs.Math.Seq.{drop-append_seam}
use Rattle.rtlil_lex.specs.Tokens.{Gap, IsToken, TokenOf, Lexes, LexerOf, lexer_at, left, Left, IsNext, IsFault}
use Rattle.rtlil_lex.specs.Tokens.Gap.{no_more, space, comment}
use Rattle.rtlil_lex.specs.Tokens.Lexes.{last_gap, token}
use Rattle.rtlil_lex.specs.Steps.{after_token_of, Stops}
use Rattle.rtlil_lex.proofs.Runs.{token_takes, token_again, quote_is}
use Rattle.rtlil_lex.proofs.Lexing.{token_at, one_gap, first_is, none_left, no_tokens}

-- what is left is the end of the bytes
gap_front : (rest bytes : List ℕ) → Gap rest bytes → (front : List ℕ) × (bytes ≡ front ++ rest)
gap_front rest bytes no_more = ([], refl)
gap_front rest bytes (space b more h g) = let r = gap_front rest more g in (b ∷ r.0, ap (λ (x : List ℕ). b ∷ x) r.1)
gap_front rest bytes (comment b more text after h e run g) =
    let r = gap_front rest after g in
    (b ∷ (text ++ r.0), ap (λ (x : List ℕ). b ∷ x) (e ∙ ap (λ (x : List ℕ). text ++ x) r.1 ∙ sym (append_assoc text r.0 rest)))

suffix_drop : (front rest bytes : List ℕ) → bytes ≡ front ++ rest → drop (length bytes - length rest) bytes ≡ rest
suffix_drop front rest bytes e =
    let n : length bytes - length rest ≡ length front = omega (arith, ap (λ (x : List ℕ). length x) e, length-append front rest) in
    rw (n, e) (drop-append_seam front rest)

-- the gap from a place on, as the bytes before what is left
pub place_front : (bytes rest : List ℕ) (place : ℕ) → Gap rest (drop place bytes) → (front : List ℕ) × (bytes ≡ front ++ rest)
place_front bytes rest place g =
    let r = gap_front rest (drop place bytes) g in
    (take place bytes ++ r.0, sym (take-append-drop place bytes) ∙ ap (λ (x : List ℕ). take place bytes ++ x) r.1 ∙ sym (append_assoc (take place bytes) r.0 rest))

pub gap_short : (bytes rest : List ℕ) (place : ℕ) → place ≤ length bytes → Gap rest (drop place bytes) → length rest + place ≤ length bytes
gap_short bytes rest place h g =
    let r = gap_front rest (drop place bytes) g in
    omega (arith, ap (λ (x : List ℕ). length x) r.1, length-append r.0 rest, length-drop place bytes)

pub token_short : (rest after : List ℕ) → Stops rest → after_token_of rest ≡ Some after → length after ≤ length rest
token_short rest after s e =
    let t = token_takes rest after s e in
    omega (arith, ap (λ (x : List ℕ). length x) t.2, length-append t.0 after)

-- the token's text is what stands before what is left, and the slice of its span
pub text_is : (text after : List ℕ) → take (length (text ++ after) - length after) (text ++ after) ≡ text
text_is text after = take_at text after _ (omega (arith, length-append text after))

slice_is : (front text after : List ℕ) → slice_range (front ++ (text ++ after)) (length front) (length front + length text) ≡ text
slice_is front text after = rw drop-append_seam (take_at text after _ (omega arith))

-- the step, with the bytes as what stands before the token, the token, and what is left
next_parts : (bytes front text after : List ℕ) (place start : ℕ) → bytes ≡ front ++ (text ++ after) → start ≡ length front → place ≤ start → Gap (text ++ after) (drop place bytes) → IsToken text after
    → IsNext (lexer_at bytes place) (lexer_at bytes (start + length text)) (token_at start text)
next_parts bytes front text after place start parts at le g t =
    let len : length bytes ≡ length front + (length text + length after) = omega (arith, ap (λ (x : List ℕ). length x) parts, length-append front (text ++ after), length-append text after) in
    let behind : drop (start + length text) bytes ≡ after =
    rw (at, parts, ← append_assoc front text after, ← length-append front text) (drop-append_seam (front ++ text) after) in
    record {
      bytes = refl;
      gap = rw behind g;
      token = rw behind t;
      span = refl;
      rises = le;
      within = omega arith;
      slice = rw (at, parts) (sym (slice_is front text after));
    }

pub next_is : (bytes rest after : List ℕ) (place : ℕ) → place ≤ length bytes → Gap rest (drop place bytes) → Stops rest → after_token_of rest ≡ Some after
    → IsNext (lexer_at bytes place) (lexer_at bytes (length bytes - length rest + length (take (length rest - length after) rest))) (token_at (length bytes - length rest) (take (length rest - length after) rest))
next_is bytes rest after place h g s e =
    let t = token_takes rest after s e in
    let front = place_front bytes rest place g in
    let at : length bytes - length rest ≡ length front.0 = omega (arith, ap (λ (x : List ℕ). length x) front.1, length-append front.0 rest) in
    let le : place ≤ length bytes - length rest = omega (arith, gap_short bytes rest place h g) in
    let parts : bytes ≡ front.0 ++ (t.0 ++ after) = front.1 ∙ ap (λ (x : List ℕ). front.0 ++ x) t.2 in
    let text : take (length rest - length after) rest ≡ t.0 = ap (λ (x : List ℕ). take (length x - length after) x) t.2 ∙ text_is t.0 after in
    let n = next_parts bytes front.0 t.0 after place (length bytes - length rest) parts at le (subst (λ (x : List ℕ). Gap x (drop place bytes)) t.2 g) t.1 in
    subst (λ (x : List ℕ). IsNext (lexer_at bytes place) (lexer_at bytes (length bytes - length rest + length x)) (token_at (length bytes - length rest) x)) (sym text) n

fault_parts : (bytes rest : List ℕ) (place byte : ℕ) → drop byte bytes ≡ rest → Gap rest (drop place bytes) → 0 < length rest → after_token_of rest ≡ None → IsFault (lexer_at bytes place) byte
fault_parts bytes [] place byte here g some e = absurd (omega arith)
fault_parts bytes (b ∷ more) place byte here g some e =
    let q = quote_is b more e in
    record {
      more = more;
      quote = rw (← q) here;
      gap = rw (← q) g;
      no_token = λ text after parts t.
          let f : after_token_of (text ++ after) ≡ None = subst (λ (x : List ℕ). after_token_of x ≡ None) (rw (← q) at parts) e in
          let found = (token_again text after t).0 in cc;
    }

pub fault_at : (bytes rest : List ℕ) (place : ℕ) → Gap rest (drop place bytes) → 0 < length rest → after_token_of rest ≡ None → IsFault (lexer_at bytes place) (length bytes - length rest)
fault_at bytes rest place g some e =
    let front = place_front bytes rest place g in
    fault_parts bytes rest place (length bytes - length rest) (suffix_drop front.0 rest bytes front.1) g some e

pub not_zero : (n : ℕ) → false ≡ (n == 0) → 0 < n
not_zero zero e = absurd cc
not_zero (suc n) e = omega arith

pub empty_gap : (rest bytes : List ℕ) → true ≡ (length rest == 0) → Gap rest bytes → Gap [] bytes
empty_gap [] bytes e g = g
empty_gap (b ∷ rest) bytes e g = absurd (omega (arith, eqb-true (length (b ∷ rest)) 0 (sym e)))

-- a gap that stops before a byte leaves no gap alone
pub not_gap : (bytes rest : List ℕ) → Gap rest bytes → Stops rest → 0 < length rest → Gap [] bytes → ⊥
not_gap bytes rest g s some f =
    let e = one_gap [] rest bytes tt s f g in
    omega (arith, ap (λ (x : List ℕ). length x) e)

-- the tokens left before a step are the token and those left after it
pub left_is : (old new : LexerOf) (t : TokenOf) → IsNext old new t → (ts : List TokenOf) → Left old ts ↔ ((us : List TokenOf) × (ts ≡ t ∷ us) × Left new us)
left_is old new t n ts =
    let len : length new.bytes ≡ length old.bytes = ap (λ (x : List ℕ). length x) n.bytes in
    let whole : t.start + length (t.text ++ left new) ≡ length old.bytes = omega (arith, length-append t.text (left new), length-drop new.place new.bytes, n.span, n.within) in (
      λ h. let r = first_is (length old.bytes) (left old) (left new) t ts n.gap n.token whole h in (r.others, r.first, subst (λ (k : ℕ). Lexes k (left new) r.others) (sym len) r.left),
      λ w. let l = subst (λ (k : ℕ). Lexes k (left new) w.0) len w.2 in
          subst (λ (x : List TokenOf). Left old x) (sym w.1) (token t w.0 (left old) (left new) n.gap n.token whole l),
    )

pub none_is : (l : LexerOf) → Gap [] (left l) → (ts : List TokenOf) → Left l ts ↔ (ts ≡ [])
none_is l g ts = (none_left (length l.bytes) (left l) ts g, λ e. subst (λ (x : List TokenOf). Left l x) (sym e) (last_gap (left l) g))

pub fault_is : (l : LexerOf) (byte : ℕ) → IsFault l byte → (ts : List TokenOf) → Left l ts → ⊥
fault_is l byte f ts h = no_tokens (length l.bytes) 34 f.more (left l) ts f.gap refl f.no_token h
