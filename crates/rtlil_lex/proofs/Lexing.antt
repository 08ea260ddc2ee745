-- Bytes have at most one list of tokens.
use Rattle.std.proofs.Common.{◌≡◌, ℕ, ◌+◌, Bool, true, false, List, [], ◌∷◌, ◌++◌, length, Some, refl, sym, ap, ◌∙◌, subst, arith}
use Rattle.std.specs.Prelude.{IsTrue, IsFalse}
use Rattle.std.proofs.lemmas.Bool.{eqb-true}
use Rattle.std.proofs.lemmas.List.{append_cancel_right}
use Rattle.rtlil_lex.specs.Tokens.{is_space, is_feed, is_hash, is_break, IsRun, Gap, IsToken, TokenOf, Lexes}
use Rattle.rtlil_lex.specs.Tokens.Gap.{no_more, space, comment}
use Rattle.rtlil_lex.specs.Tokens.IsToken.{name, string, word}
use Rattle.rtlil_lex.specs.Tokens.Lexes.{last_gap, token}
use Rattle.rtlil_lex.specs.Steps.{after_run_of, after_token_of, Stops}
use Rattle.rtlil_lex.proofs.Runs.{run_again, token_again}

-- a break is white space or begins a comment, and not both
space_breaks : (b : ℕ) → IsTrue (is_space b) → IsFalse (is_break b) → ⊥
space_breaks b s h = let e : is_break b ≡ true = rw s refl in cc

hash_breaks : (b : ℕ) → IsTrue (is_hash b) → IsFalse (is_break b) → ⊥
hash_breaks b s h = let k = eqb-true b 35 s in let e : is_break b ≡ true = rw k refl in cc

not_both : (b : ℕ) → IsTrue (is_space b) → IsTrue (is_hash b) → ⊥
not_both b s h = let k = eqb-true b 35 h in let e : is_space b ≡ false = rw k refl in cc

-- two runs over the same bytes leave the same
same_run : (ends : ℕ → Bool) (a x b y : List ℕ) → IsRun ends a x → IsRun ends b y → a ++ x ≡ b ++ y → x ≡ y
same_run ends a x b y p q e = sym (run_again ends a x p) ∙ ap (after_run_of ends) e ∙ run_again ends b y q

-- a gap ends at one place
pub one_gap : (x y bytes : List ℕ) → Stops x → Stops y → Gap x bytes → Gap y bytes → x ≡ y
one_gap x y bytes h k no_more no_more = refl
one_gap x y bytes h k no_more (space b more s g) = absurd (space_breaks b s h)
one_gap x y bytes h k no_more (comment b more text after s e r g) = absurd (hash_breaks b s h)
one_gap x y bytes h k (space b more s g) no_more = absurd (space_breaks b s k)
one_gap x y bytes h k (space b more s g) (space c others t f) = one_gap x y more h k g f
one_gap x y bytes h k (space b more s g) (comment c others text after t e r f) = absurd (not_both b s t)
one_gap x y bytes h k (comment b more text after s e r g) no_more = absurd (hash_breaks b s k)
one_gap x y bytes h k (comment b more text after s e r g) (space c others t f) = absurd (not_both b t s)
one_gap x y bytes h k (comment b more text after s e r g) (comment c others words behind t d q f) =
    let same = same_run is_feed text after words behind r q (sym e ∙ d) in
    one_gap x y after h k g (subst (λ (z : List ℕ). Gap y z) (sym same) f)

-- two tokens at the front of the same bytes are one
pub one_token : (text rest words others : List ℕ) → IsToken text rest → IsToken words others → text ++ rest ≡ words ++ others → (text ≡ words) × (rest ≡ others)
one_token text rest words others p q e =
    let found : Some rest ≡ Some others = sym (token_again text rest p).0 ∙ ap after_token_of e ∙ (token_again words others q).0 in
    let same : rest ≡ others = cc in
    (append_cancel_right text words others (subst (λ (z : List ℕ). text ++ z ≡ words ++ others) same e), same)

-- a token has a first byte
pub token_some : (text rest : List ℕ) → IsToken text rest → [] ≡ text ++ rest → ⊥
token_some text rest (name b run after h r) e = cc
token_some text rest (string b more after q h s) e = cc
token_some text rest (word b run after h r) e = cc

abbrev pub token_at : ℕ → List ℕ → TokenOf
token_at start text = record { start = start; text = text }

pub token_same : (s t : TokenOf) → s.start ≡ t.start → s.text ≡ t.text → s ≡ t
token_same s t e f = let same : token_at s.start s.text ≡ token_at t.start t.text = rw (e, f) refl in same

-- what stands after the first token
pub record IsRest (n : ℕ) (t : TokenOf) (rest : List ℕ) (ts : List TokenOf) : Type 0 where
  pub others : List TokenOf
  pub first : ts ≡ t ∷ others
  pub left : Lexes n rest others

-- a token in front, and the tokens after it
pub first_is : (n : ℕ) (bytes rest : List ℕ) (t : TokenOf) (ts : List TokenOf) → Gap (t.text ++ rest) bytes → IsToken t.text rest → t.start + length (t.text ++ rest) ≡ n
    → Lexes n bytes ts → IsRest n t rest ts
first_is n bytes rest t ts g p e (last_gap all h) =
    absurd (token_some t.text rest p (one_gap [] (t.text ++ rest) bytes tt (token_again t.text rest p).1 h g))
first_is n bytes rest t ts g p e (token u us all more h q d l) =
    let whole = one_gap (t.text ++ rest) (u.text ++ more) bytes (token_again t.text rest p).1 (token_again u.text more q).1 g h in
    let same = one_token t.text rest u.text more p q whole in
    let start : t.start ≡ u.start = omega (arith, ap (λ (z : List ℕ). length z) whole) in
    record { others = us; first = ap (λ (z : TokenOf). z ∷ us) (token_same u t (sym start) (sym same.0)); left = subst (λ (z : List ℕ). Lexes n z us) (sym same.1) l }

-- only a gap is left where there is no token
pub none_left : (n : ℕ) (bytes : List ℕ) (ts : List TokenOf) → Gap [] bytes → Lexes n bytes ts → ts ≡ []
none_left n bytes ts g (last_gap all h) = refl
none_left n bytes ts g (token u us all more h q d l) =
    absurd (token_some u.text more q (one_gap [] (u.text ++ more) bytes tt (token_again u.text more q).1 g h))

pub gap_left : (n : ℕ) (bytes : List ℕ) → Lexes n bytes [] → Gap [] bytes
gap_left n bytes (last_gap all g) = g

-- bytes that begin no token after the gap have no tokens
pub no_tokens : (n : ℕ) (b : ℕ) (more bytes : List ℕ) (ts : List TokenOf) → Gap (b ∷ more) bytes → Stops (b ∷ more) → ((text rest : List ℕ) → b ∷ more ≡ text ++ rest → IsToken text rest → ⊥) → Lexes n bytes ts → ⊥
no_tokens n b more bytes ts g s h (last_gap all f) = let e = one_gap [] (b ∷ more) bytes tt s f g in cc
no_tokens n b more bytes ts g s h (token u us all rest f q d l) = h u.text rest (one_gap (b ∷ more) (u.text ++ rest) bytes s (token_again u.text rest q).1 g f) q

pub one_list : (n : ℕ) (bytes : List ℕ) (ts us : List TokenOf) → Lexes n bytes ts → Lexes n bytes us → ts ≡ us
one_list n bytes ts us (last_gap all g) m = sym (none_left n bytes us g m)
one_list n bytes ts us (token t others all rest g p e l) m =
    let r = first_is n bytes rest t us g p e m in
    ap (λ (z : List TokenOf). t ∷ z) (one_list n rest others r.others l r.left) ∙ sym r.first
