-- Bytes of a text without a line of s or v are read as a stream's.
use Rattle.std.proofs.Common.{◌≡◌, ℕ, ◌+◌, ◌<◌, ◌≤◌, Bool, true, false, ◌&&◌, List, [], ◌∷◌, ◌++◌, length, take, drop, get_or, Option, Some, None, refl, ap, sym, ◌∙◌, inl, inr, append_assoc, subst, cond, is_some, take-append-drop}
use Rattle.std.proofs.lemmas.List.{append-nil, drop_more, drop_all, take_more}
use Rattle.std.proofs.lemmas.Bool.{cases_lt}
use Rattle.cert_stream.specs.Machine.{DrupOf, turn}
use Rattle.cert_stream.specs.Telling.{Saying, Gets, told_by, after as parser_after, said as parser_said}
use Rattle.cert_stream.specs.declared.mode.ParseFault.{ParseFault}
use Rattle.cert_stream.specs.declared.mode.ParseFaultKind.TheVariants.{BadLine}
use Rattle.proof_stream.specs.Text.{TextOf, is_claim, next_starts, text_read, text_refused}
use Rattle.proof_stream.specs.Passing.{Passes, starts_after}
use Rattle.proof_stream.specs.File.{FileOf, InText, after, said}

pub passes_snoc : (s : Bool) (a : List ℕ) (b : ℕ) → Passes s a → (starts_after s a && is_claim b) ≡ false → Passes s (a ++ b ∷ [])
passes_snoc s [] b h n = (n, tt)
passes_snoc s (c ∷ a) b (k, h) n = (k, passes_snoc (next_starts s c) a b h n)

pub starts_snoc : (s : Bool) (a : List ℕ) (b : ℕ) → starts_after s (a ++ b ∷ []) ≡ next_starts (starts_after s a) b
starts_snoc s [] b = refl
starts_snoc s (c ∷ a) b = starts_snoc (next_starts s c) a b

abbrev pub text : DrupOf → Bool → Option ParseFault → TextOf
text w s r = record { parser = w; starts = s; refused = r }

pub said_passing : (w : DrupOf) (s : Bool) (a rest : List ℕ) → Passes s a
    → said (InText (text w s None)) (a ++ rest) ≡ parser_said w a ++ said (InText (text (parser_after w a) (starts_after s a) None)) rest
said_passing w s [] rest h = refl
said_passing w s (b ∷ a) rest (n, h) =
    let told : List Saying = told_by (turn w b).to (turn w b).event in
    ap (λ c. cond c [] told ++ said (InText (cond c (text_refused (text w s None)) (text_read (text w s None) b))) (a ++ rest)) n
    ∙ (ap (λ z. told ++ z) (said_passing (turn w b).to (next_starts s b) a rest h)
    ∙ sym (append_assoc told (parser_said (turn w b).to a) (said (InText (text (parser_after (turn w b).to a) (starts_after (next_starts s b) a) None)) rest)))

pub after_passing : (w : DrupOf) (s : Bool) (a rest : List ℕ) → Passes s a
    → after (InText (text w s None)) (a ++ rest) ≡ after (InText (text (parser_after w a) (starts_after s a) None)) rest
after_passing w s [] rest h = refl
after_passing w s (b ∷ a) rest (n, h) =
    ap (λ c. after (InText (cond c (text_refused (text w s None)) (text_read (text w s None) b))) (a ++ rest)) n ∙ after_passing (turn w b).to (next_starts s b) a rest h

-- nothing more is read after a refused line
pub said_refused : (w : DrupOf) (s : Bool) (f : ParseFault) (bytes : List ℕ) → said (InText (text w s (Some f))) bytes ≡ []
said_refused w s f [] = refl
said_refused w s f (b ∷ bs) = said_refused w s f bs

pub after_refused : (w : DrupOf) (s : Bool) (f : ParseFault) (bytes : List ℕ) → after (InText (text w s (Some f))) bytes ≡ InText (text w s (Some f))
after_refused w s f [] = refl
after_refused w s f (b ∷ bs) = after_refused w s f bs

abbrev pub refusal : DrupOf → Option ParseFault
refusal w = Some (record { kind = BadLine; byte = w.taken })

pub said_claim : (w : DrupOf) (s : Bool) (b : ℕ) (rest : List ℕ) → (s && is_claim b) ≡ true → said (InText (text w s None)) (b ∷ rest) ≡ []
said_claim w s b rest t =
    ap (λ c. cond c [] (told_by (turn w b).to (turn w b).event) ++ said (InText (cond c (text_refused (text w s None)) (text_read (text w s None) b))) rest) t
    ∙ said_refused w s (record { kind = BadLine; byte = w.taken }) rest

pub after_claim : (w : DrupOf) (s : Bool) (b : ℕ) (rest : List ℕ) → (s && is_claim b) ≡ true → after (InText (text w s None)) (b ∷ rest) ≡ InText (text w s (refusal w))
after_claim w s b rest t =
    ap (λ c. after (InText (cond c (text_refused (text w s None)) (text_read (text w s None) b))) rest) t ∙ after_refused w s (record { kind = BadLine; byte = w.taken }) rest

-- a piece, of which this many bytes are passed over
module _ (w : DrupOf) (s : Bool) (piece : List ℕ) (n : ℕ) (h : Passes s (take n piece)) where
  abbrev there : FileOf
  there = InText (text (parser_after w (take n piece)) (starts_after s (take n piece)) None)

  said_there : said (InText (text w s None)) piece ≡ parser_said w (take n piece) ++ said there (drop n piece)
  said_there = ap (said (InText (text w s None))) (sym (take-append-drop n piece)) ∙ said_passing w s (take n piece) (drop n piece) h

  after_there : after (InText (text w s None)) piece ≡ after there (drop n piece)
  after_there = ap (after (InText (text w s None))) (sym (take-append-drop n piece)) ∙ after_passing w s (take n piece) (drop n piece) h

  pub after_whole : length piece ≤ n → after (InText (text w s None)) piece ≡ there
  after_whole l = after_there ∙ ap (after there) (drop_all n piece l)

  module _ (l : n < length piece) (t : (starts_after s (take n piece) && is_claim (get_or piece n 0)) ≡ true) where
    pub after_part : after (InText (text w s None)) piece ≡ InText (text (parser_after w (take n piece)) (starts_after s (take n piece)) (refusal (parser_after w (take n piece))))
    after_part = after_there ∙ ap (after there) (drop_more piece n 0 l) ∙ after_claim (parser_after w (take n piece)) (starts_after s (take n piece)) (get_or piece n 0) (drop (n + 1) piece) t

    said_part : said there (drop n piece) ≡ []
    said_part = ap (said there) (drop_more piece n 0 l) ∙ said_claim (parser_after w (take n piece)) (starts_after s (take n piece)) (get_or piece n 0) (drop (n + 1) piece) t

  said_rest : (n < length piece → (starts_after s (take n piece) && is_claim (get_or piece n 0)) ≡ true) → said there (drop n piece) ≡ []
  said_rest t = elim (cases_lt n (length piece)) [ inl l ↦ said_part l (t l) | inr l ↦ ap (said there) (drop_all n piece l) ]

  pub said_all : (n < length piece → (starts_after s (take n piece) && is_claim (get_or piece n 0)) ≡ true) → said (InText (text w s None)) piece ≡ parser_said w (take n piece)
  said_all t = said_there ∙ ap (λ z. parser_said w (take n piece) ++ z) (said_rest t) ∙ append-nil (parser_said w (take n piece))

-- the next byte passes
pub pass_step : (s t : Bool) (bytes : List ℕ) (i : ℕ) → i < length bytes → Passes s (take i bytes) → t ≡ starts_after s (take i bytes) → (t && is_claim (get_or bytes i 0)) ≡ false
    → Passes s (take (i + 1) bytes) × (next_starts t (get_or bytes i 0) ≡ starts_after s (take (i + 1) bytes))
pass_step s t bytes i l h e n =
    let m : take (i + 1) bytes ≡ take i bytes ++ get_or bytes i 0 ∷ [] = take_more bytes i 0 l in
    let k : (starts_after s (take i bytes) && is_claim (get_or bytes i 0)) ≡ false = subst (λ z. (z && is_claim (get_or bytes i 0)) ≡ false) e n in (
      subst (Passes s) (sym m) (passes_snoc s (take i bytes) (get_or bytes i 0) h k),
      ap (λ z. next_starts z (get_or bytes i 0)) e ∙ sym (starts_snoc s (take i bytes) (get_or bytes i 0)) ∙ ap (starts_after s) (sym m),
    )

-- a text that refused no line takes a piece
module _ (t : TextOf) (w : DrupOf) (s : Bool) (r : Option ParseFault) (e : text w s r ≡ t) (o : t.refused ≡ None) where
  as_open : t ≡ text w s None
  as_open = sym e ∙ ap (λ z. text w s z) (ap (λ (k : TextOf). k.refused) e ∙ o)

  module _ (piece : List ℕ) (n : ℕ) (h : Passes s (take n piece)) (u : Bool) (v : u ≡ starts_after s (take n piece)) (c : n < length piece → (u && is_claim (get_or piece n 0)) ≡ true) where
    claims : n < length piece → (starts_after s (take n piece) && is_claim (get_or piece n 0)) ≡ true
    claims l = subst (λ z. (z && is_claim (get_or piece n 0)) ≡ true) v (c l)

    pub piece_said : said (InText t) piece ≡ parser_said w (take n piece)
    piece_said = ap (λ k. said (InText k) piece) as_open ∙ said_all w s piece n h claims

    module _ (x : DrupOf) (f : x ≡ parser_after w (take n piece)) where
      pub piece_whole : (z : Option ParseFault) → z ≡ None → length piece ≤ n → (let y : FileOf = InText (text x u z) in y) ≡ after (InText t) piece
      piece_whole z g l =
          ap (λ k. InText (text k u z)) f ∙ ap (λ k. InText (text (parser_after w (take n piece)) k z)) v ∙ ap (λ k. InText (text (parser_after w (take n piece)) (starts_after s (take n piece)) k)) g
          ∙ sym (ap (λ k. after (InText k) piece) as_open ∙ after_whole w s piece n h l)

      pub piece_part : (k : ℕ) → k ≡ x.taken → n < length piece → (let y : FileOf = InText (text x u (Some (record { kind = BadLine; byte = k }))) in y) ≡ after (InText t) piece
      piece_part k g l =
          ap (λ j. InText (text x u (Some (record { kind = BadLine; byte = j })))) g
          ∙ ap (λ j. InText (text j u (refusal j))) f
          ∙ ap (λ j. InText (text (parser_after w (take n piece)) j (refusal (parser_after w (take n piece))))) v
          ∙ sym (ap (λ j. after (InText j) piece) as_open ∙ after_part w s piece n h l (claims l))

pub gets_same : {A : Type 0} (gets : A → Saying → A → Type 0) (stops : A → Bool) (x y : A) (ss ts : List Saying) (b d : Bool) → ss ≡ ts → b ≡ d → Gets gets stops x ts y b → Gets gets stops x ss y d
gets_same gets stops x y ss ts b d e f h = subst (λ k. Gets gets stops x ss y k) f (subst (λ k. Gets gets stops x k y b) (sym e) h)

-- a text that refused a line takes a piece
said_refused_text : (w : DrupOf) (s : Bool) (r : Option ParseFault) (piece : List ℕ) → is_some r ≡ true → said (InText (text w s r)) piece ≡ []
said_refused_text w s None piece e = absurd (let k = e in cc)
said_refused_text w s (Some f) piece e = said_refused w s f piece

after_refused_text : (w : DrupOf) (s : Bool) (r : Option ParseFault) (piece : List ℕ) → is_some r ≡ true → after (InText (text w s r)) piece ≡ InText (text w s r)
after_refused_text w s None piece e = absurd (let k = e in cc)
after_refused_text w s (Some f) piece e = after_refused w s f piece

pub refused_told : {A : Type 0} (gets : A → Saying → A → Type 0) (stops : A → Bool) (x : A) (t : TextOf) (piece : List ℕ) → is_some t.refused ≡ true → Gets gets stops x (said (InText t) piece) x false
refused_told gets stops x t piece e = gets_same gets stops x x (said (InText t) piece) [] false false (said_refused_text t.parser t.starts t.refused piece e) refl (refl, refl)

pub refused_kept : (t : TextOf) (piece : List ℕ) → is_some t.refused ≡ true → (let r : FileOf = InText t in r) ≡ after (InText t) piece
refused_kept t piece e = sym (after_refused_text t.parser t.starts t.refused piece e)
