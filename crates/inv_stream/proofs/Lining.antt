-- Bytes of a line of DRUP text, taken at once.
use Rattle.std.proofs.Common.{◌≡◌, ℕ, ◌+◌, ◌<◌, ◌≤◌, ◌-◌, false, eqb, List, [], ◌∷◌, ◌++◌, map, length, take, Option, Some, None, refl, ap, sym, ◌∙◌, append_assoc, arith, subst}
use Rattle.std.specs.Prelude.{slice_index_or}
use Rattle.std.proofs.lemmas.List.{append-nil, length-append, length-take-le, take_more}
use Rattle.cert_stream.specs.Machine.{DrupOf, fault_of}
use Rattle.cert_stream.specs.Machine as drup_machine
use Rattle.cert_stream.specs.Telling as drup
use Rattle.cert_stream.specs.Telling.{Saying}
use Rattle.cert_stream.specs.Text.{NoFeed}
use Rattle.cert_stream.specs.declared.mode.ParseFault.{ParseFault}
use Rattle.inv_stream.specs.Machine.{InvOf, InvSaying, Says, Turn, line_after, passes, reads, turn}
use Rattle.inv_stream.specs.Taking.{IsChunk, IsLineOf, turns}
use Rattle.inv_stream.specs.Telling.{after, said}
use Rattle.inv_stream.specs.declared.mode.Line.{Line}
use Rattle.inv_stream.specs.declared.mode.Line.TheVariants.{Start, Letter, Word, Named, Inside, Refused, Lost}
use Rattle.inv_stream.specs.declared.mode.Part.{Part}

abbrev inside : DrupOf → Part → ℕ → InvOf
inside p part place = record { parser = p; part = part; line = Inside; place = place }

line_on : (f : Option ParseFault) (c : ℕ) → eqb c 10 ≡ false → line_after f c ≡ Inside
line_on None c e = rw e refl
line_on (Some f) c e = refl

says_append : (a b : List Saying) → map Says (a ++ b) ≡ map Says a ++ map Says b
says_append [] b = refl
says_append (s ∷ a) b = ap (λ (z : List InvSaying). Says s ∷ z) (says_append a b)

-- a byte of it says what it says, and the rest after it
glue : (p : DrupOf) (c : ℕ) (rest : List ℕ) → map Says (drup.said p (c ∷ [])) ++ map Says (drup.said (drup.after p (c ∷ [])) rest) ≡ map Says (drup.said p (c ∷ rest))
glue p c rest =
    let t = drup_machine.turn p c in
    sym (says_append (drup.said p (c ∷ [])) (drup.said (drup.after p (c ∷ [])) rest))
    ∙ ap (map Says) (append_assoc (drup.told_by t.to t.event) [] (drup.said t.to rest))

taken_at : (p : DrupOf) (part : Part) (place : ℕ) (front : List ℕ) (b : ℕ) → NoFeed front → turns (inside p part place) (front ++ b ∷ []) ≡ reads (inside p part place) (front ++ b ∷ []) b
taken_at p part place [] b h = ap (λ (ss : List InvSaying). let t : Turn = record { to = (turn (inside p part place) b).to; says = ss } in t) (append-nil (turn (inside p part place) b).says)
taken_at p part place (c ∷ cs) b (f, h) =
    let w = inside p part place in
    let q = drup.after p (c ∷ []) in
    let rest : List ℕ = cs ++ b ∷ [] in
    ap (λ (line : _). turns_after (passes (inside p part place) (c ∷ []) line) rest) (line_on (fault_of (drup.after p (c ∷ [])).mode) c f)
    ∙ ap (λ (t : Turn). before p c t) (taken_at q part place cs b h)
    ∙ ap (λ (ss : List InvSaying). let t : Turn = record { to = (reads (inside (drup.after p (c ∷ [])) part place) (cs ++ b ∷ []) b).to; says = ss } in t) (glue p c rest)
  where
    turns_after : Turn → List ℕ → Turn
    turns_after t bytes = record { to = after t.to bytes; says = t.says ++ said t.to bytes }

    before : DrupOf → ℕ → Turn → Turn
    before p c t = record { to = t.to; says = map Says (drup.said p (c ∷ [])) ++ t.says }

pub line_taken : (w : InvOf) (front : List ℕ) (b : ℕ) → w.line ≡ Inside → NoFeed front → turns w (front ++ b ∷ []) ≡ reads w (front ++ b ∷ []) b
line_taken w front b e h = subst (λ (line : _). turns (record w { line = line }) (front ++ b ∷ []) ≡ reads (record w { line = line }) (front ++ b ∷ []) b) (sym e) (taken_at w.parser w.part w.place front b h)

-- bytes that are none but one
pub one_taken : (w : InvOf) (b : ℕ) → turns w (b ∷ []) ≡ turn w b
one_taken w b = ap (λ (ss : List InvSaying). let t : Turn = record { to = (turn w b).to; says = ss } in t) (append-nil (turn w b).says)

-- bytes up to a line feed, with one byte more
pub line_with_feed : (bytes : List ℕ) (n : ℕ) → n < length bytes → NoFeed (take n bytes) → IsLineOf (take (n + 1) bytes)
line_with_feed bytes n l h = (take n bytes, slice_index_or bytes n 0, h, take_more bytes n 0 l)

-- and bytes without one
split_last : (b : ℕ) (bytes : List ℕ) → NoFeed (b ∷ bytes) → IsLineOf (b ∷ bytes)
split_last b [] h = ([], b, tt, refl)
split_last b (c ∷ bytes) (f, h) = let r = split_last c bytes h in (b ∷ r.0, r.1, (f, r.2), ap (λ (z : List ℕ). b ∷ z) r.3)

whole_line : (bytes : List ℕ) → 0 < length bytes → NoFeed bytes → IsLineOf bytes
whole_line [] l h = absurd (omega arith)
whole_line (b ∷ bytes) l h = split_last b bytes h

pub line_without : (bytes : List ℕ) (n : ℕ) → 0 < length bytes → n ≤ length bytes → length bytes ≤ n → NoFeed (take n bytes) → IsLineOf (take n bytes)
line_without bytes n some within over h = whole_line (take n bytes) (omega (arith, length-take-le n bytes within)) h

-- the last byte
pub last_is : (bytes front : List ℕ) (b d : ℕ) → bytes ≡ front ++ b ∷ [] → slice_index_or bytes (length bytes - 1) d ≡ b
last_is bytes front b d e = ap (λ (z : List ℕ). slice_index_or z (length z - 1) d) e ∙ there front
  where
    at_end : (front : List ℕ) → slice_index_or (front ++ b ∷ []) (length front) d ≡ b
    at_end [] = refl
    at_end (c ∷ front) = at_end front

    there : (front : List ℕ) → slice_index_or (front ++ b ∷ []) (length (front ++ b ∷ []) - 1) d ≡ b
    there front = ap (λ (n : ℕ). slice_index_or (front ++ b ∷ []) n d) (let n = length-append front (b ∷ []) in omega arith) ∙ at_end front

pub one_byte : (bytes : List ℕ) (d : ℕ) → length bytes ≡ 1 → bytes ≡ slice_index_or bytes (length bytes - 1) d ∷ []
one_byte [] d e = absurd (omega arith)
one_byte (b ∷ []) d e = refl
one_byte (b ∷ c ∷ bytes) d e = absurd (omega arith)

chunk_one : (line : Line) (bytes : List ℕ) → (line ≡ Inside → ⊥) → IsChunk line bytes → length bytes ≡ 1
chunk_one Start bytes n h = h
chunk_one Letter bytes n h = h
chunk_one (Word s) bytes n h = h
chunk_one (Named part) bytes n h = h
chunk_one Inside bytes n h = absurd (n refl)
chunk_one (Refused f) bytes n h = h
chunk_one Lost bytes n h = h

pub turned_one : (w : InvOf) (bytes : List ℕ) (d : ℕ) → (w.line ≡ Inside → ⊥) → IsChunk w.line bytes → turn w (slice_index_or bytes (length bytes - 1) d) ≡ turns w bytes
turned_one w bytes d n h =
    let e = one_byte bytes d (chunk_one w.line bytes n h) in
    sym (one_taken w (slice_index_or bytes (length bytes - 1) d)) ∙ ap (turns w) (sym e)

pub turned_line : (w : InvOf) (bytes : List ℕ) (d : ℕ) → w.line ≡ Inside → IsChunk w.line bytes → reads w bytes (slice_index_or bytes (length bytes - 1) d) ≡ turns w bytes
turned_line w bytes d e h =
    let k = subst (λ (line : Line). IsChunk line bytes) e h in
    let (front, b, none, are) = k in
    ap (reads w bytes) (last_is bytes front b d are) ∙ ap (λ (z : List ℕ). reads w z b) are ∙ sym (line_taken w front b e none) ∙ ap (turns w) (sym are)
