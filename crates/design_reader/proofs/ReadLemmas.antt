-- Reading, from token to token.
use Rattle.std.proofs.Common.{◌≡◌, ℕ, ◌≤◌, ◌^◌, true, false, List, [], ◌∷◌, ◌++◌, length, drop, Option, Some, None, Result, Ok, Err, refl, sym, ap, ◌∙◌, subst, append-nil, arith}
use Rattle.std.specs.Prelude.{IfOk, IfErr}
use Rattle.std.proofs.lemmas.List.{length-drop}
use Rattle.rtlil_lex.specs.Tokens.{TokenOf, LexerOf, lexer_at, left, IsNext, IsFault, IsTokens, Front, Gap}
use Rattle.rtlil_lex.specs.Tokens.Front.{none_yet}
use Rattle.rtlil_lex.specs.Tokens.Lexes.{last_gap}
use Rattle.rtlil_lex.proofs.Fronts.{front_next, front_then}
use Rattle.design_core.specs.Shape.{DesignOf}
use Rattle.design_reader.specs.Parts.{DraftOf}
use Rattle.design_reader.specs.Grammar.{Outcome, step, reading, new_draft, Reads}
use Rattle.design_reader.specs.Faults.{IsReadFault, at_end}
use Rattle.design_reader.specs.Faults.IsReadFault.{word, no_token, ended}
use Rattle.design_reader.specs.declared.fault.ReadFault.{ReadFault}
use Rattle.design_reader.specs.declared.fault.ReadFaultKind.{ReadFaultKind}
use Rattle.design_reader.specs.declared.fault.ReadFaultKind.TheVariants.{Syntax}
use Rattle.design_reader.specs.declared.spot.Spot.{Spot}
use Rattle.design_reader.specs.declared.spot.Spot.TheVariants.{File, AutoIdx, FileAttribute, FileValue, Module, Line, Attribute, Value, ModuleParameter, ModuleParameterValue, WireOption, WireNumber, CellType, CellName, CellLine, CellParameter, CellParameterName, CellParameterValue, Port, Signal, Part}
use Rattle.design_reader.specs.Outcome.{Answers, ending}
use Rattle.design_reader.proofs.Wholes.{reading_push, one_read, never_both}

-- the tokens before a lexer's place lead to this spot
abbrev pub SoFar : List ℕ → LexerOf → DraftOf → Spot → Type 0
SoFar bytes l d s = (ts : List TokenOf) × Front (length bytes) (left l) bytes ts × (reading ts ≡ Ok (d, s))

pub so_far_start : (bytes : List ℕ) (l : LexerOf) (d : DraftOf) → l ≡ lexer_at bytes 0 → d ≡ new_draft [] → SoFar bytes l d (File false)
so_far_start bytes l d e f =
    let start : SoFar bytes (lexer_at bytes 0) (new_draft []) (File false) = ([], none_yet, refl) in
    rw (e, f) start

-- one more token
next_front : (bytes : List ℕ) (old new : LexerOf) (t : TokenOf) (ts : List TokenOf) → old.bytes ≡ bytes → IsNext old new t → Front (length bytes) (left old) bytes ts → Front (length bytes) (left new) bytes (ts ++ t ∷ [])
next_front bytes old new t ts e n f =
    let len : length old.bytes ≡ length bytes = ap (λ (x : List ℕ). length x) e in
    subst (λ (k : ℕ). Front k (left new) bytes (ts ++ t ∷ [])) len (front_next old new t bytes ts n (subst (λ (k : ℕ). Front k (left old) bytes ts) (sym len) f))

pub so_far_next : (bytes : List ℕ) (old new : LexerOf) (t : TokenOf) (d e : DraftOf) (s q : Spot) → old.bytes ≡ bytes → IsNext old new t → SoFar bytes old d s → step d s t.text ≡ Ok (e, q) → SoFar bytes new e q
so_far_next bytes old new t d e s q at n f h = (f.0 ++ t ∷ [], next_front bytes old new t f.0 at n f.1, reading_push f.0 t d s f.2 ∙ h)

pub so_far_refused : (bytes : List ℕ) (old new : LexerOf) (t : TokenOf) (d : DraftOf) (s : Spot) (k : ReadFaultKind) → length bytes ≤ 2 ^ 26 → old.bytes ≡ bytes → IsNext old new t → SoFar bytes old d s → step d s t.text ≡ Err k
    → IsReadFault bytes t.start k
so_far_refused bytes old new t d s k few at n f h = word f.0 t d s few (left new, next_front bytes old new t f.0 at n f.1) refl f.2 h

pub so_far_broken : (bytes : List ℕ) (l : LexerOf) (d : DraftOf) (s : Spot) (byte : ℕ) → length bytes ≤ 2 ^ 26 → l.bytes ≡ bytes → IsFault l byte → SoFar bytes l d s → IsReadFault bytes byte Syntax
so_far_broken bytes l d s byte few at b f =
    let quote : drop byte bytes ≡ 34 ∷ b.more = subst (λ (x : List ℕ). drop byte x ≡ 34 ∷ b.more) at b.quote in
    no_token f.0 d s few (record {
      left = left l;
      front = f.1;
      more = b.more;
      gap = b.gap;
      place = omega (arith, length-drop byte bytes, ap (λ (x : List ℕ). length x) quote);
      no_token = b.no_token;
    }) f.2 refl

all_tokens : (bytes : List ℕ) (l : LexerOf) (ts : List TokenOf) → Gap [] (left l) → Front (length bytes) (left l) bytes ts → IsTokens bytes ts
all_tokens bytes l ts g f = subst (λ (x : List TokenOf). IsTokens bytes x) (append-nil ts) (front_then (length bytes) (left l) bytes ts [] f (last_gap (left l) g))

pub so_far_ended : (bytes : List ℕ) (l : LexerOf) (d : DraftOf) (s : Spot) (k : ReadFaultKind) → length bytes ≤ 2 ^ 26 → Gap [] (left l) → SoFar bytes l d s → at_end s ≡ Some k → IsReadFault bytes (length bytes) k
so_far_ended bytes l d s k few g f h = ended f.0 d s few (all_tokens bytes l f.0 g f.1) f.2 h refl

abbrev with_spot : DraftOf → Spot → Outcome
with_spot d s = Ok (d, s)

whole_spot : (s : Spot) → at_end s ≡ None → s ≡ File true
whole_spot (File true) e = refl
whole_spot (File false) e = absurd cc
whole_spot (AutoIdx true) e = absurd cc
whole_spot (AutoIdx false) e = absurd cc
whole_spot (FileAttribute true) e = absurd cc
whole_spot (FileAttribute false) e = absurd cc
whole_spot (FileValue true) e = absurd cc
whole_spot (FileValue false) e = absurd cc
whole_spot Module e = absurd cc
whole_spot (Line a) e = absurd cc
whole_spot (Attribute a) e = absurd cc
whole_spot (Value a is_init) e = absurd cc
whole_spot ModuleParameter e = absurd cc
whole_spot ModuleParameterValue e = absurd cc
whole_spot (WireOption a o) e = absurd cc
whole_spot (WireNumber a o n) e = absurd cc
whole_spot CellType e = absurd cc
whole_spot (CellName kind ignored) e = absurd cc
whole_spot (CellLine c) e = absurd cc
whole_spot (CellParameter c) e = absurd cc
whole_spot (CellParameterName c) e = absurd cc
whole_spot (CellParameterValue c name) e = absurd cc
whole_spot (Port c) e = absurd cc
whole_spot (Signal t rows) e = absurd cc
whole_spot (Part t rows) e = absurd cc

pub so_far_whole : (bytes : List ℕ) (l : LexerOf) (d : DraftOf) (s : Spot) → length bytes ≤ 2 ^ 26 → Gap [] (left l) → SoFar bytes l d s → at_end s ≡ None → Reads bytes d.design
so_far_whole bytes l d s few g f h = record {
  limit = few;
  tokens = f.0;
  lexes = all_tokens bytes l f.0 g f.1;
  cells = d.cells;
  whole = f.2 ∙ ap (λ (x : Spot). with_spot d x) (whole_spot s h);
}

-- what the end of the tokens answers
pub answers_end : (bytes : List ℕ) (l : LexerOf) (x : DraftOf × Spot) (fault : Option ReadFaultKind) → length bytes ≤ 2 ^ 26 → Gap [] (left l) → SoFar bytes l x.0 x.1 → at_end x.1 ≡ fault → Answers bytes (ending x.0.design (length bytes) fault)
answers_end bytes l x None few g f h = so_far_whole bytes l x.0 x.1 few g f h
answers_end bytes l x (Some kind) few g f h = so_far_ended bytes l x.0 x.1 kind few g f h

-- what holds of an answer, where one came
pub ok_then : {X E : Type 0} (r : Result X E) (P Q : X → Type 0) → ((x : X) → P x → Q x) → IfOk r P → IfOk r Q
ok_then (Ok x) P Q f h = f x h
ok_then (Err e) P Q f h = tt

pub answers_only : (text : List ℕ) (answer : Result DesignOf ReadFault) → Answers text answer → IfOk answer (λ d. (e : DesignOf) → Reads text e → e ≡ d)
answers_only text (Ok d) h = λ e r. one_read text e d r h
answers_only text (Err f) h = tt

pub answers_fault : (text : List ℕ) (answer : Result DesignOf ReadFault) → Answers text answer → IfErr answer (λ f. ((d : DesignOf) → Reads text d → ⊥) × IsReadFault text f.byte f.kind)
answers_fault text (Ok d) h = tt
answers_fault text (Err f) h = (λ d r. never_both text d f.byte f.kind r h, h)
