-- A row's bits are as many as its width says.
use Rattle.std.proofs.Common.{◌≡◌, ◌⊎◌, ℕ, ◌+◌, ◌-◌, ◌<◌, Bool, true, false, cond, eqb, List, [], ◌∷◌, length, Option, Some, None, refl, ap, sym, ◌∙◌, inl, inr, arith}
use Rattle.std.specs.Prelude.{slice_get}
use Rattle.std.proofs.lemmas.Bool.{cases_Bool, eqb-true}
use Rattle.std.proofs.lemmas.Bool.Decides.{nat_tests}
use Rattle.std.proofs.lemmas.List.{length-append}
use Rattle.btor_witness.specs.Machine.{ScanOf, bit_of, begin_bits, is_bad, is_bad_tag, first_token, line_entry, line_left, number_of, read_bit, second, token_entry, visible_by, width_at, with_line}
use Rattle.btor_witness.specs.Within.{AreBitsOf}
use Rattle.btor_witness.specs.declared.line.Line.{Line}
use Rattle.btor_witness.specs.declared.line.Line.TheVariants as line
use Rattle.btor_witness.specs.declared.line.Entry.TheVariants as entry
use Rattle.btor_witness.specs.declared.word.Tag.TheVariants.{Bad, States, Inputs}
use Rattle.btor_witness.specs.declared.word.Token.{Token}
use Rattle.btor_witness.specs.declared.word.Token.TheVariants.{Number, Begun, Tagged, Dot, S, Sa, Sat, Other}

pub left_sound : (ws : List ℕ) (l : Line) (bits : List Bool) → AreBitsOf ws l bits → AreBitsOf ws (line_left l) bits
left_sound ws line.Blank bits h = h
left_sound ws (line.Word t) bits h = h
left_sound ws (line.Gap t) bits h = h
left_sound ws (line.Bads k t) bits h = elim (cases_Bool (is_bad t)) [ inl e ↦ rw e tt | inr e ↦ rw e tt ]
left_sound ws (line.BadsGap k) bits h = tt
left_sound ws (line.Bits n more) bits (width, e, l) = elim (cases_Bool (eqb more 0)) [
  | inl t ↦ let z = eqb-true more 0 t in let same : width ≡ length bits = omega arith in rw t (e ∙ ap Some same)
  | inr f ↦ rw f tt
]
left_sound ws (line.BitsGap n) bits h = h
left_sound ws (line.Symbol n) bits h = h
left_sound ws (line.SymbolGap n) bits h = h
left_sound ws line.Other bits h = h

abbrev ScanIs : List ℕ → ScanOf → Type 0
ScanIs ws s = AreBitsOf ws s.line s.bits

bit_sound : (ws : List ℕ) (s : ScanOf) (n width more : ℕ) (o : Option Bool) → slice_get ws n ≡ Some width → length s.bits + more ≡ width → ScanIs ws (read_bit s n more o)
bit_sound ws s n width more None e l = tt
bit_sound ws s n width more (Some x) e l = by (cases_Bool (eqb more 0))
  where
    by : (eqb more 0 ≡ true) ⊎ (eqb more 0 ≡ false) → ScanIs ws (read_bit s n more (Some x))
    by (inl t) = rw t tt
    by (inr f) = let len = length-append s.bits (x ∷ []) in let some : 0 < more = grind (arith, nat_tests) in rw f (width, e, omega arith)

begin_sound : (ws : List ℕ) (s : ScanOf) (n b : ℕ) (o : Option ℕ) → slice_get ws n ≡ o → s.bits ≡ [] → ScanIs ws (begin_bits s n o b)
begin_sound ws s n b None e h = tt
begin_sound ws s n b (Some width) e h = let l : length s.bits ≡ 0 = ap (λ (x : List Bool). length x) h in bit_sound ws s n width width (bit_of b) e (omega arith)

tag_sound : (ws : List ℕ) (s : ScanOf) (k b : ℕ) (c : Bool) → ScanIs ws (with_line s (cond c (line.Bads k (first_token b)) line.Other))
tag_sound ws s k b true = tt
tag_sound ws s k b false = tt

second_sound : (ws : List ℕ) (s : ScanOf) (t : Token) (b : ℕ) → s.bits ≡ [] → ScanIs ws (second s t (width_at ws (number_of (line.Gap t))) b)
second_sound ws s (Number n) b h = begin_sound ws s n b (slice_get ws n) refl h
second_sound ws s (Begun tag) b h = tt
second_sound ws s (Tagged tag k) b h = tag_sound ws s k b (is_bad_tag tag)
second_sound ws s Dot b h = tt
second_sound ws s S b h = tt
second_sound ws s Sa b h = tt
second_sound ws s Sat b h = tt
second_sound ws s Other b h = tt

pub visible_sound : (ws : List ℕ) (s : ScanOf) (l : Line) (b : ℕ) → AreBitsOf ws l s.bits → ScanIs ws (visible_by s l (width_at ws (number_of l)) b)
visible_sound ws s line.Blank b h = h
visible_sound ws s (line.Word t) b h = h
visible_sound ws s (line.Gap t) b h = second_sound ws s t b h
visible_sound ws s (line.Bads k t) b h = tt
visible_sound ws s (line.BadsGap k) b h = tt
visible_sound ws s (line.Bits n more) b (width, e, l) = bit_sound ws s n width more (bit_of b) e l
visible_sound ws s (line.BitsGap n) b h = h
visible_sound ws s (line.Symbol n) b h = h
visible_sound ws s (line.SymbolGap n) b h = tt
visible_sound ws s line.Other b h = tt

-- a line that assigns has its bits
token_assigns : (t : Token) (n : ℕ) → token_entry t ≡ Some (entry.Assign n) → ⊥
token_assigns (Number k) n e = cc
token_assigns (Begun tag) n e = cc
token_assigns (Tagged Bad k) n e = cc
token_assigns (Tagged States k) n e = cc
token_assigns (Tagged Inputs k) n e = cc
token_assigns Dot n e = cc
token_assigns S n e = cc
token_assigns Sa n e = cc
token_assigns Sat n e = cc
token_assigns Other n e = cc

entry_same : (k n : ℕ) → Some (entry.Assign k) ≡ Some (entry.Assign n) → k ≡ n
entry_same k n e = cc

assign_by : (ws : List ℕ) (l : Line) (bits : List Bool) (n : ℕ) → AreBitsOf ws l bits → line_entry l ≡ Some (entry.Assign n) → slice_get ws n ≡ Some (length bits)
assign_by ws line.Blank bits n h e = cc
assign_by ws (line.Word t) bits n h e = cc
assign_by ws (line.Gap t) bits n h e = absurd (token_assigns t n e)
assign_by ws (line.Bads k t) bits n h e = cc
assign_by ws (line.BadsGap k) bits n h e = cc
assign_by ws (line.Bits k more) bits n h e = cc
assign_by ws (line.BitsGap k) bits n h e = let same : k ≡ n = entry_same k n e in ap (slice_get ws) (sym same) ∙ h
assign_by ws (line.Symbol k) bits n h e = cc
assign_by ws (line.SymbolGap k) bits n h e = let same : k ≡ n = entry_same k n e in ap (slice_get ws) (sym same) ∙ h
assign_by ws line.Other bits n h e = cc

pub assign_sound : (ws : List ℕ) (l : Line) (bits : List Bool) (n : ℕ) → AreBitsOf ws l bits → line_entry (line_left l) ≡ Some (entry.Assign n) → slice_get ws n ≡ Some (length bits)
assign_sound ws l bits n h e = assign_by ws (line_left l) bits n (left_sound ws l bits h) e
