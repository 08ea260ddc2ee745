-- How many bytes are taken.
use Rattle.std.proofs.Common.{◌≡◌, ◌⊎◌, ℕ, ◌+◌, ◌≤◌, eqb, ◌&&◌, ◌||◌, List, [], ◌∷◌, length, Option, Some, None, refl, inl, inr, arith}
use Rattle.std.proofs.lemmas.Bool.{cases_Bool}
use Rattle.cert_stream.specs.Machine.{fault_of}
use Rattle.cert_stream.specs.Telling as drup
use Rattle.cert_stream.specs.declared.mode.ParseFault.{ParseFault}
use Rattle.cert_stream.proofs.Cutting.{after_taken}
use Rattle.inv_stream.specs.Machine.{InvOf, begins, ends, goes_on, grows, is_clause, is_early, is_space, kept_back, line_after, passes, placed, reads, taken, turn, turn_by}
use Rattle.inv_stream.specs.Spelling.{grown, is_next, named, place_of}
use Rattle.inv_stream.specs.declared.mode.InvFault.{InvFault}
use Rattle.inv_stream.specs.declared.mode.Line.{Line}
use Rattle.inv_stream.specs.declared.mode.Line.TheVariants.{Start, Letter, Word, Named, Inside, Refused, Lost}
use Rattle.inv_stream.specs.declared.mode.Part.{Part}
use Rattle.inv_stream.specs.declared.mode.Spell.{Spell}
use Rattle.inv_stream.specs.declared.mode.Spell.TheVariants.{S}

-- this many, or a fault
abbrev pub Counts : ℕ → InvOf → Type 0
Counts n v = (taken v ≡ n) ⊎ ((f : InvFault) × (v.line ≡ Refused f) × (v.parser.taken ≤ n))

-- bytes that are handed on
module _ (w : InvOf) where
  handed : (bytes : List ℕ) (line : Line) (n : ℕ) → kept_back line ≡ 0 → w.parser.taken + length bytes ≡ n → Counts n (passes w bytes line).to
  handed bytes line n k e = inl (let t = after_taken w.parser bytes in omega arith)

  after_none : (f : Option ParseFault) (b : ℕ) → kept_back (line_after f b) ≡ 0
  after_none None b = elim (cases_Bool (eqb b 10)) [ inl t ↦ rw t refl | inr f ↦ rw f refl ]
  after_none (Some f) b = refl

  read_counts : (bytes : List ℕ) (b n : ℕ) → w.parser.taken + length bytes ≡ n → Counts n (reads w bytes b).to
  read_counts bytes b n e = handed bytes (line_after (fault_of (drup.after w.parser bytes).mode) b) n (after_none (fault_of (drup.after w.parser bytes).mode) b) e

  begin_counts : (b n : ℕ) → w.parser.taken + 1 ≡ n → Counts n (begins w b).to
  begin_counts b n e = elim (cases_Bool (eqb b 105)) [
    | inl t ↦ rw t (handed (32 ∷ []) _ n refl (omega arith))
    | inr f ↦ rw f (elim (cases_Bool (eqb b 115)) [
      | inl t ↦ rw t (inl (omega arith))
      | inr g ↦ rw g (elim (cases_Bool (eqb b 118 || is_early w.part b)) [
        | inl t ↦ rw t (inr (_, refl, omega arith))
        | inr h ↦ rw h (elim (cases_Bool (is_clause b && eqb (place_of w.part) 0)) [
          | inl t ↦ rw t (inr (_, refl, omega arith))
          | inr i ↦ rw i (read_counts (b ∷ []) b n (omega arith))
        ])
      ])
    ])
  ]

  grow_counts : (blanks : List ℕ) (s : Option Spell) (byte n : ℕ) → w.parser.taken + length blanks ≡ n → Counts n (grows w blanks s byte).to
  grow_counts blanks None byte n e = inr (_, refl, omega arith)
  grow_counts blanks (Some s) byte n e = handed blanks (Word s) n refl e

  go_on_counts : (part : Part) (b n : ℕ) → w.parser.taken + 1 ≡ n → Counts n (goes_on w part b).to
  go_on_counts part b n e = elim (cases_Bool (eqb b 10)) [
    | inl t ↦ rw t (inl (let k = after_taken w.parser (b ∷ []) in omega arith))
    | inr f ↦ rw f (inl (let k = after_taken w.parser (b ∷ []) in omega arith))
  ]

  end_counts : (part : Option Part) (b n : ℕ) → w.parser.taken + 1 ≡ n → Counts n (ends w part b).to
  end_counts None b n e = inr (_, refl, omega arith)
  end_counts (Some part) b n e = elim (cases_Bool (is_next w.part part)) [ inl t ↦ rw t (go_on_counts part b n e) | inr f ↦ rw f (inr (_, refl, omega arith)) ]

module _ (w : InvOf) where
  turn_by_counts : (line : Line) (b : ℕ) → w.line ≡ line → ((f : InvFault) → line ≡ Refused f → ⊥) → (line ≡ Lost → ⊥) → Counts (w.parser.taken + kept_back line + 1) (turn_by w line b).to
  turn_by_counts Start b e r l = elim (cases_Bool (is_space b)) [
    | inl t ↦ rw t (handed w (b ∷ []) Start _ refl (omega arith))
    | inr f ↦ rw f (begin_counts (placed w) b _ (omega arith))
  ]
  turn_by_counts Letter b e r l = elim (cases_Bool (is_space b)) [
    | inl t ↦ rw t (read_counts w (115 ∷ b ∷ []) b _ (omega arith))
    | inr f ↦ rw f (grow_counts w (32 ∷ 32 ∷ []) (grown S b) (w.parser.taken + 1) _ (omega arith))
  ]
  turn_by_counts (Word s) b e r l = elim (cases_Bool (is_space b)) [
    | inl t ↦ rw t (end_counts w (named s) b _ (omega arith))
    | inr f ↦ rw f (grow_counts w (32 ∷ []) (grown s b) w.parser.taken _ (omega arith))
  ]
  turn_by_counts (Named part) b e r l = elim (cases_Bool (is_space b)) [
    | inl t ↦ rw t (go_on_counts w part b _ (omega arith))
    | inr f ↦ rw f (inr (_, refl, omega arith))
  ]
  turn_by_counts Inside b e r l = read_counts w (b ∷ []) b _ (omega arith)
  turn_by_counts (Refused f) b e r l = absurd (r f refl)
  turn_by_counts Lost b e r l = absurd (l refl)

  pub turn_counts : (b : ℕ) → ((f : InvFault) → w.line ≡ Refused f → ⊥) → (w.line ≡ Lost → ⊥) → Counts (taken w + 1) (turn w b).to
  turn_counts b r l = turn_by_counts w.line b refl r l
