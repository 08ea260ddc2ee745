-- Identifiers.
use Rattle.std.proofs.Common.{◌≡◌, ℕ, Bool, true, false, cond, ◌&&◌, not, [], ◌∷◌, slice_index, Err, refl, ap}
use Rattle.std.proofs.lemmas.Bool.{eqb-true}
use Rattle.rtlil_lex.specs.Tokens.{begins_name, is_backslash}
use Rattle.rtlil_constant.specs.Constants.{Word}
use Rattle.std.specs.Prelude.{IsUtf8}
use Rattle.std.specs.Str.{is_utf8}
use Rattle.std.proofs.lemmas.Str.{IsUtf8-from_is_utf8, is_utf8-from_IsUtf8}
use Rattle.design_reader.specs.Parts.{DraftOf}
use Rattle.design_reader.specs.Grammar.{step, name_step}
use Rattle.design_reader.specs.Labels.{bare}
use Rattle.design_reader.specs.declared.fault.ReadFaultKind.TheVariants.{NotUtf8Name}
use Rattle.design_reader.specs.declared.spot.Spot.{Spot}

-- what has no backslash before it stays
pub bare_other : (name : Word) → ((rest : Word) → name ≡ 92 ∷ rest → ⊥) → name ≡ bare name
bare_other [] h = refl
bare_other (b ∷ name) h =
    elim (is_backslash b) as (λ v. is_backslash b ≡ v → b ∷ name ≡ cond (v && not (begins_name (slice_index name 0))) name (b ∷ name)) [
      | true ↦ λ e. absurd (h name (ap (λ (x : ℕ). x ∷ name) (eqb-true b 92 e)))
      | false ↦ λ e. refl
    ] refl

-- ---- names

pub utf8_yes : (w : Word) → IsUtf8 w → is_utf8 w ≡ true
utf8_yes w u = is_utf8-from_IsUtf8 w u

by_utf8 : (w : Word) (b : Bool) → is_utf8 w ≡ b → (IsUtf8 w → ⊥) → b ≡ false
by_utf8 w true e h = absurd (h (IsUtf8-from_is_utf8 w e))
by_utf8 w false e h = refl

pub utf8_no : (w : Word) → (IsUtf8 w → ⊥) → is_utf8 w ≡ false
utf8_no w h = by_utf8 w (is_utf8 w) refl h

pub step_name : (d : DraftOf) (s : Spot) (w : Word) → begins_name (slice_index w 0) ≡ true → IsUtf8 w → step d s w ≡ name_step d s w
step_name d s w h u = rw (h, utf8_yes w u) refl

pub step_no_name : (d : DraftOf) (s : Spot) (w : Word) → begins_name (slice_index w 0) ≡ true → (IsUtf8 w → ⊥) → step d s w ≡ Err NotUtf8Name
step_no_name d s w h u = rw (h, utf8_no w u) refl
