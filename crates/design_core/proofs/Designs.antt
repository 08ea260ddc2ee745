-- What a design keeps when something is added to it.
use Rattle.std.proofs.Common.{◌≡◌, ℕ, zero, suc, ◌+◌, ◌<◌, ◌≤◌, List, [], ◌∷◌, ◌++◌, length, get_or, Some, ap, inl, inr, subst, arith, All}
use Rattle.std.specs.Prelude.{slice_get}
use Rattle.std.proofs.lemmas.Bool.{cases_lt}
use Rattle.std.proofs.lemmas.List.{length_push}
use Rattle.std.proofs.lemmas.List.Elements.{All-weaker, All-push}
use Rattle.std.proofs.lemmas.Option.{slice_get_within}
use Rattle.design_core.specs.Shape.{WireOf, CellOf, ConnectOf, IsDeclared, IsNumbered, IsCellOf, IsConnectOf, IsFileOrder}
use Rattle.design_core.specs.declared.parts.Port.{Port}
use Rattle.design_core.specs.declared.parts.Parameter.{Parameter}
use Rattle.design_signals.specs.declared.sig_bit.SigBit.{SigBit}
use Rattle.design_signals.specs.declared.sig_bit.SigBit.TheVariants.{Wire, Const, Free}
use Rattle.design_core.specs.declared.digit.Digit.{Digit}
use Rattle.design_core.specs.declared.digit.Digit.TheVariants.{Const as ConstDigit, Free as FreeDigit, Marker}

pub slice_get-append : {A : Type 0} (xs ys : List A) (i : ℕ) (x : A) → slice_get xs i ≡ Some x → slice_get (xs ++ ys) i ≡ Some x
slice_get-append [] ys i x h = cc
slice_get-append (y ∷ xs) ys zero x h = h
slice_get-append (y ∷ xs) ys (suc i) x h = slice_get-append xs ys i x h

pub IsDeclared-wire : (ws : List WireOf) (w : WireOf) (free : ℕ) (b : SigBit) → IsDeclared ws free b → IsDeclared (ws ++ w ∷ []) free b
IsDeclared-wire ws w free (Wire i b) h = (h.0, slice_get-append ws (w ∷ []) i h.0 h.1, h.2)
IsDeclared-wire ws w free (Const b) h = tt
IsDeclared-wire ws w free (Free n) h = h

pub IsDeclared-free : (ws : List WireOf) (free more : ℕ) (b : SigBit) → IsDeclared ws free b → IsDeclared ws (free + more) b
IsDeclared-free ws free more (Wire i b) h = h
IsDeclared-free ws free more (Const b) h = tt
IsDeclared-free ws free more (Free n) h = omega arith

pub IsNumbered-free : (free more : ℕ) (x : Digit) → IsNumbered free x → IsNumbered (free + more) x
IsNumbered-free free more (ConstDigit b) h = tt
IsNumbered-free free more (FreeDigit n) h = omega arith
IsNumbered-free free more Marker h = tt

module _ (ws us : List WireOf) (free more : ℕ) (bits : (b : SigBit) → IsDeclared ws free b → IsDeclared us more b)
    (numbers : (x : Digit) → IsNumbered free x → IsNumbered more x) where
  pub IsCellOf-more : (c : CellOf) → IsCellOf ws free c → IsCellOf us more c
  IsCellOf-more c h = record {
    ports = All-weaker (λ (p : Port). All (IsDeclared ws free) p.signal) (λ (p : Port). All (IsDeclared us more) p.signal)
        (λ p. All-weaker (IsDeclared ws free) (IsDeclared us more) bits p.signal) c.ports h.ports;
    parameters = All-weaker (λ (p : Parameter). All (IsNumbered free) p.digits) (λ (p : Parameter). All (IsNumbered more) p.digits)
        (λ p. All-weaker (IsNumbered free) (IsNumbered more) numbers p.digits) c.parameters h.parameters;
    one_port = h.one_port;
    one_parameter = h.one_parameter;
    named = h.named;
  }

  pub IsConnectOf-more : (j : ConnectOf) → IsConnectOf ws free j → IsConnectOf us more j
  IsConnectOf-more j h = (All-weaker (IsDeclared ws free) (IsDeclared us more) bits j.left h.0, All-weaker (IsDeclared ws free) (IsDeclared us more) bits j.right h.1)

-- one more cell after the connects
pub order-cell : (cells : ℕ) (more : ℕ) (js : List ConnectOf) → cells ≤ more → IsFileOrder cells js → IsFileOrder more js
order-cell cells more js le h = (λ k d lt. let old : (get_or js k d).cells_before ≤ cells = h.0 k d lt in omega arith, h.1)

-- the one after the others
at-push : {A : Type 0} (xs : List A) (y : A) (i : ℕ) (x : A) → slice_get (xs ++ y ∷ []) i ≡ Some x → i ≡ length xs → x ≡ y
at-push [] y zero x h e = cc
at-push [] y (suc i) x h e = cc
at-push (z ∷ xs) y zero x h e = absurd (omega arith)
at-push (z ∷ xs) y (suc i) x h e = at-push xs y i x h (omega arith)

before-push : {A : Type 0} (xs : List A) (y : A) (i : ℕ) (x : A) → slice_get (xs ++ y ∷ []) i ≡ Some x → i < length xs → slice_get xs i ≡ Some x
before-push [] y i x h lt = absurd (omega arith)
before-push (z ∷ xs) y zero x h lt = h
before-push (z ∷ xs) y (suc i) x h lt = before-push xs y i x h (omega arith)

within : (cells : ℕ) (js : List ConnectOf) (k : ℕ) (j : ConnectOf) → All (λ (x : ConnectOf). x.cells_before ≤ cells) js → slice_get js k ≡ Some j → j.cells_before ≤ cells
within cells [] k j h e = cc
within cells (x ∷ js) zero j h e = let same : x ≡ j = cc in let P : ConnectOf → Type 0 = λ y. y.cells_before ≤ cells in subst P same (h 0 x (omega arith))
within cells (x ∷ js) (suc k) j h e = within cells js k j (λ i d lt. h (suc i) d (omega (arith, lt))) e

-- a connect after the others, after all cells
pub order-connect : (cells : ℕ) (js : List ConnectOf) (j : ConnectOf) → j.cells_before ≡ cells → IsFileOrder cells js → IsFileOrder cells (js ++ j ∷ [])
order-connect cells js j e h =
    let all : All (λ (x : ConnectOf). x.cells_before ≤ cells) (js ++ j ∷ []) = All-push (λ (x : ConnectOf). x.cells_before ≤ cells) js j h.0 (omega (arith, e)) in (
      all,
      λ k l a b le at bt.
          elim (cases_lt l (length js)) as (λ _. a.cells_before ≤ b.cells_before) [
            | inl before ↦
                let ka : k < length js = omega (arith, le, before) in
                h.1 k l a b le (before-push js j k a at ka) (before-push js j l b bt before)
            | inr at_end ↦
                let last : l ≡ length js = omega (arith, at_end, slice_get_within (js ++ j ∷ []) l b bt, length_push js j) in
                let same : b ≡ j = at-push js j l b bt last in
                let most : a.cells_before ≤ cells = within cells (js ++ j ∷ []) k a all at in
                let bj : b.cells_before ≡ j.cells_before = ap (λ (x : ConnectOf). x.cells_before) same in
                omega (arith, most, bj, e)
          ],
    )
