-- A chunk that a bit below widens.
use Rattle.std.proofs.Common.{◌≡◌, ℕ, suc, ◌+◌, ◌≤◌, List, [], ◌∷◌, ◌++◌, length, take, drop, set, get_or, refl, ap, sym, ◌∙◌, append_assoc, arith}
use Rattle.std.specs.Prelude.{reverse}
use Rattle.std.proofs.lemmas.List.{reverse-append, set_split, drop_all, drop_more, take-append-drop, drop-append-le, length-take, append-nil}
use Rattle.design_signals.specs.declared.sig_bit.SigBit.{SigBit}
use Rattle.design_signals.specs.declared.sig_bit.SigBit.TheVariants.{Wire, Const, Free}
use Rattle.design_signals.specs.declared.chunk.Chunk.{Chunk}
use Rattle.design_signals.specs.Chunks.{above, bits_from, chunk_bits}
use Rattle.design_signals.specs.Parts.{falling, row_of}
use Rattle.design_signals.proofs.Cutting.{bits_above}
use Rattle.design_signals.proofs.RowLemmas.{row_append}

above_none : (x : SigBit) → above x 0 ≡ x
above_none (Wire w b) = ap (λ (n : ℕ). Wire w n) (omega arith)
above_none (Const b) = refl
above_none (Free n) = ap (λ (m : ℕ). Free m) (omega arith)

pub widens : (c new : Chunk) (x : SigBit) → new.first ≡ x → new.width ≡ c.width + 1 → above x 1 ≡ c.first → falling new ≡ falling c ++ x ∷ []
widens c new x f w e =
    let next : c.width + 1 ≡ suc c.width = omega arith in
    let tail : bits_from x (0 + 1) c.width ≡ chunk_bits c = sym (bits_above x 1 0 c.width) ∙ ap (λ (b : SigBit). bits_from b 0 c.width) e in
    ap (λ (b : SigBit). reverse (bits_from b 0 new.width)) f
    ∙ ap (λ (n : ℕ). reverse (bits_from x 0 n)) (w ∙ next)
    ∙ ap (λ (y : SigBit). reverse (y ∷ bits_from x (0 + 1) c.width)) (above_none x)
    ∙ ap (λ (l : List SigBit). reverse (x ∷ l)) tail
    ∙ reverse-append (x ∷ []) (chunk_bits c)

abbrev Chunks : Type 0
Chunks = List Chunk

-- the last chunk, widened
pub last_widened : (cs : Chunks) (start k : ℕ) (new d : Chunk) (x : SigBit) → start ≤ k → k + 1 ≡ length cs → falling new ≡ falling (get_or cs k d) ++ x ∷ []
    → row_of (drop start (set cs k new)) ≡ row_of (drop start cs) ++ x ∷ []
last_widened cs start k new d x le last e =
    let old : Chunk = get_or cs k d in
    let next : suc k ≡ k + 1 = omega arith in
    let none : drop (k + 1) cs ≡ [] = drop_all (k + 1) cs (omega (arith, last)) in
    let short : start ≤ length (take k cs) = omega (arith, length-take k cs, last, le) in
    let front : Chunks = drop start (take k cs) in
    let before : cs ≡ take k cs ++ old ∷ [] =
    sym (take-append-drop k cs) ∙ ap (λ (l : Chunks). take k cs ++ l) (drop_more cs k d (omega (arith, last))) ∙ ap (λ (l : Chunks). take k cs ++ old ∷ l) none in
    let after : set cs k new ≡ take k cs ++ new ∷ [] =
    set_split cs k new (omega (arith, last)) ∙ ap (λ (n : ℕ). take k cs ++ new ∷ drop n cs) next ∙ ap (λ (l : Chunks). take k cs ++ new ∷ l) none in
    let was : row_of (drop start cs) ≡ row_of front ++ falling old =
    ap (λ (l : Chunks). row_of (drop start l)) before ∙ ap (λ (l : Chunks). row_of l) (drop-append-le start (take k cs) (old ∷ []) short) ∙ row_append front (old ∷ [])
    ∙ ap (λ (l : List SigBit). row_of front ++ l) (append-nil (falling old)) in
    let is : row_of (drop start (set cs k new)) ≡ row_of front ++ falling new =
    ap (λ (l : Chunks). row_of (drop start l)) after ∙ ap (λ (l : Chunks). row_of l) (drop-append-le start (take k cs) (new ∷ []) short) ∙ row_append front (new ∷ [])
    ∙ ap (λ (l : List SigBit). row_of front ++ l) (append-nil (falling new)) in
    is ∙ ap (λ (l : List SigBit). row_of front ++ l) e ∙ sym (append_assoc (row_of front) (falling old) (x ∷ [])) ∙ ap (λ (l : List SigBit). l ++ x ∷ []) (sym was)
