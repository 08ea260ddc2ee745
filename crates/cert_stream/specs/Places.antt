-- Lines of lists, whole ones.
use Rattle.std.specs.Prelude.{◌≡◌, ◌⊎◌, ℕ, ◌≤◌, true, List, [], ◌∷◌, ◌++◌, length, map, Some, codes}
use Rattle.cnf_form.specs.Cnf.{LitOf}
use Rattle.cert_stream.specs.Text.{Word, literal_of}
use Rattle.cert_stream.specs.declared.mode.ListKind.{ListKind}
use Rattle.cert_stream.specs.declared.mode.ListKind.TheVariants.{Clause, Deletion, Values}

-- whole lines: nothing, or bytes up to and with a line feed
abbrev pub AreLines : List ℕ → Type 0
AreLines bytes = (bytes ≡ []) ⊎ ((front : List ℕ) × (bytes ≡ front ++ 10 ∷ []))

-- white space or a line feed follows each word
abbrev pub AreDone : List Word → Type 0
AreDone [] = Unit {0}
AreDone (w ∷ ws) = (w.done ≡ true) × AreDone ws

-- the words write the literals, at most as many as there are variables
abbrev pub Write : ℕ → List Word → List LitOf → Type 0
Write vars ws lits = AreDone ws × (map (λ w. literal_of vars w.text) ws ≡ map Some lits) × (length lits ≤ vars)

-- a 0 that counts
abbrev pub IsZero : Word → Type 0
IsZero w = (w.text ≡ codes "0") × (w.done ≡ true)

-- the words of a line that begins with byte number `place` are a list of literals, with d or v before that of a deletion or of values
abbrev pub IsList : ℕ → ListKind → ℕ → List LitOf → List Word → Type 0
IsList vars Clause place lits words =
    (ws : List Word) × (zero : Word) × (words ≡ ws ++ zero ∷ []) × Write vars ws lits × IsZero zero × (first : Word) × (others : List Word) × (words ≡ first ∷ others) × (first.place ≡ place)
IsList vars Deletion place lits words =
    (first : Word) × (ws : List Word) × (zero : Word) × (words ≡ first ∷ ws ++ zero ∷ []) × (first.text ≡ codes "d") × (first.place ≡ place) × Write vars ws lits × IsZero zero
IsList vars Values place lits words =
    (first : Word) × (ws : List Word) × (zero : Word) × (words ≡ first ∷ ws ++ zero ∷ []) × (first.text ≡ codes "v") × (first.place ≡ place) × Write vars ws lits × IsZero zero
