-- Lists of notes, place by place.
use Rattle.std.proofs.Common.{◌≡◌, ◌⊎◌, ℕ, zero, suc, ◌+◌, ◌<◌, ◌≤◌, List, [], ◌∷◌, Option, Some, None, IfSome, length, map, set, get_or, refl, ap, sym, ◌∙◌, inl, inr, add-one, arith}
use Rattle.std.proofs.lemmas.Bool.{cases_lt}
use Rattle.std.specs.Option.{MatchOption}
use Rattle.std.specs.Prelude.{Result, Ok, Err, IfOk}
use Rattle.race_cells.specs.declared.cells.Settling.{Settling}
use Rattle.race_cells.specs.declared.cells.Settling.TheVariants.{Won, Lost}
use Rattle.race_cells.specs.Settling.{Settles, SettlesOne}
use Rattle.std.proofs.lemmas.List.{set-get_or}
use borrow.Author.Count.{below_more}
use Rattle.race_cells.specs.Notes.{NoteOf, Agree, Agrees, AreNotesOf, fresh, joined, Learns, both, known_at, knowing, learned}

abbrev pub cells : {T : Type 0} → List (NoteOf T) → List ℕ
cells ns = map (λ n. n.cell) ns

-- the notes joined below a place
abbrev pub upto : {T : Type 0} → ℕ → List (NoteOf T) → List (NoteOf T) → List (NoteOf T)
upto zero ns ms = ns
upto (suc i) [] ms = []
upto (suc i) (n ∷ ns) [] = n ∷ ns
upto (suc i) (n ∷ ns) (m ∷ ms) = both n m ∷ upto i ns ms

-- of each cell below a place whose value both know, they know the same
abbrev pub AgreeBelow : {T : Type 0} → ℕ → List (NoteOf T) → List (NoteOf T) → Type 0
AgreeBelow {T} i ns ms = (k : ℕ) → k < i → (a b : T) → known_at ns k ≡ Some a → known_at ms k ≡ Some b → a ≡ b

pub known_at-get : {T : Type 0} (ns : List (NoteOf T)) (k : ℕ) (d : NoteOf T) → k < length ns → known_at ns k ≡ (get_or ns k d).known
known_at-get [] k d h = absurd (omega arith)
known_at-get (n ∷ ns) zero d h = refl
known_at-get (n ∷ ns) (suc k) d h = known_at-get ns k d (omega arith)

pub known_at-past : {T : Type 0} (ns : List (NoteOf T)) (k : ℕ) → length ns ≤ k → known_at ns k ≡ None
known_at-past [] k h = refl
known_at-past (n ∷ ns) zero h = absurd (omega arith)
known_at-past (n ∷ ns) (suc k) h = known_at-past ns k (omega arith)

at-first : {T : Type 0} (x : Option T) (v a b : T) → Agrees x v → x ≡ Some a → Some v ≡ Some b → a ≡ b
at-first (Some u) v a b here e f = cc
at-first None v a b here e f = cc

-- where both are known, they are the same
at-both : {T : Type 0} (x y : Option T) (a b : T) → IfSome y (Agrees x) → x ≡ Some a → y ≡ Some b → a ≡ b
at-both x (Some v) a b here e f = at-first x v a b here e f
at-both x None a b here e f = cc

-- one more place on which they agree
pub agree-more : {T : Type 0} (i : ℕ) (ns ms : List (NoteOf T)) (c d : NoteOf T) → i < length ns → i < length ms → c ≡ get_or ns i c → d ≡ get_or ms i d
    → AgreeBelow i ns ms → IfSome d.known (Agrees c.known) → AgreeBelow (i + 1) ns ms
agree-more {T} i ns ms c d p q hc hd below here =
    below_more (λ k. (a b : T) → known_at ns k ≡ Some a → known_at ms k ≡ Some b → a ≡ b) i below (λ a b x y.
    at-both c.known d.known a b here (sym (known_at-get ns i c p ∙ ap (λ n. n.known) (sym hc)) ∙ x) (sym (known_at-get ms i d q ∙ ap (λ n. n.known) (sym hd)) ∙ y))

agree-at : {T : Type 0} (ns ms : List (NoteOf T)) (k : ℕ) (a b : T) → AgreeBelow (length ns) ns ms → (k < length ns) ⊎ (length ns ≤ k) → known_at ns k ≡ Some a → known_at ms k ≡ Some b → a ≡ b
agree-at ns ms k a b below (inl h) x y = below k h a b x y
agree-at ns ms k a b below (inr h) x y = let e = known_at-past ns k h in cc

-- so they agree on all
pub agree-all : {T : Type 0} (ns ms : List (NoteOf T)) → AgreeBelow (length ns) ns ms → Agree ns ms
agree-all {T} ns ms below k a b x y = agree-at ns ms k a b below (cases_lt k (length ns)) x y

upto-suc : {T : Type 0} (i : ℕ) (ns ms : List (NoteOf T)) (c d : NoteOf T) → i < length ns → i < length ms
    → upto (suc i) ns ms ≡ set (upto i ns ms) i (both (get_or ns i c) (get_or ms i d))
upto-suc i [] ms c d p q = absurd (omega arith)
upto-suc i (n ∷ ns) [] c d p q = absurd (omega arith)
upto-suc zero (n ∷ ns) (m ∷ ms) c d p q = refl
upto-suc (suc i) (n ∷ ns) (m ∷ ms) c d p q = ap (λ rest. both n m ∷ rest) (upto-suc i ns ms c d (omega arith) (omega arith))

-- joining goes place by place
pub upto-more : {T : Type 0} (i : ℕ) (ns ms : List (NoteOf T)) (c d : NoteOf T) → i < length ns → i < length ms
    → upto (i + 1) ns ms ≡ set (upto i ns ms) i (both (get_or ns i c) (get_or ms i d))
upto-more i ns ms c d p q = rw add-one (upto-suc i ns ms c d p q)

-- below a place nothing is joined above it
pub get_or-upto : {T : Type 0} (i : ℕ) (ns ms : List (NoteOf T)) (d : NoteOf T) → get_or (upto i ns ms) i d ≡ get_or ns i d
get_or-upto zero ns ms d = refl
get_or-upto (suc i) [] ms d = refl
get_or-upto (suc i) (n ∷ ns) [] d = refl
get_or-upto (suc i) (n ∷ ns) (m ∷ ms) d = get_or-upto i ns ms d

pub join-step : {T : Type 0} (i : ℕ) (ns ms items : List (NoteOf T)) (a b now : NoteOf T) → items ≡ upto i ns ms → i < length ns → i < length ms
    → a ≡ get_or items i a → b ≡ get_or ms i b → now ≡ both a b → set items i now ≡ upto (i + 1) ns ms
join-step i ns ms items a b now e p q ha hb hn =
    let fa : get_or ns i a ≡ a = sym (get_or-upto i ns ms a) ∙ (sym (ap (λ l. get_or l i a) e) ∙ sym ha) in
    let f = upto-more i ns ms a b p q in
    let g : set items i now ≡ set (upto i ns ms) i (both a b) = ap (λ l. set l i now) e ∙ ap (λ n. set (upto i ns ms) i n) hn in
    let k : both (get_or ns i a) (get_or ms i b) ≡ both a b =
    ap (λ n. both n (get_or ms i b)) fa ∙ ap (λ m. both a m) (sym hb) in
    g ∙ sym (f ∙ ap (λ n. set (upto i ns ms) i n) k)

pub length-upto : {T : Type 0} (i : ℕ) (ns ms : List (NoteOf T)) → length (upto i ns ms) ≡ length ns
length-upto zero ns ms = refl
length-upto (suc i) [] ms = refl
length-upto (suc i) (n ∷ ns) [] = refl
length-upto (suc i) (n ∷ ns) (m ∷ ms) = ap suc (length-upto i ns ms)

pub upto-all : {T : Type 0} (ns ms : List (NoteOf T)) → length ns ≡ length ms → upto (length ns) ns ms ≡ joined ns ms
upto-all [] ms e = refl
upto-all (n ∷ ns) [] e = cc
upto-all (n ∷ ns) (m ∷ ms) e = ap (λ rest. both n m ∷ rest) (upto-all ns ms (omega arith))

tail-of : {a b : ℕ} {xs ys : List ℕ} → a ∷ xs ≡ b ∷ ys → xs ≡ ys
tail-of e = cc

-- notes of the same cells are equally many, and of the same cell at each place
pub cells-length : {T : Type 0} (ns ms : List (NoteOf T)) → map (λ n. n.cell) ms ≡ map (λ n. n.cell) ns → length ns ≡ length ms
cells-length [] [] e = refl
cells-length [] (m ∷ ms) e = cc
cells-length (n ∷ ns) [] e = cc
cells-length (n ∷ ns) (m ∷ ms) e = ap suc (cells-length ns ms (tail-of e))

pub cell-at : {T : Type 0} (ns ms : List (NoteOf T)) (k : ℕ) (c d : NoteOf T) → map (λ n. n.cell) ms ≡ map (λ n. n.cell) ns → k < length ns
    → (get_or ms k d).cell ≡ (get_or ns k c).cell
cell-at [] ms k c d e h = absurd (omega arith)
cell-at (n ∷ ns) [] k c d e h = cc
cell-at (n ∷ ns) (m ∷ ms) zero c d e h = cc
cell-at (n ∷ ns) (m ∷ ms) (suc k) c d e h = cell-at ns ms k c d (tail-of e) (omega arith)

-- learning puts the value at its place
pub learned-set : {T : Type 0} (place : ℕ) (value : T) (ns : List (NoteOf T)) (d : NoteOf T) → place < length ns
    → set ns place (knowing value (get_or ns place d)) ≡ learned place value ns
learned-set place value [] d h = absurd (omega arith)
learned-set zero value (n ∷ ns) d h = refl
learned-set (suc place) value (n ∷ ns) d h = ap (λ rest. n ∷ rest) (learned-set place value ns d (omega arith))

-- it leaves the cells' names
pub learned-cells : {T : Type 0} (place : ℕ) (value : T) (ns : List (NoteOf T)) → map (λ n. n.cell) (learned place value ns) ≡ map (λ n. n.cell) ns
learned-cells place value [] = refl
learned-cells zero value (n ∷ ns) = refl
learned-cells (suc place) value (n ∷ ns) = ap (λ rest. n.cell ∷ rest) (learned-cells place value ns)

-- a note of the same cell put at its place leaves the cells' names
pub cells-set : {T : Type 0} (ns : List (NoteOf T)) (place : ℕ) (one d : NoteOf T) → one.cell ≡ (get_or ns place d).cell → map (λ n. n.cell) (set ns place one) ≡ map (λ n. n.cell) ns
cells-set [] place one d e = refl
cells-set (n ∷ ns) zero one d e = ap (λ c. c ∷ map (λ n. n.cell) ns) e
cells-set (n ∷ ns) (suc place) one d e = ap (λ rest. n.cell ∷ rest) (cells-set ns place one d e)

-- what one note learned, the notes learned at its place
learns-at : {T : Type 0} (ns : List (NoteOf T)) (place : ℕ) (value : T) (old now : NoteOf T) → place < length ns → get_or ns place old ≡ old
    → (now ≡ knowing value old) × Agrees old.known value → Learns place value ns (set ns place now)
learns-at ns place value old now h e l =
    (ap (λ n. set ns place n) (l.0 ∙ ap (λ n. knowing value n) (sym e)) ∙ learned-set place value ns old h, rw (known_at-get ns place old h, e) (l.1))

unknown-at : {T : Type 0} (ns : List (NoteOf T)) (place : ℕ) (old : NoteOf T) → place < length ns → get_or ns place old ≡ old → old.known ≡ None → known_at ns place ≡ None
unknown-at ns place old h e u = known_at-get ns place old h ∙ (ap (λ n. n.known) e ∙ u)

pub look-at : {T B : Type 0} (now_of : B → T) (ns : List (NoteOf T)) (place : ℕ) (old now : NoteOf T) (result : Option B) → place < length ns → get_or ns place old ≡ old
    → MatchOption result ((old.known ≡ None) × (now ≡ old)) (λ v. (now ≡ knowing (now_of v) old) × Agrees old.known (now_of v))
    → MatchOption result ((known_at ns place ≡ None) × (set ns place now ≡ ns)) (λ v. Learns place (now_of v) ns (set ns place now))
look-at now_of ns place old now None h e l =
    (unknown-at ns place old h e (l.0), ap (λ n. set ns place n) (l.1 ∙ sym e) ∙ set-get_or ns place old)
look-at now_of ns place old now (Some v) h e l = learns-at ns place (now_of v) old now h e l

pub settle-at : {T E : Type 0} (ns : List (NoteOf T)) (place : ℕ) (value : T) (old now : NoteOf T) (result : Result (Settling T) E) → place < length ns → get_or ns place old ≡ old
    → IfOk result (SettlesOne value old now) → IfOk result (Settles place value ns (set ns place now))
settle-at ns place value old now (Err e) h q l = l
settle-at ns place value old now (Ok Won) h q l = (unknown-at ns place old h q (l.0), learns-at ns place value old now h q (l.1, rw (l.0) tt))
settle-at ns place value old now (Ok (Lost back)) h q l = (l.0, (l.1.0, learns-at ns place (l.1.0) old now h q (l.1.1, l.1.2)))

-- fresh notes are of the cells that they were made for
fresh-names : (T : Type 0) (names : List ℕ) → cells (map (fresh {T = T}) names) ≡ names
fresh-names T [] = refl
fresh-names T (name ∷ names) = ap (λ rest. name ∷ rest) (fresh-names T names)

pub fresh_cells : {T : Type 0} (names : List ℕ) (notes : List (NoteOf T)) → notes ≡ map fresh names → AreNotesOf names notes
fresh_cells {T} names notes e = ap cells e ∙ fresh-names T names

-- joined notes are of the cells of the first
pub joined-cells : {T : Type 0} (ns ms : List (NoteOf T)) → cells (joined ns ms) ≡ cells ns
joined-cells [] ms = refl
joined-cells (n ∷ ns) [] = refl
joined-cells (n ∷ ns) (m ∷ ms) = ap (λ rest. n.cell ∷ rest) (joined-cells ns ms)

pub fresh_result : {T E : Type 0} (names others : List ℕ) (r : Result (List (NoteOf T)) E) → names ≡ others → IfOk r (λ notes. notes ≡ map fresh names) → IfOk r (λ notes. AreNotesOf others notes)
fresh_result names others (Ok notes) e h = fresh_cells names notes h ∙ e
fresh_result names others (Err x) e h = tt
