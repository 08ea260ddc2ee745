-- The text of a formula, piece by piece.
use Rattle.std.proofs.Common.{◌≡◌, ℕ, zero, suc, ◌+◌, ◌-◌, ◌*◌, ◌<◌, ◌≤◌, Bool, true, false, cond, List, [], ◌∷◌, ◌++◌, Some, refl, sym, ap, ◌∙◌, arith, length, length-append, take, drop, append_assoc, take-append-drop}
use Rattle.std.specs.Prelude.{slice_get}
use Rattle.std.specs.List.{flat_map}
use Rattle.std.proofs.lemmas.List.{append-nil, drop-drop, drop_more, length-drop, length-take-le, take-append-le}
use Rattle.std.proofs.lemmas.Option.{get_or_from_slice_get, slice_get_within}
use Rattle.std.proofs.Math.ListN.{drop_of_length-le}
use Rattle.std.proofs.Math.Seq.{take-length}
use Rattle.cnf_form.specs.Cnf.{LitOf}
use Rattle.cnf_form.specs.Dimacs.{body_text, clause_text, dimacs_text, header_text, literal_text}
use Rattle.gate_graph.specs.declared.gate.Gate.{Gate}
use Rattle.gate_graph.specs.declared.gate.Gate.TheVariants.{And, Xor, Mux, Maj}
use Rattle.gate_graph.specs.Folding.{clauses_of}
use Rattle.gate_graph.specs.Kept.{clauses_from, lit_of}
use Rattle.gate_graph.proofs.Pushing.{take_one_more}
use Rattle.net_unroll.specs.Encoding.{EncodedOf, formula_of}
use Rattle.net_text.specs.Text.{count_of, gates_text}

body_append : (F G : List (List LitOf)) → body_text (F ++ G) ≡ body_text F ++ body_text G
body_append [] G = refl
body_append (c ∷ F) G = ap (λ (t : List ℕ). clause_text c ++ t) (body_append F G) ∙ sym (append_assoc (clause_text c) (body_text F) (body_text G))

gates_body : (gates : List (Gate × LitOf)) → body_text (flat_map (λ (e : Gate × LitOf). clauses_of e.1 e.0) gates) ≡ gates_text gates 0
gates_body [] = refl
gates_body (e ∷ es) = body_append (clauses_of e.1 e.0) (flat_map (λ (e : Gate × LitOf). clauses_of e.1 e.0) es) ∙ ap (λ (t : List ℕ). body_text (clauses_of e.1 e.0) ++ t) (gates_body es)

-- the first element of what is left
pub drop_here : {A : Type 0} (xs : List A) (i : ℕ) (x : A) → slice_get xs i ≡ Some x → drop i xs ≡ x ∷ drop (i + 1) xs
drop_here xs i x e = drop_more xs i x (slice_get_within xs i x e) ∙ ap (λ (y : _). y ∷ drop (i + 1) xs) (get_or_from_slice_get xs i x x e)

-- after the header
truth_text : (gates : List (Gate × LitOf)) (goals : List LitOf) → body_text (clauses_from gates ++ goals ∷ []) ≡ clause_text (lit_of 1 true ∷ []) ++ (gates_text gates 0 ++ clause_text goals)
truth_text gates goals =
    ap (λ (t : List ℕ). clause_text (lit_of 1 true ∷ []) ++ t)
    (body_append (flat_map (λ (e : Gate × LitOf). clauses_of e.1 e.0) gates) (goals ∷ []) ∙ ap (λ (t : List ℕ). t ++ (clause_text goals ++ [])) (gates_body gates)
    ∙ ap (λ (t : List ℕ). gates_text gates 0 ++ t) (append-nil (clause_text goals)))

pub asked_text : (e : EncodedOf) (count : ℕ) (rest : List ℕ) → count ≡ count_of e → e.asks ≡ true → rest ≡ gates_text e.gates 0 ++ clause_text e.goals →
    (header_text e.vars count ++ clause_text (lit_of 1 true ∷ [])) ++ rest ≡ dimacs_text (formula_of e)
asked_text e count rest many asks is =
    append_assoc (header_text e.vars count) (clause_text (lit_of 1 true ∷ [])) rest
    ∙ ap (λ (k : ℕ). header_text e.vars k ++ (clause_text (lit_of 1 true ∷ []) ++ rest)) many
    ∙ ap (λ (t : List ℕ). header_text e.vars (count_of e) ++ t)
    (ap (λ (t : List ℕ). clause_text (lit_of 1 true ∷ []) ++ t) is ∙ sym (truth_text e.gates e.goals)
    ∙ ap (λ (b : Bool). body_text (cond b (clauses_from e.gates ++ e.goals ∷ []) ([] ∷ []))) (sym asks))

pub nothing_text : (e : EncodedOf) (count : ℕ) → count ≡ count_of e → e.asks ≡ false → (header_text e.vars count ++ clause_text []) ++ [] ≡ dimacs_text (formula_of e)
nothing_text e count many asks =
    append_assoc (header_text e.vars count) (clause_text []) []
    ∙ ap (λ (k : ℕ). header_text e.vars k ++ (clause_text [] ++ [])) many
    ∙ ap (λ (b : Bool). header_text e.vars (count_of e) ++ body_text (cond b (clauses_from e.gates ++ e.goals ∷ []) ([] ∷ []))) (sym asks)

-- gates from a clause on
pub clause_here : (gates : List (Gate × LitOf)) (g k : ℕ) (x : Gate × LitOf) → slice_get gates g ≡ Some x → gates_text (drop g gates) k ≡ body_text (drop k (clauses_of x.1 x.0)) ++ gates_text (drop (g + 1) gates) 0
clause_here gates g k x e = ap (λ (es : List (Gate × LitOf)). gates_text es k) (drop_here gates g x e)

clause_first : (gates : List (Gate × LitOf)) (g k : ℕ) (x : Gate × LitOf) (c : List LitOf) → slice_get gates g ≡ Some x → slice_get (clauses_of x.1 x.0) k ≡ Some c →
    gates_text (drop g gates) k ≡ clause_text c ++ (body_text (drop (k + 1) (clauses_of x.1 x.0)) ++ gates_text (drop (g + 1) gates) 0)
clause_first gates g k x c e f =
    clause_here gates g k x e
    ∙ ap (λ (cs : List (List LitOf)). body_text cs ++ gates_text (drop (g + 1) gates) 0) (drop_here (clauses_of x.1 x.0) k c f)
    ∙ append_assoc (clause_text c) (body_text (drop (k + 1) (clauses_of x.1 x.0))) (gates_text (drop (g + 1) gates) 0)

-- the next clause of the same gate, and the next gate
pub clause_on : (gates : List (Gate × LitOf)) (goals : List LitOf) (g k : ℕ) (x : Gate × LitOf) (c : List LitOf) → slice_get gates g ≡ Some x → slice_get (clauses_of x.1 x.0) k ≡ Some c →
    gates_text (drop g gates) k ++ clause_text goals ≡ clause_text c ++ (gates_text (drop g gates) (k + 1) ++ clause_text goals)
clause_on gates goals g k x c e f =
    ap (λ (t : List ℕ). t ++ clause_text goals) (clause_first gates g k x c e f ∙ ap (λ (t : List ℕ). clause_text c ++ t) (sym (clause_here gates g (k + 1) x e)))
    ∙ append_assoc (clause_text c) (gates_text (drop g gates) (k + 1)) (clause_text goals)

pub gate_on : (gates : List (Gate × LitOf)) (goals : List LitOf) (g k : ℕ) (x : Gate × LitOf) (c : List LitOf) → slice_get gates g ≡ Some x → slice_get (clauses_of x.1 x.0) k ≡ Some c → length (clauses_of x.1 x.0) ≤ k + 1 →
    gates_text (drop g gates) k ++ clause_text goals ≡ clause_text c ++ (gates_text (drop (g + 1) gates) 0 ++ clause_text goals)
gate_on gates goals g k x c e f over =
    ap (λ (t : List ℕ). t ++ clause_text goals) (clause_first gates g k x c e f
    ∙ ap (λ (cs : List (List LitOf)). clause_text c ++ (body_text cs ++ gates_text (drop (g + 1) gates) 0)) (drop_of_length-le (clauses_of x.1 x.0) over))
    ∙ append_assoc (clause_text c) (gates_text (drop (g + 1) gates) 0) (clause_text goals)

-- after all gates
pub gates_over : (gates : List (Gate × LitOf)) (goals : List LitOf) (g : ℕ) → length gates ≤ g → gates_text (drop g gates) 0 ++ clause_text goals ≡ clause_text goals
gates_over gates goals g l = ap (λ (es : List (Gate × LitOf)). gates_text es 0 ++ clause_text goals) (drop_of_length-le gates l)

-- goals
pub goal_on : (goals : List LitOf) (i : ℕ) (l : LitOf) → slice_get goals i ≡ Some l → (literal_text l ++ 32 ∷ []) ++ clause_text (drop (i + 1) goals) ≡ clause_text (drop i goals)
goal_on goals i l e = append_assoc (literal_text l) (32 ∷ []) (clause_text (drop (i + 1) goals)) ∙ sym (ap clause_text (drop_here goals i l e))

pub goals_over : (goals : List LitOf) (i : ℕ) → length goals ≤ i → clause_text (drop i goals) ≡ 48 ∷ 10 ∷ []
goals_over goals i l = ap clause_text (drop_of_length-le goals l)

-- how many clauses there are
abbrev pub gates_count : List (Gate × LitOf) → ℕ
gates_count [] = 0
gates_count (e ∷ es) = length (clauses_of e.1 e.0) + gates_count es

pub some_clauses : (y : LitOf) (g : Gate) → 0 < length (clauses_of y g)
some_clauses y (And a b) = omega arith
some_clauses y (Xor a b) = omega arith
some_clauses y (Mux s a b) = omega arith
some_clauses y (Maj a b c) = omega arith

count_append : (a b : List (Gate × LitOf)) → gates_count (a ++ b) ≡ gates_count a + gates_count b
count_append [] b = omega arith
count_append (e ∷ a) b = let r = count_append a b in omega arith

pub count_more : (gates : List (Gate × LitOf)) (k : ℕ) (x : Gate × LitOf) (y : LitOf) (many : ℕ) → slice_get gates k ≡ Some x → many ≡ length (clauses_of x.1 x.0) → gates_count (take (k + 1) gates) ≡ gates_count (take k gates) + many
count_more gates k x y many e m =
    let a = ap gates_count (take_one_more gates k x e) in
    let b = count_append (take k gates) (x ∷ []) in
    omega arith

pub six : (y : LitOf) (g : Gate) → length (clauses_of y g) ≤ 6
six y (And a b) = omega arith
six y (Xor a b) = omega arith
six y (Mux s a b) = omega arith
six y (Maj a b c) = omega arith

pub count_few : (gates : List (Gate × LitOf)) (k : ℕ) → gates_count (take k gates) ≤ 6 * k
count_few gates zero = omega arith
count_few [] (suc k) = omega arith
count_few (e ∷ es) (suc k) = let a = six e.1 e.0 in let b = count_few es k in omega arith

flat_count : (gates : List (Gate × LitOf)) → length (flat_map (λ (e : Gate × LitOf). clauses_of e.1 e.0) gates) ≡ gates_count gates
flat_count [] = refl
flat_count (e ∷ es) =
    let a = length-append (clauses_of e.1 e.0) (flat_map (λ (e : Gate × LitOf). clauses_of e.1 e.0) es) in
    let b = flat_count es in
    omega arith

take_past : {A : Type 0} (xs : List A) (k : ℕ) → length xs ≤ k → take k xs ≡ xs
take_past [] zero l = refl
take_past [] (suc k) l = refl
take_past (x ∷ xs) zero l = absurd (omega arith)
take_past (x ∷ xs) (suc k) l = ap (λ (ys : List _). x ∷ ys) (take_past xs k (omega arith))

pub count_all : (e : EncodedOf) (k count : ℕ) → e.asks ≡ true → length e.gates ≤ k → count ≡ 2 + gates_count (take k e.gates) → count ≡ count_of e
count_all e k count asks long is =
    let a = length-append (flat_map (λ (d : Gate × LitOf). clauses_of d.1 d.0) e.gates) (e.goals ∷ []) in
    let b = flat_count e.gates in
    let d = ap gates_count (take_past e.gates k long) in
    let n : length (clauses_from e.gates ++ e.goals ∷ []) ≡ 2 + gates_count e.gates = omega arith in
    is ∙ ap (λ (m : ℕ). 2 + m) d ∙ sym n ∙ ap (λ (b : Bool). length (cond b (clauses_from e.gates ++ e.goals ∷ []) ([] ∷ []))) (sym asks)

-- all that is left of a slice
pub slice_left : (xs : List ℕ) (k : ℕ) → take (length xs - k) (drop k xs) ≡ drop k xs
slice_left xs k = ap (λ (n : ℕ). take n (drop k xs)) (sym (length-drop k xs)) ∙ take-length (drop k xs)

pub entry_here : (gates : List (Gate × LitOf)) (g : ℕ) → g < length gates → (x : Gate × LitOf) × (slice_get gates g ≡ Some x) × (0 < length (clauses_of x.1 x.0))
entry_here [] g l = absurd (omega arith)
entry_here (e ∷ es) zero l = (e, refl, some_clauses e.1 e.0)
entry_here (e ∷ es) (suc g) l = entry_here es g (omega arith)

pub some_after : (xs ys bytes : List ℕ) (b : ℕ) → bytes ≡ xs ++ b ∷ ys → 0 < length bytes
some_after xs ys bytes b e = let n = ap length e in let m = length-append xs (b ∷ ys) in omega arith

pub clause_some : (c : List LitOf) → 0 < length (clause_text c)
clause_some [] = omega arith
clause_some (l ∷ c) = some_after (literal_text l) (clause_text c) (clause_text (l ∷ c)) 32 refl

-- what a piece gives
pub given_text : (bytes rest buffer : List ℕ) (given count : ℕ) → count ≤ length (drop given bytes) → drop given bytes ++ rest ≡ take count (take count (drop given bytes) ++ drop count buffer) ++ (drop (given + count) bytes ++ rest)
given_text bytes rest buffer given count l =
    let front : List ℕ = take count (drop given bytes) in
    let long : count ≤ length (take count (drop given bytes)) = let n = length-take-le count (drop given bytes) l in omega arith in
    ap (λ (xs : List ℕ). xs ++ rest) (sym (take-append-drop count (drop given bytes)))
    ∙ append_assoc front (drop count (drop given bytes)) rest
    ∙ ap (λ (xs : List ℕ). front ++ (xs ++ rest)) (drop-drop count given bytes)
    ∙ ap (λ (xs : List ℕ). xs ++ (drop (given + count) bytes ++ rest)) (sym (take-append-le count front (drop count buffer) long ∙ take_all count front (let n = length-take-le count (drop given bytes) l in n)))
  where
    take_all : (k : ℕ) (xs : List ℕ) → length xs ≡ k → take k xs ≡ xs
    take_all k xs e = ap (λ (n : ℕ). take n xs) (sym e) ∙ take-length xs
