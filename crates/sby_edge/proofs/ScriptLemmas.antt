-- Looking up a script, and counting what a start gave.
use Rattle.std.proofs.Common.{◌≡◌, ◌⊎◌, inl, inr, Bor, subst, Option, None, IsSomeAnd, take, option_copied, ℕ, zero, suc, ◌+◌, ◌<◌, ◌≤◌, true, false, cond, List, [], ◌∷◌, Some, length, drop, get_or, set, refl, ap, sym, ◌∙◌, add-one, arith}
use Rattle.sby_edge.specs.Child.{StartOf, gave, with_given}
use Rattle.sby_edge.specs.Script.{ScriptOf}
use Rattle.sby_edge.specs.Scripts.{ScriptedOf, is_for, script_at}
use Rattle.sby_terms.specs.declared.names.JobName.{JobName}
use Rattle.std.specs.Option.{ForSome}
use Rattle.std.proofs.lemmas.List.{drop-drop, length-drop, length-take-le}
use Rattle.std.proofs.Math.ListN.{drop_of_length-le}
use Rattle.sby_edge.specs.Child.{PipeOf, Gives, GivesSome}

unfolded : (i : ℕ) (ss : List ScriptedOf) (s : ScriptedOf) (other : ScriptOf) (task lane : ℕ) (job : JobName) → i < length ss → s ≡ get_or ss i s
    → script_at (drop i ss) other task lane job ≡ cond (is_for s task lane job) s.script (script_at (drop (suc i) ss) other task lane job)
unfolded i [] s other task lane job h e = absurd (omega arith)
unfolded zero (x ∷ ss) s other task lane job h e = ap (λ y. cond (is_for y task lane job) y.script (script_at ss other task lane job)) (sym e)
unfolded (suc i) (x ∷ ss) s other task lane job h e = unfolded i ss s other task lane job (omega arith) e

-- the script at a place that is for the child
pub script_here : (i : ℕ) (ss : List ScriptedOf) (s : ScriptedOf) (other : ScriptOf) (task lane : ℕ) (job : JobName) → i < length ss → s ≡ get_or ss i s → is_for s task lane job ≡ true
    → script_at (drop i ss) other task lane job ≡ s.script
script_here i ss s other task lane job h e t = unfolded i ss s other task lane job h e ∙ ap (λ b. cond b s.script (script_at (drop (suc i) ss) other task lane job)) t

-- one that isn't
pub script_next : (i : ℕ) (ss : List ScriptedOf) (s : ScriptedOf) (other : ScriptOf) (task lane : ℕ) (job : JobName) → i < length ss → s ≡ get_or ss i s → is_for s task lane job ≡ false
    → script_at (drop i ss) other task lane job ≡ script_at (drop (i + 1) ss) other task lane job
script_next i ss s other task lane job h e t =
    unfolded i ss s other task lane job h e ∙ (ap (λ b. cond b s.script (script_at (drop (suc i) ss) other task lane job)) t ∙ ap (λ n. script_at (drop n ss) other task lane job) (sym (add-one i)))

-- what a start gave is put at its place
pub given_set : (place given : ℕ) (killed : Option ℕ) (starts : List StartOf) (s : StartOf) → place < length starts → s ≡ get_or starts place s
    → set starts place (gave given killed s) ≡ with_given place given killed starts
given_set place given killed [] s h e = absurd (omega arith)
given_set zero given killed (x ∷ starts) s h e = ap (λ y. gave given killed y ∷ starts) e
given_set (suc place) given killed (x ∷ starts) s h e = ap (λ rest. x ∷ rest) (given_set place given killed starts s (omega arith) e)

-- past the starts nothing is
pub given_past : (place given : ℕ) (killed : Option ℕ) (starts : List StartOf) → length starts ≤ place → with_given place given killed starts ≡ starts
given_past place given killed [] h = refl
given_past zero given killed (x ∷ starts) h = absurd (omega arith)
given_past (suc place) given killed (x ∷ starts) h = ap (λ rest. x ∷ rest) (given_past place given killed starts (omega arith))

abbrev pipe_at : ℕ → ℕ → List ℕ → PipeOf
pipe_at place given bytes = record { place = place; given = given; bytes = bytes; instead = None }

now_is : (place given count : ℕ) (stream buffer : List ℕ) (before : PipeOf) → before.place ≡ place → before.given ≡ given → length (take count buffer) ≡ count
    → pipe_at place (given + count) (drop (given + count) stream)
    ≡ pipe_at before.place (before.given + length (take count buffer)) (drop (length (take count buffer)) (drop given stream))
now_is place given count stream buffer before hp hg len =
    let d : drop (given + count) stream ≡ drop (length (take count buffer)) (drop given stream) = sym (drop-drop count given stream) ∙ ap (λ n. drop n (drop given stream)) (sym len) in
    let n : given + count ≡ before.given + length (take count buffer) = omega arith in
    cc

-- a read from the front of a stream gives what stands there
gives : (place given count : ℕ) (stream buffer : List ℕ) (before : PipeOf) → before.place ≡ place → before.given ≡ given → given + count ≤ length stream → (count ≡ 0 → given ≡ length stream)
    → take count buffer ≡ take count (drop given stream)
    → Gives (drop given stream) (take count buffer) before (record { place = place; given = given + count; bytes = drop (given + count) stream; instead = None })
gives place given count stream buffer before hp hg fits ends same =
    let len : length (take count buffer) ≡ count = ap length same ∙ length-take-le count (drop given stream) (omega (arith, length-drop given stream)) in
    record {
      piece_is = same ∙ ap (λ n. take n (drop given stream)) (sym len);
      ends = λ e. let z : count ≡ 0 = sym len ∙ ap length e in drop_of_length-le stream (omega (arith, ends z));
      left = now_is place given count stream buffer before hp hg len;
    }

-- a read gives what stands in its stream, or, while the gate wasn't decided, in the other
pub read_gives : (place given count : ℕ) (old stream buffer : List ℕ) (instead : Option (Bor (List ℕ))) → given + count ≤ length stream → (count ≡ 0 → given ≡ length stream)
    → take count buffer ≡ take count (drop given stream) → (stream ≡ old) ⊎ IsSomeAnd instead (λ other. other.now ≡ stream) → ForSome instead (λ _. given ≡ 0)
    → GivesSome (record { place = place; given = given; bytes = drop given old; instead = option_copied instead }) (take count buffer)
    (record { place = place; given = given + count; bytes = drop (given + count) stream; instead = None })
read_gives place given count old stream buffer instead fits ends same (inl e) zero_given =
    inl (subst (λ (s : List ℕ). Gives (drop given s) (take count buffer) (record { place = place; given = given; bytes = drop given old; instead = option_copied instead }) (record { place = place; given = given + count; bytes = drop (given + count) stream; instead = None }))
    e (gives place given count stream buffer (record { place = place; given = given; bytes = drop given old; instead = option_copied instead }) refl refl fits ends same))
read_gives place given count old stream buffer (Some other) fits ends same (inr e) zero_given =
    let z : given ≡ 0 = zero_given other refl in
    let s : drop given stream ≡ other.now = ap (λ n. drop n stream) z ∙ sym e in
    inr (subst (λ (s : List ℕ). Gives s (take count buffer) (record { place = place; given = given; bytes = drop given old; instead = Some other.now }) (record { place = place; given = given + count; bytes = drop (given + count) stream; instead = None }))
    s (gives place given count stream buffer (record { place = place; given = given; bytes = drop given old; instead = Some other.now }) refl refl fits ends same))
read_gives place given count old stream buffer None fits ends same (inr e) zero_given = absurd e

-- the same in the form that a read's contract has
pub read_all : (place at before given count : ℕ) (old stream buffer : List ℕ) (instead : Option (Bor (List ℕ))) (left : Option (List ℕ)) → at ≡ place → given ≡ before → left ≡ None
    → given + count ≤ length stream → (count ≡ 0 → given ≡ length stream)
    → take count buffer ≡ take count (drop given stream) → (stream ≡ old) ⊎ IsSomeAnd instead (λ other. other.now ≡ stream) → ForSome instead (λ _. before ≡ 0)
    → GivesSome (record { place = place; given = before; bytes = drop before old; instead = option_copied instead }) (take count buffer)
    (record { place = at; given = given + count; bytes = drop (given + count) stream; instead = left })
read_all place at before given count old stream buffer instead left a e l fits ends same streams zero_given =
    subst (λ (p : ℕ). GivesSome (record { place = place; given = before; bytes = drop before old; instead = option_copied instead }) (take count buffer)
    (record { place = p; given = given + count; bytes = drop (given + count) stream; instead = left })) (sym a)
    (subst (λ (o : Option (List ℕ)). GivesSome (record { place = place; given = before; bytes = drop before old; instead = option_copied instead }) (take count buffer)
    (record { place = place; given = given + count; bytes = drop (given + count) stream; instead = o })) (sym l)
    (subst (λ (n : ℕ). GivesSome (record { place = place; given = n; bytes = drop n old; instead = option_copied instead }) (take count buffer)
    (record { place = place; given = given + count; bytes = drop (given + count) stream; instead = None })) e
    (read_gives place given count old stream buffer instead fits ends same streams (λ other h. e ∙ zero_given other h))))
