-- What a list says with one more event.
use Rattle.std.proofs.Common.{◌≡◌, ◌⊎◌, inl, inr, ℕ, zero, suc, ◌+◌, ◌<◌, Bool, true, false, cond, nat_lt, ◌&&◌, List, [], ◌∷◌, Some, None, refl, sym, subst, arith}
use Rattle.std.proofs.lemmas.Bool.Decides.{nat_tests}
use Rattle.race_core.specs.Sharing.{entries, fits, read_more, shared, with_event}
use Rattle.race_core.specs.Carrying.{Looked}
use Rattle.race_core.specs.declared.event.Judged.TheVariants as progress
use Rattle.race_core.specs.declared.event.LaneEvent.{LaneEvent}
use Rattle.race_core.specs.declared.event.LaneEvent.TheVariants as event
use Rattle.lane_run.specs.Reading.{bytes_filed, bytes_read, empty_by, empty_reads, filed_by, no_byte, read_by}
use Rattle.lane_run.specs.Keeping.{Adds, HasChildStart, HasReading, IsChildStart, IsReading}

-- two neighbours share no entry, or they are reads, or turns
abbrev Shares : {T : Type 0} → LaneEvent T → LaneEvent T → Type 0
Shares x e =
    (shared x e ≡ None)
    ⊎ (((m : ℕ) × (n : ℕ) × (x ≡ read_more m) × (e ≡ read_more n) × (shared x e ≡ Some (read_more (m + n))) × (0 < m) × (0 < n))
    ⊎ ((m : ℕ) × (n : ℕ) × (x ≡ event.Turns m) × (e ≡ event.Turns n) × (shared x e ≡ Some (event.Turns (m + n)))))

reads_share : {T : Type 0} (m n : ℕ) (b : Bool) → shared {T = T} (read_more m) (read_more n) ≡ cond b (Some (read_more (m + n))) None → (b ≡ true → (0 < m) × (0 < n)) → Shares {T = T} (read_more m) (read_more n)
reads_share m n true is some = let more = some refl in inr (inl (m, n, refl, refl, is, more.0, more.1))
reads_share m n false is some = inl is

both_hold : (a b : Bool) → (a && b) ≡ true → (a ≡ true) × (b ≡ true)
both_hold true b h = (refl, h)
both_hold false b h = absurd cc

above_none : (m : ℕ) → nat_lt 0 m ≡ true → 0 < m
above_none m h = grind (arith, nat_tests, h)

some_bytes : (m n : ℕ) (b : Bool) → ((nat_lt 0 m && nat_lt 0 n) && b) ≡ true → (0 < m) × (0 < n)
some_bytes m n b h =
    let x = both_hold (nat_lt 0 m) (nat_lt 0 n) (both_hold (nat_lt 0 m && nat_lt 0 n) b h).0 in
    (above_none m x.0, above_none n x.1)

turns_share : {T : Type 0} (m n : ℕ) (b : Bool) → shared {T = T} (event.Turns m) (event.Turns n) ≡ cond b (Some (event.Turns (m + n))) None → Shares {T = T} (event.Turns m) (event.Turns n)
turns_share m n true is = inr (inr (m, n, refl, refl, is))
turns_share m n false is = inl is

shares : {T : Type 0} (x e : LaneEvent T) → Shares x e
shares (event.Read m progress.More) (event.Read n progress.More) = reads_share m n ((nat_lt 0 m && nat_lt 0 n) && fits (m + n)) refl (some_bytes m n (fits (m + n)))
shares (event.Read m progress.More) (event.Read n (progress.Found v2)) = inl refl
shares (event.Read m progress.More) (event.Read n progress.Unknown) = inl refl
shares (event.Read m progress.More) (event.Read n (progress.Bad number2 at2)) = inl refl
shares (event.Read m progress.More) (event.Read n progress.Failed) = inl refl
shares (event.Read m progress.More) (event.Read n progress.Unjudged) = inl refl
shares (event.Read m progress.More) (event.File n2 p2) = inl refl
shares (event.Read m progress.More) (event.Settle w2) = inl refl
shares (event.Read m progress.More) event.ReaderMemory = inl refl
shares (event.Read m progress.More) (event.Turns n2) = inl refl
shares (event.Read m progress.More) (event.Poll p2) = inl refl
shares (event.Read m progress.More) (event.Clock t2) = inl refl
shares (event.Read m progress.More) (event.Look c2 s2) = inl refl
shares (event.Read m progress.More) event.Kill = inl refl
shares (event.Read m progress.More) event.KeeperMemory = inl refl
shares (event.Read m progress.More) event.Took = inl refl
shares (event.Read m progress.More) event.Start = inl refl
shares (event.Read m progress.More) event.Finish = inl refl
shares (event.Read m progress.More) event.Gave = inl refl
shares (event.Read m (progress.Found v)) e = inl refl
shares (event.Read m progress.Unknown) e = inl refl
shares (event.Read m (progress.Bad number at)) e = inl refl
shares (event.Read m progress.Failed) e = inl refl
shares (event.Read m progress.Unjudged) e = inl refl
shares (event.File n p) e = inl refl
shares (event.Settle w) e = inl refl
shares event.ReaderMemory e = inl refl
shares (event.Turns m) (event.Read n2 p2) = inl refl
shares (event.Turns m) (event.File n2 p2) = inl refl
shares (event.Turns m) (event.Settle w2) = inl refl
shares (event.Turns m) event.ReaderMemory = inl refl
shares (event.Turns m) (event.Turns n) = turns_share m n (fits (m + n)) refl
shares (event.Turns m) (event.Poll p2) = inl refl
shares (event.Turns m) (event.Clock t2) = inl refl
shares (event.Turns m) (event.Look c2 s2) = inl refl
shares (event.Turns m) event.Kill = inl refl
shares (event.Turns m) event.KeeperMemory = inl refl
shares (event.Turns m) event.Took = inl refl
shares (event.Turns m) event.Start = inl refl
shares (event.Turns m) event.Finish = inl refl
shares (event.Turns m) event.Gave = inl refl
shares (event.Poll p) e = inl refl
shares (event.Clock t) e = inl refl
shares (event.Look c s) e = inl refl
shares event.Kill e = inl refl
shares event.KeeperMemory e = inl refl
shares event.Took e = inl refl
shares event.Start e = inl refl
shares event.Finish e = inl refl
shares event.Gave e = inl refl

-- what the entries of two neighbours took
bytes_two : {T : Type 0} (x e : LaneEvent T) → Shares x e → bytes_read (entries x e (shared x e)) ≡ read_by x + read_by e
bytes_two x e (inl none) = rw none (omega arith)
bytes_two x e (inr (inl (m, n, hx, he, some, one, two))) = rw (some, hx, he) (omega arith)
bytes_two x e (inr (inr (m, n, hx, he, some))) = rw (some, hx, he) (omega arith)

pub bytes_with : {T : Type 0} (e : LaneEvent T) (es : List (LaneEvent T)) → bytes_read (with_event e es) ≡ bytes_read es + read_by e
bytes_with e [] = omega arith
bytes_with e (x ∷ []) = rw (bytes_two x e (shares x e)) (omega arith)
bytes_with e (x ∷ y ∷ es) = rw (bytes_with e (y ∷ es)) (omega arith)

filed_two : {T : Type 0} (x e : LaneEvent T) → Shares x e → bytes_filed (entries x e (shared x e)) ≡ filed_by x + filed_by e
filed_two x e (inl none) = rw none (omega arith)
filed_two x e (inr (inl (m, n, hx, he, some, one, two))) = rw (some, hx, he) (omega arith)
filed_two x e (inr (inr (m, n, hx, he, some))) = rw (some, hx, he) (omega arith)

pub filed_with : {T : Type 0} (e : LaneEvent T) (es : List (LaneEvent T)) → bytes_filed (with_event e es) ≡ bytes_filed es + filed_by e
filed_with e [] = omega arith
filed_with e (x ∷ []) = rw (filed_two x e (shares x e)) (omega arith)
filed_with e (x ∷ y ∷ es) = rw (filed_with e (y ∷ es)) (omega arith)

some_read : (n : ℕ) → 0 < n → no_byte n ≡ 0
some_read zero h = absurd (omega (h, arith))
some_read (suc n) h = refl

empty_two : {T : Type 0} (x e : LaneEvent T) → Shares x e → empty_reads (entries x e (shared x e)) ≡ empty_by x + empty_by e
empty_two x e (inl none) = rw none (omega arith)
empty_two x e (inr (inl (m, n, hx, he, some, one, two))) = rw (some, hx, he) (omega (some_read m one, some_read n two, some_read (m + n) (omega (one, arith)), arith))
empty_two x e (inr (inr (m, n, hx, he, some))) = rw (some, hx, he) (omega arith)

pub empty_with : {T : Type 0} (e : LaneEvent T) (es : List (LaneEvent T)) → empty_reads (with_event e es) ≡ empty_reads es + empty_by e
empty_with e [] = omega arith
empty_with e (x ∷ []) = rw (empty_two x e (shares x e)) (omega arith)
empty_with e (x ∷ y ∷ es) = rw (empty_with e (y ∷ es)) (omega arith)

-- what the looks of a list show is what its first entry shows, or the others
looked_cases : {T : Type 0} (c : ℕ) (f : T) (x : LaneEvent T) (es : List (LaneEvent T)) → Looked c f (x ∷ es) → Looked c f (x ∷ []) ⊎ Looked c f es
looked_cases c f (event.Read n p) es h = inr h
looked_cases c f (event.File n p) es h = inr h
looked_cases c f (event.Settle w) es h = inr h
looked_cases c f event.ReaderMemory es h = inr h
looked_cases c f (event.Turns n) es h = inr h
looked_cases c f (event.Poll p) es h = inr h
looked_cases c f (event.Clock t) es h = inr h
looked_cases c f (event.Look d s) es (inl h) = inl (inl h)
looked_cases c f (event.Look d s) es (inr h) = inr h
looked_cases c f event.Kill es h = inr h
looked_cases c f event.KeeperMemory es h = inr h
looked_cases c f event.Took es h = inr h
looked_cases c f event.Start es h = inr h
looked_cases c f event.Finish es h = inr h
looked_cases c f event.Gave es h = inr h

looked_first : {T : Type 0} (c : ℕ) (f : T) (x : LaneEvent T) (es : List (LaneEvent T)) → Looked c f (x ∷ []) → Looked c f (x ∷ es)
looked_first c f (event.Read n p) es h = absurd h
looked_first c f (event.File n p) es h = absurd h
looked_first c f (event.Settle w) es h = absurd h
looked_first c f event.ReaderMemory es h = absurd h
looked_first c f (event.Turns n) es h = absurd h
looked_first c f (event.Poll p) es h = absurd h
looked_first c f (event.Clock t) es h = absurd h
looked_first c f (event.Look d s) es (inl h) = inl h
looked_first c f (event.Look d s) es (inr h) = absurd h
looked_first c f event.Kill es h = absurd h
looked_first c f event.KeeperMemory es h = absurd h
looked_first c f event.Took es h = absurd h
looked_first c f event.Start es h = absurd h
looked_first c f event.Finish es h = absurd h
looked_first c f event.Gave es h = absurd h

looked_later : {T : Type 0} (c : ℕ) (f : T) (x : LaneEvent T) (es : List (LaneEvent T)) → Looked c f es → Looked c f (x ∷ es)
looked_later c f (event.Read n p) es h = h
looked_later c f (event.File n p) es h = h
looked_later c f (event.Settle w) es h = h
looked_later c f event.ReaderMemory es h = h
looked_later c f (event.Turns n) es h = h
looked_later c f (event.Poll p) es h = h
looked_later c f (event.Clock t) es h = h
looked_later c f (event.Look d s) es h = inr h
looked_later c f event.Kill es h = h
looked_later c f event.KeeperMemory es h = h
looked_later c f event.Took es h = h
looked_later c f event.Start es h = h
looked_later c f event.Finish es h = h
looked_later c f event.Gave es h = h

looked_two : {T : Type 0} (c : ℕ) (f : T) (x e : LaneEvent T) → Shares x e → Looked c f (entries x e (shared x e)) → Looked c f (x ∷ []) ⊎ Looked c f (e ∷ [])
looked_two c f x e (inl none) h = looked_cases c f x (e ∷ []) (subst (λ o. Looked c f (entries x e o)) none h)
looked_two c f x e (inr (inl (m, n, hx, he, some, one, two))) h = absurd (subst (λ o. Looked c f (entries x e o)) some h)
looked_two c f x e (inr (inr (m, n, hx, he, some))) h = absurd (subst (λ o. Looked c f (entries x e o)) some h)

looked_or : {T : Type 0} (c : ℕ) (f : T) (x e : LaneEvent T) (es : List (LaneEvent T)) → Looked c f es ⊎ Looked c f (e ∷ []) → Looked c f (x ∷ es) ⊎ Looked c f (e ∷ [])
looked_or c f x e es (inl h) = inl (looked_later c f x es h)
looked_or c f x e es (inr h) = inr h

looked_on : {T : Type 0} (c : ℕ) (f : T) (x e : LaneEvent T) (es more : List (LaneEvent T)) → (Looked c f more → Looked c f es ⊎ Looked c f (e ∷ []))
    → Looked c f (x ∷ []) ⊎ Looked c f more → Looked c f (x ∷ es) ⊎ Looked c f (e ∷ [])
looked_on c f x e es more on (inl k) = inl (looked_first c f x es k)
looked_on c f x e es more on (inr k) = looked_or c f x e es (on k)

-- what the looks of a list with one more event show
looked_with : {T : Type 0} (c : ℕ) (f : T) (e : LaneEvent T) (es : List (LaneEvent T)) → Looked c f (with_event e es) → Looked c f es ⊎ Looked c f (e ∷ [])
looked_with c f e [] h = inr h
looked_with c f e (x ∷ []) h = looked_two c f x e (shares x e) h
looked_with c f e (x ∷ y ∷ es) h = looked_on c f x e (y ∷ es) (with_event e (y ∷ es)) (λ k. looked_with c f e (y ∷ es) k) (looked_cases c f x (with_event e (y ∷ es)) h)

read_or : {T : Type 0} (r : ℕ) (x e : LaneEvent T) → HasReading r (x ∷ e ∷ []) → HasReading r (x ∷ []) ⊎ IsReading r e
read_or r x e (inl k) = inl (inl k)
read_or r x e (inr (inl k)) = inr k
read_or r x e (inr (inr k)) = absurd k

neither : {A : Type 0} → ⊥ ⊎ ⊥ → A
neither (inl k) = absurd k
neither (inr k) = absurd k

read_two : {T : Type 0} (r : ℕ) (x e : LaneEvent T) → Shares x e → HasReading r (entries x e (shared x e)) → HasReading r (x ∷ []) ⊎ IsReading r e
read_two r x e (inl none) h = read_or r x e (subst (λ o. HasReading r (entries x e o)) none h)
read_two r x e (inr (inl (m, n, hx, he, some, one, two))) h = neither (subst (λ o. HasReading r (entries x e o)) some h)
read_two r x e (inr (inr (m, n, hx, he, some))) h = neither (subst (λ o. HasReading r (entries x e o)) some h)

read_later : {T : Type 0} (r : ℕ) (x e : LaneEvent T) (es : List (LaneEvent T)) → HasReading r es ⊎ IsReading r e → HasReading r (x ∷ es) ⊎ IsReading r e
read_later r x e es (inl k) = inl (inr k)
read_later r x e es (inr k) = inr k

-- the readings of a list with one more event
read_with : {T : Type 0} (r : ℕ) (e : LaneEvent T) (es : List (LaneEvent T)) → HasReading r (with_event e es) → HasReading r es ⊎ IsReading r e
read_with r e [] (inl h) = inr h
read_with r e [] (inr h) = absurd h
read_with r e (x ∷ []) h = read_two r x e (shares x e) h
read_with r e (x ∷ y ∷ es) (inl h) = inl (inl h)
read_with r e (x ∷ y ∷ es) (inr h) = read_later r x e (y ∷ es) (read_with r e (y ∷ es) h)

start_two : {T : Type 0} (x e : LaneEvent T) → Shares x e → HasChildStart (x ∷ []) ⊎ IsChildStart e → HasChildStart (entries x e (shared x e))
start_two {T} x e (inl none) (inl (inl h)) = subst (λ o. HasChildStart (entries x e o)) (sym none) (inl h)
start_two {T} x e (inl none) (inl (inr h)) = absurd h
start_two {T} x e (inl none) (inr h) = subst (λ o. HasChildStart (entries x e o)) (sym none) (inr (inl h))
start_two {T} x e (inr (inl (m, n, hx, he, some, one, two))) (inl (inl h)) = absurd (subst (λ (x : LaneEvent T). IsChildStart x) hx h)
start_two {T} x e (inr (inl (m, n, hx, he, some, one, two))) (inl (inr h)) = absurd h
start_two {T} x e (inr (inl (m, n, hx, he, some, one, two))) (inr h) = absurd (subst (λ (x : LaneEvent T). IsChildStart x) he h)
start_two {T} x e (inr (inr (m, n, hx, he, some))) (inl (inl h)) = absurd (subst (λ (x : LaneEvent T). IsChildStart x) hx h)
start_two {T} x e (inr (inr (m, n, hx, he, some))) (inl (inr h)) = absurd h
start_two {T} x e (inr (inr (m, n, hx, he, some))) (inr h) = absurd (subst (λ (x : LaneEvent T). IsChildStart x) he h)

-- a start of a list stays with one more event
start_with : {T : Type 0} (e : LaneEvent T) (es : List (LaneEvent T)) → HasChildStart es ⊎ IsChildStart e → HasChildStart (with_event e es)
start_with e [] (inl h) = absurd h
start_with e [] (inr h) = inl h
start_with e (x ∷ []) h = start_two x e (shares x e) h
start_with e (x ∷ y ∷ es) (inl (inl h)) = inl h
start_with e (x ∷ y ∷ es) (inl (inr h)) = inr (start_with e (y ∷ es) (inl h))
start_with e (x ∷ y ∷ es) (inr h) = inr (start_with e (y ∷ es) (inr h))

-- what a list shows with one more event
pub adds_with : {T : Type 0} (e : LaneEvent T) (es : List (LaneEvent T)) → Adds e es (with_event e es)
adds_with e es = record { looks = λ place f seen. looked_with place f e es seen; readings = λ r seen. read_with r e es seen; starts = λ has. start_with e es has }
