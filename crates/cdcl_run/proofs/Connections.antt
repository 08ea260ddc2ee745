-- What stands after connections.
use Rattle.std.proofs.Common.{◌≡◌, ◌≢◌, ◌⊎◌, ℕ, ◌+◌, ◌≤◌, ◌<◌, false, List, [], ◌∷◌, ◌++◌, length, get_or, map, refl, sym, ap, ◌∙◌, subst, inl, inr, append_assoc, append-nil, arith}
use Rattle.std.specs.Prelude.{Bool, true, All, Option, Some, None, IfSome, Err, codes, decimal, option_map}
use Rattle.std.proofs.lemmas.Fmt.{decimal_injective}
use Rattle.std.proofs.lemmas.List.Elements.{All-cons, All-head, All-nil, All-push, All-tail, Contains-append_left, Contains-push}
use Rattle.sby_edge.specs.Cause.{Rose, greatest}
use Rattle.sby_edge.specs.declared.outside.Fail.{Fail}
use Rattle.sby_edge.specs.declared.outside.Fail.TheVariants.{Failed as FailFailed, Memory as FailMemory}
use Rattle.net_link.specs.Doors.{Returned, returned}
use Rattle.net_link.specs.Frame.{Pieces, Unframed}
use Rattle.net_serve.specs.Serving.{IsServed, fault_line}
use Rattle.net_serve.specs.declared.serving.Served.{Served}
use Rattle.net_serve.specs.declared.serving.Served.TheVariants.{Answered, BadFrame, Failed, Memory}
use Rattle.cdcl_words.specs.Asking.{Asks, AsksToServe}
use Rattle.cdcl_run.specs.Run.{Did, World}
use Rattle.cdcl_run.specs.Serving.{Connection, DoorBreaks, DoorOf, IsExitOf, IsServing, Passed, Passes, Ran, StandsAs, opened}
use Rattle.cdcl_run.specs.Stream.{IsStream, exit_of}

-- what a connection has, by what came of it
pub stands_as : (s : Served) (request written : Option (List ℕ)) (first last : ℕ) → first ≡ 0 → (s ≡ Answered → IsServed (IsStream false) request written) → (s ≡ BadFrame → IfSome request Unframed × IfSome written (Pieces fault_line))
    → (s ≡ Failed → Rose first last) → StandsAs s request (returned written last)
stands_as Answered request written first last fresh a b f = a refl
stands_as BadFrame request written first last fresh a b f = b refl
stands_as Failed request written first last fresh a b f = subst (λ n. Rose n last) fresh (f refl)
stands_as Memory request written first last fresh a b f = tt

-- a connection more
pub passed_push : (before middle after : DoorOf) (cs : List Connection) (c : Connection) → Passed before middle cs → Passes middle after c → Passed before after (cs ++ c ∷ [])
passed_push before middle after [] c p q = (after, subst (λ d. Passes d after c) p q, refl)
passed_push before middle after (d ∷ cs) c p q = (p.0, p.1, passed_push p.0 middle after cs c p.2 q)

is_memory : (s : Served) → (s ≡ Memory) ⊎ (s ≢ Memory)
is_memory Answered = inr (λ e. cc)
is_memory BadFrame = inr (λ e. cc)
is_memory Failed = inr (λ e. cc)
is_memory Memory = inl refl

pub exit_push : (cs : List Connection) (c : Connection) (exit now : ℕ) → (c.served ≡ Memory → now ≡ 32) → (c.served ≢ Memory → now ≡ exit) → IsExitOf cs exit → IsExitOf (cs ++ c ∷ []) now
exit_push cs c exit now m n e = elim (is_memory c.served) [
  | inl is ↦ inr (m is, (c, Contains-push cs c, is))
  | inr not ↦ elim e [
    | inl none ↦ inl (n not ∙ none.0, All-push (λ x. x.served ≢ Memory) cs c none.1 not)
    | inr some ↦ inr (n not ∙ some.0, (some.1.0, Contains-append_left cs (c ∷ []) some.1.0 some.1.1, some.1.2))
  ]
]

pub no_exit : IsExitOf [] 0
no_exit = inl (refl, All-nil (λ x. x.served ≢ Memory))

-- how the door broke
breaks : (before after : DoorOf) (e : Fail) → (e ≡ FailFailed → Rose before.faults after.faults) → (e ≡ FailMemory → after.faults ≡ before.faults) → DoorBreaks before after (exit_of (Err e))
breaks before after FailFailed failed memory = inl (refl, failed refl)
breaks before after FailMemory failed memory = inr (refl, memory refl)

pub shut : (before middle after : DoorOf) (address : List ℕ) (cs : List Connection) (count : ℕ) (e : Fail) → Passed (opened address before) middle cs → length cs < count → after.came_back ≡ middle.came_back → after.backs ≡ middle.backs
    → after.listens_at ≡ middle.listens_at → (e ≡ FailFailed → Rose middle.faults after.faults) → (e ≡ FailMemory → after.faults ≡ middle.faults) → IsServing before after address count (exit_of (Err e))
shut before middle after address cs count e p f t b l failed memory =
    inr (inl (record { connections = cs; middle = middle; passed = p; fewer = f; came_back = t; backs = b; listens = l; breaks = breaks middle after e failed memory }))

pub unopened : (before after : DoorOf) (address : List ℕ) (count : ℕ) (e : Fail) → after.listens_at ≡ before.listens_at → after.coming ≡ before.coming → after.came_back ≡ before.came_back → after.backs ≡ before.backs
    → (e ≡ FailFailed → Rose before.faults after.faults) → (e ≡ FailMemory → after.faults ≡ before.faults) → IsServing before after address count (exit_of (Err e))
unopened before after address count e l c t b failed memory =
    inr (inr (record { listens = l; coming = c; came_back = t; backs = b; breaks = breaks before after e failed memory }))

-- where it listens
pub listens_still : (before after : DoorOf) (cs : List Connection) → Passed before after cs → after.listens_at ≡ before.listens_at
listens_still before after [] p = ap (λ d. d.listens_at) p
listens_still before after (c ∷ cs) p = listens_still p.0 after cs p.2 ∙ p.1.listens

-- what is told of those that came back
mapped_nil : {X : Type 0} (o : Option (List X)) → option_map (λ all. all ++ []) o ≡ o
mapped_nil None = refl
mapped_nil (Some all) = ap Some (append-nil all)

mapped_both : {X : Type 0} (x : X) (xs : List X) (o : Option (List X)) → option_map (λ all. all ++ xs) (option_map (λ all. all ++ x ∷ []) o) ≡ option_map (λ all. all ++ x ∷ xs) o
mapped_both x xs None = refl
mapped_both x xs (Some all) = ap Some (append_assoc all (x ∷ []) xs)

pub told_back : (before after : DoorOf) (cs : List Connection) → Passed before after cs → after.came_back ≡ option_map (λ all. all ++ map (λ c. c.back) cs) before.came_back
told_back before after [] p = ap (λ d. d.came_back) p ∙ sym (mapped_nil before.came_back)
told_back before after (c ∷ cs) p =
    told_back p.0 after cs p.2 ∙ ap (option_map (λ all. all ++ map (λ x. x.back) cs)) p.1.came_back ∙ mapped_both c.back (map (λ x. x.back) cs) before.came_back

pub counted_back : (before after : DoorOf) (cs : List Connection) → Passed before after cs → before.backs + length cs ≤ greatest → after.backs ≡ before.backs + length cs
counted_back before after [] p h = omega (arith, ap (λ d. d.backs) p)
counted_back before after (c ∷ cs) p h =
    let one = p.1.backs in
    let now : p.0.backs ≡ before.backs + 1 = omega (arith, one, h) in
    let more = counted_back p.0 after cs p.2 (omega (arith, now, h)) in
    omega (arith, now, more)

-- a connection on which no call failed, and for which memory didn't run out, was answered
answered_one : (s : Served) (request : Option (List ℕ)) (back : Returned) → StandsAs s request back → s ≢ Memory → back.faults ≡ 0 → (s ≡ Answered) ⊎ (s ≡ BadFrame)
answered_one Answered request back h n f = inl refl
answered_one BadFrame request back h n f = inr refl
answered_one Failed request back h n f = absurd (omega (arith, h, f))
answered_one Memory request back h n f = absurd (n refl)

answered_all : (before after : DoorOf) (cs : List Connection) → Passed before after cs → All (λ c. c.served ≢ Memory) cs → All (λ c. c.back.faults ≡ 0 → (c.served ≡ Answered) ⊎ (c.served ≡ BadFrame)) cs
answered_all before after [] p n = All-nil (λ c. c.back.faults ≡ 0 → (c.served ≡ Answered) ⊎ (c.served ≡ BadFrame))
answered_all before after (c ∷ cs) p n =
    All-cons (λ x. x.back.faults ≡ 0 → (x.served ≡ Answered) ⊎ (x.served ≡ BadFrame)) c cs
    (answered_one c.served c.request c.back p.1.stands (All-head (λ x. x.served ≢ Memory) c cs n)) (answered_all p.0 after cs p.2 (All-tail (λ x. x.served ≢ Memory) c cs n))

fourth : (a b c d u v w x : List ℕ) (xs : List (List ℕ)) → xs ≡ a ∷ b ∷ c ∷ d ∷ [] → xs ≡ u ∷ v ∷ w ∷ x ∷ [] → d ≡ x
fourth a b c d u v w x xs e f = cc

second : (a b c d u v w x : List ℕ) (xs : List (List ℕ)) → xs ≡ a ∷ b ∷ c ∷ d ∷ [] → xs ≡ u ∷ v ∷ w ∷ x ∷ [] → b ≡ v
second a b c d u v w x xs e f = cc

same_address : (words : List (List ℕ)) (a b : List ℕ) (m n : ℕ) → AsksToServe words a m → AsksToServe words b n → a ≡ b
same_address words a b m n p q = second (codes "--serve") a (codes "--count") (decimal m) (codes "--serve") b (codes "--count") (decimal n) words p.0 q.0

same_count : (words : List (List ℕ)) (a b : List ℕ) (m n : ℕ) → AsksToServe words a m → AsksToServe words b n → m ≡ n
same_count words a b m n p q =
    decimal_injective m n (omega (arith, p.3)) (omega (arith, q.3)) (fourth (codes "--serve") a (codes "--count") (decimal m) (codes "--serve") b (codes "--count") (decimal n) words p.0 q.0)

not_broken : (before after : DoorOf) → DoorBreaks before after 0 → ⊥
not_broken before after (inl e) = omega (arith, e.0)
not_broken before after (inr e) = omega (arith, e.0)

pub all_answered : (before after : World) (door door_after : DoorOf) (words : List (List ℕ)) (address : List ℕ) (count : ℕ) → Ran before after door door_after words 0 → AsksToServe words address count
    → (connections : List Connection) × Passed (opened address door) door_after connections × (length connections ≡ count) × All (λ c. c.back.faults ≡ 0 → (c.served ≡ Answered) ⊎ (c.served ≡ BadFrame)) connections
all_answered before after door door_after words address count (inr r) a = absurd (r.0 address count a)
all_answered before after door door_after words address count (inl r) a = elim r.4 [
  | inl s ↦ (s.connections, subst (λ a. Passed (opened a door) door_after s.connections) (same_address words r.0 address r.1 count r.2 a) s.passed, s.all ∙ same_count words r.0 address r.1 count r.2 a, elim s.exit_is [ inl n ↦ answered_all (opened r.0 door) door_after s.connections s.passed n.1 | inr m ↦ absurd (omega (arith, m.0)) ])
  | inr (inl s) ↦ absurd (not_broken s.middle door_after s.breaks)
  | inr (inr s) ↦ absurd (not_broken door door_after s.breaks)
]

-- words that ask to serve ask for no file
asks_one : (words : List (List ℕ)) (hinted : Bool) (conflicts : Option ℕ) (file address : List ℕ) (count : ℕ) → Asks words hinted conflicts file → AsksToServe words address count → ⊥
asks_one words false None file address count a s = omega (arith, ap length a, ap length s.0)
asks_one words false (Some n) file address count a s = omega (arith, ap length a.0, ap length s.0)
asks_one words true conflicts file address count a s = other a.0 (sym a.1 ∙ s.0)
  where
    other : (rest : List (List ℕ)) → codes "--hints" ∷ rest ≡ codes "--serve" ∷ address ∷ codes "--count" ∷ decimal count ∷ [] → ⊥
    other rest e = let third : 104 ≡ 115 = ap (λ (ws : List (List ℕ)). get_or (get_or ws 0 []) 2 0) e in omega (arith, third)

pub file_asked : (before after : World) (door door_after : DoorOf) (words : List (List ℕ)) (exit : ℕ) (hinted : Bool) (conflicts : Option ℕ) (file : List ℕ) → Ran before after door door_after words exit → Asks words hinted conflicts file
    → (door_after ≡ door) × Did before after words exit
file_asked before after door door_after words exit hinted conflicts file (inr r) a = (r.1, r.2)
file_asked before after door door_after words exit hinted conflicts file (inl r) a = absurd (asks_one words hinted conflicts file r.0 r.1 a r.2)
