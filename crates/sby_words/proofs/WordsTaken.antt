-- The words of a command line in which no fault is found are taken.
use Rattle.std.proofs.Common.{◌≡◌, ◌&&◌, ◌||◌, ◌==◌, ℕ, Bool, true, false, zero, suc, not, List, [], ◌∷◌, length, drop, Option, Some, None, is_some, refl, sym, ap, ap₂, arith, eqb-true, ◌∙◌}
use Rattle.std.specs.Prelude.{encode_utf8, if◌then◌else◌, nat_le, nat_lt, slice_get}
use Rattle.std.specs.List.{list_all}
use Rattle.std.specs.Option.{option_map_or}
use Rattle.std.specs.Str.{bytes_eq, chars}
use Rattle.std.proofs.lemmas.Bool.Decides.{nat_tests}
use Rattle.clap.specs.Facts.{unwrap_or_range}
use Rattle.clap.specs.Faults.{action_fault, bundle_step_fault, check_fault, count_fault, defaults_fault, entered_fault, fault_of, flag_word_fault, flags_fault, level_fault, long_fault, option_fault, other_fault, positional_fault, react_fault, repeat_fault, set_fault, settle_fault, short_fault, step_fault, stray_fault, turn_fault, use_fault, values_fault, walk_fault, word_fault}
use Rattle.clap.specs.Kinds.{Kinds, or_else, range_kinds}
use Rattle.clap.specs.Lexer.{long_of, short_of}
use Rattle.clap.specs.Simple.{Shape, built, entered, names_of}
use Rattle.clap.specs.Takes.{action_passes, bundle_step_passes, count_passes, default_passes, flag_word_passes, flags_pass, is_valid, level_passes, long_passes, option_passes, other_passes, positional_passes, react_passes, set_passes, settle_passes, short_passes, step_passes, takes, turn_passes, use_passes, value_passes, values_pass, walk_passes, word_passes}
use Rattle.clap.specs.Walk.{Held, Names, Row, Rule, Step, Text, Walk, action_of, arg_by_id, arg_by_index, arg_by_long, arg_by_short, attached_value, finished, has_row, is_pending, most_values, next, nothing_held, reacted, settled, subcommand, subcommand_met, takes_several, takes_values, trailing, value, values_or_missing, walk, walk_from, walked, word_met}
use Rattle.clap.specs.declared.builder.action.ArgAction.{ArgAction}
use Rattle.clap.specs.declared.builder.action.ArgAction.TheVariants as action
use Rattle.clap.specs.declared.error.kind.ErrorKind.{ErrorKind}
use Rattle.clap.specs.declared.error.kind.ErrorKind.TheVariants.{InvalidValue, TooFewValues, TooManyValues, WrongNumberOfValues}
use Rattle.clap.proofs.TakesLemmas.{leaf_takes}
use Rattle.sby_words.specs.Command.{command}

-- ---- what holds of lists of kinds

first_none : (a b : Kinds) → or_else a b ≡ [] → a ≡ []
first_none [] b e = refl
first_none (k ∷ ks) b e = e

next_none : (a b : Kinds) → or_else a b ≡ [] → b ≡ []
next_none [] b e = e
next_none (k ∷ ks) b e = cc

both_pass : (a b : Bool) → a ≡ true → b ≡ true → (a && b) ≡ true
both_pass a b p q = ap₂ (λ x y. x && y) p q

test_passes : (b : Bool) (k : ErrorKind) → (if b then [] else k ∷ []) ≡ [] → b ≡ true
test_passes true k e = refl
test_passes false k e = cc

-- a fault where the first test passes and the second doesn't
pair_passes : (x y : Bool) (k : ErrorKind) (ks : Kinds) → (if x && not y then k ∷ ks else []) ≡ [] → (not x || y) ≡ true
pair_passes false y k ks e = refl
pair_passes true true k ks e = refl
pair_passes true false k ks e = cc

-- no fault where the test passes
skip_passes : (b : Bool) (f : Kinds) (g : Bool) → (f ≡ [] → g ≡ true) → (if b then [] else f) ≡ [] → (b || g) ≡ true
skip_passes true f g h e = refl
skip_passes false f g h e = h e

some_passes : {X : Type 0} (f : X → Kinds) (g : X → Bool) → ((x : X) → f x ≡ [] → g x ≡ true)
    → (o : Option X) → option_map_or f o [] ≡ [] → option_map_or g o true ≡ true
some_passes f g h None e = refl
some_passes f g h (Some x) e = h x e

-- ---- one use of an argument

values_clear : (a : Rule) (vs : List Text) → values_fault a vs ≡ [] → values_pass a vs ≡ true
values_clear a [] e = refl
values_clear a (v ∷ vs) e = both_pass (value_passes a v) (values_pass a vs) (test_passes _ _ (first_none _ (values_fault a vs) e)) (values_clear a vs (next_none _ (values_fault a vs) e))

count_clear : (a : Rule) (vs : List Text) (rows : List Row) → count_fault a vs rows ≡ [] → count_passes a vs rows ≡ true
count_clear a [] rows e = test_passes _ _ e
count_clear a (v ∷ vs) rows e = values_clear a (v ∷ vs) e

set_clear : (again : Bool) (a : Rule) (vs : List Text) (rows : List Row) → set_fault again a vs rows ≡ [] → set_passes again a vs rows ≡ true
set_clear again a vs rows e = both_pass (not (has_row a.id rows) || again) (values_pass a vs)
    (pair_passes (has_row a.id rows) again _ _ (first_none (repeat_fault again a.id rows) (values_fault a vs) e))
    (values_clear a vs (next_none (repeat_fault again a.id rows) (values_fault a vs) e))

action_clear : (x : ArgAction) (again : Bool) (a : Rule) (vs : List Text) (rows : List Row) → action_fault x again a vs rows ≡ [] → action_passes x again a vs rows ≡ true
action_clear action.Set again a vs rows e = set_clear again a vs rows e
action_clear action.SetTrue again a vs rows e = set_clear again a vs rows e
action_clear action.SetFalse again a vs rows e = set_clear again a vs rows e
action_clear action.Append again a vs rows e = values_clear a vs e
action_clear action.Count again a vs rows e = count_clear a vs rows e
action_clear action.Help again a vs rows e = cc
action_clear action.HelpShort again a vs rows e = cc
action_clear action.HelpLong again a vs rows e = cc
action_clear action.Version again a vs rows e = cc

range_clear : (least most n : ℕ) → range_kinds least most n ≡ [] → (nat_le least n && nat_le n most) ≡ true
range_clear least most n e = go (nat_lt 0 least && n == 0) (least == most) (least == n) (nat_lt n least) (nat_lt most n) refl refl refl refl e
  where
    le_passes : (a b : ℕ) → nat_lt b a ≡ false → nat_le a b ≡ true
    le_passes a b p = grind (arith, nat_tests)

    eq_passes : (a b : ℕ) → (a == b) ≡ true → nat_le a b ≡ true
    eq_passes a b p = grind (arith, nat_tests)

    go : (none same exact few many : Bool) → (least == most) ≡ same → (least == n) ≡ exact → nat_lt n least ≡ few → nat_lt most n ≡ many
        → (if none then InvalidValue ∷ [] else (if same then (if exact then [] else WrongNumberOfValues ∷ [])
        else (if few then TooFewValues ∷ [] else (if many then TooManyValues ∷ [] else [])))) ≡ []
        → (nat_le least n && nat_le n most) ≡ true
    go true same exact few many s x f m e = cc
    go false true false few many s x f m e = cc
    go false true true few many s x f m e =
        let a : least ≡ most = eqb-true least most s in
        let b : least ≡ n = eqb-true least n x in
        both_pass (nat_le least n) (nat_le n most) (eq_passes least n x) (ap (λ k. nat_le k most) (sym b) ∙ eq_passes least most s)
    go false false exact true many s x f m e = cc
    go false false exact false true s x f m e = cc
    go false false exact false false s x f m e = both_pass (nat_le least n) (nat_le n most) (le_passes least n f) (le_passes n most m)

use_clear : (again : Bool) (a : Rule) (vs : List Text) (rows : List Row) → use_fault again a vs rows ≡ [] → use_passes again a vs rows ≡ true
use_clear again a vs rows e =
    let least = (unwrap_or_range a.range).start_inclusive in
    let used = action_fault (action_of a) again a (values_or_missing a vs) rows in
    let range = range_clear least (most_values a) (length vs) (first_none (range_kinds least (most_values a) (length vs)) used e) in
    let acted = action_clear (action_of a) again a (values_or_missing a vs) rows (next_none (range_kinds least (most_values a) (length vs)) used e) in
    go (nat_le least (length vs)) (nat_le (length vs) (most_values a)) _ range acted
  where
    go : (x y z : Bool) → (x && y) ≡ true → z ≡ true → (x && (y && z)) ≡ true
    go true true z p q = q
    go true false z p q = p
    go false y z p q = p

-- ---- the walk

settle_clear : (c : List Rule) (again : Bool) (h : Held) → settle_fault c again h ≡ [] → settle_passes c again h ≡ true
settle_clear c again h e = some_passes _ _ (λ (p : Text × List Text). some_passes _ _ (λ a. use_clear again a p.1 h.rows) (arg_by_id c p.0)) h.pending e

react_clear : (c : List Rule) (again : Bool) (a : Rule) (vs : List Text) (h : Held) → react_fault c again a vs h ≡ [] → react_passes c again a vs h ≡ true
react_clear c again a vs h e =
    let first = settle_fault c again h in
    let last = use_fault again a vs (settled c h).rows in
    both_pass (settle_passes c again h) (use_passes again a vs (settled c h).rows)
    (settle_clear c again h (first_none first last e)) (use_clear again a vs (settled c h).rows (next_none first last e))

option_clear : (c : List Rule) (again : Bool) (a : Rule) (v : Option Text) (h : Held) → option_fault c again a v h ≡ [] → option_passes c again a v h ≡ true
option_clear c again a (Some v) h e = react_clear c again a (v ∷ []) h e
option_clear c again a None h e = settle_clear c again h e

flag_clear : (c : List Rule) (again : Bool) (a : Rule) (k : ErrorKind) (has : Bool) (h : Held)
    → (if has then k ∷ [] else react_fault c again a [] h) ≡ [] → (not has && react_passes c again a [] h) ≡ true
flag_clear c again a k true h e = cc
flag_clear c again a k false h e = react_clear c again a [] h e

long_clear : (c : List Rule) (again : Bool) (o : Option Rule) (v : Option Text) (h : Held) → long_fault c again o v h ≡ [] → long_passes c again o v h ≡ true
long_clear c again None v h e = cc
long_clear c again (Some a) v h e = go (takes_values a) e
  where
    go : (b : Bool) → (if b then option_fault c again a v h else (if is_some v then TooManyValues ∷ [] else react_fault c again a [] h)) ≡ []
        → (if b then option_passes c again a v h else (not (is_some v) && react_passes c again a [] h)) ≡ true
    go true e = option_clear c again a v h e
    go false e = flag_clear c again a _ (is_some v) h e

short_clear : (c : List Rule) (again : Bool) (o : Option Rule) (rest : Text) (h : Held) (fault : Held → Kinds) (passes : Held → Bool)
    → ((g : Held) → fault g ≡ [] → passes g ≡ true) → short_fault c again o rest h fault ≡ [] → short_passes c again o rest h passes ≡ true
short_clear c again None rest h fault passes each e = cc
short_clear c again (Some a) rest h fault passes each e = go (takes_values a) e
  where
    go : (b : Bool) → (if b then option_fault c again a (attached_value rest) h else or_else (react_fault c again a [] h) (fault (reacted c a [] h))) ≡ []
        → (if b then option_passes c again a (attached_value rest) h else (react_passes c again a [] h && passes (reacted c a [] h))) ≡ true
    go true e = option_clear c again a (attached_value rest) h e
    go false e =
        let first = react_fault c again a [] h in
        let last = fault (reacted c a [] h) in
        both_pass (react_passes c again a [] h) (passes (reacted c a [] h)) (react_clear c again a [] h (first_none first last e)) (each (reacted c a [] h) (next_none first last e))

bundle_step_clear : (c : List Rule) (again : Bool) (x : Option ℕ) (flags : Text) (skip : ℕ) (h : Held) (fault : Text → ℕ → Held → Kinds) (passes : Text → ℕ → Held → Bool)
    → ((t : Text) (n : ℕ) (g : Held) → fault t n g ≡ [] → passes t n g ≡ true)
    → bundle_step_fault c again x flags skip h fault ≡ [] → bundle_step_passes c again x flags skip h passes ≡ true
bundle_step_clear c again None flags skip h fault passes each e = refl
bundle_step_clear c again (Some x) flags zero h fault passes each e =
    let rest = drop (length (encode_utf8 x)) flags in
    short_clear c again (arg_by_short c x) rest h (fault rest 0) (passes rest 0) (each rest 0) e
bundle_step_clear c again (Some x) flags (suc skip) h fault passes each e = each (drop (length (encode_utf8 x)) flags) skip h e

flags_clear : (c : List Rule) (again : Bool) (k : ℕ) (flags : Text) (skip : ℕ) (h : Held) → flags_fault c again k flags skip h ≡ [] → flags_pass c again k flags skip h ≡ true
unfolding flags_fault flags_pass
flags_clear c again zero flags skip h e = refl
flags_clear c again (suc k) flags skip h e =
    bundle_step_clear c again (slice_get (chars flags) 0) flags skip h (flags_fault c again k) (flags_pass c again k) (flags_clear c again k) e

flag_word_clear : (c : List Rule) (again : Bool) (long : Option (Text × Option Text)) (word : Text) (h : Held)
    → flag_word_fault c again long word h ≡ [] → flag_word_passes c again long word h ≡ true
flag_word_clear c again (Some p) word h e = long_clear c again (arg_by_long c p.0) p.1 h e
flag_word_clear c again None word h e =
    some_passes _ _ (λ (flags : Text). flags_clear c again (length flags) flags h.skip (record h { skip = 0 })) (short_of word) e

other_clear : (s : Shape) (name : Option Text) (word : Text) (h : Held) → other_fault s name word h ≡ [] → other_passes s name word h ≡ true
other_clear s (Some name) word h e = pair_passes _ s.disable_help_subcommand _ _ e
other_clear s None word h e = skip_passes (bytes_eq word (45 ∷ 45 ∷ [])) (flag_word_fault s.rules s.args_override_self (long_of word) word h) _
    (flag_word_clear s.rules s.args_override_self (long_of word) word h) e

step_clear : (s : Shape) (position : ℕ) (h : Held) (step : Step) → step_fault s position h step ≡ [] → step_passes s position h step ≡ true
step_clear s position h (next waiting) e = refl
step_clear s position h (trailing n) e = refl
step_clear s position h (subcommand name) e = refl
step_clear s position h value e = go (arg_by_index s.rules position) e
  where
    stray : (leaf : Bool) (k : ErrorKind) (ks ls : Kinds) → (if leaf then k ∷ ks else k ∷ ls) ≡ [] → false ≡ true
    stray true k ks ls e = cc
    stray false k ks ls e = cc

    go : (o : Option Rule) → option_map_or (λ a. positional_fault s.rules s.args_override_self a h) o (stray_fault s) ≡ []
        → option_map_or (λ a. positional_passes s.rules s.args_override_self a h) o false ≡ true
    go None e = stray s.is_leaf _ _ _ e
    go (Some a) e = skip_passes (is_pending a h.pending && takes_several a) (settle_fault s.rules s.args_override_self h) _ (settle_clear s.rules s.args_override_self h) e

turn_clear : (s : Shape) (names : Names) (w : Walk) (word : Text) → turn_fault s names w word ≡ [] → turn_passes s names w word ≡ true
turn_clear s names w word e =
    let met = word_met s.rules names w.is_trailing w.waiting w.position word w.held in
    let first = word_fault s names w.is_trailing w.waiting word w.held in
    let last = step_fault s w.position met.0 met.1 in
    let name = subcommand_met names w.waiting word in
    skip_passes (is_some w.stopped) (or_else first last) _
    (λ n. both_pass (word_passes s names w.is_trailing w.waiting word w.held) (step_passes s w.position met.0 met.1)
    (skip_passes w.is_trailing (other_fault s name word w.held) (other_passes s name word w.held) (other_clear s name word w.held) (first_none first last n))
    (step_clear s w.position met.0 met.1 (next_none first last n))) e

walk_clear : (s : Shape) (names : Names) (w : Walk) (words : List Text) → walk_fault s names w words ≡ [] → walk_passes s names w words ≡ true
unfolding walk_fault walk_passes
walk_clear s names w [] e = refl
walk_clear s names w (word ∷ rest) e =
    let first = turn_fault s names w word in
    let after = walked s.rules names w word in
    let last = walk_fault s names after rest in
    both_pass (turn_passes s names w word) (walk_passes s names after rest)
    (turn_clear s names w word (first_none first last e)) (walk_clear s names after rest (next_none first last e))

-- ---- the whole

level_clear : (s : Shape) (names : Names) (h : Held) (words : List Text) (has : Bool) (below : Kinds) → level_fault s names h words has below ≡ []
    → list_all default_passes s.rules ≡ true → ((rows : List Row) → is_valid s rows false ≡ true) → level_passes s names h words false ≡ true
level_clear s names h words has below e defaults valid =
    let end = (walk s.rules names h words).held in
    let before = walk_fault s names (walk_from h) words in
    let settling = settle_fault s.rules s.args_override_self end in
    let after = or_else (defaults_fault (settled s.rules end).rows s.rules) (check_fault s (finished s.rules end) has) in
    let clear : or_else settling after ≡ [] = next_none below (or_else settling after) (next_none before (or_else below (or_else settling after)) e) in
    both_pass (walk_passes s names (walk_from h) words) (settle_passes s.rules s.args_override_self end && (list_all default_passes s.rules && is_valid s (finished s.rules end) false))
    (walk_clear s names (walk_from h) words (first_none before (or_else below (or_else settling after)) e))
    (both_pass (settle_passes s.rules s.args_override_self end) (list_all default_passes s.rules && is_valid s (finished s.rules end) false)
    (settle_clear s.rules s.args_override_self end (first_none settling after clear))
    (both_pass (list_all default_passes s.rules) (is_valid s (finished s.rules end) false) defaults (valid (finished s.rules end))))

pub clear_is_taken : (words : List Text) → fault_of command words ≡ [] → takes command words ≡ true
clear_is_taken words e =
    let whole = built command in
    let stop = (walk whole.top.rules (names_of whole) nothing_held words).stopped in
    leaf_takes whole nothing_held words refl
    (level_clear whole.top [] nothing_held words (is_some (entered whole stop)) (entered_fault whole stop) e refl (λ rows. refl))

-- a walk that passes, of which the last argument passes too, is taken by this command
pub walk_level : (words : List Text) → walk_passes (built command).top [] (walk_from nothing_held) words ≡ true
    → settle_passes (built command).top.rules false (walk (built command).top.rules [] nothing_held words).held ≡ true → level_passes (built command).top [] nothing_held words false ≡ true
walk_level words passes ends =
    let end = (walk (built command).top.rules [] nothing_held words).held in
    let rest = is_valid (built command).top (finished (built command).top.rules end) false in
    both_pass (walk_passes (built command).top [] (walk_from nothing_held) words) (settle_passes (built command).top.rules false end && (list_all default_passes (built command).top.rules && rest)) passes
    (both_pass (settle_passes (built command).top.rules false end) (list_all default_passes (built command).top.rules && rest) ends refl)
