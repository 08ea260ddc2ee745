-- The printed form of a design is a file's text.
use Rattle.std.proofs.Common.{◌≡◌, ℕ, suc, ◌+◌, ◌<◌, ◌≤◌, Bool, true, false, cond, List, [], ◌∷◌, ◌++◌, map, length, Option, Some, refl, sym, ap, ◌∙◌, subst, append-nil, append_assoc, arith, bytes_eq}
use Rattle.std.specs.Prelude.{codes, ◌==◌, flat_map, slice_get, All}
use Rattle.std.specs.List.{AllByRecursion, IsDistinct}
use Rattle.std.proofs.lemmas.Bool.{eq-eqb, eqb-true, eqb-false, ne_eqb}
use Rattle.std.proofs.lemmas.List.{length-append}
use Rattle.std.proofs.lemmas.List.Elements.{All-head, All-tail, filter-append, recursion_from_All}
use Rattle.rtlil_constant.specs.Constants.{Word}
use Rattle.design_core.specs.Shape.{WireOf, CellOf, ConnectOf, DesignOf, IsWire, IsCellOf, IsConnectOf, IsFileOrder, wire_bits}
use Rattle.design_reader.specs.Grammar.{most_bits, new_draft}
use Rattle.reader_law.specs.FileTexts.{IsModuleText, IsFileText}
use Rattle.reader_law.specs.FileTexts.IsFileLines.{no_line}
use Rattle.reader_law.specs.FileTexts.IsModuleText.{name_line}
use Rattle.std.proofs.lemmas.Grind.{flat_map-append}
use Rattle.reader_law.specs.Printed.{Line, cell_lines, connect_line, connects_after, items_after, wire_lines, design_words, cell_numbers, connect_numbers, IsIdentifier, IsPrintableCell, IsPrintable}
use Rattle.reader_law.proofs.Steps.{AreNamed, Next, all_join, all_parts, are_named, next_range, next_rises, next_split}
use Rattle.reader_law.proofs.CellWords.{HasBits, HasShort, connect_lines, fresh_name, words_in}
use Rattle.reader_law.proofs.PrintedParts.{IsPrintableWire, cell_module, connects_module, filled, wires_module}

abbrev Connects : Type 0
Connects = List ConnectOf

-- ---- connects by their places

-- those in front that stand after n cells, and the others
here : ℕ → Connects → Connects
here n [] = []
here n (j ∷ js) = cond (j.cells_before == n) (j ∷ here n js) []

later : ℕ → Connects → Connects
later n [] = []
later n (j ∷ js) = cond (j.cells_before == n) (later n js) (j ∷ js)

here_later : (n : ℕ) (js : Connects) → here n js ++ later n js ≡ js
unfolding here later
here_later n [] = refl
here_later n (j ∷ js) =
    elim (j.cells_before == n) as (λ (v : Bool). cond v (j ∷ here n js) [] ++ cond v (later n js) (j ∷ js) ≡ j ∷ js) [
      | true ↦ ap (λ (x : Connects). j ∷ x) (here_later n js)
      | false ↦ refl
    ]

-- from n on, and never falling
Rising : ℕ → Connects → Type 0
Rising n [] = Unit {0}
Rising n (j ∷ js) = (n ≤ j.cells_before) × Rising j.cells_before js

rising_lower : (n m : ℕ) (js : Connects) → n ≤ m → Rising m js → Rising n js
unfolding Rising
rising_lower n m [] h r = tt
rising_lower n m (j ∷ js) h r = (omega (arith, r.0), r.1)

none_here : (n m : ℕ) (js : Connects) → n < m → Rising m js → connects_after n js ≡ []
unfolding Rising
none_here n m [] h r = refl
none_here n m (j ∷ js) h r =
    let e : (j.cells_before == n) ≡ false = ne_eqb j.cells_before n (λ k. omega (arith, r.0)) in
    rw e (none_here n j.cells_before js (omega (arith, r.0)) r.1)

all_here : (n : ℕ) (js : Connects) → Rising n js → connects_after n js ≡ here n js
unfolding Rising here
all_here n [] r = refl
all_here n (j ∷ js) r =
    elim (j.cells_before == n) as (λ (v : Bool). (j.cells_before == n) ≡ v → cond v (j ∷ connects_after n js) (connects_after n js) ≡ cond v (j ∷ here n js) []) [
      | true ↦ λ e. let same : j.cells_before ≡ n = eqb-true j.cells_before n e in ap (λ (x : Connects). j ∷ x) (all_here n js (subst (λ (k : ℕ). Rising k js) same r.1))
      | false ↦ λ e. none_here n j.cells_before js (omega (arith, r.0, eqb-false j.cells_before n e)) r.1
    ] refl

none_done : (n : ℕ) (js : Connects) → AllByRecursion (λ j. j.cells_before < n) js → connects_after n js ≡ []
none_done n [] h = refl
none_done n (j ∷ js) h = let e : (j.cells_before == n) ≡ false = ne_eqb j.cells_before n (λ k. omega (arith, h.0)) in rw e (none_done n js h.1)

after_is : (n : ℕ) (done left : Connects) → AllByRecursion (λ j. j.cells_before < n) done → Rising n left → connects_after n (done ++ left) ≡ here n left
after_is n done left h r =
    filter-append (λ (j : ConnectOf). j.cells_before == n) done left
    ∙ ap (λ (x : Connects). x ++ connects_after n left) (none_done n done h)
    ∙ all_here n left r

rising_later : (n : ℕ) (js : Connects) → Rising n js → Rising (n + 1) (later n js)
unfolding Rising later
rising_later n [] r = tt
rising_later n (j ∷ js) r =
    elim (j.cells_before == n) as (λ (v : Bool). (j.cells_before == n) ≡ v → Rising (n + 1) (cond v (later n js) (j ∷ js))) [
      | true ↦ λ e. rising_later n js (rising_lower n j.cells_before js r.0 r.1)
      | false ↦ λ e. (omega (arith, r.0, eqb-false j.cells_before n e), r.1)
    ] refl

here_at : (n : ℕ) (js : Connects) → AllByRecursion (λ j. j.cells_before ≡ n) (here n js)
unfolding here
here_at n [] = tt
here_at n (j ∷ js) =
    elim (j.cells_before == n) as (λ (v : Bool). (j.cells_before == n) ≡ v → AllByRecursion (λ (i : ConnectOf). i.cells_before ≡ n) (cond v (j ∷ here n js) [])) [
      | true ↦ λ e. (eqb-true j.cells_before n e, here_at n js)
      | false ↦ λ e. tt
    ] refl

last_here : (n : ℕ) (js : Connects) → Rising n js → AllByRecursion (λ j. j.cells_before ≤ n) js → here n js ≡ js
unfolding Rising here
last_here n [] r h = refl
last_here n (j ∷ js) r h =
    let e : (j.cells_before == n) ≡ true = eq-eqb j.cells_before n (omega (arith, r.0, h.0)) in
    rw e (ap (λ (x : Connects). j ∷ x) (last_here n js (rising_lower n j.cells_before js r.0 r.1) h.1))

all_turned : {X : Type 0} (P Q : X → Type 0) (xs : List X) → ((x : X) → P x → Q x) → AllByRecursion P xs → AllByRecursion Q xs
all_turned P Q [] f h = tt
all_turned P Q (x ∷ xs) f h = (f x h.0, all_turned P Q xs f h.1)

-- ---- cells and connects

abbrev lines_after : List WireOf → ℕ → List CellOf → Connects → List Line
lines_after wires n cells connects = items_after (cell_lines wires) (λ j. connect_line wires j ∷ []) n cells connects

abbrev numbers_after : ℕ → List CellOf → Connects → List ℕ
numbers_after n cells connects = items_after cell_numbers connect_numbers n cells connects

abbrev cell_names : List CellOf → List Word
cell_names cells = map (λ c. c.name) cells

-- what is true where these cells and connects come next, with free bits up to m
record IsBody (d : DesignOf) (names : List Word) (cells : List CellOf) (connects : Connects) (m total : ℕ) : Type 0 where
  named : AreNamed d.wires
  room : wire_bits d + m ≤ most_bits
  done : AllByRecursion (λ j. j.cells_before < length d.cells) d.connects
  rising : Rising (length d.cells) connects
  last : AllByRecursion (λ j. j.cells_before ≤ length d.cells + length cells) connects
  connected : AllByRecursion (IsConnectOf d.wires total) connects
  bits : AllByRecursion HasBits connects
  cells_are : AllByRecursion (IsCellOf d.wires total) cells
  printable : AllByRecursion IsPrintableCell cells
  short : AllByRecursion HasShort cells
  apart : IsDistinct bytes_eq (names ++ cell_names cells)

module_same : (ws vs : Line) (d e : DesignOf) (names others : List Word) → ws ≡ vs → d ≡ e → names ≡ others → IsModuleText ws d names → IsModuleText vs e others
module_same ws vs d e names others a b c p =
    subst (λ (x : List Word). IsModuleText vs e x) c (subst (λ (x : DesignOf). IsModuleText vs x names) b (subst (λ (x : Line). IsModuleText x d names) a p))

filled_same : (d : DesignOf) (cells others : List CellOf) (connects more : Connects) (m : ℕ) → cells ≡ others → connects ≡ more → filled d cells connects m ≡ filled d others more m
filled_same d cells others connects more m a b = rw (a, b) refl

body_module : (ws : Line) (d : DesignOf) (names : List Word) (cells : List CellOf) (connects : Connects) (m total : ℕ) → IsModuleText ws d names → IsBody d names cells connects m total
    → Next d.free (numbers_after (length d.cells) cells (d.connects ++ connects)) m
    → IsModuleText (ws ++ words_in (lines_after d.wires (length d.cells) cells (d.connects ++ connects))) (filled d (d.cells ++ cells) (d.connects ++ connects) m) (names ++ cell_names cells)
body_module ws d names [] connects m total p b next =
    let n = length d.cells in
    let whole : here n connects ≡ connects = last_here n connects b.rising (all_turned (λ (j : ConnectOf). j.cells_before ≤ n + 0) (λ (j : ConnectOf). j.cells_before ≤ n) connects (λ j h. omega arith) b.last) in
    let all : connects_after n (d.connects ++ connects) ≡ connects = after_is n d.connects connects b.done b.rising ∙ whole in
    let at : AllByRecursion (λ j. j.cells_before ≡ n) connects = subst (λ (x : Connects). AllByRecursion (λ (j : ConnectOf). j.cells_before ≡ n) x) whole (here_at n connects) in
    let numbers : Next d.free (flat_map connect_numbers connects) m = subst (λ (x : Connects). Next d.free (flat_map connect_numbers x) m) all next in
    module_same (ws ++ words_in (connect_lines d.wires connects)) (ws ++ words_in (lines_after d.wires n [] (d.connects ++ connects))) (filled d d.cells (d.connects ++ connects) m) (filled d (d.cells ++ []) (d.connects ++ connects) m) names (names ++ [])
    (ap (λ (x : Connects). ws ++ words_in (connect_lines d.wires x)) (sym all)) (filled_same d d.cells (d.cells ++ []) (d.connects ++ connects) (d.connects ++ connects) m (sym (append-nil d.cells)) refl) (sym (append-nil names))
    (connects_module ws d names connects m total p b.named b.connected b.bits at numbers b.room)
body_module ws d names (c ∷ cells) connects m total p b next =
    let n = length d.cells in
    let wires = d.wires in
    let front = here n connects in
    let back = later n connects in
    let all : Connects = d.connects ++ connects in
    let parts : front ++ back ≡ connects = here_later n connects in
    let now : connects_after n all ≡ front = after_is n d.connects connects b.done b.rising in
    let behind = numbers_after (n + 1) cells all in
    let split = next_split d.free m (flat_map connect_numbers front) (cell_numbers c ++ behind) (subst (λ (x : Connects). Next d.free (flat_map connect_numbers x ++ (cell_numbers c ++ behind)) m) now next) in
    let k = split.0 in
    let split_cell = next_split k m (cell_numbers c) behind split.2 in
    let q = split_cell.0 in
    let k_low : k ≤ m = next_rises k m _ split.2 in
    let q_low : q ≤ m = next_rises q m _ split_cell.2 in
    let first = filled d d.cells (d.connects ++ front) k in
    let second = filled d (d.cells ++ c ∷ []) (d.connects ++ front) q in
    let connected = all_parts (IsConnectOf wires total) front back (subst (λ (x : Connects). AllByRecursion (IsConnectOf wires total) x) (sym parts) b.connected) in
    let has_bits = all_parts HasBits front back (subst (λ (x : Connects). AllByRecursion HasBits x) (sym parts) b.bits) in
    let lasts = all_parts (λ (j : ConnectOf). j.cells_before ≤ n + length (c ∷ cells)) front back (subst (λ (x : Connects). AllByRecursion (λ (j : ConnectOf). j.cells_before ≤ n + length (c ∷ cells)) x) (sym parts) b.last) in
    let count : n + 1 ≡ length (d.cells ++ c ∷ []) = omega (arith, length-append d.cells (c ∷ [])) in
    let regrouped : all ≡ (d.connects ++ front) ++ back = sym (append_assoc d.connects front back ∙ ap (λ (x : Connects). d.connects ++ x) parts) in
    let apart : (names ++ c.name ∷ []) ++ cell_names cells ≡ names ++ c.name ∷ cell_names cells = append_assoc names (c.name ∷ []) (cell_names cells) in
    let at_first : AllByRecursion (λ j. j.cells_before < n + 1) (d.connects ++ front) =
    all_join (λ (j : ConnectOf). j.cells_before < n + 1) d.connects front
    (all_turned (λ (j : ConnectOf). j.cells_before < n) (λ (j : ConnectOf). j.cells_before < n + 1) d.connects (λ j h. omega arith) b.done)
    (all_turned (λ (j : ConnectOf). j.cells_before ≡ n) (λ (j : ConnectOf). j.cells_before < n + 1) front (λ j h. omega arith) (here_at n connects)) in
    let body : IsBody second (names ++ c.name ∷ []) cells back m total = record {
      named = b.named;
      room = b.room;
      done = subst (λ (x : ℕ). AllByRecursion (λ (j : ConnectOf). j.cells_before < x) (d.connects ++ front)) count at_first;
      rising = subst (λ (x : ℕ). Rising x back) count (rising_later n connects b.rising);
      last = all_turned (λ (j : ConnectOf). j.cells_before ≤ n + length (c ∷ cells)) (λ (j : ConnectOf). j.cells_before ≤ length (d.cells ++ c ∷ []) + length cells) back (λ j h. omega (arith, count)) lasts.1;
      connected = connected.1;
      bits = has_bits.1;
      cells_are = b.cells_are.1;
      printable = b.printable.1;
      short = b.short.1;
      apart = subst (λ (x : List Word). IsDistinct bytes_eq x) (sym apart) b.apart;
    } in
    let numbers : Next q (numbers_after (length (d.cells ++ c ∷ [])) cells ((d.connects ++ front) ++ back)) m =
    subst (λ (x : Connects). Next q (numbers_after (length (d.cells ++ c ∷ [])) cells x) m) regrouped (subst (λ (x : ℕ). Next q (numbers_after x cells all) m) count split_cell.2) in
    let us = words_in (connect_lines wires front) in
    let vs = words_in (cell_lines wires c) in
    let lines = lines_after wires (n + 1) cells all in
    let xs = words_in (lines_after wires (length (d.cells ++ c ∷ [])) cells ((d.connects ++ front) ++ back)) in
    let to_cell = connects_module ws d names front k total p b.named connected.0 has_bits.0 (here_at n connects) split.1 (omega (arith, b.room)) in
    let past_cell = cell_module (ws ++ us) first names c q total to_cell b.named b.cells_are.0 b.printable.0 b.short.0 (fresh_name names c.name (cell_names cells) b.apart) split_cell.1 (omega (arith, b.room)) in
    let ended : words_in lines ≡ xs = ap (λ (x : ℕ). words_in (lines_after wires x cells all)) count ∙ ap (λ (x : Connects). words_in (lines_after wires (length (d.cells ++ c ∷ [])) cells x)) regrouped in
    let words : ((ws ++ us) ++ vs) ++ xs ≡ ws ++ words_in (connect_lines wires (connects_after n all) ++ (cell_lines wires c ++ lines)) =
    append_assoc (ws ++ us) vs xs
    ∙ append_assoc ws us (vs ++ xs)
    ∙ ap (λ (x : List Word). ws ++ (us ++ (vs ++ x))) (sym ended)
    ∙ ap (λ (x : List Word). ws ++ (us ++ x)) (sym (flat_map-append (λ (l : Line). l) (cell_lines wires c) lines))
    ∙ ap (λ (x : List Word). ws ++ x) (sym (flat_map-append (λ (l : Line). l) (connect_lines wires front) (cell_lines wires c ++ lines)))
    ∙ ap (λ (x : Connects). ws ++ words_in (connect_lines wires x ++ (cell_lines wires c ++ lines))) (sym now) in
    module_same (((ws ++ us) ++ vs) ++ xs) (ws ++ words_in (lines_after wires n (c ∷ cells) all)) (filled second ((d.cells ++ c ∷ []) ++ cells) ((d.connects ++ front) ++ back) m) (filled d (d.cells ++ c ∷ cells) all m)
    ((names ++ c.name ∷ []) ++ cell_names cells) (names ++ cell_names (c ∷ cells)) words
    (filled_same d ((d.cells ++ c ∷ []) ++ cells) (d.cells ++ c ∷ cells) ((d.connects ++ front) ++ back) all m (append_assoc d.cells (c ∷ []) cells) (sym regrouped)) apart
    (body_module ((ws ++ us) ++ vs) second (names ++ c.name ∷ []) cells back m total past_cell body numbers)

-- ---- the module

pub named_wires : (d : DesignOf) → IsPrintable d → AreNamed d.wires
named_wires d p = are_named d.wires p.wires p.one_wire (omega (arith, p.few_bits))

wires_fine : (ws : List WireOf) → All IsWire ws → All (λ w. IsIdentifier w.name) ws → AllByRecursion IsPrintableWire ws
wires_fine [] h k = tt
wires_fine (w ∷ ws) h k =
    let is = All-head IsWire w ws h in
    let short = recursion_from_All (λ (s : List (Option Bool)). length s ≤ w.width) w.inits is.1 in
    (record { name = All-head (λ (x : WireOf). IsIdentifier x.name) w ws k; some = is.0; short = short }, wires_fine ws (All-tail IsWire w ws h) (All-tail (λ (x : WireOf). IsIdentifier x.name) w ws k))

Falling : Connects → Type 0
Falling js = (k l : ℕ) (i j : ConnectOf) → k ≤ l → slice_get js k ≡ Some i → slice_get js l ≡ Some j → i.cells_before ≤ j.cells_before

rising_from : (n : ℕ) (js : Connects) → ((k : ℕ) (j : ConnectOf) → slice_get js k ≡ Some j → n ≤ j.cells_before) → Falling js → Rising n js
unfolding Rising Falling
rising_from n [] low h = tt
rising_from n (j ∷ js) low h = (low 0 j refl, rising_from j.cells_before js (λ k i at. h 0 (suc k) j i (omega arith) refl at) (λ k l i q le a b. h (suc k) (suc l) i q (omega arith) a b))

in_order : (cells : ℕ) (js : Connects) → IsFileOrder cells js → Rising 0 js
unfolding Falling
in_order cells js h = rising_from 0 js (λ k j at. omega arith) h.1

pub printed_file : (d : DesignOf) → IsPrintable d → AllByRecursion HasShort d.cells → IsFileText (design_words d) d
printed_file d p few =
    let start = (new_draft d.name).design in
    let wired : DesignOf = record start { wires = d.wires } in
    let head : Line = codes "module" ∷ d.name ∷ [] in
    let us = words_in (flat_map wire_lines d.wires) in
    let items = lines_after d.wires 0 d.cells d.connects in
    let ending : List Line = (codes "end" ∷ []) ∷ [] in
    let numbers : Next 0 (numbers_after 0 d.cells d.connects) d.free = subst (λ (x : List ℕ). Next 0 x d.free) (sym p.numbers) (next_range 0 d.free d.free (omega arith)) in
    let body : IsBody wired [] d.cells d.connects d.free d.free = record {
      named = named_wires d p;
      room = p.few_bits;
      done = tt;
      rising = in_order (length d.cells) d.connects p.design.order;
      last = recursion_from_All (λ (j : ConnectOf). j.cells_before ≤ 0 + length d.cells) d.connects (λ k j lt. omega (arith, p.design.order.0 k j lt));
      connected = recursion_from_All (IsConnectOf d.wires d.free) d.connects p.design.connects;
      bits = recursion_from_All HasBits d.connects p.connects;
      cells_are = recursion_from_All (IsCellOf d.wires d.free) d.cells p.design.cells;
      printable = recursion_from_All IsPrintableCell d.cells p.cells;
      short = few;
      apart = p.one_cell;
    } in
    let regrouped : words_in (flat_map wire_lines d.wires ++ (items ++ ending)) ≡ us ++ (words_in items ++ codes "end" ∷ []) =
    flat_map-append (λ (l : Line). l) (flat_map wire_lines d.wires) (items ++ ending) ∙ ap (λ (x : List Word). us ++ x) (flat_map-append (λ (l : Line). l) items ending) in
    let with_wires = wires_module head start [] d.wires (name_line d.name p.name) (wires_fine d.wires p.design.wires p.wires) p.one_wire (omega (arith, p.few_bits)) in
    record {
      before = [];
      lines = (head ++ us) ++ words_in items;
      after = [];
      cells = cell_names d.cells;
      are = ap (λ (x : List Word). codes "module" ∷ d.name ∷ x) (regrouped ∙ sym (append_assoc us (words_in items) (codes "end" ∷ [])));
      is_before = no_line;
      is_module = body_module (head ++ us) wired [] d.cells d.connects d.free d.free with_wires body numbers;
      is_after = no_line;
    }
