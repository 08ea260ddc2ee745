-- The faults and the contents of a file, line by line.
use Rattle.std.proofs.Common.{◌≡◌, ℕ, true, false, List, [], ◌∷◌, ◌++◌, Some, None, refl, ap, sym, ◌∙◌, length, ltb, ◌<◌, ◌≤◌, arith}
use Rattle.std.proofs.lemmas.Bool.Decides.{nat_tests}
use Rattle.std.specs.Prelude.{◌^◌}
use Rattle.sby_file.specs.Names.{has}
use Rattle.sby_file.specs.Meant.{meant}
use Rattle.sby_file.specs.Faults.{first, faults_of, lines_faults, faults_from, line_faults, at_line, seen_after, Seen, Declared, declared, has_tasks, declared_names}
use Rattle.sby_file.specs.Config.{ConfigOf, with_lines, with_line}
use Rattle.sby_file.specs.declared.walk.Placed.{Placed}
use Rattle.sby_file.specs.declared.fault.SbyFault.{SbyFault}
use Rattle.sby_file.specs.declared.fault.SbyKind.{SbyKind}
use Rattle.sby_file.specs.declared.fault.SbyKind.TheVariants as kind
use Rattle.sby_file.specs.declared.declaration.Declared as code

none_first : (ks : List SbyKind) → None ≡ first ks → ks ≡ []
none_first [] e = refl
none_first (k ∷ ks) e = cc

some_first : (ks : List SbyKind) (k : SbyKind) (number : ℕ) (more : List SbyFault) → Some k ≡ first ks → first (at_line number ks ++ more) ≡ Some (record { line = number; kind = k })
some_first [] k number more e = cc
some_first (j ∷ ks) k number more e = let s : j ≡ k = cc in ap (λ i. Some (record { line = number; kind = i })) s

-- a line without faults
pub faults_more : (d : Declared) (seen now : Seen) (all tail : List Placed) (p : Placed) (total : List SbyFault) → all ≡ p ∷ tail → None ≡ first (line_faults d seen p.section p.line tail)
    → now ≡ seen_after seen p.section p.line → faults_from d seen all ≡ total → faults_from d now tail ≡ total
faults_more d seen now all tail p total e n s h =
    let none = none_first (line_faults d seen p.section p.line tail) n in
    let start : at_line p.number (line_faults d seen p.section p.line tail) ++ faults_from d (seen_after seen p.section p.line) tail ≡ total = ap (faults_from d seen) (sym e) ∙ h in
    ap (λ t. faults_from d t tail) s ∙ (rw none at start)

-- the first line with one
pub fault_found : (d : Declared) (seen : Seen) (all tail : List Placed) (p : Placed) (k : SbyKind) (total : List SbyFault) → all ≡ p ∷ tail
    → Some k ≡ first (line_faults d seen p.section p.line tail) → faults_from d seen all ≡ total → first total ≡ Some (record { line = p.number; kind = k })
fault_found d seen all tail p k total e s h =
    let start : at_line p.number (line_faults d seen p.section p.line tail) ++ faults_from d (seen_after seen p.section p.line) tail ≡ total = ap (faults_from d seen) (sym e) ∙ h in
    ap first (sym start) ∙ some_first (line_faults d seen p.section p.line tail) k p.number (faults_from d (seen_after seen p.section p.line) tail) s

pub config_more : (old now : ConfigOf) (all tail : List Placed) (p : Placed) (total : ConfigOf) → all ≡ p ∷ tail → now ≡ with_line old p tail → with_lines old all ≡ total → with_lines now tail ≡ total
config_more old now all tail p total e n h = ap (λ c. with_lines c tail) n ∙ ap (with_lines old) (sym e) ∙ h

-- what the code keeps of the declarations is what the file declares
pub meant_is : (d : code.Declared) (ps : List Placed) → d.has_tasks ≡ has_tasks ps → ((name : List ℕ) → has d.names name ≡ has (declared_names ps) name) → meant d ≡ declared ps
meant_is d ps h k = λ i. record { has_tasks = h i; is_known = λ name. k name i }

-- a text of at most 2^24 bytes is read by its lines
pub read_by_lines : (bytes : List ℕ) → length bytes ≤ 2 ^ 24 → faults_of bytes ≡ lines_faults bytes
read_by_lines bytes h = let small : ltb (2 ^ 24) (length bytes) ≡ false = grind (arith, nat_tests) in rw small refl

-- a longer one isn't
pub read_by_size : (bytes : List ℕ) → 2 ^ 24 < length bytes → first (faults_of bytes) ≡ Some (record { line = 0; kind = kind.Limit })
read_by_size bytes h = let large : ltb (2 ^ 24) (length bytes) ≡ true = grind (arith, nat_tests) in rw large refl
