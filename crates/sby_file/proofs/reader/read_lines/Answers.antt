use Rattle.std.proofs.Common.{◌≡◌, [], ◌∷◌, Some, None, ap, sym, ◌∙◌, rules}
use Rattle.sby_file.specs.Placed.{placed}
use Rattle.sby_file.specs.Meant.{meant}
use Rattle.sby_file.specs.Faults.{first, faults_from, declared, nothing_seen, line_faults}
use Rattle.sby_file.specs.Config.{with_lines}
use Rattle.sby_file.proofs.Reading.{faults_more, fault_found, config_more, meant_is}
use Rattle.sby_file.proofs.reader.read_lines.Goals as goal

pub returns-in-Some-2-clause-fault : goal.returns-in-Some-2-clause-fault
returns-in-Some-2-clause-fault c =
    let lines = placed c.args.bytes.now in
    let d = c.in_ok-declared.declared in
    let same : meant d ≡ declared lines = meant_is d c.new.result c.in_ok-declared.ensures.tasks c.in_ok-declared.ensures.names ∙ ap declared c.new.ensures in
    let walk : c.lines.walk ≡ c.in-Some.placed ∷ c.next.new.self = rw c.in-Some.is at c.in_ok-placed.ensures in
    let kind = rw c.in-Some-2.is at c.in_ok-kind.ensures in
    ap (λ e. first (faults_from e nothing_seen lines)) (sym same)
    ∙ fault_found (meant d) c.lines.seen c.lines.walk c.next.new.self c.in-Some.placed c.in-Some-2.kind (faults_from (meant d) nothing_seen lines) walk kind c.lines.invariant.faults
    ∙ ap Some (sym c.fault_at.ensures)

pub lines-preserved : goal.lines-preserved
lines-preserved c =
    let d = c.in_ok-declared.declared in
    let walk : c.lines.walk ≡ c.in-Some.placed ∷ c.next.new.self = rw c.in-Some.is at c.in_ok-placed.ensures in
    let none : None ≡ first (line_faults (meant d) c.lines.seen c.in-Some.placed.section c.in-Some.placed.line c.next.new.self) = search rules in
    record {
      faults = faults_more (meant d) c.lines.seen c.note.new.self c.lines.walk c.next.new.self c.in-Some.placed _ walk none c.in_ok-note.ensures c.lines.invariant.faults;
      config = config_more c.lines.config c.add.new.self c.lines.walk c.next.new.self c.in-Some.placed _ walk c.in_ok-add.ensures c.lines.invariant.config;
    }

pub returns-clause-text : goal.returns-clause-text
returns-clause-text c =
    let lines = placed c.args.bytes.now in
    let d = c.in_ok-declared.declared in
    let same : meant d ≡ declared lines = meant_is d c.new.result c.in_ok-declared.ensures.tasks c.in_ok-declared.ensures.names ∙ ap declared c.new.ensures in
    let over : c.lines.walk ≡ [] = search rules in
    let none : faults_from (meant d) nothing_seen lines ≡ [] = sym c.lines.invariant.faults ∙ ap (faults_from (meant d) c.lines.seen) over in
    (ap (λ e. faults_from e nothing_seen lines) (sym same) ∙ none, sym (ap (with_lines c.lines.config) over) ∙ c.lines.invariant.config)
