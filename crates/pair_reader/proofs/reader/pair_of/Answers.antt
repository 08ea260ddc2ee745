use Rattle.std.proofs.Common.{List, ℕ, ap, arith, length, subst, rules}
use Rattle.cnf_form.specs.Cnf.{LitOf, LitWithin}
use Rattle.pair_reader.specs.Bits.{AreBits}
use Rattle.pair_reader.proofs.reader.pair_of.Goals as goal

pub new-requires : goal.new-requires
new-requires c =
    let same = c.vars-vars.ensures.vars in
    let many = ap (λ (F : List (List LitOf)). length F) c.clauses.ensures.clauses in
    let each : AreBits c.vars-vars.result c.in-Some.lines.bits.items = search rules in
    record {
      vars = c.vars-vars.ensures.limit;
      count = omega (arith, c.len.ensures, many);
      clauses = c.clauses.ensures.within;
      start = subst (λ (v : ℕ). LitWithin v c.in-Some-read_named.start.lit) same c.in-Some-read_named.ensures.within;
      next = subst (λ (v : ℕ). LitWithin v c.in-Some-read_named-2.next.lit) same c.in-Some-read_named-2.ensures.within;
      bad = subst (λ (v : ℕ). LitWithin v c.in-Some-read_named-3.bad.lit) same c.in-Some-read_named-3.ensures.within;
      bits = search rules;
      first = λ n b e. (let is = each.each n b e in subst (λ (v : ℕ). LitWithin v b.first) same is.first);
      second = λ n b e. (let is = each.each n b e in subst (λ (v : ℕ). LitWithin v b.second) same is.second);
    }
