use Rattle.std.proofs.Common.{rules, ◌≡◌, ◌∙◌, ◌*◌, ◌+◌, length, sym, arith}
use Rattle.gate_rows.proofs.Building.{Builds-trans, Builds-more, within_at, All-later}
use Rattle.gate_rows.proofs.Multiplying.{Product-none, Product-next, Product-row, places_fit}
use Rattle.gate_rows.proofs.products.mul.Goals as goal

pub loop-k-init : goal.loop-k-init
loop-k-init c = Product-none c.args.gates.now c.args.y c.args.a.now c.args.b.now c.in_ok-s.s.items c.in_ok-c.c.items c.in_ok-s.ensures c.in_ok-c.ensures

pub add_term-requires-clause-a : goal.add_term-requires-clause-a
add_term-requires-clause-a c = All-later c.args.gates.now.formula.vars c.loop-k.gates.formula.vars c.args.a.now c.loop-k.invariant.builds.continues.vars c.requires.a

pub add_term-requires-clause-bit : goal.add_term-requires-clause-bit
add_term-requires-clause-bit c = within_at c.args.gates.now.formula.vars c.loop-k.gates.formula.vars c.args.b.now c.loop-k.k c.index-b-k.result c.loop-k.invariant.builds.continues.vars c.requires.b (let e = c.requires.b_long in let h = c.loop-k-test.true in omega arith) c.index-b-k.is

pub loop-k-preserved : goal.loop-k-preserved
loop-k-preserved c =
    let term = rw (c.deref.ensures.value, c.deref-in-loop-k.ensures.value) at c.in_ok-t.ensures.term in
    Product-next c.args.gates.now c.loop-k.gates c.add_term.new.gates c.args.y c.args.a.now c.args.b.now c.loop-k.k c.loop-k.s.items c.loop-k.c.items _ _ c.index-b-k.result c.loop-k.invariant (let e = c.requires.b_long in let h = c.loop-k-test.true in omega arith) c.index-b-k.is term

pub returns-in_err-t-clause-builds : goal.returns-in_err-t-clause-builds
returns-in_err-t-clause-builds c = let h = c.loop-k-test.true in Builds-trans c.args.gates.now c.loop-k.gates c.add_term.new.gates (4 * c.args.y * c.loop-k.k) (4 * c.args.y) _ c.loop-k.invariant.builds c.add_term.ensures.builds (places_fit c.args.y c.loop-k.k h)

pub returns-in_err-t-clause-too_many : goal.returns-in_err-t-clause-too_many
returns-in_err-t-clause-too_many c = let h = places_fit c.args.y c.loop-k.k c.loop-k-test.true in let p = c.loop-k.invariant.builds.most in let q = c.loop-k.invariant.builds.continues.limit in search rules

pub returns-in_err-row-clause-builds : goal.returns-in_err-row-clause-builds
returns-in_err-row-clause-builds c =
    let e : c.loop-k.k ≡ c.args.y = let h = c.loop-k-test.false in omega arith in
    let n : length c.deref-2.result.now ≡ c.args.y = rw c.deref-2.ensures.value c.loop-k.invariant.s_long in
    Builds-trans c.args.gates.now c.loop-k.gates c.add.new.gates (4 * c.args.y * c.args.y) (3 * length c.deref-2.result.now) _ ((rw e at c.loop-k.invariant).builds) c.add.ensures.builds (omega arith)

pub returns-in_err-row-clause-too_many : goal.returns-in_err-row-clause-too_many
returns-in_err-row-clause-too_many c =
    let e : c.loop-k.k ≡ c.args.y = let h = c.loop-k-test.false in omega arith in
    let n : length c.deref-2.result.now ≡ c.args.y = rw c.deref-2.ensures.value c.loop-k.invariant.s_long in
    let b = (rw e at c.loop-k.invariant).builds.most in
    let q = c.loop-k.invariant.builds.continues.limit in
    search rules

pub returns-clause-builds : goal.returns-clause-builds
returns-clause-builds c =
    let e : c.loop-k.k ≡ c.args.y = let h = c.loop-k-test.false in omega arith in
    let n : length c.deref-2.result.now ≡ c.args.y = rw c.deref-2.ensures.value c.loop-k.invariant.s_long in
    Builds-trans c.args.gates.now c.loop-k.gates c.add.new.gates (4 * c.args.y * c.args.y) (3 * length c.deref-2.result.now) _ ((rw e at c.loop-k.invariant).builds) c.add.ensures.builds (omega arith)

pub returns-clause-row : goal.returns-clause-row
returns-clause-row c =
    let e : c.loop-k.k ≡ c.args.y = let h = c.loop-k-test.false in omega arith in
    let n = c.loop-k.invariant.s_long in
    let sum = rw (c.deref-2.ensures.value, c.deref-3.ensures.value, n) at c.in_ok-row.ensures.sum in
    Product-row c.args.gates.now c.loop-k.gates c.add.new.gates c.args.y c.args.a.now c.args.b.now c.loop-k.s.items c.loop-k.c.items c.in_ok-row.row.items c.constant-zero.result _ c.requires.b_long (rw e at c.loop-k.invariant) c.constant-zero.ensures.means sum
