use Rattle.std.proofs.Common.{◌≡◌, ◌+◌, List, length, sym, subst, ap, ◌∙◌, ℕ, arith}
use Rattle.std.proofs.lemmas.List.{length_push}
use Rattle.fz_ast.proofs.Arenas.{grows_refl, grows_trans}
use Rattle.fz_ast.specs.TypeNodes.{type_at, IsKnownType}
use Rattle.derivation_lines.specs.Interned.{AreNumbers, IsNumberOf}
use Rattle.derivation_lines.proofs.Numbered.{no_numbers, numbers_grow, one_number_more}
use Rattle.derivation_lines.proofs.interned.interned.Goals as goal

pub loop-i-preserved : goal.loop-i-preserved
loop-i-preserved c =
    let T = c.args.types.now in let U = c.loop-i.arena in let V = c.intern.new.self in
    let m = c.loop-i.numbers.items in let n = c.in_ok-number.number in
    let is = c.in_ok-number.ensures.is in
    let known : IsNumberOf V n (type_at T (length m)) = record { known = is.0; is = is.1 ∙ c.placed-form.ensures.is T U (rw c.deref.ensures.value c.loop-i.invariant.numbers) ∙ sym c.form.ensures.form ∙ ap (λ (k : ℕ). type_at T k) (sym c.loop-i.invariant.size) } in
    record {
      size = rw c.in_default.ensures.items (length_push m n ∙ ap (λ (k : ℕ). k + 1) c.loop-i.invariant.size);
      grows = grows_trans c.args.arena.now U V c.loop-i.invariant.grows c.in_ok-number.ensures.grows;
      numbers = rw c.in_default.ensures.items (one_number_more T V m n (numbers_grow T U V m c.in_ok-number.ensures.grows c.loop-i.invariant.numbers) known);
    }

pub loop-i-init : goal.loop-i-init
loop-i-init c = record {
  size = ap length c.new-numbers.ensures.items;
  grows = grows_refl c.args.arena.now;
  numbers = subst (λ (m : List ℕ). AreNumbers c.args.types.now c.args.arena.now m) (sym c.new-numbers.ensures.items) (no_numbers c.args.types.now c.args.arena.now);
}

pub returns-then-i-clause-grows : goal.returns-then-i-clause-grows
returns-then-i-clause-grows c = c.loop-i.invariant.grows

pub returns-then-i-clause-are : goal.returns-then-i-clause-are
returns-then-i-clause-are c = tt

pub placed-form-requires : goal.placed-form-requires
placed-form-requires c =
    subst (λ (m : List ℕ). IsKnownType (length m) c.form.result) (sym c.deref.ensures.value) (subst (λ (n : ℕ). IsKnownType n c.form.result) (sym c.loop-i.invariant.size) c.form.ensures.known)

pub intern-requires-clause-known : goal.intern-requires-clause-known
intern-requires-clause-known c =
    c.placed-form.ensures.known c.args.types.now c.loop-i.arena (subst (λ (m : List ℕ). AreNumbers c.args.types.now c.loop-i.arena m) (sym c.deref.ensures.value) c.loop-i.invariant.numbers)

pub returns-in_err-number-clause-grows : goal.returns-in_err-number-clause-grows
returns-in_err-number-clause-grows c = grows_trans c.args.arena.now c.loop-i.arena c.intern.new.self c.loop-i.invariant.grows c.in_err-number.ensures.grows

pub returns-in-Err-clause-grows : goal.returns-in-Err-clause-grows
returns-in-Err-clause-grows c = grows_trans c.args.arena.now c.loop-i.arena c.intern.new.self c.loop-i.invariant.grows c.in_ok-number.ensures.grows

pub returns-in-Err-clause-are : goal.returns-in-Err-clause-are
returns-in-Err-clause-are c = tt

pub returns-clause-grows : goal.returns-clause-grows
returns-clause-grows c = c.loop-i.invariant.grows

pub returns-clause-are : goal.returns-clause-are
returns-clause-are c =
    let all : length c.loop-i.numbers.items ≡ length c.args.types.now =
    let s = c.loop-i.invariant.size in let e = c.len-i-end.ensures in let a = c.loop-i.auto.i-end in let b = c.loop-i-test.false in omega (arith, s, e, a, b) in
    record { all = all; numbers = c.loop-i.invariant.numbers }
