-- Each form's answer from its parts' answers, and that each part is a smaller number.
use Rattle.std.proofs.Common.{◌∙◌, ap, arith, rules, List, length, sym, subst, ℤ, to_z, of_z, w64}
use Rattle.std.specs.Prelude.{Ok}
use Rattle.fz_frac.specs.Sens.{distance_of}
use Rattle.fz_frac.specs.declared.sens.Sens.{Sens}
use Rattle.fz_ast.proofs.Arenas.{grows_at, grows_known, grows_refl, grows_trans}
use Rattle.fz_ast.specs.Limits.{IsNumber, TypeLimits}
use Rattle.fz_ast.specs.Names.{name_of}
use Rattle.fz_ast.specs.TermNodes.{term_at, IsKnown}
use Rattle.fz_ast.specs.Terms.{span_of}
use Rattle.fz_ast.specs.TypeNodes.{type_at}
use Rattle.fz_ast.specs.Types.{Ty}
use Rattle.fz_ast.specs.declared.span.Span.{Span}
use Rattle.fz_ast.specs.declared.term.Form.{Form}
use Rattle.fz_ast.specs.declared.term.Form.TheVariants.{Var, Num, Text, Unit as One, Unary as Op, Binary as Op2, Times, Ranged as Bounded, Inject, Bang, Let, LetBang, LetPair, If, Case, Lambda}
use Rattle.linear_types.specs.Groups.{binary_rule, inject_rule, lambda_rule, ranged_rule, unary_rule}
use Rattle.linear_types.specs.Inferred.{Has, one_part, two_parts}
use Rattle.linear_types.specs.Places.{AreAlike, distances}
use Rattle.linear_types.specs.Rule.{bang_rule, case_rule, if_rule, let_bang_rule, let_pair_rule, let_rule, rule, times_rule}
use Rattle.linear_types.specs.Typing.{Context, Under}
use Rattle.typing_rows.specs.Says.{IsFaultOf, Says}
use Rattle.sensitivity_check.specs.Judging.{node_term}
use Rattle.sensitivity_check.specs.Scope.{context_in}
use Rattle.sensitivity_check.proofs.Binders.{BranchesSay, case_says, left_fault, let_bang_fault, let_bang_says, let_fault, let_pair_fault, let_pair_says, let_says, right_fault}
use Rattle.sensitivity_check.proofs.Judging.{first_fault, held, known_part, later_fault, limits_of, of_form, one_fault, one_says, passed, passed_two, range_limits, rule_binary, rule_inject, rule_lambda, rule_ranged, rule_unary, says_grows, says_known, second_fault, three_fault, three_say, two_fault, two_say}
use Rattle.sensitivity_check.proofs.Numbers.{written_grows}
use Rattle.sensitivity_check.proofs.Ready.{below_1, below_2, below_3, number_at, number_known, part_known, ready_grows, ready_under, written_bound}
use Rattle.sensitivity_check.proofs.Scopes.{context_grows, context_under}
use Rattle.sensitivity_check.proofs.judge.Walk.+judging.Goals as goal

pub judge_two-judge-requires : goal.judge_two-judge-requires
judge_two-judge-requires t c =
    (omega arith, (c.requires.a_known, c.requires.ready))

pub judge_two-judge-requires-2 : goal.judge_two-judge-requires-2
judge_two-judge-requires-2 t c =
    (omega arith, (c.requires.b_known, (ready_grows c.args.self.now.nodes.now c.args.arena.now c.judge.new.arena c.args.self.now.written.now c.args.scope.now c.in_ok-first.ensures.grows c.requires.ready)))

pub judge_two-returns-in_err-first : goal.judge_two-returns-in_err-first
judge_two-returns-in_err-first t c =
    record {
      grows = c.in_err-first.ensures.grows;
      says = passed_two c.judge.new.arena c.from_residual.result c.in_err-first.field-0.0 (rule (context_in c.args.arena.now c.args.scope.now) (term_at c.args.self.now.nodes.now.terms c.args.a)) (rule (context_in c.args.arena.now c.args.scope.now) (term_at c.args.self.now.nodes.now.terms c.args.b)) c.from_residual.ensures.1
          (first_fault c.judge.new.arena c.in_err-first.field-0.0 (rule (context_in c.args.arena.now c.args.scope.now) (term_at c.args.self.now.nodes.now.terms c.args.a)) (rule (context_in c.args.arena.now c.args.scope.now) (term_at c.args.self.now.nodes.now.terms c.args.b)) c.in_err-first.ensures.says);
    }

pub judge_two-returns-in_err-second : goal.judge_two-returns-in_err-second
judge_two-returns-in_err-second t c =
    record {
      grows = grows_trans c.args.arena.now c.judge.new.arena c.judge-2.new.arena c.in_ok-first.ensures.grows c.in_err-second.ensures.grows;
      says = passed_two c.judge-2.new.arena c.from_residual-in_err-second.result c.in_err-second.field-0.0 (rule (context_in c.args.arena.now c.args.scope.now) (term_at c.args.self.now.nodes.now.terms c.args.a)) (rule (context_in c.args.arena.now c.args.scope.now) (term_at c.args.self.now.nodes.now.terms c.args.b)) c.from_residual-in_err-second.ensures.1
          (second_fault c.judge.new.arena c.judge-2.new.arena c.in_ok-first.first c.in_err-second.field-0.0 (rule (context_in c.args.arena.now c.args.scope.now) (term_at c.args.self.now.nodes.now.terms c.args.a)) (rule (context_in c.args.arena.now c.args.scope.now) (term_at c.args.self.now.nodes.now.terms c.args.b)) c.in_ok-first.ensures.says
          (subst (λ (Γ : Context). IsFaultOf c.judge-2.new.arena c.in_err-second.field-0.0 (rule Γ (term_at c.args.self.now.nodes.now.terms c.args.b))) (context_grows c.args.arena.now c.judge.new.arena c.args.scope.now c.in_ok-first.ensures.grows c.requires.ready.scope) c.in_err-second.ensures.says));
    }

pub judge_two-returns : goal.judge_two-returns
judge_two-returns t c =
    record {
      grows = grows_trans c.args.arena.now c.judge.new.arena c.judge-2.new.arena c.in_ok-first.ensures.grows c.in_ok-second.ensures.grows;
      says = (
        says_grows c.judge.new.arena c.judge-2.new.arena c.in_ok-first.first (rule (context_in c.args.arena.now c.args.scope.now) (term_at c.args.self.now.nodes.now.terms c.args.a)) c.in_ok-second.ensures.grows c.in_ok-first.ensures.says,
        subst (λ (Γ : Context). Says c.judge-2.new.arena (Ok c.in_ok-second.second) (rule Γ (term_at c.args.self.now.nodes.now.terms c.args.b))) (context_grows c.args.arena.now c.judge.new.arena c.args.scope.now c.in_ok-first.ensures.grows c.requires.ready.scope) c.in_ok-second.ensures.says,
      );
    }

pub judge_under-judge-requires : goal.judge_under-judge-requires
judge_under-judge-requires t c =
    (omega arith, (c.requires.known, ready_under c.args.self.now.nodes.now c.args.arena.now c.args.self.now.written.now c.args.scope.now c.deref.result.now c.args.bound (c.deref.ensures.value ∙ c.in_ok-inner.ensures) c.requires.bound c.requires.ready))

pub judge_under-returns-in_err-inner : goal.judge_under-returns-in_err-inner
judge_under-returns-in_err-inner t c =
    record {
      grows = grows_refl c.args.arena.now;
      says = search rules;
    }

pub judge_under-returns : goal.judge_under-returns
judge_under-returns t c =
    record {
      grows = c.judge.ensures.grows;
      says = subst (λ (Γ : Context). Says c.judge.new.arena c.judge.result (rule Γ (term_at c.args.self.now.nodes.now.terms c.args.i))) (ap (context_in c.args.arena.now) (c.deref.ensures.value ∙ c.in_ok-inner.ensures)) c.judge.ensures.says;
    }

pub judge_unary-judge-requires : goal.judge_unary-judge-requires
judge_unary-judge-requires t c =
    (omega arith, (c.requires.e_known, c.requires.ready))

pub judge_unary-span-requires : goal.judge_unary-span-requires
judge_unary-span-requires t c =
    c.requires.e_known

pub judge_unary-returns-in_err-o : goal.judge_unary-returns-in_err-o
judge_unary-returns-in_err-o t c =
    record {
      grows = c.in_err-o.ensures.grows;
      says = λ s. rw (rule_unary (context_in c.args.arena.now c.args.scope.now) c.args.self.now.nodes.now s c.args.form c.args.e) (passed c.judge.new.arena c.from_residual.result c.in_err-o.field-0.0 _ c.from_residual.ensures.1
          (one_fault c.judge.new.arena c.in_err-o.field-0.0 (rule (context_in c.args.arena.now c.args.scope.now) (term_at c.args.self.now.nodes.now.terms c.args.e)) (unary_rule c.args.form (span_of (term_at c.args.self.now.nodes.now.terms c.args.e))) c.in_err-o.ensures.says));
    }

pub judge_unary-returns : goal.judge_unary-returns
judge_unary-returns t c =
    record {
      grows = grows_trans c.args.arena.now c.judge.new.arena c.unary.new.arena c.in_ok-o.ensures.grows c.unary.ensures.grows;
      says = λ s. rw (rule_unary (context_in c.args.arena.now c.args.scope.now) c.args.self.now.nodes.now s c.args.form c.args.e) (one_says c.judge.new.arena c.unary.new.arena c.in_ok-o.o c.unary.result (rule (context_in c.args.arena.now c.args.scope.now) (term_at c.args.self.now.nodes.now.terms c.args.e)) (unary_rule c.args.form (span_of (term_at c.args.self.now.nodes.now.terms c.args.e))) c.in_ok-o.ensures.says
          (λ D d. subst (λ (u : Span). Says c.unary.new.arena c.unary.result (unary_rule c.args.form u (type_at c.judge.new.arena c.in_ok-o.o.ty) D)) c.span.ensures (c.unary.ensures.says D d)));
    }

pub judge_unary-unary-requires : goal.judge_unary-unary-requires
judge_unary-unary-requires t c =
    record { o_known = says_known c.judge.new.arena c.in_ok-o.o (rule (context_in c.args.arena.now c.args.scope.now) (term_at c.args.self.now.nodes.now.terms c.args.e)) c.in_ok-o.ensures.says }

pub judge_binary-judge_two-requires : goal.judge_binary-judge_two-requires
judge_binary-judge_two-requires t c =
    (omega arith, (c.requires.a_known, (c.requires.b_known, c.requires.ready)))

pub judge_binary-span-u-requires : goal.judge_binary-span-u-requires
judge_binary-span-u-requires t c =
    c.requires.a_known

pub judge_binary-span-v-requires : goal.judge_binary-span-v-requires
judge_binary-span-v-requires t c =
    c.requires.b_known

pub judge_binary-returns-in_err-two : goal.judge_binary-returns-in_err-two
judge_binary-returns-in_err-two t c =
    record {
      grows = c.in_err-two.ensures.grows;
      says = rw (rule_binary (context_in c.args.arena.now c.args.scope.now) c.args.self.now.nodes.now c.args.s c.args.form c.args.a c.args.b) (passed c.judge_two.new.arena c.from_residual.result c.in_err-two.field-0.0 _ c.from_residual.ensures.1
          (two_fault c.judge_two.new.arena c.in_err-two.field-0.0 (rule (context_in c.args.arena.now c.args.scope.now) (term_at c.args.self.now.nodes.now.terms c.args.a)) (rule (context_in c.args.arena.now c.args.scope.now) (term_at c.args.self.now.nodes.now.terms c.args.b)) (binary_rule c.args.form c.args.s (span_of (term_at c.args.self.now.nodes.now.terms c.args.a)) (span_of (term_at c.args.self.now.nodes.now.terms c.args.b))) c.in_err-two.ensures.says));
    }

pub judge_binary-binary-requires-clause-o_known : goal.judge_binary-binary-requires-clause-o_known
judge_binary-binary-requires-clause-o_known t c =
    says_known c.judge_two.new.arena c.in_ok-two.two.first (rule (context_in c.args.arena.now c.args.scope.now) (term_at c.args.self.now.nodes.now.terms c.args.a)) c.in_ok-two.ensures.says.0

pub judge_binary-binary-requires-clause-p_known : goal.judge_binary-binary-requires-clause-p_known
judge_binary-binary-requires-clause-p_known t c =
    says_known c.judge_two.new.arena c.in_ok-two.two.second (rule (context_in c.args.arena.now c.args.scope.now) (term_at c.args.self.now.nodes.now.terms c.args.b)) c.in_ok-two.ensures.says.1

pub judge_binary-returns : goal.judge_binary-returns
judge_binary-returns t c =
    record {
      grows = grows_trans c.args.arena.now c.judge_two.new.arena c.binary.new.arena c.in_ok-two.ensures.grows c.binary.ensures.grows;
      says = rw (rule_binary (context_in c.args.arena.now c.args.scope.now) c.args.self.now.nodes.now c.args.s c.args.form c.args.a c.args.b, sym c.span-u.ensures, sym c.span-v.ensures)
          (two_say c.judge_two.new.arena c.binary.new.arena c.in_ok-two.two.first c.in_ok-two.two.second c.binary.result (rule (context_in c.args.arena.now c.args.scope.now) (term_at c.args.self.now.nodes.now.terms c.args.a)) (rule (context_in c.args.arena.now c.args.scope.now) (term_at c.args.self.now.nodes.now.terms c.args.b)) (binary_rule c.args.form c.args.s c.span-u.result c.span-v.result) c.in_ok-two.ensures.says.0 c.in_ok-two.ensures.says.1 c.binary.ensures.says);
    }

pub judge_times-judge-requires : goal.judge_times-judge-requires
judge_times-judge-requires t c =
    (omega arith, (c.requires.e_known, c.requires.ready))

pub judge_times-span-requires : goal.judge_times-span-requires
judge_times-span-requires t c =
    c.requires.e_known

pub judge_times-returns-in_err-o : goal.judge_times-returns-in_err-o
judge_times-returns-in_err-o t c =
    record {
      grows = c.in_err-o.ensures.grows;
      says = passed c.judge.new.arena c.from_residual.result c.in_err-o.field-0.0 _ c.from_residual.ensures.1
          (one_fault c.judge.new.arena c.in_err-o.field-0.0 (rule (context_in c.args.arena.now c.args.scope.now) (term_at c.args.self.now.nodes.now.terms c.args.e)) (times_rule c.args.s (span_of (term_at c.args.self.now.nodes.now.terms c.args.e)) c.args.k) c.in_err-o.ensures.says);
    }

pub judge_times-returns : goal.judge_times-returns
judge_times-returns t c =
    record {
      grows = grows_trans c.args.arena.now c.judge.new.arena c.times.new.arena c.in_ok-o.ensures.grows c.times.ensures.grows;
      says = one_says c.judge.new.arena c.times.new.arena c.in_ok-o.o c.times.result (rule (context_in c.args.arena.now c.args.scope.now) (term_at c.args.self.now.nodes.now.terms c.args.e)) (times_rule c.args.s (span_of (term_at c.args.self.now.nodes.now.terms c.args.e)) c.args.k) c.in_ok-o.ensures.says
          (λ D d. subst (λ (u : Span). Says c.times.new.arena c.times.result (times_rule c.args.s u c.args.k (type_at c.judge.new.arena c.in_ok-o.o.ty) D)) c.span.ensures
          (subst (λ (k : ℤ). Says c.times.new.arena c.times.result (times_rule c.args.s c.span.result k (type_at c.judge.new.arena c.in_ok-o.o.ty) D)) (held c.args.k c.requires.number) (c.times.ensures.says D d)));
    }

pub judge_times-times-requires : goal.judge_times-times-requires
judge_times-times-requires t c =
    record { o_known = says_known c.judge.new.arena c.in_ok-o.o (rule (context_in c.args.arena.now c.args.scope.now) (term_at c.args.self.now.nodes.now.terms c.args.e)) c.in_ok-o.ensures.says }

pub judge_ranged-judge-requires : goal.judge_ranged-judge-requires
judge_ranged-judge-requires t c =
    (omega arith, (c.requires.e_known, c.requires.ready))

pub judge_ranged-span-requires : goal.judge_ranged-span-requires
judge_ranged-span-requires t c =
    c.requires.e_known

pub judge_ranged-returns-in_err-o : goal.judge_ranged-returns-in_err-o
judge_ranged-returns-in_err-o t c =
    record {
      grows = c.in_err-o.ensures.grows;
      says = rw (rule_ranged (context_in c.args.arena.now c.args.scope.now) c.args.self.now.nodes.now c.args.s c.args.form c.args.lo c.args.hi c.args.e) (passed c.judge.new.arena c.from_residual.result c.in_err-o.field-0.0 _ c.from_residual.ensures.1
          (one_fault c.judge.new.arena c.in_err-o.field-0.0 (rule (context_in c.args.arena.now c.args.scope.now) (term_at c.args.self.now.nodes.now.terms c.args.e)) (ranged_rule c.args.form c.args.s (span_of (term_at c.args.self.now.nodes.now.terms c.args.e)) c.args.lo c.args.hi) c.in_err-o.ensures.says));
    }

pub judge_ranged-returns : goal.judge_ranged-returns
judge_ranged-returns t c =
    record {
      grows = grows_trans c.args.arena.now c.judge.new.arena c.ranged.new.arena c.in_ok-o.ensures.grows c.ranged.ensures.grows;
      says = rw (rule_ranged (context_in c.args.arena.now c.args.scope.now) c.args.self.now.nodes.now c.args.s c.args.form c.args.lo c.args.hi c.args.e) (one_says c.judge.new.arena c.ranged.new.arena c.in_ok-o.o c.ranged.result (rule (context_in c.args.arena.now c.args.scope.now) (term_at c.args.self.now.nodes.now.terms c.args.e)) (ranged_rule c.args.form c.args.s (span_of (term_at c.args.self.now.nodes.now.terms c.args.e)) c.args.lo c.args.hi) c.in_ok-o.ensures.says
          (λ D d. subst (λ (u : Span). Says c.ranged.new.arena c.ranged.result (ranged_rule c.args.form c.args.s u c.args.lo c.args.hi (type_at c.judge.new.arena c.in_ok-o.o.ty) D)) c.span.ensures
          (subst (λ (lo : ℤ). Says c.ranged.new.arena c.ranged.result (ranged_rule c.args.form c.args.s c.span.result lo c.args.hi (type_at c.judge.new.arena c.in_ok-o.o.ty) D)) (held c.args.lo c.requires.lo_number)
          (subst (λ (hi : ℤ). Says c.ranged.new.arena c.ranged.result (ranged_rule c.args.form c.args.s c.span.result (to_z w64 (of_z w64 c.args.lo)) hi (type_at c.judge.new.arena c.in_ok-o.o.ty) D)) (held c.args.hi c.requires.hi_number) (c.ranged.ensures.says D d)))));
    }

pub judge_ranged-ranged-requires : goal.judge_ranged-ranged-requires
judge_ranged-ranged-requires t c =
    record { o_known = says_known c.judge.new.arena c.in_ok-o.o (rule (context_in c.args.arena.now c.args.scope.now) (term_at c.args.self.now.nodes.now.terms c.args.e)) c.in_ok-o.ensures.says }

pub judge_inject-judge-requires : goal.judge_inject-judge-requires
judge_inject-judge-requires t c =
    (omega arith, (c.requires.e_known, c.requires.ready))

pub judge_inject-span-requires : goal.judge_inject-span-requires
judge_inject-span-requires t c =
    c.requires.e_known

pub judge_inject-returns-in_err-o : goal.judge_inject-returns-in_err-o
judge_inject-returns-in_err-o t c =
    record {
      grows = c.in_err-o.ensures.grows;
      says = λ s. rw (rule_inject (context_in c.args.arena.now c.args.scope.now) c.args.self.now.nodes.now s c.args.side c.args.u c.args.t c.args.e) (passed c.judge.new.arena c.from_residual.result c.in_err-o.field-0.0 _ c.from_residual.ensures.1
          (one_fault c.judge.new.arena c.in_err-o.field-0.0 (rule (context_in c.args.arena.now c.args.scope.now) (term_at c.args.self.now.nodes.now.terms c.args.e)) (inject_rule c.args.side c.args.u (type_at c.args.self.now.nodes.now.types c.args.t) (span_of (term_at c.args.self.now.nodes.now.terms c.args.e))) c.in_err-o.ensures.says));
    }

pub judge_inject-returns : goal.judge_inject-returns
judge_inject-returns t c =
    record {
      grows = grows_trans c.args.arena.now c.judge.new.arena c.inject.new.arena c.in_ok-o.ensures.grows c.inject.ensures.grows;
      says = λ s. rw (rule_inject (context_in c.args.arena.now c.args.scope.now) c.args.self.now.nodes.now s c.args.side c.args.u c.args.t c.args.e) (one_says c.judge.new.arena c.inject.new.arena c.in_ok-o.o c.inject.result (rule (context_in c.args.arena.now c.args.scope.now) (term_at c.args.self.now.nodes.now.terms c.args.e)) (inject_rule c.args.side c.args.u (type_at c.args.self.now.nodes.now.types c.args.t) (span_of (term_at c.args.self.now.nodes.now.terms c.args.e))) c.in_ok-o.ensures.says
          (λ D d. subst (λ (v : Span). Says c.inject.new.arena c.inject.result (inject_rule c.args.side c.args.u (type_at c.args.self.now.nodes.now.types c.args.t) v (type_at c.judge.new.arena c.in_ok-o.o.ty) D)) c.span.ensures
          (subst (λ (A : Ty). Says c.inject.new.arena c.inject.result (inject_rule c.args.side c.args.u A c.span.result (type_at c.judge.new.arena c.in_ok-o.o.ty) D)) (number_at c.args.self.now.nodes.now.types c.judge.new.arena c.args.self.now.written.now c.args.t c.arena_number.result c.arena_number.ensures (written_grows c.args.self.now.nodes.now.types c.args.arena.now c.judge.new.arena c.args.self.now.written.now c.in_ok-o.ensures.grows c.requires.ready.written) c.requires.t_known) (c.inject.ensures.says D d))));
    }

pub judge_inject-arena_number-requires : goal.judge_inject-arena_number-requires
judge_inject-arena_number-requires t c =
    written_bound c.args.self.now.nodes.now.types c.args.arena.now c.args.self.now.written.now c.args.t c.requires.ready.written c.requires.t_known

pub judge_inject-inject-requires-clause-o_known : goal.judge_inject-inject-requires-clause-o_known
judge_inject-inject-requires-clause-o_known t c =
    says_known c.judge.new.arena c.in_ok-o.o (rule (context_in c.args.arena.now c.args.scope.now) (term_at c.args.self.now.nodes.now.terms c.args.e)) c.in_ok-o.ensures.says

pub judge_inject-inject-requires-clause-t_known : goal.judge_inject-inject-requires-clause-t_known
judge_inject-inject-requires-clause-t_known t c =
    number_known c.args.self.now.nodes.now.types c.judge.new.arena c.args.self.now.written.now c.args.t c.arena_number.result c.arena_number.ensures (written_grows c.args.self.now.nodes.now.types c.args.arena.now c.judge.new.arena c.args.self.now.written.now c.in_ok-o.ensures.grows c.requires.ready.written) c.requires.t_known

pub judge_bang-judge-requires : goal.judge_bang-judge-requires
judge_bang-judge-requires t c =
    (omega arith, (c.requires.e_known, c.requires.ready))

pub judge_bang-returns-in_err-o : goal.judge_bang-returns-in_err-o
judge_bang-returns-in_err-o t c =
    record {
      grows = c.in_err-o.ensures.grows;
      says = passed c.judge.new.arena c.from_residual.result c.in_err-o.field-0.0 _ c.from_residual.ensures.1
          (one_fault c.judge.new.arena c.in_err-o.field-0.0 (rule (context_in c.args.arena.now c.args.scope.now) (term_at c.args.self.now.nodes.now.terms c.args.e)) (bang_rule c.args.s (distance_of c.args.r)) c.in_err-o.ensures.says);
    }

pub judge_bang-returns : goal.judge_bang-returns
judge_bang-returns t c =
    record {
      grows = grows_trans c.args.arena.now c.judge.new.arena c.bang.new.arena c.in_ok-o.ensures.grows c.bang.ensures.grows;
      says = one_says c.judge.new.arena c.bang.new.arena c.in_ok-o.o c.bang.result (rule (context_in c.args.arena.now c.args.scope.now) (term_at c.args.self.now.nodes.now.terms c.args.e)) (bang_rule c.args.s (distance_of c.args.r)) c.in_ok-o.ensures.says
          (c.bang.ensures.says);
    }

pub judge_bang-bang-requires-clause-o_known : goal.judge_bang-bang-requires-clause-o_known
judge_bang-bang-requires-clause-o_known t c =
    says_known c.judge.new.arena c.in_ok-o.o (rule (context_in c.args.arena.now c.args.scope.now) (term_at c.args.self.now.nodes.now.terms c.args.e)) c.in_ok-o.ensures.says

pub judge_bang-bang-requires-clause-bang : goal.judge_bang-bang-requires-clause-bang
judge_bang-bang-requires-clause-bang t c =
    c.requires.bang

pub judge_let-judge-requires : goal.judge_let-judge-requires
judge_let-judge-requires t c =
    (omega arith, (c.requires.e_known, c.requires.ready))

pub judge_let_bang-judge-requires : goal.judge_let_bang-judge-requires
judge_let_bang-judge-requires t c =
    (omega arith, (c.requires.e_known, c.requires.ready))

pub judge_let_pair-judge-requires : goal.judge_let_pair-judge-requires
judge_let_pair-judge-requires t c =
    (omega arith, (c.requires.e_known, c.requires.ready))

pub judge_if-judge-requires : goal.judge_if-judge-requires
judge_if-judge-requires t c =
    (omega arith, (c.requires.e_known, c.requires.ready))

pub judge_case-judge-requires : goal.judge_case-judge-requires
judge_case-judge-requires t c =
    (omega arith, (c.requires.e_known, c.requires.ready))

pub judge_let-returns-in_err-o : goal.judge_let-returns-in_err-o
judge_let-returns-in_err-o t c =
    record {
      grows = c.in_err-o.ensures.grows;
      says = passed c.judge.new.arena c.from_residual.result c.in_err-o.field-0.0 _ c.from_residual.ensures.1
          (one_fault c.judge.new.arena c.in_err-o.field-0.0 (rule (context_in c.args.arena.now c.args.scope.now) (term_at c.args.self.now.nodes.now.terms c.args.e)) (λ A E. one_part (rule (Under (name_of c.args.x) A (context_in c.args.arena.now c.args.scope.now)) (term_at c.args.self.now.nodes.now.terms c.args.b)) (let_rule c.args.s E)) c.in_err-o.ensures.says);
    }

pub judge_let-judge_under-requires : goal.judge_let-judge_under-requires
judge_let-judge_under-requires t c =
    (omega arith, (c.requires.b_known, (says_known c.judge.new.arena c.in_ok-o.o (rule (context_in c.args.arena.now c.args.scope.now) (term_at c.args.self.now.nodes.now.terms c.args.e)) c.in_ok-o.ensures.says, (ready_grows c.args.self.now.nodes.now c.args.arena.now c.judge.new.arena c.args.self.now.written.now c.args.scope.now c.in_ok-o.ensures.grows c.requires.ready))))

pub judge_let-returns-in_err-p : goal.judge_let-returns-in_err-p
judge_let-returns-in_err-p t c =
    record {
      grows = grows_trans c.args.arena.now c.judge.new.arena c.judge_under.new.arena c.in_ok-o.ensures.grows c.in_err-p.ensures.grows;
      says = passed c.judge_under.new.arena c.from_residual-in_err-p.result c.in_err-p.field-0.0 _ c.from_residual-in_err-p.ensures.1
          (let_fault c.judge.new.arena c.in_ok-o.o (context_in c.args.arena.now c.args.scope.now) c.args.s (term_at c.args.self.now.nodes.now.terms c.args.e) c.in_ok-o.ensures.says c.judge_under.new.arena (name_of c.args.x) (term_at c.args.self.now.nodes.now.terms c.args.b) (context_in c.judge.new.arena c.args.scope.now) c.in_err-p.field-0.0 (context_grows c.args.arena.now c.judge.new.arena c.args.scope.now c.in_ok-o.ensures.grows c.requires.ready.scope) c.in_err-p.ensures.says);
    }

pub judge_let-returns : goal.judge_let-returns
judge_let-returns t c =
    record {
      grows = grows_trans c.args.arena.now c.judge.new.arena c.judge_under.new.arena c.in_ok-o.ensures.grows c.in_ok-p.ensures.grows;
      says = let_says c.judge.new.arena c.in_ok-o.o (context_in c.args.arena.now c.args.scope.now) c.args.s (term_at c.args.self.now.nodes.now.terms c.args.e) c.in_ok-o.ensures.says c.judge_under.new.arena (name_of c.args.x) (term_at c.args.self.now.nodes.now.terms c.args.b) (context_in c.judge.new.arena c.args.scope.now) c.in_ok-p.p c.let_name.result (context_grows c.args.arena.now c.judge.new.arena c.args.scope.now c.in_ok-o.ensures.grows c.requires.ready.scope) c.in_ok-p.ensures.says (λ V E D k a d. c.let_name.ensures.says V E D k (subst (λ (L : List Sens). AreAlike (distances L) E) (sym c.deref.ensures.value) a) d);
    }

pub judge_let_bang-returns-in_err-o : goal.judge_let_bang-returns-in_err-o
judge_let_bang-returns-in_err-o t c =
    record {
      grows = c.in_err-o.ensures.grows;
      says = passed c.judge.new.arena c.from_residual.result c.in_err-o.field-0.0 _ c.from_residual.ensures.1
          (one_fault c.judge.new.arena c.in_err-o.field-0.0 (rule (context_in c.args.arena.now c.args.scope.now) (term_at c.args.self.now.nodes.now.terms c.args.e)) (λ A E. let_bang_rule c.args.s (span_of (term_at c.args.self.now.nodes.now.terms c.args.e)) A E (λ A. rule (Under (name_of c.args.x) A (context_in c.args.arena.now c.args.scope.now)) (term_at c.args.self.now.nodes.now.terms c.args.b))) c.in_err-o.ensures.says);
    }

pub judge_let_bang-form-requires : goal.judge_let_bang-form-requires
judge_let_bang-form-requires t c =
    says_known c.judge.new.arena c.in_ok-o.o (rule (context_in c.args.arena.now c.args.scope.now) (term_at c.args.self.now.nodes.now.terms c.args.e)) c.in_ok-o.ensures.says

pub judge_let_pair-form-requires : goal.judge_let_pair-form-requires
judge_let_pair-form-requires t c =
    says_known c.judge.new.arena c.in_ok-o.o (rule (context_in c.args.arena.now c.args.scope.now) (term_at c.args.self.now.nodes.now.terms c.args.e)) c.in_ok-o.ensures.says

pub judge_case-form-requires : goal.judge_case-form-requires
judge_case-form-requires t c =
    says_known c.judge.new.arena c.in_ok-o.o (rule (context_in c.args.arena.now c.args.scope.now) (term_at c.args.self.now.nodes.now.terms c.args.e)) c.in_ok-o.ensures.says

pub judge_let_bang-let_bang-requires : goal.judge_let_bang-let_bang-requires
judge_let_bang-let_bang-requires t c =
    record { bang = (subst TypeLimits c.in-Bang.ensures.form c.in-Bang.ensures.limits).0 }

pub judge_let_bang-judge_under-requires : goal.judge_let_bang-judge_under-requires
judge_let_bang-judge_under-requires t c =
    (omega arith, (c.requires.b_known, (known_part c.judge.new.arena c.in-Bang.ty (rule (context_in c.args.arena.now c.args.scope.now) (term_at c.args.self.now.nodes.now.terms c.args.e)) c.in_ok-o.o c.in_ok-o.ensures.says c.in-Bang.ensures.known, (ready_grows c.args.self.now.nodes.now c.args.arena.now c.judge.new.arena c.args.self.now.written.now c.args.scope.now c.in_ok-o.ensures.grows c.requires.ready))))

pub judge_let_bang-returns-in_err-p : goal.judge_let_bang-returns-in_err-p
judge_let_bang-returns-in_err-p t c =
    record {
      grows = grows_trans c.args.arena.now c.judge.new.arena c.judge_under.new.arena c.in_ok-o.ensures.grows c.in_err-p.ensures.grows;
      says = passed c.judge_under.new.arena c.from_residual-in_err-p.result c.in_err-p.field-0.0 _ c.from_residual-in_err-p.ensures.1
          (let_bang_fault c.judge.new.arena c.in_ok-o.o (context_in c.args.arena.now c.args.scope.now) c.args.s (term_at c.args.self.now.nodes.now.terms c.args.e) c.in_ok-o.ensures.says c.judge_under.new.arena (name_of c.args.x) (term_at c.args.self.now.nodes.now.terms c.args.b) (context_in c.judge.new.arena c.args.scope.now) c.in_err-p.field-0.0 (distance_of c.in-Bang.r) (type_at c.judge.new.arena c.in-Bang.ty) c.in-Bang.ensures.form (context_grows c.args.arena.now c.judge.new.arena c.args.scope.now c.in_ok-o.ensures.grows c.requires.ready.scope) c.in_err-p.ensures.says);
    }

pub judge_let_bang-returns : goal.judge_let_bang-returns
judge_let_bang-returns t c =
    record {
      grows = grows_trans c.args.arena.now c.judge.new.arena c.judge_under.new.arena c.in_ok-o.ensures.grows c.in_ok-p.ensures.grows;
      says = let_bang_says c.judge.new.arena c.in_ok-o.o (context_in c.args.arena.now c.args.scope.now) c.args.s (term_at c.args.self.now.nodes.now.terms c.args.e) c.in_ok-o.ensures.says c.judge_under.new.arena (name_of c.args.x) (term_at c.args.self.now.nodes.now.terms c.args.b) (context_in c.judge.new.arena c.args.scope.now) c.in_ok-p.p c.let_bang.result (distance_of c.in-Bang.r) (type_at c.judge.new.arena c.in-Bang.ty) c.in-Bang.ensures.form (context_grows c.args.arena.now c.judge.new.arena c.args.scope.now c.in_ok-o.ensures.grows c.requires.ready.scope) c.in_ok-p.ensures.says (λ V E D k a d. c.let_bang.ensures.says V E D k (subst (λ (L : List Sens). AreAlike (distances L) E) (sym c.deref.ensures.value) a) d);
    }

pub judge_let_pair-returns-in_err-o : goal.judge_let_pair-returns-in_err-o
judge_let_pair-returns-in_err-o t c =
    record {
      grows = c.in_err-o.ensures.grows;
      says = passed c.judge.new.arena c.from_residual.result c.in_err-o.field-0.0 _ c.from_residual.ensures.1
          (one_fault c.judge.new.arena c.in_err-o.field-0.0 (rule (context_in c.args.arena.now c.args.scope.now) (term_at c.args.self.now.nodes.now.terms c.args.e)) (λ A E. let_pair_rule c.args.s (span_of (term_at c.args.self.now.nodes.now.terms c.args.e)) A E (λ A B. rule (Under (name_of c.args.y) B (Under (name_of c.args.x) A (context_in c.args.arena.now c.args.scope.now))) (term_at c.args.self.now.nodes.now.terms c.args.b))) c.in_err-o.ensures.says);
    }

pub judge_let_pair-judge_under-requires : goal.judge_let_pair-judge_under-requires
judge_let_pair-judge_under-requires t c =
    (omega arith, (c.requires.b_known, (known_part c.judge.new.arena c.in-Tensor.second (rule (context_in c.args.arena.now c.args.scope.now) (term_at c.args.self.now.nodes.now.terms c.args.e)) c.in_ok-o.o c.in_ok-o.ensures.says c.in-Tensor.ensures.known.1, ready_under c.args.self.now.nodes.now c.judge.new.arena c.args.self.now.written.now c.args.scope.now c.deref.result.now (record { name = c.args.x; ty = c.in-Tensor.first }) (c.deref.ensures.value ∙ c.in_ok-outer.ensures) (known_part c.judge.new.arena c.in-Tensor.first (rule (context_in c.args.arena.now c.args.scope.now) (term_at c.args.self.now.nodes.now.terms c.args.e)) c.in_ok-o.o c.in_ok-o.ensures.says c.in-Tensor.ensures.known.0) (ready_grows c.args.self.now.nodes.now c.args.arena.now c.judge.new.arena c.args.self.now.written.now c.args.scope.now c.in_ok-o.ensures.grows c.requires.ready))))

pub judge_let_pair-returns-in_err-outer : goal.judge_let_pair-returns-in_err-outer
judge_let_pair-returns-in_err-outer t c =
    record {
      grows = c.in_ok-o.ensures.grows;
      says = search rules;
    }

pub judge_let_pair-returns-in_err-p : goal.judge_let_pair-returns-in_err-p
judge_let_pair-returns-in_err-p t c =
    record {
      grows = grows_trans c.args.arena.now c.judge.new.arena c.judge_under.new.arena c.in_ok-o.ensures.grows c.in_err-p.ensures.grows;
      says = passed c.judge_under.new.arena c.from_residual-in_err-p.result c.in_err-p.field-0.0 _ c.from_residual-in_err-p.ensures.1
          (let_pair_fault c.judge.new.arena c.in_ok-o.o (context_in c.args.arena.now c.args.scope.now) c.args.s (term_at c.args.self.now.nodes.now.terms c.args.e) c.in_ok-o.ensures.says c.judge_under.new.arena (name_of c.args.x) (term_at c.args.self.now.nodes.now.terms c.args.b) (name_of c.args.y) (context_in c.judge.new.arena c.deref.result.now) c.in_err-p.field-0.0 (type_at c.judge.new.arena c.in-Tensor.first) (type_at c.judge.new.arena c.in-Tensor.second) c.in-Tensor.ensures.form (context_under c.args.arena.now c.judge.new.arena c.args.scope.now c.deref.result.now (record { name = c.args.x; ty = c.in-Tensor.first }) c.in_ok-o.ensures.grows c.requires.ready.scope (c.deref.ensures.value ∙ c.in_ok-outer.ensures)) c.in_err-p.ensures.says);
    }

pub judge_let_pair-returns : goal.judge_let_pair-returns
judge_let_pair-returns t c =
    record {
      grows = grows_trans c.args.arena.now c.judge.new.arena c.judge_under.new.arena c.in_ok-o.ensures.grows c.in_ok-p.ensures.grows;
      says = let_pair_says c.judge.new.arena c.in_ok-o.o (context_in c.args.arena.now c.args.scope.now) c.args.s (term_at c.args.self.now.nodes.now.terms c.args.e) c.in_ok-o.ensures.says c.judge_under.new.arena (name_of c.args.x) (term_at c.args.self.now.nodes.now.terms c.args.b) (name_of c.args.y) (context_in c.judge.new.arena c.deref.result.now) c.in_ok-p.p c.let_pair.result (type_at c.judge.new.arena c.in-Tensor.first) (type_at c.judge.new.arena c.in-Tensor.second) c.in-Tensor.ensures.form (context_under c.args.arena.now c.judge.new.arena c.args.scope.now c.deref.result.now (record { name = c.args.x; ty = c.in-Tensor.first }) c.in_ok-o.ensures.grows c.requires.ready.scope (c.deref.ensures.value ∙ c.in_ok-outer.ensures)) c.in_ok-p.ensures.says (λ V E D k a d. c.let_pair.ensures.says V E D k (subst (λ (L : List Sens). AreAlike (distances L) E) (sym c.deref-2.ensures.value) a) d);
    }

pub judge_if-returns-in_err-o : goal.judge_if-returns-in_err-o
judge_if-returns-in_err-o t c =
    record {
      grows = c.in_err-o.ensures.grows;
      says = passed c.judge.new.arena c.from_residual.result c.in_err-o.field-0.0 _ c.from_residual.ensures.1
          (three_fault c.judge.new.arena c.in_err-o.field-0.0 (rule (context_in c.args.arena.now c.args.scope.now) (term_at c.args.self.now.nodes.now.terms c.args.e)) (rule (context_in c.args.arena.now c.args.scope.now) (term_at c.args.self.now.nodes.now.terms c.args.a)) (rule (context_in c.args.arena.now c.args.scope.now) (term_at c.args.self.now.nodes.now.terms c.args.b)) (if_rule c.args.s (span_of (term_at c.args.self.now.nodes.now.terms c.args.e)) (span_of (term_at c.args.self.now.nodes.now.terms c.args.b))) c.in_err-o.ensures.says);
    }

pub judge_if-judge_two-requires : goal.judge_if-judge_two-requires
judge_if-judge_two-requires t c =
    (omega arith, (c.requires.a_known, (c.requires.b_known, (ready_grows c.args.self.now.nodes.now c.args.arena.now c.judge.new.arena c.args.self.now.written.now c.args.scope.now c.in_ok-o.ensures.grows c.requires.ready))))

pub judge_if-returns-in_err-two : goal.judge_if-returns-in_err-two
judge_if-returns-in_err-two t c =
    record {
      grows = grows_trans c.args.arena.now c.judge.new.arena c.judge_two.new.arena c.in_ok-o.ensures.grows c.in_err-two.ensures.grows;
      says = passed c.judge_two.new.arena c.from_residual-in_err-two.result c.in_err-two.field-0.0 _ c.from_residual-in_err-two.ensures.1
          (later_fault c.judge.new.arena c.judge_two.new.arena c.in_ok-o.o c.in_err-two.field-0.0 (rule (context_in c.args.arena.now c.args.scope.now) (term_at c.args.self.now.nodes.now.terms c.args.e)) (rule (context_in c.args.arena.now c.args.scope.now) (term_at c.args.self.now.nodes.now.terms c.args.a)) (rule (context_in c.args.arena.now c.args.scope.now) (term_at c.args.self.now.nodes.now.terms c.args.b)) (if_rule c.args.s (span_of (term_at c.args.self.now.nodes.now.terms c.args.e)) (span_of (term_at c.args.self.now.nodes.now.terms c.args.b))) c.in_ok-o.ensures.says
          (subst (λ (Γ : Context). IsFaultOf c.judge_two.new.arena c.in_err-two.field-0.0 (two_parts (rule Γ (term_at c.args.self.now.nodes.now.terms c.args.a)) (rule Γ (term_at c.args.self.now.nodes.now.terms c.args.b)) (λ A D B E. Has B E))) (context_grows c.args.arena.now c.judge.new.arena c.args.scope.now c.in_ok-o.ensures.grows c.requires.ready.scope) c.in_err-two.ensures.says));
    }

pub judge_if-span-u-requires : goal.judge_if-span-u-requires
judge_if-span-u-requires t c =
    c.requires.e_known

pub judge_if-span-w-requires : goal.judge_if-span-w-requires
judge_if-span-w-requires t c =
    c.requires.b_known

pub judge_if-choice-requires-clause-e_known : goal.judge_if-choice-requires-clause-e_known
judge_if-choice-requires-clause-e_known t c =
    says_known c.judge_two.new.arena c.in_ok-o.o (rule (context_in c.args.arena.now c.args.scope.now) (term_at c.args.self.now.nodes.now.terms c.args.e)) (says_grows c.judge.new.arena c.judge_two.new.arena c.in_ok-o.o (rule (context_in c.args.arena.now c.args.scope.now) (term_at c.args.self.now.nodes.now.terms c.args.e)) c.in_ok-two.ensures.grows c.in_ok-o.ensures.says)

pub judge_if-choice-requires-clause-o_known : goal.judge_if-choice-requires-clause-o_known
judge_if-choice-requires-clause-o_known t c =
    says_known c.judge_two.new.arena c.in_ok-two.two.first (rule (context_in c.args.arena.now c.args.scope.now) (term_at c.args.self.now.nodes.now.terms c.args.a)) (subst (λ (Γ : Context). Says c.judge_two.new.arena (Ok c.in_ok-two.two.first) (rule Γ (term_at c.args.self.now.nodes.now.terms c.args.a)) × Says c.judge_two.new.arena (Ok c.in_ok-two.two.second) (rule Γ (term_at c.args.self.now.nodes.now.terms c.args.b))) (context_grows c.args.arena.now c.judge.new.arena c.args.scope.now c.in_ok-o.ensures.grows c.requires.ready.scope) c.in_ok-two.ensures.says).0

pub judge_if-choice-requires-clause-p_known : goal.judge_if-choice-requires-clause-p_known
judge_if-choice-requires-clause-p_known t c =
    says_known c.judge_two.new.arena c.in_ok-two.two.second (rule (context_in c.args.arena.now c.args.scope.now) (term_at c.args.self.now.nodes.now.terms c.args.b)) (subst (λ (Γ : Context). Says c.judge_two.new.arena (Ok c.in_ok-two.two.first) (rule Γ (term_at c.args.self.now.nodes.now.terms c.args.a)) × Says c.judge_two.new.arena (Ok c.in_ok-two.two.second) (rule Γ (term_at c.args.self.now.nodes.now.terms c.args.b))) (context_grows c.args.arena.now c.judge.new.arena c.args.scope.now c.in_ok-o.ensures.grows c.requires.ready.scope) c.in_ok-two.ensures.says).1

pub judge_if-returns : goal.judge_if-returns
judge_if-returns t c =
    let two = (subst (λ (Γ : Context). Says c.judge_two.new.arena (Ok c.in_ok-two.two.first) (rule Γ (term_at c.args.self.now.nodes.now.terms c.args.a)) × Says c.judge_two.new.arena (Ok c.in_ok-two.two.second) (rule Γ (term_at c.args.self.now.nodes.now.terms c.args.b))) (context_grows c.args.arena.now c.judge.new.arena c.args.scope.now c.in_ok-o.ensures.grows c.requires.ready.scope) c.in_ok-two.ensures.says) in
    record {
      grows = grows_trans c.args.arena.now c.judge_two.new.arena c.choice.new.arena (grows_trans c.args.arena.now c.judge.new.arena c.judge_two.new.arena c.in_ok-o.ensures.grows c.in_ok-two.ensures.grows) c.choice.ensures.grows;
      says = rw (sym c.span-u.ensures, sym c.span-w.ensures)
          (three_say c.judge_two.new.arena c.choice.new.arena c.in_ok-o.o c.in_ok-two.two.first c.in_ok-two.two.second c.choice.result (rule (context_in c.args.arena.now c.args.scope.now) (term_at c.args.self.now.nodes.now.terms c.args.e)) (rule (context_in c.args.arena.now c.args.scope.now) (term_at c.args.self.now.nodes.now.terms c.args.a)) (rule (context_in c.args.arena.now c.args.scope.now) (term_at c.args.self.now.nodes.now.terms c.args.b)) (if_rule c.args.s c.span-u.result c.span-w.result) (says_grows c.judge.new.arena c.judge_two.new.arena c.in_ok-o.o (rule (context_in c.args.arena.now c.args.scope.now) (term_at c.args.self.now.nodes.now.terms c.args.e)) c.in_ok-two.ensures.grows c.in_ok-o.ensures.says) two.0 two.1 c.choice.ensures.says);
    }

pub judge_case-returns-in_err-o : goal.judge_case-returns-in_err-o
judge_case-returns-in_err-o t c =
    record {
      grows = c.in_err-o.ensures.grows;
      says = passed c.judge.new.arena c.from_residual.result c.in_err-o.field-0.0 _ c.from_residual.ensures.1
          (one_fault c.judge.new.arena c.in_err-o.field-0.0 (rule (context_in c.args.arena.now c.args.scope.now) (term_at c.args.self.now.nodes.now.terms c.args.e)) (λ A F. case_rule c.args.s (span_of (term_at c.args.self.now.nodes.now.terms c.args.e)) (span_of (term_at c.args.self.now.nodes.now.terms c.args.b)) A F (λ A. rule (Under (name_of c.args.x) A (context_in c.args.arena.now c.args.scope.now)) (term_at c.args.self.now.nodes.now.terms c.args.a)) (λ B. rule (Under (name_of c.args.y) B (context_in c.args.arena.now c.args.scope.now)) (term_at c.args.self.now.nodes.now.terms c.args.b))) c.in_err-o.ensures.says);
    }

pub judge_case-judge_under-requires : goal.judge_case-judge_under-requires
judge_case-judge_under-requires t c =
    (omega arith, (c.requires.a_known, (known_part c.judge.new.arena c.in-Sum.left (rule (context_in c.args.arena.now c.args.scope.now) (term_at c.args.self.now.nodes.now.terms c.args.e)) c.in_ok-o.o c.in_ok-o.ensures.says c.in-Sum.ensures.known.0, (ready_grows c.args.self.now.nodes.now c.args.arena.now c.judge.new.arena c.args.self.now.written.now c.args.scope.now c.in_ok-o.ensures.grows c.requires.ready))))

pub judge_case-judge_under-requires-2 : goal.judge_case-judge_under-requires-2
judge_case-judge_under-requires-2 t c =
    (omega arith, (c.requires.b_known, (grows_known c.judge.new.arena c.judge_under.new.arena c.in-Sum.right (known_part c.judge.new.arena c.in-Sum.right (rule (context_in c.args.arena.now c.args.scope.now) (term_at c.args.self.now.nodes.now.terms c.args.e)) c.in_ok-o.o c.in_ok-o.ensures.says c.in-Sum.ensures.known.1) c.in_ok-p.ensures.grows, (ready_grows c.args.self.now.nodes.now c.args.arena.now c.judge_under.new.arena c.args.self.now.written.now c.args.scope.now (grows_trans c.args.arena.now c.judge.new.arena c.judge_under.new.arena c.in_ok-o.ensures.grows c.in_ok-p.ensures.grows) c.requires.ready))))

pub judge_case-returns-in_err-p : goal.judge_case-returns-in_err-p
judge_case-returns-in_err-p t c =
    record {
      grows = grows_trans c.args.arena.now c.judge.new.arena c.judge_under.new.arena c.in_ok-o.ensures.grows c.in_err-p.ensures.grows;
      says = passed c.judge_under.new.arena c.from_residual-in_err-p.result c.in_err-p.field-0.0 _ c.from_residual-in_err-p.ensures.1
          (left_fault c.judge.new.arena c.in_ok-o.o (context_in c.args.arena.now c.args.scope.now) c.args.s (term_at c.args.self.now.nodes.now.terms c.args.e) c.in_ok-o.ensures.says (name_of c.args.x) (name_of c.args.y) (term_at c.args.self.now.nodes.now.terms c.args.a) (term_at c.args.self.now.nodes.now.terms c.args.b) (type_at c.judge.new.arena c.in-Sum.left) (type_at c.judge.new.arena c.in-Sum.right) c.in-Sum.ensures.form c.judge_under.new.arena (context_in c.judge.new.arena c.args.scope.now) c.in_err-p.field-0.0 (context_grows c.args.arena.now c.judge.new.arena c.args.scope.now c.in_ok-o.ensures.grows c.requires.ready.scope) c.in_err-p.ensures.says);
    }

pub judge_case-returns-in_err-q : goal.judge_case-returns-in_err-q
judge_case-returns-in_err-q t c =
    record {
      grows = grows_trans c.args.arena.now c.judge_under.new.arena c.judge_under-2.new.arena (grows_trans c.args.arena.now c.judge.new.arena c.judge_under.new.arena c.in_ok-o.ensures.grows c.in_ok-p.ensures.grows) c.in_err-q.ensures.grows;
      says = passed c.judge_under-2.new.arena c.from_residual-in_err-q.result c.in_err-q.field-0.0 _ c.from_residual-in_err-q.ensures.1
          (right_fault c.judge.new.arena c.in_ok-o.o (context_in c.args.arena.now c.args.scope.now) c.args.s (term_at c.args.self.now.nodes.now.terms c.args.e) c.in_ok-o.ensures.says (name_of c.args.x) (name_of c.args.y) (term_at c.args.self.now.nodes.now.terms c.args.a) (term_at c.args.self.now.nodes.now.terms c.args.b) (type_at c.judge.new.arena c.in-Sum.left) (type_at c.judge.new.arena c.in-Sum.right) c.in-Sum.ensures.form c.judge_under.new.arena c.judge_under-2.new.arena (context_in c.judge.new.arena c.args.scope.now) (context_in c.judge_under.new.arena c.args.scope.now) c.in_ok-p.p (context_grows c.args.arena.now c.judge.new.arena c.args.scope.now c.in_ok-o.ensures.grows c.requires.ready.scope) (context_grows c.args.arena.now c.judge_under.new.arena c.args.scope.now (grows_trans c.args.arena.now c.judge.new.arena c.judge_under.new.arena c.in_ok-o.ensures.grows c.in_ok-p.ensures.grows) c.requires.ready.scope) c.in_ok-p.ensures.says c.in_err-q.field-0.0
          (subst (λ (B : Ty). IsFaultOf c.judge_under-2.new.arena c.in_err-q.field-0.0 (rule (Under (name_of c.args.y) B (context_in c.judge_under.new.arena c.args.scope.now)) (term_at c.args.self.now.nodes.now.terms c.args.b))) (grows_at c.judge.new.arena c.judge_under.new.arena c.in-Sum.right (known_part c.judge.new.arena c.in-Sum.right (rule (context_in c.args.arena.now c.args.scope.now) (term_at c.args.self.now.nodes.now.terms c.args.e)) c.in_ok-o.o c.in_ok-o.ensures.says c.in-Sum.ensures.known.1) c.in_ok-p.ensures.grows) c.in_err-q.ensures.says));
    }

pub judge_case-span-requires-2 : goal.judge_case-span-requires-2
judge_case-span-requires-2 t c =
    c.requires.b_known

pub judge_case-branches-requires-clause-o_known : goal.judge_case-branches-requires-clause-o_known
judge_case-branches-requires-clause-o_known t c =
    grows_known c.judge_under.new.arena c.judge_under-2.new.arena c.in_ok-p.p.ty (says_known c.judge_under.new.arena c.in_ok-p.p (rule (Under (name_of c.args.x) (type_at c.judge.new.arena c.in-Sum.left) (context_in c.judge.new.arena c.args.scope.now)) (term_at c.args.self.now.nodes.now.terms c.args.a)) c.in_ok-p.ensures.says) c.in_ok-q.ensures.grows

pub judge_case-branches-requires-clause-p_known : goal.judge_case-branches-requires-clause-p_known
judge_case-branches-requires-clause-p_known t c =
    says_known c.judge_under-2.new.arena c.in_ok-q.q (rule (Under (name_of c.args.y) (type_at c.judge_under.new.arena c.in-Sum.right) (context_in c.judge_under.new.arena c.args.scope.now)) (term_at c.args.self.now.nodes.now.terms c.args.b)) c.in_ok-q.ensures.says

pub judge_case-returns : goal.judge_case-returns
judge_case-returns t c =
    record {
      grows = grows_trans c.args.arena.now c.judge_under.new.arena c.judge_under-2.new.arena (grows_trans c.args.arena.now c.judge.new.arena c.judge_under.new.arena c.in_ok-o.ensures.grows c.in_ok-p.ensures.grows) c.in_ok-q.ensures.grows;
      says = case_says c.judge.new.arena c.in_ok-o.o (context_in c.args.arena.now c.args.scope.now) c.args.s (term_at c.args.self.now.nodes.now.terms c.args.e) c.in_ok-o.ensures.says (name_of c.args.x) (name_of c.args.y) (term_at c.args.self.now.nodes.now.terms c.args.a) (term_at c.args.self.now.nodes.now.terms c.args.b) (type_at c.judge.new.arena c.in-Sum.left) (type_at c.judge.new.arena c.in-Sum.right) c.in-Sum.ensures.form c.judge_under.new.arena c.judge_under-2.new.arena (context_in c.judge.new.arena c.args.scope.now) (context_in c.judge_under.new.arena c.args.scope.now) c.in_ok-p.p (context_grows c.args.arena.now c.judge.new.arena c.args.scope.now c.in_ok-o.ensures.grows c.requires.ready.scope) (context_grows c.args.arena.now c.judge_under.new.arena c.args.scope.now (grows_trans c.args.arena.now c.judge.new.arena c.judge_under.new.arena c.in_ok-o.ensures.grows c.in_ok-p.ensures.grows) c.requires.ready.scope) c.in_ok-p.ensures.says c.in_ok-q.q c.branches.result c.in_ok-q.ensures.grows
          (subst (λ (B : Ty). Says c.judge_under-2.new.arena (Ok c.in_ok-q.q) (rule (Under (name_of c.args.y) B (context_in c.judge_under.new.arena c.args.scope.now)) (term_at c.args.self.now.nodes.now.terms c.args.b))) (grows_at c.judge.new.arena c.judge_under.new.arena c.in-Sum.right (known_part c.judge.new.arena c.in-Sum.right (rule (context_in c.args.arena.now c.args.scope.now) (term_at c.args.self.now.nodes.now.terms c.args.e)) c.in_ok-o.o c.in_ok-o.ensures.says c.in-Sum.ensures.known.1) c.in_ok-p.ensures.grows) c.in_ok-q.ensures.says)
          (subst (λ (w : Span). BranchesSay c.judge_under-2.new.arena w c.args.s c.branches.result c.in_ok-o.o c.in_ok-p.p c.in_ok-q.q) c.span-2.ensures
          (λ F D E f d e. c.branches.ensures.says F D E (subst (λ (L : List Sens). AreAlike (distances L) F) (sym c.deref.ensures.value) f) d e));
    }

pub judge_lambda-arena_number-ty-requires : goal.judge_lambda-arena_number-ty-requires
judge_lambda-arena_number-ty-requires t c =
    written_bound c.args.self.now.nodes.now.types c.args.arena.now c.args.self.now.written.now c.args.t c.requires.ready.written c.requires.t_known

pub judge_lambda-judge_under-requires : goal.judge_lambda-judge_under-requires
judge_lambda-judge_under-requires t c =
    (omega arith, (c.requires.e_known, ((number_known c.args.self.now.nodes.now.types c.args.arena.now c.args.self.now.written.now c.args.t c.arena_number-ty.result c.arena_number-ty.ensures c.requires.ready.written c.requires.t_known), c.requires.ready)))

pub judge_lambda-returns-in_err-o : goal.judge_lambda-returns-in_err-o
judge_lambda-returns-in_err-o t c =
    record {
      grows = c.in_err-o.ensures.grows;
      says = rw (rule_lambda (context_in c.args.arena.now c.args.scope.now) c.args.self.now.nodes.now c.args.s c.args.form c.args.x c.args.u c.args.t c.args.e) (passed c.judge_under.new.arena c.from_residual.result c.in_err-o.field-0.0 _ c.from_residual.ensures.1
          (one_fault c.judge_under.new.arena c.in_err-o.field-0.0 (rule (Under (name_of c.args.x) (type_at c.args.self.now.nodes.now.types c.args.t) (context_in c.args.arena.now c.args.scope.now)) (term_at c.args.self.now.nodes.now.terms c.args.e)) (lambda_rule c.args.form c.args.s (name_of c.args.x) c.args.u (type_at c.args.self.now.nodes.now.types c.args.t))
          (subst (λ (A : Ty). IsFaultOf c.judge_under.new.arena c.in_err-o.field-0.0 (rule (Under (name_of c.args.x) A (context_in c.args.arena.now c.args.scope.now)) (term_at c.args.self.now.nodes.now.terms c.args.e))) (number_at c.args.self.now.nodes.now.types c.args.arena.now c.args.self.now.written.now c.args.t c.arena_number-ty.result c.arena_number-ty.ensures c.requires.ready.written c.requires.t_known) c.in_err-o.ensures.says)));
    }

pub judge_lambda-lambda-requires-clause-o_known : goal.judge_lambda-lambda-requires-clause-o_known
judge_lambda-lambda-requires-clause-o_known t c =
    says_known c.judge_under.new.arena c.in_ok-o.o (rule (Under (name_of c.args.x) (type_at c.args.self.now.nodes.now.types c.args.t) (context_in c.args.arena.now c.args.scope.now)) (term_at c.args.self.now.nodes.now.terms c.args.e)) (subst (λ (A : Ty). Says c.judge_under.new.arena (Ok c.in_ok-o.o) (rule (Under (name_of c.args.x) A (context_in c.args.arena.now c.args.scope.now)) (term_at c.args.self.now.nodes.now.terms c.args.e))) (number_at c.args.self.now.nodes.now.types c.args.arena.now c.args.self.now.written.now c.args.t c.arena_number-ty.result c.arena_number-ty.ensures c.requires.ready.written c.requires.t_known) c.in_ok-o.ensures.says)

pub judge_lambda-lambda-requires-clause-t_known : goal.judge_lambda-lambda-requires-clause-t_known
judge_lambda-lambda-requires-clause-t_known t c =
    number_known c.args.self.now.nodes.now.types c.judge_under.new.arena c.args.self.now.written.now c.args.t c.arena_number-ty.result c.arena_number-ty.ensures (written_grows c.args.self.now.nodes.now.types c.args.arena.now c.judge_under.new.arena c.args.self.now.written.now c.in_ok-o.ensures.grows c.requires.ready.written) c.requires.t_known

pub judge_lambda-returns : goal.judge_lambda-returns
judge_lambda-returns t c =
    record {
      grows = grows_trans c.args.arena.now c.judge_under.new.arena c.lambda.new.arena c.in_ok-o.ensures.grows c.lambda.ensures.grows;
      says = rw (rule_lambda (context_in c.args.arena.now c.args.scope.now) c.args.self.now.nodes.now c.args.s c.args.form c.args.x c.args.u c.args.t c.args.e)
          (one_says c.judge_under.new.arena c.lambda.new.arena c.in_ok-o.o c.lambda.result (rule (Under (name_of c.args.x) (type_at c.args.self.now.nodes.now.types c.args.t) (context_in c.args.arena.now c.args.scope.now)) (term_at c.args.self.now.nodes.now.terms c.args.e)) (lambda_rule c.args.form c.args.s (name_of c.args.x) c.args.u (type_at c.args.self.now.nodes.now.types c.args.t)) (subst (λ (A : Ty). Says c.judge_under.new.arena (Ok c.in_ok-o.o) (rule (Under (name_of c.args.x) A (context_in c.args.arena.now c.args.scope.now)) (term_at c.args.self.now.nodes.now.terms c.args.e))) (number_at c.args.self.now.nodes.now.types c.args.arena.now c.args.self.now.written.now c.args.t c.arena_number-ty.result c.arena_number-ty.ensures c.requires.ready.written c.requires.t_known) c.in_ok-o.ensures.says)
          (λ D d. subst (λ (A : Ty). Says c.lambda.new.arena c.lambda.result (lambda_rule c.args.form c.args.s (name_of c.args.x) c.args.u A (type_at c.judge_under.new.arena c.in_ok-o.o.ty) D)) (number_at c.args.self.now.nodes.now.types c.judge_under.new.arena c.args.self.now.written.now c.args.t c.arena_number-ty.result c.arena_number-ty.ensures (written_grows c.args.self.now.nodes.now.types c.args.arena.now c.judge_under.new.arena c.args.self.now.written.now c.in_ok-o.ensures.grows c.requires.ready.written) c.requires.t_known) (c.lambda.ensures.says D d)));
    }

pub judge-node-node-requires : goal.judge-node-node-requires
judge-node-node-requires t c =
    c.requires.known

pub judge-returns-in-Var : goal.judge-returns-in-Var
judge-returns-in-Var t c =
    record {
      grows = grows_refl c.args.arena.now;
      says = rw (of_form (context_in c.args.arena.now c.args.scope.now) (term_at c.args.self.now.nodes.now.terms c.args.i) c.args.self.now.nodes.now c.node-node.result.now.span c.node-node.result.now.form (Var c.in-Var.name) c.node-node.ensures.form c.in-Var.is) (c.look.ensures c.args.arena.now c.requires.ready.scope);
    }

pub judge-returns-in-Num : goal.judge-returns-in-Num
judge-returns-in-Num t c =
    record {
      grows = c.number.ensures.grows;
      says = rw (of_form (context_in c.args.arena.now c.args.scope.now) (term_at c.args.self.now.nodes.now.terms c.args.i) c.args.self.now.nodes.now c.node-node.result.now.span c.node-node.result.now.form (Num c.in-Num.field-0) c.node-node.ensures.form c.in-Num.is) (c.number.ensures.says);
    }

pub judge-returns-in-Text : goal.judge-returns-in-Text
judge-returns-in-Text t c =
    record {
      grows = c.text.ensures.grows;
      says = rw (of_form (context_in c.args.arena.now c.args.scope.now) (term_at c.args.self.now.nodes.now.terms c.args.i) c.args.self.now.nodes.now c.node-node.result.now.span c.node-node.result.now.form (Text c.in-Text.field-0) c.node-node.ensures.form c.in-Text.is) (c.text.ensures.says);
    }

pub judge-returns-in-Unit : goal.judge-returns-in-Unit
judge-returns-in-Unit t c =
    record {
      grows = c.unit.ensures.grows;
      says = rw (of_form (context_in c.args.arena.now c.args.scope.now) (term_at c.args.self.now.nodes.now.terms c.args.i) c.args.self.now.nodes.now c.node-node.result.now.span c.node-node.result.now.form One c.node-node.ensures.form c.in-Unit.is) (c.unit.ensures.says);
    }

pub judge-judge_unary-requires : goal.judge-judge_unary-requires
judge-judge_unary-requires t c =
    let k : IsKnown (length c.args.self.now.nodes.now.types) c.args.i (Op c.in-Unary.form c.in-Unary.e) = subst (λ (f : Form). IsKnown (length c.args.self.now.nodes.now.types) c.args.i f) c.in-Unary.is c.node-node.ensures.known in
    (omega (arith, below_1 c.in-Unary.e c.args.i k), (part_known c.in-Unary.e c.args.i (length c.args.self.now.nodes.now.terms) k c.requires.known, c.requires.ready))

pub judge-returns-in-Unary : goal.judge-returns-in-Unary
judge-returns-in-Unary t c =
    record {
      grows = c.judge_unary.ensures.grows;
      says = rw (of_form (context_in c.args.arena.now c.args.scope.now) (term_at c.args.self.now.nodes.now.terms c.args.i) c.args.self.now.nodes.now c.node-node.result.now.span c.node-node.result.now.form (Op c.in-Unary.form c.in-Unary.e) c.node-node.ensures.form c.in-Unary.is) (c.judge_unary.ensures.says c.node-node.result.now.span);
    }

pub judge-judge_binary-requires : goal.judge-judge_binary-requires
judge-judge_binary-requires t c =
    let k : IsKnown (length c.args.self.now.nodes.now.types) c.args.i (Op2 c.in-Binary.form c.in-Binary.a c.in-Binary.b) = subst (λ (f : Form). IsKnown (length c.args.self.now.nodes.now.types) c.args.i f) c.in-Binary.is c.node-node.ensures.known in
    (omega (arith, below_2 c.in-Binary.a c.in-Binary.b c.args.i k.0 k.1), (part_known c.in-Binary.a c.args.i (length c.args.self.now.nodes.now.terms) k.0 c.requires.known, (part_known c.in-Binary.b c.args.i (length c.args.self.now.nodes.now.terms) k.1 c.requires.known, c.requires.ready)))

pub judge-returns-in-Binary : goal.judge-returns-in-Binary
judge-returns-in-Binary t c =
    record {
      grows = c.judge_binary.ensures.grows;
      says = rw (of_form (context_in c.args.arena.now c.args.scope.now) (term_at c.args.self.now.nodes.now.terms c.args.i) c.args.self.now.nodes.now c.node-node.result.now.span c.node-node.result.now.form (Op2 c.in-Binary.form c.in-Binary.a c.in-Binary.b) c.node-node.ensures.form c.in-Binary.is) (c.judge_binary.ensures.says);
    }

pub judge-judge_times-requires : goal.judge-judge_times-requires
judge-judge_times-requires t c =
    let k : IsKnown (length c.args.self.now.nodes.now.types) c.args.i (Times c.in-Times.k c.in-Times.e) = subst (λ (f : Form). IsKnown (length c.args.self.now.nodes.now.types) c.args.i f) c.in-Times.is c.node-node.ensures.known in
    (omega (arith, below_1 c.in-Times.e c.args.i k), (part_known c.in-Times.e c.args.i (length c.args.self.now.nodes.now.terms) k c.requires.known, (subst IsNumber (sym (held c.in-Times.k (limits_of (term_at c.args.self.now.nodes.now.terms c.args.i) c.args.self.now.nodes.now c.node-node.result.now.span c.node-node.result.now.form (Times c.in-Times.k c.in-Times.e) c.node-node.ensures.form c.in-Times.is c.node-node.ensures.limits).0)) (limits_of (term_at c.args.self.now.nodes.now.terms c.args.i) c.args.self.now.nodes.now c.node-node.result.now.span c.node-node.result.now.form (Times c.in-Times.k c.in-Times.e) c.node-node.ensures.form c.in-Times.is c.node-node.ensures.limits).0, c.requires.ready)))

pub judge-returns-in-Times : goal.judge-returns-in-Times
judge-returns-in-Times t c =
    record {
      grows = c.judge_times.ensures.grows;
      says = rw (of_form (context_in c.args.arena.now c.args.scope.now) (term_at c.args.self.now.nodes.now.terms c.args.i) c.args.self.now.nodes.now c.node-node.result.now.span c.node-node.result.now.form (Times c.in-Times.k c.in-Times.e) c.node-node.ensures.form c.in-Times.is) (subst (λ (k : ℤ). Says c.judge_times.new.arena c.judge_times.result (rule (context_in c.args.arena.now c.args.scope.now) (node_term c.args.self.now.nodes.now c.node-node.result.now.span (Times k c.in-Times.e)))) (held c.in-Times.k (limits_of (term_at c.args.self.now.nodes.now.terms c.args.i) c.args.self.now.nodes.now c.node-node.result.now.span c.node-node.result.now.form (Times c.in-Times.k c.in-Times.e) c.node-node.ensures.form c.in-Times.is c.node-node.ensures.limits).0) c.judge_times.ensures.says);
    }

pub judge-judge_ranged-requires : goal.judge-judge_ranged-requires
judge-judge_ranged-requires t c =
    let k : IsKnown (length c.args.self.now.nodes.now.types) c.args.i (Bounded c.in-Ranged.form c.in-Ranged.lo c.in-Ranged.hi c.in-Ranged.e) = subst (λ (f : Form). IsKnown (length c.args.self.now.nodes.now.types) c.args.i f) c.in-Ranged.is c.node-node.ensures.known in
    (omega (arith, below_1 c.in-Ranged.e c.args.i k), (part_known c.in-Ranged.e c.args.i (length c.args.self.now.nodes.now.terms) k c.requires.known, (subst IsNumber (sym (held c.in-Ranged.lo (range_limits c.args.self.now.nodes.now c.node-node.result.now.span c.in-Ranged.form c.in-Ranged.lo c.in-Ranged.hi c.in-Ranged.e (limits_of (term_at c.args.self.now.nodes.now.terms c.args.i) c.args.self.now.nodes.now c.node-node.result.now.span c.node-node.result.now.form (Bounded c.in-Ranged.form c.in-Ranged.lo c.in-Ranged.hi c.in-Ranged.e) c.node-node.ensures.form c.in-Ranged.is c.node-node.ensures.limits)).0)) (range_limits c.args.self.now.nodes.now c.node-node.result.now.span c.in-Ranged.form c.in-Ranged.lo c.in-Ranged.hi c.in-Ranged.e (limits_of (term_at c.args.self.now.nodes.now.terms c.args.i) c.args.self.now.nodes.now c.node-node.result.now.span c.node-node.result.now.form (Bounded c.in-Ranged.form c.in-Ranged.lo c.in-Ranged.hi c.in-Ranged.e) c.node-node.ensures.form c.in-Ranged.is c.node-node.ensures.limits)).0, (subst IsNumber (sym (held c.in-Ranged.hi (range_limits c.args.self.now.nodes.now c.node-node.result.now.span c.in-Ranged.form c.in-Ranged.lo c.in-Ranged.hi c.in-Ranged.e (limits_of (term_at c.args.self.now.nodes.now.terms c.args.i) c.args.self.now.nodes.now c.node-node.result.now.span c.node-node.result.now.form (Bounded c.in-Ranged.form c.in-Ranged.lo c.in-Ranged.hi c.in-Ranged.e) c.node-node.ensures.form c.in-Ranged.is c.node-node.ensures.limits)).1)) (range_limits c.args.self.now.nodes.now c.node-node.result.now.span c.in-Ranged.form c.in-Ranged.lo c.in-Ranged.hi c.in-Ranged.e (limits_of (term_at c.args.self.now.nodes.now.terms c.args.i) c.args.self.now.nodes.now c.node-node.result.now.span c.node-node.result.now.form (Bounded c.in-Ranged.form c.in-Ranged.lo c.in-Ranged.hi c.in-Ranged.e) c.node-node.ensures.form c.in-Ranged.is c.node-node.ensures.limits)).1, c.requires.ready))))

pub judge-returns-in-Ranged : goal.judge-returns-in-Ranged
judge-returns-in-Ranged t c =
    record {
      grows = c.judge_ranged.ensures.grows;
      says = rw (of_form (context_in c.args.arena.now c.args.scope.now) (term_at c.args.self.now.nodes.now.terms c.args.i) c.args.self.now.nodes.now c.node-node.result.now.span c.node-node.result.now.form (Bounded c.in-Ranged.form c.in-Ranged.lo c.in-Ranged.hi c.in-Ranged.e) c.node-node.ensures.form c.in-Ranged.is) (subst (λ (lo : ℤ). Says c.judge_ranged.new.arena c.judge_ranged.result (rule (context_in c.args.arena.now c.args.scope.now) (node_term c.args.self.now.nodes.now c.node-node.result.now.span (Bounded c.in-Ranged.form lo c.in-Ranged.hi c.in-Ranged.e)))) (held c.in-Ranged.lo (range_limits c.args.self.now.nodes.now c.node-node.result.now.span c.in-Ranged.form c.in-Ranged.lo c.in-Ranged.hi c.in-Ranged.e (limits_of (term_at c.args.self.now.nodes.now.terms c.args.i) c.args.self.now.nodes.now c.node-node.result.now.span c.node-node.result.now.form (Bounded c.in-Ranged.form c.in-Ranged.lo c.in-Ranged.hi c.in-Ranged.e) c.node-node.ensures.form c.in-Ranged.is c.node-node.ensures.limits)).0)
          (subst (λ (hi : ℤ). Says c.judge_ranged.new.arena c.judge_ranged.result (rule (context_in c.args.arena.now c.args.scope.now) (node_term c.args.self.now.nodes.now c.node-node.result.now.span (Bounded c.in-Ranged.form (to_z w64 (of_z w64 c.in-Ranged.lo)) hi c.in-Ranged.e)))) (held c.in-Ranged.hi (range_limits c.args.self.now.nodes.now c.node-node.result.now.span c.in-Ranged.form c.in-Ranged.lo c.in-Ranged.hi c.in-Ranged.e (limits_of (term_at c.args.self.now.nodes.now.terms c.args.i) c.args.self.now.nodes.now c.node-node.result.now.span c.node-node.result.now.form (Bounded c.in-Ranged.form c.in-Ranged.lo c.in-Ranged.hi c.in-Ranged.e) c.node-node.ensures.form c.in-Ranged.is c.node-node.ensures.limits)).1) c.judge_ranged.ensures.says));
    }

pub judge-judge_inject-requires : goal.judge-judge_inject-requires
judge-judge_inject-requires t c =
    let k : IsKnown (length c.args.self.now.nodes.now.types) c.args.i (Inject c.in-Inject.side c.in-Inject.u c.in-Inject.t c.in-Inject.e) = subst (λ (f : Form). IsKnown (length c.args.self.now.nodes.now.types) c.args.i f) c.in-Inject.is c.node-node.ensures.known in
    (omega (arith, below_1 c.in-Inject.e c.args.i k.1), (part_known c.in-Inject.e c.args.i (length c.args.self.now.nodes.now.terms) k.1 c.requires.known, (k.0, c.requires.ready)))

pub judge-returns-in-Inject : goal.judge-returns-in-Inject
judge-returns-in-Inject t c =
    record {
      grows = c.judge_inject.ensures.grows;
      says = rw (of_form (context_in c.args.arena.now c.args.scope.now) (term_at c.args.self.now.nodes.now.terms c.args.i) c.args.self.now.nodes.now c.node-node.result.now.span c.node-node.result.now.form (Inject c.in-Inject.side c.in-Inject.u c.in-Inject.t c.in-Inject.e) c.node-node.ensures.form c.in-Inject.is) (c.judge_inject.ensures.says c.node-node.result.now.span);
    }

pub judge-judge_bang-requires : goal.judge-judge_bang-requires
judge-judge_bang-requires t c =
    let k : IsKnown (length c.args.self.now.nodes.now.types) c.args.i (Bang c.in-Bang.r c.in-Bang.e) = subst (λ (f : Form). IsKnown (length c.args.self.now.nodes.now.types) c.args.i f) c.in-Bang.is c.node-node.ensures.known in
    (omega (arith, below_1 c.in-Bang.e c.args.i k), (part_known c.in-Bang.e c.args.i (length c.args.self.now.nodes.now.terms) k c.requires.known, ((limits_of (term_at c.args.self.now.nodes.now.terms c.args.i) c.args.self.now.nodes.now c.node-node.result.now.span c.node-node.result.now.form (Bang c.in-Bang.r c.in-Bang.e) c.node-node.ensures.form c.in-Bang.is c.node-node.ensures.limits).0, c.requires.ready)))

pub judge-returns-in-Bang : goal.judge-returns-in-Bang
judge-returns-in-Bang t c =
    record {
      grows = c.judge_bang.ensures.grows;
      says = rw (of_form (context_in c.args.arena.now c.args.scope.now) (term_at c.args.self.now.nodes.now.terms c.args.i) c.args.self.now.nodes.now c.node-node.result.now.span c.node-node.result.now.form (Bang c.in-Bang.r c.in-Bang.e) c.node-node.ensures.form c.in-Bang.is) (c.judge_bang.ensures.says);
    }

pub judge-judge_let-requires : goal.judge-judge_let-requires
judge-judge_let-requires t c =
    let k : IsKnown (length c.args.self.now.nodes.now.types) c.args.i (Let c.in-Let.x c.in-Let.e c.in-Let.b) = subst (λ (f : Form). IsKnown (length c.args.self.now.nodes.now.types) c.args.i f) c.in-Let.is c.node-node.ensures.known in
    (omega (arith, below_2 c.in-Let.e c.in-Let.b c.args.i k.0 k.1), (part_known c.in-Let.e c.args.i (length c.args.self.now.nodes.now.terms) k.0 c.requires.known, (part_known c.in-Let.b c.args.i (length c.args.self.now.nodes.now.terms) k.1 c.requires.known, c.requires.ready)))

pub judge-returns-in-Let : goal.judge-returns-in-Let
judge-returns-in-Let t c =
    record {
      grows = c.judge_let.ensures.grows;
      says = rw (of_form (context_in c.args.arena.now c.args.scope.now) (term_at c.args.self.now.nodes.now.terms c.args.i) c.args.self.now.nodes.now c.node-node.result.now.span c.node-node.result.now.form (Let c.in-Let.x c.in-Let.e c.in-Let.b) c.node-node.ensures.form c.in-Let.is) (c.judge_let.ensures.says);
    }

pub judge-judge_let_bang-requires : goal.judge-judge_let_bang-requires
judge-judge_let_bang-requires t c =
    let k : IsKnown (length c.args.self.now.nodes.now.types) c.args.i (LetBang c.in-LetBang.x c.in-LetBang.e c.in-LetBang.b) = subst (λ (f : Form). IsKnown (length c.args.self.now.nodes.now.types) c.args.i f) c.in-LetBang.is c.node-node.ensures.known in
    (omega (arith, below_2 c.in-LetBang.e c.in-LetBang.b c.args.i k.0 k.1), (part_known c.in-LetBang.e c.args.i (length c.args.self.now.nodes.now.terms) k.0 c.requires.known, (part_known c.in-LetBang.b c.args.i (length c.args.self.now.nodes.now.terms) k.1 c.requires.known, c.requires.ready)))

pub judge-returns-in-LetBang : goal.judge-returns-in-LetBang
judge-returns-in-LetBang t c =
    record {
      grows = c.judge_let_bang.ensures.grows;
      says = rw (of_form (context_in c.args.arena.now c.args.scope.now) (term_at c.args.self.now.nodes.now.terms c.args.i) c.args.self.now.nodes.now c.node-node.result.now.span c.node-node.result.now.form (LetBang c.in-LetBang.x c.in-LetBang.e c.in-LetBang.b) c.node-node.ensures.form c.in-LetBang.is) (c.judge_let_bang.ensures.says);
    }

pub judge-judge_let_pair-requires : goal.judge-judge_let_pair-requires
judge-judge_let_pair-requires t c =
    let k : IsKnown (length c.args.self.now.nodes.now.types) c.args.i (LetPair c.in-LetPair.x c.in-LetPair.y c.in-LetPair.e c.in-LetPair.b) = subst (λ (f : Form). IsKnown (length c.args.self.now.nodes.now.types) c.args.i f) c.in-LetPair.is c.node-node.ensures.known in
    (omega (arith, below_2 c.in-LetPair.e c.in-LetPair.b c.args.i k.0 k.1), (part_known c.in-LetPair.e c.args.i (length c.args.self.now.nodes.now.terms) k.0 c.requires.known, (part_known c.in-LetPair.b c.args.i (length c.args.self.now.nodes.now.terms) k.1 c.requires.known, c.requires.ready)))

pub judge-returns-in-LetPair : goal.judge-returns-in-LetPair
judge-returns-in-LetPair t c =
    record {
      grows = c.judge_let_pair.ensures.grows;
      says = rw (of_form (context_in c.args.arena.now c.args.scope.now) (term_at c.args.self.now.nodes.now.terms c.args.i) c.args.self.now.nodes.now c.node-node.result.now.span c.node-node.result.now.form (LetPair c.in-LetPair.x c.in-LetPair.y c.in-LetPair.e c.in-LetPair.b) c.node-node.ensures.form c.in-LetPair.is) (c.judge_let_pair.ensures.says);
    }

pub judge-judge_if-requires : goal.judge-judge_if-requires
judge-judge_if-requires t c =
    let k : IsKnown (length c.args.self.now.nodes.now.types) c.args.i (If c.in-If.e c.in-If.a c.in-If.b) = subst (λ (f : Form). IsKnown (length c.args.self.now.nodes.now.types) c.args.i f) c.in-If.is c.node-node.ensures.known in
    (omega (arith, below_3 c.in-If.e c.in-If.a c.in-If.b c.args.i k.0 k.1 k.2), (part_known c.in-If.e c.args.i (length c.args.self.now.nodes.now.terms) k.0 c.requires.known, (part_known c.in-If.a c.args.i (length c.args.self.now.nodes.now.terms) k.1 c.requires.known, (part_known c.in-If.b c.args.i (length c.args.self.now.nodes.now.terms) k.2 c.requires.known, c.requires.ready))))

pub judge-returns-in-If : goal.judge-returns-in-If
judge-returns-in-If t c =
    record {
      grows = c.judge_if.ensures.grows;
      says = rw (of_form (context_in c.args.arena.now c.args.scope.now) (term_at c.args.self.now.nodes.now.terms c.args.i) c.args.self.now.nodes.now c.node-node.result.now.span c.node-node.result.now.form (If c.in-If.e c.in-If.a c.in-If.b) c.node-node.ensures.form c.in-If.is) (c.judge_if.ensures.says);
    }

pub judge-judge_case-requires : goal.judge-judge_case-requires
judge-judge_case-requires t c =
    let k : IsKnown (length c.args.self.now.nodes.now.types) c.args.i (Case c.in-Case.e c.in-Case.x c.in-Case.a c.in-Case.y c.in-Case.b) = subst (λ (f : Form). IsKnown (length c.args.self.now.nodes.now.types) c.args.i f) c.in-Case.is c.node-node.ensures.known in
    (omega (arith, below_3 c.in-Case.e c.in-Case.a c.in-Case.b c.args.i k.0 k.1 k.2), (part_known c.in-Case.e c.args.i (length c.args.self.now.nodes.now.terms) k.0 c.requires.known, (part_known c.in-Case.a c.args.i (length c.args.self.now.nodes.now.terms) k.1 c.requires.known, (part_known c.in-Case.b c.args.i (length c.args.self.now.nodes.now.terms) k.2 c.requires.known, c.requires.ready))))

pub judge-returns-in-Case : goal.judge-returns-in-Case
judge-returns-in-Case t c =
    record {
      grows = c.judge_case.ensures.grows;
      says = rw (of_form (context_in c.args.arena.now c.args.scope.now) (term_at c.args.self.now.nodes.now.terms c.args.i) c.args.self.now.nodes.now c.node-node.result.now.span c.node-node.result.now.form (Case c.in-Case.e c.in-Case.x c.in-Case.a c.in-Case.y c.in-Case.b) c.node-node.ensures.form c.in-Case.is) (c.judge_case.ensures.says);
    }

pub judge-judge_lambda-requires : goal.judge-judge_lambda-requires
judge-judge_lambda-requires t c =
    let k : IsKnown (length c.args.self.now.nodes.now.types) c.args.i (Lambda c.in-Lambda.form c.in-Lambda.x c.in-Lambda.u c.in-Lambda.t c.in-Lambda.e) = subst (λ (f : Form). IsKnown (length c.args.self.now.nodes.now.types) c.args.i f) c.in-Lambda.is c.node-node.ensures.known in
    (omega (arith, below_1 c.in-Lambda.e c.args.i k.1), (part_known c.in-Lambda.e c.args.i (length c.args.self.now.nodes.now.terms) k.1 c.requires.known, (k.0, c.requires.ready)))

pub judge-returns-in-Lambda : goal.judge-returns-in-Lambda
judge-returns-in-Lambda t c =
    record {
      grows = c.judge_lambda.ensures.grows;
      says = rw (of_form (context_in c.args.arena.now c.args.scope.now) (term_at c.args.self.now.nodes.now.terms c.args.i) c.args.self.now.nodes.now c.node-node.result.now.span c.node-node.result.now.form (Lambda c.in-Lambda.form c.in-Lambda.x c.in-Lambda.u c.in-Lambda.t c.in-Lambda.e) c.node-node.ensures.form c.in-Lambda.is) (c.judge_lambda.ensures.says);
    }
