-- The fractions of a derivation: each product, quotient and sum that a row of the typing rules makes.
-- The greater of two is no fraction of a row.
use Rattle.std.specs.Prelude.{Bool, false, ◌||◌}
use Rattle.fz_frac.specs.Distance.{Distance, Inf, greater, quotient}
use Rattle.fz_frac.specs.Lowest.{is_out}
use Rattle.fz_ast.specs.Terms.{Term}
use Rattle.fz_ast.specs.Types.{Ty}
use Rattle.linear_types.specs.Sensitivities.{Sensitivities, above_zero, first, join, plus, rest, scale}
use Rattle.linear_types.specs.Typing.{Context, Typing, is_app, is_at_most, is_bang, is_case, is_clip, is_eq_num, is_eq_text, is_filter}
use Rattle.linear_types.specs.Typing.{is_fn, is_fst, is_fun, is_greatest, is_if, is_inl, is_inr, is_least, is_let, is_let_bang}
use Rattle.linear_types.specs.Typing.{is_let_pair, is_map, is_minus, is_num, is_pair, is_plus, is_size, is_snd, is_split, is_sum}
use Rattle.linear_types.specs.Typing.{is_text, is_times, is_union, is_unit, is_var, is_with, size_of, widest_of}
use Rattle.linear_types.specs.Inferred.{any_out}

-- D + r E: the products or their sums
abbrev pub bound_out : Sensitivities → Distance → Sensitivities → Bool
bound_out D r E = any_out (scale r E) || any_out (plus D (scale r E))

-- inf D + inf E: the products or their sums
abbrev pub compared_out : Sensitivities → Sensitivities → Bool
compared_out D E = any_out (scale Inf D) || (any_out (scale Inf E) || any_out (plus (scale Inf D) (scale Inf E)))

-- inf D + E: the products or their sums
abbrev pub each_out : Sensitivities → Sensitivities → Bool
each_out D E = any_out (scale Inf D) || any_out (plus (scale Inf D) E)

-- some fraction of a derivation is out of range: one of its parts', or one of its last row
abbrev pub is_out_of_range : {Γ : Context} {e : Term} {A : Ty} {D : Sensitivities} → Typing Γ e A D → Bool
is_out_of_range (is_var h) = false
is_out_of_range (is_num l) = false
is_out_of_range (is_text l) = false
is_out_of_range is_unit = false
is_out_of_range (is_pair {D = D} {E = E} p q) = is_out_of_range p || (is_out_of_range q || any_out (plus D E))
is_out_of_range (is_with p q) = is_out_of_range p || is_out_of_range q
is_out_of_range (is_fst p) = is_out_of_range p
is_out_of_range (is_snd p) = is_out_of_range p
is_out_of_range (is_let_pair {D = D} {E = E} p q) = is_out_of_range p || (is_out_of_range q || bound_out (rest (rest D)) (greater (first (rest D)) (first D)) E)
is_out_of_range (is_inl p w g h) = is_out_of_range p
is_out_of_range (is_inr p w g h) = is_out_of_range p
is_out_of_range (is_case {D = D} {E = E} {F = F} p q r g) = is_out_of_range p
    || (is_out_of_range q || (is_out_of_range r || bound_out (join (rest D) (rest E)) (above_zero (greater (first D) (first E))) F))
is_out_of_range (is_if {D = D} {E = E} {F = F} p q r g) = is_out_of_range p || (is_out_of_range q || (is_out_of_range r || any_out (plus (join D E) F)))
is_out_of_range (is_fun p w h) = is_out_of_range p
is_out_of_range (is_fn p w) = is_out_of_range p
is_out_of_range (is_app {D = D} {E = E} p q) = is_out_of_range p || (is_out_of_range q || any_out (plus D E))
is_out_of_range (is_bang {r = r} {D = D} p w) = is_out_of_range p || any_out (scale r D)
is_out_of_range (is_let_bang {r = s} {D = D} {E = E} p q) = is_out_of_range p
    || (is_out_of_range q || (is_out (quotient (first D) s) || bound_out (rest D) (quotient (first D) s) E))
is_out_of_range (is_let {D = D} {E = E} p q) = is_out_of_range p || (is_out_of_range q || bound_out (rest D) (first D) E)
is_out_of_range (is_plus {D = D} {E = E} p q) = is_out_of_range p || (is_out_of_range q || any_out (plus D E))
is_out_of_range (is_minus {D = D} {E = E} p q) = is_out_of_range p || (is_out_of_range q || any_out (plus D E))
is_out_of_range (is_times {k = k} {D = D} p) = is_out_of_range p || (is_out (size_of k) || any_out (scale (size_of k) D))
is_out_of_range (is_at_most {D = D} {E = E} p q) = is_out_of_range p || (is_out_of_range q || compared_out D E)
is_out_of_range (is_eq_num {D = D} {E = E} p q) = is_out_of_range p || (is_out_of_range q || compared_out D E)
is_out_of_range (is_eq_text {D = D} {E = E} p q) = is_out_of_range p || (is_out_of_range q || any_out (plus D E))
is_out_of_range (is_clip p l h) = is_out_of_range p
is_out_of_range (is_least p) = is_out_of_range p
is_out_of_range (is_greatest p) = is_out_of_range p
is_out_of_range (is_size p) = is_out_of_range p
is_out_of_range (is_sum {lo = lo} {hi = hi} {D = D} p) = is_out_of_range p || (is_out (widest_of lo hi) || any_out (scale (widest_of lo hi) D))
is_out_of_range (is_union {D = D} {E = E} p q) = is_out_of_range p || (is_out_of_range q || any_out (plus D E))
is_out_of_range (is_map {D = D} {E = E} p f q) = is_out_of_range p || (is_out_of_range q || each_out D E)
is_out_of_range (is_filter {D = D} {E = E} p q) = is_out_of_range p || (is_out_of_range q || each_out D E)
is_out_of_range (is_split {D = D} {E = E} p q) = is_out_of_range p || (is_out_of_range q || each_out D E)
