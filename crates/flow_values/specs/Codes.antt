-- What values and scopes stand for, with how deep they are held, as trees of numbers: what proofs tell them apart by.
use Rattle.std.specs.Prelude.{Bool, List, Option, refl, ◌≡◌, ℕ}
use Rattle.std.specs.Coded.{Coded, code_by, coded_bool, coded_list, coded_option, coded_ℕ, coded×}
use denote.Struct.Codes.{itself}
use base.Stored.{Gv, gnum, gcons}
use Rattle.metric_values.specs.Values.{Empty, UnitV, Value}
use Rattle.run_values.specs.Codes.{env_back, env_from, env_to, value_back, value_code, value_from, value_to}
use Rattle.flow_values.specs.Held.{Held, HeldChain, HeldScope}
use Rattle.flow_values.specs.Steps.{Step}

abbrev pub held_to : Held → Gv
held_to h = gcons (gnum h.deep) (value_to h.means)

abbrev pub held_from : Gv → Held
held_from (gcons (gnum n) g) = record { means = value_from g; deep = n }
held_from g = record { means = UnitV; deep = 0 }

pub held_back : (h : Held) → held_from (held_to h) ≡ h
held_back h = λ i. record { means = value_back h.means i; deep = h.deep }

abbrev pub scope_to : HeldScope → Gv
scope_to s = gcons (gnum s.deep) (env_to s.means)

abbrev pub scope_from : Gv → HeldScope
scope_from (gcons (gnum n) g) = record { means = env_from g; deep = n }
scope_from g = record { means = Empty; deep = 0 }

pub scope_back : (s : HeldScope) → scope_from (scope_to s) ≡ s
scope_back s = λ i. record { means = env_back s.means i; deep = s.deep }

abbrev pub held_code : Coded Held
held_code = code_by Gv itself held_to held_from held_back

abbrev pub scope_code : Coded HeldScope
scope_code = code_by Gv itself scope_to scope_from scope_back

abbrev pub step_code : Coded Step
step_code =
    code_by (Value × (ℕ × Option Bool)) (coded× value_code (coded× coded_ℕ (coded_option coded_bool)))
    (λ s. (s.function, (s.left, s.keeps))) (λ p. record { function = p.0; left = p.1.0; keeps = p.1.1 }) (λ _. refl)

abbrev pub chain_code : Coded HeldChain
chain_code =
    code_by (List Step × ℕ) (coded× (coded_list step_code) coded_ℕ)
    (λ h. (h.steps, h.deep)) (λ p. record { steps = p.0; deep = p.1 }) (λ _. refl)
