-- Steps that are told or not.
use Rattle.std.proofs.Common.{◌≡◌, ℕ, ◌≤◌, List, length, refl, sym, ◌∙◌, subst, inl, inr, Option, Some, None, option_map}
use Rattle.outside_disks.specs.Disks.{Step, Trace, after, noted, WhereTold, MayHaveWritten}
use Rattle.outside_disks.specs.Disks.Step.{Wrote}

-- a relation between each trace and what was done to it
pub told-map : (R : Trace → Trace → Type 0) (f : Trace → Trace) (told : Option Trace) → ((t : Trace) → R t (f t)) → WhereTold R told (option_map f told)
told-map R f None each = tt
told-map R f (Some t) each = each t

pub told-is : (R : Trace → Trace → Type 0) (f : Trace → Trace) (old new : Option Trace) → new ≡ option_map f old → ((t : Trace) → R t (f t))
    → WhereTold R old new
told-is R f old new is each = subst (λ (o : Option Trace). WhereTold R old o) (sym is) (told-map R f old each)

pub noted-both : (f : Trace → Trace) (step : Step) (told : Option Trace) → noted step (option_map f told) ≡ option_map (λ t. after step (f t)) told
noted-both f step None = refl
noted-both f step (Some t) = refl

pub noted-twice : (f : Trace → Trace) (first second : Step) (told : Option Trace)
    → noted second (noted first (option_map f told)) ≡ option_map (λ t. after second (after first (f t))) told
noted-twice f first second None = refl
noted-twice f first second (Some t) = refl

pub same-map : (told : Option Trace) → told ≡ option_map (λ t. t) told
same-map None = refl
same-map (Some t) = refl

-- after a write that failed
pub told-tried : (R : Trace → Trace → Type 0) (f : Trace → Trace) (place size : ℕ) (old mid new : Option Trace) → mid ≡ option_map f old
    → MayHaveWritten place size mid new
    → ((t : Trace) → R t (f t)) → ((t : Trace) (bytes : List ℕ) → length bytes ≤ size → R t (after (Wrote place bytes) (f t))) → WhereTold R old new
told-tried R f place size old mid new is (inl none) same some = told-is R f old new (none ∙ is) same
told-tried R f place size old mid new is (inr wrote) same some =
    told-is R (λ t. after (Wrote place wrote.0) (f t)) old new
    (wrote.2 ∙ subst (λ (o : Option Trace). noted (Wrote place wrote.0) mid ≡ noted (Wrote place wrote.0) o) is refl ∙ noted-both f (Wrote place wrote.0) old)
    (λ t. some t wrote.0 wrote.1)

-- one relation after another
pub told-both : (R S Q : Trace → Trace → Type 0) → ((t u v : Trace) → R t u → S u v → Q t v) → (old mid new : Option Trace) → WhereTold R old mid
    → WhereTold S mid new → WhereTold Q old new
told-both R S Q join None None None r s = tt
told-both R S Q join None None (Some v) r s = s
told-both R S Q join None (Some u) new r s = absurd r
told-both R S Q join (Some t) None new r s = absurd r
told-both R S Q join (Some t) (Some u) None r s = s
told-both R S Q join (Some t) (Some u) (Some v) r s = join t u v r s

-- nothing was done
pub told-none : (R : Trace → Trace → Type 0) → ((t : Trace) → R t t) → (told : Option Trace) → WhereTold R told told
told-none R each None = tt
told-none R each (Some t) = each t
