-- What is made of a bag's elements.
use Rattle.std.specs.Prelude.{Bool, List, None, Option, Some, [], cond, pos, ℤ, ◌+ℤ◌, ◌∷◌, ◌≡◌, ⊤}
use Rattle.std.proofs.Common.{of_z, to_z, w64}
use Rattle.metric_values.specs.Numbers.{clip}
use Rattle.metric_values.specs.Values.{Flat, NumF}
use Rattle.flow_values.specs.Computed.{flat_number}
use Rattle.row_kernels.specs.declared.gather.Gather.{Gather}
use Rattle.row_kernels.specs.declared.gather.Gather.TheVariants.{Size, Sum}

-- as 64 bits hold it
abbrev pub held : ℤ → ℤ
held z = to_z w64 (of_z w64 z)

-- what an element adds
abbrev pub weigh : Gather → Flat → ℤ
weigh Size x = pos 1
weigh (Sum lo hi) x = clip (held lo) (held hi) (flat_number x)

abbrev pub weigh_some : Gather → Option Flat → ℤ
weigh_some g None = pos 0
weigh_some g (Some x) = weigh g x

abbrev pub gathered : Gather → List Flat → ℤ
gathered g [] = pos 0
gathered g (x ∷ xs) = weigh g x +ℤ gathered g xs

-- a sum is made of numbers
abbrev pub IsWeighed : Gather → Flat → Type 0
IsWeighed Size x = ⊤
IsWeighed (Sum lo hi) x = x ≡ NumF (flat_number x)

abbrev pub AllWeighed : Gather → List Flat → Type 0
AllWeighed g [] = ⊤
AllWeighed g (x ∷ xs) = IsWeighed g x × AllWeighed g xs

abbrev pub count_there : List Bool → ℤ
count_there [] = pos 0
count_there (b ∷ bs) = cond b (pos 1) (pos 0) +ℤ count_there bs

abbrev pub sum_there : ℤ → ℤ → List ℤ → List Bool → ℤ
sum_there lo hi (z ∷ zs) (b ∷ bs) = cond b (clip lo hi z) (pos 0) +ℤ sum_there lo hi zs bs
sum_there lo hi zs bs = pos 0
