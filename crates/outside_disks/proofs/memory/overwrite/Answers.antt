use Rattle.std.proofs.Common.{◌≡◌, ℕ, ◌+◌, List, ◌++◌, ◌-◌, replicate, vec_len, length, take, drop, ◌∙◌, ap, arith, rules}
use Rattle.std.proofs.lemmas.List.{take_all, drop_all, append-nil}
use Rattle.outside_disks.proofs.Pools.{pasted}
use Rattle.outside_disks.proofs.memory.overwrite.Goals as goal

-- a list that was changed as a slice of the whole
whole : (n : ℕ) (xs ys : List ℕ) → n ≡ length ys → length xs ≡ length ys → take n (xs ++ drop (length xs) ys) ≡ xs
whole n xs ys is long =
    ap (λ (l : List ℕ). take n (xs ++ l)) (drop_all (length xs) ys (omega arith)) ∙ ap (λ (l : List ℕ). take n l) (append-nil xs) ∙ take_all n xs (omega arith)

pub returns-clause-ok : goal.returns-clause-ok
returns-clause-ok c =
    let size : c.grow.new.bytes.len ≡ length c.grow.new.bytes.items = search rules in
    let long : length c.paste.new.bytes ≡ length c.grow.new.bytes.items = omega arith in
    let count : vec_len c.args.bytes.now ≡ length c.args.bytes.now.items = search rules in
    let grown : c.grow.new.bytes.items ≡ c.args.bytes.now.items ++ replicate (c.args.place + length c.args.piece.now - length c.args.bytes.now.items) 0
    = c.in_ok-grow.ensures.ok ∙ ap (λ (n : ℕ). c.args.bytes.now.items ++ replicate (c.args.place + length c.args.piece.now - n) 0) count in
    whole c.grow.new.bytes.len c.paste.new.bytes c.grow.new.bytes.items size long
    ∙ c.paste.ensures
    ∙ ap (λ (l : List ℕ). take c.args.place l ++ c.args.piece.now ++ drop (c.args.place + length c.args.piece.now) l) (c.deref_mut.ensures.value ∙ grown)
    ∙ pasted c.args.bytes.now.items c.args.place c.args.piece.now
