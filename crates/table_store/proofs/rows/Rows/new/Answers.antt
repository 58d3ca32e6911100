-- The bytes without a byte order mark, which csv reads without another.
use Rattle.std.proofs.Common.{◌≡◌, ℕ, ◌+◌, length, Bool, true, false, nat_eq, List, [], ◌∷◌, take, drop, Option, Some, None, Bor, ◌∙◌, refl, sym, ap}
use Rattle.std.specs.Prelude.{◌&&◌, ◌==◌, MatchOption, unwrap_or}
use Rattle.std.specs.Cmp.Lexicographic.{bytes_decides, pointwise}
use Rattle.csv.specs.Reading.{strip_bom}
use Rattle.table_store.specs.Reader.{records_left}
use Rattle.table_store.proofs.rows.Rows.new.Goals as goal

abbrev mark : List ℕ
mark = 239 ∷ 187 ∷ 191 ∷ []

regroup : (x y z : Bool) → (x && (y && (z && true))) ≡ ((x && y) && z)
regroup true true true = refl
regroup true true false = refl
regroup true false z = refl
regroup false y z = refl

unmarked : (bytes : List ℕ) → pointwise nat_eq (take 3 bytes) mark ≡ false → bytes ≡ strip_bom bytes
unfolding strip_bom
unmarked [] e = refl
unmarked (a ∷ []) e = refl
unmarked (a ∷ b ∷ []) e = refl
unmarked (a ∷ b ∷ c ∷ rest) e = rw (sym (regroup (a == 239) (b == 187) (c == 191)) ∙ e) refl

marked : (bytes : List ℕ) → pointwise nat_eq (take 3 bytes) mark ≡ true → drop 3 bytes ≡ strip_bom bytes
unfolding strip_bom
marked [] e = refl
marked (a ∷ []) e = cc ((bytes_decides (a ∷ []) mark).0 e)
marked (a ∷ b ∷ []) e = cc ((bytes_decides (a ∷ b ∷ []) mark).0 e)
marked (a ∷ b ∷ c ∷ rest) e = rw (sym (regroup (a == 239) (b == 187) (c == 191)) ∙ e) refl

without_mark : (bytes : Bor (List ℕ)) (o : Option (Bor (List ℕ)))
    → MatchOption o (pointwise nat_eq (take 3 bytes.now) mark
    ≡ false) (λ x. (pointwise nat_eq (take 3 bytes.now) mark ≡ true) × (x.now ≡ drop 3 bytes.now) × (length x.now + 3 ≡ length bytes.now))
    → (unwrap_or o bytes).now ≡ strip_bom bytes.now
without_mark bytes None h = unmarked bytes.now h
without_mark bytes (Some x) h = h.1 ∙ marked bytes.now h.0

pub returns-in-Ok-clause-all : goal.returns-in-Ok-clause-all
returns-in-Ok-clause-all c =
    let text = c.unwrap_or-text.result.now in
    let is : text ≡ strip_bom c.args.bytes.now =
    ap (λ (x : Bor (List ℕ)). x.now) c.unwrap_or-text.ensures ∙ without_mark c.args.bytes c.strip_prefix.result c.strip_prefix.ensures.cases in
    let e = c.from_reader-reader.ensures in
    ap records_left c.in-Ok.ensures.same ∙ rw (e.source, e.state, is) refl
