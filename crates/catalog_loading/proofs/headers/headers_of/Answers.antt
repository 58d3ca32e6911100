use Rattle.std.proofs.Common.{◌≡◌, ◌<◌, ◌+◌, ◌++◌, ℕ, List, [], ◌∷◌, get_or, arith, sym, subst}
use Rattle.std.specs.List.{All}
use Rattle.std.proofs.lemmas.List.Elements.{All-append}
use Rattle.journal_records.specs.Encoding.{IsHeader}
use Rattle.journal_records.specs.declared.records.Header.{Header}
use Rattle.catalog_loading.specs.Loaded.{new_header}
use Rattle.catalog_loading.proofs.Hashes.{next_header, one_valid}
use Rattle.catalog_loading.proofs.headers.headers_of.Goals as goal

pub loop-owner-preserved : goal.loop-owner-preserved
loop-owner-preserved g c =
    let o = c.loop-owner.owner in
    let f = new_header c.args.opened.now.loading c.args.opened.now.key in
    let pushed : c.push.new.self.items ≡ c.loop-owner.headers.items ++ c.in_ok-header.header ∷ [] = c.in_ok-push.ensures.items in
    record {
      count = grind (arith, pushed, c.loop-owner.invariant.count);
      headers = subst (λ (xs : List Header). (p : ℕ) (d : Header) → p < o + 1 → get_or xs p d ≡ f p) (sym pushed)
          (next_header f c.loop-owner.headers.items c.in_ok-header.header o c.loop-owner.invariant.count c.loop-owner.invariant.headers c.in_ok-header.ensures.header);
      valid = subst (All IsHeader) (sym pushed) (All-append IsHeader c.loop-owner.headers.items (c.in_ok-header.header ∷ []) c.loop-owner.invariant.valid
          (one_valid c.in_ok-header.header c.in_ok-header.ensures.valid));
    }
