use Rattle.std.proofs.Common.{◌≡◌, ◌<◌, ◌^◌, true≢false, [], ◌∷◌, ◌++◌, length, ap, sym, subst, ◌∙◌}
use Rattle.std.specs.Prelude.{IfSome}
use Rattle.derivation_lines.specs.Lines.{AreInOrder}
use Rattle.derivation_lines.specs.Said.{said_of, says_of}
use Rattle.derivation_lines.specs.Pieces.{pieces_behind}
use Rattle.derivation_lines.proofs.Says.{says_grow}
use Rattle.derivation_lines.proofs.Pieces.{passed, explained}
use Rattle.derivation_lines.proofs.Behind.{AreRead, shorter, none_read, all_read, more_read, nothing_said_here, not_in_order}
use Rattle.derivation_lines.proofs.lines.read_says.Goals as goal
use Rattle.derivation_lines.proofs.lines.read_says.Goals.{After-split_piece}

-- the pieces that are left, by the first
left : (c : After-split_piece) → pieces_behind c.loop-behind.behind ≡ c.split_piece.result.0.now ∷ pieces_behind c.split_piece.result.1
left c = ap pieces_behind c.in-Some.is ∙ c.split_piece.ensures.pieces

pub loop-behind-init : goal.loop-behind-init
loop-behind-init c = record { read = rw c.new-says.ensures.items (none_read (pieces_behind c.args.behind)); short = c.requires }

pub loop-behind-preserved : goal.loop-behind-preserved
loop-behind-preserved c =
    let said = c.in_ok-said.said in
    let up : AreInOrder (says_of c.loop-behind.says.items ++ said_of said ∷ []) =
    subst (λ xs. AreInOrder (says_of xs ++ said_of said ∷ [])) c.deref.ensures.value (c.may_follow.ensures.0 c.if-not-may_follow.false) in
    let more = more_read (pieces_behind c.args.behind) _ _ _ _ (said_of said) c.loop-behind.invariant.read (left (goal.at.loop-behind-preserved c).After-split_piece) c.in_ok-said.ensures.is up in
    let short : length c.in-Some.text.now < 2 ^ 32 = subst (λ o. IfSome o (λ rest. length rest.now < 2 ^ 32)) c.in-Some.is c.loop-behind.invariant.short in
    record {
      read = rw c.in_default-push.ensures.items (rw (says_grow c.loop-behind.says.items said) more);
      short = shorter c.split_piece.result.1 (length c.in-Some.text.now) (2 ^ 32) short c.split_piece.ensures.rest;
    }

pub returns-in_err-said-clause-fault : goal.returns-in_err-said-clause-fault
returns-in_err-said-clause-fault c =
    passed _ c.from_residual.result _ c.from_residual.ensures.1
    (λ form. nothing_said_here _ _ _ _ _ c.loop-behind.invariant.read (left (goal.at.returns-in_err-said-clause-fault c).After-split_piece) (explained _ _ c.in_err-said.ensures.fault form))

pub returns-then-not-may_follow-clause-fault : goal.returns-then-not-may_follow-clause-fault
returns-then-not-may_follow-clause-fault c =
    not_in_order _ _ _ _ _ _ c.loop-behind.invariant.read (left (goal.at.returns-then-not-may_follow-clause-fault c).After-split_piece) c.in_ok-said.ensures.is
    (λ up.
    let yes = c.may_follow.ensures.1 (subst (λ xs. AreInOrder (says_of xs ++ said_of c.in_ok-said.said ∷ [])) (sym c.deref.ensures.value) up) in
    true≢false (sym yes ∙ c.if-not-may_follow.true))

pub returns : goal.returns
returns c =
    let read = subst (λ o. AreRead (pieces_behind c.args.behind) (pieces_behind o) (says_of c.loop-behind.says.items)) c.in_default.is c.loop-behind.invariant.read in
    record { are = all_read (pieces_behind c.args.behind) (says_of c.loop-behind.says.items) read; fault = tt }
