-- how a session ends
use Rattle.std.proofs.Common.{◌≡◌, ℕ, zero, suc, ◌+◌, ◌-◌, ◌<◌, ◌≤◌, Bool, true, false, List, [], ◌∷◌, ◌++◌, length, take, Option, refl, sym, ◌∙◌, ap, subst, arith, append-nil, append_assoc, length-append, inl, inr}
use Rattle.std.specs.Prelude.{MatchBool, Result, Ok, Err}
use Rattle.std.specs.Io.KnownBytes.{IsAtEnd, prepend_known}
use Rattle.fz_outside.specs.Faults.{HasRisen}
use Rattle.fz_outside.specs.declared.Failed.{Failed}
use Rattle.outside_links.specs.Links.{Connection, HasGiven, HasTaken}
use Rattle.outside_links.proofs.Said.{given_none, given_further, taken_none, taken_further}
use Rattle.wire_lines.specs.Lines.{lf, without_cr, lines_of}
use Rattle.wire_lines.specs.Reply.{Replied, reply_text}
use Rattle.session_core.specs.OwnerDesk.Passes.{Pass}
use Rattle.session_core.specs.OwnerHouse.House.{House}
use Rattle.session_serve.specs.Session.{AreWhole, HasNoEnd, AreNoBye, EndsWithBye, HasAnswered, IsCutShort, reply_texts, HasEnded, IsSession, session_limit}
use Rattle.session_serve.specs.Code.{Keeps, IsLineAnswered, GoesOnWith, HasParted, HasBroken, Leads}
use Rattle.session_serve.specs.declared.serve.SessionEnd.TheVariants.{Bye, EndOfInput, ReadFault, WriteFault, TooLong, NoMemory}
use Rattle.session_serve.specs.declared.serve.Session.{Session}
use Rattle.session_serve.proofs.Whole.{line_at_end, no_lines_yet}
use Rattle.session_serve.proofs.Answered.{answered_none}
use Rattle.session_serve.proofs.Steps.{answered_more, no_bye_more, bye_more, took_more, took_part, cut_short, risen_more, line_more, goes_link}

-- a line is left over where what is kept isn't empty
pub some_left : (b : Bool) (raw : List ℕ) → b ≡ false → MatchBool b (raw ≡ []) (0 < length raw) → 0 < length raw
some_left true raw is h = absurd cc
some_left false raw is h = h

take_front : (xs ys : List ℕ) → take (length xs) (xs ++ ys) ≡ xs
take_front [] ys = refl
take_front (x ∷ xs) ys = ap (λ (zs : List ℕ). x ∷ zs) (take_front xs ys)

-- the bytes of a piece that was read into the front of a buffer
take_in_front : (n : ℕ) (xs ys : List ℕ) → n ≤ length xs → take n (xs ++ ys) ≡ take n xs
take_in_front zero xs ys h = refl
take_in_front (suc n) [] ys h = absurd (omega (arith, h))
take_in_front (suc n) (x ∷ xs) ys h = ap (λ (zs : List ℕ). x ∷ zs) (take_in_front n xs ys (omega (arith, h)))

pub piece_length : (n : ℕ) (xs ys : List ℕ) → n ≤ length xs → length (take n (xs ++ ys)) ≡ n
piece_length zero xs ys h = refl
piece_length (suc n) [] ys h = absurd (omega (arith, h))
piece_length (suc n) (x ∷ xs) ys h = let rest = piece_length n xs ys (omega (arith, h)) in omega (arith, rest)

pub gave_piece : (begin before now last : Option (List ℕ)) (given buf rest : List ℕ) (n : ℕ) → n ≤ length buf → HasGiven begin given before → HasGiven before (take n buf) now → last ≡ now
    → HasGiven begin (given ++ take n (buf ++ rest)) last
gave_piece begin before now last given buf rest n within g f same =
    subst (λ (l : Option (List ℕ)). HasGiven begin (given ++ take n (buf ++ rest)) l) (sym same)
    (subst (λ (bs : List ℕ). HasGiven begin (given ++ bs) now) (sym (take_in_front n buf rest within)) (given_further begin before now given (take n buf) g f))

module _ (house : House) (draws : ℕ → ℕ → ℕ → ℕ) where
  -- where memory is wanting nothing was done
  pub ends_unread : (old : Connection) (passes : List Pass) → IsSession house draws NoMemory old old passes passes
  ends_unread old passes = record {
    answered = [];
    behind = [];
    replies = [];
    text = [];
    gave = given_none old.left old.left refl;
    took = taken_none old.written old.written refl;
    within = omega arith;
    taken = omega arith;
    told = answered_none house draws passes;
    ends = (refl, refl, (refl, refl));
  }

  module _ (start : List Pass) (begin : Connection) (given : List ℕ) where
    -- at the end of the input, where no line is left over
    pub ends_empty : (session : Session) (now : Connection) (passes : List Pass) (g : GoesOnWith house draws start begin given session now passes) → g.raw ≡ [] → HasGiven begin.left given now.left
        → IsAtEnd now.left → length given ≤ session_limit → IsSession house draws EndOfInput begin now start passes
    ends_empty session now passes g none gave at_end within = record {
      answered = g.answered;
      behind = [];
      replies = g.replies;
      text = reply_texts g.replies;
      gave = subst (λ (bs : List ℕ). HasGiven begin.left bs now.left) (g.cut ∙ ap (λ (bs : List ℕ). g.answered ++ bs) none) gave;
      took = g.took;
      within = omega (arith, within, ap length g.cut, length-append g.answered g.raw);
      taken = omega (arith, within, ap length g.cut, length-append g.answered g.raw);
      told = g.told;
      ends = (g.no_bye, refl, at_end, (refl, g.faults));
    }

    -- .. and where one is
    module _ (session : Session) (next : Session) (now after : Connection) (passes later : List Pass) (g : GoesOnWith house draws start begin given session now passes) (some : 0 < length g.raw)
        (gave : HasGiven begin.left given now.left) (same : after.left ≡ now.left) (at_end : IsAtEnd now.left) (within : length given ≤ session_limit) where
      one : lines_of g.raw ≡ without_cr g.raw ∷ []
      one = line_at_end g.raw g.unended some

      gave_all : HasGiven begin.left ((g.answered ++ g.raw) ++ []) after.left
      gave_all = gave ∙ ap (λ (left : Option (List ℕ)). prepend_known given left) (sym same)
          ∙ ap (λ (bs : List ℕ). prepend_known bs after.left) (g.cut ∙ sym (append-nil (g.answered ++ g.raw)))

      ended : IsAtEnd after.left
      ended = subst IsAtEnd (sym same) at_end

      inside : length (g.answered ++ g.raw) ≤ session_limit
      inside = omega (arith, within, ap length g.cut)

      pub ends_last : IsLineAnswered house draws (Ok false) (without_cr g.raw) session.who next.who now after passes later → IsSession house draws EndOfInput begin after start later
      ends_last r = record {
        answered = g.answered ++ g.raw;
        behind = [];
        replies = g.replies ++ r.x.reply ∷ [];
        text = reply_texts (g.replies ++ r.x.reply ∷ []);
        gave = gave_all;
        took = took_more house draws start begin given g.raw (without_cr g.raw) session next.who now after passes later (Ok false) g one r r.told.1;
        within = inside;
        taken = omega (arith, inside);
        told = answered_more house draws start begin given g.raw (without_cr g.raw) session next.who now after passes later (Ok false) g one r;
        ends = (no_bye_more house draws start begin given g.raw (without_cr g.raw) session next.who now after passes later (Ok false) g one r (sym r.told.0), refl, ended, (refl, r.told.2 ∙ g.faults));
      }

      pub ends_bye : IsLineAnswered house draws (Ok true) (without_cr g.raw) session.who next.who now after passes later → IsSession house draws Bye begin after start later
      ends_bye r = record {
        answered = g.answered ++ g.raw;
        behind = [];
        replies = g.replies ++ r.x.reply ∷ [];
        text = reply_texts (g.replies ++ r.x.reply ∷ []);
        gave = gave_all;
        took = took_more house draws start begin given g.raw (without_cr g.raw) session next.who now after passes later (Ok true) g one r r.told.1;
        within = inside;
        taken = omega (arith, inside);
        told = answered_more house draws start begin given g.raw (without_cr g.raw) session next.who now after passes later (Ok true) g one r;
        ends = (bye_more house draws start begin given g.raw (without_cr g.raw) session next.who now after passes later (Ok true) g one r (sym r.told.0), inr (refl, ended), (refl, r.told.2 ∙ g.faults));
      }

      pub ends_unsent : (failed : Failed) → IsLineAnswered house draws (Err failed) (without_cr g.raw) session.who next.who now after passes later → IsSession house draws WriteFault begin after start later
      ends_unsent failed r = record {
        answered = g.answered ++ g.raw;
        behind = [];
        replies = g.replies ++ r.x.reply ∷ [];
        text = reply_texts g.replies ++ take r.told.0.0 (reply_text r.x.reply);
        gave = gave_all;
        took = took_part house draws start begin given g.raw (without_cr g.raw) session next.who now after passes later (Err failed) g one r r.told.0.0 r.told.0.2;
        within = inside;
        taken = omega (arith, inside);
        told = answered_more house draws start begin given g.raw (without_cr g.raw) session next.who now after passes later (Err failed) g one r;
        ends = (
          line_more house draws start begin given g.raw (without_cr g.raw) session next.who now after passes later (Err failed) g one r,
          inr (refl, ended),
          cut_short house draws start begin given g.raw (without_cr g.raw) session next.who now after passes later (Err failed) g one r r.told.0.0 r.told.0.1,
          risen_more house draws start begin given g.raw (without_cr g.raw) session next.who now after passes later (Err failed) g one r r.told.1,
        );
      }

    -- a read fails
    pub ends_unheard : (session : Session) (now after : Connection) (passes : List Pass) → GoesOnWith house draws start begin given session now passes → HasGiven begin.left given now.left
        → length given ≤ session_limit → after.left ≡ now.left → after.written ≡ now.written → HasRisen now.faults after.faults → IsSession house draws ReadFault begin after start passes
    ends_unheard session now after passes g gave within same unwritten risen = record {
      answered = g.answered;
      behind = g.raw;
      replies = g.replies;
      text = reply_texts g.replies;
      gave = gave ∙ ap (λ (left : Option (List ℕ)). prepend_known given left) (sym same) ∙ ap (λ (bs : List ℕ). prepend_known bs after.left) g.cut;
      took = unwritten ∙ g.took;
      within = omega (arith, within, ap length g.cut, length-append g.answered g.raw);
      taken = omega (arith, within, ap length g.cut, length-append g.answered g.raw);
      told = g.told;
      ends = (g.no_bye, g.whole, g.unended, omega (arith, within, ap length g.cut, length-append g.answered g.raw), refl, subst (λ (n : ℕ). HasRisen n after.faults) g.faults risen);
    }

    -- one byte too many is given
    pub ends_too_long : (taken : ℕ) (more : List ℕ) (session : Session) (now after : Connection) (passes : List Pass) → GoesOnWith house draws start begin given session now passes
        → HasGiven begin.left given now.left → length given ≡ session_limit → HasGiven now.left more after.left → length more ≡ 1 → taken ≡ session_limit + 1
        → after.written ≡ now.written → after.faults ≡ now.faults → IsSession house draws (TooLong taken) begin after start passes
    ends_too_long taken more session now after passes g gave full further single is unwritten passed = record {
      answered = g.answered;
      behind = g.raw ++ more;
      replies = g.replies;
      text = reply_texts g.replies;
      gave = subst (λ (bs : List ℕ). HasGiven begin.left bs after.left) (ap (λ (bs : List ℕ). bs ++ more) g.cut ∙ append_assoc g.answered g.raw more)
          (given_further begin.left now.left after.left given more gave further);
      took = unwritten ∙ g.took;
      within = omega (arith, full, ap length g.cut, length-append g.answered g.raw);
      taken = omega (arith, full, ap length g.cut, length-append g.answered g.raw, length-append g.raw more, single);
      told = g.told;
      ends = (
        g.no_bye,
        g.whole,
        subst HasNoEnd (sym front) g.unended,
        omega (arith, full, ap length g.cut, length-append g.answered g.raw, length-append g.raw more, single),
        is,
        (refl, passed ∙ g.faults),
      );
    }
      where
        size : session_limit - length g.answered ≡ length g.raw
        size = omega (arith, full, ap length g.cut, length-append g.answered g.raw)

        front : take (session_limit - length g.answered) (g.raw ++ more) ≡ g.raw
        front = ap (λ (n : ℕ). take n (g.raw ++ more)) size ∙ take_front g.raw more

    -- a `bye` in the middle of a piece
    pub ends_parted : (piece : List ℕ) (now : Connection) (passes : List Pass) → HasGiven begin.left (given ++ piece) now.left → length (given ++ piece) ≤ session_limit
        → ((front rest : List ℕ) × (piece ≡ front ++ rest) × HasParted house draws start begin (given ++ front) now passes) → IsSession house draws Bye begin now start passes
    ends_parted piece now passes gave within (front, rest, cut, p) = record {
      answered = given ++ front;
      behind = rest;
      replies = p.replies;
      text = reply_texts p.replies;
      gave = subst (λ (bs : List ℕ). HasGiven begin.left bs now.left) (ap (λ (bs : List ℕ). given ++ bs) cut ∙ sym (append_assoc given front rest)) gave;
      took = p.took;
      within = omega (arith, within, length-append given piece, length-append given front, ap length cut, length-append front rest);
      taken = omega (arith, within, length-append given piece, length-append given front, ap length cut, length-append front rest);
      told = p.told;
      ends = (p.bye, inl p.whole, (refl, p.faults));
    }

    pub ends_broken : (piece : List ℕ) (now : Connection) (passes : List Pass) → HasGiven begin.left (given ++ piece) now.left → length (given ++ piece) ≤ session_limit
        → ((front rest : List ℕ) × (piece ≡ front ++ rest) × HasBroken house draws start begin (given ++ front) now passes) → IsSession house draws WriteFault begin now start passes
    ends_broken piece now passes gave within (front, rest, cut, p) = record {
      answered = given ++ front;
      behind = rest;
      replies = p.replies;
      text = p.text;
      gave = subst (λ (bs : List ℕ). HasGiven begin.left bs now.left) (ap (λ (bs : List ℕ). given ++ bs) cut ∙ sym (append_assoc given front rest)) gave;
      took = p.took;
      within = omega (arith, within, length-append given piece, length-append given front, ap length cut, length-append front rest);
      taken = omega (arith, within, length-append given piece, length-append given front, ap length cut, length-append front rest);
      told = p.told;
      ends = (p.line, inl p.whole, p.short, p.risen);
    }
