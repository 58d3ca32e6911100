-- Which refusal each fault is told by.
use Rattle.std.proofs.Common.{◌≡◌, ℕ, zero, suc, List, [], ◌∷◌, refl, sym, ◌∙◌, ap, subst, slice_get, Option, Some, None, inl, inr}
use Rattle.std.specs.Prelude.{IsTrue}
use Rattle.std.proofs.lemmas.Option.{slice_get_within, same_Some}
use Rattle.partition_charge.specs.declared.view.View.{View}
use Rattle.partition_charge.specs.declared.view.View.TheVariants.{Whole, Part}
use Rattle.fz_frac.specs.Distance.{Distance}
use Rattle.fz_frac.specs.Lowest.{lowest}
use Rattle.fz_frac.specs.Sens.{distance_of}
use Rattle.fz_ast.specs.Signature.{Signature, TableType}
use Rattle.fz_ast.specs.Terms.{Term}
use Rattle.fz_lexer.specs.declared.token.Token.{Token}
use Rattle.fz_lexer.specs.declared.token.LexFault.{LexFault}
use Rattle.fz_lexer.specs.declared.token.LexFault.TheVariants.{Bad, TooManyTokens, NoMemory as NoRoom}
use Rattle.fz_lexer.specs.Tokens.{IsLexed, ExplainsLex}
use Rattle.fz_parser.specs.declared.fault.ParseFault.{ParseFault}
use Rattle.fz_parser.specs.declared.fault.ParseFault.TheVariants.{Stuck, TooNested, NoMemory as NoSpace}
use Rattle.fz_parser.specs.Reading.{IsParsed, ExplainsParse}
use Rattle.linear_types.specs.Program.{Faulty, sensitivity_of}
use Rattle.linear_types.specs.Inferred.{Fault}
use Rattle.sensitivity_check.specs.declared.checker.Checked.{Checked}
use Rattle.sensitivity_check.specs.declared.fault.CheckFault.{CheckFault}
use Rattle.sensitivity_check.specs.declared.fault.CheckFault.TheVariants.{Unbound, Mismatch, NotGround, NotFlat, TooSensitive, Range, Unbounded, NotNum, NoMemory as NoPlace}
use Rattle.sensitivity_check.specs.Answered.{IsChecked, IsFirstFault}
use Rattle.owner_catalog.specs.Entries.{PartitionEntry}
use Rattle.part_views.specs.Views.{alone, divided_table, signature_in}
use Rattle.wire_lines.specs.Name.{is_name}
use Rattle.shape_law.specs.Walk.{shape}
use Rattle.shape_run.specs.declared.plan.Plan.{Plan}
use Rattle.shape_run.specs.declared.plan.ShapeFault.{ShapeFault}
use Rattle.shape_run.specs.declared.plan.ShapeFault.TheVariants.{TooDeep, TooLong, TooWide, TooManyWalks, NoMemory as NoCell}
use Rattle.shape_run.specs.Plans.{IsPlanOf, IsStopOf}
use Rattle.wire_lines.specs.Refusal.{ProgramRefusal, Refusal, by_line, by_program, by_money, by_disk, by_number, no_memory}
use Rattle.answer_path.specs.Reading.{unlexed, stuck, nested, read, IsReading}
use Rattle.answer_path.specs.Admission.{HasTooManyWalks, TakesTooManyWalks, accepted, admission_of, admitted_by, refused_for, shaped_by, walks_too_much, fault_refusal}
use Rattle.owner_house.specs.Names.{AreNames}
use Rattle.answer_path.specs.declared.program.Accepted.{Accepted}
use Rattle.answer_path.specs.declared.program.Admitted.{Admitted}
use Rattle.answer_path.specs.declared.program.Unadmitted.{Unadmitted}
use Rattle.answer_path.specs.declared.program.Unadmitted.TheVariants.{Refused as Said, TooManyWalks as WalksTooMuch}
use Rattle.answer_path.specs.Code.{IsAccepted, IsAdmitted, IsProgramRefusal, IsRefusedFor, IsTermRefusal, IsUndecided, IsUnadmitted, IsUnread, lex_refusal, parse_refusal, limit_refusal, told_of, HasTable, TellsFault}
use Rattle.answer_path.proofs.Readings.{one_reading}
use Rattle.answer_path.proofs.Programs.{same_term}

-- a table's name can be said in a reply
pub named : (ts : Signature) (i : ℕ) (t : TableType) → AreNames ts → slice_get ts i ≡ Some t → IsTrue (is_name t.name)
named [] i t h e = absurd (cc e)
named (u ∷ ts) zero t h e = subst (λ x. IsTrue (is_name x.name)) (same_Some u t e) h.0
named (u ∷ ts) (suc i) t h e = named ts i t h.1 e

-- so can those of a view's tables
pub names_in_view : (ts : Signature) (partitions : List PartitionEntry) (view : View) → AreNames ts → AreNames (signature_in ts partitions view)
unfolding signature_in
names_in_view ts partitions Whole h = h
names_in_view ts partitions (Part p j) h = divided (slice_get partitions p)
  where
    one : (i : ℕ) (o : Option TableType) → slice_get ts i ≡ o → AreNames (alone o)
    one i None is = tt
    one i (Some t) is = (named ts i t h is, tt)

    divided : (o : Option PartitionEntry) → AreNames (divided_table ts o)
    divided None = tt
    divided (Some partition) = one partition.table (slice_get ts partition.table) refl

pub unlexed_refused : (w : List ℕ) (fault : LexFault) (refusal : Refusal) → ExplainsLex w fault → refusal ≡ lex_refusal fault → (ts : Signature) → IsProgramRefusal ts w refusal
unfolding IsReading admission_of
unlexed_refused w fault refusal h e ts = subst (λ x. IsProgramRefusal ts w x) (sym e) (go fault h)
  where
    go : (fault : LexFault) → ExplainsLex w fault → IsProgramRefusal ts w (lex_refusal fault)
    go (Bad p) h = (unlexed p, inl h, refl)
    go (TooManyTokens p) h = (unlexed p, inr h, refl)
    go NoRoom h = tt

-- the same without tables
pub no_tokens : (w : List ℕ) (fault : LexFault) (refusal : Refusal) → ExplainsLex w fault → refusal ≡ lex_refusal fault → IsUnread w refusal
unfolding IsReading
no_tokens w fault refusal h e = subst (λ x. IsUnread w x) (sym e) (go fault h)
  where
    go : (fault : LexFault) → ExplainsLex w fault → IsUnread w (lex_refusal fault)
    go (Bad p) h = (unlexed p, inl h, refl)
    go (TooManyTokens p) h = (unlexed p, inr h, refl)
    go NoRoom h = tt

pub is_read : (w : List ℕ) (us : List Token) (e : Term) → IsLexed w us → IsParsed us e → IsReading w (read e)
unfolding IsReading
is_read w us e h k = (us, h, k)

pub unparsed_refused : (w : List ℕ) (us : List Token) (fault : ParseFault) (refusal : Refusal) → IsLexed w us → ExplainsParse us fault → refusal ≡ parse_refusal fault → (ts : Signature) → IsProgramRefusal ts w refusal
unfolding IsReading admission_of
unparsed_refused w us fault refusal l h e ts = subst (λ x. IsProgramRefusal ts w x) (sym e) (go fault h)
  where
    go : (fault : ParseFault) → ExplainsParse us fault → IsProgramRefusal ts w (parse_refusal fault)
    go (Stuck k) h = (stuck k, (us, l, h), refl)
    go (TooNested d) h = (nested d, (us, l, h), refl)
    go NoSpace h = tt

pub no_term_read : (w : List ℕ) (us : List Token) (fault : ParseFault) (refusal : Refusal) → IsLexed w us → ExplainsParse us fault → refusal ≡ parse_refusal fault → IsUnread w refusal
unfolding IsReading
no_term_read w us fault refusal l h e = subst (λ x. IsUnread w x) (sym e) (go fault h)
  where
    go : (fault : ParseFault) → ExplainsParse us fault → IsUnread w (parse_refusal fault)
    go (Stuck k) h = (stuck k, (us, l, h), refl)
    go (TooNested d) h = (nested d, (us, l, h), refl)
    go NoSpace h = tt

faulty : (ts : Signature) (e : Term) (f : Fault) (refusal : Refusal) → sensitivity_of ts e ≡ Faulty f → refusal ≡ by_program (fault_refusal f) → IsTermRefusal ts e refusal
unfolding admission_of
faulty ts e f refusal k r = subst (λ x. IsTermRefusal ts e x) (sym r) (ap (admitted_by ts e) k)

pub fault_refused : (ts : Signature) (e : Term) (fault : CheckFault) (refusal : Refusal) → IsFirstFault ts e fault → TellsFault ts fault refusal → IsTermRefusal ts e refusal
fault_refused ts e (Unbound s) refusal k r = faulty ts e k.0 refusal k.1 (r k.0 k.2)
fault_refused ts e (Mismatch s T t u) refusal k r = faulty ts e k.0 refusal k.1 (r k.0 k.2)
fault_refused ts e (NotGround s) refusal k r = faulty ts e k.0 refusal k.1 (r k.0 k.2)
fault_refused ts e (NotFlat s) refusal k r = faulty ts e k.0 refusal k.1 (r k.0 k.2)
fault_refused ts e (TooSensitive s x d) refusal k r = faulty ts e k.0 refusal k.1 (r k.0 k.2)
fault_refused ts e (Range s) refusal k r = faulty ts e k.0 refusal k.1 (r k.0 k.2)
fault_refused ts e (Unbounded i) refusal k r = faulty ts e k.0 refusal k.1 (r k.0 k.2)
fault_refused ts e (NotNum T t) refusal k r = faulty ts e k.0 refusal k.1 (r k.0 k.2)
fault_refused ts e NoPlace refusal k r = subst (λ x. IsTermRefusal ts e x) (sym r) tt

pub has_table : (ts : Signature) (e : Term) (fault : CheckFault) → IsFirstFault ts e fault → HasTable ts fault
has_table ts e (Unbound s) k = tt
has_table ts e (Mismatch s T t u) k = tt
has_table ts e (NotGround s) k = tt
has_table ts e (NotFlat s) k = tt
has_table ts e (TooSensitive s x d) k = tt
has_table ts e (Range s) k = tt
has_table ts e (Unbounded i) k = slice_get_within ts i k.2.0 k.2.1
has_table ts e (NotNum T t) k = tt
has_table ts e NoPlace k = tt

-- an accepted term comes to what its run without data comes to
pub by_shape : (ts : Signature) (e : Term) (checked : Checked) → IsChecked ts e checked → admission_of ts (read e) ≡ shaped_by e (distance_of checked.sens) (shape ts e)
unfolding admission_of
by_shape ts e checked h = ap (admitted_by ts e) h.accepted ∙ ap (λ r. shaped_by e r (shape ts e)) (sym h.sens)

pub planned_accepted : (ts : Signature) (e : Term) (checked : Checked) (plan : Plan) → IsChecked ts e checked → IsPlanOf ts e plan → admission_of ts (read e) ≡ accepted e (distance_of checked.sens)
planned_accepted ts e checked plan h p = by_shape ts e checked h ∙ ap (shaped_by e (distance_of checked.sens)) p.1

pub stopped_refused : (ts : Signature) (e : Term) (checked : Checked) (fault : ShapeFault) (refusal : Refusal) → IsChecked ts e checked → IsStopOf ts e fault → refusal ≡ limit_refusal fault
    → IsTermRefusal ts e refusal
stopped_refused ts e checked fault refusal h p r = subst (λ x. IsTermRefusal ts e x) (sym r) (go fault p)
  where
    go : (fault : ShapeFault) → IsStopOf ts e fault → IsTermRefusal ts e (limit_refusal fault)
    go (TooDeep s) p = by_shape ts e checked h ∙ ap (shaped_by e (distance_of checked.sens)) p
    go (TooLong s) p = by_shape ts e checked h ∙ ap (shaped_by e (distance_of checked.sens)) p
    go (TooWide s w) p = by_shape ts e checked h ∙ ap (shaped_by e (distance_of checked.sens)) p
    go TooManyWalks p = tt
    go NoCell p = tt

-- the refusal of a program's term is the program's
pub term_refused : (ts : Signature) (w : List ℕ) (e : Term) (refusal : Refusal) → IsReading w (read e) → IsTermRefusal ts e refusal → IsProgramRefusal ts w refusal
term_refused ts w e (by_program refusal) h k = (read e, h, k)
term_refused ts w e no_memory h k = tt
term_refused ts w e (by_line refusal) h k = absurd k
term_refused ts w e (by_money refusal) h k = absurd k
term_refused ts w e (by_disk refusal) h k = absurd k
term_refused ts w e (by_number refusal) h k = absurd k

-- too many walks

pub stopped_walks : (ts : Signature) (e : Term) (checked : Checked) → IsChecked ts e checked → IsStopOf ts e TooManyWalks → TakesTooManyWalks ts e
stopped_walks ts e checked h walks = (h.D, h.r, h.accepted, walks)

-- why a program's term isn't admitted is why the program isn't
pub term_undecided : (ts : Signature) (w : List ℕ) (e : Term) (why : Unadmitted) → IsReading w (read e) → IsUnadmitted ts e why → IsUndecided ts w why
term_undecided ts w e (Said refusal) reads is = term_refused ts w e _ reads is
term_undecided ts w e WalksTooMuch reads walks = (e, reads, walks)

-- and is told as one of its refusals
pub unadmitted_told : (ts : Signature) (e : Term) (why : Unadmitted) (refusal : Refusal) → IsUnadmitted ts e why → refusal ≡ told_of why → IsTermRefusal ts e refusal
unadmitted_told ts e why refusal is same = subst (IsTermRefusal ts e) (sym same) (go why is)
  where
    go : (why : Unadmitted) → IsUnadmitted ts e why → IsTermRefusal ts e (told_of why)
    go (Said refusal) is = is
    go WalksTooMuch walks = tt

pub undecided_told : (ts : Signature) (w : List ℕ) (why : Unadmitted) (refusal : Refusal) → IsUndecided ts w why → refusal ≡ told_of why → IsProgramRefusal ts w refusal
undecided_told ts w why refusal is same = subst (IsProgramRefusal ts w) (sym same) (go why is)
  where
    go : (why : Unadmitted) → IsUndecided ts w why → IsProgramRefusal ts w (told_of why)
    go (Said refusal) is = is
    go WalksTooMuch walks = tt

pub walks_admitted : (ts : Signature) (e : Term) → TakesTooManyWalks ts e → admission_of ts (read e) ≡ walks_too_much
unfolding admission_of
walks_admitted ts e (D, r, typed, walks) = ap (admitted_by ts e) typed ∙ ap (shaped_by e (lowest r)) walks

-- so it isn't refused for itself
pub refused_walks_little : (ts : Signature) (w : List ℕ) (refusal : ProgramRefusal) → IsRefusedFor ts w refusal → HasTooManyWalks ts w → ⊥
refused_walks_little ts w refusal (reading, reads', is) (e, reads, walks) =
    let both : walks_too_much ≡ refused_for refusal = sym (walks_admitted ts e walks) ∙ ap (admission_of ts) (one_reading w (read e) reading reads reads') ∙ is in
    cc both

-- a program that takes too many walks can only be refused for want of memory
pub walks_refused : (ts : Signature) (w : List ℕ) (refusal : Refusal) → HasTooManyWalks ts w → IsProgramRefusal ts w refusal → refusal ≡ no_memory
walks_refused ts w (by_program refusal) walks h = absurd (refused_walks_little ts w refusal h walks)
walks_refused ts w no_memory walks h = refl
walks_refused ts w (by_line refusal) walks h = absurd h
walks_refused ts w (by_money refusal) walks h = absurd h
walks_refused ts w (by_disk refusal) walks h = absurd h
walks_refused ts w (by_number refusal) walks h = absurd h

-- and has no plan
pub planned_walks_little : (ts : Signature) (w : List ℕ) (e : Term) (plan : Plan) → IsReading w (read e) → IsPlanOf ts e plan → HasTooManyWalks ts w → ⊥
planned_walks_little ts w e plan reads planned (d, reads', walks) =
    let stops = sym (ap (shape ts) (same_term w d e reads' reads)) ∙ walks.3 in
    cc (stops, planned.1)

pub accepted_walks_little : (ts : Signature) (w : List ℕ) (a : Accepted) → IsAccepted ts w a → HasTooManyWalks ts w → ⊥
accepted_walks_little ts w a h = planned_walks_little ts w a.term h.planned.0 h.reads h.planned.1

pub admitted_walks_little : (ts : Signature) (w : List ℕ) (e : Term) (admitted : Admitted) → IsReading w (read e) → IsAdmitted ts e admitted → HasTooManyWalks ts w → ⊥
admitted_walks_little ts w e admitted reads is = planned_walks_little ts w e admitted.plan reads is.planned
