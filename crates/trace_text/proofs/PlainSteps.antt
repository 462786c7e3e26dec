-- The fields that encode a step need no quotes.
use Rattle.std.proofs.Common.{◌≡◌, ℕ, List, [], ◌∷◌, Option, Some, None, Ok, Bool, true, false, cond, refl, sym, subst, codes}
use Rattle.std.specs.Prelude.{option_map}
use Rattle.std.specs.Str.{bytes_eq}
use Rattle.step_trace.specs.declared.steps.Act.{Act}
use Rattle.step_trace.specs.declared.steps.Step.{Step}
use Rattle.trace_text.specs.declared.step_records.Operation.{Operation}
use Rattle.trace_text.specs.declared.step_records.Operation.TheVariants as op
use Rattle.trace_text.specs.declared.refusals.TextError.TheVariants.{BadOp, BadNumber}
use Rattle.trace_text.specs.Records.{number_of}
use Rattle.trace_text.specs.RecordWriting.{IsPlain}
use Rattle.trace_text.specs.TextRefusals.{ids_of, operation_of, parts_of}
use Rattle.trace_text.specs.JudgedIds.{judged_act_of, judged_of}
use Rattle.trace_text.proofs.Numbers.{number_of-some, same-from_bytes_eq}
use Rattle.trace_text.proofs.NumberLists.{ids_of-some, numbers_of-some}
use Rattle.trace_text.proofs.PlainFields.{IsPlain-decimal}
use Rattle.trace_text.proofs.StageInversions.{read_part}
use Rattle.trace_text.proofs.WrittenRecords.{IsPlain-ids}

pub plain-number : (f : List ℕ) (n : ℕ) → number_of f ≡ Some n → IsPlain f
plain-number f n h = let k = number_of-some f n h in subst IsPlain (sym k.0) (IsPlain-decimal n k.1)

plain-ids : (f ns : List ℕ) → ids_of f ≡ Some ns → IsPlain f
plain-ids [] ns h = refl
plain-ids (b ∷ bs) ns h =
    let k = numbers_of-some (parts_of (b ∷ bs)) ns h in
    subst IsPlain (sym (ids_of-some (b ∷ bs) ns h)) (IsPlain-ids ns k.1)

plain-operation : (f : List ℕ) (o : Operation) → operation_of f ≡ Some o → IsPlain f
plain-operation f o h = go (bytes_eq f (codes "S")) (bytes_eq f (codes "R")) (bytes_eq f (codes "E")) refl refl refl h where
  go : (a b c : Bool) → bytes_eq f (codes "S") ≡ a → bytes_eq f (codes "R") ≡ b → bytes_eq f (codes "E") ≡ c
      → cond a (Some op.Send) (cond b (Some op.Receive) (cond c (Some op.EndRound) None)) ≡ Some o → IsPlain f
  go true b c s r e h = subst IsPlain (sym (same-from_bytes_eq f (codes "S") s)) refl
  go false true c s r e h = subst IsPlain (sym (same-from_bytes_eq f (codes "R") r)) refl
  go false false true s r e h = subst IsPlain (sym (same-from_bytes_eq f (codes "E") e)) refl
  go false false false s r e h = cc h

-- a value that something was made of
made-of : {A B : Type 0} (f : A → B) (o : Option A) (b : B) → option_map f o ≡ Some b → (a : A) × (o ≡ Some a)
made-of f (Some a) b h = (a, refl)
made-of f None b h = cc h

plain-arg : (o : Operation) (arg : List ℕ) (a : Act) → judged_act_of o arg ≡ Some a → IsPlain arg
plain-arg op.Send arg a h = let k = made-of _ (number_of arg) a h in plain-number arg k.0 k.1
plain-arg op.Receive arg a h = let k = made-of _ (ids_of arg) a h in plain-ids arg k.0 k.1
plain-arg op.EndRound arg a h = let k = made-of _ (ids_of arg) a h in plain-ids arg k.0 k.1

-- what these fields of a step are: a tick that is a number, and others that need no quotes
pub record ArePlainFields (tick : Option ℕ) (operation proc arg : List ℕ) : Type 0 where
  pub value : ℕ
  pub is : tick ≡ Some value
  pub plain_operation : IsPlain operation
  pub plain_proc : IsPlain proc
  pub plain_arg : IsPlain arg

pub plain-step : (at : ℕ) (tick : Option ℕ) (operation proc arg : List ℕ) (x : ℕ × Step)
    → judged_of at tick operation proc arg ≡ Ok x → ArePlainFields tick operation proc arg
plain-step at tick operation proc arg x h =
    let o = read_part (operation_of operation) (BadOp at) _ x h in
    let t = read_part tick (BadNumber at) _ x o.2 in
    let p = read_part (number_of proc) (BadNumber at) _ x t.2 in
    let a = read_part (judged_act_of o.0 arg) (BadNumber at) _ x p.2 in
    record {
      value = t.0;
      is = t.1;
      plain_operation = plain-operation operation o.0 o.1;
      plain_proc = plain-number proc p.0 p.1;
      plain_arg = plain-arg o.0 arg a.0 a.1;
    }
