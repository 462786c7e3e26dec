-- Pieces that other threads read are taken in their order, or put back.
use Rattle.std.proofs.Common.{◌≡◌, ◌∙◌, ℕ, List, [], ◌∷◌, ◌++◌, length, Option, Ok, Err, refl, sym, ap, subst, append_assoc}
use Rattle.std.specs.Prelude.{MatchBool, ⊤}
use Rattle.std.specs.Io.KnownBytes.{Consumes}
use Rattle.csv.specs.Reading.{strip_bom}
use Rattle.trace_text.specs.declared.reading.Stage.{Stage}
use Rattle.trace_text.specs.declared.reading.Stage.TheVariants.{Opening}
use Rattle.trace_text.specs.declared.refusals.TextError.{TextError}
use Rattle.trace_text.specs.TextRefusals.{is_memory}
use Rattle.trace_text.specs.declared.versions.Version.{Version}
use Rattle.trace_text.proofs.TakenRecords.{unless}
use Rattle.shared_reading.specs.declared.pieces.Found.{Found}
use Rattle.shared_reading.specs.Pieces.{IsFound, IsUnmarked, LeadsAlone, read_on}
use Rattle.shared_reading.specs.declared.progress.Progress.{Progress}
use Rattle.shared_reading.specs.declared.under_way.UnderWay.{UnderWay}
use Rattle.shared_reading.specs.DeviceTexts.{IsReadTo, IsTaken}
use Rattle.shared_reading.specs.UnderWay.{IsMoved, bytes_in, bytes_of}
use Rattle.shared_reading.proofs.PieceLemmas.{read_on-ok, read_on-err}
use Rattle.shared_reading.proofs.QuoteFree.{seam}

-- what begins with no mark begins with none, with any text behind it
unmarked-front : (a b : List ℕ) → IsUnmarked a → IsUnmarked (a ++ b)
unmarked-front a b u = λ more. subst (λ xs. strip_bom xs ≡ xs) (sym (append_assoc a b more)) (u (b ++ more))

-- neither do the pieces under way, with the rest behind them
pub unmarked-behind : (pieces : List UnderWay) (rest : List ℕ) → IsUnmarked rest → IsUnmarked (bytes_of pieces ++ rest)
unmarked-behind [] rest u = u
unmarked-behind (x ∷ xs) rest u = subst IsUnmarked
    (sym (append_assoc (bytes_in x) (bytes_of xs) rest)) (unmarked-front (bytes_in x) (bytes_of xs ++ rest) x.unmarked)

-- it makes no difference which bytes are before the rest
pub moved : (known left : Option (List ℕ)) (p q : Progress) (was is : List ℕ)
    → IsMoved p was q is → IsReadTo known left was p → IsReadTo known left is q
moved known left p q was is m h =
    let behind : (more : List ℕ) → is ++ (q.rest.items ++ more) ≡ was ++ (p.rest.items ++ more) =
    (λ more. sym (append_assoc is q.rest.items more) ∙ ap (λ xs. xs ++ more) m.bytes ∙ append_assoc was p.rest.items more) in
    record {
      gone = h.gone;
      count = m.total ∙ h.count ∙ ap (λ xs. length (h.gone ++ xs)) (sym m.bytes);
      read = subst (λ xs. Consumes known left (h.gone ++ xs)) (sym m.bytes) h.read;
      leads = λ more. rw (behind more, m.stage) (h.leads more);
    }

-- all pieces were put back before the rest
pub put-back : (pieces after left : List UnderWay) (oldest : UnderWay) (bytes rest new : List ℕ)
    → pieces ≡ oldest ∷ after → bytes ≡ bytes_in oldest → left ≡ [] → new ≡ (bytes ++ bytes_of after) ++ rest
    → bytes_of left ++ new ≡ bytes_of pieces ++ rest
put-back pieces after left oldest bytes rest new all same none h = rw (none, all, h, same) refl

-- the first bytes before the rest were taken
first-taken : (known left : Option (List ℕ)) (p q : Progress) (a b : List ℕ) → q.total ≡ p.total → q.rest.items ≡ p.rest.items
    → LeadsAlone p.stage a (Ok q.stage) → IsUnmarked (b ++ p.rest.items) → IsReadTo known left (a ++ b) p → IsReadTo known left b q
first-taken known left p q a b total rest alone mark h =
    let whole : (h.gone ++ a) ++ (b ++ q.rest.items) ≡ h.gone ++ ((a ++ b) ++ p.rest.items) =
    ap (λ xs. (h.gone ++ a) ++ (b ++ xs)) rest ∙ append_assoc h.gone a (b ++ p.rest.items)
    ∙ ap (λ xs. h.gone ++ xs) (sym (append_assoc a b p.rest.items)) in
    let behind : (more : List ℕ) → (h.gone ++ a) ++ (b ++ (p.rest.items ++ more)) ≡ h.gone ++ ((a ++ b) ++ (p.rest.items ++ more)) =
    (λ more. append_assoc h.gone a (b ++ (p.rest.items ++ more))
    ∙ ap (λ xs. h.gone ++ xs) (sym (append_assoc a b (p.rest.items ++ more)))) in
    let unmarked : (more : List ℕ) → strip_bom (b ++ (p.rest.items ++ more))
    ≡ b ++ (p.rest.items ++ more) = (λ more. subst (λ xs. strip_bom xs ≡ xs) (append_assoc b p.rest.items more) (mark more)) in
    record {
      gone = h.gone ++ a;
      count = total ∙ h.count ∙ sym (ap length whole);
      read = subst (Consumes known left) (sym whole) h.read;
      leads = λ more. rw rest (
          ap (λ xs. read_on Opening xs) (behind more)
          ∙ h.leads more ∙ ap (λ xs. read_on p.stage xs) (append_assoc a b (p.rest.items ++ more))
          ∙ read_on-ok p.stage q.stage a (b ++ (p.rest.items ++ more))
          (seam a (b ++ (p.rest.items ++ more)) alone.quoteless alone.line (unmarked more)) alone.leads);
    }

-- the oldest piece was taken
pub oldest-taken : (known left : Option (List ℕ)) (p q : Progress) (pieces after : List UnderWay) (oldest : UnderWay)
    → pieces ≡ oldest ∷ after → q.total ≡ p.total → q.rest.items ≡ p.rest.items → LeadsAlone p.stage (bytes_in oldest) (Ok q.stage)
    → IsUnmarked p.rest.items → IsReadTo known left (bytes_of pieces) p → IsReadTo known left (bytes_of after) q
oldest-taken known left p q pieces after oldest all total rest alone mark h = first-taken known left p q (bytes_in oldest)
    (bytes_of after) total rest alone (unmarked-behind after p.rest.items mark) (subst (λ xs. IsReadTo known left (bytes_of xs) p) all h)

-- or one of its steps is refused
pub oldest-refused : (v : Version) (found : Found) (s t : Stage) (pieces after : List UnderWay) (oldest : UnderWay)
    (rest : List ℕ) (e : TextError) → pieces ≡ oldest ∷ after → IsFound v (bytes_in oldest) found
    → MatchBool (is_memory e) ⊤ ((bytes : List ℕ) → IsFound v bytes found → LeadsAlone s bytes (Err e))
    → IsUnmarked rest → IsTaken s t (bytes_of pieces ++ rest) (Err e)
oldest-refused v found s t pieces after oldest rest e all is alone mark = unless (is_memory e) _ _ (λ takes more.
    let a : List ℕ = bytes_in oldest in
    let b : List ℕ = (bytes_of after ++ rest) ++ more in
    let h = takes a is in
    let behind : (bytes_of pieces ++ rest) ++ more ≡ a ++ b =
    ap (λ xs. (bytes_of xs ++ rest) ++ more) all ∙ ap (λ xs. xs ++ more) (append_assoc a (bytes_of after) rest)
    ∙ append_assoc a (bytes_of after ++ rest) more in
    ap (λ xs. read_on s xs) behind ∙ read_on-err s e a b (seam a b h.quoteless h.line (unmarked-behind after rest mark more)) h.leads) alone
