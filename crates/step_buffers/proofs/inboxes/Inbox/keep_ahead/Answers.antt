use Rattle.std.proofs.Common.{ℕ, Bool, List, ◌≡◌, ◌++◌, ◌∷◌, [], true, false, filter, take, get_or, inl, inr, sym, subst, ap, ◌∙◌, arith, append_assoc, append-nil, cond}
use Rattle.std.specs.List.Sorted.{IsPermutation}
use Rattle.std.proofs.lemmas.Bool.{le-leb, lt-leb}
use Rattle.std.proofs.lemmas.List.{take_more}
use Rattle.std.proofs.lemmas.List.Elements.{filter-append}
use Rattle.std.proofs.lemmas.List.Sorted.{IsPermutation-push_more}
use Rattle.step_buffers.proofs.Common.{round_of, kept_ids, is_ahead}
use Rattle.step_buffers.proofs.inboxes.Inbox.keep_ahead.Goals.{then-round-sent, else-round-sent}
use Rattle.step_buffers.proofs.inboxes.Inbox.keep_ahead.Goals as goal

-- one id more, which passes the test
kept-more : (p : ℕ → Bool) (old now new ids : List ℕ) (id : ℕ) → p id ≡ true
    → IsPermutation (old ++ filter p ids) now → IsPermutation (id ∷ now) new → IsPermutation (old ++ filter p (ids ++ id ∷ [])) new
kept-more p old now new ids id t h k =
    let more : filter p (ids ++ id ∷ []) ≡ filter p ids ++ id ∷ [] = filter-append p ids (id ∷ [])
    ∙ ap (λ b. filter p ids ++ cond b (id ∷ []) []) t in
    let all : (old ++ filter p ids) ++ id ∷ [] ≡ old ++ filter p (ids ++ id ∷ []) = append_assoc old (filter p ids) (id ∷ [])
    ∙ ap (λ xs. old ++ xs) (sym more) in
    subst (λ xs. IsPermutation xs new) all (IsPermutation-push_more (old ++ filter p ids) now new id h k)

-- one id more, which doesn't
passed-over : (p : ℕ → Bool) (old now ids : List ℕ) (id : ℕ)
    → p id ≡ false → IsPermutation (old ++ filter p ids) now → IsPermutation (old ++ filter p (ids ++ id ∷ [])) now
passed-over p old now ids id t h =
    let more : filter p (ids ++ id ∷ []) ≡ filter p ids = filter-append p ids (id ∷ [])
    ∙ ap (λ b. filter p ids ++ cond b (id ∷ []) []) t ∙ append-nil (filter p ids) in
    subst (λ xs. IsPermutation (old ++ xs) now) (sym more) h

pub loop-id-preserved : goal.loop-id-preserved
loop-id-preserved c =
    let ids = c.args.ids.now in
    let i = c.loop-id.id-index in
    let id = get_or ids i 0 in
    let letters = c.args.letters.now in
    let round = c.args.round in
    let test : ℕ → Bool = is_ahead letters round in
    let old = kept_ids c.args.self.now in
    let now = kept_ids c.loop-id.self in
    let is = c.loop-id.invariant in
    let sent = c.round_of-sent.ensures in
    let more = take_more ids i 0 c.loop-id-test.true in
    let roomy = is.room in
    elim c.if-round-sent.branch [
      | then-round-sent w ↦
          let new = kept_ids w.keep.new.self in
          let known = w.if-round-sent.true in
          let t : test id ≡ true = le-leb round (round_of letters id) (omega arith) in
          rw w.self-is (record {
            kept = subst (λ xs. IsPermutation (old ++ filter test xs) new)
                (sym more) (kept-more test old now new (take i ids) id t is.kept w.keep.ensures.kept);
            entries = λ e d. elim (w.keep.ensures.entries e d) [
              | inl before ↦ is.entries e before
              | inr same ↦
                  let round_is : e.0.0 ≡ round_of letters id = ap (λ (x : ℕ × ℕ). x.0) same.1 ∙ sent in
                  let id_is : e.0.1 ≡ id = ap (λ (x : ℕ × ℕ). x.1) same.1 in
                  inr (omega (arith, same.0, w.keep.ensures.room), round_is ∙ ap (round_of letters) (sym id_is))
            ];
            room = omega (arith, w.keep.ensures.room);
          })
      | else-round-sent w ↦
          let t : test id ≡ false = lt-leb round (round_of letters id) (omega (arith, w.if-round-sent.false)) in
          rw w.self-is (record {
            kept = subst (λ xs. IsPermutation (old ++ filter test xs) now) (sym more) (passed-over test old now (take i ids) id t is.kept);
            entries = is.entries;
            room = omega (arith, w.if-round-sent.false);
          })
    ]
