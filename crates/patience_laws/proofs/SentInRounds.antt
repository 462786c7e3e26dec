-- Who has sent all that it has to say in a round has sent its message to each that it sends to.
use Rattle.std.proofs.Common.{ℕ, zero, suc, ◌≡◌, ◌+◌, ◌-◌, ◌<◌, inl, inr, List, Some, Bool, true, false, cond, refl, sym, ap, subst, ◌∙◌, arith}
use Rattle.std.specs.Prelude.{slice_get, count_by}
use Rattle.std.specs.List.{range_with_len}
use Rattle.std.proofs.lemmas.Bool.{cases_lt, true≢false}
use Rattle.std.proofs.lemmas.Option.{same_Some}
use Rattle.patience_laws.proofs.Common.{Act, Send, Receive, Step, Setup, act_sends, step_at, round_at, is_sent_in, count_by-more, IsSentIn, IsSentIn-from_test, sends_to}
use Rattle.step_buffers.specs.Runs.{IsDue, IsRun, IsSend, next_destination, sent_before}
use Rattle.patience_laws.proofs.RoundSends.{next_destination-in}

-- q sent a message to p in its round before step k
pub record IsSentBefore (steps : List Step) (q p round k : ℕ) : Type 0 where
  pub message : ℕ
  pub sent : IsSend steps q p message
  pub round_is : round_at steps q message ≡ round
  pub earlier : message < k

module _ (c : Setup) (steps : List Step) (q p r : ℕ) (run : IsRun c steps) where
  -- the message that was sent as the one of this place
  as-sent : (i s : ℕ) → IsSentIn steps q r s → sent_before steps q r s ≡ i
      → slice_get (sends_to c steps q r) i ≡ Some p → IsSend steps q p s
  as-sent i s is place to = of is.step.act refl
    where
      stands : step_at steps s ≡ Some (record { proc = q; act = is.step.act })
      stands = is.stands ∙ ap (λ j. Some (record { proc = j; act = is.step.act })) is.sender

      next : next_destination c steps q s ≡ Some p
      next = next_destination-in c steps q s r is.round ∙ ap (slice_get (sends_to c steps q r)) place ∙ to

      due : IsDue (next_destination c steps q s) is.step.act
      due = run.each s (record { proc = q; act = is.step.act }) stands

      of : (act : Act) → is.step.act ≡ act → IsSend steps q p s
      of (Send other) e =
          let d : next_destination c steps q s ≡ Some other = subst (λ a. IsDue (next_destination c steps q s) a) e due in
          let same : other ≡ p = same_Some other p (sym d ∙ next) in
          stands ∙ ap (λ a. Some (record { proc = q; act = a })) (e ∙ ap (λ n. Send n) same)
      of (Receive ends ids) e = absurd (true≢false (sym is.sends ∙ ap act_sends e))

  counted : (i n : ℕ) → i < count_by (λ s. is_sent_in steps q r s) (range_with_len 1 n)
      → slice_get (sends_to c steps q r) i ≡ Some p → IsSentBefore steps q p r (suc n)
  counted i zero l to = absurd (omega arith)
  counted i (suc n) l to = go (counted i n) (is_sent_in steps q r (suc n)) refl
    where
      all : ℕ
      all = count_by (λ s. is_sent_in steps q r s) (range_with_len 1 n)

      longer : IsSentBefore steps q p r (suc n) → IsSentBefore steps q p r (suc (suc n))
      longer is = record { message = is.message; sent = is.sent; round_is = is.round_is; earlier = let e = is.earlier in omega arith }

      go : (i < count_by (λ s. is_sent_in steps q r s) (range_with_len 1 n) → slice_get (sends_to c steps q r) i ≡ Some p
          → IsSentBefore steps q p r (suc n)) → (b : Bool) → is_sent_in steps q r (suc n) ≡ b → IsSentBefore steps q p r (suc (suc n))
      go before false e =
          let more = count_by-more (λ s. is_sent_in steps q r s) n
          ∙ ap (λ b. count_by (λ s. is_sent_in steps q r s) (range_with_len 1 n) + cond b 1 0) e in
          longer (before (omega arith) to)
      go before true e = elim (cases_lt i (count_by (λ s. is_sent_in steps q r s) (range_with_len 1 n))) [
        | inl low ↦ longer (before low to)
        | inr high ↦ (
            let more = count_by-more (λ s. is_sent_in steps q r s) n
            ∙ ap (λ b. count_by (λ s. is_sent_in steps q r s) (range_with_len 1 n) + cond b 1 0) e in
            let is = IsSentIn-from_test steps q r (suc n) e in
            let f : suc n - 1 ≡ n = omega arith in
            let place : sent_before steps q r (suc n) ≡ count_by (λ s. is_sent_in steps q r s) (range_with_len 1 n) =
            ap (λ m. count_by (λ s. is_sent_in steps q r s) (range_with_len 1 m)) f in
            record { message = suc n; sent = as-sent i (suc n) is (omega arith) to; round_is = is.round; earlier = omega arith })
      ]

  pub sent-to : (i k : ℕ) → i < sent_before steps q r k
      → slice_get (sends_to c steps q r) i ≡ Some p → IsSentBefore steps q p r (suc (k - 1))
  sent-to i k l to = counted i (k - 1) l to
