use Rattle.std.proofs.Common.{ℕ, suc, ◌≡◌, ◌+◌, ◌-◌, ◌≤◌, Bool, true, false, cond, sym, ap, ◌∙◌, arith}
use Rattle.std.specs.Prelude.{count_by}
use Rattle.std.specs.List.{range_with_len}
use Rattle.deciding_runs.proofs.Common.{count_by-more, is_awaited}
use Rattle.deciding_runs.proofs.peers.awaited.Goals.{then-is_awaited, else-is_awaited}
use Rattle.deciding_runs.proofs.peers.awaited.Goals as goal

-- a count over a range with one more number, of which the test is known
counted : (test : ℕ → Bool) (q : ℕ) (b : Bool) → 1 ≤ q
    → test q ≡ b → count_by test (range_with_len 1 (q + 1 - 1)) ≡ count_by test (range_with_len 1 (q - 1)) + cond b 1 0
counted test q b low is =
    let e : suc (q - 1) ≡ q + 1 - 1 = omega arith in
    let f : suc (q - 1) ≡ q = omega arith in
    ap (λ n. count_by test (range_with_len 1 n)) (sym e) ∙ count_by-more test (q - 1)
    ∙ ap (λ t. count_by test (range_with_len 1 (q - 1)) + cond t 1 0) (ap test f ∙ is)

at_most_one : (b : Bool) → cond {A = ℕ} b 1 0 ≤ 1
at_most_one true = omega arith
at_most_one false = omega arith

pub loop-q-preserved : goal.loop-q-preserved
loop-q-preserved c = elim c.if-is_awaited.branch [
  | then-is_awaited w ↦ counts true w.awaited-is (sym c.is_awaited.ensures ∙ w.if-is_awaited.true)
  | else-is_awaited w ↦ counts false (let e = w.awaited-is in omega arith) (sym c.is_awaited.ensures ∙ w.if-is_awaited.false)
]
  where
    q : ℕ
    q = c.loop-q.q

    test : ℕ → Bool
    test = is_awaited c.args.config.now c.args.node.now c.args.round c.args.p c.args.peers.now

    counts : (b : Bool) → c.if-is_awaited.awaited ≡ c.loop-q.awaited + cond b 1 0 → test q ≡ b → record {
      count : c.if-is_awaited.awaited ≡ count_by test (range_with_len 1 (q + 1 - 1));
      low : c.if-is_awaited.awaited ≤ q + 1 - 1;
    }
    counts b e is =
        let low = c.loop-q.auto.q in
        let had = c.loop-q.invariant.count in
        let bound = c.loop-q.invariant.low in
        let more = counted test q b (omega arith) is in
        let one = at_most_one b in
        record { count = omega arith; low = omega arith }
