-- Facts of single steps.
use Rattle.std.proofs.Common.{ℕ, ◌≡◌, List, Some, refl, ap, ◌∙◌, arith}
use Rattle.std.specs.Prelude.{Contains}
use Rattle.step_trace.proofs.StepPositions.{same_step}
use Rattle.certificate_checker.proofs.Common.{Act, Send, Receive, Step, Setup, act_ids, step_at, TakesAt, IsReceiveOf, IsWellFormed}

-- who takes a message is its receiver
pub taker_receives : (c : Setup) (steps : List Step) (s a b place : ℕ) → IsWellFormed c steps
    → step_at steps s ≡ Some (record { proc = a; act = Send b }) → TakesAt steps place s → IsReceiveOf steps place b
taker_receives c steps s a b place w h t = go t.0.act refl t.2 where
  proc : t.0.proc ≡ b
  proc = let sent = (w.earlier place s t.0 t.1 t.2).1 in
      let same = ap (λ (z : Step). z.act) (same_step steps s _ _ sent.1 h) in
      cc

  go : (act : Act) → t.0.act ≡ act → Contains (act_ids act) s → IsReceiveOf steps place b
  go (Send q) e m = absurd (let l = m.1 in omega arith)
  go (Receive ends ids) e m = record {
    ids = ids;
    ends = ends;
    step = t.1 ∙ ap (λ (v : Act). let z : Step = record { proc = t.0.proc; act = v } in Some z) e
        ∙ ap (λ (q : ℕ). let z : Step = record { proc = q; act = Receive ends ids } in Some z) proc;
  }
