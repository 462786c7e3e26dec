use Rattle.std.proofs.Common.{◌≡◌, ◌∙◌, sym, arith, refl, ap}
use Rattle.step_trace.specs.Configurations.{Setup}
use Rattle.link_bounds.proofs.ListedRows.{IsPhiRow-listed}
use Rattle.link_bounds.proofs.RowLists.{ListsBefore-push, ListsBefore-skip}
use Rattle.link_bounds.proofs.paces.Paces.push_rows.Goals as goal
use Rattle.link_bounds.proofs.paces.Paces.push_rows.Goals.{then-contains+in_ok-push, else-contains}

pub loop-proc-preserved : goal.loop-proc-preserved
loop-proc-preserved c =
    let members = c.args.set in
    let t = c.args.trace.now in
    let p = c.loop-proc.proc in
    let few = c.requires.known.known.few in
    let n : c.n-proc-end.result ≡ t.config.n = c.n-proc-end.ensures.value ∙ ap (λ (s : Setup). s.n) c.config.ensures in
    elim c.if-contains.branch [
      | then-contains+in_ok-push w ↦ (
          let row = IsPhiRow-listed members t c.args.at p c.args.self.now c.requires.start c.requires.end c.requires.within c.requires.known
          (sym c.contains.ensures ∙ w.if-contains.true) in
          rw (w.rows-is, w.in_ok-push.ensures.items, w.bound_from-bound.ensures)
          (ListsBefore-push members t c.args.at p c.loop-proc.rows.items _ row refl c.loop-proc.invariant))
      | else-contains w ↦ rw w.rows-is (ListsBefore-skip members t c.args.at p c.loop-proc.rows.items
          (λ member. cc (member, c.contains.ensures, w.if-contains.false))
          (λ q r s e sent. absurd (omega (arith, c.loop-proc-test.true))) c.loop-proc.invariant)
    ]
