use Rattle.std.proofs.Common.{◌+◌, refl, arith}
use Rattle.csv.specs.declared.parser.State.TheVariants as st
use Rattle.trace_text.specs.CsvPlaces.{state_of}
use Rattle.shared_reading.specs.Seams.{state_after}
use Rattle.log_windows.proofs.SeamPlaces.{after-more, closed-by, none-by, within-by}
use Rattle.log_windows.proofs.seams.quoted_seam_len.Goals as goal

pub loop-i-init : goal.loop-i-init
unfolding state_after
loop-i-init c = record { within = omega arith; place = refl; closed = refl; last = λ n low high closed. absurd (omega (arith, high)) }

pub loop-i-preserved : goal.loop-i-preserved
loop-i-preserved c =
    let text = c.args.text.now in
    let i = c.loop-i.i in
    let place = state_of c.after-place.result in
    let more = after-more st.StartRecord (state_of c.loop-i.place)
    place text i c.loop-i-test.true c.loop-i.invariant.place c.after-place.ensures in
    record {
      within = rw c.seam_by-seam.ensures (within-by place c.loop-i.seam (i + 1) (omega (arith, c.loop-i.invariant.within)));
      place = more;
      closed = rw c.seam_by-seam.ensures (closed-by place text c.loop-i.seam (i + 1) c.loop-i.invariant.closed more);
      last = rw c.seam_by-seam.ensures (none-by place text c.loop-i.seam i c.loop-i.invariant.last more);
    }

pub returns-clause-last : goal.returns-clause-last
returns-clause-last c = λ n low high is closed. c.loop-i.invariant.last n low (omega (arith, high, c.loop-i-test.false)) closed
