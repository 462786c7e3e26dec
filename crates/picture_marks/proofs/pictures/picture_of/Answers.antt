use Rattle.picture_marks.specs.Pictures.{all_ticks}
use Rattle.picture_marks.proofs.ShownMarks.{steps_exact, messages_exact}
use Rattle.picture_marks.proofs.MissMarks.{misses_exact}
use Rattle.picture_marks.proofs.GapMarks.{gaps_exact}
use Rattle.picture_marks.proofs.pictures.picture_of.Goals as goal

pub returns-clause-exact : goal.returns-clause-exact
returns-clause-exact c = record {
  steps = λ s. rw c.in_ok-steps.ensures.listed (steps_exact c.args.trace.now c.args.window c.args.lanes s);
  messages = λ m. rw c.in_ok-messages.ensures.listed
      (messages_exact c.args.trace.now c.args.window c.args.lanes m c.in_ok-messages.ensures.sound);
}

pub returns-clause-misses : goal.returns-clause-misses
returns-clause-misses c = λ m. rw c.in_ok-misses.ensures.listed (misses_exact c.args.trace.now c.args.window c.args.lanes c.args.rows.now m)

pub returns-clause-gaps : goal.returns-clause-gaps
returns-clause-gaps c = λ set is. rw c.in_ok-gaps.ensures.listed
    (gaps_exact set c.args.trace.now c.args.window c.args.lanes c.args.rows.now is)

pub returns-clause-stalls : goal.returns-clause-stalls
returns-clause-stalls c = λ set is. rw c.in_ok-stalls.ensures.listed
    (gaps_exact set c.args.trace.now (all_ticks c.args.trace.now) c.args.lanes c.args.rows.now is)
