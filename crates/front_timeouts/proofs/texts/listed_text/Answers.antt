use Rattle.std.proofs.Common.{ℕ, ◌≡◌, ◌++◌, ◌∷◌, ◌∙◌, List, [], take, ap, subst, refl, sym, arith}
use Rattle.std.proofs.lemmas.List.{take_all}
use Rattle.std.proofs.lemmas.Result.{IfOk-weaker}
use Rattle.trace_text.specs.Records.{text_of_records}
use Rattle.front_timeouts.specs.Tables.{AreFollowed, IsTimeoutsText}
use Rattle.front_timeouts.specs.TimeoutTexts.{follower_records, timeouts_text}
use Rattle.front_timeouts.proofs.MoreFollowers.{AreFollowed-more, AreFollowed-none}
use Rattle.front_timeouts.proofs.TextsRead.{StandsFor-timeouts_text, timeouts_text-more, timeouts_text-none}
use Rattle.front_timeouts.proofs.texts.listed_text.Goals as goal

pub loop-q-init : goal.loop-q-init
loop-q-init c = record {
  ready = c.in_ok-write_record.ensures.ready;
  all = [];
  followed = AreFollowed-none c.args.trace.now c.args.p c.args.given c.args.at;
  text = rw c.record_writer-writer.ensures.text at c.in_ok-write_record.ensures.text ∙ sym timeouts_text-none;
}

pub write_follower-requires : goal.write_follower-requires
write_follower-requires c = c.loop-q.invariant.ready

pub loop-q-preserved : goal.loop-q-preserved
loop-q-preserved c =
    let known = c.loop-q.invariant in
    record {
      ready = c.in_ok-write_follower.ensures.ready;
      all = known.all ++ c.in_ok-follower.follower ∷ [];
      followed = AreFollowed-more c.args.trace.now c.args.p c.args.given c.args.at c.args.followers.now c.loop-q.q-index
          known.all c.in_ok-follower.follower c.loop-q-test.true c.in_ok-follower.ensures.follower
          c.in_ok-follower.ensures.followed known.followed;
      text = c.in_ok-write_follower.ensures.text ∙ ap (λ (text : List ℕ). text ++ text_of_records
          (follower_records c.in_ok-follower.follower)) known.text ∙ sym (timeouts_text-more known.all c.in_ok-follower.follower);
    }

pub returns : goal.returns
returns c =
    let known = c.loop-q.invariant in
    let end : take c.loop-q.q-index c.args.followers.now
    ≡ c.args.followers.now = take_all c.loop-q.q-index c.args.followers.now (omega (arith, c.loop-q-test.false)) in
    let followed = subst (λ (qs : List ℕ). AreFollowed c.args.trace.now c.args.p c.args.given c.args.at qs known.all) end known.followed in
    let text : IsTimeoutsText c.args.trace.now c.args.p c.args.followers.now c.args.given c.args.at
    (timeouts_text known.all) =
    record { all = known.all; followed = followed; written = refl; read = StandsFor-timeouts_text known.all } in
    IfOk-weaker c.text_written.result _ _ (λ v written. subst (IsTimeoutsText c.args.trace.now
    c.args.p c.args.followers.now c.args.given c.args.at) (sym (written ∙ known.text)) text) c.text_written.ensures
