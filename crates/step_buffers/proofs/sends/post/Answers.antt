use Rattle.std.proofs.Common.{◌≡◌, ◌+◌, ◌-◌, ◌∙◌, ◌++◌, ◌∷◌, [], suc, length, slice_set, refl, ap, arith}
use Rattle.std.proofs.lemmas.Option.{slice_get_read}
use Rattle.std.proofs.lemmas.List.{length_push, length-set}
use Rattle.step_trace.specs.Configurations.{IsProc}
use Rattle.step_buffers.proofs.KeptLetters.{AreLetters-sent}
use Rattle.step_buffers.proofs.NextSends.{IsProc-next_send}
use Rattle.step_buffers.proofs.KeptProcessors.{AreProcessors-sent}
use Rattle.step_buffers.proofs.sends.post.Goals as goal
use Rattle.step_buffers.proofs.sends.post.Goals.{After-share}

-- the destination is a processor
dest : (c : After-share) → IsProc c.args.trace.now.config c.args.to
dest c = IsProc-next_send c.args.trace.now.config c.args.trace.now.steps c.args.p c.args.to c.requires.next.due

pub make_room-requires-clause-low : goal.make_room-requires-clause-low
make_room-requires-clause-low c = (dest (goal.at.make_room-requires-clause-low c).After-share).0

pub make_room-requires-clause-high : goal.make_room-requires-clause-high
make_room-requires-clause-high c = rw c.requires.world.processors.count (dest (goal.at.make_room-requires-clause-high c).After-share).1

pub overflow_sub-to : goal.overflow_sub-to
overflow_sub-to c = (dest (goal.at.overflow_sub-to c).After-share).0

pub index_mut-receiver-requires : goal.index_mut-receiver-requires
index_mut-receiver-requires c =
    let is = dest (goal.at.index_mut-receiver-requires c).After-share in
    omega (arith, c.requires.world.processors.count, is.1, is.0, c.in_ok-make_room.ensures.count)

pub returns-in_err-make_room-clause-world : goal.returns-in_err-make_room-clause-world
returns-in_err-make_room-clause-world c = record {
  setup = c.requires.world.setup;
  paced = c.requires.world.paced;
  letters = rw c.in_err-make_room.ensures.letters c.requires.world.letters;
  processors = c.in_err-make_room.ensures.processors c.args.trace.now.config c.args.trace.now.steps c.requires.world.processors;
}

pub returns-in_err-append-clause-world : goal.returns-in_err-append-clause-world
returns-in_err-append-clause-world c =
    rw c.in_err-append.ensures.err (record {
      setup = c.requires.world.setup;
      paced = c.requires.world.paced;
      letters = rw c.in_ok-make_room.ensures.letters c.requires.world.letters;
      processors = c.in_ok-make_room.ensures.processors c.args.trace.now.config c.args.trace.now.steps c.requires.world.processors;
    })

pub returns-clause-world : goal.returns-clause-world
returns-clause-world c =
    let config = c.args.trace.now.config in
    let steps = c.args.trace.now.steps in
    let to = c.args.to in
    let p = c.args.p in
    let world = c.requires.world in
    let grown = c.in_ok-append.ensures.grown in
    let is = dest (goal.at.returns-clause-world c).After-share in
    let low = is.0 in
    let high = is.1 in
    let mine = c.requires.next.proc in
    let p_low = mine.0 in
    let p_high = mine.1 in
    let are = c.in_ok-make_room.ensures.processors config steps world.processors in
    let count = are.count in
    let roomy = c.make_room.new.processors.items in
    let ra = c.index_mut-receiver.result.now in
    let at = slice_get_read roomy (length roomy) (to - 1) ra refl (omega arith) c.index_mut-receiver.ensures.value in
    let size : length c.append.new.trace.steps ≡ suc (length steps) = ap length grown.steps
    ∙ length_push steps _ ∙ (let e : length steps + 1 ≡ suc (length steps) = omega arith in e) in
    let items : c.push_reserved.new.self.items ≡ ra.buffer.items ++ suc (length steps) ∷ [] = c.push_reserved.ensures.items
    ∙ rw (c.len.ensures.value, size) refl in
    let posted = slice_set roomy (to - 1) (record ra { buffer = c.push_reserved.new.self }) in
    let at_p = slice_get_read posted (length posted) (p - 1) c.index_mut-sender.result.now refl
    (let e = length-set roomy (to - 1) (record ra { buffer = c.push_reserved.new.self }) in omega arith)
    c.index_mut-sender.ensures.value in
    let place = c.requires.place in
    let said = place.2 in
    let letters = AreLetters-sent config steps p to
    c.args.letters.now.items place.0 world.paced.run.well_formed world.letters said.sender said.round (rw said.round said.body) in
    let kept = AreProcessors-sent config steps p to roomy ra c.index_mut-sender.result.now c.push_reserved.new.self c.in_ok-said.said
    (rw (← grown.config, ← grown.steps) c.in_ok-append.ensures.run.run.well_formed) mine c.requires.next.due are at items at_p
    (rw c.in_ok-said.ensures place) in
    record {
      setup = rw grown.config world.setup;
      paced = c.in_ok-append.ensures.run;
      letters = rw (grown.config, grown.steps, c.push_reserved-2.ensures.items, c.in_ok-make_room.ensures.letters, place.1) letters;
      processors = rw (grown.config, grown.steps) kept;
    }

pub push_reserved-requires : goal.push_reserved-requires
push_reserved-requires c =
    let is = dest (goal.at.push_reserved-requires c).After-share in
    let low = is.0 in
    let high = is.1 in
    let same = c.in_ok-make_room.ensures.count in
    let count = c.requires.world.processors.count in
    let ra = c.index_mut-receiver.result.now in
    c.in_ok-make_room.ensures.room ra
    (slice_get_read c.make_room.new.processors.items
    (length c.make_room.new.processors.items) (c.args.to - 1) ra refl (omega arith) c.index_mut-receiver.ensures.value)
