use Rattle.std.proofs.Common.{◌-◌, length, refl, arith}
use Rattle.std.proofs.lemmas.Option.{slice_get_read}
use Rattle.step_buffers.proofs.KeptProcessors.{AreProcessors-room}
use Rattle.step_buffers.proofs.sends.make_room.Goals as goal

pub returns-clause-processors : goal.returns-clause-processors
returns-clause-processors c = λ config steps are.
    let low = c.requires.low in
    let high = c.requires.high in
    let ra = c.index_mut-receiver.result.now in
    let at = slice_get_read c.args.processors.now.items
    (length c.args.processors.now.items) (c.args.to - 1) ra refl (omega arith) c.index_mut-receiver.ensures.value in
    AreProcessors-room config steps c.args.processors.now.items c.args.to ra c.reserve-2.new.self low are at c.reserve-2.ensures.items
