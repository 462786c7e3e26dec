use Rattle.std.proofs.Common.{◌≤◌, length, arith, refl}
use Rattle.trace_text.specs.declared.byte_loops.TheConstants.{MAX_TEXT_BYTES}
use Rattle.trace_text.specs.declared.refusals.TextError.TheVariants.{Read}
use Rattle.trace_text.proofs.TextLaws.{gives-stands, gives-sound, gives-complete, gives-refused, gives-never, gives-not_large, stands-one}
use Rattle.shared_reading.proofs.reading.read_trace.Goals as goal

pub returns-then-text-gt-MAX_TEXT_BYTES-clause-unique : goal.returns-then-text-gt-MAX_TEXT_BYTES-clause-unique
returns-then-text-gt-MAX_TEXT_BYTES-clause-unique c = λ t u h k s r. stands-one c.args.text.now t u h k s r

pub returns-clause-stands : goal.returns-clause-stands
returns-clause-stands c = gives-stands c.args.text.now c.read_whole.result c.read_whole.ensures

pub returns-clause-sound : goal.returns-clause-sound
returns-clause-sound c = gives-sound c.args.text.now c.read_whole.result c.read_whole.ensures

pub returns-clause-complete : goal.returns-clause-complete
returns-clause-complete c = λ t h s l. gives-complete c.args.text.now c.read_whole.result t c.read_whole.ensures h s

pub returns-clause-refused : goal.returns-clause-refused
returns-clause-refused c = let l : length c.args.text.now ≤ MAX_TEXT_BYTES = omega arith in
    gives-refused c.args.text.now c.read_whole.result l c.read_whole.ensures

pub returns-clause-unique : goal.returns-clause-unique
returns-clause-unique c = λ t u h k s r. stands-one c.args.text.now t u h k s r

pub returns-clause-too_large : goal.returns-clause-too_large
returns-clause-too_large c =
    let small : length c.args.text.now ≤ MAX_TEXT_BYTES = omega arith in
    (λ e. absurd (gives-not_large c.args.text.now c.read_whole.result c.read_whole.ensures e), λ l. absurd (omega (arith, l, small)))

pub returns-clause-no_fault : goal.returns-clause-no_fault
returns-clause-no_fault c = gives-never c.args.text.now c.read_whole.result Read refl refl c.read_whole.ensures
