use Rattle.trace_text.specs.TraceTexts.{version_of}
use Rattle.trace_text.proofs.OnePerTick.{HasTextsOf-version_of}
use Rattle.trace_text.proofs.WrittenTexts.{StandsFor-version_text, short-version_text}
use Rattle.trace_text.proofs.writing.write_trace.Goals as goal

pub returns-clause-stands : goal.returns-clause-stands
returns-clause-stands g c = StandsFor-version_text (version_of c.args.trace.now) c.args.trace.now c.trace_text_of.ensures.sound
    (HasTextsOf-version_of c.args.trace.now c.version_of.ensures.sound.time)

pub returns-clause-short : goal.returns-clause-short
returns-clause-short g c = short-version_text (version_of c.args.trace.now) c.args.trace.now c.trace_text_of.ensures.sound

pub returns-in_default-clause-stands : goal.returns-in_default-clause-stands
returns-in_default-clause-stands g c = StandsFor-version_text (version_of c.args.trace.now) c.args.trace.now c.trace_text_of.ensures.sound
    (HasTextsOf-version_of c.args.trace.now c.version_of.ensures.sound.time)

pub returns-in_default-clause-short : goal.returns-in_default-clause-short
returns-in_default-clause-short g c = short-version_text (version_of c.args.trace.now) c.args.trace.now c.trace_text_of.ensures.sound
