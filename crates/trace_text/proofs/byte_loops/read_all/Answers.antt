use Rattle.std.proofs.Common.{arith, refl, ◌≡◌, ◌<◌, ◌≤◌, ◌+◌, ◌-◌, length, vec_len, ◌∙◌}
use Rattle.trace_text.proofs.Bytes.{all_read, nothing_read, length_grows, read_so_far, text_grows, too_many, rose_by_one}
use Rattle.trace_text.specs.declared.byte_loops.TheConstants.{MAX_TEXT_BYTES}
use Rattle.trace_text.proofs.byte_loops.read_all.Goals as goal

pub loop-init : goal.loop-init
loop-init g c = record {
  read = nothing_read _ _ c.new-text.ensures.items;
  brought = omega arith;
  limit = omega arith;
  piece = c.in-Ok.ensures.len;
  reads = omega arith;
  faults = refl;
}

pub returns-in_default-read-clause-cause : goal.returns-in_default-read-clause-cause
returns-in_default-read-clause-cause g c = rose_by_one _ _ _ c.loop.invariant.faults c.in_default-read.ensures.faults

pub returns-then-count-eq0-clause-text : goal.returns-then-count-eq0-clause-text
returns-then-count-eq0-clause-text g c =
    let room : 0 < length c.read.new.buf = omega (arith, c.read.auto.buf, c.deref_mut.ensures.len, c.loop.invariant.piece) in
    let bytes = c.in-Ok-read.ensures.bytes in
    all_read _ _ _ c.loop.text.items c.read.new.buf c.in-Ok-read.count c.loop.invariant.read bytes.0 c.if-count-eq0.true
    (bytes.1 c.if-count-eq0.true room)

pub returns-then-count-len-clause-cause : goal.returns-then-count-len-clause-cause
returns-then-count-len-clause-cause g c =
    let more : MAX_TEXT_BYTES - length c.loop.text.items
    < c.in-Ok-read.count = omega (arith, c.if-count-len.true, c.len.ensures, c.loop.text.ok.0) in
    too_many _ _ _ c.loop.text.items c.read.new.buf
    c.in-Ok-read.count MAX_TEXT_BYTES c.loop.invariant.read c.in-Ok-read.ensures.bytes.0 c.in-Ok-read.ensures.bound.0 more

pub loop-preserved : goal.loop-preserved
loop-preserved g c =
    let filled : length c.read.new.buf ≡ c.loop.piece.len = c.read.auto.buf ∙ c.deref_mut.ensures.len in
    let count = c.in-Ok-read.count in
    let within : count ≤ length c.deref.result.now = omega (arith, c.in-Ok-read.ensures.bound.0, filled, c.deref.ensures.len) in
    let grown : vec_len c.extend_from_slice.new.self
    ≡ vec_len c.loop.text + count = length_grows _ _ count _ _ within c.if-is_err.ensures.negation c.extend_from_slice.ensures.len in
    record {
      read = text_grows _ _ _ c.loop.text.items _ c.read.new.buf _ _ count _ _ c.loop.invariant.read
          c.in-Ok-read.ensures.bytes.0 filled c.deref.ensures.value c.if-is_err.ensures.negation
          c.extend_from_slice.ensures.items;
      brought = omega (arith, grown, c.if-count-eq0.false, c.loop.invariant.brought);
      limit = omega (arith, grown, c.if-count-len.false, c.len.ensures, c.loop.invariant.limit);
      piece = c.loop.invariant.piece;
      reads = omega (arith, c.in-Ok-read.ensures.reads, c.loop.invariant.reads);
      faults = c.in-Ok-read.ensures.faults ∙ c.loop.invariant.faults;
    }

pub returns-then-count-eq0-clause-end : goal.returns-then-count-eq0-clause-end
returns-then-count-eq0-clause-end g c =
    let room : 0 < length c.read.new.buf = omega (arith, c.read.auto.buf, c.deref_mut.ensures.len, c.loop.invariant.piece) in
    c.in-Ok-read.ensures.bytes.1 c.if-count-eq0.true room

pub returns-then-is_err-clause-within : goal.returns-then-is_err-clause-within
returns-then-is_err-clause-within g c memory =
    let within : length c.loop.text.items + c.in-Ok-read.count
    ≤ MAX_TEXT_BYTES = omega (arith, c.if-count-len.false, c.len.ensures, c.loop.invariant.limit, c.loop.text.ok.0) in
    read_so_far _ _ _ c.loop.text.items c.read.new.buf c.in-Ok-read.count
    (λ n. n ≤ MAX_TEXT_BYTES) c.loop.invariant.read c.in-Ok-read.ensures.bytes.0 c.in-Ok-read.ensures.bound.0 within

pub returns-then-is_err-clause-more : goal.returns-then-is_err-clause-more
returns-then-is_err-clause-more g c memory =
    let brought : c.read.new.self.reads ≤ c.args.reader.now.reads + (length c.loop.text.items + c.in-Ok-read.count) =
    omega (arith, c.in-Ok-read.ensures.reads, c.loop.invariant.reads, c.loop.invariant.brought, c.if-count-eq0.false, c.loop.text.ok.0) in
    read_so_far _ _ _ c.loop.text.items c.read.new.buf c.in-Ok-read.count (λ n. c.read.new.self.reads ≤ c.args.reader.now.reads + n)
    c.loop.invariant.read c.in-Ok-read.ensures.bytes.0 c.in-Ok-read.ensures.bound.0 brought
