use Rattle.std.proofs.Common.{◌≡◌, ◌≤◌, ◌+◌, vec_len}
use Rattle.std.specs.Io.KnownBytes.{Consumes}
use Rattle.trace_text.specs.declared.byte_loops.TheConstants.{MAX_TEXT_BYTES}
use Rattle.trace_text.proofs.byte_loops.read_all.Given as goal

-- what was read and what is left are what there was; each turn made one read and brought a byte; no call failed
abbrev pub invariant-loop : goal.invariant-loop
invariant-loop g l = record {
  read : Consumes (g.R.Read.remaining l.initial.reader.inner) (g.R.Read.remaining l.reader.inner) l.text.items;
  brought : l.counter ≤ vec_len l.text;
  limit : vec_len l.text ≤ MAX_TEXT_BYTES;
  piece : vec_len l.piece ≡ 65536;
  reads : l.reader.reads ≤ l.initial.reader.reads + l.counter;
  faults : l.reader.faults ≡ l.initial.reader.faults;
}
