use Rattle.std.proofs.Common.{◌≡◌, List, take}
use Rattle.trace_text.specs.RecordWriting.{IsReady, written}
use Rattle.front_timeouts.specs.declared.tables.FollowerTimeouts.{FollowerTimeouts}
use Rattle.front_timeouts.specs.Tables.{AreFollowed}
use Rattle.front_timeouts.specs.TimeoutTexts.{timeouts_text}
use Rattle.front_timeouts.proofs.texts.listed_text.Given as goal

-- the followers so far are written
abbrev pub invariant-loop-q : goal.invariant-loop-q
invariant-loop-q l = record {
  ready : IsReady l.writer;
  all : List FollowerTimeouts;
  followed : AreFollowed l.trace l.p l.given l.at (take l.q-index l.followers) all;
  text : written l.writer ≡ timeouts_text all;
}
