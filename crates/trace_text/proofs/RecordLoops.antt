-- What a loop knows that reads the records of a text one after the other with csv's default reader, which
-- has no headers.
use Rattle.std.proofs.Common.{◌≡◌, ◌<◌, ℕ, List, [], ◌∷◌, ◌++◌, length, Option, Some, None, true, false, Bor, inl, ◌∙◌, refl}
use Rattle.csv.specs.Reading.{Reached, ReadRecord, Ready, default_config, records, source_of, strip_bom}
use Rattle.csv.specs.declared.reader.Reader.{Reader}
use Rattle.csv.specs.declared.reader.Trim.TheVariants as trim
use Rattle.csv.specs.declared.parser.State.TheVariants as st
use Rattle.csv.proofs.ReadFacts.{rows-end, rows-more}
use Rattle.trace_text.proofs.ReachedRecords.{are-records, records-front, reached-begins, reached-less}

-- the bytes before a reader over a text
abbrev pub bytes_of : Bor (List ℕ) → Option (List ℕ)
bytes_of text = Some text.now

-- the reader has read the records `done` of a text, and has the bytes `left` before it
pub record HasRead (text : List ℕ) (reader : Reader (Bor (List ℕ))) (done : List (List (List ℕ))) : Type 0 where
  pub plain : reader.trim ≡ trim.None
  pub flexible : reader.flexible ≡ true
  pub ready : Ready reader
  pub config : reader.config ≡ default_config
  pub left : List ℕ
  pub source : source_of bytes_of reader ≡ Some left
  pub reached : Reached default_config st.StartRecord (strip_bom text) done reader.state left

length_of : Option (List ℕ) → ℕ
length_of None = 0
length_of (Some xs) = length xs

-- how many bytes a reader has before it
pub bytes_left : Reader (Bor (List ℕ)) → ℕ
bytes_left reader = length_of (source_of bytes_of reader)

-- one more record
pub HasRead-more : (text : List ℕ) (a b : Reader (Bor (List ℕ))) (done : List (List (List ℕ))) (fields : List (List ℕ)) → HasRead
    text a done → ReadRecord bytes_of a b true fields → b.first ≡ true → b.flexible ≡ a.flexible → HasRead text b (done ++ (fields ∷ []))
HasRead-more text a b done fields h r first same =
    let m = rows-more bytes_of a b fields default_config st.StartRecord (strip_bom text) h.left done h.config h.source h.reached r in
    record {
      plain = r.3 ∙ h.plain;
      flexible = same
          ∙ h.flexible;
      ready = inl first;
      config = r.2 ∙ h.config;
      left = m.0;
      source = m.1;
      reached = m.2;
    }

-- a record takes a byte
pub HasRead-less : (text : List ℕ) (a b : Reader (Bor (List ℕ))) (done : List (List (List ℕ))) (fields : List (List ℕ))
    → HasRead text a done → ReadRecord bytes_of a b true fields → bytes_left b < bytes_left a
unfolding Reached bytes_left length_of
HasRead-less text a b done fields h r =
    let m = rows-more bytes_of a b fields default_config a.state h.left h.left [] h.config h.source (refl, refl) r in
    let less = reached-less a.state h.left fields b.state m.0
    (reached-begins st.StartRecord (strip_bom text) done a.state h.left refl h.reached) m.2 in
    rw (h.source, m.1) less

-- if no record is left, all were read
pub HasRead-all : (text : List ℕ) (a b : Reader (Bor (List ℕ))) (done : List (List (List ℕ))) (fields : List (List ℕ))
    → HasRead text a done → ReadRecord bytes_of a b false fields → records default_config (strip_bom text) ≡ done
HasRead-all text a b done fields h r =
    are-records (strip_bom text) done (a.state, h.left, h.reached, rows-end bytes_of a b fields default_config h.left h.config h.source r)

-- what was read is a front of the records
pub HasRead-front : (text : List ℕ) (a : Reader (Bor (List ℕ))) (done : List (List (List ℕ))) → HasRead text a done
    → (rest : List (List (List ℕ))) × (records default_config (strip_bom text) ≡ done ++ rest)
HasRead-front text a done h = records-front (strip_bom text) done a.state h.left h.reached
