-- The text of timeouts: a header, and for each follower a record for each of its timeouts.
use Rattle.std.specs.Prelude.{ℕ, ◌≡◌, ◌<◌, ◌^◌, List, [], ◌∷◌, map, codes, decimal, All}
use Rattle.std.specs.List.{flat_map}
use Rattle.timeouts.specs.declared.timeouts.Timeout.{Timeout}
use Rattle.front_timeouts.specs.declared.tables.FollowerTimeouts.{FollowerTimeouts}
use Rattle.trace_text.specs.Records.{records_of_text, text_of_records}

-- the names of the columns
abbrev pub timeouts_header : List (List ℕ)
timeouts_header = codes "follower" ∷ codes "gst" ∷ codes "delta" ∷ codes "phi" ∷ codes "heartbeat" ∷ codes "poll"
    ∷ codes "timeout" ∷ codes "delay" ∷ codes "quick" ∷ codes "least" ∷ codes "tried" ∷ []

-- the number in each
abbrev pub numbers_of : ℕ → Timeout → List ℕ
numbers_of q t = q ∷ t.gst ∷ t.delta ∷ t.phi ∷ t.heartbeat ∷ t.poll ∷ t.timeout ∷ t.delay ∷ t.quick ∷ t.least
    ∷ t.tried ∷ []

-- the record of a timeout
abbrev pub timeout_record : ℕ → Timeout → List (List ℕ)
timeout_record q t = map decimal (numbers_of q t)

-- the records of a follower's timeouts
abbrev pub follower_records : FollowerTimeouts → List (List (List ℕ))
follower_records f = map (timeout_record f.follower) f.timeouts.items

-- the records of all
abbrev pub timeouts_records : List FollowerTimeouts → List (List (List ℕ))
timeouts_records all = timeouts_header ∷ flat_map follower_records all

-- their text
abbrev pub timeouts_text : List FollowerTimeouts → List ℕ
timeouts_text all = text_of_records (timeouts_records all)

-- a text encodes the timeouts whose records csv reads from it
abbrev pub StandsFor : List ℕ → List FollowerTimeouts → Type 0
StandsFor text all = records_of_text text ≡ timeouts_records all

-- numbers as texts have them: they have 64 bits
abbrev pub AreSmall : List ℕ → Type 0
AreSmall ns = All (λ n. n < 2 ^ 64) ns

pub record AreOf64 (f : FollowerTimeouts) : Type 0 where
  pub each : All (λ t. AreSmall (numbers_of f.follower t)) f.timeouts.items
