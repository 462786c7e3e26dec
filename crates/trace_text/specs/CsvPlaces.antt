-- Where csv's reader is in a text.
use Rattle.csv.specs.declared.parser.State.{State}
use Rattle.csv.specs.declared.parser.State.TheVariants as st
use Rattle.trace_text.specs.declared.csv_places.Place.{Place}
use Rattle.trace_text.specs.declared.csv_places.Place.TheVariants as place

-- the state of csv's machine in a place
abbrev pub state_of : Place → State
state_of place.StartRecord = st.StartRecord
state_of place.StartField = st.StartField
state_of place.InField = st.InField
state_of place.InQuotes = st.InQuoted
state_of place.AfterQuote = st.AfterQuote
state_of place.AfterReturn = st.AfterCr
