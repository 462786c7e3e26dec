-- The fields of lines that encode a step in canonical form.
use Rattle.std.specs.Prelude.{ℕ, ◌≡◌, ◌<◌, ◌≤◌, ◌++◌, List, [], ◌∷◌, length, drop, take, Option, Some, IfSome}
use Rattle.trace_text.specs.declared.versions.Version.{Version}
use Rattle.trace_text.specs.declared.versions.Version.TheVariants.{One, Two}
use Rattle.trace_text.specs.Records.{number_of}
use Rattle.shared_reading.specs.declared.step_fields.Field.{Field}
use Rattle.shared_reading.specs.declared.step_fields.NumberField.{NumberField}
use Rattle.shared_reading.specs.declared.step_fields.Argument.{Argument}
use Rattle.shared_reading.specs.declared.step_fields.StepFields.{StepFields}
use Rattle.shared_reading.specs.declared.step_fields.FirstNumber.{FirstNumber}

-- so many of the first bytes are the text of a number
pub record IsFirstNumber (bytes : List ℕ) (f : FirstNumber) : Type 0 where
  pub digits : f.digits ≤ length bytes
  pub number : number_of (take f.digits bytes) ≡ Some f.number

-- a field is at a place of a text, with this byte behind it, and its end is behind that
pub record IsFieldAt (text : List ℕ) (at last : ℕ) (f : Field) : Type 0 where
  pub end : f.end ≤ length text
  pub some : at < f.end
  pub is : drop at text ≡ f.bytes.now ++ last ∷ drop f.end text

-- the same of a number
pub record IsNumberAt (text : List ℕ) (at last : ℕ) (f : NumberField) : Type 0 where
  pub field : IsFieldAt text at last f.field
  pub number : number_of f.field.bytes.now ≡ Some f.number

-- the tick's field is behind the number, or is that in version 1, which has none
abbrev pub IsTickAt : Version → List ℕ → NumberField → NumberField → Type 0
IsTickAt One text number f = f ≡ number
IsTickAt Two text number f = IsNumberAt text number.field.end 44 f

-- a field up to the end of the line is at a place, and its number is known if there is one
pub record IsArgumentAt (text : List ℕ) (at : ℕ) (f : Argument) : Type 0 where
  pub field : IsFieldAt text at 10 f.field
  pub number : IfSome f.number (λ n. number_of f.field.bytes.now ≡ Some n)

-- the record of these fields
abbrev pub record_of : Version → StepFields → List (List ℕ)
record_of One f = f.no.field.bytes.now ∷ f.proc.field.bytes.now ∷ f.operation.bytes.now ∷ f.arg.field.bytes.now ∷ []
record_of Two f = f.no.field.bytes.now ∷ f.tick.field.bytes.now ∷ f.proc.field.bytes.now ∷ f.operation.bytes.now
    ∷ f.arg.field.bytes.now ∷ []

-- the tick of the step of this number
abbrev pub told_tick : Version → ℕ → List ℕ → Option ℕ
told_tick One n field = Some n
told_tick Two n field = number_of field

-- the numbers are those that the fields write
pub record AreNumbersOf (v : Version) (f : StepFields) : Type 0 where
  pub no : number_of f.no.field.bytes.now ≡ Some f.no.number
  pub tick : told_tick v f.no.number f.tick.field.bytes.now ≡ Some f.tick.number
  pub proc : number_of f.proc.field.bytes.now ≡ Some f.proc.number
  pub arg : IfSome f.arg.number (λ n. number_of f.arg.field.bytes.now ≡ Some n)
