use Rattle.std.proofs.Common.{◌≡◌, ◌<◌, ◌≤◌, ◌^◌, ◌-◌, length, take}
use Rattle.std.specs.Str.Parse.{AllDigits, digits_value}
use Rattle.shared_reading.proofs.step_fields.first_number.Given as goal

-- the bytes so far are digits, and the number is theirs
abbrev pub invariant-loop-byte : goal.invariant-loop-byte
invariant-loop-byte l = (l.digits ≤ length l.bytes)
    × AllDigits 10 (take l.digits l.bytes) × (l.number ≡ digits_value 10 (take l.digits l.bytes)) × (l.number < 2 ^ 64)

abbrev pub decreases-loop-byte : goal.decreases-loop-byte
decreases-loop-byte l = length l.bytes - l.digits
