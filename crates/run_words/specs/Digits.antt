-- Numbers in digits (own).
use Rattle.std.specs.Prelude.{ℕ, ◌/◌, ◌%◌, ◌++◌, List, codes, decimal, if◌then◌else◌, nat_lt}

-- a number below 100 in two digits
abbrev pub digits_text : ℕ → List ℕ
digits_text n = decimal (n / 10) ++ decimal (n % 10)

-- a comma, and a number below 1,000 in three digits
abbrev pub grouped_text : ℕ → List ℕ
grouped_text n = codes "," ++ (decimal (n / 100) ++ digits_text (n % 100))

-- a number with a comma before each three digits, up to those of the thousands
abbrev pub count_text : ℕ → List ℕ
count_text n =
    if nat_lt n 1000 then decimal n
    else if nat_lt n 1000000 then decimal (n / 1000) ++ grouped_text (n % 1000)
    else decimal (n / 1000000) ++ (grouped_text (n / 1000 % 1000) ++ grouped_text (n % 1000))
