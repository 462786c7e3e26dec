-- Where the text of a crash is cut.
use Rattle.std.proofs.Common.{◌≡◌, ◌≢◌, ◌<◌, ◌^◌, ℕ, List, ◌∷◌, length, get_or, decimal, All, Option, MatchOption, arith, Bor}
use Rattle.std.proofs.lemmas.List.Elements.{All-append, All-cons, All-get_or}
use Rattle.std.proofs.lemmas.Bool.{ne_eqb}
use Rattle.std.proofs.lemmas.Str.Pattern.{IsSplitOnceResult, split_after}
use Rattle.command_options.specs.declared.simulations.Crash.{Crash}
use Rattle.command_line.specs.CrashLists.{IsCrash64, crash_text}
use Rattle.command_line.proofs.CommaLists.{IsDigit, IsNoComma, decimal_digits, decimal_no_comma}

pub crash_no_comma : (crash : Crash) → IsCrash64 crash → All IsNoComma (crash_text crash)
crash_no_comma crash h = All-append IsNoComma (decimal crash.proc) (64 ∷ decimal crash.tick) (decimal_no_comma crash.proc h.0)
    (All-cons IsNoComma 64 (decimal crash.tick) (ne_eqb 64 44 (λ e. omega (arith, e))) (decimal_no_comma crash.tick h.1))

-- a number has no @
no_at : (n : ℕ) → n < 2 ^ 64 → (i : ℕ) → i < length (decimal n) → get_or (decimal n) i 0 ≢ 64
no_at n h i inside e = let digit = All-get_or IsDigit (decimal n) i 0 inside (decimal_digits n h) in omega (arith, digit.0, digit.1, e)

-- the text of a crash is cut at its @
pub cut_at : (text : List ℕ) (crash : Crash) (r : Option (Bor (List ℕ) × Bor (List ℕ))) → IsSplitOnceResult 64 text r
    → IsCrash64 crash → text ≡ crash_text crash → MatchOption r ⊥ (λ x. (x.0.now ≡ decimal crash.proc) × (x.1.now ≡ decimal crash.tick))
cut_at text crash r cut h e = split_after 64 text (decimal crash.proc) (decimal crash.tick) r cut (omega arith) e (no_at crash.proc h.0)
