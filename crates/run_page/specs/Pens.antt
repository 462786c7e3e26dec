-- What a pen writes (own).
use Rattle.std.specs.Prelude.{ℕ, ◌≡◌, ◌++◌, List, false}
use Rattle.run_page.specs.declared.pens.Pen.{Pen}

-- the pen has written these bytes after what it had written before, unless an allocation fails, now or
-- before
pub record HasWritten (bytes : List ℕ) (old : Pen) (new : Pen) : Type 0 where
  pub names : new.names ≡ old.names
  pub said : new.said ≡ old.said
  pub clock : new.clock ≡ old.clock
  pub text : new.is_refused ≡ false → (old.is_refused ≡ false) × (new.text.items ≡ old.text.items ++ bytes)
