-- The messages of a simulated run: when they are due, and which are lost.
use Rattle.std.specs.Prelude.{ℕ, ◌≡◌, ◌+◌, ◌-◌, ◌<◌, ◌≤◌, ◌⊎◌, List, [], ◌∷◌, ◌++◌}
use Rattle.std.specs.Prelude.{max, Option, IfSome, slice_index_or, slice_set}
use Rattle.command_options.specs.declared.simulations.StatedBounds.{StatedBounds}
use Rattle.simulated_runs.specs.declared.trays.Posted.{Posted}

-- what is under way to p
abbrev pub tray_of : List (List Posted) → ℕ → List Posted
tray_of trays p = slice_index_or trays (p - 1) []

-- the trays with this one for p
abbrev pub with_tray : List (List Posted) → ℕ → List Posted → List (List Posted)
with_tray trays p tray = slice_set trays (p - 1) tray

-- a message that is sent in tick x may be lost: if bounds are stated, up to the stabilization time
abbrev pub MayBeLost : Option StatedBounds → ℕ → Type 0
MayBeLost bounds x = IfSome bounds (λ b. x ≤ b.gst)

-- it is due after x, and if bounds are stated, within the communication bound
pub record IsDueTick (bounds : Option StatedBounds) (x due : ℕ) : Type 0 where
  pub after : x < due
  pub within : IfSome bounds (λ b. due ≤ max x b.gst + b.delta)

-- the message to p that is sent in tick x is lost, or under way until it is due
abbrev pub IsPosted : Option StatedBounds → List (List Posted) → List (List Posted) → ℕ → ℕ → Type 0
IsPosted bounds old new p x = (MayBeLost bounds x × (new ≡ old))
    ⊎ ((due : ℕ) × IsDueTick bounds x due
    × (new ≡ with_tray old p (tray_of old p ++ record { id = x; due = due } ∷ [])))
