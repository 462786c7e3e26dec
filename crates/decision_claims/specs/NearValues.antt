-- Values that are the same up to a cap (own).
use Rattle.std.specs.Prelude.{ℕ, ◌≡◌, List, [], ◌∷◌, min, reverse}
use Rattle.decision_claims.specs.declared.values.Frame.{Frame}
use Rattle.decision_claims.specs.Formulas.{Tally}

-- the numbers of two frames are the same up to the cap
pub record IsNearFrame (cap : ℕ) (f g : Frame) : Type 0 where
  pub most : min f.most cap ≡ min g.most cap
  pub sum : min f.sum cap ≡ min g.sum cap
  pub product : min f.product cap ≡ min g.product cap

-- and those of each two frames of two lists
abbrev pub AreNearFrames : ℕ → List Frame → List Frame → Type 0
AreNearFrames cap [] [] = Unit {0}
AreNearFrames cap [] (g ∷ gs) = ⊥
AreNearFrames cap (f ∷ fs) [] = ⊥
AreNearFrames cap (f ∷ fs) (g ∷ gs) = IsNearFrame cap f g × AreNearFrames cap fs gs

-- and so what was read is the same up to the cap
pub record IsNear (cap : ℕ) (s t : Tally) : Type 0 where
  pub here : IsNearFrame cap s.here t.here
  pub around : AreNearFrames cap s.around t.around

-- what was read, with the frames around from the outside in
abbrev pub tally : Frame → List Frame → Tally
tally here around = record { here = here; around = reverse around }
