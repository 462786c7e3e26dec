-- A list made of pieces, of which one is not empty (own).
use Rattle.std.proofs.Common.{ℕ, ◌<◌, List, get_or, length, arith}
use Rattle.std.specs.List.{flat_map}
use Rattle.std.proofs.lemmas.List.Folds.{length-flat_map-take}

pub some-piece : {X Y : Type 0} (f : X → List Y) (xs : List X) (i : ℕ) (d : X)
    → i < length xs → 0 < length (f (get_or xs i d)) → 0 < length (flat_map f xs)
some-piece f xs i d l some = let long = length-flat_map-take f xs i d l in omega (arith, long, some)
