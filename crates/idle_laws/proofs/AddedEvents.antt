-- Events with receives of nothing behind them.
use Rattle.std.proofs.Common.{ℕ, ◌≡◌, ◌+◌, ◌-◌, ◌<◌, List, ◌++◌, length, get_or, refl, ap, ◌∙◌, arith}
use Rattle.std.specs.Prelude.{slice_index}
use Rattle.std.proofs.lemmas.List.{get_or-map, get_or_append_left, get_or-append_right, length-append}
use Rattle.std.proofs.lemmas.Slice.Zip.{AllZip-long}
use Rattle.idle_laws.proofs.Common.{Event, IdleTick, AreReceives, IsIdleReceive, ticks_of}

abbrev pub poll_of : ℕ → ℕ → IdleTick
poll_of p y = record { processor = p; tick = y }

module _ (events added : List Event) (ticks : List ℕ)
    (polls : List IdleTick) (long : length ticks ≡ length events) (r : AreReceives polls added) where
  abbrev all : List Event
  all = events ++ added

  abbrev all_ticks : List ℕ
  all_ticks = ticks ++ ticks_of polls

  pub long-all : length all ≡ length events + length polls
  long-all = let a = AllZip-long IsIdleReceive polls added r in let b = length-append events added in omega arith

  pub old-tick : (i : ℕ) → i < length events → slice_index all_ticks i ≡ slice_index ticks i
  old-tick i l = get_or_append_left ticks (ticks_of polls) 0 i (let e = long in omega arith)

  pub new-tick : (i j : ℕ) (d : IdleTick) → i ≡ length events + j → j < length polls → slice_index all_ticks i ≡ (get_or polls j d).tick
  new-tick i j d e l =
      let m = long in
      let back : i - length ticks ≡ j = omega arith in
      get_or-append_right ticks (ticks_of polls) (length ticks) i 0 refl (omega arith)
      ∙ ap (slice_index (ticks_of polls)) back
      ∙ get_or-map (λ (x : IdleTick). x.tick) polls j d 0 l
