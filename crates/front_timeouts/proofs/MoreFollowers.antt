-- The timeouts of one follower more.
use Rattle.std.proofs.Common.{ℕ, ◌≡◌, ◌+◌, ◌<◌, inl, inr, List, [], ◌∷◌, ◌++◌, length, get_or, take, Option, refl, sym, ap, subst, ◌∙◌}
use Rattle.std.proofs.lemmas.List.{take_more, map-append}
use Rattle.std.proofs.lemmas.List.Elements.{Contains-append_cases}
use Rattle.step_trace.specs.Traces.{Recorded}
use Rattle.step_trace.proofs.ListMembers.{Contains-cons_cases, Contains-nil}
use Rattle.timeouts.specs.declared.timeouts.Turns.{Turns}
use Rattle.front_timeouts.specs.declared.tables.FollowerTimeouts.{FollowerTimeouts}
use Rattle.front_timeouts.specs.Tables.{IsFollowed, AreFollowed}

pub AreFollowed-more : (trace : Recorded) (p : ℕ) (given : Turns) (at : Option ℕ) (followers : List ℕ) (i : ℕ)
    (old : List FollowerTimeouts) (f : FollowerTimeouts) → i < length followers → f.follower ≡ get_or followers i 0
    → IsFollowed trace p given at f → AreFollowed trace p given at (take i followers) old
    → AreFollowed trace p given at (take (i + 1) followers) (old ++ f ∷ [])
AreFollowed-more trace p given at followers i old f inside is here known = record {
  order = map-append (λ f. f.follower) old (f ∷ [])
      ∙ ap (λ xs. xs ++ f.follower ∷ []) known.order
      ∙ ap (λ q. take i followers ++ q ∷ []) is
      ∙ sym (take_more followers i 0 inside);
  each = λ g among. elim (Contains-append_cases old (f ∷ []) g among) [
    | inl before ↦ known.each g before
    | inr last ↦ elim (Contains-cons_cases f g [] last)
        [ inl same ↦ subst (IsFollowed trace p given at) same here | inr none ↦ absurd (Contains-nil g none) ]
  ];
}

pub AreFollowed-none : (trace : Recorded) (p : ℕ) (given : Turns) (at : Option ℕ) → AreFollowed trace p given at [] []
AreFollowed-none trace p given at = record { order = refl; each = λ f among. absurd (Contains-nil f among) }
