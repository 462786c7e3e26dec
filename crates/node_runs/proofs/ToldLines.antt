-- What went out of a follower's lines, one after the other.
use Rattle.std.proofs.Common.{◌≡◌, ◌<◌, ℕ, Bool, true, false, List, [], ◌∷◌, ◌++◌, Option, Result, Ok, Err, OnOk, IfErr, inl, inr, refl, sym, subst, take, length, append-nil, arith, Some, None, ◌∙◌}
use Rattle.std.specs.Io.KnownBytes.{Appends}
use Rattle.std.proofs.KnownBytes.{Appends-nil, Appends-trans}
use Rattle.std.proofs.Math.Seq.{take-length}
use Rattle.std.proofs.lemmas.Grind.{flat_map-append}
use Rattle.step_trace.specs.Configurations.{Setup}
use Rattle.step_trace.specs.Traces.{Recorded}
use Rattle.deciding_runs.specs.declared.decisions.Decision.{Decision}
use Rattle.deciding_runs.specs.Decisions.{decisions}
use Rattle.locked_recorder.specs.Prefixes.{IsRunOf}
use Rattle.trace_text.specs.declared.counting.Counting.{Counting}
use Rattle.trace_text.specs.Faults.{inner_of}
use Rattle.command_faults.specs.declared.faults.Fault.{Fault}
use Rattle.command_faults.specs.declared.faults.Fault.TheVariants as fault
use Rattle.command_faults.specs.Printing.{IsUnprinted, IsUntold, IsWriteFault}
use Rattle.node_runs.specs.declared.followers.Follower.{Follower}
use Rattle.node_runs.specs.declared.standings.Standing.{Standing}
use Rattle.node_runs.specs.DecisionLines.{told_later}
use Rattle.node_runs.specs.Standings.{IsStanding}
use Rattle.node_runs.specs.StandingLines.{told_standing, told_stop}
use Rattle.node_runs.specs.Followers.{AreParts, HasBegun, HasFollowed, HasTold, HasToldEnd, HasToldOne, IsDue, IsEndLine, IsLine, IsLineOf, IsNextLineOf, TellsOf, TellsSince}

-- nothing went out
pub begun_nothing : (Line : List ℕ → Type 0) (line : List ℕ) (x : Option (List ℕ)) → Line line → HasBegun Line x x
begun_nothing Line line x h = record { line = line; line_is = h; count = 0; out = Appends-nil x }

-- a printed line, or one of which a part went out
pub begun : {T A : Type 0} (Line : List ℕ → Type 0) (line : List ℕ) (contents : T → Option (List ℕ))
    (old new : Counting T) (r : Result A Fault) → Line line → OnOk r (Appends (contents (inner_of old)) (contents (inner_of new)) line)
    → IfErr r (λ why. IsUntold why line (contents (inner_of old)) (contents (inner_of new)))
    → IfErr r (IsWriteFault old new) → HasBegun Line (contents (inner_of old)) (contents (inner_of new))
begun Line line contents old new (Ok _) h told part cause = record {
  line = line;
  line_is = h;
  count = length line;
  out = subst (Appends (contents (inner_of old)) (contents (inner_of new))) (sym (take-length line)) told;
}
begun Line line contents old new (Err (fault.Write n)) h told part cause = record { line = line; line_is = h; count = n; out = part.1 }
begun Line line contents old new (Err w) h told part cause = subst
    (λ x. HasBegun Line (contents (inner_of old)) (contents (inner_of x))) (sym cause) (begun_nothing Line line (contents (inner_of old)) h)

-- the line of how synchronous a trace is, printed whole with its news
pub told_whole : {T A : Type 0} (set : ℕ) (trace : Recorded) (standing : Option Standing) (news : List ℕ)
    (contents : T → Option (List ℕ)) (old new : Counting T) (r : Result A Fault) → IsStanding set trace standing
    → OnOk r (Appends (contents (inner_of old)) (contents (inner_of new)) (told_standing standing ++ news))
    → OnOk r (HasToldOne (TellsOf set trace news) (contents (inner_of old)) (contents (inner_of new)))
told_whole set trace standing news contents old new (Ok _) stands told =
    record { line = told_standing standing ++ news; line_is = record { standing = standing; stands = stands; told = refl }; out = told }
told_whole set trace standing news contents old new (Err _) stands told = tt

-- a text that wasn't printed is no line that went out
pub untold : {A : Type 0} (line : List ℕ) (a b : Option (List ℕ)) (r : Result A Fault)
    → IfErr r (λ why. IsUnprinted why line a b) → IfErr r (λ why. IsUntold why line a b)
untold line a b (Ok _) h = tt
untold line a b (Err (fault.Write n)) h = h
untold line a b (Err w) h = absurd h

-- a line of a trace that a run has, with its decisions, is one of the run
pub line_of_run : (c : Setup) (set : ℕ) (trace : Recorded) → IsRunOf c trace → (ds : List Decision) → ds ≡ decisions c trace.steps
    → (since until : ℕ) (line : List ℕ) → IsNextLineOf set trace ds since until line → IsLine c set since until line
line_of_run c set trace run ds same since until line (inl tells) =
    inl (record { trace = trace; run = run; tells = subst (λ d. TellsSince set trace d since until line) same tells })
line_of_run c set trace run ds same since until line (inr stop) = inr (stop.0, inr stop.1)

-- so one without news, of its end
pub end_line_of_run : (c : Setup) (set : ℕ) (trace : Recorded)
    → IsRunOf c trace → (line : List ℕ) → IsLineOf set trace [] line → IsEndLine c set line
end_line_of_run c set trace run line (inl tells) = inl (record { trace = trace; run = run; tells = tells })
end_line_of_run c set trace run line (inr stop) = inr stop

-- a line with the news of the decisions after a step is the next one
pub next_line : (set : ℕ) (trace : Recorded) (ds : List Decision) (since until : ℕ) (news line : List ℕ)
    → since < length trace.steps → until ≡ length trace.steps
    → news ≡ told_later trace.config.n since ds → IsLineOf set trace news line → IsNextLineOf set trace ds since until line
next_line set trace ds since until news line less is said (inl tells) =
    inl (record { later = (omega (arith, less, is)); steps = is; tells = subst (λ n. TellsOf set trace n line) said tells })
next_line set trace ds since until news line less is said (inr stop) = inr ((omega (arith, less, is)), stop)

-- what is a line of one kind is one of another
pub begun_as : (Line Other : List ℕ → Type 0) (a b : Option (List ℕ))
    → ((line : List ℕ) → Line line → Other line) → HasBegun Line a b → HasBegun Other a b
begun_as Line Other a b h p = record { line = p.line; line_is = h p.line p.line_is; count = p.count; out = p.out }

-- if a line is due, there are more steps than were reported
pub due_later : (all told count : ℕ) → IsDue all told count → told < count
due_later all told count due = let few = due.0 in let most = due.1 in omega (arith, few, most)

-- what a follower prints of a trace is its next line, if there are more steps than were reported; one that is over
-- prints nothing
pub next_told : (set : ℕ) (trace : Recorded) (ds : List Decision) (since until : ℕ) (news : List ℕ) (over : Bool) (a b : Option (List ℕ))
    → since < length trace.steps → news ≡ told_later trace.config.n since ds → (over ≡ true → (until ≡ since) × (b ≡ a)) → (over ≡ false
    → until ≡ length trace.steps) → HasBegun (IsLineOf set trace news) a b → HasBegun (IsNextLineOf set trace ds since until) a b
next_told set trace ds since until news true a b less said kept count p =
    let same = kept refl in
    let here = same.0 in
    subst (λ x. HasBegun (IsNextLineOf set trace ds since until) a x)
    (sym same.1) (begun_nothing _ told_stop a (inr ((omega (arith, here)), refl)))
next_told set trace ds since until news false a b less said kept count p =
    begun_as _ _ _ _ (λ line h. next_line set trace ds since until news line less (count refl) said h) p

pub told_one : (Line : ℕ → ℕ → List ℕ → Type 0) (since until : ℕ) (a b : Option (List ℕ))
    → HasBegun (Line since until) a b → HasTold Line since until a b
unfolding AreParts
told_one Line since until a b p = record {
  parts = take p.count p.line ∷ [];
  each = (until, record { line = p.line; line_is = p.line_is; count = p.count; part_is = refl }, refl);
  out = subst (Appends a b) (sym (append-nil (take p.count p.line))) p.out;
}

pub told_nothing : (Line : ℕ → ℕ → List ℕ → Type 0) (since : ℕ) (a : Option (List ℕ)) → HasTold Line since since a a
unfolding AreParts
told_nothing Line since a = record { parts = []; each = refl; out = Appends-nil a }

parts_append : (Line : ℕ → ℕ → List ℕ → Type 0) (since next until : ℕ) (xs ys : List (List ℕ))
    → AreParts Line since next xs → AreParts Line next until ys → AreParts Line since until (xs ++ ys)
unfolding AreParts
parts_append Line since next until [] ys p q = subst (λ n. AreParts Line n until ys) (sym p) q
parts_append Line since next until (x ∷ xs) ys p q = (p.0, p.1, parts_append Line p.0 next until xs ys p.2 q)

pub told_more : (Line : ℕ → ℕ → List ℕ → Type 0) (since next until : ℕ) (a b c : Option (List ℕ))
    → HasTold Line since next a b → HasTold Line next until b c → HasTold Line since until a c
told_more Line since next until a b c p q = record {
  parts = p.parts ++ q.parts;
  each = parts_append Line since next until p.parts q.parts p.each q.each;
  out = subst (Appends a c) (sym (flat_map-append (λ part. part) p.parts q.parts)) (Appends-trans a b c _ _ p.out q.out);
}

-- so for a set under two names
pub told_on : (c : Setup) (set other since next until : ℕ) (x y z : Option (List ℕ)) → other ≡ set
    → HasTold (IsLine c set) since next x y → HasTold (IsLine c other) next until y z
    → HasTold (IsLine c set) since until x z
told_on c set other since next until x y z same p q =
    told_more (IsLine c set) since next until x y z p (subst (λ s. HasTold (IsLine c s) next until y z) same q)

-- a follower that has printed a line at the end of a run
pub told_end : {T : Type 0} (contents : T → Option (List ℕ)) (c : Setup) (trace : Recorded) (old new : Follower T)
    → IsRunOf c trace → new.analyst.set ≡ old.analyst.set → HasBegun (IsLineOf old.analyst.set trace [])
    (contents (inner_of old.writer)) (contents (inner_of new.writer)) → HasToldEnd contents c (Some old) (Some new)
told_end contents c trace old new run same p = (same, begun_as _ _ _ _ (end_line_of_run c old.analyst.set trace run) p)

pub followed_nothing : {T : Type 0} (contents : T → Option (List ℕ)) (c : Setup) (x : Option (Follower T)) → HasFollowed contents c x x
followed_nothing contents c None = refl
followed_nothing contents c (Some a) = (refl, (a.told, told_nothing _ a.told _))

-- the line of the end comes after those before
pub followed_end : {T : Type 0} (contents : T → Option (List ℕ)) (c : Setup) (x y z : Option (Follower T))
    → HasFollowed contents c x y → HasToldEnd contents c y z → HasFollowed contents c x z
followed_end contents c None None z p q = q
followed_end contents c None (Some b) z p q = cc
followed_end contents c (Some a) None z p q = absurd p
followed_end contents c (Some a) (Some b) None p q = absurd q
followed_end contents c (Some a) (Some b) (Some d) p q = (
  q.0 ∙ p.0,
  (
    p.1.0,
    told_on c a.analyst.set b.analyst.set a.told p.1.0 p.1.0 _ _ _ p.0 p.1.1
        (told_one (IsLine c b.analyst.set) p.1.0 p.1.0 _ _ (begun_as _ _ _ _ (λ line h. inr (omega arith, h)) q.1)),
  ),
)
