-- Messages that are taken in one after the other, and where they are looked up.
use Rattle.std.proofs.Common.{◌≡◌, ◌∙◌, ℕ, suc, ◌+◌, ◌<◌, ◌^◌, List, [], ◌∷◌, ◌++◌, length, Option, Some, None, Bool}
use Rattle.std.proofs.Common.{true, false, cond, not, refl, sym, ap, arith, length-append, take, drop, eqb-true, eq-eqb}
use Rattle.std.specs.Prelude.{◌&&◌, ◌||◌, ◌==◌, is_some, nat_lt, slice_get, All}
use Rattle.std.specs.Int.{w64, from_be_bytes}
use Rattle.std.specs.List.{list_any, position_or_len}
use Rattle.std.specs.Option.{option_and_then, option_or}
use Rattle.std.specs.Str.{bytes_eq}
use Rattle.std.proofs.lemmas.Bool.{ltb-false}
use Rattle.std.proofs.lemmas.Nat.{from_be_bytes-to_be_bytes_8}
use Rattle.std.proofs.lemmas.List.Elements.{All-head, All-tail}
use Rattle.trace_text.proofs.Numbers.{bytes_eq-same, same-from_bytes_eq}
use borrow.Author.Tests.{ltb-true, lt-ltb}
use Rattle.trace_text.specs.Names.{has_name}
use Rattle.event_log.specs.SentLaws.{AreOnce, Message, expected, first_place, is_message, is_named, taken_in}
use Rattle.event_log.specs.SentMessages.{Sent, copy_of, none_sent, place_for, place_in, with_copy, with_first, with_send}
use Rattle.event_log.proofs.ListedNodes.{with_name-new}

-- answers that may be none
or-cond : (b : Bool) (k : ℕ) (u v : Option ℕ) → cond b (Some k) (option_or u v) ≡ option_or (cond b (Some k) u) v
or-cond true k u v = refl
or-cond false k u v = refl

or-some : (b : Bool) (k : ℕ) (u : Option ℕ) → (b || is_some u) ≡ is_some (cond b (Some k) u)
or-some true k u = refl
or-some false k u = refl

or-none : (u : Option ℕ) → option_or u None ≡ u
or-none (Some k) = refl
or-none None = refl

or-there : (u v : Option ℕ) → is_some u ≡ true → option_or u v ≡ u
or-there (Some k) v e = refl
or-there None v e = cc e

none-left : (u v : Option ℕ) → option_or u v ≡ None → u ≡ None
none-left (Some k) v e = cc e
none-left None v e = refl

none-test : (b : Bool) (k : ℕ) (u : Option ℕ) → option_or u (cond b (Some k) None) ≡ None → b ≡ false
none-test true k (Some l) e = cc e
none-test true k None e = cc e
none-test false k u e = refl

is-none : (u : Option ℕ) → is_some u ≡ false → u ≡ None
is-none (Some k) e = cc e
is-none None e = refl

none-is : (u : Option ℕ) → u ≡ None → is_some u ≡ false
none-is u e = rw e refl

-- the place of a name, by the first of the names
cons-place : (n : List ℕ) (ns : List (List ℕ)) (k : ℕ) (ks : List ℕ) (x : List ℕ) → place_in (n ∷ ns) (k ∷ ks) x
    ≡ cond (bytes_eq x n) (Some k) (place_in ns ks x)
cons-place n ns k ks x = go (bytes_eq x n) (position_or_len (bytes_eq x) ns) (length ns) where
  later : (r len : ℕ) (t s : Bool) → nat_lt r len ≡ t → nat_lt (1 + r) (suc len) ≡ s → s ≡ t
  later r len true true e f = refl
  later r len true false e f = let l = ltb-true r len e in let m = ltb-false (1 + r) (suc len) f in absurd
      (omega (arith, l, m))
  later r len false true e f = let l = ltb-false r len e in let m = ltb-true (1 + r) (suc len) f in absurd
      (omega (arith, l, m))
  later r len false false e f = refl

  inner : (r : ℕ) (t : Bool) → option_and_then (λ i. slice_get (k ∷ ks) i) (cond t (Some (1 + r)) None)
      ≡ option_and_then (λ i. slice_get ks i) (cond t (Some r) None)
  inner r true = let e : 1 + r ≡ suc r = omega arith in rw e refl
  inner r false = refl

  go : (b : Bool) (r len : ℕ) → option_and_then (λ i. slice_get (k ∷ ks) i)
      (cond (nat_lt (cond (not b) (1 + r) 0) (suc len)) (Some (cond (not b) (1 + r) 0)) None)
      ≡ cond b (Some k) (option_and_then (λ i. slice_get ks i) (cond (nat_lt r len) (Some r) None))
  go true r len = rw (lt-ltb 0 (suc len) (omega arith)) refl
  go false r len = rw (later r len (nat_lt r len) (nat_lt (1 + r) (suc len)) refl refl) (inner r (nat_lt r len))

-- and with one more name, which is last
more-place : (ns : List (List ℕ)) (ks : List ℕ) (n : List ℕ) (k : ℕ) (x : List ℕ) → length ns ≡ length ks
    → place_in (ns ++ n ∷ []) (ks ++ k ∷ []) x ≡ option_or (place_in ns ks x) (cond (bytes_eq x n) (Some k) None)
more-place [] [] n k x e = cons-place n [] k [] x
more-place [] (l ∷ ks) n k x e = absurd (omega (arith, e))
more-place (m ∷ ns) [] n k x e = absurd (omega (arith, e))
more-place (m ∷ ns) (l ∷ ks) n k x e =
    cons-place m (ns ++ n ∷ []) l (ks ++ k ∷ []) x
    ∙ ap (λ u. cond (bytes_eq x m) (Some l) u) (more-place ns ks n k x (omega (arith, e)))
    ∙ or-cond (bytes_eq x m) l (place_in ns ks x) (cond (bytes_eq x n) (Some k) None)
    ∙ ap (λ u. option_or u (cond (bytes_eq x n) (Some k) None)) (sym (cons-place m ns l ks x))

-- a name that is there has a place
has-place : (ns : List (List ℕ)) (ks : List ℕ) (x : List ℕ) → length ns ≡ length ks → has_name ns x
    ≡ is_some (place_in ns ks x)
has-place [] [] x e = refl
has-place [] (l ∷ ks) x e = absurd (omega (arith, e))
has-place (m ∷ ns) [] x e = absurd (omega (arith, e))
has-place (m ∷ ns) (l ∷ ks) x e =
    ap (λ u. bytes_eq x m || u) (has-place ns ks x (omega (arith, e)))
    ∙ or-some (bytes_eq x m) l (place_in ns ks x)
    ∙ ap is_some (sym (cons-place m ns l ks x))

-- the same of messages
more-first : (test : Message → Bool) (ms : List Message) (m : Message) → first_place test (ms ++ m ∷ [])
    ≡ option_or (first_place test ms) (cond (test m) (Some m.place) None)
unfolding first_place
more-first test [] m = refl
more-first test (y ∷ ms) m = ap (λ u. cond (test y) (Some y.place) u) (more-first test ms m)
    ∙ or-cond (test y) y.place (first_place test ms) (cond (test m) (Some m.place) None)

any-first : (test : Message → Bool) (ms : List Message) → list_any test ms ≡ is_some (first_place test ms)
unfolding first_place
any-first test [] = refl
any-first test (m ∷ ms) = ap (λ u. test m || u) (any-first test ms) ∙ or-some (test m) m.place (first_place test ms)

-- a message that is there has its name there
no-message : (p : ℕ) (x : List ℕ) (ms : List Message) → first_place (is_named x) ms ≡ None
    → first_place (is_message p x) ms ≡ None
unfolding first_place
no-message p x [] e = refl
no-message p x (m ∷ ms) e = go (bytes_eq x m.name) (m.to == p) (no-message p x ms) e where
  go : (b q : Bool) → (first_place (is_named x) ms ≡ None → first_place (is_message p x) ms ≡ None)
      → cond b (Some m.place) (first_place (is_named x) ms) ≡ None
      → cond (b && q) (Some m.place) (first_place (is_message p x) ms) ≡ None
  go true q f e = cc e
  go false q f e = f e

-- what is looked up for a copy differs if the name or the node does
copy-name : (p to : ℕ) (x n : List ℕ) → copy_of p x ≡ copy_of to n → x ≡ n
unfolding copy_of
copy-name p to x n e = ap (λ bs. drop 8 bs) e

copy-to : (p to : ℕ) (x n : List ℕ) → p < 2 ^ 64 → to < 2 ^ 64 → copy_of p x ≡ copy_of to n → p ≡ to
unfolding copy_of
copy-to p to x n lp lt e =
    sym (from_be_bytes-to_be_bytes_8 p lp) ∙ ap (λ bs. from_be_bytes w64 (take 8 bs)) e
    ∙ from_be_bytes-to_be_bytes_8 to lt

copies-eq : (p to : ℕ) (x n : List ℕ) → p < 2 ^ 64 → to < 2 ^ 64 → bytes_eq (copy_of p x) (copy_of to n)
    ≡ (bytes_eq x n && (to == p))
copies-eq p to x n lp lt = go (bytes_eq x n) (to == p) (bytes_eq (copy_of p x) (copy_of to n)) refl refl refl where
  go : (b q r : Bool) → bytes_eq x n ≡ b → (to == p) ≡ q → bytes_eq (copy_of p x) (copy_of to n) ≡ r → r ≡ (b && q)
  go true true true e f g = refl
  go true true false e f g = cc (sym g ∙ bytes_eq-same (copy_of p x) (copy_of to n) (rw (same-from_bytes_eq x n e, eqb-true to p f) refl))
  go true false true e f g = cc (sym f ∙ eq-eqb to p
      (sym (copy-to p to x n lp lt (same-from_bytes_eq (copy_of p x) (copy_of to n) g))))
  go false q true e f g = cc (sym e ∙ bytes_eq-same x n (copy-name p to x n (same-from_bytes_eq (copy_of p x) (copy_of to n) g)))
  go true false false e f g = refl
  go false q false e f g = refl

-- what holds once these messages were taken in
record IsTaken (done : List Message) (sent : Sent) : Type 0 where
  names : length sent.names ≡ length sent.firsts
  copies : length sent.copies ≡ length sent.copied
  first : (x : List ℕ) → place_in sent.names sent.firsts x ≡ first_place (is_named x) done
  place : (p : ℕ) (x : List ℕ) → p < 2 ^ 64 → place_for sent p x ≡ expected done p x
  copy : (p : ℕ) (x : List ℕ) → p < 2 ^ 64 → first_place (is_message p x) done ≡ None
      → place_in sent.copies sent.copied (copy_of p x) ≡ None

none-taken : IsTaken [] none_sent
unfolding first_place
none-taken = record { names = refl; copies = refl; first = λ x. refl; place = λ p x l. refl; copy = λ p x l e. refl }

longer : {X Y : Type 0} (xs : List X) (ys : List Y) (x : X) (y : Y) → length xs ≡ length ys → length (xs ++ x ∷ [])
    ≡ length (ys ++ y ∷ [])
longer xs ys x y e = omega (arith, e, length-append xs (x ∷ []), length-append ys (y ∷ []))

-- the first message of a name
first-of-name : (done : List Message) (sent : Sent) (m : Message) → IsTaken done sent → has_name sent.names m.name
    ≡ false → IsTaken (done ++ m ∷ []) (with_first m.place m.name sent)
first-of-name done sent m h new = rw (with_name-new sent.names m.name new) (record {
  names = longer sent.names sent.firsts m.name m.place h.names;
  copies = h.copies;
  first = first;
  place = place;
  copy = λ p x l e. h.copy p x l (none-left (first_place (is_message p x) done) _
      (sym (more-first (is_message p x) done m) ∙ e));
}) where
  first : (x : List ℕ) → place_in (sent.names ++ m.name ∷ []) (sent.firsts ++ m.place ∷ []) x
      ≡ first_place (is_named x) (done ++ m ∷ [])
  first x = more-place sent.names sent.firsts m.name m.place x h.names
      ∙ ap (λ u. option_or u (cond (bytes_eq x m.name) (Some m.place) None)) (h.first x)
      ∙ sym (more-first (is_named x) done m)

  unknown : (x : List ℕ) → x ≡ m.name → place_in sent.names sent.firsts x ≡ None
  unknown x e = is-none (place_in sent.names sent.firsts x)
      (sym (has-place sent.names sent.firsts x h.names) ∙ ap (λ y. has_name sent.names y) e ∙ new)

  only : (c n q : Option ℕ) (t : Bool) → c ≡ None → n ≡ None → q ≡ None → option_or c (option_or n (Some m.place))
      ≡ option_or (option_or q (cond t (Some m.place) None)) (option_or n (Some m.place))
  only c n q true e f g = rw (e, f, g) refl
  only c n q false e f g = rw (e, f, g) refl

  go : (p : ℕ) (x : List ℕ) → p < 2 ^ 64 → (b : Bool) → bytes_eq x m.name ≡ b
      → option_or (place_in sent.copies sent.copied (copy_of p x))
      (option_or (place_in sent.names sent.firsts x) (cond b (Some m.place) None))
      ≡ option_or (option_or (first_place (is_message p x) done) (cond (b && (m.to == p)) (Some m.place) None))
      (option_or (place_in sent.names sent.firsts x) (cond b (Some m.place) None))
  go p x l false e = rw (or-none (place_in sent.names sent.firsts x), or-none (first_place (is_message p x) done))
      (h.place p x l ∙ ap (λ u. option_or (first_place (is_message p x) done) u) (sym (h.first x)))
  go p x l true e =
      let none = unknown x (same-from_bytes_eq x m.name e) in
      let message = no-message p x done (sym (h.first x) ∙ none) in
      only (place_in sent.copies sent.copied (copy_of p x)) (place_in sent.names sent.firsts x)
      (first_place (is_message p x) done) (m.to == p) (h.copy p x l message) none message

  place : (p : ℕ) (x : List ℕ) → p < 2 ^ 64 → option_or (place_in sent.copies sent.copied (copy_of p x))
      (place_in (sent.names ++ m.name ∷ []) (sent.firsts ++ m.place ∷ []) x) ≡ expected (done ++ m ∷ []) p x
  place p x l =
      ap (λ u. option_or (place_in sent.copies sent.copied (copy_of p x)) u)
      (more-place sent.names sent.firsts m.name m.place x h.names)
      ∙ go p x l (bytes_eq x m.name) refl
      ∙ ap (λ u. option_or u (option_or (place_in sent.names sent.firsts x)
      (cond (bytes_eq x m.name) (Some m.place) None))) (sym (more-first (is_message p x) done m))
      ∙ ap (λ u. option_or (first_place (is_message p x) (done ++ m ∷ [])) u)
      (sym (more-place sent.names sent.firsts m.name m.place x h.names) ∙ first x)

-- a further message of a name, to a node to which it wasn't sent
copy-of-name : (done : List Message) (sent : Sent) (m : Message) → m.to < 2 ^ 64 → IsTaken done sent
    → has_name sent.names m.name ≡ true → list_any (is_message m.to m.name) done ≡ false
    → IsTaken (done ++ m ∷ []) (with_copy m.place (copy_of m.to m.name) sent)
copy-of-name done sent m small h there once = rw (with_name-new sent.copies (copy_of m.to m.name) fresh) (record {
  names = h.names;
  copies = longer sent.copies sent.copied (copy_of m.to m.name) m.place h.copies;
  first = first;
  place = place;
  copy = copy;
}) where
  none : first_place (is_message m.to m.name) done ≡ None
  none = is-none (first_place (is_message m.to m.name) done) (sym (any-first (is_message m.to m.name) done) ∙ once)

  fresh : has_name sent.copies (copy_of m.to m.name) ≡ false
  fresh = has-place sent.copies sent.copied (copy_of m.to m.name) h.copies
      ∙ none-is (place_in sent.copies sent.copied (copy_of m.to m.name)) (h.copy m.to m.name small none)

  known : (x : List ℕ) → x ≡ m.name → is_some (first_place (is_named x) done) ≡ true
  known x e = ap is_some (sym (h.first x)) ∙ sym (has-place sent.names sent.firsts x h.names)
      ∙ ap (λ y. has_name sent.names y) e ∙ there

  unchanged : (x : List ℕ) (b : Bool) → bytes_eq x m.name ≡ b → first_place (is_named x) done
      ≡ option_or (first_place (is_named x) done) (cond b (Some m.place) None)
  unchanged x true e = sym (or-there (first_place (is_named x) done) (Some m.place) (known x (same-from_bytes_eq x m.name e)))
  unchanged x false e = sym (or-none (first_place (is_named x) done))

  first : (x : List ℕ) → place_in sent.names sent.firsts x ≡ first_place (is_named x) (done ++ m ∷ [])
  first x = h.first x ∙ unchanged x (bytes_eq x m.name) refl ∙ sym (more-first (is_named x) done m)

  copied : (p : ℕ) (x : List ℕ) → p < 2 ^ 64 → place_in (sent.copies ++ copy_of m.to m.name ∷ [])
      (sent.copied ++ m.place ∷ []) (copy_of p x)
      ≡ option_or (place_in sent.copies sent.copied (copy_of p x)) (cond (is_message p x m) (Some m.place) None)
  copied p x l = more-place sent.copies sent.copied (copy_of m.to m.name) m.place (copy_of p x) h.copies
      ∙ ap (λ t. option_or (place_in sent.copies sent.copied (copy_of p x)) (cond t (Some m.place) None))
      (copies-eq p m.to x m.name l small)

  copy : (p : ℕ) (x : List ℕ) → p < 2 ^ 64 → first_place (is_message p x) (done ++ m ∷ []) ≡ None
      → place_in (sent.copies ++ copy_of m.to m.name ∷ []) (sent.copied ++ m.place ∷ []) (copy_of p x) ≡ None
  copy p x l e =
      let none = sym (more-first (is_message p x) done m) ∙ e in
      let before = h.copy p x l (none-left (first_place (is_message p x) done) _ none) in
      copied p x l ∙ rw (before, none-test (is_message p x m) m.place (first_place (is_message p x) done) none) refl

  that : (p : ℕ) (x : List ℕ) → is_message p x m ≡ true → first_place (is_message p x) done ≡ None
  that p x e = go (bytes_eq x m.name) (m.to == p) refl refl e where
    go : (b q : Bool) → bytes_eq x m.name ≡ b → (m.to == p) ≡ q → (b && q) ≡ true
        → first_place (is_message p x) done ≡ None
    go true true e f g = rw (same-from_bytes_eq x m.name e, ← eqb-true m.to p f) none
    go true false e f g = cc g
    go false q e f g = cc g

  go : (p : ℕ) (x : List ℕ) → p < 2 ^ 64 → (w : Bool) → is_message p x m ≡ w
      → option_or (option_or (place_in sent.copies sent.copied (copy_of p x)) (cond w (Some m.place) None))
      (place_in sent.names sent.firsts x)
      ≡ option_or (option_or (first_place (is_message p x) done) (cond w (Some m.place) None))
      (place_in sent.names sent.firsts x)
  go p x l true e = let gone = that p x e in rw (h.copy p x l gone, gone) refl
  go p x l false e =
      rw (or-none (place_in sent.copies sent.copied (copy_of p x)), or-none (first_place (is_message p x) done))
      (h.place p x l ∙ ap (λ u. option_or (first_place (is_message p x) done) u) (sym (h.first x)))

  place : (p : ℕ) (x : List ℕ) → p < 2 ^ 64 → option_or
      (place_in (sent.copies ++ copy_of m.to m.name ∷ []) (sent.copied ++ m.place ∷ []) (copy_of p x))
      (place_in sent.names sent.firsts x) ≡ expected (done ++ m ∷ []) p x
  place p x l =
      ap (λ u. option_or u (place_in sent.names sent.firsts x)) (copied p x l)
      ∙ go p x l (is_message p x m) refl
      ∙ ap (λ u. option_or u (place_in sent.names sent.firsts x)) (sym (more-first (is_message p x) done m))
      ∙ ap (λ u. option_or (first_place (is_message p x) (done ++ m ∷ [])) u) (first x)

-- one message more
one-more : (done : List Message) (sent : Sent) (m : Message) → m.to < 2 ^ 64 → IsTaken done sent
    → list_any (is_message m.to m.name) done ≡ false → IsTaken (done ++ m ∷ []) (with_send m.place m.to m.name sent)
one-more done sent m small h once = go (has_name sent.names m.name) refl where
  go : (t : Bool) → has_name sent.names m.name ≡ t
      → IsTaken (done ++ m ∷ []) (cond t (with_copy m.place (copy_of m.to m.name) sent)
      (with_first m.place m.name sent))
  go true e = copy-of-name done sent m small h e once
  go false e = first-of-name done sent m h e

one-by-one : (done : List Message) (m : Message) (more : List Message) → (done ++ m ∷ []) ++ more ≡ done ++ m ∷ more
one-by-one [] m more = refl
one-by-one (y ∷ done) m more = ap (λ ms. y ∷ ms) (one-by-one done m more)

all-taken : (done more : List Message) (sent : Sent) → IsTaken done sent → All (λ m. m.to < 2 ^ 64) more
    → AreOnce done more → IsTaken (done ++ more) (taken_in sent more)
unfolding taken_in AreOnce
all-taken done [] sent h small once = rw (append-none done) h where
  append-none : (ms : List Message) → ms ++ [] ≡ ms
  append-none [] = refl
  append-none (m ∷ ms) = ap (λ xs. m ∷ xs) (append-none ms)
all-taken done (m ∷ more) sent h small once =
    rw (← one-by-one done m more)
    (all-taken (done ++ m ∷ []) more (with_send m.place m.to m.name sent)
    (one-more done sent m (All-head (λ m. m.to < 2 ^ 64) m more small) h once.0)
    (All-tail (λ m. m.to < 2 ^ 64) m more small)
    once.1)

-- so each is found where it is expected
pub found : (messages : List Message) (to : ℕ) (name : List ℕ) → to < 2 ^ 64 → All (λ m. m.to < 2 ^ 64) messages
    → AreOnce [] messages → place_for (taken_in none_sent messages) to name ≡ expected messages to name
found messages to name l small once = (all-taken [] messages none_sent none-taken small once).place to name l
