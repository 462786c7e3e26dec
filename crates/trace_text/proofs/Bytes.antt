-- What the reads and the writes of the byte loops add up to.
use Rattle.std.proofs.Common.{◌≡◌, ◌∙◌, ◌++◌, ◌&&◌, nat_eq, ◌≤◌, ◌<◌, ℕ, List, [], Option, Some, None, IfSome, Bool}
use Rattle.std.proofs.Common.{true, if◌then◌else◌, take, drop, ◌+◌, take_all, length, length-drop, length-append, ◌-◌}
use Rattle.std.proofs.Common.{arith, append_assoc, ap, subst, sym, refl, rules}
use Rattle.std.proofs.Math.Seq.{take-add}
use Rattle.std.proofs.lemmas.Bool.{ne_eqb}
use Rattle.std.proofs.lemmas.List.{length-take-le, take_at}
use Rattle.std.specs.Io.KnownBytes.{Appends, Consumes, IsAtEnd}
use Rattle.std.proofs.KnownBytes.{Consumes-trans}
use Rattle.trace_text.specs.ByteLoops.{bytes_read}
use Rattle.trace_text.specs.Faults.{one_more, Rose}

-- what was read, up to a read of nothing at the end, is all there was
pub all_read : (a b c : Option (List ℕ)) (text buf : List ℕ) (n : ℕ)
    → Consumes a b text → Consumes b c (take n buf) → n ≡ 0 → IsAtEnd c → IfSome a (λ xs. text ≡ xs)
all_read None b c text buf n h k z e = tt
all_read (Some xs) None c text buf n h k z e = absurd h
all_read (Some xs) (Some ys) None text buf n h k z e = absurd k
all_read (Some xs) (Some ys) (Some zs) text buf n h k z e =
    let nothing : ys ≡ [] = rw (z, e) at k in
    sym (h ∙ rw nothing grind rules)

-- what is left of the text after its first n bytes, as the loop slices it
pub rest_of_text : (text : List ℕ) (n : ℕ) → take (length text - n) (drop n text) ≡ drop n text
rest_of_text text n = take_all (length text - n) (drop n text) (rw (length-drop n text) (omega arith))

-- what went out, and then more of the text
pub wrote_more : (a b c : Option (List ℕ)) (text : List ℕ) (n k : ℕ)
    → Appends a b (take n text) → Appends b c (take k (take (length text - n) (drop n text))) → Appends a c (take (n + k) text)
wrote_more None b c text n k h m = tt
wrote_more (Some xs) None c text n k h m = absurd h
wrote_more (Some xs) (Some ys) None text n k h m = absurd m
wrote_more (Some xs) (Some ys) (Some zs) text n k h m = rw (rest_of_text text n) at m
    ∙ rw h (append_assoc xs (take n text) (take k (drop n text)) ∙ ap (λ r. xs ++ r) (sym (take-add n k text)))

-- more bytes came than there was room for, so there were more than the limit
pub too_many : (a b c : Option (List ℕ)) (text buf : List ℕ) (n limit : ℕ) → Consumes a b text
    → Consumes b c (take n buf) → n ≤ length buf → limit - length text < n → IfSome a (λ xs. limit < length xs)
too_many None b c text buf n limit h k bound more = tt
too_many (Some xs) None c text buf n limit h k bound more = absurd h
too_many (Some xs) (Some ys) None text buf n limit h k bound more = absurd k
too_many (Some xs) (Some ys) (Some zs) text buf n limit h k bound more =
    omega (arith, simp length-append at (ap length h), simp length-append at (ap length k), length-take-le n buf bound)

-- what was read is the text so far and the first n bytes of the buffer
pub read_so_far : (a b c : Option (List ℕ)) (text buf : List ℕ) (n : ℕ) (P : ℕ → Type 0) → Consumes a b text
    → Consumes b c (take n buf) → n ≤ length buf → P (length text + n) → IfSome (bytes_read a c) P
read_so_far None b c text buf n P h k bound holds = tt
read_so_far (Some xs) None c text buf n P h k bound holds = absurd h
read_so_far (Some xs) (Some ys) None text buf n P h k bound holds = absurd k
read_so_far (Some xs) (Some ys) (Some zs) text buf n P h k bound holds =
    let count : length xs - length zs ≡ length text + n =
    omega (arith, simp length-append at (ap length h), simp length-append at (ap length k), length-take-le n buf bound) in
    subst P (sym count) holds

-- the text grows by what was read into the front of the buffer
pub text_grows : (a b c : Option (List ℕ)) (text grown buf old whole : List ℕ) (n len : ℕ) (taken : Bool)
    → Consumes a b text → Consumes b c (take n buf) → length buf ≡ len → whole ≡ take len (buf ++ drop (length buf) old)
    → taken ≡ true → grown ≡ (if taken then text ++ take n whole else text) → Consumes a c grown
text_grows a b c text grown buf old whole n len taken h k e w t g =
    let same : whole ≡ buf = w ∙ take_at buf (drop (length buf) old) len e in
    let more : grown ≡ text ++ take n buf = rw (t, same) at g in
    rw more (Consumes-trans a b c text (take n buf) h k)

-- a count that went up by one rose, or was at its end
pub rose_by_one : (old kept new : ℕ) → kept ≡ old → new ≡ one_more kept → Rose old new
rose_by_one old kept new same up = grind arith

-- nothing was read yet
pub nothing_read : (a : Option (List ℕ)) (text : List ℕ) → text ≡ [] → Consumes a a text
nothing_read None text e = tt
nothing_read (Some xs) text e = rw e refl

-- the length grows by the count of bytes taken
pub length_grows : (before after n : ℕ) (whole : List ℕ) (taken : Bool)
    → n ≤ length whole → taken ≡ true → after ≡ (if taken then before + length (take n whole) else before) → after ≡ before + n
length_grows before after n whole taken bound t g = rw (t, length-take-le n whole bound) at g

-- a write that took a byte isn't idle
pub not_idle : (count n m : ℕ) (has_bytes : Bool) → (count ≡ 0 → ⊥) → m ≡ (if nat_eq count 0 && has_bytes then one_more n else n) → m ≡ n
not_idle count n m has_bytes some e = e ∙ rw (ne_eqb count 0 some) refl
