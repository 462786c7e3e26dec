-- What is read of a text is a formula by the grammar.
use Rattle.std.proofs.Common.{ℕ, ◌≡◌, ◌+◌, ◌*◌, ◌/◌, ◌%◌, ◌^◌, ◌<◌, ◌≤◌, List, [], ◌∷◌, ◌++◌, Bool, true, false, ◌&&◌, ◌==◌, append_assoc, refl, sym, ap, subst, ◌∙◌, true≢false, suc, zero, arith}
use Rattle.std.specs.Prelude.{Result, Ok, Err, Option, Some, None, is_ok, nat_lt, option_to_list, if◌then◌else◌}
use Rattle.std.proofs.lemmas.Bool.Decides.{nat_tests}
use Rattle.std.proofs.lemmas.List.{append-nil}
use Rattle.std.proofs.lemmas.Nat.{div-add-mod', mod_below}
use Rattle.decision_claims.specs.declared.formulas.Operand.TheVariants.{Number, Delta, Phi, Processors, Faults}
use Rattle.decision_claims.specs.declared.formulas.Part.{Part}
use Rattle.decision_claims.specs.declared.formulas.Part.TheVariants.{Value, Plus, Times, Over, Open, Greatest, Comma, Close}
use Rattle.decision_claims.specs.declared.lexemes.Lexeme.{Lexeme}
use Rattle.decision_claims.specs.declared.lexemes.Lexeme.TheVariants as lexeme
use Rattle.decision_claims.specs.declared.readings.BadFormula.{BadFormula}
use Rattle.decision_claims.specs.declared.readings.BadFormula.TheVariants as bad
use Rattle.decision_claims.specs.declared.readings.Move.{Move}
use Rattle.decision_claims.specs.declared.readings.Need.{Need}
use Rattle.decision_claims.specs.declared.readings.Need.TheVariants as need
use Rattle.decision_claims.specs.declared.readings.State.{State}
use Rattle.decision_claims.specs.declared.formula_texts.Reading.{Reading}
use Rattle.decision_claims.specs.Formulas.{IsWithinLimits, Terms}
use Rattle.decision_claims.specs.FormulaTexts.{after_group, begun, divided, end_by, ended, finished, lexemes, moved, next_by, next_of_max, opened, read_formula, read_on, taken}
use Rattle.decision_claims.specs.FormulaTrees.{ArePositive, IsBound, IsFormulaText, Tree, Leaf, Group, Most, Product, Quotient, Sum, Row, binding, marks, parts_of}
use Rattle.decision_claims.proofs.FormulaLimits.{read_limits}
use Rattle.decision_claims.proofs.FormulaReadings.{read_on-refused}

-- what comes before a formula
abbrev before_comma : Option Tree → List Part
before_comma None = []
before_comma (Some r) = parts_of r ++ Comma ∷ []

abbrev before_plus : Option Tree → List Part
before_plus None = []
before_plus (Some s) = parts_of s ++ Plus ∷ []

abbrev before_times : Option Tree → List Part
before_times None = []
before_times (Some p) = parts_of p ++ Times ∷ []

-- What was read between two parentheses before an operand.
record Waiting : Type 0 where
  pub row : Option Tree
  pub sum : Option Tree
  pub product : Option Tree

abbrev waiting : Waiting → List Part
waiting w = before_comma w.row ++ (before_plus w.sum ++ before_times w.product)

abbrev complete : Option Tree → Option Tree → Tree → List Part
complete row sum p = before_comma row ++ (before_plus sum ++ parts_of p)

-- the parentheses that are open, true for those of max, with what comes before each
data Around : Type 0 where
  Outside : Around
  Within : Around → Waiting → Bool → Around

abbrev kind_of : Around → Bool
kind_of Outside = false
kind_of (Within a w k) = k

abbrev digit : Bool → ℕ
digit true = 1
digit false = 0

abbrev opener : Bool → Part
opener true = Greatest
opener false = Open

abbrev groups_of : Around → ℕ
groups_of Outside = 1
groups_of (Within a w k) = groups_of a * 2 + digit k

abbrev parts_before : Around → List Part
parts_before Outside = []
parts_before (Within a w k) = (parts_before a ++ waiting w) ++ opener k ∷ []

-- they are formulas, bound as closely as they have to be
abbrev RowFits : Bool → Option Tree → Type 0
RowFits k None = Unit {0}
RowFits k (Some r) = (k ≡ true) × IsBound r

abbrev SumFits : Option Tree → Type 0
SumFits None = Unit {0}
SumFits (Some s) = (1 ≤ binding s) × IsBound s

abbrev ProductFits : Option Tree → Type 0
ProductFits None = Unit {0}
ProductFits (Some p) = (2 ≤ binding p) × IsBound p

record WaitingFits (k : Bool) (w : Waiting) : Type 0 where
  pub row : RowFits k w.row
  pub sum : SumFits w.sum
  pub product : ProductFits w.product

abbrev AroundFits : Around → Type 0
AroundFits Outside = Unit {0}
AroundFits (Within a w k) = AroundFits a × WaitingFits (kind_of a) w

-- an operand has to come
record Waits (g : ℕ) (parts : List Part) : Type 0 where
  pub around : Around
  pub begun : Waiting
  pub around_fits : AroundFits around
  pub fits : WaitingFits (kind_of around) begun
  pub groups : g ≡ groups_of around
  pub parts_are : parts ≡ parts_before around ++ waiting begun

-- an operand came
record Stands (g : ℕ) (parts : List Part) : Type 0 where
  pub around : Around
  pub row : Option Tree
  pub sum : Option Tree
  pub product : Tree
  pub around_fits : AroundFits around
  pub row_fits : RowFits (kind_of around) row
  pub sum_fits : SumFits sum
  pub close : 2 ≤ binding product
  pub bound : IsBound product
  pub groups : g ≡ groups_of around
  pub parts_are : parts ≡ parts_before around ++ complete row sum product

abbrev Is : Need → ℕ → List Part → Type 0
Is need.Operand g parts = Waits g parts
Is need.Parenthesis g parts = Waits g parts
Is need.Sign g parts = Stands g parts
Is need.Divisor g parts = Stands g parts

-- how formulas go on
abbrev times : Option Tree → Tree → Tree
times None o = o
times (Some p) o = Product p o

abbrev plus : Option Tree → Tree → Tree
plus None p = p
plus (Some s) p = Sum s p

abbrev comma : Option Tree → Tree → Tree
comma None s = s
comma (Some r) s = Row r s

times-parts : (p : Option Tree) (o : Tree) → before_times p ++ parts_of o ≡ parts_of (times p o)
times-parts None o = refl
times-parts (Some p) o = append_assoc (parts_of p) (Times ∷ []) (parts_of o)

plus-parts : (s : Option Tree) (p : Tree) → before_plus s ++ parts_of p ≡ parts_of (plus s p)
plus-parts None p = refl
plus-parts (Some s) p = append_assoc (parts_of s) (Plus ∷ []) (parts_of p)

comma-parts : (r : Option Tree) (s : Tree) → before_comma r ++ parts_of s ≡ parts_of (comma r s)
comma-parts None s = refl
comma-parts (Some r) s = append_assoc (parts_of r) (Comma ∷ []) (parts_of s)

times-bound : (p : Option Tree) (o : Tree) → ProductFits p → 3 ≤ binding o → IsBound o → (2 ≤ binding (times p o)) × IsBound (times p o)
times-bound None o f l b = (omega (arith, l), b)
times-bound (Some p) o f l b = (omega arith, (f.0, l, f.1, b))

plus-bound : (s : Option Tree) (p : Tree) → SumFits s → 2 ≤ binding p → IsBound p → (1 ≤ binding (plus s p)) × IsBound (plus s p)
plus-bound None p f l b = (omega (arith, l), b)
plus-bound (Some s) p f l b = (omega arith, (f.0, l, f.1, b))

comma-bound : (k : Bool) (r : Option Tree) (s : Tree) → RowFits k r → 1 ≤ binding s → IsBound s → IsBound (comma r s)
comma-bound k None s f l b = b
comma-bound k (Some r) s f l b = (l, f.1, b)

-- four lists with a fifth behind them
behind : (a b c d e : List Part) → (a ++ (b ++ (c ++ d))) ++ e ≡ a ++ (b ++ (c ++ (d ++ e)))
behind a b c d e = append_assoc a (b ++ (c ++ d)) e
    ∙ ap (λ (l : List Part). a ++ l) (append_assoc b (c ++ d) e ∙ ap (λ (l : List Part). b ++ l) (append_assoc c d e))

-- an operand comes
operand-came : (g : ℕ) (parts : List Part) (o : Tree) → 3 ≤ binding o → IsBound o → Waits g parts → Stands g (parts ++ parts_of o)
operand-came g parts o l b w =
    let p = w.begun.product in
    let made = times-bound p o w.fits.product l b in
    record {
      around = w.around;
      row = w.begun.row;
      sum = w.begun.sum;
      product = times p o;
      around_fits = w.around_fits;
      row_fits = w.fits.row;
      sum_fits = w.fits.sum;
      close = made.0;
      bound = made.1;
      groups = w.groups;
      parts_are = ap (λ (x : List Part). x ++ parts_of o) w.parts_are
          ∙ behind (parts_before w.around) (before_comma w.begun.row) (before_plus w.begun.sum) (before_times p) (parts_of o)
          ∙ ap (λ (x : List Part). parts_before w.around ++ (before_comma w.begun.row ++ (before_plus w.begun.sum ++ x))) (times-parts p o);
    }

-- a parenthesis opens
group-opens : (g : ℕ) (parts : List Part) (k : Bool) → Waits g parts → Waits (g * 2 + digit k) (parts ++ opener k ∷ [])
group-opens g parts k w = record {
  around = Within w.around w.begun k;
  begun = record { row = None; sum = None; product = None };
  around_fits = (w.around_fits, w.fits);
  fits = record { row = tt; sum = tt; product = tt };
  groups = ap (λ n. n * 2 + digit k) w.groups;
  parts_are = ap (λ (x : List Part). x ++ opener k ∷ []) w.parts_are
      ∙ sym (append-nil ((parts_before w.around ++ waiting w.begun) ++ opener k ∷ []));
}

-- a star comes
star-came : (g : ℕ) (parts : List Part) → Stands g parts → Waits g (parts ++ Times ∷ [])
star-came g parts s = record {
  around = s.around;
  begun = record { row = s.row; sum = s.sum; product = Some s.product };
  around_fits = s.around_fits;
  fits = record { row = s.row_fits; sum = s.sum_fits; product = (s.close, s.bound) };
  groups = s.groups;
  parts_are = ap (λ (x : List Part). x ++ Times ∷ []) s.parts_are
      ∙ behind (parts_before s.around) (before_comma s.row) (before_plus s.sum) (parts_of s.product) (Times ∷ []);
}

-- the sum that is there, behind its row
sum-stands : (g : ℕ) (parts : List Part) (s : Stands g parts) (e : List Part)
    → parts ++ e ≡ parts_before s.around ++ (before_comma s.row ++ (parts_of (plus s.sum s.product) ++ e))
sum-stands g parts s e = ap (λ (x : List Part). x ++ e) s.parts_are ∙ behind (parts_before s.around) (before_comma s.row)
    (before_plus s.sum) (parts_of s.product) e ∙ ap (λ (x : List Part). parts_before s.around ++ (before_comma s.row ++ x))
    (sym (append_assoc (before_plus s.sum) (parts_of s.product) e) ∙ ap (λ (x : List Part). x ++ e) (plus-parts s.sum s.product))

row-stands : (g : ℕ) (parts : List Part) (s : Stands g parts) (e : List Part)
    → parts ++ e ≡ parts_before s.around ++ (parts_of (comma s.row (plus s.sum s.product)) ++ e)
row-stands g parts s e = sum-stands g parts s e ∙ ap (λ (x : List Part). parts_before s.around ++ x) (sym (append_assoc (before_comma s.row)
    (parts_of (plus s.sum s.product)) e) ∙ ap (λ (x : List Part). x ++ e) (comma-parts s.row (plus s.sum s.product)))

-- a plus comes
plus-came : (g : ℕ) (parts : List Part) → Stands g parts → Waits g (parts ++ Plus ∷ [])
plus-came g parts s =
    let made = plus-bound s.sum s.product s.sum_fits s.close s.bound in
    record {
      around = s.around;
      begun = record { row = s.row; sum = Some (plus s.sum s.product); product = None };
      around_fits = s.around_fits;
      fits = record { row = s.row_fits; sum = made; product = tt };
      groups = s.groups;
      parts_are = sum-stands g parts s (Plus ∷ []) ∙ ap (λ (x : List Part). parts_before s.around ++ (before_comma s.row ++ x))
          (sym (append-nil (parts_of (plus s.sum s.product) ++ Plus ∷ [])));
    }

-- a comma comes
comma-came : (g : ℕ) (parts : List Part) (s : Stands g parts) → kind_of s.around ≡ true → Waits g (parts ++ Comma ∷ [])
comma-came g parts s k =
    let sum = plus-bound s.sum s.product s.sum_fits s.close s.bound in
    record {
      around = s.around;
      begun = record { row = Some (comma s.row (plus s.sum s.product)); sum = None; product = None };
      around_fits = s.around_fits;
      fits =
          record { row = (k, comma-bound (kind_of s.around) s.row (plus s.sum s.product) s.row_fits sum.0 sum.1); sum = tt; product = tt };
      groups = s.groups;
      parts_are = row-stands g parts s (Comma ∷ []) ∙ ap
          (λ (x : List Part). parts_before s.around ++ x) (sym (append-nil (parts_of (comma s.row (plus s.sum s.product)) ++ Comma ∷ [])));
    }

-- a divisor comes
over-came : (g : ℕ) (parts : List Part) (k : ℕ) → Stands g parts → Stands g (parts ++ Over k ∷ [])
over-came g parts k s = record {
  around = s.around;
  row = s.row;
  sum = s.sum;
  product = Quotient s.product k;
  around_fits = s.around_fits;
  row_fits = s.row_fits;
  sum_fits = s.sum_fits;
  close = omega arith;
  bound = (s.close, s.bound);
  groups = s.groups;
  parts_are = ap (λ (x : List Part). x ++ Over k ∷ []) s.parts_are
      ∙ behind (parts_before s.around) (before_comma s.row) (before_plus s.sum) (parts_of s.product) (Over k ∷ []);
}

-- numbers of open parentheses
groups-positive : (a : Around) → 1 ≤ groups_of a
groups-positive Outside = omega arith
groups-positive (Within a w k) = let l = groups-positive a in omega (arith, l)

halved : (n : ℕ) (k : Bool) → (n * 2 + digit k) / 2 ≡ n
halved n true = let whole = div-add-mod' (n * 2 + 1) 2 in let below = mod_below (n * 2 + 1) 2 (omega arith) in omega (arith, whole, below)
halved n false = let whole = div-add-mod' (n * 2 + 0) 2 in let below = mod_below (n * 2 + 0) 2 (omega arith) in omega (arith, whole, below)

of_max : (a : Around) → 1 < groups_of a → groups_of a % 2 ≡ 1 → kind_of a ≡ true
of_max Outside l o = absurd (omega (arith, l))
of_max (Within a w true) l o = refl
of_max (Within a w false) l o = absurd (let whole = div-add-mod' (groups_of a * 2 + 0) 2 in omega (arith, whole, o))

outermost : (a : Around) → groups_of a ≡ 1 → (kind_of a ≡ false) × (parts_before a ≡ [])
outermost Outside e = (refl, refl)
outermost (Within a w k) e = absurd (let l = groups-positive a in omega (arith, l, e))

-- the formula between two parentheses, and what closes them
group-of : (k : Bool) (r : Option Tree) (s : Tree) → RowFits k r → 1 ≤ binding s → IsBound s
    → (o : Tree) × (3 ≤ binding o) × IsBound o × (parts_of o ≡ opener k ∷ (parts_of (comma r s) ++ Close ∷ []))
group-of true r s f l b = (Most (comma r s), omega arith, comma-bound true r s f l b, refl)
group-of false None s f l b = (Group s, omega arith, (l, b), refl)
group-of false (Some r) s f l b = absurd (true≢false (sym f.0))

group-closes : (g : ℕ) (parts : List Part) → 1 < g → Stands g parts → Stands (g / 2) (parts ++ Close ∷ [])
group-closes g parts l s = go s.around refl where
  go : (a : Around) → s.around ≡ a → Stands (g / 2) (parts ++ Close ∷ [])
  go Outside e = absurd (let one = s.groups ∙ ap groups_of e in omega (arith, one, l))
  go (Within a w k) e =
      let sum = plus-bound s.sum s.product s.sum_fits s.close s.bound in
      let whole = plus s.sum s.product in
      let fits : AroundFits (Within a w k) = subst AroundFits e s.around_fits in
      let row : RowFits k s.row = subst (λ (x : Around). RowFits (kind_of x) s.row) e s.row_fits in
      let made = group-of k s.row whole row sum.0 sum.1 in
      let outer : Waits (groups_of a) (parts_before a ++ waiting w) =
      record { around = a; begun = w; around_fits = fits.0; fits = fits.1; groups = refl; parts_are = refl } in
      let came = operand-came (groups_of a) (parts_before a ++ waiting w) made.0 made.1 made.2 outer in
      let same : (parts_before a ++ waiting w) ++ parts_of made.0 ≡ parts ++ Close ∷ [] =
      ap (λ (x : List Part). (parts_before a ++ waiting w) ++ x) made.3
      ∙ sym (append_assoc (parts_before a ++ waiting w) (opener k ∷ []) (parts_of (comma s.row whole) ++ Close ∷ []))
      ∙ sym (row-stands g parts s (Close ∷ []) ∙ ap (λ (x : Around). parts_before x ++ (parts_of (comma s.row whole) ++ Close ∷ [])) e) in
      let half : groups_of a ≡ g / 2 = sym (ap (λ n. n / 2) (s.groups ∙ ap groups_of e) ∙ halved (groups_of a) k) in
      subst (λ n. Stands n (parts ++ Close ∷ [])) half (subst (Stands (groups_of a)) same came)

-- the words and signs of parts
marks-append : (xs ys : List Part) → marks (xs ++ ys) ≡ marks xs ++ marks ys
marks-append [] ys = refl
marks-append (Value o ∷ xs) ys = ap (λ (l : List Lexeme). lexeme.Name o ∷ l) (marks-append xs ys)
marks-append (Plus ∷ xs) ys = ap (λ (l : List Lexeme). lexeme.Plus ∷ l) (marks-append xs ys)
marks-append (Times ∷ xs) ys = ap (λ (l : List Lexeme). lexeme.Times ∷ l) (marks-append xs ys)
marks-append (Over k ∷ xs) ys = ap (λ (l : List Lexeme). lexeme.Slash ∷ lexeme.Name (Number k) ∷ l) (marks-append xs ys)
marks-append (Open ∷ xs) ys = ap (λ (l : List Lexeme). lexeme.Open ∷ l) (marks-append xs ys)
marks-append (Greatest ∷ xs) ys = ap (λ (l : List Lexeme). lexeme.Max ∷ lexeme.Open ∷ l) (marks-append xs ys)
marks-append (Comma ∷ xs) ys = ap (λ (l : List Lexeme). lexeme.Comma ∷ l) (marks-append xs ys)
marks-append (Close ∷ xs) ys = ap (λ (l : List Lexeme). lexeme.Close ∷ l) (marks-append xs ys)

positive-append : (xs ys : List Part) → ArePositive xs → ArePositive ys → ArePositive (xs ++ ys)
positive-append [] ys a b = b
positive-append (Over k ∷ xs) ys a b = (a.0, positive-append xs ys a.1 b)
positive-append (Value o ∷ xs) ys a b = positive-append xs ys a b
positive-append (Plus ∷ xs) ys a b = positive-append xs ys a b
positive-append (Times ∷ xs) ys a b = positive-append xs ys a b
positive-append (Open ∷ xs) ys a b = positive-append xs ys a b
positive-append (Greatest ∷ xs) ys a b = positive-append xs ys a b
positive-append (Comma ∷ xs) ys a b = positive-append xs ys a b
positive-append (Close ∷ xs) ys a b = positive-append xs ys a b

-- what was read of the next part
abbrev pending : Need → List Lexeme
pending need.Operand = []
pending need.Parenthesis = lexeme.Max ∷ []
pending need.Sign = []
pending need.Divisor = lexeme.Slash ∷ []

-- what a lexeme makes
record Goes (what : Need) (parts : List Part) (l : Lexeme) (m : Move) : Type 0 where
  pub is : Is m.state.need m.state.groups (parts ++ option_to_list m.part)
  pub marks_are : pending what ++ l ∷ [] ≡ marks (option_to_list m.part) ++ pending m.state.need
  pub positive : ArePositive (option_to_list m.part)

abbrev okay : Move → Result Move BadFormula
okay m = Ok m

refused : {A : Type 0} (why : BadFormula) (m : Move) → Err why ≡ okay m → A
refused why m e = absurd (true≢false (sym (ap is_ok e)))

goes : (what : Need) (parts : List Part) (l : Lexeme) (a m : Move) → okay a ≡ okay m → Goes what parts l a → Goes what parts l m
goes what parts l a m e h = let same : a ≡ m = cc in subst (Goes what parts l) same h

goes-opened : (what : Need) (s : State) (parts : List Part) (l : Lexeme) (k : Bool) (m : Move) → pending what ++ l
    ∷ [] ≡ marks (opener k ∷ []) → Waits s.groups parts → opened s (digit k) (opener k) ≡ okay m → Goes what parts l m
unfolding opened
goes-opened what s parts l k m e w = go (nat_lt s.groups (2 ^ 32)) where
  go : (b : Bool)
      → (if b then Ok
      (record {
        state =
            record {
              need = need.Operand;
              groups = s.groups * 2 + digit k;
              divisors = s.divisors;
              operands =
                  s.operands;
            };
        part = Some (opener k);
      }) else Err (bad.Depth (s.operands + 1))) ≡ okay m
      → Goes what parts l m
  go true f = goes what parts l _ m f
      (record { is = group-opens s.groups parts k w; marks_are = e ∙ sym (append-nil (marks (opener k ∷ []))); positive = none k }) where
        none : (k : Bool) → ArePositive (opener k ∷ [])
        none true = tt
        none false = tt
  go false f = refused _ m f

goes-divided : (s : State) (parts : List Part) (k : ℕ) (m : Move)
    → Stands s.groups parts → divided s k ≡ okay m → Goes need.Divisor parts (lexeme.Name (Number k)) m
unfolding divided
goes-divided s parts k m w = go (nat_lt 0 (s.divisors * k)) (nat_lt (s.divisors * k) (2 ^ 32)) refl where
  some : (k : ℕ) → 0 < s.divisors * k → 1 ≤ k
  some zero l = absurd (omega (arith, l))
  some (suc k) l = omega arith

  go : (a b : Bool) → nat_lt 0 (s.divisors * k) ≡ a
      → (if (a && b) then Ok
      (record {
        state =
            record { need = need.Sign; groups = s.groups; divisors = s.divisors * k; operands = s.operands + 1 };
        part = Some (Over k);
      }) else Err (bad.Divisor (s.operands + 1))) ≡ okay m
      → Goes need.Divisor parts (lexeme.Name (Number k)) m
  go true true t f = goes need.Divisor parts (lexeme.Name (Number k)) _ m f
      (record { is = over-came s.groups parts k w; marks_are = refl; positive = (some k (grind (arith, nat_tests)), tt) })
  go true false t f = refused _ m f
  go false b t f = refused _ m f

goes-comma : (s : State) (parts : List Part) (m : Move)
    → Stands s.groups parts → next_of_max s ≡ okay m → Goes need.Sign parts lexeme.Comma m
unfolding next_of_max
goes-comma s parts m w = go (nat_lt 1 s.groups) ((s.groups % 2) == 1) refl refl where
  go : (a b : Bool) → nat_lt 1 s.groups ≡ a → ((s.groups % 2) == 1) ≡ b
      → (if (a && b) then Ok
      (record {
        state =
            record { need = need.Operand; groups = s.groups; divisors = s.divisors; operands = s.operands };
        part = Some Comma;
      }) else Err (bad.Sign s.operands)) ≡ okay m → Goes need.Sign parts lexeme.Comma m
  go true true t u f =
      let more : 1 < s.groups = grind (arith, nat_tests) in
      let odd : s.groups % 2 ≡ 1 = grind (arith, nat_tests) in
      let k = of_max w.around (subst (λ n. 1 < n) w.groups more) (subst (λ n. n % 2 ≡ 1) w.groups odd) in
      goes need.Sign parts lexeme.Comma _ m f (record { is = comma-came s.groups parts w k; marks_are = refl; positive = tt })
  go true false t u f = refused _ m f
  go false b t u f = refused _ m f

goes-closed : (s : State) (parts : List Part) (m : Move)
    → Stands s.groups parts → after_group s ≡ okay m → Goes need.Sign parts lexeme.Close m
unfolding after_group
goes-closed s parts m w = go (nat_lt 1 s.groups) refl where
  go : (a : Bool) → nat_lt 1 s.groups ≡ a → (if a then Ok (record
      { state = record { need = need.Sign; groups = s.groups / 2; divisors = s.divisors; operands = s.operands }; part = Some Close })
      else Err (bad.Sign s.operands)) ≡ okay m → Goes need.Sign parts lexeme.Close m
  go true t f = goes need.Sign parts lexeme.Close _ m f
      (record { is = group-closes s.groups parts (grind (arith, nat_tests)) w; marks_are = refl; positive = tt })
  go false t f = refused _ m f

-- a part less than none
same-parts : (what : Need) (g : ℕ) (parts : List Part) → Is what g parts → Is what g (parts ++ [])
same-parts what g parts is = subst (Is what g) (sym (append-nil parts)) is

goes-next : (what : Need) (s : State) (parts : List Part) (l : Lexeme) (m : Move)
    → Is what s.groups parts → next_by what s l ≡ okay m → Goes what parts l m
goes-next need.Operand s parts (lexeme.Name o) m w e = goes need.Operand parts
    (lexeme.Name o) _ m e (record { is = operand-came s.groups parts (Leaf o) (omega arith) tt w; marks_are = refl; positive = tt })
goes-next need.Operand s parts lexeme.Max m w e = goes need.Operand parts lexeme.Max _ m e
    (record { is = same-parts need.Parenthesis s.groups parts w; marks_are = refl; positive = tt })
goes-next need.Operand s parts lexeme.Open m w e = goes-opened need.Operand s parts lexeme.Open false m refl w e
goes-next need.Operand s parts lexeme.Unknown m w e = refused _ m e
goes-next need.Operand s parts lexeme.Plus m w e = refused _ m e
goes-next need.Operand s parts lexeme.Times m w e = refused _ m e
goes-next need.Operand s parts lexeme.Slash m w e = refused _ m e
goes-next need.Operand s parts lexeme.Comma m w e = refused _ m e
goes-next need.Operand s parts lexeme.Close m w e = refused _ m e
goes-next need.Parenthesis s parts lexeme.Open m w e = goes-opened need.Parenthesis s parts lexeme.Open true m refl w e
goes-next need.Parenthesis s parts (lexeme.Name o) m w e = refused _ m e
goes-next need.Parenthesis s parts lexeme.Max m w e = refused _ m e
goes-next need.Parenthesis s parts lexeme.Unknown m w e = refused _ m e
goes-next need.Parenthesis s parts lexeme.Plus m w e = refused _ m e
goes-next need.Parenthesis s parts lexeme.Times m w e = refused _ m e
goes-next need.Parenthesis s parts lexeme.Slash m w e = refused _ m e
goes-next need.Parenthesis s parts lexeme.Comma m w e = refused _ m e
goes-next need.Parenthesis s parts lexeme.Close m w e = refused _ m e
goes-next need.Divisor s parts (lexeme.Name (Number k)) m w e = goes-divided s parts k m w e
goes-next need.Divisor s parts (lexeme.Name Delta) m w e = refused _ m e
goes-next need.Divisor s parts (lexeme.Name Phi) m w e = refused _ m e
goes-next need.Divisor s parts (lexeme.Name Processors) m w e = refused _ m e
goes-next need.Divisor s parts (lexeme.Name Faults) m w e = refused _ m e
goes-next need.Divisor s parts lexeme.Max m w e = refused _ m e
goes-next need.Divisor s parts lexeme.Unknown m w e = refused _ m e
goes-next need.Divisor s parts lexeme.Plus m w e = refused _ m e
goes-next need.Divisor s parts lexeme.Times m w e = refused _ m e
goes-next need.Divisor s parts lexeme.Slash m w e = refused _ m e
goes-next need.Divisor s parts lexeme.Open m w e = refused _ m e
goes-next need.Divisor s parts lexeme.Comma m w e = refused _ m e
goes-next need.Divisor s parts lexeme.Close m w e = refused _ m e
goes-next need.Sign s parts lexeme.Plus m w e = goes need.Sign parts lexeme.Plus _ m e
    (record { is = plus-came s.groups parts w; marks_are = refl; positive = tt })
goes-next need.Sign s parts lexeme.Times m w e = goes need.Sign parts lexeme.Times _ m e
    (record { is = star-came s.groups parts w; marks_are = refl; positive = tt })
goes-next need.Sign s parts lexeme.Slash m w e = goes need.Sign parts lexeme.Slash _ m e
    (record { is = same-parts need.Divisor s.groups parts w; marks_are = refl; positive = tt })
goes-next need.Sign s parts lexeme.Comma m w e = goes-comma s parts m w e
goes-next need.Sign s parts lexeme.Close m w e = goes-closed s parts m w e
goes-next need.Sign s parts (lexeme.Name o) m w e = refused _ m e
goes-next need.Sign s parts lexeme.Max m w e = refused _ m e
goes-next need.Sign s parts lexeme.Unknown m w e = refused _ m e
goes-next need.Sign s parts lexeme.Open m w e = refused _ m e

-- what was read of these lexemes is a formula that goes on
record IsSo (s : State) (parts : List Part) (ls : List Lexeme) : Type 0 where
  pub is : Is s.need s.groups parts
  pub lexemes_are : ls ≡ marks parts ++ pending s.need
  pub positive : ArePositive parts

so-moved : (s : State) (parts : List Part) (ls : List Lexeme) (l : Lexeme) (r : Result Move BadFormula) (read : Reading)
    → ((m : Move) → r ≡ Ok m → Goes s.need parts l m) → IsSo s parts ls → moved parts r ≡ Ok read
    → IsSo read.state read.parts (ls ++ l ∷ [])
so-moved s parts ls l (Err why) read goes so e = absurd (true≢false (sym (ap is_ok e)))
so-moved s parts ls l (Ok m) read goes so e =
    let g = goes m refl in
    let more = option_to_list m.part in
    let same : record { state = m.state; parts = parts ++ more } ≡ read = cc in
    subst (λ (r : Reading). IsSo r.state r.parts (ls ++ l ∷ [])) same (record {
      is = g.is;
      lexemes_are = ap (λ (x : List Lexeme). x ++ l ∷ []) so.lexemes_are ∙ append_assoc (marks parts) (pending s.need) (l ∷ [])
          ∙ ap (λ (x : List Lexeme). marks parts ++ x) g.marks_are ∙ sym (append_assoc (marks parts) (marks more) (pending m.state.need))
          ∙ ap (λ (x : List Lexeme). x ++ pending m.state.need) (sym (marks-append parts more));
      positive = positive-append parts more so.positive g.positive;
    })

so-read : (ls done : List Lexeme) (r : Result Reading BadFormula) (read : Reading)
    → ((start : Reading) → r ≡ Ok start → IsSo start.state start.parts done) → read_on r ls ≡ Ok read
    → IsSo read.state read.parts (done ++ ls)
so-read [] done r read so e = subst (IsSo read.state read.parts) (sym (append-nil done)) (so read e)
so-read (l ∷ ls) done (Err why) read so e = absurd (true≢false (sym (ap is_ok (sym (read_on-refused why ls) ∙ e))))
so-read (l ∷ ls) done (Ok start) read so e = subst (IsSo read.state read.parts) (append_assoc done (l ∷ []) ls) (so-read ls (done ++ l ∷ [])
    (taken (Ok start) l) read (λ next is. so-moved start.state start.parts done l (next_by start.state.need start.state l) next
    (λ m h. goes-next start.state.need start.state start.parts l m (so start refl).is h) (so start refl) is) e)

-- the whole formula
record IsWhole (parts : List Part) : Type 0 where
  pub tree : Tree
  pub bound : IsBound tree
  pub close : 1 ≤ binding tree
  pub parts_are : parts ≡ parts_of tree

whole-of : (parts : List Part) → Stands 1 parts → IsWhole parts
whole-of parts s = go s.row s.row_fits refl where
  out : (kind_of s.around ≡ false) × (parts_before s.around ≡ [])
  out = outermost s.around (sym s.groups)

  go : (r : Option Tree) → RowFits (kind_of s.around) r → s.row ≡ r → IsWhole parts
  go (Some r) f e = absurd (true≢false (sym f.0 ∙ out.0))
  go None f e =
      let made = plus-bound s.sum s.product s.sum_fits s.close s.bound in
      record {
        tree = plus s.sum s.product;
        bound = made.1;
        close = made.0;
        parts_are = s.parts_are ∙ ap (λ (x : List Part). x ++ complete s.row s.sum s.product) out.1
            ∙ ap (λ (r : Option Tree). complete r s.sum s.product) e ∙ plus-parts s.sum s.product;
      }

-- a text that may end
record MayEnd (s : State) (parts : List Part) (terms : Terms) : Type 0 where
  pub sign : s.need ≡ need.Sign
  pub stands : Stands 1 parts
  pub terms_are : terms ≡ record { factors = []; parts = parts }

may-end : (what : Need) (s : State) (parts : List Part) (terms : Terms)
    → s.need ≡ what → Is what s.groups parts → ended parts (end_by what s) ≡ Ok terms → MayEnd s parts terms
may-end need.Operand s parts terms n is e = absurd (true≢false (sym (ap is_ok e)))
may-end need.Parenthesis s parts terms n is e = absurd (true≢false (sym (ap is_ok e)))
may-end need.Divisor s parts terms n is e = absurd (true≢false (sym (ap is_ok e)))
may-end need.Sign s parts terms n is e = go (s.groups == 1) refl e where
  go : (b : Bool) → (s.groups == 1) ≡ b → ended parts (if b then None else Some (bad.Sign s.operands)) ≡ Ok terms → MayEnd s parts terms
  go true t f =
      let one : s.groups ≡ 1 = grind (arith, nat_tests) in
      let same : record { factors = []; parts = parts } ≡ terms = cc in
      record { sign = n; stands = subst (λ g. Stands g parts) one is; terms_are = sym same }
  go false t f = absurd (true≢false (sym (ap is_ok f)))

-- so what is read as a formula is one
pub tree-of-read : (text : List ℕ) (terms : Terms) → read_formula text ≡ Ok terms → IsFormulaText text terms
tree-of-read text terms e = go (read_on (Ok begun) (lexemes text)) refl e where
  go : (r : Result Reading BadFormula) → read_on (Ok begun) (lexemes text) ≡ r → finished r ≡ Ok terms → IsFormulaText text terms
  go (Err why) is f = absurd (true≢false (sym (ap is_ok f)))
  go (Ok read) is f =
      let so = so-read (lexemes text) [] (Ok begun) read
      (λ start same. (let eq : begun ≡ start = cc in subst (λ (r : Reading). IsSo r.state r.parts []) eq (record {
        is = record {
          around = Outside;
          begun = record { row = None; sum = None; product = None };
          around_fits = tt;
          fits = record { row = tt; sum = tt; product = tt };
          groups = refl;
          parts_are = refl;
        };
        lexemes_are = refl;
        positive = tt;
      }))) is in
      let end = may-end read.state.need read.state read.parts terms refl so.is f in
      let whole = whole-of read.parts end.stands in
      record {
        tree = whole.tree;
        bound = whole.bound;
        whole = whole.close;
        written = so.lexemes_are ∙ ap (λ n. marks read.parts ++ pending n) end.sign
            ∙ append-nil (marks read.parts) ∙ ap marks whole.parts_are;
        parts = end.terms_are ∙ ap (λ (p : List Part). record { factors = []; parts = p }) whole.parts_are;
        limits = subst IsWithinLimits whole.parts_are (read_limits (lexemes text) read is);
        positive = subst ArePositive whole.parts_are so.positive;
      }
