-- The grammar of statements, as it is read: a postfix, and what it may become by what follows.
use Rattle.std.proofs.Common.{◌≡◌, ℕ, Bool, true, false, List, [], ◌∷◌, ◌++◌, inl, inr, refl, sym, ap, subst, ◌∙◌, append_assoc}
use Rattle.std.specs.Prelude.{not, ◌&&◌, ◌||◌, Option, Some, None}
use Rattle.cr_syntax.specs.declared.look.TokenLook.{TokenLook}
use Rattle.cr_syntax.specs.declared.look.TokenLook.TheVariants as l
use Rattle.cr_syntax.specs.declared.token.Token.{Token}
use Rattle.cr_syntax.specs.Look.{look_of}
use Rattle.cr_grammar.specs.declared.operator.Assignment.{Assignment}
use Rattle.cr_grammar.specs.declared.tree.Tree.{Tree}
use Rattle.cr_grammar.specs.declared.tree.Tree.TheVariants as tree
use Rattle.cr_grammar.specs.declared.within.Within.{Within}
use Rattle.cr_grammar.specs.declared.word.Word.{Word}
use Rattle.cr_grammar.specs.Forms.{Form, nothing, ◌>>=◌, ◌>>◌, ◌<|>◌, where_true, passing, maybe, from_first, place_of, word, ident, instance_variable, with_last, last_look, listed}
use Rattle.cr_grammar.specs.Operators as o
use Rattle.cr_grammar.specs.declared.wanted.Wanted.{Wanted}
use Rattle.cr_grammar.specs.declared.wanted.Wanted.TheVariants.{Or, Simple}
use Rattle.cr_grammar.specs.Wanted.{in_object}
use Rattle.cr_grammar.specs.Laws.{first_is}
use Rattle.cr_grammar.specs.Expressions as ex
use Rattle.cr_grammar.specs.Grammar as gr
use Rattle.cr_grammar.proofs.First as first
use Rattle.cr_readers.specs.declared.operand.Operand.{Operand}
use Rattle.cr_readers.specs.declared.operand.Operand.TheVariants.{Name, Field, Element, Variable, Yielding, Above, Passing, Whole}
use Rattle.cr_readers.specs.Operand.{whole}
use Rattle.cr_exact.proofs.Tokens.{by_first}
use Rattle.cr_exact.proofs.Forms.{made_in, made_out, last_behind, one_real}
use Rattle.cr_exact.proofs.Heads.{led_at}
use Rattle.cr_descent.proofs.Operands as operands
use Rattle.cr_descent.proofs.OperationForms.{or_rest, or_splits, or_joins}
use Rattle.cr_exact.proofs.TwoTokens.{Settled, settled_same}

-- the looks of words that begin no postfix, but begin a statement
abbrev pub is_postfix_look : TokenLook → Bool
is_postfix_look l.Return = false
is_postfix_look l.Next = false
is_postfix_look l.Break = false
is_postfix_look l.Bang = false
is_postfix_look l.Minus = false
is_postfix_look other = true

pub settled_front : (a b : List Token) → Settled a → Settled (a ++ b)
settled_front [] b is = absurd is
settled_front (t ∷ []) [] is = is
settled_front (t ∷ []) (u ∷ b) is = tt
settled_front (t ∷ u ∷ a) b is = tt

pub bind_settled : {A B : Type 0} (R : Form A) (K : A → Form B) → ((w : List Token) (x : A) → R w x → Settled w) → (w : List Token) (y : B) → (R >>= K) w y → Settled w
bind_settled R K settled w y c = subst Settled (sym c.3) (settled_front c.0 c.1 (settled c.0 c.2 c.4))

pub listed_settled : {A : Type 0} (R : Form A) → ((w : List Token) (x : A) → R w x → Settled w) → (w : List Token) (xs : List A) → listed R w xs → Settled w
listed_settled R settled w xs c = subst Settled (sym c.3) (settled_front c.0 c.1 (settled c.0 c.2 c.4))

-- the look of an operand's last token, where the operand tells it
abbrev pub seen_of : Operand → TokenLook → TokenLook
seen_of (Name name) seen = l.Ident
seen_of (Field x name) seen = l.Ident
seen_of (Yielding place) seen = l.Yield
seen_of (Above place) seen = l.Super
seen_of other seen = seen

last_of_one : (look : TokenLook) (w : List Token) (t : Token) → w ≡ t ∷ [] → look_of t.kind ≡ look → last_look w ≡ look
last_of_one _ w t e is = ap last_look e ∙ is

module _ (S : Wanted → Form Tree) (within : Within) where
  abbrev pub P : Form Operand
  P = operands.postfix S within true

  -- what an operand tells of the tokens that spell it
  pub record Apart : Type 0 where
    pub tree_of : (w : List Token) (x : Operand) → P w x → ex.postfix S within true w (whole x)
    pub operand_of : (w : List Token) (x : Tree) → ex.postfix S within true w x → (y : Operand) × P w y × (whole y ≡ x)
    pub name_out : (w : List Token) (name : Word) → P w (Name name) → ident w name
    pub name_back : (w : List Token) (name : Word) → ident w name → P w (Name name)
    pub field_out : (w : List Token) (x : Tree) (name : Word) → P w (Field x name) → (a : List Token) × (b : List Token) × (w ≡ a ++ b) × ex.postfix S within true a x × (word l.Dot >> ident) b name
    pub field_back : (a b : List Token) (x : Tree) (name : Word) → ex.postfix S within true a x → (word l.Dot >> ident) b name → P (a ++ b) (Field x name)
    pub element_out : (w : List Token) (at : ℕ) (x : Tree) (xs : List Tree) → P w (Element at x xs)
        → (a : List Token) × (b : List Token) × (w ≡ a ++ b) × ex.postfix S within true a x × ex.indices S within true b (at, xs)
    pub element_back : (a b : List Token) (at : ℕ) (x : Tree) (xs : List Tree) → ex.postfix S within true a x → ex.indices S within true b (at, xs) → P (a ++ b) (Element at x xs)
    pub variable_out : (w : List Token) (name : Word) → P w (Variable name) → where_true (in_object within) instance_variable w name
    pub variable_back : (w : List Token) (name : Word) → where_true (in_object within) instance_variable w name → P w (Variable name)
    pub yielding_out : (w : List Token) (at : ℕ) → P w (Yielding at) → where_true within.method (word l.Yield) w at
    pub yielding_back : (w : List Token) (at : ℕ) → where_true within.method (word l.Yield) w at → P w (Yielding at)
    pub above_out : (w : List Token) (at : ℕ) → P w (Above at) → where_true within.method (word l.Super) w at
    pub above_back : (w : List Token) (at : ℕ) → where_true within.method (word l.Super) w at → P w (Above at)
    -- a postfix begins with none of the words that begin another statement
    pub begins : (w : List Token) (x : Tree) → ex.postfix S within true w x → first_is is_postfix_look w ≡ true

  -- ---- what follows a postfix that begins a statement

  -- ( "=" | .. ) simple
  abbrev pub assigned_rest : ℕ → Tree → (TokenLook → Option Assignment) → Form Tree
  assigned_rest at target table = do
    found ← gr.assigning S within table
    value ← S (Simple within)
    nothing (tree.Assign at target found.1 found.0 value)

  -- args [ doblock ]
  abbrev pub command_rest : (List Tree → Option Tree → Tree) → Form Tree
  command_rest make = do
    arguments ← listed (S (Or within false))
    block ← maybe (ex.doblock S within)
    nothing (make arguments block)

  -- args
  abbrev pub passing_rest : (List Tree → Tree) → Form Tree
  passing_rest make = do
    arguments ← listed (S (Or within false))
    nothing (make arguments)

  -- operators and their operands
  abbrev pub operated : Tree × TokenLook → Form Tree
  operated x = or_rest S within true x >>= λ y. nothing y.0

  abbrev pub or_operated : Form Tree → Tree × TokenLook → Form Tree
  or_operated K x = passing o.begins_argument K <|> operated x

  abbrev pub call_of : Option Tree → Word → List Tree → Option Tree → Tree
  call_of receiver name arguments block = tree.Call name.at receiver name.text arguments block

  abbrev pub behind : ℕ → Operand × TokenLook → Form Tree
  behind at (Name name, seen) = assigned_rest at (whole (Name name)) o.any_assignment <|> or_operated (command_rest (call_of None name)) (whole (Name name), l.Ident)
  behind at (Field x name, seen) = assigned_rest at (whole (Field x name)) o.field_assignment <|> or_operated (command_rest (call_of (Some x) name)) (whole (Field x name), l.Ident)
  behind at (Element place x xs, seen) = assigned_rest at (whole (Element place x xs)) o.field_assignment <|> operated (whole (Element place x xs), seen)
  behind at (Variable name, seen) = assigned_rest at (whole (Variable name)) o.any_assignment <|> operated (whole (Variable name), seen)
  behind at (Yielding place, seen) = or_operated (passing_rest (λ xs. tree.Yield place xs)) (whole (Yielding place), l.Yield)
  behind at (Above place, seen) = or_operated (passing_rest (λ xs. tree.Super place xs)) (whole (Above place), l.Super)
  behind at (Passing name x value, seen) = operated (whole (Passing name x value), seen)
  behind at (Whole x, seen) = operated (x, seen)

  -- a statement that begins with a postfix
  abbrev pub from_postfix : Form Tree
  from_postfix = from_first (λ at. with_last P >>= behind at)

  abbrev pub simple_by : TokenLook → Form Tree
  simple_by l.Return = where_true (within.method && not within.block) (gr.leaving S within l.Return (λ at value. tree.Return at value))
  simple_by l.Next = where_true (within.in_loop || within.block) (gr.leaving S within l.Next (λ at value. tree.Next at value))
  simple_by l.Break = where_true within.in_loop (do at ← word l.Break; nothing (tree.Break at))
  simple_by l.Bang = ex.or S within true
  simple_by l.Minus = ex.or S within true
  simple_by other = from_postfix

  -- ---- from the grammar to what is read

  pub operated_behind : (at : ℕ) (x : Operand) (seen : TokenLook) (w : List Token) (y : Tree) → operated (whole x, seen_of x seen) w y → behind at (x, seen) w y
  operated_behind at (Name name) seen w y c = inr (inr c)
  operated_behind at (Field x name) seen w y c = inr (inr c)
  operated_behind at (Element place x xs) seen w y c = inr c
  operated_behind at (Variable name) seen w y c = inr c
  operated_behind at (Yielding place) seen w y c = inr c
  operated_behind at (Above place) seen w y c = inr c
  operated_behind at (Passing name x value) seen w y c = c
  operated_behind at (Whole x) seen w y c = c

  -- an operand, and what follows it
  starts : (a b w : List Token) (x : Operand) (y : Tree) → w ≡ a ++ b → P a x → behind (place_of w) (x, last_look a) b y → from_postfix w y
  starts a b w x y e p c = (a, b, (x, last_look a), e, (p, refl), c)

  by_other : (seen : TokenLook) (w : List Token) (y : Tree) → is_postfix_look seen ≡ true → from_postfix w y → simple_by seen w y
  by_other l.Return w y is c = absurd cc
  by_other l.Next w y is c = absurd cc
  by_other l.Break w y is c = absurd cc
  by_other l.Bang w y is c = absurd cc
  by_other l.Minus w y is c = absurd cc
  by_other _ w y is c = c

  led_by : (w : List Token) (y : Tree) → first_is is_postfix_look w ≡ true → from_postfix w y → by_first simple_by w y
  led_by [] y is c = absurd cc
  led_by (t ∷ w) y is c = (look_of t.kind, (t, w, refl, refl), by_other (look_of t.kind) (t ∷ w) y is c)

  module _ (apart : Apart) (settled : (w : List Token) (x : Tree) → S (Or within false) w x → Settled w) where
    seen_is : (w : List Token) (x : Operand) → P w x → seen_of x (last_look w) ≡ last_look w
    seen_is w (Name name) p = let n = apart.name_out w name p in sym (last_of_one l.Ident w n.0 n.1 (ap look_of n.2.0))
    seen_is w (Field x name) p =
        let f = apart.field_out w x name p in
        let d = f.4 in
        let n = d.5 in
        sym (ap last_look (f.2 ∙ ap (λ (t : List Token). f.0 ++ t) d.3 ∙ sym (append_assoc f.0 d.0 d.1)) ∙ last_behind (f.0 ++ d.0) d.1 (one_real d.1 n.0 n.1) ∙ ap last_look n.1 ∙ ap look_of n.2.0)
    seen_is w (Element place x xs) p = refl
    seen_is w (Variable name) p = refl
    seen_is w (Yielding place) p = let n = apart.yielding_out w place p in sym (last_of_one l.Yield w n.1.0 n.1.1 n.1.2.0)
    seen_is w (Above place) p = let n = apart.above_out w place p in sym (last_of_one l.Super w n.1.0 n.1.1 n.1.2.0)
    seen_is w (Passing name x value) p = refl
    seen_is w (Whole x) p = refl

    -- a statement that begins with this operand
    begun : (a b w : List Token) (x : Operand) (y : Tree) → w ≡ a ++ b → P a x → behind (place_of w) (x, last_look a) b y → by_first simple_by w y
    begun a b w x y e p c =
        led_by w y (first.behind is_postfix_look w a b e (apart.begins a (whole x) (apart.tree_of a x p))) (starts a b w x y e p c)

    local_assigned : (w a b : List Token) (x y : Tree) → w ≡ a ++ b → gr.local S within a x → assigned_rest (place_of w) x o.any_assignment b y → by_first simple_by w y
    local_assigned w a b x y e c r =
        let n = made_out ident (λ (name : Word). tree.Call name.at None name.text [] None) a x c in
        begun a b w (Name n.0) y e (apart.name_back a n.0 n.1) (inl (subst (λ v. assigned_rest (place_of w) v o.any_assignment b y) n.2 r))

    variable_assigned : (w a b : List Token) (x y : Tree) → w ≡ a ++ b → ex.variable S within true a x → assigned_rest (place_of w) x o.any_assignment b y → by_first simple_by w y
    variable_assigned w a b x y e c r =
        let n = made_out instance_variable (λ (name : Word). tree.InstanceVariable name.at name.text) a x c.1 in
        begun a b w (Variable n.0) y e (apart.variable_back a n.0 (c.0, n.1)) (inl (subst (λ v. assigned_rest (place_of w) v o.any_assignment b y) n.2 r))

    place_assigned : (w a b : List Token) (x y : Tree) → w ≡ a ++ b → gr.place S within a x → assigned_rest (place_of w) x o.field_assignment b y → by_first simple_by w y
    place_assigned w a b x y e (inl c) r =
        let d = c.5 in
        let n = made_out ident (λ (name : Word). tree.Call name.at (Some c.2) name.text [] None) d.1 x d.5 in
        let p = apart.field_back c.0 c.1 c.2 n.0 c.4 (d.0, d.1, d.2, d.3, d.4, n.1) in
        begun a b w (Field c.2 n.0) y e (subst (λ (t : List Token). P t (Field c.2 n.0)) (sym c.3) p) (inl (subst (λ v. assigned_rest (place_of w) v o.field_assignment b y) n.2 r))
    place_assigned w a b x y e (inr c) r =
        let n = made_out (ex.indices S within true) (λ (found : ℕ × List Tree). tree.Index found.0 c.2 found.1 false) c.1 x c.5 in
        let p = apart.element_back c.0 c.1 n.0.0 c.2 n.0.1 c.4 n.1 in
        begun a b w (Element n.0.0 c.2 n.0.1) y e (subst (λ (t : List Token). P t (Element n.0.0 c.2 n.0.1)) (sym c.3) p) (inl (subst (λ v. assigned_rest (place_of w) v o.field_assignment b y) n.2 r))

    assignment_in : (w : List Token) (y : Tree) → gr.assignment S within w y → by_first simple_by w y
    assignment_in w y (inl c) = elim c.4 [ inl d ↦ local_assigned w c.0 c.1 c.2 y c.3 d c.5 | inr d ↦ variable_assigned w c.0 c.1 c.2 y c.3 d c.5 ]
    assignment_in w y (inr c) = place_assigned w c.0 c.1 c.2 y c.3 c.4 c.5

    list_settled : (w : List Token) (xs : List Tree) → listed (S (Or within false)) w xs → Settled w
    list_settled = listed_settled (S (Or within false)) settled

    -- arguments that begin so, and what follows them
    argued : {A : Type 0} (K : List Tree → Form A) (w : List Token) (y : A) → (gr.bare_arguments S within >>= K) w y → passing o.begins_argument (listed (S (Or within false)) >>= K) w y
    argued K w y c =
        (ap o.begins_argument c.3 ∙ settled_same c.0 c.1 (list_settled c.0 c.2 c.4.1) ∙ c.4.0, (c.0, c.1, c.2, c.3, c.4.1, c.5))

    unargued : {A : Type 0} (K : List Tree → Form A) (w : List Token) (y : A) → passing o.begins_argument (listed (S (Or within false)) >>= K) w y → (gr.bare_arguments S within >>= K) w y
    unargued K w y (is, c) =
        (c.0, c.1, c.2, c.3, (sym (ap o.begins_argument c.3 ∙ settled_same c.0 c.1 (list_settled c.0 c.2 c.4)) ∙ is, c.4), c.5)

    abbrev block_behind : (List Tree → Option Tree → Tree) → List Tree → Form Tree
    block_behind make xs = maybe (ex.doblock S within) >>= λ block. nothing (make xs block)

    name_command : (w : List Token) (y : Tree)
        → (ident >>= λ name. gr.bare_arguments S within >>= λ xs. maybe (ex.doblock S within) >>= λ block. nothing (call_of None name xs block)) w y → by_first simple_by w y
    name_command w y c =
        begun c.0 c.1 w (Name c.2) y c.3 (apart.name_back c.0 c.2 c.4) (inr (inl (argued (block_behind (call_of None c.2)) c.1 y c.5)))

    link_command : (w : List Token) (y : Tree)
        → (ex.postfix S within true >>= λ x. word l.Dot >> (ident >>= λ name. gr.bare_arguments S within >>= λ xs. maybe (ex.doblock S within) >>= λ block. nothing (call_of (Some x) name xs block))) w y
        → by_first simple_by w y
    link_command w y c =
        let d = c.5 in
        let n = d.5 in
        let whole_link : c.0 ++ (d.0 ++ (n.0 ++ n.1)) ≡ (c.0 ++ (d.0 ++ n.0)) ++ n.1 =
        ap (λ (t : List Token). c.0 ++ t) (sym (append_assoc d.0 n.0 n.1)) ∙ sym (append_assoc c.0 (d.0 ++ n.0) n.1) in
        let split : w ≡ (c.0 ++ (d.0 ++ n.0)) ++ n.1 = c.3 ∙ ap (λ (t : List Token). c.0 ++ t) (d.3 ∙ ap (λ (t : List Token). d.0 ++ t) n.3) ∙ whole_link in
        begun (c.0 ++ (d.0 ++ n.0)) n.1 w (Field c.2 n.2) y split
        (apart.field_back c.0 (d.0 ++ n.0) c.2 n.2 c.4 (d.0, n.0, d.2, refl, d.4, n.4))
        (inr (inl (argued (block_behind (call_of (Some c.2) n.2)) n.1 y n.5)))

    command_in : (w : List Token) (y : Tree) → gr.command S within w y → by_first simple_by w y
    command_in w y (inl c) = name_command w y c
    command_in w y (inr (inl c)) = link_command w y c
    command_in w y (inr (inr (inl (is, c)))) =
        begun c.0 c.1 w (Yielding c.2) y c.3 (apart.yielding_back c.0 c.2 (is, c.4)) (inl (argued (λ xs. nothing (tree.Yield c.2 xs)) c.1 y c.5))
    command_in w y (inr (inr (inr (is, c)))) =
        begun c.0 c.1 w (Above c.2) y c.3 (apart.above_back c.0 c.2 (is, c.4)) (inl (argued (λ xs. nothing (tree.Super c.2 xs)) c.1 y c.5))

    jump_in : (w : List Token) (y : Tree) → gr.jump S within w y → by_first simple_by w y
    jump_in w y (inl c) = (l.Return, led_at l.Return w c.1.0 c.1.1 c.1.2 c.1.3 c.1.4, c)
    jump_in w y (inr (inl c)) = (l.Next, led_at l.Next w c.1.0 c.1.1 c.1.2 c.1.3 c.1.4, c)
    jump_in w y (inr (inr c)) = (l.Break, led_at l.Break w c.1.0 c.1.1 c.1.2 c.1.3 c.1.4, c)

    -- the first operand of an `or`, by which all goes
    or_by : (w a b : List Token) (x : Tree) (z : Tree × TokenLook) → w ≡ a ++ b → ex.unary S within true a x → or_rest S within true (x, last_look a) b z
        → ex.or S within true w z.0 → by_first simple_by w z.0
    or_by w a b x z e (inl c) r whole_or =
        (l.Bang, led_at l.Bang w c.0 (c.1 ++ b) c.2 (e ∙ ap (λ (t : List Token). t ++ b) c.3 ∙ append_assoc c.0 c.1 b) c.4, whole_or)
    or_by w a b x z e (inr (inl c)) r whole_or =
        (l.Minus, led_at l.Minus w c.0 (c.1 ++ b) c.2 (e ∙ ap (λ (t : List Token). t ++ b) c.3 ∙ append_assoc c.0 c.1 b) c.4, whole_or)
    or_by w a b x z e (inr (inr c)) r whole_or =
        let p = apart.operand_of a x c in
        begun a b w p.0 z.0 e p.1 (operated_behind (place_of w) p.0 (last_look a) b z.0
        (subst (λ v. operated (whole p.0, v) b z.0) (sym (seen_is a p.0 p.1))
        (made_in (or_rest S within true (whole p.0, last_look a)) (λ (v : Tree × TokenLook). v.0) b z
        (subst (λ v. or_rest S within true (v, last_look a) b z) (sym p.2) r))))

    or_in : (w : List Token) (y : Tree) → ex.or S within true w y → by_first simple_by w y
    or_in w y c =
        let d = or_splits S within true w y c in
        or_by w d.0 d.1 d.2.0 (y, last_look w) d.3 d.4.0 (subst (λ v. or_rest S within true (d.2.0, v) d.1 (y, last_look w)) d.4.1 d.5) c

    -- What the grammar spells is spelled by the form of its first token.
    pub simple_in : (w : List Token) (y : Tree) → gr.simple S within w y → by_first simple_by w y
    simple_in w y (inl c) = assignment_in w y c
    simple_in w y (inr (inl c)) = command_in w y c
    simple_in w y (inr (inr (inl c))) = jump_in w y c
    simple_in w y (inr (inr (inr c))) = or_in w y c

    -- ---- and back

    module _ (w a b : List Token) (y : Tree) (e : w ≡ a ++ b) where
      -- operators behind a postfix
      operated_out : (x : Operand) → P a x → operated (whole x, seen_of x (last_look a)) b y → gr.simple S within w y
      operated_out x p d =
          let c = subst (λ v. operated (whole x, v) b y) (seen_is a x p) d in
          let n = made_out (or_rest S within true (whole x, last_look a)) (λ (v : Tree × TokenLook). v.0) b y c in
          let j = or_joins S within true w n.0 (a, b, (whole x, last_look a), e, (inr (inr (apart.tree_of a x p)), refl), n.1) in
          inr (inr (inr (subst (λ v. ex.or S within true w v) (sym n.2) j.0)))

      name_assigned_out : (name : Word) → P a (Name name) → assigned_rest (place_of w) (whole (Name name)) o.any_assignment b y → gr.simple S within w y
      name_assigned_out name p c =
          inl (inl (a, b, whole (Name name), e, inl (made_in ident (λ (n : Word). tree.Call n.at None n.text [] None) a name (apart.name_out a name p)), c))

      variable_assigned_out : (name : Word) → P a (Variable name) → assigned_rest (place_of w) (whole (Variable name)) o.any_assignment b y → gr.simple S within w y
      variable_assigned_out name p c =
          let v = apart.variable_out a name p in
          inl (inl (a, b, whole (Variable name), e, inr (v.0, made_in instance_variable (λ (n : Word). tree.InstanceVariable n.at n.text) a name v.1), c))

      field_assigned_out : (x : Tree) (name : Word) → P a (Field x name) → assigned_rest (place_of w) (whole (Field x name)) o.field_assignment b y → gr.simple S within w y
      field_assigned_out x name p c =
          let f = apart.field_out a x name p in
          let d = f.4 in
          inl (inr (
            a,
            b,
            whole (Field x name),
            e,
            inl (f.0, f.1, x, f.2, f.3, (d.0, d.1, d.2, d.3, d.4, made_in ident (λ (n : Word). tree.Call n.at (Some x) n.text [] None) d.1 name d.5)),
            c,
          ))

      element_assigned_out : (at : ℕ) (x : Tree) (xs : List Tree) → P a (Element at x xs) → assigned_rest (place_of w) (whole (Element at x xs)) o.field_assignment b y → gr.simple S within w y
      element_assigned_out at x xs p c =
          let f = apart.element_out a at x xs p in
          inl (inr (
            a,
            b,
            whole (Element at x xs),
            e,
            inr (f.0, f.1, x, f.2, f.3, made_in (ex.indices S within true) (λ (found : ℕ × List Tree). tree.Index found.0 x found.1 false) f.1 (at, xs) f.4),
            c,
          ))

      name_command_out : (name : Word) → P a (Name name) → passing o.begins_argument (command_rest (call_of None name)) b y → gr.simple S within w y
      name_command_out name p c =
          inr (inl (inl (a, b, name, e, apart.name_out a name p, unargued (block_behind (call_of None name)) b y c)))

      field_command_out : (x : Tree) (name : Word) → P a (Field x name) → passing o.begins_argument (command_rest (call_of (Some x) name)) b y → gr.simple S within w y
      field_command_out x name p c =
          let f = apart.field_out a x name p in
          let d = f.4 in
          let split : w ≡ f.0 ++ (d.0 ++ (d.1 ++ b)) =
          e ∙ ap (λ (t : List Token). t ++ b) (f.2 ∙ ap (λ (t : List Token). f.0 ++ t) d.3) ∙ append_assoc f.0 (d.0 ++ d.1) b ∙ ap (λ (t : List Token). f.0 ++ t) (append_assoc d.0 d.1 b) in
          inr (inl (inr (inl (
            f.0,
            d.0 ++ (d.1 ++ b),
            x,
            split,
            f.3,
            (d.0, d.1 ++ b, d.2, refl, d.4, (d.1, b, name, refl, d.5, unargued (block_behind (call_of (Some x) name)) b y c)),
          ))))

      yielding_out : (at : ℕ) → P a (Yielding at) → passing o.begins_argument (passing_rest (λ xs. tree.Yield at xs)) b y → gr.simple S within w y
      yielding_out at p c =
          let v = apart.yielding_out a at p in
          inr (inl (inr (inr (inl (v.0, (a, b, at, e, v.1, unargued (λ xs. nothing (tree.Yield at xs)) b y c))))))

      above_out : (at : ℕ) → P a (Above at) → passing o.begins_argument (passing_rest (λ xs. tree.Super at xs)) b y → gr.simple S within w y
      above_out at p c =
          let v = apart.above_out a at p in
          inr (inl (inr (inr (inr (v.0, (a, b, at, e, v.1, unargued (λ xs. nothing (tree.Super at xs)) b y c))))))

      behind_out : (x : Operand) → P a x → behind (place_of w) (x, last_look a) b y → gr.simple S within w y
      behind_out (Name name) p (inl c) = name_assigned_out name p c
      behind_out (Name name) p (inr (inl c)) = name_command_out name p c
      behind_out (Name name) p (inr (inr c)) = operated_out (Name name) p c
      behind_out (Field x name) p (inl c) = field_assigned_out x name p c
      behind_out (Field x name) p (inr (inl c)) = field_command_out x name p c
      behind_out (Field x name) p (inr (inr c)) = operated_out (Field x name) p c
      behind_out (Element at x xs) p (inl c) = element_assigned_out at x xs p c
      behind_out (Element at x xs) p (inr c) = operated_out (Element at x xs) p c
      behind_out (Variable name) p (inl c) = variable_assigned_out name p c
      behind_out (Variable name) p (inr c) = operated_out (Variable name) p c
      behind_out (Yielding at) p (inl c) = yielding_out at p c
      behind_out (Yielding at) p (inr c) = operated_out (Yielding at) p c
      behind_out (Above at) p (inl c) = above_out at p c
      behind_out (Above at) p (inr c) = operated_out (Above at) p c
      behind_out (Passing name x value) p c = operated_out (Passing name x value) p c
      behind_out (Whole x) p c = operated_out (Whole x) p c

    pub from_postfix_out : (w : List Token) (y : Tree) → from_postfix w y → gr.simple S within w y
    from_postfix_out w y c =
        behind_out w c.0 c.1 y c.3 c.2.0 c.4.0 (subst (λ v. behind (place_of w) (c.2.0, v) c.1 y) c.4.1 c.5)

    -- What the form of a token spells the grammar does.
    pub simple_out : (look : TokenLook) (w : List Token) (y : Tree) → simple_by look w y → gr.simple S within w y
    simple_out l.Return w y c = inr (inr (inl (inl c)))
    simple_out l.Next w y c = inr (inr (inl (inr (inl c))))
    simple_out l.Break w y c = inr (inr (inl (inr (inr c))))
    simple_out l.Bang w y c = inr (inr (inr c))
    simple_out l.Minus w y c = inr (inr (inr c))
    simple_out _ w y c = from_postfix_out w y c
